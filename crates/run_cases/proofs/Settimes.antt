-- What a settime that fits has: a turn of its object, which it began first of all and ended by its entry of it; and in that turn an idle timer, where it
-- cancelled nothing.
use Rattle.std.proofs.Common.{◌≡◌, ◌<◌, ◌≤◌, ℕ, ◌+◌, zero, suc, true, false, None, Option, Some, List, [], ◌∷◌, ◌++◌, filter, if◌then◌else◌, length, take, arith, refl, sym, ap, ◌∙◌, subst}
use Rattle.std.specs.List.{slice_get}
use Rattle.std.proofs.lemmas.Bool.{eq-eqb, true≢false}
use Rattle.std.proofs.lemmas.List.{length-append, take-map}
use Rattle.std.proofs.lemmas.Option.{same_Some}
use Rattle.ktime.specs.declared.mode.Mode.{Mode}
use Rattle.ktime.specs.declared.timespec.TimeSpec.{TimeSpec}
use Rattle.seq_timer.specs.Histories.{IsIdle}
use Rattle.seq_timer.specs.declared.event.EventBy.TheVariants as events
use Rattle.seq_timer.specs.declared.event.Reply.TheVariants as replies
use Rattle.record_text.specs.declared.record.Answer.TheVariants as answers
use Rattle.record_text.specs.declared.record.Armed.{Armed}
use Rattle.record_text.specs.declared.record.Armed.TheVariants as armings
use Rattle.record_text.specs.declared.record.Entry.{Entry}
use Rattle.record_text.specs.declared.record.Label.{Label}
use Rattle.record_text.specs.declared.record.ObjectEntry.TheVariants as object_entries
use Rattle.record_text.specs.declared.record.ObjectEntry.{ObjectEntry}
use Rattle.record_text.specs.declared.record.SettimeReply.TheVariants as settings
use Rattle.script_text.specs.Declarations.{without_slack}
use Rattle.script_text.specs.declared.script.Call.TheVariants as calls
use Rattle.run_history.specs.Actions.{Action, also, Began, entered, Made, made, own}
use Rattle.run_history.specs.Fits.{FitsCall, FitsIn, Seen}
use Rattle.run_history.specs.Histories.{timer_labels}
use Rattle.run_history.specs.ObjectCalls.{Arms, cancels, nanoseconds_of}
use Rattle.run_history.specs.Objects.{lines_of_object}
use Rattle.run_history.specs.Order.{is_label, made_by}
use Rattle.run_history.specs.Starts.{SentTo, arming_actions, Sight}
use Rattle.run_history.specs.Traces.{all_entered, own_moves}
use Rattle.run_history.specs.Truths.{DisarmedFirst, WasIdle}
use Rattle.run_history.specs.Witnesses.{IsOneHistory, Move, OfRise, Shown, TimersList, Witness, timer_along, turns_along}
use Rattle.run_history.proofs.Actions.{all_entered-append, made-append}
use Rattle.run_history.proofs.Labels.{label_itself}
use Rattle.fit_laws.proofs.EachTimer.{heads}
use Rattle.fit_laws.proofs.Moments.{HasAll, IsLineOf, all_by_last, first_by, rises_counted, some_made}
use Rattle.fit_laws.proofs.OwnParts.{count_moves}
use Rattle.fit_laws.proofs.OwnPoints.{point_then, seen, stamp_then}

pub last_is : {X : Type 0} (x y : X) (xs : List X) → x ∷ [] ≡ xs ++ y ∷ [] → x ≡ y
last_is x y [] is = cc
last_is x y (z ∷ []) is = absurd (cc)
last_is x y (z ∷ v ∷ xs) is = absurd (cc)

-- ---- a turn of an object

-- a call's turn of an object that had so many entries: its first move began it, and its last one is that of the entry that it made
pub record TakesTurn (w : Witness) (c : Label) (i stamp : ℕ) : Type 0 where
  pub inside : List (ℕ × Shown)
  pub own : own_moves c w.moves ≡ (stamp + stamp + 1, OfRise (suc i)) ∷ inside ++ (stamp + 1 + (stamp + 1), OfRise (suc i)) ∷ []

module _ {w : Witness} {c : Label} {i stamp : ℕ} (turn : TakesTurn w c i stamp) (history : IsOneHistory w) where
  -- law: at a moment at which the call has made an entry, or only begun, it has begun its turn
  pub turn_begun : (n : ℕ) → 0 < length (own_moves c (take n w.moves)) → stamp + stamp + 1 ≤ turns_along w n i
  turn_begun n some = omega (arith, first_by w history c _ (stamp + stamp + 1) n (OfRise (suc i)) turn.own some, rises_counted w (suc i) n)

  -- law: so at a moment at which a timer has an entry of it
  pub turn_begun_by : length w.run.timers ≡ length w.script.timers → (t k n : ℕ) → IsLineOf w (TimersList t) k c → k < (timer_along w n t).stamp
      → stamp + stamp + 1 ≤ turns_along w n i
  turn_begun_by timers t k n line reached =
      turn_begun n (some_made w history (TimersList t) c k n line (omega (arith, reached, stamp_then w history timers n t)))

  -- law: at a moment at which the object has the call's entry the call has made all that it made
  pub all_by_turn : (n : ℕ) → stamp + 1 + (stamp + 1) ≤ turns_along w n i → HasAll w c n
  all_by_turn n reached = all_by_last w history c ((stamp + stamp + 1, OfRise (suc i)) ∷ turn.inside) (stamp + 1 + (stamp + 1)) n (OfRise (suc i)) turn.own
      (omega (arith, reached, rises_counted w (suc i) n))

  -- law: the call made two moves at the least
  pub turn_moves : 2 ≤ length (own_moves c w.moves)
  turn_moves = omega (arith, ap length turn.own, length-append turn.inside ((stamp + 1 + (stamp + 1), OfRise (suc i)) ∷ []))

-- ---- what a settime found

-- by a settime's start, for these times on this base
module _ (sight : Sight) (limit ns reading base : ℕ) (mode : Mode) (w : Witness) (c : Label) (t first last stamp number : ℕ)
    (entry : ObjectEntry) where
  abbrev begun : Action
  begun = Began t stamp

  -- what began with a start, or with none, had found the timer idle
  idle_before : (arm : Armed) (start : List Action) → Arms sight limit t mode ns reading base arm start
      → DisarmedFirst w c first last t (begun ∷ (start ++ Made t number entry ∷ [])) → WasIdle w c first last t (begun ∷ [])
  idle_before armings.None start arms is = subst (λ ds. DisarmedFirst w c first last t (begun ∷ (ds ++ Made t number entry ∷ []))) arms is
  idle_before armings.Unarmed start arms is = subst (λ ds. DisarmedFirst w c first last t (begun ∷ (ds ++ Made t number entry ∷ []))) arms is
  idle_before (armings.Generation generation) start arms is =
      by_outs arms.0.outs (subst (λ ds. DisarmedFirst w c first last t (begun ∷ (ds ++ Made t number entry ∷ []))) arms.1 is)
    where
      by_outs : (outs : List SentTo) → DisarmedFirst w c first last t (begun ∷ (arming_actions t (without_slack mode ns base) reading
          (record arms.0 { outs = outs }) ++ Made t number entry ∷ [])) → WasIdle w c first last t (begun ∷ [])
      by_outs [] is = is
      by_outs (out ∷ outs) is = is

  -- and so had a settime of whose entries of the timer the first is no cancel
  idle_uncancelled : (arm : Armed) (start : List Action) (cancel : Option (ℕ × ℕ)) (one : ℕ × Entry) (more : List (ℕ × Entry))
      → (one.1.event ≡ events.Cancel → ⊥) → Arms sight limit t mode ns reading base arm start
      → one ∷ more ≡ entered t (begun ∷ (cancels t cancel ++ start ++ Made t number entry ∷ []))
      → DisarmedFirst w c first last t (begun ∷ (cancels t cancel ++ start ++ Made t number entry ∷ [])) → WasIdle w c first last t (begun ∷ [])
  idle_uncancelled arm start None one more other arms entries is = idle_before arm start arms is
  idle_uncancelled arm start (Some k) one more other arms entries is =
      let e : ℕ × Entry = (k.0, record { event = events.Cancel; reply = replies.Cancel k.1 }) in
      let rest = entered t (start ++ Made t number entry ∷ []) in
      absurd (other (ap (λ (x : ℕ × Entry). x.1.event) (heads one e more rest (entries ∙ ap (λ b. also b e rest) (eq-eqb t t refl)))))

  -- and one that made no entry of the timer
  idle_unentered : (arm : Armed) (start : List Action) (cancel : Option (ℕ × ℕ)) → Arms sight limit t mode ns reading base arm start
      → [] ≡ entered t (begun ∷ (cancels t cancel ++ start ++ Made t number entry ∷ []))
      → DisarmedFirst w c first last t (begun ∷ (cancels t cancel ++ start ++ Made t number entry ∷ [])) → WasIdle w c first last t (begun ∷ [])
  idle_unentered arm start None arms entries is = idle_before arm start arms is
  idle_unentered arm start (Some k) arms entries is =
      let e : ℕ × Entry = (k.0, record { event = events.Cancel; reply = replies.Cancel k.1 }) in
      let rest = entered t (start ++ Made t number entry ∷ []) in
      let one : [] ≡ e ∷ rest = entries ∙ ap (λ b. also b e rest) (eq-eqb t t refl) in
      absurd (cc)

-- the first so many labels don't reach to one that isn't among them
not_among : (c : Label) (n k : ℕ) (ls : List Label) → slice_get ls k ≡ Some c → made_by c (take n ls) ≡ 0 → n ≤ length ls → n ≤ k
not_among c zero k ls line none small = omega arith
not_among c (suc n) k [] line none small = absurd (cc)
not_among c (suc n) k (l ∷ ls) line none small =
    elim (is_label c l) as (λ b. is_label c l ≡ b → length (if b then l ∷ filter (is_label c) (take n ls) else filter (is_label c) (take n ls)) ≡ 0
    → suc n ≤ k) [
      | true ↦ λ is none. absurd (cc)
      | false ↦ λ other none. here k line other (λ k line. not_among c n k ls line none (omega (arith, small)))
    ] refl none
  where
    here : (k : ℕ) → slice_get (l ∷ ls) k ≡ Some c → is_label c l ≡ false → ((k : ℕ) → slice_get ls k ≡ Some c → n ≤ k) → suc n ≤ k
    here zero line other further = absurd (true≢false (sym (label_itself c) ∙ ap (is_label c) (sym (same_Some l c line)) ∙ other))
    here (suc k) line other further = let rest = further k line in omega (arith, rest)

-- a call found its timer idle at a moment at which it had made one move, and no entry of the timer, whose list has a line of it of this number
pub record FoundIdle (w : Witness) (c : Label) (t k : ℕ) : Type 0 where
  pub moment : ℕ
  pub from : (w.traces c).first ≤ moment
  pub idle : IsIdle (timer_along w moment t)
  pub begun : length (own_moves c (take moment w.moves)) ≡ 1
  pub few : seen w moment t ≤ k

-- law: a settime whose start was refused, and which made no entry of its timer, had found that idle in its turn, at a moment before the refusal
pub refused_idle : {w : Witness} {c : Label} {flags : ℕ} {value interval : TimeSpec} {before after : Seen} (t stamp : ℕ)
    (fits : FitsCall w c (calls.Settime t flags value interval) (answers.Unarmed stamp) before after) → [] ≡ entered t (w.traces c).actions
    → WasIdle w c (w.traces c).first fits.holds.moment t (Began t fits.does.0.stamp ∷ [])
refused_idle {w = w} {c = c} {flags = flags} {value = value} {interval = interval} t stamp fits entries =
    let m = fits.does.0 in
    let tr = w.traces c in
    let e = object_entries.Settime flags (nanoseconds_of value) (nanoseconds_of interval) tr.at m.arm (settings.Unarmed stamp) in
    idle_unentered _ _ _ _ _ _ w c t tr.first fits.holds.moment m.stamp (m.stamp + 1) e m.arm m.start m.cancel m.arms
    (entries ∙ ap (entered t) m.done) (subst (λ ds. DisarmedFirst w c tr.first fits.holds.moment t ds) m.done fits.holds.disarmed)

module _ {w : Witness} {c : Label} {flags left old : ℕ} {value interval : TimeSpec} {before after : Seen} where
  -- law: a settime that cancelled nothing found its timer idle in its turn, before its own entries of it
  pub settime_idle : (f : FitsIn w) (t k : ℕ) (one : ℕ × Entry) (more : List (ℕ × Entry))
      → FitsCall w c (calls.Settime t flags value interval) (answers.Old left old) before after → (one.1.event ≡ events.Cancel → ⊥)
      → one ∷ more ≡ entered t (w.traces c).actions → slice_get (timer_labels w.run t) k ≡ Some c → FoundIdle w c t k
  settime_idle f t k one more fits other entries line =
      let m = fits.does.0 in
      let tr = w.traces c in
      let e = object_entries.Settime flags (nanoseconds_of value) (nanoseconds_of interval) tr.at m.arm (settings.Old left old) in
      let was = idle_uncancelled _ _ _ _ _ _ w c t tr.first tr.last m.stamp (m.stamp + 1) e m.arm m.start m.cancel one more other m.arms
      (entries ∙ ap (entered t) m.done) (subst (λ ds. DisarmedFirst w c tr.first tr.last t ds) m.done fits.holds) in
      let point = point_then w f.history f.timers c (Began t m.stamp ∷ []) (cancels t m.cancel ++ m.start ++ Made t (m.stamp + 1) e ∷ []) was.0 t
      (fits.traced.moves ∙ ap all_entered m.done) was.3 in
      record {
        moment = was.0;
        from = was.1;
        idle = was.4;
        begun = sym (ap (made_by c) (take-map (λ (x : Move). x.label) was.0 w.moves) ∙ count_moves c (take was.0 w.moves)) ∙ was.3.so_many;
        few = not_among c (seen w was.0 t) k (timer_labels w.run t) line point.so_many point.within.small;
      }

  -- law: a settime took a turn of its object, by whose only entry of it the object had so many entries before
  pub settime_turn : (t stamp : ℕ) (entry : ObjectEntry) → FitsCall w c (calls.Settime t flags value interval) (answers.Old left old) before after
      → own (λ line. line.label) (λ line. line.entry) c 1 (lines_of_object w.run t) ≡ (stamp + 1, entry) ∷ [] → TakesTurn w c t stamp
  settime_turn t stamp entry fits one =
      let tr = w.traces c in
      let m = fits.does.0 in
      let mid = cancels t m.cancel ++ m.start in
      let e = object_entries.Settime flags (nanoseconds_of value) (nanoseconds_of interval) tr.at m.arm (settings.Old left old) in
      let its : (stamp + 1, entry) ∷ [] ≡ made t mid ++ (m.stamp + 1, e) ∷ [] =
      sym one ∙ fits.traced.objects t ∙ ap (made t) m.done ∙ made-append t mid (Made t (m.stamp + 1) e ∷ [])
      ∙ ap (λ b. made t mid ++ also b (m.stamp + 1, e) []) (eq-eqb t t refl) in
      let number : stamp + 1 ≡ m.stamp + 1 = ap (λ (x : ℕ × ObjectEntry). x.0) (last_is (stamp + 1, entry) (m.stamp + 1, e) (made t mid) its) in
      let same : m.stamp ≡ stamp = omega (arith, number) in
      record {
        inside = all_entered mid;
        own = fits.traced.moves ∙ ap all_entered m.done
            ∙ ap (λ xs. (m.stamp + m.stamp + 1, OfRise (suc t)) ∷ xs) (all_entered-append mid (Made t (m.stamp + 1) e ∷ []))
            ∙ ap (λ k. (k + k + 1, OfRise (suc t)) ∷ all_entered mid ++ (k + 1 + (k + 1), OfRise (suc t)) ∷ []) same;
      }
