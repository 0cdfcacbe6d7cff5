-- What follows from a record that fits for each timer by itself: each call knows of timers what their own lists say.
use Rattle.std.proofs.Common.{◌≡◌, ◌<◌, ◌≤◌, ◌||◌, ◌&&◌, ℕ, ◌+◌, zero, suc, true, false, nat_eq, nat_lt, if◌then◌else◌, List, [], ◌∷◌, ◌++◌, None, Some, length, take, arith, refl, sym, ap, ◌∙◌, subst}
use Rattle.std.specs.List.{slice_get}
use Rattle.std.proofs.Math.Logic.{⊎_elim}
use Rattle.std.proofs.lemmas.Bool.{cases_Bool, cases_lt, eqb-true}
use Rattle.std.proofs.lemmas.Bool.Decides.{nat_tests}
use Rattle.std.proofs.lemmas.List.{append_assoc, append-nil, take-map}
use Rattle.std.proofs.lemmas.Option.{same_Some, slice_get_within}
use Rattle.seq_timer.specs.declared.context.Terms.{Terms}
use Rattle.seq_timer.specs.declared.observation.Observation.{Observation}
use Rattle.seq_timer.specs.declared.observation.Observation.TheVariants as observations
use Rattle.seq_timer.specs.declared.context.Context.{Context}
use Rattle.seq_timer.specs.declared.context.Context.TheVariants as contexts
use Rattle.seq_timer.specs.declared.context.Declared.{Declared}
use Rattle.seq_timer.specs.Halves.{running_on}
use Rattle.seq_timer.specs.Steps.{Timer, opening}
use Rattle.seq_timer.proofs.Contents.{seen_else, seen_here}
use Rattle.seq_timer.specs.Tables.{IsNextDue, in_context, is_armed_on, is_context, no_declared, no_timer, runs_on, seen_in}
use Rattle.seq_timer.proofs.Alike.{next_due-alike, seen-alike, stopped-alike, unlimited}
use Rattle.record_text.specs.declared.record.Answer.{Answer}
use Rattle.record_text.specs.declared.record.Answer.TheVariants as answers
use Rattle.record_text.specs.declared.record.Entry.{Entry}
use Rattle.seq_timer.specs.declared.event.EventBy.TheVariants as events
use Rattle.seq_timer.specs.declared.event.Reply.{Reply}
use Rattle.record_text.specs.declared.record.Label.{Label}
use Rattle.record_text.specs.declared.record.RunRecord.{RunRecord}
use Rattle.script_text.specs.declared.script.Call.{Call}
use Rattle.script_text.specs.declared.script.Call.TheVariants as calls
use Rattle.script_text.specs.declared.script.Script.{Script}
use Rattle.run_history.specs.Actions.{Action, also, Entered, entered, Looked, Made}
use Rattle.record_text.specs.declared.record.ObjectEntry.{ObjectEntry}
use Rattle.run_history.specs.Told.{observed}
use Rattle.run_history.specs.Histories.{answers_of, reading_at, timer_after, timer_labels}
use Rattle.script_text.specs.Declarations.{declared_of, terms_of}
use Rattle.run_history.specs.Order.{CallInRound, calls_of, is_before, is_label, IsInOrder, IsLabel, IsPoint, StandsWithin, made_by, round_of}
use Rattle.run_history.specs.Witnesses.{Witness, Move, OfTimer, Shown, labels, owner_of, timer_along, TimersList, witness_with}
use Rattle.fit_laws.specs.EachTimer.{HasTimers, FitsTimers, IsOwnPoint, TookNextDue, WasRefused, WasSo, WasTold}
use Rattle.run_history.specs.Fits.{Fits, FitsCall, FitsIn, FitsLane, Seen, unseen}
use Rattle.run_history.specs.Traces.{all_entered, own_moves}
use Rattle.run_history.specs.Calls.{AnswerHolds}
use Rattle.run_history.specs.Truths.{AreTrue, IsMoment, IsTrue, RefusedBefore, Saw, SawRefusal, sight_of}
use Rattle.run_history.proofs.Actions.{all_entered-append}
use Rattle.run_history.proofs.Labels.{same_label}
use Rattle.run_history.proofs.Lists.{all_at, at_map, each_drop, each_take}
use Rattle.fit_laws.proofs.OwnParts.{count_moves}
use Rattle.fit_laws.proofs.OwnPoints.{before_there, declared_then, entered_then, labels_each, legal_each, order_each, point_then, same_then, saw_then, seen, stamp_then, turn_at}

-- a function runs on a base
running_there : (base : ℕ) (u : Timer) (g : ℕ) → running_on base u ≡ Some g → (u.running ≡ Some g) × (u.base ≡ base)
running_there base u g is =
    elim (nat_eq u.base base) as (λ b. nat_eq u.base base ≡ b → (if b then u.running else None) ≡ Some g → (u.running ≡ Some g) × (u.base ≡ base)) [
      | true ↦ λ same runs. (runs, eqb-true u.base base same)
      | false ↦ λ same runs. absurd (cc)
    ] refl is

same_context : (x y : Context) → is_context x y ≡ true → y ≡ x
same_context contexts.Hard contexts.Hard is = refl
same_context contexts.Hard contexts.Soft is = absurd cc
same_context contexts.Soft contexts.Hard is = absurd cc
same_context contexts.Soft contexts.Soft is = refl

-- a timer that a context sees run on a base is of the context, and runs there
runs_seen : (x : Context) (base : ℕ) (u : Timer) (g : ℕ) → running_on base (seen_in x u) ≡ Some g
    → (u.declared.context ≡ x) × (u.running ≡ Some g) × (u.base ≡ base)
runs_seen x base u g is = ⊎_elim
    (λ own. let there = running_there base u g (subst (λ k. running_on base k ≡ Some g) (seen_here x u own) is) in
    (same_context x u.declared.context own, there.0, there.1))
    (λ other. absurd (nobody (running_there base no_timer g (subst (λ k. running_on base k ≡ Some g) (seen_else x u other) is)).0))
    (cases_Bool (is_context x u.declared.context))
  where
    nobody : None ≡ Some g → ⊥
    nobody e = cc

-- no function runs of a timer that isn't there
none_seen : (base : ℕ) (x : Context) (terms : Terms) → runs_on base (seen_in x no_timer) ≡ runs_on base (seen_in x (opening no_declared terms))
none_seen base contexts.Hard limit = refl
none_seen base contexts.Soft limit = refl

-- ---- where an entry of a call stands in the order

-- an entry of the call stands here, behind those that it had made
pub record Stands (c : Label) (ms : List Move) (before : List (ℕ × Shown)) (e : ℕ × Shown) : Type 0 where
  pub place : ℕ
  pub move : Move
  pub there : slice_get ms place ≡ Some move
  pub label : move.label ≡ c
  pub is : (move.before + 1, move.shown) ≡ e
  pub own : own_moves c (take place ms) ≡ before

-- lists that are the same begin with the same
pub heads : {X : Type 0} (x y : X) (xs ys : List X) → x ∷ xs ≡ y ∷ ys → x ≡ y
heads x y xs ys e = cc

tails : {X : Type 0} (x y : X) (xs ys : List X) → x ∷ xs ≡ y ∷ ys → xs ≡ ys
tails x y xs ys e = cc

-- law: each entry that a call made stands somewhere, behind those that it made before
pub stands : (c : Label) (ms : List Move) (before rest : List (ℕ × Shown)) (e : ℕ × Shown) → own_moves c ms ≡ before ++ e ∷ rest
    → Stands c ms before e
stands c [] [] rest e own = absurd (cc)
stands c [] (b ∷ before) rest e own = absurd (cc)
stands c (m ∷ ms) before rest e own =
    elim (is_label c m.label) as (λ b. is_label c m.label ≡ b → also b (m.before + 1, m.shown) (own_moves c ms) ≡ before ++ e ∷ rest
    → Stands c (m ∷ ms) before e) [
      | true ↦ λ is own. here before is own (λ early own. stands c ms early rest e own)
      | false ↦ λ is own. let s = stands c ms before rest e own in record {
        place = suc s.place;
        move = s.move;
        there = s.there;
        label = s.label;
        is = s.is;
        own = ap (λ b. also b (m.before + 1, m.shown) (own_moves c (take s.place ms))) is ∙ s.own;
      }
    ] refl own
  where
    here : (before : List (ℕ × Shown)) → is_label c m.label ≡ true → (m.before + 1, m.shown) ∷ own_moves c ms ≡ before ++ e ∷ rest
        → ((early : List (ℕ × Shown)) → own_moves c ms ≡ early ++ e ∷ rest → Stands c ms early e) → Stands c (m ∷ ms) before e
    here [] is own further = record { place = 0; move = m; there = refl; label = same_label c m.label is; is = heads _ _ _ _ own; own = refl }
    here (b ∷ before) is own further = let s = further before (tails _ _ _ _ own) in record {
      place = suc s.place;
      move = s.move;
      there = s.there;
      label = s.label;
      is = s.is;
      own = ap (λ t. also t (m.before + 1, m.shown) (own_moves c (take s.place ms))) is
          ∙ ap (λ xs. (m.before + 1, m.shown) ∷ xs) s.own ∙ ap (λ x. x ∷ before) (heads _ _ _ _ own);
    }

pub not_before_itself : (s : Script) (c : Label) → is_before s c c ≡ false
not_before_itself s c = neither (round_of s c) c.lane c.call
  where
    neither : (r l k : ℕ) → (nat_lt r r || (nat_eq l l && nat_lt k k)) ≡ false
    neither r l k = grind (arith, nat_tests)

pub ordered : (s : Script) (ls : List Label) (p q : ℕ) (x y : Label) → IsInOrder s ls → slice_get ls p ≡ Some x → slice_get ls q ≡ Some y → p < q
    → is_before s y x ≡ false
ordered s [] p q x y order at_p at_q less = absurd (cc)
ordered s (l ∷ ls) p zero x y order at_p at_q less = absurd (omega (arith, less))
ordered s (l ∷ ls) zero (suc q) x y order at_p at_q less =
    subst (λ z. is_before s y z ≡ false) (same_Some l x at_p) (all_at (λ y. is_before s y l ≡ false) ls q y order.0 at_q)
ordered s (l ∷ ls) (suc p) (suc q) x y order at_p at_q less = ordered s ls p q x y order.1 at_p at_q (omega (arith, less))

-- the place of an own entry is within the call's bounds
pub within_at : (s : Script) (c : Label) (ls : List Label) (p : ℕ) → IsInOrder s ls → slice_get ls p ≡ Some c → StandsWithin s c p ls
within_at s c ls p order there = record {
  small = omega (arith, slice_get_within ls p c there);
  before = each_take (λ x. is_before s c x ≡ false) p ls (λ q x at less. ordered s ls q p x c order at there less);
  behind = each_drop (λ x. is_before s x c ≡ false) p ls (λ q x at more. ⊎_elim
      (λ (less : p < q). ordered s ls p q c x order there at less)
      (λ (none : q ≤ p). subst (λ y. is_before s y c ≡ false) (same_Some c x (sym there ∙ ap (slice_get ls) (both p q more none) ∙ at)) (not_before_itself s c))
      (cases_lt p q));
}
  where
    both : (a b : ℕ) → a ≤ b → b ≤ a → a ≡ b
    both a b x y = omega (arith, x, y)

-- ---- each call

-- what is true of all that a call did is true of each thing
pub true_at : (w : Witness) (c : Label) (from : ℕ) (done ds mid : List Action) (d : Action) (rest : List Action) (last : ℕ)
    → AreTrue w c from done ds last
    → ds ≡ mid ++ d ∷ rest → (n : ℕ) × IsTrue w c (done ++ mid) d n
true_at w c from done [] [] d rest last all is = absurd (cc)
true_at w c from done [] (m ∷ mid) d rest last all is = absurd (cc)
true_at w c from done (x ∷ ds) [] d rest last all is = (
  all.0,
  subst (λ y. IsTrue w c (done ++ []) y all.0) (heads x d ds rest is)
      (subst (λ b. IsTrue w c b x all.0) (sym (append-nil done)) all.2),
)
true_at w c from done (x ∷ ds) (m ∷ mid) d rest last all is =
    let further = true_at w c all.0 (done ++ x ∷ []) ds mid d rest last all.3 (tails x m ds (mid ++ d ∷ rest) is) in (
      further.0,
      subst (λ b. IsTrue w c b d further.0)
          (append_assoc done (x ∷ []) mid ∙ ap (λ y. done ++ y ∷ mid) (heads x m ds (mid ++ d ∷ rest) is)) further.1,
    )

-- an entry of an object is none of a timer
but_made : (t : ℕ) (ds : List Action) (i number : ℕ) (entry : ObjectEntry) → entered t (ds ++ Made i number entry ∷ []) ≡ entered t ds
but_made t [] i number entry = refl
but_made t (Entered timer k e ∷ ds) i number entry = ap (also (nat_eq timer t) (k, e)) (but_made t ds i number entry)
but_made t (d ∷ ds) i number entry = but_made t ds i number entry

module _ (w : Witness) (f : FitsIn w) where
  -- a claim was made at the place where its entry stands
  claim_then : (c : Label) (before rest : List Action) (t number base reading : ℕ) (reply : Reply)
      → own_moves c w.moves ≡ all_entered (before ++ Entered t number (record { event = events.Claim base reading; reply = reply }) ∷ rest)
      → TookNextDue w.script w.run c before base reading t number
  claim_then c before rest t number base reading reply own_are =
      let claim : Entry = record { event = events.Claim base reading; reply = reply } in
      let e = Entered t number claim in
      let s = stands c w.moves (all_entered before) (all_entered rest) (number, OfTimer t claim)
      (own_are ∙ all_entered-append before (e ∷ rest)) in
      let p = s.place in
      let m = s.move in
      let clock = w.run.clock in
      let shown : m.shown ≡ OfTimer t claim = ap (λ (x : ℕ × Shown). x.1) s.is in
      let label : slice_get (labels w) p ≡ Some c = at_map (λ (m : Move). m.label) w.moves p m s.there ∙ ap (λ l. Some l) s.label in
      let moment : IsMoment w c before p = record {
        within = within_at w.script c (labels w) p f.order label;
        so_many = ap (made_by c) (take-map (λ (m : Move). m.label) p w.moves) ∙ count_moves c (take p w.moves) ∙ ap length s.own;
      } in
      let turn = turn_at w f.history f.timers p t m claim base reading s.there shown refl in
      let context : (timer_along w p t).declared.context ≡ (declared_of w.script t).context =
      ap (λ (d : Declared). d.context) (declared_then w f.history f.timers p t) in
      let x : Context = (declared_of w.script t).context in
      let next : IsNextDue (in_context x (timer_along w p)) base (reading_at clock reading) t =
      subst (λ y. IsNextDue (in_context y (timer_along w p)) base (reading_at clock reading) t) context turn.next in
      let idle : (u : ℕ) → runs_on base (seen_in x (timer_along w p u)) ≡ false =
      λ u. subst (λ y. runs_on base (seen_in y (timer_along w p u)) ≡ false) context (turn.idle u) in
      let same = same_then w f.history f.timers in
      record {
        seen = seen w p;
        points = λ u. point_then w f.history f.timers c before (e ∷ rest) p u own_are moment;
        claimed = ap (λ n. n + 1) (sym (before_there w f.history p m (TimersList t) s.there (ap owner_of shown))) ∙ ap (λ (x : ℕ × Shown). x.0) s.is;
        free = λ u. sym (same (λ k. runs_on base (seen_in x k)) (none_seen base x (terms_of w.script)) p u) ∙ idle u;
        next = next_due-alike (in_context x (timer_along w p)) (in_context x (λ u. timer_after w.script w.run u (seen w p u)))
            (λ u. seen-alike x (timer_along w p u) (timer_after w.script w.run u (seen w p u)) (same_then w f.history f.timers unlimited refl p u)) base
            (reading_at clock reading) t next;
      }

  module _ (c : Label) (at first last : ℕ) (actions : List Action) (own_are : own_moves c w.moves ≡ all_entered actions)
      (ends : IsMoment w c actions last) where
    all_own : own_moves c w.moves ≡ all_entered (actions ++ [])
    all_own = own_are ∙ ap all_entered (sym (append-nil actions))

    was_so : (t number : ℕ) (observation : Observation) → Saw w t number observation last → WasSo w.script w.run c actions t number observation
    was_so t number observation saw = saw_then w f.history f.timers c actions [] last t number observation all_own ends saw

    refused_at : (early rest : List Action) (n t stamp : ℕ) → own_moves c w.moves ≡ all_entered (early ++ rest) → IsMoment w c early n
        → SawRefusal w t stamp n → WasRefused w.script w.run c early t stamp
    refused_at early rest n t stamp are point is = (
      saw_then w f.history f.timers c early rest n t stamp observations.Spent are point is.0,
      ap (λ k. (timer_after w.script w.run t k).moving) (sym is.0.stamp ∙ stamp_then w f.history f.timers n t)
          ∙ sym (same_then w f.history f.timers (λ x. x.moving) refl n t) ∙ is.1,
    )

    refused : (t stamp : ℕ) → SawRefusal w t stamp last → WasRefused w.script w.run c actions t stamp
    refused t stamp = refused_at actions [] last t stamp all_own ends

    -- before the object's entry the call had made as many entries of the timer as at its end
    refused_before : (t stamp : ℕ) → RefusedBefore w c first last actions t stamp → WasRefused w.script w.run c actions t stamp
    refused_before t stamp r =
        let this = Made t r.number r.entry ∷ [] in
        let was = refused_at r.early this r.moment t stamp (own_are ∙ ap all_entered r.done) r.point r.refused in
        let same : entered t r.early ≡ entered t actions = sym (but_made t r.early t r.number r.entry) ∙ ap (entered t) (sym r.done) in
        (record { point = subst (λ es. IsPoint w.script c (length es) stamp (timer_labels w.run t)) same was.0.point; holds = was.0.holds }, was.1)

    -- what an answer tells was so
    told_then : (call : Call) (answer : Answer) → AnswerHolds w first last c at actions call answer → WasTold w.script w.run c at actions call answer
    told_then (calls.Start t request) (answers.Spent stamp) is = refused t stamp is
    told_then (calls.Cancel t) (answers.Running generation stamp) is = was_so t stamp (observations.Running generation) is
    told_then (calls.Cancel t) (answers.Idle stamp) is = was_so t stamp observations.Idle is
    told_then (calls.Peek t) (answers.Peek stamp base enqueued running moving) is =
        was_so t stamp (observations.Peek (record { stamp = stamp; base = base; enqueued = enqueued; running = running; moving = moving })) is
    told_then (calls.Expire x base budget) (answers.Done shown timers) is = record {
      seen = seen w last;
      points = λ u. point_then w f.history f.timers c actions [] last u all_own ends;
      free = λ u. sym (same_then w f.history f.timers (λ k. runs_on base (seen_in x k)) (none_seen base x (terms_of w.script)) last u) ∙ is.free u;
      stopped = λ clock. stopped-alike (in_context x (timer_along w last))
          (in_context x (λ u. timer_after w.script w.run u (seen w last u)))
          (λ u. seen-alike x (timer_along w last u) (timer_after w.script w.run u (seen w last u))
          (same_then w f.history f.timers unlimited refl last u)) base (reading_at w.run.clock at) clock (is.stopped clock);
    }
    told_then (calls.Expire x base budget) (answers.Busy shown timers t generation) is =
        let runs = runs_seen x base (timer_along w last t) generation is in
        let on : (timer_after w.script w.run t (timer_along w last t).stamp).base ≡ base =
        ap (λ k. (timer_after w.script w.run t k).base) (stamp_then w f.history f.timers last t)
        ∙ sym (same_then w f.history f.timers (λ x. x.base) refl last t) ∙ runs.2 in
        let so = was_so t (timer_along w last t).stamp (observations.Running generation) (record { stamp = refl; holds = runs.1 }) in
        (ap (λ (d : Declared). d.context) (sym (declared_then w f.history f.timers last t)) ∙ runs.0, ((timer_along w last t).stamp, so, on))
    told_then (calls.Settime t flags value interval) (answers.Unarmed stamp) is = refused_before t stamp is
    told_then (calls.Sleep t flags time) (answers.Unarmed stamp) is = refused_before t stamp is
    told_then (calls.Offline base heir budget) (answers.Offline moved stamp) is = record {
      seen = seen w last;
      points = λ u. point_then w f.history f.timers c actions [] last u all_own ends;
      unused = record {
        unarmed = λ u. sym (same_then w f.history f.timers (is_armed_on base) refl last u) ∙ is.1.unarmed u;
        idle = λ u. sym (same_then w f.history f.timers (runs_on base) refl last u) ∙ is.1.idle u;
      };
    }
    told_then (calls.Offline base heir budget) (answers.OfflineBusy moved t generation) is =
        let runs = running_there base (timer_along w last t) generation is.1.0 in
        let on : (timer_after w.script w.run t (timer_along w last t).stamp).base ≡ base =
        ap (λ k. (timer_after w.script w.run t k).base) (stamp_then w f.history f.timers last t)
        ∙ sym (same_then w f.history f.timers (λ x. x.base) refl last t) ∙ runs.1 in
        let so = was_so t (timer_along w last t).stamp (observations.Running generation) (record { stamp = refl; holds = runs.0 }) in
        ((timer_along w last t).stamp, so, on)
    told_then (calls.Offline base heir budget) (answers.OfflineSpent moved t stamp) is =
        let same : seen w last t ≡ stamp = sym (stamp_then w f.history f.timers last t) ∙ is.2.stamp in
        record {
          point = subst (IsOwnPoint w.script w.run c actions t) same (point_then w f.history f.timers c actions [] last t all_own ends);
          armed = subst (λ k. is_armed_on base (timer_after w.script w.run t k) ≡ true) same
              (sym (same_then w f.history f.timers (is_armed_on base) refl last t) ∙ is.2.armed);
          full = is.2.full;
        }
    told_then call answer is = tt

  knows_from : (c : Label) (call : Call) (answer : Answer) (before after : Seen) → FitsCall w c call answer before after
      → FitsTimers w.script w.run c call answer
  knows_from c call answer before after fits =
      let t = w.traces c in
      record {
        at = t.at;
        fired = t.fired;
        actions = t.actions;
        moved = t.moved;
        sight = sight_of w t.first t.last;
        does = fits.does;
        keeps = fits.keeps;
        reading = fits.reading;
        entered = λ u. entered_then w f.history f.timers c t.actions u fits.traced.moves;
        looked = fits.traced.looks;
        looks = λ early rest u number look is.
            let true_there = true_at w c t.first [] t.actions early (Looked u number look) rest t.last fits.truth is in
            saw_then w f.history f.timers c early (Looked u number look ∷ rest) true_there.0 u number (observed look) (fits.traced.moves ∙ ap all_entered is)
            true_there.1.0 true_there.1.1;
        claims = λ early rest u number base reading reply is.
            claim_then c early rest u number base reading reply (fits.traced.moves ∙ ap all_entered is);
        told = told_then c t.at t.first t.last t.actions fits.traced.moves fits.ends call answer fits.holds;
      }

  each_answered : (lane index : ℕ) (before : Seen) (ps : List CallInRound) (given : List Answer) → FitsLane w lane index before ps given
      → length given ≡ length ps
  each_answered lane index before [] [] fits = refl
  each_answered lane index before (p ∷ ps) (a ∷ more) fits = ap suc (each_answered lane (index + 1) fits.0 ps more fits.2)
  each_answered lane index before [] (a ∷ more) fits = absurd fits
  each_answered lane index before (p ∷ ps) [] fits = absurd fits

  each_knows : (lane index k : ℕ) (before : Seen) (ps : List CallInRound) (given : List Answer) (p : CallInRound) (answer : Answer)
      → FitsLane w lane index before ps given → slice_get ps k ≡ Some p → slice_get given k ≡ Some answer
      → FitsTimers w.script w.run (record { lane = lane; call = index + k }) p.call answer
  each_knows lane index k before [] given p answer fits at_p at_a = absurd (cc)
  each_knows lane index k before (q ∷ ps) [] p answer fits at_p at_a = absurd (cc)
  each_knows lane index zero before (q ∷ ps) (a ∷ more) p answer fits at_p at_a =
      subst (λ n. FitsTimers w.script w.run (record { lane = lane; call = n }) p.call answer) (none index)
      (subst (λ (x : CallInRound). FitsTimers w.script w.run (record { lane = lane; call = index }) x.call answer) (same_Some q p at_p)
      (subst (FitsTimers w.script w.run (record { lane = lane; call = index }) q.call) (same_Some a answer at_a)
      (knows_from (record { lane = lane; call = index }) q.call a before fits.0 fits.1.0)))
    where
      none : (n : ℕ) → n ≡ n + 0
      none n = omega arith
  each_knows lane index (suc k) before (q ∷ ps) (a ∷ more) p answer fits at_p at_a =
      subst (λ n. FitsTimers w.script w.run (record { lane = lane; call = n }) p.call answer) (further index k)
      (each_knows lane (index + 1) k fits.0 ps more p answer fits.2 at_p at_a)
    where
      further : (n k : ℕ) → n + 1 + k ≡ n + suc k
      further n k = omega arith

  has_timers : HasTimers w.script w.run
  has_timers = record {
    histories = legal_each w f.history f.timers;
    labels = λ t. labels_each w f.history f.timers (IsLabel w.script) t f.move_calls;
    order = λ t. order_each w f.history f.timers t f.order;
    answered = λ lane. each_answered lane 0 unseen (calls_of w.script lane) (answers_of w.run lane) (f.calls lane);
    calls = λ lane index p answer at_p at_a.
        subst (λ n. FitsTimers w.script w.run (record { lane = lane; call = n }) p.call answer) (from_none index)
        (each_knows lane 0 index unseen (calls_of w.script lane) (answers_of w.run lane) p answer (f.calls lane) at_p at_a);
  }
    where
      from_none : (n : ℕ) → 0 + n ≡ n
      from_none n = omega arith

-- law: a record that fits is right of each timer by itself
pub fits_for_each_timer : (s : Script) (r : RunRecord) → Fits s r → HasTimers s r
fits_for_each_timer s r (moves, signals, traces, fits) = has_timers (witness_with s r moves signals traces) fits
