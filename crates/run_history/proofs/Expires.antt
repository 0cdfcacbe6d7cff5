-- Expiry runs, by what their pass had seen at each of its calls: before and after each claim, after each callback, after each finish.
use Rattle.std.proofs.Common.{true, false, ◌≡◌, ◌<◌, ◌≤◌, ℕ, ◌+◌, suc, List, [], ◌∷◌, ◌++◌, Some, length, map, arith, refl, sym, ap, ◌∙◌, subst}
use Rattle.std.specs.List.{AllByRecursion}
use Rattle.std.specs.Prelude.{flat_map}
use Rattle.std.proofs.Math.Logic.{⊎_elim}
use Rattle.std.proofs.lemmas.List.{append-nil, append_assoc, map-append}
use Rattle.ktime.specs.declared.mode.Mode.TheVariants as modes
use Rattle.seq_timer.specs.declared.context.Context.{Context}
use Rattle.seq_timer.specs.Halves.{running_on}
use Rattle.seq_timer.specs.Tables.{in_context}
use Rattle.seq_timer.specs.declared.system.SystemEntry.{SystemEntry}
use Rattle.record_text.specs.declared.record.Answer.TheVariants as answers
use Rattle.record_text.specs.declared.record.Answer.{Answer}
use Rattle.record_text.specs.declared.record.CallbackReply.TheVariants as told
use Rattle.record_text.specs.declared.record.CallbackReply.{CallbackReply}
use Rattle.seq_timer.specs.declared.event.EventBy.TheVariants as events
use Rattle.seq_timer.specs.declared.event.Reply.TheVariants as replies
use Rattle.record_text.specs.declared.record.Entry.{Entry}
use Rattle.record_text.specs.declared.record.Label.{Label}
use Rattle.record_text.specs.declared.record.ObjectEntry.TheVariants as object_entries
use Rattle.record_text.specs.declared.record.ObjectEntry.{ObjectEntry}
use Rattle.run_history.specs.Actions.{Action, Began, Entered, Looked, Made, Signalled, Skipped}
use Rattle.run_history.specs.Told.{IsArmedBelowLimit, observed}
use Rattle.script_text.specs.Declarations.{kind_of, declared_of, without_slack}
use Rattle.run_history.specs.Starts.{arming_actions}
use Rattle.script_text.specs.declared.script.Call.TheVariants as calls
use Rattle.script_text.specs.declared.script.Callback.TheVariants as callbacks
use Rattle.script_text.specs.declared.script.Callback.{Callback}
use Rattle.script_text.specs.declared.script.Kind.TheVariants as kinds
use Rattle.script_text.specs.declared.script.Kind.{Kind}
use Rattle.run_history.specs.Calls.{Does, AnswerHolds}
use Rattle.run_history.specs.Deeds.{fires, IsBody, IsCallback, IsExpiryRun, IsQueuedTrigger, IsTrigger}
use Rattle.run_history.specs.Signals.{most_signals, push_counter}
use Rattle.run_history.specs.Truths.{AreTrue, IsDone, IsMoment, IsTrueEntry, Saw, SawFull, SawWaiting, sight_of}
use Rattle.run_history.specs.Witnesses.{Fired, OfRise, OfTimer, Trace, Witness, timer_along}
use Rattle.run_history.specs.Fits.{FitsCall, Seen}
use Rattle.run_history.specs.Receipts.{PlacedEntry, receipt}
use Rattle.run_history.specs.Rounds.{Spans}
use Rattle.run_history.specs.Traces.{all_entered}
use Rattle.run_history.proofs.Actions.{all_entered-append}
use Rattle.run_history.proofs.Kept.{call_made_whole, IsKept, moment_of, Stops}
use Rattle.run_history.proofs.Known.{AreMade, before_last, first_note, last_note, made-append, made_wider, no_notes, none_made, stops_between}
use Rattle.run_history.proofs.OthersMade.{start_true}
use Rattle.run_history.proofs.Plain.{IsPlain, plain_then}
use Rattle.run_history.proofs.Reached.{body_wider, sight_wider}

-- ---- truths in turn

-- they may begin earlier
true_earlier : (w : Witness) (c : Label) (from mid last : ℕ) (before es : List Action) → from ≤ mid → AreTrue w c mid before es last
    → AreTrue w c from before es last
true_earlier w c from mid last before [] le all = omega (arith, le, all)
true_earlier w c from mid last before (d ∷ ds) le all = (all.0, omega (arith, le, all.1), all.2, all.3)

true-append : (w : Witness) (c : Label) (from mid last : ℕ) (before ds es : List Action) → AreTrue w c from before ds mid
    → AreTrue w c mid (before ++ ds) es last → AreTrue w c from before (ds ++ es) last
true-append w c from mid last before [] es one two =
    subst (λ b. AreTrue w c from b es last) (append-nil before) (true_earlier w c from mid last (before ++ []) es one two)
true-append w c from mid last before (d ∷ ds) es one two = (
  one.0,
  one.1,
  one.2,
  true-append w c one.0 mid last (before ++ d ∷ []) ds es one.3
      (subst (λ b. AreTrue w c mid b es last) (sym (append_assoc before (d ∷ []) ds)) two),
)

-- ---- one callback

-- the claim of a callback, and its finish
abbrev pub claim_of : ℕ → ℕ → Fired → Entry
claim_of base at f = record { event = events.Claim base at; reply = replies.Claim f.generation }

abbrev pub finish_of : Fired → Entry
finish_of f = record { event = events.Finish f.restart; reply = replies.Finish f.generation f.restarted }

-- what was done before a callback, and its claim
abbrev pub with_claim : ℕ → ℕ → Fired → List Action → List Action
with_claim base at f before = before ++ Entered f.timer f.claim (claim_of base at f) ∷ []

-- the queue of signals had no room at a moment of a turn: between the entries that began it and ended it
pub record FoundFull (w : Witness) (order : List SystemEntry) (claimed acted : ℕ) (body : List PlacedEntry) : Type 0 where
  pub at : ℕ
  pub begun : PlacedEntry
  pub made : PlacedEntry
  pub is : body ≡ begun ∷ made ∷ []
  pub first : AreMade order claimed at (begun ∷ [])
  pub last : AreMade order at acted (made ∷ [])
  pub waiting : SawWaiting w most_signals at

-- what a callback was told holds when the pass had seen so many entries: a look, of the timer as it was then; a refused expiry, of the object, whose
-- history was full; and an overflow, of the queue, which had no room
abbrev pub ReplyHolds : Witness → List SystemEntry → ℕ → ℕ → List PlacedEntry → List Action → Type 0
ReplyHolds w order claimed acted body (Looked timer number look ∷ []) =
    Saw w timer number (observed look) acted × IsArmedBelowLimit w.script.limit number look
ReplyHolds w order claimed acted body (Skipped i number generation ∷ []) = SawFull w i number acted
ReplyHolds w order claimed acted body (Began i stamp ∷ Made j number (object_entries.Overflow generation reading) ∷ []) =
    FoundFull w order claimed acted body
ReplyHolds w order claimed acted body ds = Unit

-- one callback of an expiry run, from one number of entries that its pass had seen to another
pub record Ran (w : Witness) (order : List SystemEntry) (context : Context) (base at : ℕ) (f : Fired) (from to : ℕ) : Type 0 where
  -- that number after the claim, and where what the callback was told held or after the callback
  pub claimed : ℕ
  pub acted : ℕ
  -- the claim's receipt, the callback's, the finish's
  pub claim : PlacedEntry
  pub body : List PlacedEntry
  pub finish : PlacedEntry
  pub rise : from ≤ claimed
  pub goes_on : claimed ≤ acted
  pub ends : acted ≤ to
  pub claim_made : AreMade order from claimed (claim ∷ [])
  pub claim_is : receipt claim ≡ (f.claim, OfTimer f.timer (claim_of base at f))
  pub body_made : AreMade order claimed acted body
  pub body_is : map receipt body ≡ all_entered f.body
  pub finish_made : AreMade order acted to (finish ∷ [])
  pub finish_is : receipt finish ≡ (f.finish, OfTimer f.timer (finish_of f))
  -- the timer is of the run's context; the callback is as the timer declares it, by bases that were off line meanwhile; and what it was told holds
  pub own : (declared_of w.script f.timer).context ≡ context
  pub kind : IsBody (sight_of w from to) w.script (kind_of w.script f.timer) at f
  pub holds : ReplyHolds w order claimed acted body f.body

-- its receipts
abbrev pub notes_of : {w : Witness} {order : List SystemEntry} {context : Context} {base at : ℕ} {f : Fired} {from to : ℕ}
    → Ran w order context base at f from to → List PlacedEntry
notes_of ran = ran.claim ∷ ran.body ++ ran.finish ∷ []

module _ {w : Witness} {order : List SystemEntry} {context : Context} {base at : ℕ} {f : Fired} {from to : ℕ}
    (ran : Ran w order context base at f from to) where
  forward : from ≤ to
  forward = omega (arith, ran.rise, ran.goes_on, ran.ends)

  made_of : AreMade order from to (notes_of ran)
  made_of =
      made-append order from ran.acted to (ran.claim ∷ ran.body) (ran.finish ∷ [])
      (made-append order from ran.claimed ran.acted (ran.claim ∷ []) ran.body ran.claim_made ran.body_made ran.rise ran.goes_on) ran.finish_made
      (omega (arith, ran.rise, ran.goes_on)) ran.ends

  notes_are : map receipt (notes_of ran) ≡ all_entered (fires base at f)
  notes_are =
      ap (λ x. x ∷ map receipt (ran.body ++ ran.finish ∷ [])) ran.claim_is
      ∙ ap (λ xs. (f.claim, OfTimer f.timer (claim_of base at f)) ∷ xs) (map-append receipt ran.body (ran.finish ∷ [])
      ∙ ap (λ xs. xs ++ receipt ran.finish ∷ []) ran.body_is ∙ ap (λ x. all_entered f.body ++ x ∷ []) ran.finish_is)
      ∙ sym (ap (λ es. (f.claim, OfTimer f.timer (claim_of base at f)) ∷ es) (all_entered-append f.body (Entered f.timer f.finish (finish_of f) ∷ [])))

-- the call's moments are where it had made so much, between these numbers
abbrev pub AreMoments : Witness → Label → List PlacedEntry → ℕ → ℕ → Type 0
AreMoments w c notes low high = (early : List Action) (n : ℕ) → low ≤ n → n ≤ high → Stops c notes early n → IsMoment w c early n

-- a callback among a call's receipts, those before it and those behind
module _ {w : Witness} {order : List SystemEntry} {context : Context} {base at : ℕ} {f : Fired} {from to : ℕ} (c : Label)
    (before : List Action) (ran : Ran w order context base at f from to) (low high : ℕ) (all early late : List PlacedEntry)
    (split : all ≡ early ++ (notes_of ran ++ late)) (one : AreMade order low from early) (two : AreMade order to high late)
    (are : map receipt early ≡ all_entered before) (under : low ≤ from) (over : to ≤ high) (moments : AreMoments w c all low high) where
  forward_claimed : low ≤ ran.claimed
  forward_claimed = omega (arith, under, ran.rise)

  -- the moment before the claim
  moment_before : IsMoment w c before from
  moment_before =
      let rest = made-append order from to high (notes_of ran) late (made_of ran) two (forward ran) over in
      moments before from under (omega (arith, forward ran, over))
      (subst (λ xs. Stops c xs before from) (sym split) (stops_between c order low from high early (notes_of ran ++ late) before one rest are))

  -- a moment behind the claim at which the callback had done so much, before the rest
  moment_behind : (done : List Action) (mine rest : List PlacedEntry) (n : ℕ) → ran.claimed ≤ n → n ≤ to → AreMade order ran.claimed n mine
      → map receipt mine ≡ all_entered done → AreMade order n to rest → all ≡ early ++ (ran.claim ∷ (mine ++ rest) ++ late)
      → IsMoment w c (with_claim base at f before ++ done) n
  moment_behind done mine rest n le more is_made entered made is =
      let claimed = made-append order low from ran.claimed early (ran.claim ∷ []) one ran.claim_made under ran.rise in
      let first = made-append order low ran.claimed n (early ++ ran.claim ∷ []) mine claimed is_made forward_claimed le in
      let claim_entered : map receipt (early ++ ran.claim ∷ []) ≡ all_entered (with_claim base at f before) =
      map-append receipt early (ran.claim ∷ []) ∙ ap (λ xs. xs ++ receipt ran.claim ∷ []) are ∙ ap (λ x. all_entered before ++ x ∷ []) ran.claim_is
      ∙ sym (all_entered-append before (Entered f.timer f.claim (claim_of base at f) ∷ [])) in
      let all_so_far : map receipt ((early ++ ran.claim ∷ []) ++ mine) ≡ all_entered (with_claim base at f before ++ done) =
      map-append receipt (early ++ ran.claim ∷ []) mine ∙ ap (λ xs. xs ++ map receipt mine) claim_entered
      ∙ ap (λ xs. all_entered (with_claim base at f before) ++ xs) entered ∙ sym (all_entered-append (with_claim base at f before) done) in
      let parts : all ≡ ((early ++ ran.claim ∷ []) ++ mine) ++ (rest ++ late) =
      is ∙ ap (λ xs. early ++ (ran.claim ∷ xs)) (append_assoc mine rest late) ∙ sym (append_assoc early (ran.claim ∷ []) (mine ++ (rest ++ late)))
      ∙ sym (append_assoc (early ++ ran.claim ∷ []) mine (rest ++ late)) in
      moments (with_claim base at f before ++ done) n (omega (arith, forward_claimed, le)) (omega (arith, more, over))
      (subst (λ xs. Stops c xs (with_claim base at f before ++ done) n) (sym parts)
      (stops_between c order low n high ((early ++ ran.claim ∷ []) ++ mine) (rest ++ late) (with_claim base at f before ++ done) first
      (made-append order n to high rest late made two more over) all_so_far))

  -- the moment before a turn's entry: the turn had begun, and pushed its signal
  moment_made : (done : List Action) (i number : ℕ) (entry : ObjectEntry) → f.body ≡ done ++ Made i number entry ∷ []
      → (n : ℕ) × (from ≤ n) × (n ≤ ran.acted) × IsMoment w c (with_claim base at f before ++ done) n
  moment_made done i number entry is =
      let ended = last_note ran.body (all_entered done) (number + number, OfRise (suc i))
      (ran.body_is ∙ ap all_entered is ∙ all_entered-append done (Made i number entry ∷ [])) in
      let p = ended.1.place in
      let made = before_last order ran.claimed ran.acted ended.0 ended.1 (subst (AreMade order ran.claimed ran.acted) ended.2 ran.body_made) in
      let below : p ≤ ran.acted = omega (arith, made.2.below.0) in (
        p,
        omega (arith, ran.rise, made.0),
        below,
        moment_behind done ended.0 (ended.1 ∷ ran.finish ∷ []) p made.0 (omega (arith, below, ran.ends)) made.1 ended.3
            (made-append order p ran.acted to (ended.1 ∷ []) (ran.finish ∷ []) made.2 ran.finish_made below ran.ends)
            (split ∙ ap (λ xs. early ++ (ran.claim ∷ (xs ++ ran.finish ∷ []) ++ late)) ended.2
            ∙ ap (λ xs. early ++ (ran.claim ∷ xs ++ late)) (append_assoc ended.0 (ended.1 ∷ []) (ran.finish ∷ []))),
      )

  -- the moment of a turn at which the queue had no room
  moment_full : (i stamp : ℕ) (entry : ObjectEntry) → f.body ≡ Began i stamp ∷ Made i (stamp + 1) entry ∷ []
      → (full : FoundFull w order ran.claimed ran.acted ran.body) → (from ≤ full.at) × (full.at ≤ ran.acted)
      × IsMoment w c (with_claim base at f before ++ Began i stamp ∷ []) full.at
  moment_full i stamp entry is full =
      let n = full.at in
      let upto : ran.claimed ≤ n = omega (arith, full.first.rise.0, full.first.below.0) in
      let below : n ≤ ran.acted = omega (arith, full.last.rise.0, full.last.below.0) in
      let entered : map receipt (full.begun ∷ full.made ∷ []) ≡ all_entered (Began i stamp ∷ Made i (stamp + 1) entry ∷ []) =
      ap (map receipt) (sym full.is) ∙ ran.body_is ∙ ap all_entered is in
      let begun = first_note (full.begun ∷ full.made ∷ []) (stamp + stamp + 1, OfRise (suc i)) ((stamp + 1 + (stamp + 1), OfRise (suc i)) ∷ []) entered in (
        omega (arith, ran.rise, upto),
        below,
        moment_behind (Began i stamp ∷ []) (full.begun ∷ []) (full.made ∷ ran.finish ∷ []) n upto (omega (arith, below, ran.ends)) full.first
            (cc) (made-append order n ran.acted to (full.made ∷ []) (ran.finish ∷ []) full.last ran.finish_made below ran.ends)
            (split ∙ ap (λ xs. early ++ (ran.claim ∷ (xs ++ ran.finish ∷ []) ++ late)) full.is),
      )

  -- a callback that made no entry left the call where the claim had put it
  moment_acted : [] ≡ all_entered f.body → IsMoment w c (with_claim base at f before) ran.acted
  moment_acted none =
      subst (λ ds. IsMoment w c ds ran.acted) (append-nil (with_claim base at f before))
      (moment_behind [] [] (ran.finish ∷ []) ran.acted ran.goes_on ran.ends (none_made order ran.claimed ran.acted) refl ran.finish_made
      (split ∙ ap (λ xs. early ++ (ran.claim ∷ (xs ++ ran.finish ∷ []) ++ late)) (no_notes ran.body (ran.body_is ∙ sym none))))

  -- what the callback was told holds
  body_true : AreTrue w c from (with_claim base at f before) f.body ran.acted
  body_true = by_kind (kind_of w.script f.timer) ran.kind
    where
      since : List Action
      since = with_claim base at f before

      onward : from ≤ ran.acted
      onward = omega (arith, ran.rise, ran.goes_on)

      by_body : (ds : List Action) → f.body ≡ ds → (ReplyHolds w order ran.claimed ran.acted ran.body ds → AreTrue w c from since ds ran.acted)
          → AreTrue w c from since f.body ran.acted
      by_body ds is go =
          subst (λ xs. AreTrue w c from since xs ran.acted) (sym is) (go (subst (ReplyHolds w order ran.claimed ran.acted ran.body) is ran.holds))

      looks : (timer number : ℕ) (look : CallbackReply) → f.body ≡ Looked timer number look ∷ [] → AreTrue w c from since f.body ran.acted
      looks timer number look is = by_body (Looked timer number look ∷ []) is
          (λ holds. (ran.acted, onward, (moment_acted (ap all_entered (sym is)), holds.0, holds.1), omega arith))

      by_callback : (callback : Callback) → IsCallback (sight_of w from to) w.script.limit callback at f → AreTrue w c from since f.body ran.acted
      by_callback callbacks.Once is = by_body [] is.0 (λ holds. onward)
      by_callback (callbacks.Every interval) is =
          ⊎_elim
          (λ forward. by_body
          (Entered f.timer forward.0 (record { event = events.Forward at interval; reply = replies.Forward forward.1 }) ∷ []) forward.2
          (λ holds. (from, omega arith, tt, onward)))
          (λ looked. ⊎_elim (λ armed. looks f.timer armed.0 (told.Armed armed.1) armed.2) (λ spent. looks f.timer spent.0 told.Spent spent.1) looked) is.0
      by_callback callbacks.Cancels is = looks f.timer is.0.0 (told.Running f.generation) is.0.1
      by_callback (callbacks.Starts ns asked) is =
          ⊎_elim
          (λ a. by_body (arming_actions f.timer (without_slack modes.Rel ns asked) at a.0) a.1
          (λ holds. start_true w c from ran.acted f.timer at (without_slack modes.Rel ns asked) since a.0 onward))
          (λ spent. looks f.timer spent.0 told.Spent spent.1) is.0

      -- a turn of the object, behind whose beginning nothing is told but in its entry
      by_turn : (done : List Action) (i number : ℕ) (entry : ObjectEntry) → AllByRecursion IsPlain done → f.body ≡ done ++ Made i number entry ∷ []
          → ((n : ℕ) → IsTrueEntry w i number entry n) → AreTrue w c from since f.body ran.acted
      by_turn done i number entry plain is told =
          let m = moment_made done i number entry is in
          by_body (done ++ Made i number entry ∷ []) is
          (λ holds. plain_then w c from m.0 ran.acted since done (Made i number entry) plain m.1 m.2 (m.3, told m.0))

      by_skip : (number : ℕ) → f.body ≡ Skipped f.timer number f.generation ∷ [] → AreTrue w c from since f.body ran.acted
      by_skip number is = by_body (Skipped f.timer number f.generation ∷ []) is
          (λ holds. (ran.acted, onward, (moment_acted (ap all_entered (sym is)), holds), omega arith))

      by_trigger : IsTrigger at f → AreTrue w c from since f.body ran.acted
      by_trigger is =
          ⊎_elim
          (λ trigger. by_turn (Began f.timer trigger.0 ∷ []) f.timer (trigger.0 + 1) (object_entries.Trigger f.generation at trigger.1) (tt, tt) trigger.2
          (λ n. tt))
          (λ skipped. by_skip skipped.0 skipped.1) is.0

      by_queued : IsQueuedTrigger (push_counter w.script) at f → AreTrue w c from since f.body ran.acted
      by_queued is =
          ⊎_elim
          (λ stale. by_turn (Began f.timer stale.0 ∷ []) f.timer (stale.0 + 1) (object_entries.Trigger f.generation at false) (tt, tt) stale.1 (λ n. tt))
          (λ others. ⊎_elim
          (λ sent. by_turn (Began f.timer sent.0 ∷ Signalled (push_counter w.script) sent.1 (record { timer = f.timer; number = sent.0 + 1 }) ∷ []) f.timer
          (sent.0 + 1) (object_entries.Trigger f.generation at true) (tt, (tt, tt)) sent.2 (λ n. tt))
          (λ last. ⊎_elim
          (λ over.
          let entry = object_entries.Overflow f.generation at in
          by_body (Began f.timer over.0 ∷ Made f.timer (over.0 + 1) entry ∷ []) over.1
          (λ full.
          let m = moment_full f.timer over.0 entry over.1 full in
          plain_then w c from full.at ran.acted since (Began f.timer over.0 ∷ []) (Made f.timer (over.0 + 1) entry) (tt, tt) m.0 m.1 (m.2, full.waiting)))
          (λ skipped. by_skip skipped.0 skipped.1) last) others) is.0

      by_kind : (kind : Kind) → IsBody (sight_of w from to) w.script kind at f → AreTrue w c from since f.body ran.acted
      by_kind (kinds.Raw x callback) is = by_callback callback is
      by_kind (kinds.Posix on) is = by_trigger is
      by_kind (kinds.Fd on) is = by_trigger is
      by_kind (kinds.Queued on) is = by_queued is
      by_kind (kinds.Sleeper on) is = by_trigger is

  fire_true : AreTrue w c from before (fires base at f) to
  fire_true = (
    from,
    omega arith,
    moment_before,
    true-append w c from ran.acted to (with_claim base at f before) f.body (Entered f.timer f.finish (finish_of f) ∷ []) body_true
        (ran.acted, omega arith, tt, ran.ends),
  )

-- ---- the callbacks of an expiry run

-- they ran in turn, each between two numbers of entries that the pass had seen, and these are their receipts
abbrev pub HaveRun : Witness → List SystemEntry → Context → ℕ → ℕ → ℕ → List Fired → List PlacedEntry → ℕ → Type 0
HaveRun w order context base at from [] notes to = (notes ≡ []) × (from ≤ to)
HaveRun w order context base at from (f ∷ fs) notes to =
    (ends : ℕ) × (ran : Ran w order context base at f from ends) × (rest : List PlacedEntry) × (notes ≡ notes_of ran ++ rest)
    × HaveRun w order context base at ends fs rest to

module _ (w : Witness) (order : List SystemEntry) (context : Context) (base at : ℕ) where
  run_forward : (from : ℕ) (fs : List Fired) (notes : List PlacedEntry) (to : ℕ) → HaveRun w order context base at from fs notes to → from ≤ to
  run_forward from [] notes to run = run.1
  run_forward from (f ∷ fs) notes to run = omega (arith, forward run.1, run_forward run.0 fs run.2 to run.4)

  -- law: the receipts are made in turn, and are of what the callbacks did
  pub run_made : (from : ℕ) (fs : List Fired) (notes : List PlacedEntry) (to : ℕ) → HaveRun w order context base at from fs notes to
      → AreMade order from to notes × (map receipt notes ≡ all_entered (flat_map (fires base at) fs))
  run_made from [] notes to run = subst (λ xs. AreMade order from to xs × (map receipt xs ≡ [])) (sym run.0) (none_made order from to, refl)
  run_made from (f ∷ fs) notes to run =
      let rest = run_made run.0 fs run.2 to run.4 in
      subst (λ xs. AreMade order from to xs × (map receipt xs ≡ all_entered (flat_map (fires base at) (f ∷ fs)))) (sym run.3) (
        made-append order from run.0 to (notes_of run.1) run.2 (made_of run.1) rest.0 (forward run.1) (run_forward run.0 fs run.2 to run.4),
        map-append receipt (notes_of run.1) run.2 ∙ ap (λ xs. xs ++ map receipt run.2) (notes_are run.1) ∙ ap (λ xs. all_entered (fires base at f) ++ xs) rest.1
            ∙ sym (all_entered-append (fires base at f) (flat_map (fires base at) fs)),
      )

  -- a callback as one from an earlier number on
  ran_earlier : (f : Fired) (from mid to : ℕ) → from ≤ mid → Ran w order context base at f mid to → Ran w order context base at f from to
  ran_earlier f from mid to le ran = record {
    claimed = ran.claimed;
    acted = ran.acted;
    claim = ran.claim;
    body = ran.body;
    finish = ran.finish;
    rise = omega (arith, le, ran.rise);
    goes_on = ran.goes_on;
    ends = ran.ends;
    claim_made = made_wider order from mid ran.claimed ran.claimed (ran.claim ∷ []) le (omega arith) ran.claim_made;
    claim_is = ran.claim_is;
    body_made = ran.body_made;
    body_is = ran.body_is;
    finish_made = ran.finish_made;
    finish_is = ran.finish_is;
    own = ran.own;
    kind = body_wider (sight_of w mid to) (sight_of w from to) (sight_wider w le (omega arith)) w.script (kind_of w.script f.timer) at f ran.kind;
    holds = ran.holds;
  }

  -- law: one more callback behind those that ran
  pub run_push : (from : ℕ) (fs : List Fired) (notes : List PlacedEntry) (mid : ℕ) (f : Fired) (to : ℕ)
      → HaveRun w order context base at from fs notes mid
      → (ran : Ran w order context base at f mid to) → HaveRun w order context base at from (fs ++ f ∷ []) (notes ++ notes_of ran) to
  unfolding ran_earlier
  run_push from [] notes mid f to run ran = (
    to,
    ran_earlier f from mid to run.1 ran,
    [],
    ap (λ xs. xs ++ notes_of ran) run.0 ∙ sym (append-nil (notes_of ran)),
    (refl, omega arith),
  )
  run_push from (g ∷ fs) notes mid f to run ran = (
    run.0,
    run.1,
    run.2 ++ notes_of ran,
    ap (λ xs. xs ++ notes_of ran) run.3 ∙ append_assoc (notes_of run.1) run.2 (notes_of ran),
    run_push run.0 fs run.2 mid f to run.4 ran,
  )

  -- what one that has run between these numbers has, each has
  each_ran : (P : Fired → Type 0) (low high : ℕ)
      → ((f : Fired) (from to : ℕ) → low ≤ from → to ≤ high → Ran w order context base at f from to → P f)
      → (from : ℕ) (fs : List Fired) (notes : List PlacedEntry) (to : ℕ) → HaveRun w order context base at from fs notes to → low ≤ from → to ≤ high
      → AllByRecursion P fs
  each_ran P low high one from [] notes to run under over = tt
  each_ran P low high one from (f ∷ fs) notes to run under over = (
    one f from run.0 under (omega (arith, run_forward run.0 fs run.2 to run.4, over)) run.1,
    each_ran P low high one run.0 fs run.2 to run.4 (omega (arith, under, forward run.1)) over,
  )

  run_true : (c : Label) (low high : ℕ) (all : List PlacedEntry) → AreMoments w c all low high
      → (before : List Action) (from : ℕ) (fs : List Fired) (notes : List PlacedEntry) (to : ℕ) (early : List PlacedEntry)
      → HaveRun w order context base at from fs notes to → all ≡ early ++ notes → AreMade order low from early
      → map receipt early ≡ all_entered before → low ≤ from → to ≤ high → AreTrue w c from before (flat_map (fires base at) fs) to
  run_true c low high all moments before from [] notes to early run is one are under over = run.1
  run_true c low high all moments before from (f ∷ fs) notes to early run is one are under over =
      let on = run_forward run.0 fs run.2 to run.4 in
      let rest = run_made run.0 fs run.2 to run.4 in
      let split : all ≡ early ++ (notes_of run.1 ++ run.2) = is ∙ ap (λ xs. early ++ xs) run.3 in
      true-append w c from run.0 to before (fires base at f) (flat_map (fires base at) fs)
      (fire_true c before run.1 low high all early run.2 split one
      (made_wider order run.0 run.0 to high run.2 (omega arith) over rest.0) are under (omega (arith, on, over)) moments)
      (run_true c low high all moments (before ++ fires base at f) run.0 fs run.2 to (early ++ notes_of run.1) run.4
      (split ∙ sym (append_assoc early (notes_of run.1) run.2))
      (made-append order low from run.0 early (notes_of run.1) one (made_of run.1) under (forward run.1))
      (map-append receipt early (notes_of run.1) ∙ ap (λ xs. xs ++ map receipt (notes_of run.1)) are ∙ ap (λ xs. all_entered before ++ xs) (notes_are run.1)
      ∙ sym (all_entered-append before (fires base at f)))
      (omega (arith, under, forward run.1)) over)

-- ---- whole runs

-- what an expiry run did that ran these callbacks
abbrev pub expiring : ℕ → ℕ → ℕ → ℕ → List Fired → Trace
expiring base at first last fired =
    record { at = at; fired = fired; moved = []; actions = flat_map (fires base at) fired; first = first; last = last }

module _ {w : Witness} {moves : Spans} {c : Label} {context : Context} {base budget at first last : ℕ} {notes : List PlacedEntry} {fired : List Fired}
    {answer : Answer} {before after : Seen} (order : List SystemEntry)
    (kept : IsKept w moves c (expiring base at first last fired) notes (calls.Expire context base budget) answer before after)
    (starts : first ≡ moves.first c)
    (run : HaveRun w order context base at first fired notes last) where
  expired : (IsExpiryRun (sight_of w first last) w.script context at base fired at (map (λ f. f.timer) fired) (flat_map (fires base at) fired)
      → Does (sight_of w first last) w.script at (calls.Expire context base budget) answer fired [] (flat_map (fires base at) fired))
      → AnswerHolds w first last c at (flat_map (fires base at) fired) (calls.Expire context base budget) answer
      → FitsCall w c (calls.Expire context base budget) answer before after
  expired does seen =
      call_made_whole kept starts
      (does (record {
        one_reading = refl;
        claimed = refl;
        done = refl;
        contexts = each_ran w order context base at _ first last
            (λ f from to under over ran. ran.own) first fired notes last run (omega arith) (omega arith);
        bodies = each_ran w order context base at (λ f. IsBody (sight_of w first last) w.script (kind_of w.script f.timer) at f) first last
            (λ f from to under over ran.
            body_wider (sight_of w from to) (sight_of w first last) (sight_wider w under over) w.script
            (kind_of w.script f.timer) at f ran.kind) first fired notes last run (omega arith) (omega arith);
      }))
      (tt, tt)
      (run_true w order context base at c (moves.first c) last notes
      (moment_of kept) [] first fired notes last [] run refl
      (none_made order (moves.first c) first) refl (omega (arith, starts)) (omega arith))
      seen

module _ {w : Witness} {moves : Spans} {c : Label} {context : Context} {base budget at first last : ℕ} {notes : List PlacedEntry} {fired : List Fired}
    {before after : Seen} (order : List SystemEntry) where
  -- a run that left nothing to do
  pub expire_done : IsKept w moves c (expiring base at first last fired) notes (calls.Expire context base budget)
      (answers.Done at (map (λ f. f.timer) fired)) before after
      → first ≡ moves.first c → HaveRun w order context base at first fired notes last → length fired < budget
      → IsDone w context at base last
      → FitsCall w c (calls.Expire context base budget) (answers.Done at (map (λ f. f.timer) fired)) before after
  expire_done kept starts ran few done = expired order kept starts ran (λ run. (run, few)) done

  -- a run that ended with its budget
  pub expire_more : IsKept w moves c (expiring base at first last fired) notes (calls.Expire context base budget)
      (answers.More at (map (λ f. f.timer) fired)) before after
      → first ≡ moves.first c → HaveRun w order context base at first fired notes last → length fired ≡ budget
      → FitsCall w c (calls.Expire context base budget) (answers.More at (map (λ f. f.timer) fired)) before after
  expire_more kept starts ran all = expired order kept starts ran (λ run. (run, all)) tt

  -- a run that met a function that ran on its base
  pub expire_busy : {timer generation : ℕ} → IsKept w moves c (expiring base at first last fired) notes (calls.Expire context base budget)
      (answers.Busy at (map (λ f. f.timer) fired) timer generation) before after
      → first ≡ moves.first c → HaveRun w order context base at first fired notes last → length fired < budget
      → running_on base (in_context context (timer_along w last) timer) ≡ Some generation
      → FitsCall w c (calls.Expire context base budget) (answers.Busy at (map (λ f. f.timer) fired) timer generation) before after
  expire_busy kept starts ran few runs = expired order kept starts ran (λ run. (run, few)) runs
