-- What the function of a claim does to an object, to the queue of signals, or by its callback, is one thing at one moment.
use Rattle.std.proofs.Common.{◌≡◌, ◌≤◌, ℕ, List, [], ◌∷◌, ap, sym, ◌∙◌, subst, refl, length, arith, Bool, true, false, inl, inr}
use Rattle.std.specs.Prelude.{◌+◌, ◌++◌}
use Rattle.std.proofs.lemmas.Bool.{true≢false}
use Rattle.ktime.specs.Readings.{ClockReading}
use Rattle.seq_timer.specs.Calls.{asked_for}
use Rattle.seq_timer.specs.declared.answer.CancelAnswer.TheVariants as cancels
use Rattle.seq_timer.specs.declared.event.EventBy.TheVariants as events
use Rattle.seq_timer.specs.declared.observation.Observation.TheVariants as observations
use Rattle.ktime.specs.declared.mode.Mode.TheVariants as modes
use Rattle.timer_setting.specs.declared.object_call.ObjectCall.{ObjectCall}
use Rattle.timer_setting.specs.declared.object_call.ObjectCall.TheVariants as calls
use Rattle.timer_setting.specs.declared.object_call.ObjectReply.{ObjectReply}
use Rattle.base_row.specs.declared.log.Receipt.{Receipt}
use Rattle.base_row.specs.declared.view.Opening.{Opening}
use Rattle.counted_row.specs.declared.view.Entry.{Entry}
use Rattle.hr_timers.specs.declared.numbers.ClaimNumbers.{ClaimNumbers}
use Rattle.hr_timers.specs.Known.{KnownOfTimers, timer_then}
use Rattle.hr_timers.specs.declared.handler.Restart.{Restart}
use Rattle.signal_queue.specs.Rules.{turns}
use Rattle.signal_queue.specs.Turns.{waiting_after}
use Rattle.signal_queue.specs.declared.signal.Signal.{Signal}
use Rattle.signal_queue.specs.declared.signal.Turn.TheVariants.{Pushed}
use Rattle.signal_queue.specs.declared.view.QueueView.{QueueView}
use Rattle.timer_objects.specs.declared.callback.Callback.{Callback}
use Rattle.timer_objects.specs.declared.callback.Callback.TheVariants as callbacks
use Rattle.timer_objects.specs.declared.log.ObjectReceipt.{ObjectReceipt}
use Rattle.timer_objects.specs.declared.object.Object.{Object}
use Rattle.timer_objects.specs.declared.object.Object.TheVariants as objects
use Rattle.timer_objects.specs.Callbacks.{RunsCallback, forward_noted, look_receipt, start_noted}
use Rattle.timer_objects.specs.Known.{ObjectsOf, ObjectsPass, seen_of}
use Rattle.timer_objects.specs.Meaning.{object_meaning}
use Rattle.timer_objects.specs.Signals.{FiresQueued, HasNoRoom, IsPushedBy, object_sends}
use Rattle.timer_objects.specs.Steps.{ObjectAllows, object_answer}
use Rattle.timer_objects.specs.Triggers.{EntersTrigger, SkipsTrigger, Triggers, trigger_refused}
use Rattle.answer_laws.specs.ObjectReads.{ExpiryMoment, callback_moment, queued_at, sent_at, trigger_at}
use Rattle.answer_laws.specs.Outcomes.{SameOwn, StartMoment}
use Rattle.answer_laws.specs.Rows.{SameOfRow, SamePlaces}
use Rattle.answer_laws.proofs.ObjectCalls.{entry_of}
use Rattle.answer_laws.proofs.Outcomes.{looked_once, own_same}
use Rattle.answer_laws.proofs.RowCalls.{commits_once, looks_once, reads_once, row_same, state_once}
use Rattle.answer_laws.proofs.SignalCalls.{adds_once, no_room, places_same}
use Rattle.answer_laws.proofs.TimerCalls.{cancel_once, forward_once, start_once}

-- ---- triggers

module _ (x : ObjectsOf) (p q q' : ObjectsPass) (log l l' : List ObjectReceipt) (v w w' : KnownOfTimers) (id : ℕ) where
  abbrev pub Alike : Type 0
  Alike = (l ≡ l') × SameOfRow q q' × SameOwn w w' × (seen_of q id ≡ seen_of q' id)

  entered : (call : ObjectCall) (c : EntersTrigger x p q log l v w id call) (d : EntersTrigger x p q' log l' v w' id call)
      → c.commits.adds.before ≡ d.commits.adds.before → Alike
  entered call c d e =
      let same = commits_once object_meaning p q p q' id call call (row_same p) refl c.commits d.commits e in
      let begun = looked_once _ _ _ _ (own_same v) c.turn.begins.looks d.turn.begins.looks in (
        c.receipt ∙ (ap (λ z. log ++ entry_of id z call (object_answer c.commits.state call) ∷ []) e
            ∙ (ap (λ s. log ++ entry_of id d.commits.adds.before call (object_answer s call) ∷ []) same.0 ∙ sym d.receipt)),
        same.2,
        looked_once _ _ _ _ (looked_once _ _ _ _ begun c.looks d.looks) c.turn.ends.looks d.turn.ends.looks,
        same.1,
      )

  skipped : (call : ObjectCall) → SkipsTrigger x p q log l v w id call → SkipsTrigger x p q' log l' v w' id call → seen_of q id ≡ seen_of q' id → Alike
  skipped call c d e = (
    c.receipt ∙ (ap (λ (z : List (Entry ObjectCall ObjectReply)).
        log ++ record { object = id; number = length z; call = call; reply = trigger_refused (length z) } ∷ []) e ∙ sym d.receipt),
    (reads_once object_meaning p q q' id c.reads d.reads e).1,
    looked_once _ _ _ _ (own_same v) c.looks d.looks,
    e,
  )

pub no_skip : (x : ObjectsOf) (p q q' : ObjectsPass) (log l l' k : List ObjectReceipt) (v w w' : KnownOfTimers) (id : ℕ) (call call' : ObjectCall)
    (c : EntersTrigger x p q log l v w id call) → SkipsTrigger x p q' k l' v w' id call' → c.commits.adds.before ≡ seen_of q' id → ⊥
no_skip x p q q' log l l' k v w w' id call call' c d e = omega (arith, c.room, d.full, ap length e)

pub trigger_once : (x : ObjectsOf) (p q q' : ObjectsPass) (log l l' : List ObjectReceipt) (v w w' : KnownOfTimers) (n : ClaimNumbers) (call : ObjectCall)
    (c : Triggers x p q log l v w n call) (d : Triggers x p q' log l' v w' n call)
    → trigger_at x p q log l v w n call c ≡ trigger_at x p q' log l' v w' n call d → Alike x p q q' log l l' v w w' n.timer
trigger_once x p q q' log l l' v w w' n call (inl c) (inl d) e = entered x p q q' log l l' v w w' n.timer call c d e
trigger_once x p q q' log l l' v w w' n call (inl c) (inr d) e = absurd (no_skip x p q q' log l l' log v w w' n.timer call call c d e)
trigger_once x p q q' log l l' v w w' n call (inr c) (inl d) e = absurd (no_skip x p q' q log l' l log v w' w n.timer call call d c (sym e))
trigger_once x p q q' log l l' v w w' n call (inr c) (inr d) e = skipped x p q q' log l l' v w w' n.timer call c d e

-- ---- queued timers

-- an object that takes an overflow would send a signal
overflows : (s : Object) (generation : ℕ) (reading : ClockReading) → ObjectAllows s (calls.Overflow generation reading)
    → object_sends s generation reading ≡ true
overflows objects.Raw g r may = absurd may
overflows (objects.Posix t) g r may = absurd may
overflows (objects.Fd t) g r may = absurd may
overflows (objects.Sleeper s) g r may = absurd may
overflows (objects.Queued t) g r may = may.1

module _ (o : Opening) (v w v' w' : KnownOfTimers) (s t t' : QueueView) (id : ℕ) where
  abbrev signal : ℕ → Signal
  signal n = record { timer = id; number = n }

  sent_once : (b b' : Bool) (n n' : ℕ) → b ≡ b' → n ≡ n' → (c : IsPushedBy o v w b s t (signal n)) (d : IsPushedBy o v' w' b' s t' (signal n'))
      → sent_at o v w b s t (signal n) c ≡ sent_at o v' w' b' s t' (signal n') d → (turns t ≡ turns t') × SamePlaces t.pass t'.pass
  sent_once true true n n' e f c d at =
      adds_once s.pass t.pass s.pass t'.pass 0 _ _ (places_same s.pass) c.0 d.0 at (ap (λ k. Pushed (record { timer = id; number = k }) ∷ []) f)
  sent_once true false n n' e f c d at = absurd (true≢false e)
  sent_once false true n n' e f c d at = absurd (true≢false (sym e))
  sent_once false false n n' e f c d at = (
    at,
    subst (λ z. SamePlaces z.pass t'.pass) (sym c)
        (subst (λ z. SamePlaces s.pass z.pass) (sym d) (places_same s.pass)),
  )

not_full : (o : Opening) (v w v' w' : KnownOfTimers) (s t t' : QueueView) (k : Signal) (b : Bool) → b ≡ true
    → (c : IsPushedBy o v w b s t k) → HasNoRoom o v' w' s t' → sent_at o v w b s t k c ≡ turns t' → ⊥
not_full o v w v' w' s t t' k true e c full at = no_room c.0.before (turns t) _ s.room c.0.last
    (subst (λ n. length (waiting_after [] (turns t)) ≤ n) c.4 c.1) (ap (λ z. length (waiting_after [] z)) at ∙ full.0.full)
not_full o v w v' w' s t t' k false e c full at = absurd (true≢false (sym e))

module _ (o : Opening) (x : ObjectsOf) (p : ObjectsPass) (log : List ObjectReceipt) (v : KnownOfTimers) (s : QueueView) (id g : ℕ) (r : ClockReading) where
  -- at one moment a signal isn't both sent and without room
  both : (q q' : ObjectsPass) (l l' : List ObjectReceipt) (w w' : KnownOfTimers) (t t' : QueueView)
      → (c : EntersTrigger x p q log l v w id (calls.Trigger g r))
      (k : IsPushedBy o c.begun c.worked (object_sends c.commits.state g r) s t (record { timer = id; number = length c.commits.adds.before + 1 }))
      (d : EntersTrigger x p q' log l' v w' id (calls.Overflow g r)) → HasNoRoom o d.begun d.worked s t' → c.commits.adds.before ≡ d.commits.adds.before
      → sent_at o c.begun c.worked (object_sends c.commits.state g r) s t (record { timer = id; number = length c.commits.adds.before + 1 }) k ≡ turns t' → ⊥
  both q q' l l' w w' t t' c k d full e at =
      let state = state_once object_meaning _ _ id _ _ _ _ refl e c.commits.at d.commits.at in
      not_full o c.begun c.worked d.begun d.worked s t t' _ (object_sends c.commits.state g r)
      (ap (λ z. object_sends z g r) state ∙ overflows d.commits.state g r d.may) k full at

  module _ (q q' : ObjectsPass) (l l' : List ObjectReceipt) (w w' : KnownOfTimers) (t t' : QueueView) where
    pub queued_once : (c : FiresQueued o x p q log l v w s t id g r) (d : FiresQueued o x p q' log l' v w' s t' id g r)
        → queued_at x p q log l v w o s t id g r c ≡ queued_at x p q' log l' v w' o s t' id g r d
        → Alike x p q q' log l l' v w w' id × (turns t ≡ turns t') × SamePlaces t.pass t'.pass
    queued_once (inl c) (inl d) e =
        let seen = ap (λ (m : ExpiryMoment). m.seen) e in
        let state = state_once object_meaning _ _ id _ _ _ _ refl seen c.enters.commits.at d.enters.commits.at in
        let sent = sent_once o c.enters.begun c.enters.worked d.enters.begun d.enters.worked s t t' id _ _ _ _ (ap (λ z. object_sends z g r) state)
        (ap (λ (z : List (Entry ObjectCall ObjectReply)). length z + 1) seen) c.sent d.sent (ap (λ (m : ExpiryMoment). m.pushed) e) in
        (entered x p q q' log l l' v w w' id (calls.Trigger g r) c.enters d.enters seen, sent.0, sent.1)
    queued_once (inl c) (inr (inl d)) e = absurd (both q q' l l' w w' t t' c.enters c.sent d.enters d.full
        (ap (λ (m : ExpiryMoment). m.seen) e) (ap (λ (m : ExpiryMoment). m.pushed) e))
    queued_once (inl c) (inr (inr d)) e =
        absurd (no_skip x p q q' log l l' log v w w' id _ _ c.enters d.skips (ap (λ (m : ExpiryMoment). m.seen) e))
    queued_once (inr (inl c)) (inl d) e = absurd (both q' q l' l w' w t' t d.enters d.sent c.enters c.full
        (sym (ap (λ (m : ExpiryMoment). m.seen) e)) (sym (ap (λ (m : ExpiryMoment). m.pushed) e)))
    queued_once (inr (inl c)) (inr (inl d)) e = (
      entered x p q q' log l l' v w w' id (calls.Overflow g r) c.enters d.enters (ap (λ (m : ExpiryMoment). m.seen) e),
      ap (λ (m : ExpiryMoment). m.pushed) e,
      looks_once _ _ _ c.full.0.looks d.full.0.looks,
    )
    queued_once (inr (inl c)) (inr (inr d)) e =
        absurd (no_skip x p q q' log l l' log v w w' id _ _ c.enters d.skips (ap (λ (m : ExpiryMoment). m.seen) e))
    queued_once (inr (inr c)) (inl d) e =
        absurd (no_skip x p q' q log l' l log v w' w id _ _ d.enters c.skips (sym (ap (λ (m : ExpiryMoment). m.seen) e)))
    queued_once (inr (inr c)) (inr (inl d)) e =
        absurd (no_skip x p q' q log l' l log v w' w id _ _ d.enters c.skips (sym (ap (λ (m : ExpiryMoment). m.seen) e)))
    queued_once (inr (inr c)) (inr (inr d)) e = (
      skipped x p q q' log l l' v w w' id (calls.Trigger g r) c.skips d.skips (ap (λ (m : ExpiryMoment). m.seen) e),
      ap (λ (m : ExpiryMoment). m.pushed) e,
      subst (λ z. SamePlaces z.pass t'.pass) (sym c.none) (subst (λ z. SamePlaces s.pass z.pass) (sym d.none) (places_same s.pass)),
    )

-- ---- callbacks

module _ (o : Opening) (v w w' : KnownOfTimers) (n : ClaimNumbers) (r : ClockReading) (log l l' : List Receipt) where
  pub callback_once : (k : Callback) (a a' : Restart) (c : RunsCallback o v w n r log l k a) (d : RunsCallback o v w' n r log l' k a')
      → callback_moment o v w n r log l k a c ≡ callback_moment o v w' n r log l' k a' d → (a ≡ a') × (l ≡ l') × SameOwn w w'
  callback_once callbacks.Once a a' c d e =
      (c.2 ∙ sym d.2, c.1 ∙ sym d.1, subst (λ z. SameOwn z w') (sym c.0) (subst (SameOwn v) (sym d.0) (own_same v)))
  callback_once (callbacks.Every interval) a a' c d e =
      let at = ap (λ (m : StartMoment). m.at) e in
      let same = forward_once o v v w w' (own_same v) n r interval c.0.answer d.0.answer c.0.forwards d.0.forwards at in (
        c.1 ∙ sym d.1,
        c.0.receipts ∙ (ap (λ z. log ++ forward_noted n (timer_then o z n.timer) r interval c.0.answer) at
            ∙ (ap (λ z. log ++ forward_noted n (timer_then o d.0.forwards.at n.timer) r interval z) same.0 ∙ sym d.0.receipts)),
        same.1.own,
      )
  callback_once callbacks.Cancels a a' c d e =
      let same = cancel_once o v v w w' (own_same v) n.timer _ _ c.0.cancels d.0.cancels (ap (λ (m : StartMoment). m.at) e) in (
        c.1 ∙ sym d.1,
        c.0.receipt ∙ (ap (λ z. log ++ look_receipt n z events.Cancel (observations.Running n.generation) ∷ []) (ran _ _ _ same.0) ∙ sym d.0.receipt),
        same.1.own,
      )
    where
      ran : (g i j : ℕ) → cancels.Running g i ≡ cancels.Running g j → i ≡ j
      ran g i j f = cc
  callback_once (callbacks.Starts ns asked) a a' c d e =
      let same = start_once o v v w w' (own_same v) n.timer _ _ c.0.answer d.0.answer c.0.starts d.0.starts refl e in (
        c.1 ∙ sym d.1,
        c.0.receipts ∙ (ap (λ (m : StartMoment). log ++ start_noted n (timer_then o m.at n.timer) (asked_for modes.Rel ns 0 asked r) c.0.answer) e
            ∙ (ap (λ z. log ++ start_noted n (timer_then o d.0.starts.at n.timer) (asked_for modes.Rel ns 0 asked r) z) same.0 ∙ sym d.0.receipts)),
        same.1.own,
      )
