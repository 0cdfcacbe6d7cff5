-- The next signal is one, and what becomes of it.
use Rattle.std.proofs.Common.{◌≡◌, ℕ, [], ◌∷◌, ap, sym, ◌∙◌, subst, refl, true, false, ◌⊎◌, inl, inr}
use Rattle.std.specs.Prelude.{slice_get}
use Rattle.std.proofs.lemmas.Bool.{true≢false}
use Rattle.ktime.specs.Readings.{ClockReading}
use Rattle.timer_setting.specs.declared.answers.AcceptAnswer.TheVariants as acceptances
use Rattle.timer_setting.specs.declared.object_call.ObjectReply.TheVariants as replies
use Rattle.base_row.specs.declared.view.Opening.{Opening}
use Rattle.hr_timers.specs.Known.{KnownOfTimers}
use Rattle.pass_names.specs.SharedHistory.{LooksOn}
use Rattle.posix_timer.specs.Queued.{is_fresh}
use Rattle.posix_timer.specs.declared.queued_state.QueuedState.{QueuedState}
use Rattle.signal_queue.specs.Calls.{FindsEmpty}
use Rattle.signal_queue.specs.Rules.{turns}
use Rattle.signal_queue.specs.Turns.{waiting_after}
use Rattle.signal_queue.specs.declared.signal.Signal.{Signal}
use Rattle.signal_queue.specs.declared.signal.Turn.TheVariants.{Popped}
use Rattle.signal_queue.specs.declared.view.QueueView.{QueueView}
use Rattle.timer_objects.specs.declared.object.Object.TheVariants as objects
use Rattle.timer_objects.specs.declared.signals.NextSignal.{NextSignal}
use Rattle.timer_objects.specs.declared.signals.NextSignal.TheVariants as nexts
use Rattle.timer_objects.specs.declared.wanting.Rearming.TheVariants as rearmings
use Rattle.timer_objects.specs.Calls.{Caller, rearming_call}
use Rattle.timer_objects.specs.Known.{ObjectsOf}
use Rattle.timer_objects.specs.Signals.{TakesNext, TakesOldest, TakesSignal}
use Rattle.timer_objects.proofs.Retrying.{enters_after, full_after, looked_after, timers_waited, turn_after}
use Rattle.answer_laws.specs.Objects.{AreOne, NoMoment, SameCaller}
use Rattle.answer_laws.specs.ObjectReads.{NextMoment, SignalFits, next_at, signal_at, taken_at}
use Rattle.answer_laws.specs.Rows.{SamePlaces}
use Rattle.answer_laws.proofs.BaseCalls.{some_is}
use Rattle.answer_laws.proofs.ObjectCalls.{full_looked, full_made, full_once, look_once, looked_made, rearmed_once}
use Rattle.answer_laws.proofs.Outcomes.{looked_once, own_same}
use Rattle.answer_laws.proofs.RowCalls.{looks_once, row_same}
use Rattle.answer_laws.proofs.SignalCalls.{adds_once, places_same, some_waited}

module _ (x : ObjectsOf) (o : Opening) (old new new' : Caller) (reading : ClockReading) where
  module _ (timer number : ℕ) where
    fresh_stale : (s t : QueuedState) → objects.Queued s ≡ objects.Queued t → is_fresh s number ≡ false → is_fresh t number ≡ true → ⊥
    fresh_stale s t e stale fresh = let f : s ≡ t = cc in true≢false (sym fresh ∙ (ap (λ u. is_fresh u number) (sym f) ∙ stale))

    spent_same : (i k n j l m : ℕ) → i ≡ timer → k ≡ number → j ≡ timer → l ≡ number → n ≡ m → nexts.Spent i k n ≡ nexts.Spent j l m
    spent_same i k n j l m a b c d e = cc

    stale_same : (i k j l : ℕ) → i ≡ timer → k ≡ number → j ≡ timer → l ≡ number → nexts.Stale i k ≡ nexts.Stale j l
    stale_same i k j l a b c d = cc

    accepted_same : (i k n j l m : ℕ) → i ≡ timer → k ≡ number → j ≡ timer → l ≡ number
        → replies.Accept (acceptances.Accepted n) ≡ replies.Accept (acceptances.Accepted m) → nexts.Accepted i k n ≡ nexts.Accepted j l m
    accepted_same i k n j l m a b c d e = cc

    signal_once : (a a' : NextSignal) (c : TakesSignal x o old new timer number reading a) (d : TakesSignal x o old new' timer number reading a')
        → AreOne (signal_at x o old new timer number reading a c) (signal_at x o old new' timer number reading a' d) → (a ≡ a') × SameCaller new new'
    signal_once nexts.NoneQueued a' c d at = absurd c
    signal_once a nexts.NoneQueued c d at = absurd d
    signal_once (nexts.Spent i k n) (nexts.Spent j l m) c d at =
        let same = full_once x o old new new' timer n m c.2 d.2 at in (spent_same i k n j l m c.0 c.1 d.0 d.1 same.0, same.1.caller)
    signal_once (nexts.Spent i k n) (nexts.Stale j l) c d at = absurd (full_looked x o old new new' timer _ n _ c.2 d.2.looks d.2.room at)
    signal_once (nexts.Spent i k n) (nexts.Accepted j l m) c d at =
        absurd (full_made x o old new new' timer (rearming_call rearmings.Accepting reading d.2.made.arm) _ n c.2 d.2.made.enters at)
    signal_once (nexts.Stale i k) (nexts.Spent j l m) c d at = absurd (full_looked x o old new' new timer _ m _ d.2 c.2.looks c.2.room (sym at))
    signal_once (nexts.Stale i k) (nexts.Stale j l) c d at =
        (stale_same i k j l c.0 c.1 d.0 d.1, (look_once old new new' timer _ _ _ _ c.2.looks d.2.looks at).2.caller)
    signal_once (nexts.Stale i k) (nexts.Accepted j l m) c d at = absurd (fresh_stale c.2.state d.2.state
        (looked_made x o old new new' timer (rearming_call rearmings.Accepting reading d.2.made.arm) _ _ _ c.2.looks d.2.made.enters at ∙ d.2.found)
        c.2.stale d.2.fresh)
    signal_once (nexts.Accepted i k n) (nexts.Spent j l m) c d at =
        absurd (full_made x o old new' new timer (rearming_call rearmings.Accepting reading c.2.made.arm) _ m d.2 c.2.made.enters (sym at))
    signal_once (nexts.Accepted i k n) (nexts.Stale j l) c d at = absurd (fresh_stale d.2.state c.2.state
        (looked_made x o old new' new timer (rearming_call rearmings.Accepting reading c.2.made.arm) _ _ _ d.2.looks c.2.made.enters (sym at) ∙ c.2.found)
        d.2.stale c.2.fresh)
    signal_once (nexts.Accepted i k n) (nexts.Accepted j l m) c d at =
        let same = rearmed_once x o old new new' timer rearmings.Accepting reading _ _ c.2.made d.2.made at in
        (accepted_same i k n j l m c.0 c.1 d.0 d.1 same.0, same.1.caller)

-- ---- behind a try of the queue

-- a caller that had only looked at timers
record HasLooked (old tried : Caller) : Type 0 where
  pub looks : LooksOn old.timers tried.timers
  pub same : tried ≡ record old { timers = tried.timers }

-- two of them are the same
looked_alike : (old tried tried' : Caller) → HasLooked old tried → HasLooked old tried' → SameCaller tried tried'
looked_alike old tried tried' p q =
    subst (λ (y : Caller). SameCaller y tried') (sym p.same)
    (subst (λ (y : Caller). SameCaller (record old { timers = tried.timers }) y) (sym q.same) (record {
      timers = looked_once _ _ _ _ (own_same old.timers) p.looks q.looks;
      objects = row_same old.objects;
      log = refl;
      object_log = refl;
    }))

module _ (x : ObjectsOf) (o : Opening) (old new : Caller) (timer number : ℕ) (reading : ClockReading) where
  -- what became of a signal of such a caller became of it of the one before, at one moment
  abbrev ComesTo : Caller → Type 0
  ComesTo tried = (a : NextSignal) (s : TakesSignal x o tried new timer number reading a)
      → (k : TakesSignal x o old new timer number reading a)
      × (signal_at x o tried new timer number reading a s ≡ signal_at x o old new timer number reading a k)

  comes_behind : (k : KnownOfTimers) → LooksOn old.timers k → ComesTo (record old { timers = k })
  comes_behind k looks nexts.NoneQueued s = absurd s
  comes_behind k looks (nexts.Spent i j n) s = ((s.0, s.1, full_after (timers_waited old (record old { timers = k }) looks refl) s.2, s.3), refl)
  comes_behind k looks (nexts.Stale i j) s =
      let stale = s.2 in (
        (
          s.0,
          s.1,
          record {
            state = stale.state;
            stamp = stale.stamp;
            looks = looked_after (timers_waited old (record old { timers = k }) looks refl) stale.looks;
            sent = stale.sent;
            room = stale.room;
            stale = stale.stale;
          },
        ),
        refl,
      )
  comes_behind k looks (nexts.Accepted i j overrun) s =
      let accepts = s.2 in
      let m = accepts.made in (
        (
          s.0,
          s.1,
          record {
            made = record {
              arm = m.arm;
              enters = enters_after (timers_waited old (record old { timers = k }) looks refl) m.enters;
              begun = m.begun;
              worked = m.worked;
              turn = turn_after looks m.turn;
              arms = m.arms;
              bears = m.bears;
            };
            state = accepts.state;
            found = accepts.found;
            fresh = accepts.fresh;
          },
        ),
        refl,
      )

  comes_to : (tried : Caller) → HasLooked old tried → ComesTo tried
  comes_to tried p = subst ComesTo (sym p.same) (comes_behind tried.timers p.looks)

module _ (x : ObjectsOf) (o : Opening) (old tried tried' new new' : Caller) (reading : ClockReading) (p : HasLooked old tried) (q : HasLooked old tried') where
  taken_here : (timer number : ℕ) (a a' : NextSignal) (c : SignalFits x o tried new timer number reading a)
      (d : SignalFits x o tried' new' timer number reading a')
      → AreOne (taken_at x o tried new timer number reading a c) (taken_at x o tried' new' timer number reading a' d) → (a ≡ a') × SameCaller new new'
  taken_here timer number a a' (inl c) (inl d) at = (
    c.1 ∙ sym d.1,
    subst (λ (y : Caller). SameCaller y new') (sym c.2)
        (subst (λ (y : Caller). SameCaller tried y) (sym d.2) (looked_alike old tried tried' p q)),
  )
  taken_here timer number a a' (inl c) (inr d) at = absurd (c.0 d.0)
  taken_here timer number a a' (inr c) (inl d) at = absurd (d.0 c.0)
  taken_here timer number a a' (inr c) (inr d) at =
      let k = comes_to x o old new timer number reading tried p a c.1 in
      let l = comes_to x o old new' timer number reading tried' q a' d.1 in
      signal_once x o old new new' reading timer number a a' k.0 l.0
      (subst (λ m. AreOne m (signal_at x o old new' timer number reading a' l.0)) k.1
      (subst (λ m. AreOne (signal_at x o tried new timer number reading a c.1) m) l.1 at))

  taken_once : (t u n m : ℕ) (a a' : NextSignal) → t ≡ u → n ≡ m → (c : SignalFits x o tried new t n reading a)
      (d : SignalFits x o tried' new' u m reading a')
      → AreOne (taken_at x o tried new t n reading a c) (taken_at x o tried' new' u m reading a' d) → (a ≡ a') × SameCaller new new'
  taken_once t u n m a a' e f c = subst
      (λ k. (d : SignalFits x o tried' new' k m reading a') → AreOne (taken_at x o tried new t n reading a c) (taken_at x o tried' new' k m reading a' d)
      → (a ≡ a') × SameCaller new new') e
      (subst (λ j. (d : SignalFits x o tried' new' t j reading a') → AreOne (taken_at x o tried new t n reading a c) (taken_at x o tried' new' t j reading a' d)
      → (a ≡ a') × SameCaller new new') f (taken_here t n a a' c))

module _ (x : ObjectsOf) (o : Opening) (old : Caller) (s : QueueView) (reading : ClockReading) where
  module _ (new : Caller) (t : QueueView) where
    -- the oldest signal was taken, and came to this
    record Taken (a : NextSignal) (n : TakesNext x o old new s t reading a) : Type 0 where
      pub timer : ℕ
      pub number : ℕ
      pub oldest : TakesOldest s t timer number
      pub tried : Caller
      pub looked : HasLooked old tried
      pub fits : SignalFits x o tried new timer number reading a
      pub moment : next_at x o old new s t reading a n
          ≡ record { popped = oldest.pops.before; object = taken_at x o tried new timer number reading a fits }

    abbrev Sorted : (a : NextSignal) → TakesNext x o old new s t reading a → Type 0
    Sorted a n = ((a ≡ nexts.NoneQueued) × FindsEmpty s t × HasLooked old new ×
        (next_at x o old new s t reading a n ≡ record { popped = turns t; object = NoMoment })) ⊎ Taken a n

    sorted : (a : NextSignal) (n : TakesNext x o old new s t reading a) → Sorted a n
    sorted nexts.NoneQueued n = inl (refl, n.0, record { looks = n.1.looks; same = n.1.same }, refl)
    sorted (nexts.Spent i k m) n = inr (record {
      timer = n.0;
      number = n.1;
      oldest = n.2;
      tried = n.3;
      looked = record { looks = n.4.looks; same = n.4.same };
      fits = n.5;
      moment = refl;
    })
    sorted (nexts.Stale i k) n = inr (record {
      timer = n.0;
      number = n.1;
      oldest = n.2;
      tried = n.3;
      looked = record { looks = n.4.looks; same = n.4.same };
      fits = n.5;
      moment = refl;
    })
    sorted (nexts.Accepted i k m) n = inr (record {
      timer = n.0;
      number = n.1;
      oldest = n.2;
      tried = n.3;
      looked = record { looks = n.4.looks; same = n.4.same };
      fits = n.5;
      moment = refl;
    })

  pub next_once : (new new' : Caller) (t t' : QueueView) (a a' : NextSignal) (c : TakesNext x o old new s t reading a)
      (d : TakesNext x o old new' s t' reading a')
      → (next_at x o old new s t reading a c).popped ≡ (next_at x o old new' s t' reading a' d).popped
      → AreOne (next_at x o old new s t reading a c).object (next_at x o old new' s t' reading a' d).object
      → (a ≡ a') × SameCaller new new' × (turns t ≡ turns t') × SamePlaces t.pass t'.pass
  next_once new new' t t' a a' c d e at = by_kind (sorted new t a c) (sorted new' t' a' d)
    where
      popped_is : (m m' n n' : NextMoment) → m ≡ m' → n ≡ n' → m.popped ≡ n.popped → m'.popped ≡ n'.popped
      popped_is m m' n n' p q r = sym (ap (λ (z : NextMoment). z.popped) p) ∙ (r ∙ ap (λ (z : NextMoment). z.popped) q)

      object_is : (m m' n n' : NextMoment) → m ≡ m' → n ≡ n' → AreOne m.object n.object → AreOne m'.object n'.object
      object_is m m' n n' p q r = subst (λ (z : NextMoment). AreOne z.object n'.object) p (subst (λ (z : NextMoment). AreOne m.object z.object) q r)

      by_kind : Sorted new t a c → Sorted new' t' a' d → (a ≡ a') × SameCaller new new' × (turns t ≡ turns t') × SamePlaces t.pass t'.pass
      by_kind (inl p) (inl q) =
          (p.0 ∙ sym q.0, looked_alike old new new' p.2 q.2, popped_is _ _ _ _ p.3 q.3 e, looks_once _ _ _ p.1.looks q.1.looks)
      by_kind (inl p) (inr q) = absurd (some_waited q.oldest.pops.before _ q.oldest.oldest
          (ap (waiting_after []) (sym (popped_is _ _ _ _ p.3 q.moment e)) ∙ p.1.none))
      by_kind (inr p) (inl q) = absurd (some_waited p.oldest.pops.before _ p.oldest.oldest
          (ap (waiting_after []) (popped_is _ _ _ _ p.moment q.3 e) ∙ q.1.none))
      by_kind (inr p) (inr q) =
          let popped = popped_is _ _ _ _ p.moment q.moment e in
          let signal = some_is _ _ (sym p.oldest.oldest ∙ (ap (λ l. slice_get (waiting_after [] l) 0) popped ∙ q.oldest.oldest)) in
          let same = taken_once x o old p.tried q.tried new new' reading p.looked q.looked p.timer q.timer p.number q.number a a'
          (ap (λ (z : Signal). z.timer) signal) (ap (λ (z : Signal). z.number) signal) p.fits q.fits
          (object_is _ _ _ _ p.moment q.moment at) in
          let queue = adds_once s.pass t.pass s.pass t'.pass 0 _ _ (places_same s.pass) p.oldest.pops q.oldest.pops popped
          (ap (λ z. Popped z ∷ []) signal) in
          (same.0, same.1, queue.0, queue.1)
