-- What a call that takes the next signal leaves of the passes by which it is made.
use Rattle.std.proofs.Common.{ℕ, inl, inr, subst, sym}
use Rattle.ktime.specs.Readings.{ClockReading}
use Rattle.base_row.specs.declared.view.Opening.{Opening}
use Rattle.signal_queue.specs.declared.view.QueueView.{QueueView}
use Rattle.timer_objects.specs.declared.signals.NextSignal.{NextSignal}
use Rattle.timer_objects.specs.declared.signals.NextSignal.TheVariants as nexts
use Rattle.timer_objects.specs.Calls.{Caller}
use Rattle.timer_objects.specs.Known.{KeepsObjectsPass, ObjectsOf}
use Rattle.timer_objects.specs.Signals.{IsForeign, IsQueued, KeepsSignalPass, TakesNext, TakesSignal, TriesQueue}
use Rattle.timer_objects.proofs.Lending.{keeps_both, keeps_same}
use Rattle.timer_objects.proofs.QueuedLending.{signals_looked, signals_taken}
use Rattle.std.specs.Prelude.{◌⊎◌, Option}
use Rattle.hr_timers.proofs.ExpiryTurns.{keeps_trans}
use Rattle.signal_queue.specs.declared.signal.Signal.{Signal}
use Rattle.object_uses.specs.Callers.{KeepsBoth}
use Rattle.object_uses.proofs.Keeping.{keeps_call, keeps_full, keeps_looked, keeps_looks, keeps_none}

both_trans : (a b c : Caller) → KeepsBoth a b → KeepsBoth b c → KeepsBoth a c
both_trans a b c one two =
    (keeps_trans a.timers b.timers c.timers one.0 two.0, keeps_both a.objects b.objects c.objects one.1 two.1)

-- a try of the queue leaves them
keeps_try : {o : Opening} {old tried : Caller} {s t : QueueView} {taken : Option Signal} → TriesQueue o old tried s t taken → KeepsBoth old tried
keeps_try {old = old} {tried = tried} tries =
    (keeps_looks old.timers tried.timers tries.looks, subst (λ (c : Caller). KeepsObjectsPass old.objects c.objects) (sym tries.same) (keeps_same old.objects))

module _ (x : ObjectsOf) (o : Opening) (old new : Caller) (reading : ClockReading) where
  keeps_signal : (timer number : ℕ) (next : NextSignal) → TakesSignal x o old new timer number reading next → KeepsBoth old new
  keeps_signal timer number nexts.NoneQueued takes = absurd takes
  keeps_signal timer number (nexts.Spent i k stamp) takes = keeps_full x o old new timer stamp takes.2
  keeps_signal timer number (nexts.Stale i k) takes = keeps_looked x o old new timer takes.2.looks
  keeps_signal timer number (nexts.Accepted i k overrun) takes = keeps_call x o old new timer 0 0 0 reading _ _ takes.2.made

  taken : (timer number : ℕ) (next : NextSignal)
      → IsForeign x old new timer number next ⊎ (IsQueued x timer × TakesSignal x o old new timer number reading next) → KeepsBoth old new
  taken timer number next (inl foreign) = keeps_none x o old new timer foreign.2
  taken timer number next (inr its) = keeps_signal timer number next its.1

module _ (x : ObjectsOf) (o : Opening) (old new : Caller) (reading : ClockReading) where
  pub keeps_next : (s t : QueueView) (next : NextSignal) → TakesNext x o old new s t reading next → KeepsBoth old new
  keeps_next s t nexts.NoneQueued none = keeps_try none.1
  keeps_next s t (nexts.Spent i k stamp) takes = both_trans old takes.3 new (keeps_try takes.4) (taken x o takes.3 new reading takes.0 takes.1 _ takes.5)
  keeps_next s t (nexts.Stale i k) takes = both_trans old takes.3 new (keeps_try takes.4) (taken x o takes.3 new reading takes.0 takes.1 _ takes.5)
  keeps_next s t (nexts.Accepted i k overrun) takes = both_trans old takes.3 new (keeps_try takes.4) (taken x o takes.3 new reading takes.0 takes.1 _ takes.5)

  -- and of the queue's
  pub keeps_queue : (s t : QueueView) (next : NextSignal) → TakesNext x o old new s t reading next → KeepsSignalPass s t
  keeps_queue s t nexts.NoneQueued none = signals_looked s t none.0.looks
  keeps_queue s t (nexts.Spent i k stamp) takes = signals_taken s t _ takes.2.pops
  keeps_queue s t (nexts.Stale i k) takes = signals_taken s t _ takes.2.pops
  keeps_queue s t (nexts.Accepted i k overrun) takes = signals_taken s t _ takes.2.pops
