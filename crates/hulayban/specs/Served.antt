-- What a function does of a handler that has one of objects, and was lent one of a caller.
use Rattle.std.specs.Prelude.{◌≡◌}
use Rattle.ktime.specs.Readings.{ClockReading}
use Rattle.base_row.specs.declared.view.Opening.{Opening}
use Rattle.hr_timers.specs.declared.handler.Restart.{Restart}
use Rattle.hr_timers.specs.declared.numbers.ClaimNumbers.{ClaimNumbers}
use Rattle.hr_timers.specs.Handlers.{Meaning}
use Rattle.hr_timers.specs.Known.{KnownOfTimers}
use Rattle.timer_objects.specs.declared.object.Kind.{Kind}
use Rattle.timer_objects.specs.declared.object.Kind.TheVariants as kinds
use Rattle.timer_objects.specs.Known.{ObjectsOf, decl_at}
use Rattle.timer_objects.specs.QueuedFirings.{FiresAll, QueuedFiring}

module _ {A : Type 0} (m : Meaning A) (o : Opening) (f f' : QueuedFiring) (h h' : A) (v w : KnownOfTimers) (c : ClaimNumbers) (reading : ClockReading)
    (restart : Restart) where
  -- a timer by itself runs the caller's function, and objects are left alone; an object is triggered, and the caller's is left alone
  abbrev pub ServedBy : Kind → Type 0
  ServedBy kinds.Raw = m.did o h h' v w c reading restart × (f' ≡ f)
  ServedBy kind = FiresAll o f f' v w c reading restart × (h' ≡ h)

-- a function has run by a handler of these objects, which still has what it was lent
pub record Serves {A N M : Type 0} (m : Meaning A) (o : Opening) (x : ObjectsOf) (lent lent' : N) (kept kept' : M) (f f' : QueuedFiring) (h h' : A)
    (v w : KnownOfTimers) (c : ClaimNumbers) (reading : ClockReading) (restart : Restart) : Type 0 where
  pub lent_still : lent' ≡ lent
  pub kept_still : kept' ≡ kept
  pub of : f.objects.now ≡ x
  pub does : ServedBy m o f f' h h' v w c reading restart (decl_at x c.timer).kind
