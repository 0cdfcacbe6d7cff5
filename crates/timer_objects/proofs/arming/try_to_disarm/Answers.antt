use Rattle.std.proofs.Common.{◌+◌, subst}
use Rattle.base_row.specs.Logs.{kept}
use Rattle.hr_timers.specs.Logged.{CancelsBehind}
use Rattle.timer_objects.proofs.Starting.{disarms_by, running_hinders}
use Rattle.timer_objects.proofs.arming.try_to_disarm.Goals as goal

pub returns-in_default-clause-disarms : goal.returns-in_default-clause-disarms
returns-in_default-clause-disarms g c = λ e.
    disarms_by _ _ _ _ c.args.stamp _ _ _ _ c.in_ok-counter.ensures c.in_ok-answer.ensures.cancels (λ h n is. c.in_default.not-Running h n is)

pub returns-clause-why : goal.returns-clause-why
returns-clause-why g c = λ e.
    running_hinders _ _ _ _ _ _ (subst (λ a. CancelsBehind kept c.args.timers.now.about c.in_ok-counter.counter (c.args.stamp + c.args.stamp)
    c.args.pass.now.known c.try_to_cancel_behind.new.pass.known c.args.timer a c.args.log.now c.try_to_cancel_behind.new.sink) c.in-Running.is
    c.in_ok-answer.ensures.cancels).cancels.cancels
