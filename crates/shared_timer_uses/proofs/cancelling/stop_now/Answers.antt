use Rattle.std.proofs.Common.{subst}
use Rattle.hr_timers.specs.Calls.{Cancels}
use Rattle.shared_timer_uses.proofs.Knowing.{cancel_disarms, cancel_rests, cancel_running, no_places, one_place}
use Rattle.shared_timer_uses.proofs.cancelling.stop_now.Goals as goal

pub returns-in-Tried-Cancelled-clause-stopped : goal.returns-in-Tried-Cancelled-clause-stopped
returns-in-Tried-Cancelled-clause-stopped c =
    let told = subst (λ a. Cancels c.args.timers.now.about c.args.pass.now.known c.cancel_now.new.pass.known c.args.timer a)
    c.in-Tried-Cancelled.field-0-is c.in-Tried-Cancelled.ensures.cancels in
    (cancel_disarms _ _ _ _ _ _ told, one_place _ _ _ told.at _ told.made)

pub returns-in-Tried-Idle-clause-stopped : goal.returns-in-Tried-Idle-clause-stopped
returns-in-Tried-Idle-clause-stopped c =
    let told = subst (λ a. Cancels c.args.timers.now.about c.args.pass.now.known c.cancel_now.new.pass.known c.args.timer a)
    c.in-Tried-Idle.field-0-is c.in-Tried-Idle.ensures.cancels in
    (cancel_rests _ _ _ _ _ told, no_places _ _ _ told.at told.made)

pub returns-in-Tried-Running-clause-stopped : goal.returns-in-Tried-Running-clause-stopped
returns-in-Tried-Running-clause-stopped c =
    let told = subst (λ a. Cancels c.args.timers.now.about c.args.pass.now.known c.cancel_now.new.pass.known c.args.timer a)
    c.in-Tried-Running.field-0-is c.in-Tried-Running.ensures.cancels in
    (cancel_running _ _ _ _ _ _ told, no_places _ _ _ told.at told.made)
