use Rattle.std.proofs.Common.{inl, inr}
use Rattle.pass_names.proofs.Passes.{begins_trans}
use Rattle.hr_timers.proofs.Logging.{cancels_before}
use Rattle.hr_timers.proofs.Making.{looks_trans}
use Rattle.hr_timers.proofs.cancelling.try_to_cancel.Goals as goal

pub returns-clause-cancels : goal.returns-clause-cancels
returns-clause-cancels g c =
    let u = c.args.pass.now.knows in
    let v = c.lock_timer-held.new.pass.knows in
    cancels_before g.S.ReceiptSink.pushed c.args.row.now.about u v _ c.args.timer c.cancel_held.result c.args.sink.now c.cancel_held.new.sink
    (looks_trans u c.look_idle.new.pass.knows v c.in_default.ensures.cancels c.lock_timer-held.ensures.looks) c.cancel_held.ensures.cancels

pub returns-in-Some-clause-idle : goal.returns-in-Some-clause-idle
returns-in-Some-clause-idle g c = inl c.look_idle.ensures.takes

pub returns-clause-idle : goal.returns-clause-idle
returns-clause-idle g c =
    let made = c.cancel_held.ensures.cancels.cancels.made in
    inr (record {
      at = c.look_idle.new.pass.knows.seen;
      from = c.in_default.ensures.cancels.seen;
      seen = begins_trans c.lock_timer-held.ensures.looks.seen (begins_trans made.from made.seen);
      busy = c.in_default.ensures.busy;
    })
