use Rattle.std.proofs.Common.{◌+◌, ap, sym, ◌∙◌}
use Rattle.seq_timer.specs.Steps.{Timer}
use Rattle.hr_timers.proofs.Logging.{cancels_one}
use Rattle.hr_timers.proofs.cancelling.cancel_held.Goals as goal

pub returns-clause-cancels : goal.returns-clause-cancels
returns-clause-cancels g c =
    let is = sym c.state_of-state.ensures in
    cancels_one g.S.ReceiptSink.pushed c.args.row.now.about c.args.pass.now.knows c.enter_once.new.pass.knows c.args.timer c.in-Some-armed.generation _
    c.args.sink.now c.enter_once.new.sink
    (ap (λ (t : Timer). t.armed) is ∙ (sym c.armed.ensures ∙ c.in-Some-armed.is))
    (ap (λ (t : Timer). t.running) is ∙ (sym c.running.ensures ∙ c.in_default.is))
    c.requires.holds.on.still
    (ap (λ n. n + 1) (c.stamp-stamp.ensures ∙ ap (λ (t : Timer). t.stamp) c.state_of-state.ensures))
    c.enter_once.ensures.adds c.enter_once.ensures.claims c.enter_once.ensures.logged
