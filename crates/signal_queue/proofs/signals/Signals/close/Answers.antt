use Rattle.std.proofs.Common.{[], subst}
use Rattle.pass_names.specs.Passes.{Begins}
use Rattle.signal_queue.specs.Rules.{turns}
use Rattle.signal_queue.specs.Turns.{popped, pushed, waiting_after}
use Rattle.signal_queue.proofs.Turns.{whole}
use Rattle.signal_queue.proofs.signals.Signals.close.Goals as goal

pub returns-clause-popped : goal.returns-clause-popped
returns-clause-popped c =
    let known = c.into_seat.ensures.rests.0.known in
    subst (λ v. Begins (popped (turns v)) (pushed (turns v))) c.into_seat.ensures.knows
    (record { rest = waiting_after [] (turns c.into_seat.result.me.0.client); whole = whole _ [] (turns c.into_seat.result.me.0.client) known.legal })
