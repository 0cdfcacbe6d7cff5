use Rattle.atomic_table.specs.Table.{step}
use mathlib.Core.Option.{none}
use Rattle.handoff.specs.Handoffs.{EndsGiving}
use Rattle.handoff.proofs.Steps.{ends, may_step}
use Rattle.handoff.proofs.handoff.Handoff.end.Goals as goal

pub store-requires : goal.store-requires
store-requires g c =
    let can = g.T.Task.can in
    let done = g.T.Task.done in
    let h = c.args.self.now in
    may_step can done c.self.view_is c.self.invariant.0 c.args.giver.now (λ x. 2) (λ n m x after. EndsGiving (step n 0 2 0 none) m 2 after) c.requires.giver
    (ends can done h.key h.id.slots _)
