use Rattle.atomic_table.specs.Table.{step}
use mathlib.Core.Option.{none}
use Rattle.handoff.specs.Handoffs.{GivesValue}
use Rattle.handoff.proofs.Steps.{gives_value, may_step}
use Rattle.handoff.proofs.handoff.Handoff.put.Goals as goal

pub store-requires : goal.store-requires
store-requires g c =
    let can = g.T.Task.can in
    let done = g.T.Task.done in
    let h = c.args.self.now in
    let told = c.requires.giver in
    may_step can done c.self.view_is c.self.invariant.0 c.args.giver.now (λ x. 1) (λ n m x after. GivesValue (step n 0 1 0 none) m 1 after) told.1.1
    (gives_value can done h.key h.id.slots _ told.0 told.1.0)
