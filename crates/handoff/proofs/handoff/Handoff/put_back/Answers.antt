use Rattle.atomic_table.specs.Table.{step}
use mathlib.Core.Option.{none}
use Rattle.handoff.specs.Handoffs.{ReturnsValue}
use Rattle.handoff.proofs.Steps.{may_step, returns_value}
use Rattle.handoff.proofs.handoff.Handoff.put_back.Goals as goal

pub store-requires : goal.store-requires
store-requires g c =
    let can = g.T.Task.can in
    let done = g.T.Task.done in
    let h = c.args.self.now in
    let told = c.requires.worker in
    may_step can done c.self.view_is c.self.invariant.0 c.args.worker.now (λ x. 0) (λ n m x after. ReturnsValue (step n 0 0 0 none) m 0 after) told.1.1.1
    (returns_value can done h.key h.id.slots _ told.0 told.1.0 told.1.1.0)
