use Rattle.atomic_table.specs.Table.{step}
use mathlib.Core.Option.{none}
use Rattle.handoff.specs.Handoffs.{LooksForWork}
use Rattle.handoff.proofs.Steps.{looks, may_step}
use Rattle.handoff.proofs.handoff.Handoff.look.Goals as goal

pub load-requires : goal.load-requires
load-requires g c =
    let can = g.T.Task.can in
    let done = g.T.Task.done in
    let h = c.args.self.now in
    may_step can done c.self.view_is c.self.invariant.0 c.args.worker.now (λ x. x) (λ n m. LooksForWork can (step n 0 0 0 none) m) c.requires.worker
    (looks can done h.key h.id.slots _)
