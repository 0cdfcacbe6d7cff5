use Rattle.std.proofs.Common.{◌==◌, ap}
use Rattle.atomic_table.specs.Table.{step}
use mathlib.Core.Option.{none}
use Rattle.handoff.specs.Handoffs.{TakesValue}
use Rattle.handoff.proofs.Steps.{looked, may_step, takes_value}
use Rattle.handoff.proofs.handoff.Handoff.take.Goals as goal

pub load-requires : goal.load-requires
load-requires g c =
    let can = g.T.Task.can in
    let done = g.T.Task.done in
    let h = c.args.self.now in
    let told = c.requires.giver in
    may_step can done c.self.view_is c.self.invariant.0 c.args.giver.now (λ x. x) (λ n m. TakesValue done (step n 0 0 0 none) m) told.1
    (takes_value can done h.key h.id.slots _ told.0)

pub returns : goal.returns
returns g c = record {
  taken = λ v giver. looked g.T.Task.done c.args.self.now v _ _ giver c.load.ensures.0 (c.load.result == 0) (c.load.ensures.2 v (ap (λ m. m.0.part) giver.me));
}
