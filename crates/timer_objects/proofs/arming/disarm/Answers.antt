use Rattle.std.proofs.Common.{rules, subst}
use Rattle.base_row.specs.Logs.{LogOf}
use Rattle.base_row.specs.declared.log.Receipt.{Receipt}
use Rattle.timer_objects.specs.Arming.{DisarmsInTurn}
use Rattle.timer_objects.proofs.Retrying.{disarms_after}
use Rattle.timer_objects.proofs.arming.disarm.Goals as goal

pub returns-in-Some-true-clause-sets : goal.returns-in-Some-true-clause-sets
returns-in-Some-true-clause-sets g c =
    subst (λ (l : LogOf Receipt). DisarmsInTurn c.args.timers.now.about c.args.pass.now.known c.try_to_disarm.new.pass.known c.args.timer c.args.stamp l.receipts
    c.try_to_disarm.new.log.receipts) c.loop.invariant.log
    (disarms_after c.loop.invariant.looks (c.try_to_disarm.ensures.disarms (search rules)))
