use Rattle.std.proofs.Common.{arith}
use Rattle.timer_uses.proofs.tests.of_timer_tree.add_to_thousand.Goals as goal

pub returns : goal.returns
returns g c = record { few = omega (arith, c.add_counted.ensures.steps 10 (omega (arith, c.requires.many))) }
