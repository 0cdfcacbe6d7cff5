use Rattle.std.proofs.Common.{rules}
use Rattle.lane_run.proofs.Making.{whole_of}
use Rattle.lane_run.proofs.world.World.make.Goals as goal

pub invariant_of-world : goal.invariant_of-world
invariant_of-world c = whole_of c.args.script.now _ c.requires.range (search rules)
