use Rattle.std.proofs.Common.{◌≡◌, ◌-◌, ◌⊎◌, length}
use Rattle.pass_names.specs.Passes.{Looks}
use Rattle.ktime.specs.Clocks.{last_stamp}
use Rattle.clock_cell.specs.Views.{IsPassOfClock, Hears, writes}
use Rattle.clock_cell.proofs.shared.SharedClock.write.Given as goal

-- no write was added, and the pass has looked, but for the first turn
abbrev pub invariant-loop-after : goal.invariant-loop-after
invariant-loop-after g l = record {
  pass : IsPassOfClock l.self l.pass;
  looks : Looks l.fn.pass.knows.pass l.pass.knows.pass;
  heard : (l.fn.pass.knows.heard ≡ l.pass.knows.heard) ⊎ Hears l.fn.pass.knows l.pass.knows;
}

-- each turn that comes to nothing has seen a write more, and the clock takes only so many
abbrev pub decreases-loop-after : goal.decreases-loop-after
decreases-loop-after g l = last_stamp - length (writes l.pass.knows)
