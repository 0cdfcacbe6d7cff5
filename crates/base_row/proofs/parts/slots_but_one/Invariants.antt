use Rattle.std.proofs.Common.{◌≡◌, replicate, Some}
use Rattle.seq_timer.specs.Systems.{no_base}
use Rattle.base_row.proofs.parts.slots_but_one.Given as goal

abbrev pub invariant-loop : goal.invariant-loop
invariant-loop l = l.slots.items ≡ replicate l.counter (Some (no_base l.fn.timers))
