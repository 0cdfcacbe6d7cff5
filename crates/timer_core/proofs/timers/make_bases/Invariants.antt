use Rattle.std.proofs.Common.{◌≡◌, replicate}
use Rattle.seq_timer.specs.Bases.{empty_base}
use Rattle.timer_core.proofs.timers.make_bases.Given as goal

-- as many bases as turns
abbrev pub invariant-loop : goal.invariant-loop
invariant-loop g l = l.bases.items ≡ replicate l.counter (empty_base l.fn.room)
