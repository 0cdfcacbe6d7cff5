use Rattle.std.proofs.Common.{◌≡◌, ◌++◌}
use Rattle.std.specs.Prelude.{drop}
use Rattle.seq_timer.specs.Systems.{openings}
use Rattle.seq_timer.proofs.timer_state.make_timers.Given as goal

-- the timers so far and those that are still to be made are all timers
abbrev pub invariant-loop-declared : goal.invariant-loop-declared
invariant-loop-declared l = l.timers.items ++ openings (drop l.declared-index l.declareds) l.fn.terms ≡ openings l.declareds l.fn.terms
