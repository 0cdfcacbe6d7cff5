use Rattle.hr_timers.specs.Known.{IsPassOf}
use Rattle.hr_timers.specs.Handlers.{KeepsPass}
use Rattle.shared_timer_uses.proofs.tests.threads.stop_running.Given as goal

abbrev pub invariant-loop : goal.invariant-loop
invariant-loop g l = record { pass : IsPassOf l.fn.timers l.pass; keeps : KeepsPass l.fn.pass.known l.pass.known }
