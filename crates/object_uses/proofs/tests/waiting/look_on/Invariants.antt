use Rattle.hr_timers.specs.Known.{IsPassOf}
use Rattle.hr_timers.specs.Handlers.{KeepsPass}
use Rattle.object_uses.proofs.tests.waiting.look_on.Given as goal

abbrev pub invariant-loop : goal.invariant-loop
invariant-loop l = record { pass : IsPassOf l.fn.timers l.pass; keeps : KeepsPass l.fn.pass.known l.pass.known }
