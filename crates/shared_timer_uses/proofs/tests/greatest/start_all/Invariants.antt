use Rattle.std.proofs.Common.{◌≡◌}
use Rattle.hr_timers.specs.Known.{IsPassOf}
use Rattle.shared_timer_uses.proofs.tests.greatest.start_all.Given as goal

abbrev pub invariant-loop-timer : goal.invariant-loop-timer
invariant-loop-timer g l = record {
  pass : IsPassOf l.timers l.pass;
  id : l.pass.known.id ≡ l.fn.pass.known.id;
  claims : l.pass.known.claims ≡ l.fn.pass.known.claims;
}
