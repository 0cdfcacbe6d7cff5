use Rattle.std.specs.Prelude.{◌≡◌}
use Rattle.hr_timers.specs.Carriers.{IsCarrierOf}
use Rattle.shared_timer_uses.proofs.tests.of_tries.land.Given as goal

abbrev pub invariant-loop : goal.invariant-loop
invariant-loop g l = record {
  can : (goal.iterator-loop g).can_next l.iterator';
  ends : (goal.iterator-loop g).is_finite l.iterator';
  carrier : IsCarrierOf l.timers l.carrier;
  claims : l.carrier.pass.known.claims ≡ l.fn.carrier.pass.known.claims;
}
