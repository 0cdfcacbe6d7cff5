use Rattle.handoff.specs.Seated.{HasGiven}
use Rattle.handoff.proofs.handoff.Handoff.take_back.Given as goal

abbrev pub invariant-loop : goal.invariant-loop
invariant-loop g l = record {
  can : (goal.iterator-loop g).can_next l.iterator';
  ends : (goal.iterator-loop g).is_finite l.iterator';
  given : (v : _) → HasGiven l.self v l.fn.giver → HasGiven l.self v l.giver;
}
