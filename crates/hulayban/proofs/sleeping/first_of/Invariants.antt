use Rattle.pass_names.specs.SharedHistory.{LooksOn}
use Rattle.hr_timers.specs.Known.{IsPassOf}
use Rattle.hulayban.proofs.sleeping.first_of.Given as goal

abbrev pub invariant-loop : goal.invariant-loop
invariant-loop g l = record {
  can : (goal.iterator-loop g).can_next l.iterator';
  ends : (goal.iterator-loop g).is_finite l.iterator';
  pass : IsPassOf l.timers l.pass;
  looks : LooksOn l.fn.pass.known l.pass.known;
}
