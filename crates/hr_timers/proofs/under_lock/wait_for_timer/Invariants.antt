use Rattle.hr_timers.specs.Known.{IsAtRest, OnlySeesMore}
use Rattle.hr_timers.proofs.under_lock.wait_for_timer.Given as goal

abbrev pub invariant-loop : goal.invariant-loop
invariant-loop g l = record {
  rest : IsAtRest l.fn.row l.pass;
  can : (goal.iterator-loop g).can_next l.iterator';
  ends : (goal.iterator-loop g).is_finite l.iterator';
  looks : OnlySeesMore l.fn.pass.knows l.pass.knows;
}
