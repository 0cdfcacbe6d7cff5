use Rattle.pass_names.specs.Passes.{Looks}
use Rattle.signal_queue.specs.Views.{IsPassOfQueue}
use Rattle.ordered_signals.proofs.looking.see_pushes.Given as goal

abbrev pub invariant-loop : goal.invariant-loop
invariant-loop g l = record {
  can : (goal.iterator-loop g).can_next l.iterator';
  ends : (goal.iterator-loop g).is_finite l.iterator';
  pass : IsPassOfQueue l.signals l.pass;
  looks : Looks l.fn.pass.knows.pass l.pass.knows.pass;
}
