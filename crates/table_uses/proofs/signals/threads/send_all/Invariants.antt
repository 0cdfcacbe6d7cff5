use Rattle.std.specs.Prelude.{◌≡◌}
use Rattle.signal_queue.specs.Views.{IsPassOfQueue}
use Rattle.table_uses.proofs.signals.threads.send_all.Given as goal

abbrev pub invariant-loop-number : goal.invariant-loop-number
invariant-loop-number g l = record {
  pass : IsPassOfQueue l.signals l.pass;
  id : l.pass.knows.pass.id ≡ l.fn.pass.knows.pass.id;
}
