use Rattle.std.proofs.Common.{◌≡◌, false}
use Rattle.object_uses.specs.Callers.{KeepsPasses}
use Rattle.object_uses.specs.Queued.{KeepsSignals}
use Rattle.object_uses.proofs.queued.take_signals.Given as goal

abbrev pub invariant-loop : goal.invariant-loop
invariant-loop g l = record {
  keeps : KeepsPasses l.fn.timers l.fn.objects l.fn.pass l.pass l.fn.objects_pass l.objects_pass;
  signals : KeepsSignals l.fn.objects l.fn.signal_pass l.signal_pass;
  more : l.taken.is_drained ≡ false;
}
