use Rattle.std.proofs.Common.{◌≡◌}
use Rattle.timer_objects.specs.Calls.{HasWaited}
use Rattle.timer_objects.specs.Rearming.{LeavesPasses, caller_of}
use Rattle.timer_objects.proofs.objects.Objects.arm_anew.Given as goal

abbrev pub invariant-loop : goal.invariant-loop
invariant-loop g l = record {
  can : (goal.iterator-loop g).can_next l.iterator';
  ends : (goal.iterator-loop g).is_finite l.iterator';
  leaves : LeavesPasses l.fn.self l.fn.timers l.pass l.objects_pass;
  waits : HasWaited (caller_of l.fn.pass l.fn.objects_pass l.fn.log l.fn.object_log) (caller_of l.pass l.objects_pass l.log l.object_log);
  log : l.log ≡ l.fn.log;
  object_log : l.object_log ≡ l.fn.object_log;
}
