use Rattle.std.proofs.Common.{◌*◌, ◌≤◌}
use Rattle.seq_timer.specs.Tables.{timer_at}
use Rattle.hr_timers.specs.Known.{IsPassOf}
use Rattle.hr_timers.specs.Ways.{most_to_start}
use Rattle.shared_timer_uses.specs.Callers.{MakesEntries}
use Rattle.shared_timer_uses.proofs.threads.start_often.Given as goal

abbrev pub invariant-loop : goal.invariant-loop
invariant-loop g l = record {
  pass : IsPassOf l.fn.timers l.pass;
  made : MakesEntries l.fn.timer l.made l.fn.pass.known l.pass.known;
  few : l.made ≤ most_to_start (timer_at l.fn.timers.about.timers l.fn.timer).terms l.fn.base * l.counter;
}
