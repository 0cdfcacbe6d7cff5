use Rattle.std.specs.Prelude.{◌+◌, ◌≤◌}
use Rattle.hr_timers.specs.Known.{IsPassOf}
use Rattle.hr_timers.specs.Handlers.{KeepsPass, CanServe}
use Rattle.hr_timers.specs.Expiring.{Turns}
use Rattle.hr_timers.proofs.expiry.expire_in.Given as goal

abbrev pub invariant-loop-fired : goal.invariant-loop-fired
invariant-loop-fired g l = record {
  pass : IsPassOf l.fn.timers l.pass;
  room : l.fn.log.spare ≤ l.log.spare + l.fired + l.fired;
  ready : g.H.Handler.meaning.ready l.fn.handler ≤ g.H.Handler.meaning.ready l.handler + l.fired;
  suits : CanServe g.H.Handler.meaning l.fn.timers.about l.handler;
  keeps : KeepsPass l.fn.pass.known l.pass.known;
  turns : Turns g.H.Handler.meaning l.fn.timers.about l.fn.context l.fn.base l.fn.reading l.fired l.fn.pass.known l.fn.handler l.fn.log.receipts l.pass.known
      l.handler l.log.receipts;
}
