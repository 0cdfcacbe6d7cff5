use Rattle.std.proofs.Common.{sym, subst}
use Rattle.trace_check.specs.Holding.{TellsPassed}
use Rattle.trace_check.specs.Knowledge.{with_claim}
use Rattle.trace_check.proofs.Padding.{OnOk_then}
use Rattle.trace_check.proofs.checker.Checker.note_claim.Goals as goal

pub returns-in-Some : goal.returns-in-Some
returns-in-Some c = λ k h. OnOk_then c.note_claim.result (c.note_claim.ensures k.claims h.queues) (λ tells. record {
  timers = h.timers;
  processors = h.processors;
  queues = subst (λ claim. TellsPassed c.note_claim.new.queues (with_claim claim k.claims)) (sym c.in-Some.is) tells;
  count = h.count;
})
