use Rattle.std.proofs.Common.{sym, subst}
use Rattle.std.specs.Prelude.{OnOk}
use Rattle.trace_check.specs.Checkers.{HoldsKnowledge}
use Rattle.trace_check.specs.Knowledge.{learned}
use Rattle.trace_check.proofs.checker.Checker.learn.Goals as goal

pub returns-in-Entry : goal.returns-in-Entry
returns-in-Entry c = λ k h.
    subst (λ e. OnOk c.learn_entry.result (HoldsKnowledge c.learn_entry.new.self (learned k e))) (sym c.in-Entry.is) (c.learn_entry.ensures k c.in-Entry.now h)
