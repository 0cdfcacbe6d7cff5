use Rattle.std.proofs.Common.{arith, sym, subst, ◌∙◌}
use Rattle.std.proofs.lemmas.Bool.Decides.{nat_tests}
use Rattle.ktime.specs.Times.{IsFewest}
use Rattle.ktime.proofs.Instants.{passed-divides, next_after-divides, passed-fewest}
use Rattle.ktime.proofs.forwarding.forward.Goals as goal

pub returns-then-now-expires-clause-count : goal.returns-then-now-expires-clause-count
returns-then-now-expires-clause-count c = grind (arith, nat_tests, passed-divides c.args.expires c.args.now c.args.interval)

pub returns-then-now-expires-clause-next : goal.returns-then-now-expires-clause-next
returns-then-now-expires-clause-next c = grind (arith, nat_tests, passed-divides c.args.expires c.args.now c.args.interval)

pub returns-clause-count : goal.returns-clause-count
returns-clause-count c = rw (c.max-step.ensures) (grind (arith, nat_tests, passed-divides c.args.expires c.args.now c.args.interval))

pub returns-clause-next : goal.returns-clause-next
returns-clause-next c =
    let steps = next_after-divides c.args.expires c.args.now c.args.interval c.if-now-expires.false in
    c.min.ensures ∙ rw (c.saturating_add.ensures, c.max-step.ensures, steps) (omega arith)

pub returns-clause-fewest : goal.returns-clause-fewest
returns-clause-fewest c reached = subst (λ n. IsFewest c.args.expires c.args.now c.args.interval n) (sym (returns-clause-count c)) (passed-fewest c.args.expires c.args.now c.args.interval reached)
