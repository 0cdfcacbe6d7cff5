use Rattle.std.proofs.Common.{◌≡◌, ◌+◌, subst}
use Rattle.table_uses.proofs.handing.adding.add_to.Goals as goal

pub returns-clause-sum : goal.returns-clause-sum
returns-clause-sum g c =
    subst (λ k. c.take_back-number.result.number ≡ c.args.number + k.by) c.requires.key
    (c.take_back-number.ensures.done _ c.give.ensures.given)
