use Rattle.std.proofs.Common.{arith}
use Rattle.base_row.proofs.Rising.{raised_already}
use Rattle.base_row.proofs.row.BaseRow.raise_counter.Goals as goal

pub returns-else-known-to-clause-raised : goal.returns-else-known-to-clause-raised
returns-else-known-to-clause-raised c =
    raised_already c.args.counter c.args.to c.args.pass.now.knows.seen (omega (arith, c.requires.known, c.if-known-to.false))
