use Rattle.base_row.proofs.Rising.{count_raised}
use Rattle.base_row.proofs.row.BaseRow.raise_word.Goals as goal

pub returns-clause-count : goal.returns-clause-count
returns-clause-count c = count_raised c.args.counter c.args.to _ _ c.raise.ensures.raised.raised
