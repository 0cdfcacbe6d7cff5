use Rattle.std.proofs.Common.{sym}
use Rattle.itoa.proofs.Decimal.{length_one, length_two}
use Rattle.record_text.proofs.Digits.{length_three, length_of_four}
use Rattle.record_text.proofs.writing.text_buffer.digits_of_few.Goals as goal

pub returns-then-number-lt10-clause-count : goal.returns-then-number-lt10-clause-count
returns-then-number-lt10-clause-count c = sym (length_one c.args.number c.if-number-lt10.true)

pub returns-then-number-lt100-clause-count : goal.returns-then-number-lt100-clause-count
returns-then-number-lt100-clause-count c = sym (length_two c.args.number c.if-number-lt10.false c.if-number-lt100.true)

pub returns-then-number-lt1000-clause-count : goal.returns-then-number-lt1000-clause-count
returns-then-number-lt1000-clause-count c = sym (length_three c.args.number c.if-number-lt100.false c.if-number-lt1000.true)

pub returns-else-number-lt1000-clause-count : goal.returns-else-number-lt1000-clause-count
returns-else-number-lt1000-clause-count c = sym (length_of_four c.args.number c.if-number-lt1000.false c.requires)
