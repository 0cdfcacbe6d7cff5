use Rattle.std.proofs.Common.{arith}
use Rattle.itoa.proofs.Decimal.{length_four}
use Rattle.record_text.proofs.Digits.{length_few}
use Rattle.record_text.proofs.writing.text_buffer.digits_in.Goals as goal

pub loop-rest-preserved : goal.loop-rest-preserved
loop-rest-preserved c =
    let four = length_four c.loop-rest.rest c.loop-rest-test.true c.loop-rest.auto.rest-fits.fits in
    record {
      count = omega (arith, four, c.loop-rest.invariant.count);
      few = omega (arith, four, c.loop-rest.invariant.count, length_few c.args.number c.ranges.number.fits);
    }

pub returns-clause-count : goal.returns-clause-count
returns-clause-count c = omega (arith, c.loop-rest.invariant.count, c.digits_of_few.ensures.count)

pub returns-clause-few : goal.returns-clause-few
returns-clause-few c = omega (arith, c.loop-rest.invariant.count, c.digits_of_few.ensures.count, length_few c.args.number c.ranges.number.fits)
