use Rattle.std.proofs.Common.{◌≡◌, ◌+◌, arith, length-set}
use Rattle.std.specs.Fmt.{decimal}
use Rattle.std.proofs.lemmas.Fmt.{decimal_digit}
use Rattle.record_text.proofs.Digits.{put_digit, put_behind}
use Rattle.record_text.proofs.writing.text_buffer.put_number.Goals as goal

pub returns-then-number-lt10-clause-text : goal.returns-then-number-lt10-clause-text
returns-then-number-lt10-clause-text c =
    rw (decimal_digit c.args.number c.if-number-lt10.true) (put_digit c.args.at c.args.block.now (48 + c.args.number) c.requires)

pub write_digits-requires : goal.write_digits-requires
write_digits-requires c =
    let long = length-set c.args.block.now c.args.at 32 in
    (omega (arith, c.digits_in.ensures.count), omega (arith, c.digits_in.ensures.few, c.requires, long))

pub returns-clause-text : goal.returns-clause-text
returns-clause-text c =
    let start : c.write_digits.result ≡ c.args.at + 1 = omega (arith, c.write_digits.ensures.start, c.digits_in.ensures.count) in
    rw c.digits_in.ensures.count
    (put_behind c.args.at c.args.block.now c.write_digits.new.buf (decimal c.args.number) _ (omega (arith, c.requires))
    (rw start at c.write_digits.ensures.before) (rw start at c.write_digits.ensures.written))
