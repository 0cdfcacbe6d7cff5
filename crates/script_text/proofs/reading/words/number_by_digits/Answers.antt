use Rattle.std.proofs.Common.{rules, arith}
use Rattle.std.proofs.lemmas.Str.Parse.{digit_at}
use Rattle.script_text.proofs.Numbers.{digits_fit, one_more_digit}
use Rattle.script_text.proofs.reading.words.number_by_digits.Goals as goal

pub returns-then-not-is_ascii_digit : goal.returns-then-not-is_ascii_digit
returns-then-not-is_ascii_digit c all =
    let range = digit_at c.args.word.now c.loop-byte.byte-index all c.loop-byte-test.true in
    search rules

pub overflow_mul-n : goal.overflow_mul-n
overflow_mul-n c =
    omega (
      arith,
      c.loop-byte.invariant.value,
      digits_fit c.args.word.now c.loop-byte.byte-index c.requires c.loop-byte-test.true c.loop-byte.invariant.all,
    )

pub overflow_add-n : goal.overflow_add-n
overflow_add-n c =
    omega (
      arith,
      c.loop-byte.invariant.value,
      digits_fit c.args.word.now c.loop-byte.byte-index c.requires c.loop-byte-test.true c.loop-byte.invariant.all,
      c.from.ensures,
      c.type_inv.word c.loop-byte.byte-index,
    )

pub loop-byte-preserved : goal.loop-byte-preserved
loop-byte-preserved c =
    let more = one_more_digit c.args.word.now c.loop-byte.byte-index c.loop-byte.n c.from.result c.loop-byte-test.true c.loop-byte.invariant.all
    c.loop-byte.invariant.value (search rules) c.from.ensures in
    record { all = more.0; value = more.1 }
