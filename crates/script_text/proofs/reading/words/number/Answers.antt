use Rattle.std.proofs.Common.{rules, tests, sym, ◌∙◌}
use Rattle.std.proofs.lemmas.Slice.Eq.{slice_eq-Decides}
use Rattle.std.proofs.lemmas.Bool.{both_ways, eqb-true}
use Rattle.std.proofs.lemmas.Bool.Decides.{Decides-eqb}
use Rattle.script_text.proofs.Numbers.{number_zero, number_from_digits, none_from_empty, none_from_front, none_from_long, none_from_other, none_from_large}
use Rattle.script_text.proofs.reading.words.number.Goals as goal

pub returns-then-eq : goal.returns-then-eq
returns-then-eq c = number_zero c.args.word.now ((slice_eq-Decides Decides-eqb _ _ _ c.eq.ensures).0 c.if-eq.true ∙ c.as_slice.ensures)

pub returns-then-is_empty : goal.returns-then-is_empty
returns-then-is_empty c = none_from_empty c.args.word.now (eqb-true _ _ (sym c.is_empty.ensures ∙ c.if-is_empty.true))

pub returns-then-word-lt49 : goal.returns-then-word-lt49
returns-then-word-lt49 c =
    none_from_front c.args.word.now
    (λ is. both_ways _ c.if-eq.false ((slice_eq-Decides Decides-eqb _ _ _ c.eq.ensures).1 (is ∙ sym c.as_slice.ensures))) c.if-word-lt49.true

pub returns-then-word-gt-MOST_DIGITS : goal.returns-then-word-gt-MOST_DIGITS
returns-then-word-gt-MOST_DIGITS c = none_from_long c.args.word.now c.if-word-gt-MOST_DIGITS.true

pub returns-in_err-n : goal.returns-in_err-n
returns-in_err-n c = c.from_residual.ensures ∙ none_from_other c.args.word.now c.in_err-n.ensures

pub returns-then-n-gt-LAST_TIME : goal.returns-then-n-gt-LAST_TIME
returns-then-n-gt-LAST_TIME c = none_from_large c.args.word.now c.in_ok-n.n c.in_ok-n.ensures.1 c.if-n-gt-LAST_TIME.true

pub returns : goal.returns
returns c =
    number_from_digits c.args.word.now c.in_ok-n.n c.in_ok-n.ensures.0 c.in_ok-n.ensures.1 (search (rules, tests)) c.if-word-lt49.false c.if-n-gt-LAST_TIME.false
