use Rattle.std.proofs.Common.{sym, ◌∙◌}
use Rattle.script_text.proofs.Tails.{empty_tail_off, empty_tail_all}
use Rattle.script_text.proofs.reading.parsing.without_empty_tail.Goals as goal

pub returns-then-is_empty : goal.returns-then-is_empty
returns-then-is_empty c = empty_tail_off (λ p. p.now) c.args.parts.now _ c.in-len1-up.len_at_least (sym c.is_empty.ensures ∙ c.if-is_empty.true)

pub returns : goal.returns
returns c = empty_tail_all (λ p. p.now) c.args.parts.now _ c.in-len1-up.len_at_least (sym c.is_empty.ensures ∙ c.if-is_empty.false)
