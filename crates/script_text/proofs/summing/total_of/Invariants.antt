use Rattle.std.proofs.Common.{◌≡◌, ◌+◌, drop}
use Rattle.std.specs.List.{sum_by}
use Rattle.script_text.proofs.summing.total_of.Given as goal

-- the sum so far and that of the rest are the sum of all
abbrev pub invariant-loop-line : goal.invariant-loop-line
invariant-loop-line g l =
    l.sum + sum_by (λ line. g.A.Amount.amount line.entry) (drop l.line-index l.lines) ≡ sum_by (λ line. g.A.Amount.amount line.entry) l.lines
