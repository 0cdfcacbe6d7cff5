use Rattle.std.proofs.Common.{◌≡◌, ◌+◌, drop}
use Rattle.std.specs.List.{sum_by}
use Rattle.script_text.proofs.summing.total.Given as goal

-- the sum so far and that of the rest are the sum of all
abbrev pub invariant-loop-lines : goal.invariant-loop-lines
invariant-loop-lines g l =
    l.sum + sum_by (λ lines. sum_by (λ line. g.A.Amount.amount line.entry) lines) (drop l.lines-index l.timers)
    ≡ sum_by (λ lines. sum_by (λ line. g.A.Amount.amount line.entry) lines) l.timers
