use Rattle.std.proofs.Common.{List}
use Rattle.std.specs.List.{sum_by}
use Rattle.record_text.specs.declared.record.TimerLine.{TimerLine}
use Rattle.script_text.proofs.Sums.{sum_more}
use Rattle.script_text.proofs.summing.total.Goals as goal

pub loop-lines-preserved : goal.loop-lines-preserved
loop-lines-preserved g c =
    let timers : List (List TimerLine) = c.args.timers.now in
    sum_more (λ lines. sum_by (λ line. g.A.Amount.amount line.entry) lines) timers c.loop-lines.lines-index c.lines-item.result c.as_slice.result.now
    c.loop-lines.sum c.in_ok-total_of.field-0 c.in_ok-sum.sum (sum_by (λ lines. sum_by (λ line. g.A.Amount.amount line.entry) lines) timers)
    c.loop-lines-test.true c.lines-item.is c.as_slice.ensures c.in_ok-total_of.ensures c.in_ok-sum.ensures c.loop-lines.invariant
