use Rattle.std.proofs.Common.{◌≡◌, drop}
use Rattle.std.specs.List.{list_any}
use Rattle.trace_check.specs.Holding.{is_late}
use Rattle.trace_check.proofs.queue.MarkList.has_late.Given as goal

-- none of the marks so far is late
abbrev pub invariant-loop-mark : goal.invariant-loop-mark
invariant-loop-mark l =
    list_any (is_late l.fn.expires l.fn.order) (drop l.mark-index l.mark-items) ≡ list_any (is_late l.fn.expires l.fn.order) l.fn.self
