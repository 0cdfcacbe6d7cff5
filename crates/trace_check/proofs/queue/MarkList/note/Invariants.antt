use Rattle.std.proofs.Common.{◌≡◌, ◌||◌, ℕ}
use Rattle.std.specs.List.{list_any}
use Rattle.std.specs.Vec.{vec_len}
use Rattle.trace_check.specs.Holding.{is_late}
use Rattle.trace_check.proofs.queue.MarkList.note.Given as goal

-- with the new mark, what is left passes the same timers
abbrev pub invariant-loop-last : goal.invariant-loop-last
invariant-loop-last l = (expires order : ℕ) →
    (is_late expires order l.fn.mark || list_any (is_late expires order) l.self-inside.marks.items)
    ≡ (is_late expires order l.fn.mark || list_any (is_late expires order) l.fn.self)

abbrev pub decreases-loop-last : goal.decreases-loop-last
decreases-loop-last l = vec_len l.self-inside.marks
