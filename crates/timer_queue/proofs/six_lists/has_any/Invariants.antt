use Rattle.std.proofs.Common.{◌≡◌, drop}
use Rattle.timer_queue.specs.Pairs.{has_any}
use Rattle.timer_queue.specs.Lists.{pairs_of}
use Rattle.timer_queue.proofs.six_lists.has_any.Given as goal

-- the rest has the timer where all do
abbrev pub invariant-loop-list : goal.invariant-loop-list
invariant-loop-list l = has_any l.id (pairs_of (drop l.list-index l.lists)) ≡ has_any l.id (pairs_of l.lists)
