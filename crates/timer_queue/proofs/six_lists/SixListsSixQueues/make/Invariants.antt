use Rattle.std.proofs.Common.{◌≡◌, ◌≤◌, [], length}
use Rattle.std.specs.List.{All}
use Rattle.timer_queue.proofs.six_lists.SixListsSixQueues.make.Given as goal

-- as many empty lists as turns
abbrev pub invariant-loop : goal.invariant-loop
invariant-loop l = record {
  count : length l.lists.items ≡ l.counter;
  few : l.counter ≤ 6;
  each : All (λ q. (q.0 ≡ []) × (q.1 ≡ l.fn.room) × (l.fn.room ≤ q.2)) l.lists.items;
}
