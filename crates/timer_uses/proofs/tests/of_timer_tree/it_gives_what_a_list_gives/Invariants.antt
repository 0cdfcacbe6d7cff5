use Rattle.std.proofs.Common.{◌≡◌}
use Rattle.timer_uses.proofs.tests.of_timer_tree.it_gives_what_a_list_gives.Given as goal

-- both keep their room
abbrev pub invariant-loop-id : goal.invariant-loop-id
invariant-loop-id g l = (l.tree.1 ≡ 4096) × (l.list.1 ≡ 4096)
