use Rattle.std.proofs.Common.{◌≡◌, ◌+◌, drop}
use Rattle.timer_queue.specs.Pairs.{place_of}
use Rattle.timer_queue.proofs.list.place.Given as goal

-- the place is found among the pairs that are left
abbrev pub invariant-loop-at : goal.invariant-loop-at
invariant-loop-at l = l.at + place_of l.expires (drop l.at l.list) ≡ place_of l.expires l.list
