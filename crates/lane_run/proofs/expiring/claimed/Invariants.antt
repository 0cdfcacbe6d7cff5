use Rattle.std.proofs.Common.{◌≡◌, take}
use Rattle.lane_notes.specs.Called.{claimed_in}
use Rattle.lane_run.proofs.expiring.claimed.Given as goal

abbrev pub invariant-loop-receipt : goal.invariant-loop-receipt
invariant-loop-receipt l = record { so_far : l.timers ≡ claimed_in (take l.receipt-index l.receipt-items) }
