use Rattle.std.proofs.Common.{◌≡◌, take}
use Rattle.lane_notes.specs.Entries.{with_receipts}
use Rattle.lane_notes.proofs.entries.note_receipts.Given as goal

abbrev pub invariant-loop-receipt : goal.invariant-loop-receipt
invariant-loop-receipt l = l.notes ≡ with_receipts l.fn.notes l.label (take l.receipt-index l.receipts)
