use Rattle.std.proofs.Common.{◌≡◌, take}
use Rattle.lane_notes.specs.Objects.{with_object_receipts}
use Rattle.lane_notes.proofs.objects.note_object_receipts.Given as goal

abbrev pub invariant-loop-receipt : goal.invariant-loop-receipt
invariant-loop-receipt l = l.notes ≡ with_object_receipts l.fn.notes l.label (take l.receipt-index l.receipts)
