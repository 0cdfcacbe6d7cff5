use Rattle.std.proofs.Common.{arith}
use Rattle.lane_notes.specs.Objects.{with_object_receipts}
use Rattle.lane_notes.proofs.Receipts.{receipts-step, with_object_receipts-append}
use Rattle.lane_notes.proofs.objects.note_object_receipts.Goals as goal

pub loop-receipt-preserved : goal.loop-receipt-preserved
loop-receipt-preserved c =
    receipts-step (λ n rs. with_object_receipts n c.args.label rs) (λ n xs ys. with_object_receipts-append n c.args.label xs ys)
    c.args.notes.now c.loop-receipt.notes _ c.args.receipts.now c.loop-receipt.receipt-index c.receipt-item.result (omega arith) c.receipt-item.is
    c.loop-receipt.invariant c.in_ok-note_object_receipt.ensures
