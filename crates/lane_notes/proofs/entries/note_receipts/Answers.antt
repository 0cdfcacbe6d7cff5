use Rattle.std.proofs.Common.{arith}
use Rattle.lane_notes.specs.Entries.{with_receipts}
use Rattle.lane_notes.proofs.Receipts.{receipts-step, with_receipts-append}
use Rattle.lane_notes.proofs.entries.note_receipts.Goals as goal

pub loop-receipt-preserved : goal.loop-receipt-preserved
loop-receipt-preserved c =
    receipts-step (λ n rs. with_receipts n c.args.label rs) (λ n xs ys. with_receipts-append n c.args.label xs ys) c.args.notes.now c.loop-receipt.notes _
    c.args.receipts.now c.loop-receipt.receipt-index c.receipt-item.result (omega arith) c.receipt-item.is c.loop-receipt.invariant c.in_ok-note_receipt.ensures
