use Rattle.std.proofs.Common.{◌∙◌, true, false, sym}
use Rattle.std.proofs.lemmas.List.{append-nil}
use Rattle.call_laws.proofs.Claimed.{claimed_next}
use Rattle.lane_run.proofs.expiring.claimed.Goals as goal
use Rattle.lane_run.proofs.expiring.claimed.Goals.{then-is_claim_event+in_ok-push, else-is_claim_event}

pub loop-receipt-preserved : goal.loop-receipt-preserved
loop-receipt-preserved c =
    let xs = c.receipts-receipt-items.result.now in
    let old = c.loop-receipt in record {
      so_far = elim c.if-is_claim_event.branch [
        | then-is_claim_event+in_ok-push w ↦ claimed_next xs old.receipt-index c.receipt-item.result true old.timers c.if-is_claim_event.timers c.loop-receipt-test.true
            c.receipt-item.is (sym c.is_claim_event.ensures ∙ w.if-is_claim_event.true) old.invariant.so_far (w.timers-is ∙ w.in_ok-push.ensures.ok)
        | else-is_claim_event w ↦ claimed_next xs old.receipt-index c.receipt-item.result false old.timers c.if-is_claim_event.timers c.loop-receipt-test.true
            c.receipt-item.is (sym c.is_claim_event.ensures ∙ w.if-is_claim_event.false) old.invariant.so_far (w.timers-is ∙ sym (append-nil old.timers))
      ];
    }
