use Rattle.std.proofs.Common.{◌<◌, ℕ, subst, inl, rules}
use Rattle.counted_row.specs.Views.{Locks}
use Rattle.timer_objects.specs.Known.{receipt_of}
use Rattle.timer_objects.specs.Meaning.{object_meaning}
use Rattle.timer_objects.specs.Turns.{BeginsTurn, EndsTurn, HasTurn}
use Rattle.timer_objects.proofs.Retrying.{begins_after}
use Rattle.timer_objects.proofs.Triggering.{entered, tells_of}
use Rattle.timer_objects.proofs.trigger.trigger.Goals as goal

pub returns-clause-triggers : goal.returns-clause-triggers
returns-clause-triggers g c =
    let x = c.args.objects.now in
    let t = c.args.claim.now.timer in
    let p = c.args.objects_pass.now in
    let h = c.lock_in_turn-held.result in
    let taken = c.lock_in_turn-held.ensures in
    let v = c.args.pass.now.known in
    let begun = c.begin-turn.new.pass.known in
    let w = c.end.new.pass.known in
    let mid = c.lock_in_turn-held.new.objects_pass in
    let entry = c.enter-reply.ensures in
    let turn : HasTurn t h.stamp v begun begun w = subst (λ i. HasTurn i h.stamp v begun begun w) c.timer-id.ensures (record {
      begins = begins_after taken.looks
          (subst (λ n. BeginsTurn c.timer-id.result n c.lock_in_turn-held.new.pass.known begun) c.stamp-stamp.ensures c.begin-turn.ensures.begins);
      ends = subst (λ n. EndsTurn c.timer-id.result n begun w) c.stamp-stamp.ensures
          (subst (λ (u : ℕ × ℕ). EndsTurn u.0 u.1 begun w) c.begin-turn.ensures.turn c.end.ensures.ends);
    }) in
    let locks = subst (λ id. Locks object_meaning p mid id h) c.timer-id.ensures taken.locks in
    let room : h.stamp < x.limit = c.if-is_full.ensures in
    inl (entered x p mid c.enter-reply.new.pass t h c.args.call c.args.log.now.receipts c.enter-reply.new.log.receipts locks taken.row entry.pass
    c.enter-reply.result entry.enters room entry.receipt v begun w turn)

pub returns-clause-tells : goal.returns-clause-tells
returns-clause-tells g c =
    let entry = c.enter-reply.ensures in
    tells_of (receipt_of c.lock_in_turn-held.result c.args.call) c.timer-id.ensures entry.enters.reply entry.receipt (search rules)
