use Rattle.std.proofs.Common.{◌<◌, ◌+◌, ℕ, subst}
use Rattle.counted_row.specs.Views.{Locks}
use Rattle.signal_queue.specs.declared.signal.Signal.{Signal}
use Rattle.timer_objects.specs.Meaning.{object_meaning}
use Rattle.timer_objects.specs.Signals.{PushesFor}
use Rattle.timer_objects.specs.Turns.{BeginsTurn, EndsTurn, HasTurn}
use Rattle.timer_objects.proofs.Retrying.{begins_after}
use Rattle.timer_objects.proofs.QueuedSignals.{fires_by}
use Rattle.timer_objects.proofs.Triggering.{entered_held}
use Rattle.timer_objects.proofs.sending.send.Goals as goal

pub returns-clause-fires : goal.returns-clause-fires
returns-clause-fires g c =
    let x = c.args.objects.now in
    let t = c.args.claim.now.timer in
    let p = c.args.objects_pass.now in
    let h = c.lock_in_turn-held.result in
    let taken = c.lock_in_turn-held.ensures in
    let v = c.args.pass.now.known in
    let begun = c.begin-turn.new.pass.known in
    let worked = c.push-call.new.pass.known in
    let w = c.end.new.pass.known in
    let mid = c.lock_in_turn-held.new.objects_pass in
    let entry = c.enter.ensures in
    let call = c.push-call.result in
    let turn : HasTurn t h.stamp v begun worked w = subst (λ i. HasTurn i h.stamp v begun worked w) c.timer-id.ensures (record {
      begins = begins_after taken.looks
          (subst (λ n. BeginsTurn c.timer-id.result n c.lock_in_turn-held.new.pass.known begun) c.stamp-stamp.ensures c.begin-turn.ensures.begins);
      ends = subst (λ n. EndsTurn c.timer-id.result n worked w) c.stamp-stamp.ensures
          (subst (λ (u : ℕ × ℕ). EndsTurn u.0 u.1 worked w) c.begin-turn.ensures.turn c.end.ensures.ends);
    }) in
    let locks = subst (λ id. Locks object_meaning p mid id h) c.timer-id.ensures taken.locks in
    let room : h.stamp < x.limit = c.if-is_full.ensures in
    let made = entered_held x p mid c.enter.new.pass t h call c.args.log.now.receipts c.enter.new.log.receipts locks taken.row entry.pass
    c.enter.result entry.enters room entry.receipt v begun worked w turn c.push-call.ensures.looks in
    let s = c.args.signal_pass.now.knows in
    let z = c.push-call.new.signal_pass.knows in
    let o = c.args.timers.now.about in
    let signal : ℕ → ℕ → Signal = λ i n. record { timer = i; number = n + 1 } in
    fires_by o x p c.enter.new.pass c.args.log.now.receipts c.enter.new.log.receipts v begun worked w s z t c.args.claim.now.generation c.args.reading h.state
    h.stamp call
    (subst (λ i. PushesFor o begun worked s z h.state (signal i h.stamp) c.args.claim.now.generation c.args.reading call) c.timer-id.ensures
    (subst (λ n. PushesFor o begun worked s z h.state (signal c.timer-id.result n) c.args.claim.now.generation c.args.reading call) c.stamp-stamp.ensures
    (subst (λ gen. PushesFor o begun worked s z h.state (signal c.timer-id.result c.stamp-stamp.result) gen c.args.reading call) c.generation-generation.ensures
    (subst (λ y. PushesFor o begun worked s z y (signal c.timer-id.result c.stamp-stamp.result) c.generation-generation.result c.args.reading call)
    c.state-state.ensures c.push-call.ensures.pushes))))
    (record { made = made.made; state = made.state; before = made.before; begins = made.begins; works = made.works })
