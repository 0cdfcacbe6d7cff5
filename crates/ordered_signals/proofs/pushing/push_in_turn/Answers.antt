use Rattle.std.proofs.Common.{◌≡◌, ap, arith, subst, sym}
use Rattle.base_row.specs.Rings.{put_counter}
use Rattle.ordered_clock.proofs.Moments.{risen_at, rises}
use Rattle.pass_names.proofs.Passes.{begins_trans}
use Rattle.signal_queue.specs.Calls.{PushesSignal, count_put}
use Rattle.signal_queue.proofs.Turns.{counted}
use Rattle.ordered_signals.specs.Places.{RingStandsAt, pops_seen, pushes_seen, signal_ring}
use Rattle.ordered_signals.proofs.Places.{stands_from}
use Rattle.ordered_signals.proofs.pushing.push_in_turn.Goals as goal

pub tell_of_push-requires-clause-next : goal.tell_of_push-requires-clause-next
tell_of_push-requires-clause-next g c =
    let o = c.args.timers.now.about in omega (
      arith,
      c.count.ensures,
      c.push-answer.ensures.counts.more,
      ap count_put c.in-Queued.is,
      c.count-count.ensures,
      c.if-put_count-count.false,
      c.put_count.ensures.count,
      rises (put_counter o signal_ring) c.taken_count-taken.ensures.looks.seen,
    )

pub is_full-requires-clause-pushes : goal.is_full-requires-clause-pushes
is_full-requires-clause-pushes g c =
    let o = c.args.timers.now.about in
    omega (arith, c.if-put_count-count.false, c.put_count.ensures.count, rises (put_counter o signal_ring) c.taken_count-taken.ensures.looks.seen)

pub returns-in-Queued-clause-stands : goal.returns-in-Queued-clause-stands
returns-in-Queued-clause-stands g c =
    let o = c.args.timers.now.about in
    let counts = c.push-answer.ensures.counts in
    risen_at (put_counter o signal_ring) _ c.put_count.ensures.looks.seen
    (begins_trans c.taken_count-taken.ensures.looks.seen c.tell_of_push.ensures.looks.seen)
    (omega (arith, counts.more, counts.all, ap count_put c.in-Queued.is, c.count-count.ensures, c.if-put_count-count.false, c.put_count.ensures.count))
    (omega (arith, counts.all, c.count.ensures, c.tell_of_push.ensures.told))

pub returns-else-not-is_full-clause-stands : goal.returns-else-not-is_full-clause-stands
returns-else-not-is_full-clause-stands g c =
    let o = c.args.timers.now.about in
    let told = c.push-answer.ensures in
    let full = subst (PushesSignal c.args.end.queue.room c.args.signal_pass.now.knows c.push-answer.new.pass.knows c.args.signal) c.in-Full.is told.pushes in
    let all = counted _ _ told.known.legal in
    let same : pushes_seen c.push-answer.new.pass.knows ≡ c.count-count.result =
    omega (arith, told.counts.all, told.counts.more, ap count_put c.in-Full.is, c.count-count.ensures) in
    subst (λ n. RingStandsAt o c.args.pass.now.known.seen c.is_full.new.pass.known.seen n (pops_seen c.push-answer.new.pass.knows)) (sym same)
    (stands_from o (begins_trans c.put_count.ensures.looks.seen c.taken_count-taken.ensures.looks.seen)
    (c.is_full.ensures.stands c.if-not-is_full.false _ (omega (arith, all, full.1.full, same))))
