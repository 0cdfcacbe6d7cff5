use Rattle.std.proofs.Common.{◌≡◌, ap, arith, length, subst, sym}
use Rattle.base_row.specs.Rings.{taken_counter}
use Rattle.ordered_clock.proofs.Moments.{risen_at, rises}
use Rattle.pass_names.proofs.Passes.{begins_trans}
use Rattle.signal_queue.specs.Calls.{PopsSignal, count_taken}
use Rattle.signal_queue.proofs.Turns.{counted}
use Rattle.ordered_signals.specs.Places.{RingStandsAt, pops_seen, pushes_seen, signal_ring}
use Rattle.ordered_signals.proofs.Places.{stands_from}
use Rattle.ordered_signals.proofs.popping.pop_in_turn.Goals as goal

pub tell_of_pop-requires-clause-next : goal.tell_of_pop-requires-clause-next
tell_of_pop-requires-clause-next g c =
    let o = c.args.timers.now.about in omega (
      arith,
      c.count.ensures,
      c.pop-answer.ensures.counts.more,
      ap count_taken c.in-Some.is,
      c.count-count.ensures,
      c.if-taken_count-count.false,
      c.taken_count.ensures.count,
      rises (taken_counter o signal_ring) c.put_count-put.ensures.looks.seen,
    )

pub is_empty-requires-clause-pops : goal.is_empty-requires-clause-pops
is_empty-requires-clause-pops g c =
    let o = c.args.timers.now.about in
    omega (arith, c.if-taken_count-count.false, c.taken_count.ensures.count, rises (taken_counter o signal_ring) c.put_count-put.ensures.looks.seen)

pub returns-in-Some-clause-stands : goal.returns-in-Some-clause-stands
returns-in-Some-clause-stands g c =
    let o = c.args.timers.now.about in
    let counts = c.pop-answer.ensures.counts in
    risen_at (taken_counter o signal_ring) _ c.taken_count.ensures.looks.seen
    (begins_trans c.put_count-put.ensures.looks.seen c.tell_of_pop.ensures.looks.seen)
    (omega (arith, counts.more, counts.all, ap count_taken c.in-Some.is, c.count-count.ensures, c.if-taken_count-count.false, c.taken_count.ensures.count))
    (omega (arith, counts.all, c.count.ensures, c.tell_of_pop.ensures.told))

pub returns-else-not-is_empty-clause-stands : goal.returns-else-not-is_empty-clause-stands
returns-else-not-is_empty-clause-stands g c =
    let o = c.args.timers.now.about in
    let told = c.pop-answer.ensures in
    let none = subst (PopsSignal c.args.signal_pass.now.knows c.pop-answer.new.pass.knows) c.in-None.is told.pops in
    let all = counted _ _ told.known.legal in
    let popped_all : pops_seen c.pop-answer.new.pass.knows ≡ c.count-count.result =
    omega (arith, told.counts.all, told.counts.more, ap count_taken c.in-None.is, c.count-count.ensures) in
    let pushed_all : pushes_seen c.pop-answer.new.pass.knows ≡ c.count-count.result = omega (arith, all, ap length none.none, popped_all) in
    subst (λ n. RingStandsAt o c.args.pass.now.known.seen c.is_empty.new.pass.known.seen n (pops_seen c.pop-answer.new.pass.knows)) (sym pushed_all)
    (subst (λ n. RingStandsAt o c.args.pass.now.known.seen c.is_empty.new.pass.known.seen c.count-count.result n) (sym popped_all)
    (stands_from o (begins_trans c.taken_count.ensures.looks.seen c.put_count-put.ensures.looks.seen) (c.is_empty.ensures.stands c.if-not-is_empty.false)))
