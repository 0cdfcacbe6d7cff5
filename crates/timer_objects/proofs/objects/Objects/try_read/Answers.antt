use Rattle.std.proofs.Common.{◌≡◌, ◌∙◌, refl, sym, subst, length}
use Rattle.counted_row.proofs.Calls.{reads_of}
use Rattle.ktime.specs.Readings.{ClockReading}
use Rattle.pass_names.proofs.SharedHistory.{looks_refl, looks_trans}
use Rattle.timer_objects.specs.declared.object.Object.{Object}
use Rattle.timer_objects.specs.BlockingReads.{EndsRead, FindsNothing, HasSome}
use Rattle.timer_objects.specs.Known.{seen_of}
use Rattle.timer_objects.specs.Rearming.{caller_of}
use Rattle.timer_objects.proofs.Retrying.{timers_waited}
use Rattle.timer_objects.proofs.Waited.{ends_read}
use Rattle.timer_objects.proofs.objects.Objects.try_read.Goals as goal

pub returns-clause-reads : goal.returns-clause-reads
returns-clause-reads g c =
    let x = c.args.self.now in
    let o = c.args.timers.now.about in
    let old = caller_of c.args.pass.now c.args.objects_pass.now c.args.log.now c.args.object_log.now in
    let mid = caller_of c.read-reading.new.pass c.args.objects_pass.now c.args.log.now c.args.object_log.now in
    let made = c.rearm_held-ended.new in
    let new = caller_of made.pass made.objects_pass made.log made.object_log in
    let reading = c.read-reading.result in
    let ended = c.rearm_held-ended.result in
    let h = c.lock_in_turn-held.result in
    let taken = c.lock_in_turn-held.ensures in
    let locked = c.lock_in_turn-held.new.pass.known in
    let waits = timers_waited old mid (looks_trans old.timers locked mid.timers taken.looks c.read-reading.ensures.looks) refl in
    subst (λ (r : ClockReading). EndsRead x o old new c.args.id r ended) c.read-reading.ensures.reading
    (ends_read x o old mid new c.args.id reading h.state h.stamp waits locked taken.looks taken.told c.read-reading.ensures.moment ended
    (subst (λ (s : Object). HasSome reading s) c.state.ensures (c.if-not-has_some.ensures.some refl))
    (c.rearm_held-ended.ensures.ends c.read-reading.new.pass c.args.objects_pass.now
    (record { looks = looks_refl mid.timers; is = c.requires.may.of_objects; locks = taken.locks })) c.rearm_held-ended.ensures.number)

pub returns-then-not-has_some-clause-why : goal.returns-then-not-has_some-clause-why
returns-then-not-has_some-clause-why g c =
    let h = c.lock_in_turn-held.result in
    let taken = c.lock_in_turn-held.ensures in
    let freed = c.release.ensures in
    let old = caller_of c.args.pass.now c.args.objects_pass.now c.args.log.now c.args.object_log.now in
    let looked = caller_of c.lock_in_turn-held.new.pass c.release.new.pass c.args.log.now c.args.object_log.now in
    let new = caller_of c.read-reading.new.pass c.release.new.pass c.args.log.now c.args.object_log.now in
    subst (λ (r : ClockReading). FindsNothing c.args.self.now old new c.args.id r) c.read-reading.ensures.reading (record {
      object = h.state;
      stamp = h.stamp;
      looked = looked;
      looks = record {
        reads = reads_of taken.locks taken.row freed.pass.row c.requires.may.of_objects.idle freed.knows freed.pass.knows;
        state = refl;
        stamp = subst (λ i. h.stamp ≡ length (seen_of c.release.new.pass i)) taken.locks.index (sym freed.stamp ∙ freed.count);
        timers = taken.looks;
        told = taken.told;
        log = refl;
        object_log = refl;
      };
      reads = c.read-reading.ensures.moment;
      same = refl;
      waited = c.read-reading.ensures.looks;
      room = c.if-is_full.ensures;
      none = λ some. c.if-not-has_some.ensures.none refl (subst (λ (s : Object). HasSome c.read-reading.result s) (sym c.state.ensures) some);
    })
