use Rattle.std.proofs.Common.{◌≡◌, ◌∙◌, arith, true, false, refl, sym, ap, subst, length}
use Rattle.counted_row.proofs.Calls.{reads_of}
use Rattle.timer_objects.specs.declared.object.Kind.TheVariants as kinds
use Rattle.timer_objects.specs.declared.wanting.Ended.TheVariants as endings
use Rattle.timer_objects.specs.declared.wanting.Rearming.TheVariants as rearmings
use Rattle.timer_objects.specs.Known.{decl_at, seen_of}
use Rattle.timer_objects.specs.Rearming.{EndsAt, caller_of}
use Rattle.timer_objects.specs.Signals.{object_fresh}
use Rattle.timer_objects.specs.Steps.{kind_over}
use Rattle.timer_objects.proofs.Asking.{ends_at, ends_names}
use Rattle.timer_objects.proofs.QueuedSignals.{accepts_signal, queued_state, replies_accepted}
use Rattle.timer_objects.proofs.objects.Objects.take_signal.Goals as goal

pub returns-then-not-is_fresh-clause-takes : goal.returns-then-not-is_fresh-clause-takes
returns-then-not-is_fresh-clause-takes g c =
    let x = c.args.self.now in
    let h = c.lock_behind-held.result in
    let taken = c.lock_behind-held.ensures in
    let freed = c.release.ensures in
    let kind : kind_over h.state ≡ kinds.Queued =
    sym taken.holds.kind ∙ ap (λ i. (decl_at x i).kind) taken.locks.index ∙ c.requires.queued.kind in
    let its = queued_state h.state kind in (
      refl,
      refl,
      record {
        state = its.0;
        stamp = h.stamp;
        looks = record {
          reads = reads_of taken.locks taken.row freed.pass.row c.requires.may.of_objects.idle freed.knows freed.pass.knows;
          state = sym its.1;
          stamp = subst (λ i. h.stamp ≡ length (seen_of c.release.new.pass i)) taken.locks.index (sym freed.stamp ∙ freed.count);
          timers = taken.looks;
          told = taken.told;
          log = refl;
          object_log = refl;
        };
        sent = taken.behind;
        room = c.if-is_full.ensures;
        stale = subst (λ y. object_fresh y c.args.number ≡ false) (c.state.ensures ∙ its.1) (sym c.if-not-is_fresh.ensures);
      },
    )

pub returns-in-Full-clause-takes : goal.returns-in-Full-clause-takes
returns-in-Full-clause-takes g c =
    let taken = c.lock_behind-held.ensures in
    let full = c.in-Full.ensures.ends c.args.pass.now c.args.objects_pass.now
    (record { looks = taken.looks; is = c.requires.may.of_objects; locks = taken.locks }) in
    (refl, refl, full, omega (arith, taken.behind, c.if-is_full.ensures, full.full))

pub returns-in-Full-clause-names : goal.returns-in-Full-clause-names
returns-in-Full-clause-names g c =
    let taken = c.lock_behind-held.ensures in
    ends_names c.args.self.now c.args.timers.now.about _ _ c.args.timer rearmings.Accepting c.args.reading (endings.Full c.in-Full.stamp)
    (c.in-Full.ensures.ends c.args.pass.now c.args.objects_pass.now
    (record { looks = taken.looks; is = c.requires.may.of_objects; locks = taken.locks }))

pub unreachable-requires : goal.unreachable-requires
unreachable-requires g c =
    let taken = c.lock_behind-held.ensures in
    let h = c.lock_behind-held.result in
    let fresh : object_fresh h.state c.args.number ≡ true =
    subst (λ y. object_fresh y c.args.number ≡ true) c.state.ensures (sym c.if-not-is_fresh.ensures) in
    let accepted = replies_accepted c.args.self.now c.args.timers.now.about _ _ c.args.timer c.args.number c.args.reading h.state c.in-Made.stamp
    c.in-Made.reply fresh (c.in-Made.ensures.ends c.args.pass.now c.args.objects_pass.now
    (record { looks = taken.looks; is = c.requires.may.of_objects; locks = taken.locks })) in
    c.in_default.ensures.none accepted.0 accepted.1

pub returns-in-Some-clause-takes : goal.returns-in-Some-clause-takes
returns-in-Some-clause-takes g c =
    let x = c.args.self.now in
    let o = c.args.timers.now.about in
    let taken = c.lock_behind-held.ensures in
    let h = c.lock_behind-held.result in
    let made = c.rearm_held-ended.new in
    let old = caller_of c.args.pass.now c.args.objects_pass.now c.args.log.now c.args.object_log.now in
    let new = caller_of made.pass made.objects_pass made.log made.object_log in
    let kind : kind_over h.state ≡ kinds.Queued =
    sym taken.holds.kind ∙ ap (λ i. (decl_at x i).kind) taken.locks.index ∙ c.requires.queued.kind in
    let fresh : object_fresh h.state c.args.number ≡ true =
    subst (λ y. object_fresh y c.args.number ≡ true) c.state.ensures (sym c.if-not-is_fresh.ensures) in (
      refl,
      refl,
      accepts_signal x o old new c.args.timer c.args.number c.args.reading h.state c.in-Made.stamp c.in-Some.overrun kind fresh
          (subst (λ r. EndsAt x o old new c.args.timer rearmings.Accepting c.args.reading (endings.Made c.in-Made.stamp r) h.state) c.in-Some.ensures.some
          (c.in-Made.ensures.ends c.args.pass.now c.args.objects_pass.now
          (record { looks = taken.looks; is = c.requires.may.of_objects; locks = taken.locks }))),
    )

pub returns-in-Some-clause-names : goal.returns-in-Some-clause-names
returns-in-Some-clause-names g c =
    let x = c.args.self.now in
    let o = c.args.timers.now.about in
    let taken = c.lock_behind-held.ensures in
    let h = c.lock_behind-held.result in
    let ended = endings.Made c.in-Made.stamp c.in-Made.reply in
    ends_names x o _ _ c.args.timer rearmings.Accepting c.args.reading ended
    (ends_at x o _ _ c.args.timer rearmings.Accepting c.args.reading ended h.state
    (c.in-Made.ensures.ends c.args.pass.now c.args.objects_pass.now
    (record { looks = taken.looks; is = c.requires.may.of_objects; locks = taken.locks })))
