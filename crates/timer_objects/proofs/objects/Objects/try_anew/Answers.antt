use Rattle.std.proofs.Common.{ap, sym, subst, ◌∙◌, ◌<◌}
use Rattle.timer_objects.specs.Anew.{refuses}
use Rattle.timer_objects.specs.Calls.{LooksAtObject}
use Rattle.timer_objects.specs.Rearming.{caller_of}
use Rattle.timer_objects.proofs.Retrying.{looked_held}
use Rattle.timer_objects.proofs.objects.Objects.try_anew.Goals as goal

pub returns-clause-ends : goal.returns-clause-ends
returns-clause-ends g c =
    c.anew_held.ensures.ends c.args.pass.now c.args.objects_pass.now
    (record { looks = c.lock_in_turn-held.ensures.looks; is = c.requires.may.of_objects; locks = c.lock_in_turn-held.ensures.locks })

pub returns-clause-why : goal.returns-clause-why
returns-clause-why g c =
    c.anew_held.ensures.why c.args.pass.now c.args.objects_pass.now
    (record { looks = c.lock_in_turn-held.ensures.looks; is = c.requires.may.of_objects; locks = c.lock_in_turn-held.ensures.locks })

pub returns-then-is_refused-clause-ends : goal.returns-then-is_refused-clause-ends
returns-then-is_refused-clause-ends g c =
    let x = c.args.self.now in
    let h = c.lock_in_turn-held.result in
    let taken = c.lock_in_turn-held.ensures in
    let freed = c.release-stamp-then-is_refused.ensures in
    let first = caller_of c.args.pass.now c.args.objects_pass.now c.args.log.now c.args.object_log.now in
    let last = caller_of c.lock_in_turn-held.new.pass c.release-stamp-then-is_refused.new.pass c.args.log.now c.args.object_log.now in
    let looks = looked_held x c.args.objects_pass.now c.lock_in_turn-held.new.objects_pass c.release-stamp-then-is_refused.new.pass c.args.id h taken.locks
    taken.row freed.pass c.requires.may.of_objects.idle freed.knows (sym freed.stamp ∙ freed.count) c.args.pass.now.known c.lock_in_turn-held.new.pass.known
    c.args.log.now.receipts c.args.object_log.now.receipts taken.looks taken.told in (
      h.state,
      subst (λ n. LooksAtObject first last c.args.id h.state n) (sym freed.stamp) looks,
      subst (λ n. n < x.limit) (sym freed.stamp) c.if-is_full.ensures,
      ap (refuses c.args.call.now) (sym c.state.ensures) ∙ sym c.if-is_refused.ensures,
    )
