use Rattle.std.proofs.Common.{◌<◌, ◌∙◌, arith, length, refl, subst}
use Rattle.std.proofs.lemmas.List.{get_or_default}
use Rattle.handoff.specs.Seated.{HasEnded}
use Rattle.lane_run.proofs.Crewing.{ends_none, ends_one}
use Rattle.lane_run.proofs.crew.end_all.Goals as goal

pub loop-number-init : goal.loop-number-init
loop-number-init c = ends_none c.requires.givers.1 c.requires.many

pub loop-number-preserved : goal.loop-number-preserved
loop-number-preserved c =
    let n = c.loop-number.number in
    let so_far = c.loop-number.invariant in
    let within : n < length c.loop-number.givers.items =
    omega (arith, c.loop-number-test.true, c.loop-number.auto.number-end, c.len-number-end.ensures, so_far.many, c.requires.many) in
    ends_one n c.end.new.giver so_far within refl
    (λ p. subst (λ h. HasEnded h c.end.new.giver)
    (c.index.ensures ∙ get_or_default c.args.handoffs.now.items n c.index.result.now p (omega (arith, within, so_far.many))) c.end.ensures.ended)
