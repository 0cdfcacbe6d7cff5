use Rattle.std.proofs.Common.{refl, subst}
use Rattle.hr_timers.specs.Known.{IsPassOf}
use Rattle.timer_objects.specs.Known.{IsObjectsPass}
use Rattle.lane_notes.specs.Worlds.{WorldOf}
use Rattle.lane_run.proofs.Looking.{looked_more, looked_none}
use Rattle.lane_run.proofs.reading.look_at_all.Goals as goal

pub loop-id-init : goal.loop-id-init
loop-id-init g c = looked_none c.requires.main

pub loop-id-preserved : goal.loop-id-preserved
loop-id-preserved g c =
    let seen = c.look_at.ensures in
    let here = c.world.view_is in
    looked_more {r = record c.loop-id.main { timers = c.look_at.new.pass; objects = c.look_at.new.objects_pass }} c.loop-id.invariant
    (subst (λ (y : WorldOf). IsPassOf y.timers c.look_at.new.pass) here seen.pass)
    (subst (λ (y : WorldOf). IsObjectsPass y.objects c.look_at.new.objects_pass) here seen.objects) refl refl seen.looks seen.finds seen.told seen.name
