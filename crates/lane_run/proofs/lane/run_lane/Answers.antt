use Rattle.std.proofs.Common.{◌+◌, arith, sym, subst, take}
use Rattle.std.proofs.lemmas.Bool.{eq-eqb}
use Rattle.lane_notes.specs.declared.lane.Lane.{Lane}
use Rattle.lane_run.proofs.Calls.{HasCome, calls_of_lane, come_last, come_none, come_on, come_past, other_lane}
use Rattle.lane_run.proofs.lane.run_lane.Goals as goal
use Rattle.lane_run.proofs.lane.run_lane.Goals.{then-line-lane, else-line-lane}

pub loop-line-init : goal.loop-line-init
loop-line-init g c = come_none c.args.lane.now c.requires.lane.pass

pub loop-line-preserved : goal.loop-line-preserved
loop-line-preserved g c =
    let xs = c.as_slice-line-items.result.now in
    let old = c.loop-line in
    let come = λ (l : Lane). HasCome c.args.world.now c.args.lane.now l (calls_of_lane c.args.lane.now.label.lane (take (old.line-index + 1) xs)) in
    elim c.if-line-lane.branch [
      | then-line-lane w ↦ let made = w.make_next.ensures in
          subst come (sym w.lane-is) (come_on xs old.line-index _ c.loop-line-test.true (eq-eqb _ _ w.if-line-lane.true) old.invariant made.pass made.keeps
          made.lane made.before made.calls)
      | else-line-lane w ↦
          subst come (sym w.lane-is) (come_past xs old.line-index _ c.loop-line-test.true (other_lane _ _ w.if-line-lane.false) old.invariant)
    ]

pub returns : goal.returns
returns g c = record {
  ran = come_last c.args.round.now c.loop-line.line-index c.as_slice-line-items.ensures (omega (arith, c.loop-line-test.false)) c.loop-line.invariant;
}
