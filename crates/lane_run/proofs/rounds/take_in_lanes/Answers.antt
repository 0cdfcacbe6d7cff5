use Rattle.std.proofs.Common.{◌<◌, ◌∙◌, length, refl, subst, sym}
use Rattle.std.proofs.lemmas.Bool.{true≢false}
use Rattle.lane_run.proofs.Calls.{no_error}
use Rattle.lane_notes.specs.Rounds.{IsLaneOf, IsMain}
use Rattle.lane_run.proofs.Mains.{answers_last}
use Rattle.lane_run.proofs.Taking.{last_of, takes_none, takes_one}
use Rattle.lane_run.proofs.rounds.take_in_lanes.Goals as goal

pub loop-lane-init : goal.loop-lane-init
loop-lane-init g c = record {
  main = c.requires.main;
  lanes = c.requires.lanes;
  names = c.requires.names;
  count = refl;
  taken = λ quiet. takes_none c.args.lanes.items;
}

pub take_in_lane-requires-clause-lane : goal.take_in_lane-requires-clause-lane
take_in_lane-requires-clause-lane g c =
    (last_of (IsLaneOf c.args.world.now) c.pop.new.self.items c.in-Some.lane c.in-Some.ensures.items c.loop-lane.invariant.lanes).1.pass

pub take_in_lane-requires-clause-answers : goal.take_in_lane-requires-clause-answers
take_in_lane-requires-clause-answers g c =
    answers_last c.pop.new.self.items c.in-Some.lane
    (subst (λ lanes. IsMain c.args.world.now c.loop-lane.main lanes) c.in-Some.ensures.items c.loop-lane.invariant.main)

pub take_in_lane-requires-clause-name : goal.take_in_lane-requires-clause-name
take_in_lane-requires-clause-name g c =
    (last_of (λ l. l.label.lane < length c.loop-lane.left.answers) c.pop.new.self.items c.in-Some.lane c.in-Some.ensures.items c.loop-lane.invariant.names).1

pub loop-lane-preserved-then-is_err : goal.loop-lane-preserved-then-is_err
loop-lane-preserved-then-is_err g c =
    let taken = c.take_in_lane.ensures in
    takes_one c.in-Some.lane c.loop-lane.invariant c.in-Some.ensures.items taken.main taken.takes taken.count (λ quiet. absurd (true≢false quiet))

pub loop-lane-preserved : goal.loop-lane-preserved
loop-lane-preserved g c =
    let taken = c.take_in_lane.ensures in
    let ok = sym c.is_err.ensures.value ∙ c.if-is_err.false in
    takes_one c.in-Some.lane c.loop-lane.invariant c.in-Some.ensures.items taken.main taken.takes taken.count
    (λ quiet. (quiet, no_error c.take_in_lane.result ok taken.memory, no_error c.take_in_lane.result ok taken.left))
