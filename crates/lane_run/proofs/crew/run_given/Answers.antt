use Rattle.std.proofs.Common.{◌<◌, ◌∙◌, ap, get_or, length, subst, sym}
use Rattle.std.proofs.lemmas.List.{get_or_default}
use Rattle.std.specs.List.{AllByRecursion}
use Rattle.script_text.specs.declared.script.LaneCall.{LaneCall}
use Rattle.script_text.specs.declared.script.Round.{Round}
use Rattle.script_text.specs.declared.script.Script.{Script}
use Rattle.script_text.proofs.VersionOne.{version_one_is_hard}
use Rattle.lane_notes.specs.Called.{CanCall}
use Rattle.lane_notes.specs.Rounds.{RunsLane}
use Rattle.lane_notes.specs.Worlds.{WorldOf}
use Rattle.lane_run.proofs.Ranges.{round_can}
use Rattle.lane_run.proofs.crew.run_given.Goals as goal

pub run_lane-requires-clause-calls : goal.run_lane-requires-clause-calls
run_lane-requires-clause-calls g c κs outlives =
    let s = c.args.script.now in
    let n = c.args.given.round in
    let item = c.index-as_slice-round.result in
    let is = c.index-as_slice-round.is ∙ ap (λ rs. get_or rs n item) c.as_slice.ensures in
    let within = subst (λ (t : Script). n < length t.rounds) c.requires.ground.script c.requires.can.1 in
    subst (λ (r : Round). AllByRecursion (λ (x : LaneCall). CanCall c.args.world.now x.lane x.call) r.calls) (sym is)
    (round_can c.requires.range c.requires.world s.rounds n item within c.requires.range.calls
    (λ one. (version_one_is_hard s c.requires.range one).calls))

pub give_back-requires : goal.give_back-requires
give_back-requires g c =
    let s = c.args.script.now in
    let n = c.args.given.round in
    let old = c.args.given.lane in
    let new = c.run_lane.new.lane in
    let item = c.index-as_slice-round.result in
    let is = c.index-as_slice-round.is ∙ ap (λ rs. get_or rs n item) c.as_slice.ensures in
    let within = subst (λ (t : Script). n < length t.rounds) c.requires.ground.script c.requires.can.1 in
    let key = c.args.handoff.now.key in record {
      worker = (
        c.args.given,
        (
          c.requires.worker,
          λ d.
              subst (λ (t : Script). RunsLane key.world.value (get_or t.rounds n d) old new) (sym c.requires.ground.script)
              (subst (λ (x : WorldOf). RunsLane x (get_or s.rounds n d) old new) (sym c.requires.ground.world)
              (subst (λ (r : Round). RunsLane c.args.world.now r old new) (is ∙ get_or_default s.rounds n item d within) c.run_lane.ensures.ran)),
        ),
      );
    }
