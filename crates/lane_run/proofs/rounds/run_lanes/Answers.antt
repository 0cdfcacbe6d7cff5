use Rattle.std.proofs.Common.{sym, subst}
use Rattle.std.specs.Prelude.{All}
use Rattle.std.proofs.lemmas.List.Elements.{All-push}
use Rattle.lane_notes.specs.declared.lane.Lane.{Lane}
use Rattle.lane_notes.specs.Rounds.{CanRun, RunsLane}
use Rattle.lane_run.proofs.Taking.{ran_apart}
use Rattle.lane_run.proofs.rounds.run_lanes.Goals as goal

pub run_all-requires-clause-lanes : goal.run_all-requires-clause-lanes
run_all-requires-clause-lanes g c κs within =
    let x = c.args.world.now in
    subst (All (λ (l : Lane). CanRun x l)) (sym c.push_reserved.ensures.items)
    (All-push (λ (l : Lane). CanRun x l) c.args.lanes.now.items c.args.first c.requires.lanes c.requires.first)

pub returns-clause-first : goal.returns-clause-first
returns-clause-first g c =
    (ran_apart (RunsLane c.args.world.now c.args.round.now) c.args.lanes.now.items c.pop.new.self.items c.args.first c.in-Some.first
    c.push_reserved.ensures.items c.in-Some.ensures.items c.run_all.ensures.as_many c.run_all.ensures.ran).0

pub returns-clause-ran : goal.returns-clause-ran
returns-clause-ran g c =
    (ran_apart (RunsLane c.args.world.now c.args.round.now) c.args.lanes.now.items c.pop.new.self.items c.args.first c.in-Some.first
    c.push_reserved.ensures.items c.in-Some.ensures.items c.run_all.ensures.as_many c.run_all.ensures.ran).2
