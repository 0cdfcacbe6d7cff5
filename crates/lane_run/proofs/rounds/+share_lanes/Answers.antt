use Rattle.std.specs.Prelude.{option_to_list}
use Rattle.std.proofs.Common.{ℕ, List, ◌++◌, ◌≡◌, ◌<◌, ◌∙◌, ap, arith, get_or, length, subst, sym}
use Rattle.std.proofs.lemmas.List.{append-nil}
use Rattle.handoff.specs.Seated.{HandoffOf, MayGive}
use Rattle.lane_notes.specs.declared.lane.Lane.{Lane}
use Rattle.lane_notes.specs.Rounds.{CanRun, RunsLane}
use Rattle.lane_notes.specs.Worlds.{WorldOf}
use Rattle.lane_run.specs.declared.crew.Ground.{Ground}
use Rattle.lane_run.specs.Crews.{AreAt, SeatOfLanes}
use Rattle.lane_run.proofs.Crewing.{at_pop_by, at_return, came_back}
use Rattle.lane_run.proofs.Taking.{last_of, ran_beside}
use Rattle.lane_run.proofs.rounds.+share_lanes.Goals as goal
use Rattle.lane_run.proofs.rounds.+share_lanes.Goals.{in-None, in-Some-pop_for}

pub share_lanes-first-requires-clause-givers : goal.share_lanes-first-requires-clause-givers
share_lanes-first-requires-clause-givers g t c κs within =
    (at_pop_by (λ p s. MayGive p s) c.args.ground.now c.args.handoffs.now.items c.index-handoff.result.now c.len.result c.pop.new.self.items c.in-Some.giver
    c.in-Some.ensures.items c.requires.givers c.index-handoff.ensures (omega (arith, c.len.ensures, c.pop.new.self.ok.0))).0

pub give-requires-clause-giver : goal.give-requires-clause-giver
give-requires-clause-giver g t c =
    (at_pop_by (λ p s. MayGive p s) c.args.ground.now c.args.handoffs.now.items c.index-handoff.result.now c.len.result c.pop.new.self.items c.in-Some.giver
    c.in-Some.ensures.items c.requires.givers c.index-handoff.ensures (omega (arith, c.len.ensures, c.pop.new.self.ok.0))).4

pub give-requires-clause-can : goal.give-requires-clause-can
give-requires-clause-can g t c =
    let lane = c.in-Some-pop_for.lane in
    let popped = at_pop_by (λ p s. MayGive p s) c.args.ground.now c.args.handoffs.now.items c.index-handoff.result.now c.len.result c.pop.new.self.items c.in-Some.giver
    c.in-Some.ensures.items c.requires.givers c.index-handoff.ensures (omega (arith, c.len.ensures, c.pop.new.self.ok.0)) in
    let can = (last_of (CanRun c.args.world.now) c.pop_for.new.lanes.items lane c.in-Some-pop_for.ensures.items c.requires.lanes).1 in
    subst (λ (k : Ground). CanRun k.world.value lane × (c.args.number < length k.script.value.rounds)) (sym popped.3)
    (subst (λ (x : WorldOf). CanRun x lane) (sym c.requires.ground) can, c.requires.here.within)

pub share_lanes-first-requires-in-Some-pop_for-clause-givers : goal.share_lanes-first-requires-in-Some-pop_for-clause-givers
share_lanes-first-requires-in-Some-pop_for-clause-givers g t c κs within =
    (at_pop_by (λ p s. MayGive p s) c.args.ground.now c.args.handoffs.now.items c.index-handoff.result.now c.len.result c.pop.new.self.items c.in-Some.giver
    c.in-Some.ensures.items c.requires.givers c.index-handoff.ensures (omega (arith, c.len.ensures, c.pop.new.self.ok.0))).0

pub share_lanes-first-requires-in-Some-pop_for-clause-lanes : goal.share_lanes-first-requires-in-Some-pop_for-clause-lanes
share_lanes-first-requires-in-Some-pop_for-clause-lanes g t c κs within =
    (last_of (CanRun c.args.world.now) c.pop_for.new.lanes.items c.in-Some-pop_for.lane c.in-Some-pop_for.ensures.items c.requires.lanes).0

pub returns-clause-givers : goal.returns-clause-givers
returns-clause-givers g t c =
    let May : HandoffOf Ground → SeatOfLanes → Type 0 = λ p s. MayGive p s in
    let all = c.args.handoffs.now.items in
    let h = c.index-handoff.result.now in
    let popped = at_pop_by (λ p s. MayGive p s) c.args.ground.now c.args.handoffs.now.items c.index-handoff.result.now c.len.result c.pop.new.self.items c.in-Some.giver
    c.in-Some.ensures.items c.requires.givers c.index-handoff.ensures (omega (arith, c.len.ensures, c.pop.new.self.ok.0)) in
    let gs = c.match-pop_for.givers.items in
    let behind : AreAt May c.args.ground.now all gs → length gs ≡ length c.pop.new.self.items → May h c.match-pop_for.giver
    → AreAt May c.args.ground.now all c.push_reserved-2.new.self.items =
    λ at many has. at_return May c.args.ground.now all h c.pop.new.self.items gs c.match-pop_for.giver at many popped.1 popped.2 popped.3 has
    c.push_reserved-2.ensures.items in
    elim c.match-pop_for.branch [
      | in-None w ↦ let shared = w.share_lanes-first in
          behind (subst (AreAt May c.args.ground.now all) (sym (ap (λ v. v.items) w.givers-is)) shared.ensures.givers)
          (ap (λ v. length v.items) w.givers-is ∙ shared.ensures.givers_many) (subst (May h) (sym w.giver-is) popped.4)
      | in-Some-pop_for w ↦ let shared = w.share_lanes-first-in-Some-pop_for in
          behind (subst (AreAt May c.args.ground.now all) (sym (ap (λ v. v.items) w.givers-is)) shared.ensures.givers)
          (ap (λ v. length v.items) w.givers-is ∙ shared.ensures.givers_many) (subst (May h) (sym w.giver-is) w.take_back-lane.ensures.giver)
    ]

pub returns-clause-first : goal.returns-clause-first
returns-clause-first g t c =
    let runs = RunsLane c.args.world.now c.args.round.now c.args.first in
    elim c.match-pop_for.branch [
      | in-None w ↦ subst runs (sym w.first-is) w.share_lanes-first.ensures.first
      | in-Some-pop_for w ↦ subst runs (sym w.first-is) w.share_lanes-first-in-Some-pop_for.ensures.first
    ]

pub returns-clause-ran : goal.returns-clause-ran
returns-clause-ran g t c =
    let Runs : Lane → Lane → Type 0 = RunsLane c.args.world.now c.args.round.now in
    let rest = c.pop_for.new.lanes.items in
    let popped = at_pop_by (λ p s. MayGive p s) c.args.ground.now c.args.handoffs.now.items c.index-handoff.result.now c.len.result c.pop.new.self.items c.in-Some.giver
    c.in-Some.ensures.items c.requires.givers c.index-handoff.ensures (omega (arith, c.len.ensures, c.pop.new.self.ok.0)) in
    elim c.match-pop_for.branch [
      | in-None w ↦
          subst (λ (xs : List Lane). (k : ℕ) (d : Lane) → k < length xs → Runs (get_or xs k d) (get_or c.match-pop_for.lanes.items k d))
          (sym (c.pop_for.ensures.items ∙ ap (λ o. rest ++ option_to_list o) w.in-None.is ∙ append-nil rest))
          (subst (λ (ys : List Lane). (k : ℕ) (d : Lane) → k < length rest → Runs (get_or rest k d) (get_or ys k d)) (sym (ap (λ v. v.items) w.lanes-is))
          w.share_lanes-first.ensures.ran)
      | in-Some-pop_for w ↦ let shared = w.share_lanes-first-in-Some-pop_for in let lane = w.in-Some-pop_for.lane in let back = w.take_back-lane.result in
          (ran_beside Runs rest shared.new.lanes.items lane back.lane w.in-Some-pop_for.ensures.items
          (ap (λ v. v.items) w.lanes-is ∙ w.push_reserved.ensures.items) shared.ensures.as_many shared.ensures.ran
          (came_back lane back.lane back.round c.requires.ground c.requires.here popped.3 (w.take_back-lane.ensures.done _ w.give.ensures.given))).1
    ]
