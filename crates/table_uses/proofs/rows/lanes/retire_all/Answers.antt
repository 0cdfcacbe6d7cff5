use Rattle.std.proofs.Common.{[], rules, subst}
use Rattle.std.specs.Prelude.{IfSome}
use Rattle.std.proofs.lemmas.List.Elements.{All-pop}
use Rattle.table_uses.specs.Lanes.{IsIdleLane, IsMainPass}
use Rattle.table_uses.proofs.Covering.{answers_last, main_joins, main_last}
use Rattle.table_uses.proofs.rows.lanes.retire_all.Goals as goal

pub join-requires-clause-answers : goal.join-requires-clause-answers
join-requires-clause-answers c =
    answers_last c.args.row.now c.loop-lane.main c.pop.new.self.items c.in-Some.lane
    (subst (λ lanes. IsMainPass c.args.row.now c.loop-lane.main lanes) c.in-Some.ensures.items c.loop-lane.invariant.main)

pub loop-lane-preserved : goal.loop-lane-preserved
loop-lane-preserved c =
    let row = c.args.row.now in
    let before = c.loop-lane in
    let lanes = All-pop (λ lane. IsIdleLane row lane) before.lanes.items c.pop.new.self.items c.pop.result c.pop.ensures.items before.invariant.lanes in
    record {
      lanes = lanes.0;
      main =
          main_joins c.args.row.now c.loop-lane.main c.join.new.main c.pop.new.self.items c.in-Some.lane
          (subst (λ lanes. IsMainPass c.args.row.now c.loop-lane.main lanes) c.in-Some.ensures.items c.loop-lane.invariant.main)
          (subst (λ r. IfSome r (λ lane. IsIdleLane c.args.row.now lane)) c.in-Some.is lanes.1)
          c.join.ensures.row c.join.ensures.idle c.join.ensures.claims c.join.ensures.retires.id;
    }

pub returns-clause-last : goal.returns-clause-last
returns-clause-last c = let is : IsMainPass c.args.row.now c.loop-lane.main [] = search rules in main_last c.args.row.now c.loop-lane.main is
