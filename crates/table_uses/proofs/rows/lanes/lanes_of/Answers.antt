use Rattle.std.proofs.Common.{[], ◌∷◌, ◌++◌, length, ap, sym, subst, arith}
use Rattle.std.specs.Prelude.{All}
use Rattle.std.proofs.lemmas.List.{length_push}
use Rattle.std.proofs.lemmas.List.Elements.{All-push}
use Rattle.table_uses.specs.declared.rows.lanes.Lane.{Lane}
use Rattle.table_uses.specs.Lanes.{IsIdleLane, IsMainPass}
use Rattle.table_uses.proofs.Covering.{main_split, main_joins, idle_new}
use Rattle.table_uses.proofs.rows.lanes.lanes_of.Goals as goal

pub retire_all-requires-clause-main : goal.retire_all-requires-clause-main
retire_all-requires-clause-main c =
    let row = c.args.row.now in
    let lane : Lane = record { pass = c.split-pass.result; made = 0 } in
    let same = c.in-Err.ensures.value_returned in
    let split = c.split-pass.ensures in
    let wider = main_split row c.loop.main c.split-pass.new.pass c.loop.all.items lane c.loop.invariant.main split.row.0 split.splitter split.new in
    let back =
    main_joins row c.split-pass.new.pass c.join.new.main c.loop.all.items c.in-Err.refused.value
    (subst (λ x. IsMainPass row c.split-pass.new.pass (c.loop.all.items ++ x ∷ [])) (sym same) wider)
    (subst (λ x. IsIdleLane row x) (sym same) (idle_new row lane c.loop.main.knows split.row.1 split.new))
    c.join.ensures.row c.join.ensures.idle c.join.ensures.claims c.join.ensures.retires.id in
    subst (λ lanes. IsMainPass row c.join.new.main lanes) (sym c.in-Err.ensures.items) back

pub loop-preserved : goal.loop-preserved
loop-preserved c =
    let row = c.args.row.now in
    let lane : Lane = record { pass = c.split-pass.result; made = 0 } in
    let split = c.split-pass.ensures in
    let wider = main_split row c.loop.main c.split-pass.new.pass c.loop.all.items lane c.loop.invariant.main split.row.0 split.splitter split.new in
    let items = c.in_default.ensures.items in
    record {
      count = omega (arith, ap length items, length_push c.loop.all.items lane, c.loop.invariant.count);
      lanes = subst (λ lanes. All (λ lane. IsIdleLane row lane) lanes) (sym items)
          (All-push (λ lane. IsIdleLane row lane) c.loop.all.items lane c.loop.invariant.lanes
          (idle_new row lane c.loop.main.knows c.split-pass.ensures.row.1 c.split-pass.ensures.new));
      main = subst (λ lanes. IsMainPass row c.split-pass.new.pass lanes) (sym items) wider;
    }
