use Rattle.std.specs.Prelude.{OnOk, Result}
use Rattle.std.specs.declared.alloc.AllocError.{AllocError}
use Rattle.std.proofs.Common.{◌<◌, List, [], ◌∷◌, ◌++◌, length, get_or, take, arith, sym, ap, ◌∙◌, subst}
use Rattle.std.specs.List.{AllByRecursion}
use Rattle.std.proofs.lemmas.List.{take_all, take_more}
use Rattle.script_text.specs.declared.script.LaneCall.{LaneCall}
use Rattle.script_text.specs.declared.script.Round.{Round}
use Rattle.lane_notes.specs.Rounds.{MakesRound, MakesRounds, none_left}
use Rattle.lane_notes.specs.Called.{CanCall}
use Rattle.lane_run.proofs.Greatest.{lanes_few}
use Rattle.lane_run.proofs.Looking.{run_made}
use Rattle.lane_run.proofs.Ranges.{round_can}
use Rattle.script_text.proofs.VersionOne.{version_one_is_hard}
use Rattle.lane_run.proofs.Taking.{rounds_push}
use Rattle.lane_run.proofs.running.make_rounds.Goals as goal

pub make_round-after-requires-clause-few : goal.make_round-after-requires-clause-few
make_round-after-requires-clause-few g c = λ κs outlives. (
  omega (arith, c.loop-number.invariant.lanes, c.requires.range.lanes.0),
  omega
      (arith, c.loop-number.invariant.lanes, c.requires.range.lanes.1, lanes_few c.args.script.now.version),
)

pub make_round-after-requires-clause-calls : goal.make_round-after-requires-clause-calls
make_round-after-requires-clause-calls g c = λ κs outlives.
    let items = c.as_slice-rounds in
    let i = c.loop-number.number in
    let is = c.index-rounds-number.is ∙ ap (λ rs. get_or rs i c.index-rounds-number.result) items.ensures in
    subst (λ (r : Round). AllByRecursion (λ (x : LaneCall). CanCall c.args.world.now x.lane x.call) r.calls) (sym is)
    (round_can c.requires.range c.requires.world c.args.script.now.rounds i c.index-rounds-number.result
    (subst (λ (rs : List Round). i < length rs) items.ensures c.loop-number-test.true) c.requires.range.calls
    (λ one. (version_one_is_hard c.args.script.now c.requires.range one).calls))

pub loop-number-preserved : goal.loop-number-preserved
loop-number-preserved g c =
    let x = c.args.world.now in
    let p = c.args.main in
    let none = none_left c.args.script.now.lanes in
    let items = c.as_slice-rounds.result.now in
    let old = c.loop-number in
    let after = c.make_round-after in
    let q = after.result.0 in record {
      givers = after.ensures.givers;
      givers_many = after.ensures.givers_many ∙ old.invariant.givers_many;
      main = after.ensures.main;
      lanes = after.ensures.lanes ∙ old.invariant.lanes;
      rounds = subst (λ rs. MakesRounds x rs p none q after.new.left) (sym (take_more items old.number c.index-rounds-number.result c.loop-number-test.true))
          (subst (λ (r : Round). MakesRounds x (take old.number items ++ r ∷ []) p none q after.new.left) c.index-rounds-number.is
          (rounds_push (take old.number items) p none old.invariant.rounds
          (subst (λ (made : Result Unit AllocError). OnOk made (MakesRound x c.index-rounds-number.result old.main old.left q after.new.left)) c.in_default.is
          after.ensures.round)));
    }

pub returns-clause-run : goal.returns-clause-run
returns-clause-run g c =
    let old = c.loop-number in
    let items = c.as_slice-rounds in
    let all = take_all old.number items.result.now (omega (arith, c.loop-number-test.false)) ∙ items.ensures in
    let none = none_left c.args.script.now.lanes in
    let rounds = subst (λ (rs : List Round). MakesRounds c.args.world.now rs c.args.main none old.main old.left) all old.invariant.rounds in
    run_made c.args.script.now c.args.main old.left c.record_left.result rounds c.settle.ensures.main c.settle.ensures.settles c.look_at_queue.ensures.looks c.look_at_all.ensures.looks c.record_left.ensures
