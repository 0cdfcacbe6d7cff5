use Rattle.std.proofs.Common.{◌≡◌, List, ◌<◌, ◌+◌, [], ◌∷◌, ◌++◌, length, get_or, ap, sym, ◌∙◌, subst, arith}
use Rattle.record_text.specs.declared.record.Answer.{Answer}
use Rattle.lane_notes.specs.declared.lane.Lane.{Lane}
use Rattle.lane_notes.specs.Rounds.{LeftOf, as_index}
use Rattle.std.proofs.lemmas.List.{append-nil, get_or_default}
use Rattle.lane_run.proofs.Mains.{splits_lane}
use Rattle.lane_notes.specs.declared.lane.WorldPass.{WorldPass}
use Rattle.lane_run.proofs.Splitting.{SplitsSoFar, splits_more, splits_none, splits_past}
use Rattle.lane_run.proofs.rounds.split_lanes.Goals as goal
use Rattle.lane_run.proofs.rounds.split_lanes.Goals.{then-has_calls, else-has_calls}

pub loop-number-init : goal.loop-number-init
loop-number-init c = record {
  so_far = subst (λ ls. SplitsSoFar c.args.world.now c.args.round.now c.args.main.now c.args.left.now 1 c.args.main.now ls) (sym c.requires.room.0)
      (splits_none c.requires.main);
  room = omega (arith, ap (λ (ls : List Lane). length ls) c.requires.room.0, c.requires.room.1);
}

pub returns-clause-names : goal.returns-clause-names
returns-clause-names c =
    let many = ap (λ (l : LeftOf). length l.answers) c.left.view_is in
    sym (append-nil _) ∙ c.loop-number.invariant.so_far.names 0
    (omega (arith, many, c.len-number-end.ensures, c.loop-number-test.false, c.loop-number.auto.number, c.loop-number.auto.number-end))

pub loop-number-preserved : goal.loop-number-preserved
loop-number-preserved c =
    let left = c.args.left.now in
    let old = c.loop-number in
    let many = ap (λ (l : LeftOf). length l.answers) c.left.view_is in
    let here : old.number < length left.answers = omega (arith, many, c.len-number-end.ensures, c.loop-number-test.true) in
    let so_far = λ (lanes : List Lane) (q : WorldPass). SplitsSoFar c.args.world.now c.args.round.now c.args.main.now left (old.number + 1) q lanes in
    record {
      so_far = elim c.if-has_calls.branch [
        | then-has_calls w ↦
            let lane = w.new_lane.result in
            let label : w.label_of-label.result ≡ record { lane = old.number; call = as_index (length (get_or left.answers old.number [])) } =
            w.label_of-label.ensures ∙ ap (λ (xs : List Answer). record { lane = old.number; call = as_index (length xs) }) (w.as_slice.ensures
            ∙ w.index.ensures ∙ ap (λ (l : LeftOf). get_or l.answers old.number w.index.result.now) c.left.view_is
            ∙ get_or_default left.answers old.number w.index.result.now [] here) in
            subst (λ ls. so_far ls c.if-has_calls.main) (sym (ap (λ v. v.items) w.lanes-is ∙ w.push_reserved.ensures.items))
            (subst (so_far (old.lanes.items ++ lane ∷ [])) (sym w.main-is) (splits_more lane here (sym c.has_calls.ensures ∙ w.if-has_calls.true)
            (splits_lane lane w.new_lane.ensures.fields.1 w.split.ensures.pass w.split.ensures.splits)
            (record { label = w.new_lane.ensures.fields.0 ∙ label; notes = w.new_lane.ensures.empty.0; answers = w.new_lane.ensures.empty.1 })
            old.invariant.so_far))
        | else-has_calls w ↦
            subst (λ ls. so_far ls c.if-has_calls.main) (sym (ap (λ v. v.items) w.lanes-is)) (subst (so_far old.lanes.items) (sym w.main-is)
            (splits_past (sym c.has_calls.ensures ∙ w.if-has_calls.false) old.invariant.so_far))
      ];
      room = elim c.if-has_calls.branch [
        | then-has_calls w ↦ let h = w.push_reserved.ensures in rw w.lanes-is (omega (arith, old.invariant.room, h.len, h.capacity))
        | else-has_calls w ↦ rw w.lanes-is (omega (arith, old.invariant.room))
      ];
    }
