use Rattle.std.proofs.Common.{◌≡◌, ◌<◌, ◌∙◌, length, get_or, [], sym, subst, ap}
use Rattle.record_text.specs.declared.record.Answer.{Answer}
use Rattle.std.proofs.lemmas.List.{get_or_default}
use Rattle.lane_notes.specs.Rounds.{HasSplit, LeftOf, as_index}
use Rattle.lane_notes.specs.Worlds.{ArePassesOf, KeepPasses}
use Rattle.lane_notes.specs.declared.lane.WorldPass.{WorldPass}
use Rattle.lane_run.proofs.Calls.{on_both}
use Rattle.lane_run.proofs.Mains.{main_ran}
use Rattle.std.proofs.Common.{List}
use Rattle.lane_run.proofs.rounds.make_round.Goals as goal

pub take_in_all-requires-clause-main : goal.take_in_all-requires-clause-main
take_in_all-requires-clause-main g c =
    let same = c.new_lane-first.ensures.fields.1 in
    let ran = c.share_lanes-first.ensures.first in
    main_ran c.split_lanes.new.lanes.items c.share_lanes-first.new.lanes.items ran.pass
    (subst (λ (p : WorldPass). KeepPasses p c.share_lanes-first.result.pass) same ran.keeps) c.share_lanes-first.ensures.as_many
    (λ k d h. (c.share_lanes-first.ensures.ran k d h).keeps) c.split_lanes.ensures.main

pub returns-clause-round : goal.returns-clause-round
returns-clause-round g c =
    let left = c.args.left.now in
    let first = c.new_lane-first.result in
    let same = c.new_lane-first.ensures.fields.1 in
    let label : c.label_of.result ≡ record { lane = 0; call = as_index (length (get_or left.answers 0 [])) } =
    c.label_of.ensures ∙ ap (λ (xs : List Answer). record { lane = 0; call = as_index (length xs) }) (c.as_slice.ensures ∙ c.index.ensures
    ∙ ap (λ (l : LeftOf). get_or l.answers 0 c.index.result.now) c.left.view_is ∙ get_or_default left.answers 0 c.index.result.now [] c.requires.few.0) in
    let ended = c.share_lanes-first.new.lanes.items in
    let many = c.share_lanes-first.ensures.as_many in
    let first_ran = c.share_lanes-first.ensures.first in
    on_both c.take_in_all.result.1 c.take_in_all.ensures.memory c.take_in_all.ensures.taken (λ quiet taken. record {
      first = first;
      after = c.share_lanes-first.result;
      leads = record {
        label = c.new_lane-first.ensures.fields.0 ∙ label;
        of = subst (ArePassesOf c.args.world.now) (sym same) c.split_lanes.ensures.main.pass;
        split = subst (HasSplit c.args.main) (sym same) c.split_lanes.ensures.split;
        notes = c.new_lane-first.ensures.empty.0;
        answers = c.new_lane-first.ensures.empty.1;
      };
      first_made = first_ran.made quiet.0;
      begun = c.split_lanes.new.lanes.items;
      ended = ended;
      lanes = c.split_lanes.ensures.names;
      begins = c.split_lanes.ensures.begins;
      of = c.split_lanes.ensures.lanes;
      as_many = many;
      made = λ k d h. (c.share_lanes-first.ensures.ran k d h).made (quiet.1 k d (subst (λ n. k < n) (sym many) h));
      taken = taken;
    })
