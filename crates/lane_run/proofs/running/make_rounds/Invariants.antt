use Rattle.std.proofs.Common.{◌≡◌, [], length, take}
use Rattle.lane_notes.specs.Rounds.{IsMain, MakesRounds, none_left}
use Rattle.lane_run.specs.Crews.{AllMayGive}
use Rattle.lane_run.proofs.running.make_rounds.Given as goal

abbrev pub invariant-loop-number : goal.invariant-loop-number
invariant-loop-number g l = record {
  givers : AllMayGive l.ground l.handoffs.items l.givers.items;
  givers_many : length l.givers.items ≡ length l.fn.givers.items;
  main : IsMain l.world l.main [];
  lanes : length l.left.answers ≡ l.script.lanes;
  rounds : MakesRounds l.world (take l.number l.rounds) l.fn.main (none_left l.script.lanes) l.main l.left;
}
