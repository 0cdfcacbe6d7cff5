-- The lanes that are handed to workers: what is asked of them, and what they have become; the seats of a crew; and the first passes of a run, taken out and put back.
use Rattle.std.specs.Prelude.{ℕ, ◌≡◌, ◌<◌, ◌≤◌, List, [], length, get_or, IfOk, Option, Result, Some}
use Rattle.std.specs.declared.alloc.AllocError.{AllocError}
use Rattle.handoff.specs.Seated.{HandoffOf, HasEnded, MayGive, AwaitsWork, SeatOf}
use Rattle.script_text.specs.declared.script.Round.{Round}
use Rattle.script_text.specs.declared.script.Script.{Script}
use Rattle.record_text.specs.declared.record.RunRecord.{RunRecord}
use Rattle.lane_notes.specs.declared.lane.WorldPass.{WorldPass}
use Rattle.lane_notes.specs.Rounds.{CanRun, IsMain, RunsLane}
use Rattle.lane_notes.specs.Runs.{MakesRun}
use Rattle.lane_notes.specs.Worlds.{WorldOf}
use Rattle.lane_run.specs.declared.crew.Ground.{Ground}
use Rattle.lane_run.specs.declared.crew.LaneRound.{LaneRound}

-- the lane can make calls, and the script has the round
abbrev pub CanRunAt : Ground → LaneRound → Type 0
CanRunAt g l = CanRun g.world.value l.lane × (l.round < length g.script.value.rounds)

-- the lane has run in the round
abbrev pub RunsAt : Ground → LaneRound → LaneRound → Type 0
RunsAt g old new = (d : Round) → RunsLane g.world.value (get_or g.script.value.rounds old.round d) old.lane new.lane

-- this world, and this script
pub record IsGroundOf (x : WorldOf) (s : Script) (g : Ground) : Type 0 where
  pub world : g.world.value ≡ x
  pub script : g.script.value ≡ s

-- this round of the script
pub record IsRoundOf (g : Ground) (number : ℕ) (r : Round) : Type 0 where
  pub within : number < length g.script.value.rounds
  pub is : (d : Round) → get_or g.script.value.rounds number d ≡ r

-- a seat of a handoff at which lanes are handed over
abbrev pub SeatOfLanes : Type 0
SeatOfLanes = SeatOf LaneRound Ground

-- no more seats than handoffs, and each seat has this at the handoff of its number, whose key is this ground
pub record AreAt (Has : HandoffOf Ground → SeatOfLanes → Type 0) (g : Ground) (handoffs : List (HandoffOf Ground)) (seats : List SeatOfLanes) : Type 0 where
  pub many : length seats ≤ length handoffs
  pub each : (k : ℕ) (p : HandoffOf Ground) (s : SeatOfLanes) → k < length seats → ((get_or handoffs k p).key ≡ g) × Has (get_or handoffs k p) (get_or seats k s)

-- givers that may give
abbrev pub AllMayGive : Ground → List (HandoffOf Ground) → List SeatOfLanes → Type 0
AllMayGive g handoffs seats = AreAt (λ p s. MayGive p s) g handoffs seats

-- workers that await work
abbrev pub AllAwaitWork : Ground → List (HandoffOf Ground) → List SeatOfLanes → Type 0
AllAwaitWork g handoffs seats = AreAt (λ p s. AwaitsWork p s) g handoffs seats

-- handoffs of this ground with as many givers, which may give, and as many workers, which await work
pub record IsCrewOf (g : Ground) (handoffs : List (HandoffOf Ground)) (givers workers : List SeatOfLanes) : Type 0 where
  pub may_give : AllMayGive g handoffs givers
  pub as_many_givers : length givers ≡ length handoffs
  pub await_work : AllAwaitWork g handoffs workers
  pub as_many_workers : length workers ≡ length handoffs

-- givers that have ended, as many as there are handoffs
pub record AllHaveEnded (handoffs : List (HandoffOf Ground)) (seats : List SeatOfLanes) : Type 0 where
  pub many : length seats ≡ length handoffs
  pub each : (k : ℕ) (p : HandoffOf Ground) (s : SeatOfLanes) → k < length seats → HasEnded (get_or handoffs k p) (get_or seats k s)

-- a worker that awaits work at the handoff of this number, which is of this world and script
abbrev pub AwaitsWorkAt : WorldOf → Script → List (HandoffOf Ground) → ℕ → SeatOfLanes → Type 0
AwaitsWorkAt x s handoffs k seat = (p : HandoffOf Ground) → IsGroundOf x s (get_or handoffs k p).key × AwaitsWork (get_or handoffs k p) seat

-- workers that await work at handoffs of this world and script
abbrev pub AllAwaitWorkOf : WorldOf → Script → List (HandoffOf Ground) → List SeatOfLanes → Type 0
AllAwaitWorkOf x s handoffs seats = (g : Ground) × (IsGroundOf x s g × AllAwaitWork g handoffs seats)

-- ---- the first passes, which are taken out and put back

-- they are there
abbrev pub HasMain : WorldOf → Option WorldPass → Type 0
HasMain x held = (p : WorldPass) × ((held ≡ Some p) × IsMain x p [])

-- they have gone through a run, and are there again
pub record RunsHeld (x : WorldOf) (s : Script) (old : Option WorldPass) (made : Result RunRecord AllocError) (new : Option WorldPass) : Type 0 where
  pub after : WorldPass
  pub is : new ≡ Some after
  pub main : IsMain x after []
  pub run : (p : WorldPass) → old ≡ Some p → IfOk made (λ r. MakesRun x s p r after)
