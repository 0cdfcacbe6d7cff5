-- Lanes that run at once, each by a handle of its own.
use Rattle.std.specs.Prelude.{◌≡◌, ◌⊎◌, List, [], ◌∷◌, map, Option, Some, None, Result, Ok, Err}
use Rattle.std.specs.List.{AllByRecursion}
use Rattle.std.specs.declared.alloc.AllocError.{AllocError}
use Rattle.hulayban.specs.Systems.{HandleOf, IsHandleOf, KeepsHandle, RetiresHandle, SplitsHandle, SystemOf}

-- how a lane ends
abbrev pub LaneEnd : Type 0
LaneEnd = Result Unit AllocError

-- how two lanes end: with the first one's fault, or as the next one
abbrev pub joined_end : LaneEnd → LaneEnd → LaneEnd
joined_end (Ok u) next = next
joined_end (Err fault) next = Err fault

-- how all of them end: with the fault of the first that has one
abbrev pub joined_ends : List LaneEnd → LaneEnd
joined_ends [] = Ok tt
joined_ends (e ∷ es) = joined_end e (joined_ends es)

-- a handle of this system is here
abbrev pub HasHandle : SystemOf → Option HandleOf → Type 0
HasHandle x None = ⊥
HasHandle x (Some h) = IsHandleOf x h

-- and is here again, after a lane did this by it
abbrev pub RunsHere : SystemOf → (HandleOf → HandleOf → Type 0) → Option HandleOf → Option HandleOf → Type 0
RunsHere x Did (Some h) (Some h') = KeepsHandle x h h' × Did h h'
RunsHere x Did None new = ⊥
RunsHere x Did (Some h) None = ⊥

-- A second handle was split off, each of two lanes did this by one of them, and the first took in the second.
pub record RunsBoth (x : SystemOf) (old new : HandleOf) (First Second : HandleOf → HandleOf → LaneEnd → Type 0) (done : LaneEnd) : Type 0 where
  pub one : HandleOf
  pub two : HandleOf
  pub splits : SplitsHandle x old one two
  pub one_after : HandleOf
  pub two_after : HandleOf
  pub one_done : LaneEnd
  pub two_done : LaneEnd
  pub first : First one one_after one_done
  pub second : Second two two_after two_done
  pub retires : RetiresHandle x one_after two_after new
  pub both : done ≡ joined_end one_done two_done

-- ---- any number of lanes

-- a handle was split off for each of these, for the last one first
abbrev pub SplitsEach : SystemOf → HandleOf → List HandleOf → HandleOf → Type 0
SplitsEach x old [] new = new ≡ old
SplitsEach x old (h ∷ hs) new = (last : HandleOf) × SplitsEach x old hs last × SplitsHandle x last new h

-- a handle took in each of these, the first one first
abbrev pub RetiresEach : SystemOf → HandleOf → List HandleOf → HandleOf → Type 0
RetiresEach x old [] new = new ≡ old
RetiresEach x old (h ∷ hs) new = (next : HandleOf) × RetiresHandle x old h next × RetiresEach x next hs new

-- a lane and its handle before it ran and after it, and how it ended
pub record LaneRun (L : Type 0) : Type 0 where
  pub lane : L
  pub lane_after : L
  pub handle : HandleOf
  pub handle_after : HandleOf
  pub ended : LaneEnd

module _ {L : Type 0} (x : SystemOf) (Did : L → L → HandleOf → HandleOf → LaneEnd → Type 0) where
  -- the lane did this by its handle, which has kept its name
  pub record LaneRuns (r : LaneRun L) : Type 0 where
    pub keeps : KeepsHandle x r.handle r.handle_after
    pub did : Did r.lane r.lane_after r.handle r.handle_after r.ended

  -- A handle was split off for each lane, each lane did this by its own, and the first handle took in all of them.
  pub record RunsLanes (lanes lanes' : List L) (old new : HandleOf) (done : LaneEnd) : Type 0 where
    pub runs : List (LaneRun L)
    pub before : map (λ (r : LaneRun L). r.lane) runs ≡ lanes
    pub after : map (λ (r : LaneRun L). r.lane_after) runs ≡ lanes'
    pub mid : HandleOf
    pub splits : SplitsEach x old (map (λ (r : LaneRun L). r.handle) runs) mid
    pub each : AllByRecursion LaneRuns runs
    pub retires : RetiresEach x mid (map (λ (r : LaneRun L). r.handle_after) runs) new
    pub ends : done ≡ joined_ends (map (λ (r : LaneRun L). r.ended) runs)

  -- there was no memory for the handles, and nothing was done
  pub record LeavesLanes (lanes lanes' : List L) (old new : HandleOf) (done : LaneEnd) : Type 0 where
    pub fault : AllocError
    pub done_is : done ≡ Err fault
    pub same : lanes' ≡ lanes
    pub handle : new ≡ old

  -- the lanes have run, or there was no memory for that
  abbrev pub RunsAll : List L → List L → HandleOf → HandleOf → LaneEnd → Type 0
  RunsAll lanes lanes' old new done = RunsLanes lanes lanes' old new done ⊎ LeavesLanes lanes lanes' old new done
