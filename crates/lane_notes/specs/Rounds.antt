-- Rounds: the calls of a lane in turn; passes of its own for each lane, which are taken in again; and all rounds of a script.
use Rattle.pass_names.specs.declared.PassId.{PassId}
use Rattle.std.specs.Prelude.{ℕ, ◌≡◌, ◌+◌, ◌-◌, ◌^◌, ◌<◌, min, nat_eq, Bool, zero, suc, List, [], ◌∷◌, ◌++◌, All, false, filter, get_or, length, map, replicate, set}
use Rattle.std.specs.List.{list_any}
use Rattle.run_history.specs.Actions.{also}
use Rattle.pass_names.specs.Names.{Covers}
use Rattle.pass_names.specs.Passes.{Retires}
use Rattle.pass_names.specs.SharedHistory.{TakesIn}
use Rattle.record_text.specs.declared.record.Answer.{Answer}
use Rattle.script_text.specs.declared.script.Call.{Call}
use Rattle.script_text.specs.declared.script.Round.{Round}
use Rattle.lane_notes.specs.Notes.{NotesOf, both_noted, no_notes}
use Rattle.lane_notes.specs.Called.{Called, LaneOf, lane_of}
use Rattle.lane_notes.specs.Worlds.{ArePassesOf, KeepPasses, LeadsByName, WorldOf}
use Rattle.lane_notes.specs.declared.lane.Lane.{Lane}
use Rattle.lane_notes.specs.declared.lane.WorldPass.{WorldPass}

-- ---- one lane

-- the calls of a lane in a round
abbrev pub lane_calls : ℕ → Round → List Call
lane_calls lane r = map (λ c. c.call) (filter (λ c. nat_eq c.lane lane) r.calls)

-- a count as far as a label can have it
abbrev pub as_index : ℕ → ℕ
as_index n = min n (2 ^ 32 - 1)

-- the lane, about to make its next call
abbrev pub next_of : LaneOf → LaneOf
next_of l = record l { label = record { lane = l.label.lane; call = as_index (l.label.call + 1) } }

-- calls made in turn, each with its answer
abbrev pub CalledAll : WorldOf → LaneOf → List Call → List Answer → LaneOf → Type 0
CalledAll x l [] [] m = m ≡ l
CalledAll x l (c ∷ cs) (a ∷ more) m = (n : LaneOf) × (n.label ≡ l.label) × Called x l c a n × CalledAll x (next_of n) cs more m
CalledAll x l [] (a ∷ more) m = ⊥
CalledAll x l (c ∷ cs) [] m = ⊥

-- a lane has made a call, with its answer behind those that it had
pub record AnswersCall (x : WorldOf) (old : Lane) (call : Call) (new : Lane) : Type 0 where
  pub given : Answer
  pub answers : new.answers.items ≡ old.answers.items ++ given ∷ []
  pub called : Called x (lane_of old) call given (lane_of new)

-- a lane has made these calls, with their answers behind those that it had
pub record MakesCalls (x : WorldOf) (old new : Lane) (cs : List Call) : Type 0 where
  pub given : List Answer
  pub answers : new.answers.items ≡ old.answers.items ++ given
  pub calls : CalledAll x (lane_of old) cs given (lane_of new)

-- ---- the lanes of a round

-- what all lanes have left so far: their notes, and the answers of each
pub record LeftOf : Type 0 where
  pub notes : NotesOf
  pub answers : List (List Answer)

-- nothing, of so many lanes
abbrev pub none_left : ℕ → LeftOf
none_left lanes = record { notes = no_notes; answers = replicate lanes [] }

-- with what a lane leaves of a round
abbrev pub with_left : LeftOf → ℕ → NotesOf → List Answer → LeftOf
with_left left lane notes given = record {
  notes = both_noted left.notes notes;
  answers = set left.answers lane (get_or left.answers lane [] ++ given);
}

abbrev pub with_lane : LeftOf → Lane → LeftOf
with_lane left l = with_left left l.label.lane l.notes l.answers.items

-- A lane begins a round: its passes have seen what the main ones had and have made nothing, and nothing is noted. Its next call is the one behind
-- those that it has answers of.
pub record BeginsRound (main : WorldPass) (left : LeftOf) (lane : Lane) : Type 0 where
  pub within : lane.label.lane < length left.answers
  pub call : lane.label.call ≡ as_index (length (get_or left.answers lane.label.lane []))
  pub timers : (lane.pass.timers.known.seen ≡ main.timers.known.seen) × (lane.pass.timers.known.mine ≡ [])
  pub objects : (lane.pass.objects.knows.pass.seen ≡ main.objects.knows.pass.seen) × (lane.pass.objects.knows.pass.mine ≡ [])
  pub clock : (lane.pass.clock.knows.pass.seen ≡ main.clock.knows.pass.seen) × (lane.pass.clock.knows.pass.mine ≡ [])
  pub signals : (lane.pass.signals.knows.pass.seen ≡ main.signals.knows.pass.seen) × (lane.pass.signals.knows.pass.mine ≡ [])
  pub notes : lane.notes ≡ no_notes
  pub answers : lane.answers.items ≡ []

-- passes were split off, and nothing but names has changed by it
pub record HasSplit (p q : WorldPass) : Type 0 where
  pub timers : (q.timers.known.seen ≡ p.timers.known.seen) × (q.timers.known.mine ≡ p.timers.known.mine)
  pub objects : (q.objects.knows.pass.seen ≡ p.objects.knows.pass.seen) × (q.objects.knows.pass.mine ≡ p.objects.knows.pass.mine)
  pub clock : (q.clock.knows.pass.seen ≡ p.clock.knows.pass.seen) × (q.clock.knows.pass.mine ≡ p.clock.knows.pass.mine)
  pub signals : (q.signals.knows.pass.seen ≡ p.signals.knows.pass.seen) × (q.signals.knows.pass.mine ≡ p.signals.knows.pass.mine)

-- The first lane begins a round by the first passes, from which those of the others were split off. Nothing is noted, and its next call is the one
-- behind those that it has answers of.
pub record BeginsFirst (x : WorldOf) (main : WorldPass) (left : LeftOf) (lane : Lane) : Type 0 where
  pub label : lane.label ≡ record { lane = 0; call = as_index (length (get_or left.answers 0 [])) }
  pub of : ArePassesOf x lane.pass
  pub split : HasSplit main lane.pass
  pub notes : lane.notes ≡ no_notes
  pub answers : lane.answers.items ≡ []

-- the passes have taken in others, and that of the clock has looked
pub record TakesInPass (main other new : WorldPass) : Type 0 where
  pub timers : TakesIn main.timers.known other.timers.known new.timers.known
  pub objects : Retires main.objects.knows.pass other.objects.knows.pass new.objects.knows.pass
  pub clock : Retires main.clock.knows.pass other.clock.knows.pass new.clock.knows.pass
  pub signals : Retires main.signals.knows.pass other.signals.knows.pass new.signals.knows.pass

-- lanes are taken in one after another, the last one first, each with what it leaves
abbrev pub TakesInLanes : WorldPass → LeftOf → List Lane → WorldPass → LeftOf → Type 0
TakesInLanes p left [] q now = (q ≡ p) × (now ≡ left)
TakesInLanes p left (lane ∷ lanes) q now =
    (m : WorldPass) × (n : LeftOf) × TakesInLanes p left lanes m n × TakesInPass m lane.pass q × (now ≡ with_lane n lane)

-- a pass is a first one, and answers for those of these names and for no others
abbrev pub LeadsFor : PassId → List (List ℕ) → Type 0
LeadsFor id names = (id.name ≡ []) × Covers id names

-- the first passes, which answer for those of these lanes and for no others
pub record IsMain (x : WorldOf) (p : WorldPass) (lanes : List Lane) : Type 0 where
  pub pass : ArePassesOf x p
  pub unclaimed : p.timers.known.claims ≡ []
  pub timers : LeadsFor p.timers.known.id (map (λ l. l.pass.timers.known.id.name) lanes)
  pub objects : LeadsFor p.objects.knows.pass.id (map (λ l. l.pass.objects.knows.pass.id.name) lanes)
  pub clock : LeadsFor p.clock.knows.pass.id (map (λ l. l.pass.clock.knows.pass.id.name) lanes)
  pub signals : LeadsFor p.signals.knows.pass.id (map (λ l. l.pass.signals.knows.pass.id.name) lanes)

-- the passes of a lane behind the first are the world's, answer for no others and have no claims
pub record IsLaneOf (x : WorldOf) (l : Lane) : Type 0 where
  pub behind : 0 < l.label.lane
  pub pass : ArePassesOf x l.pass
  pub unclaimed : l.pass.timers.known.claims ≡ []
  pub timers : l.pass.timers.known.id.split ≡ []
  pub objects : l.pass.objects.knows.pass.id.split ≡ []
  pub clock : l.pass.clock.knows.pass.id.split ≡ []
  pub signals : l.pass.signals.knows.pass.id.split ≡ []

-- a lane can make calls: its passes are the world's, and the first lane's are the first ones
pub record CanRun (x : WorldOf) (l : Lane) : Type 0 where
  pub pass : ArePassesOf x l.pass
  pub first : LeadsByName l.label.lane l.pass

-- whether a lane has calls in a round
abbrev pub has_calls : Round → ℕ → Bool
has_calls r lane = list_any (λ c. nat_eq c.lane lane) r.calls

-- the lanes from this one on, so many, that have calls in a round
abbrev pub calling_from : Round → ℕ → ℕ → List ℕ
calling_from r lane zero = []
calling_from r lane (suc n) = also (has_calls r lane) lane (calling_from r (lane + 1) n)

-- what a lane did in a round
pub record MakesLane (x : WorldOf) (r : Round) (old new : Lane) : Type 0 where
  pub name : new.label.lane ≡ old.label.lane
  pub calls : MakesCalls x old new (lane_calls old.label.lane r)

-- a lane has run in a round; unless it wanted memory, it has made its calls
pub record RunsLane (x : WorldOf) (r : Round) (old new : Lane) : Type 0 where
  pub pass : ArePassesOf x new.pass
  pub name : new.label.lane ≡ old.label.lane
  pub keeps : KeepPasses old.pass new.pass
  pub made : new.wants_memory ≡ false → MakesLane x r old new

-- A round: the first lane begins it by the first passes, and the others that have calls in it with passes of their own, which are the world's. They
-- make their calls, and are taken in again: what the first lane leaves, and then the others.
pub record MakesRound (x : WorldOf) (r : Round) (p : WorldPass) (left : LeftOf) (q : WorldPass) (now : LeftOf) : Type 0 where
  pub first : Lane
  pub after : Lane
  pub leads : BeginsFirst x p left first
  pub first_made : MakesLane x r first after
  pub begun : List Lane
  pub ended : List Lane
  pub lanes : map (λ l. l.label.lane) begun ≡ calling_from r 1 (length left.answers - 1)
  pub begins : All (BeginsRound p left) begun
  pub of : All (IsLaneOf x) begun
  pub as_many : length ended ≡ length begun
  pub made : (k : ℕ) (d : Lane) → k < length begun → MakesLane x r (get_or begun k d) (get_or ended k d)
  pub taken : TakesInLanes after.pass (with_lane left after) ended q now

-- rounds in turn
abbrev pub MakesRounds : WorldOf → List Round → WorldPass → LeftOf → WorldPass → LeftOf → Type 0
MakesRounds x [] p left q now = (q ≡ p) × (now ≡ left)
MakesRounds x (r ∷ rs) p left q now = (m : WorldPass) × (n : LeftOf) × MakesRound x r p left m n × MakesRounds x rs m n q now
