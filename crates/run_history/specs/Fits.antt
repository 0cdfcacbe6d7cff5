-- What it means that a record fits a script: each call is there once, in the order of its lane; all timers' and bases' entries are one history, in which
-- the clock's writes and readings, the objects' entries, and the pushes and pops of signals have their places; and each object's are one history.
use Rattle.std.specs.Prelude.{ℕ, ◌≡◌, ◌≤◌, ◌+◌, false, MatchBool, List, [], ◌∷◌, length, map}
use Rattle.std.specs.List.{AllByRecursion}
use Rattle.ktime.specs.Clocks.{at_stamp}
use Rattle.script_text.specs.declared.script.Call.{Call}
use Rattle.script_text.specs.declared.script.Script.{Script}
use Rattle.record_text.specs.declared.record.Label.{Label}
use Rattle.record_text.specs.declared.record.Answer.{Answer}
use Rattle.record_text.specs.declared.record.RunRecord.{RunRecord}
use Rattle.run_history.specs.Order.{AreUnder, CallInRound, calls_of, is_lower, IsInOrder, IsLabel, IsPoint, NeverFall}
use Rattle.run_history.specs.Histories.{answers_of, AreWrites, clock_labels, lines_of_timer}
use Rattle.run_history.specs.Objects.{IsLegalObject, lines_of_object}
use Rattle.script_text.specs.Declarations.{kind_of}
use Rattle.run_history.specs.Actions.{wrote}
use Rattle.run_history.specs.Signals.{AreSignals, SignalLine}
use Rattle.run_history.specs.Witnesses.{Move, Trace, Witness, IsOneHistory, entries_in, labels, witness_with, writes_along}
use Rattle.run_history.specs.Traces.{HasTraced}
use Rattle.run_history.specs.Calls.{AnswerHolds, Does, reads_clock}
use Rattle.run_history.specs.Deeds.{AllKeepExpiries, AllMoved}
use Rattle.run_history.specs.Truths.{AreTrue, IsMoment, LeftInTurn, sight_of}

-- how many of the clock's writes, and how many moves, a lane has seen
pub record Seen : Type 0 where
  pub clock : ℕ
  pub moves : ℕ

-- nothing is seen yet
abbrev pub unseen : Seen
unseen = record { clock = 0; moves = 0 }

-- One call with its answer, by this trace of it: what it did is what the record shows, and makes the answer right; it saw no less than its lane had seen
-- before, and no more than its lane has seen after it.
pub record TraceExplains (w : Witness) (c : Label) (t : Trace) (call : Call) (answer : Answer) (before after : Seen) : Type 0 where
  pub traced : HasTraced w c t.actions
  pub does : Does (sight_of w t.first t.last) w.script t.at call answer t.fired t.moved t.actions
  -- the timers that it moved off a base keep their expiries
  pub keeps : AllKeepExpiries w.script w.run call t.moved
  -- and each was the next one, while no function ran there, where it left
  pub turns : AllMoved (LeftInTurn w t.first t.last) call t.moved
  pub reading : IsPoint w.script c 0 t.at (clock_labels w.run)
  -- its first moment, at which it had made no entry, and its last, at which it had made them all
  pub begins : IsMoment w c [] t.first
  pub ends : IsMoment w c t.actions t.last
  pub truth : AreTrue w c t.first [] t.actions t.last
  pub holds : AnswerHolds w t.first t.last c t.at t.actions call answer
  pub clock_steps : NeverFall before.clock (t.at ∷ map (λ x. x.0) (wrote t.actions)) after.clock
  pub move_steps : (before.moves ≤ t.first) × (t.last ≤ after.moves)

-- the same, by what the witness says that the call did
abbrev pub FitsCall : Witness → Label → Call → Answer → Seen → Seen → Type 0
FitsCall w c call answer before after = TraceExplains w c (w.traces c) call answer before after

-- A call read the clock at a moment behind all that its lane had seen, and no later than its first, at which it had made no entry: so many of the clock's
-- writes as its reading has stood before that moment.
pub record HasRead (w : Witness) (c : Label) (from : ℕ) : Type 0 where
  pub moment : ℕ
  pub behind : from ≤ moment
  pub no_later : moment ≤ (w.traces c).first
  pub writes : writes_along w moment ≡ (w.traces c).at

-- so each call that reads the clock
abbrev pub ReadsInTurn : Witness → Label → Call → ℕ → Type 0
ReadsInTurn w c call from = MatchBool (reads_clock call) (HasRead w c from) Unit

-- one call in its lane's turn
abbrev pub FitsInTurn : Witness → Label → Call → Answer → Seen → Seen → Type 0
FitsInTurn w c call answer before after = FitsCall w c call answer before after × ReadsInTurn w c call before.moves

-- the calls of a lane from one of them on, each with its answer
abbrev pub FitsLane : Witness → ℕ → ℕ → Seen → List CallInRound → List Answer → Type 0
FitsLane w lane index before [] [] = Unit
FitsLane w lane index before (p ∷ ps) (a ∷ more) =
    (after : Seen) × FitsInTurn w (record { lane = lane; call = index }) p.call a before after × FitsLane w lane (index + 1) after ps more
FitsLane w lane index before [] (a ∷ more) = ⊥
FitsLane w lane index before (p ∷ ps) [] = ⊥

-- no label is lower than one that stands ahead of it
abbrev pub LabelsNeverFall : List Label → Type 0
LabelsNeverFall [] = Unit
LabelsNeverFall (c ∷ cs) = AllByRecursion (λ other. is_lower other c ≡ false) cs × LabelsNeverFall cs

-- the labels of the refused expiries under one entry are those of calls, and stand in order; one call may have had more than one refused there
pub record AreSkipsUnder (s : Script) (labels : List Label) : Type 0 where
  pub calls : AllByRecursion (IsLabel s) labels
  pub in_order : LabelsNeverFall labels

-- the record fits the script, in this order of all entries, writes, pushes and pops
pub record FitsIn (w : Witness) : Type 0 where
  -- the record is of the script's version
  pub version : w.run.version ≡ w.script.version
  -- a history for each base, one for each timer and one for the object of the same number, and the answers of each lane
  pub bases : length w.run.bases ≡ w.script.bases
  pub timers : length w.run.timers ≡ length w.script.timers
  pub objects : length w.run.objects ≡ length w.script.timers
  pub lanes : length w.run.answers ≡ w.script.lanes
  -- no line bears another label than that of a call; an object's lines are moves
  pub clock_calls : AllByRecursion (IsLabel w.script) (clock_labels w.run)
  pub move_calls : AllByRecursion (IsLabel w.script) (labels w)
  pub looks : (t : ℕ) → AllByRecursion (λ line. AreUnder w.script (map (λ look. look.label) line.looks)) (lines_of_timer w.run t)
  pub skips : (i : ℕ) → AllByRecursion (λ line. AreSkipsUnder w.script (map (λ skip. skip.label) line.skips)) (lines_of_object w.run i)
  -- the clock's lines are writes that it took, all timers' and bases' entries are one history, and each object's one that such an object gives
  pub writes : AreWrites (at_stamp 0) w.run.clock
  pub history : IsOneHistory w
  pub object_histories : (i : ℕ) → IsLegalObject w.script w.run i (kind_of w.script i)
  -- along each list, rounds follow one another, and a lane's calls keep their order
  pub clock_order : IsInOrder w.script (clock_labels w.run)
  pub order : IsInOrder w.script (labels w)
  -- and the pushes and pops of signals are those of one queue
  pub signals : AreSignals w.script w.signals (entries_in w)
  -- each call of each lane has its answer, and the answer is right
  pub calls : (lane : ℕ) → FitsLane w lane 0 unseen (calls_of w.script lane) (answers_of w.run lane)

-- the record fits the script: there are one order of all entries, writes, pushes and pops, the signals that were pushed and popped, and for each call what it
-- did, with which it does
abbrev pub Fits : Script → RunRecord → Type 0
Fits s r = (moves : List Move) × (signals : ℕ → List SignalLine) × (traces : Label → Trace) × FitsIn (witness_with s r moves signals traces)
