-- What many lanes leave together at the end of a run, and what it takes for that to be a run.
use Rattle.std.specs.List.{AllByRecursion}
use Rattle.std.specs.Prelude.{ℕ, ◌≡◌, ◌≤◌, ◌<◌, List, [], length, map}
use Rattle.ktime.specs.Clocks.{at_stamp}
use Rattle.seq_timer.specs.Systems.{IsSystemHistory}
use Rattle.seq_timer.specs.declared.system.SystemEntry.{SystemEntry}
use Rattle.record_text.specs.declared.record.Label.{Label}
use Rattle.record_text.specs.declared.record.RunRecord.{RunRecord}
use Rattle.run_history.specs.Histories.{answers_of, AreWrites, clock_labels, lines_of_timer}
use Rattle.script_text.specs.Declarations.{terms_of, declareds_of, kind_of}
use Rattle.run_history.specs.Objects.{IsLegalObject, lines_of_object}
use Rattle.run_history.specs.Order.{AreUnder, calls_of, IsLabel}
use Rattle.script_text.specs.declared.script.Script.{Script}
use Rattle.run_history.specs.Witnesses.{RunLists, Witness, entries_in, IsOneHistory, labels, Trace}
use Rattle.run_history.specs.Fits.{AreSkipsUnder, FitsLane, unseen}
use Rattle.run_history.specs.Receipts.{AreAll, AreFiled, Filed, PlacedEntry, ShowsEntry, weave}
use Rattle.run_history.specs.Rounds.{IsLaid, IsLedger, Spans}
use Rattle.run_history.specs.Signals.{AreSignals, SendsSignals, SignalLine, push_counter}
use Rattle.signal_queue.specs.declared.signal.Turn.{Turn}

-- What a lane keeps of one call: its receipts with their places; what it did; how many entries of all timers, bases and objects, and writes of the clock, its
-- passes had seen when it began and when it ended; and its turns of the queue of signals, each with how many the queue had before it.
pub record CallLog : Type 0 where
  pub notes : List PlacedEntry
  pub trace : Trace
  pub moves : ℕ × ℕ
  pub clock : ℕ × ℕ
  pub turns : List (ℕ × Turn)

-- of each list how long it was when each round began: of all entries, and of the clock's writes
pub record RoundStarts : Type 0 where
  pub moves : ℕ → ℕ
  pub clock : ℕ → ℕ

-- The record; the order of all entries, which is what the last pass of the timers' table has seen; of each counter of the queue its signals, which the last
-- pass of the queue has seen, with their calls; what the lanes kept of each call; and where rounds began.
pub record Ending : Type 0 where
  pub run : RunRecord
  pub order : List SystemEntry
  pub signals : ℕ → List SignalLine
  pub logs : Label → CallLog
  pub starts : RoundStarts

-- the receipts of a call
abbrev pub notes_in : Ending → Label → List PlacedEntry
notes_in e c = (e.logs c).notes

-- the spans of the calls on the list of all entries, and on that of the clock's writes
abbrev pub moves_spans : Ending → Spans
moves_spans e = record { first = λ c. (e.logs c).moves.0; last = λ c. (e.logs c).moves.1; starts = e.starts.moves }

abbrev pub clock_spans : Ending → Spans
clock_spans e = record { first = λ c. (e.logs c).clock.0; last = λ c. (e.logs c).clock.1; starts = e.starts.clock }

-- the lists of the run
abbrev pub lists_of : Ending → RunLists
lists_of e = record { run = e.run; signals = e.signals }

-- the record's lines along the order
abbrev pub witness_of : Script → Ending → Witness
witness_of s e =
    record { script = s; run = e.run; moves = weave (lists_of e) [] e.order; signals = e.signals; traces = λ c. (e.logs c).trace }

-- the queue's signals are those of one queue, and only queued timers' signals are pushed
pub record AreQueued (s : Script) (e : Ending) : Type 0 where
  pub legal : AreSignals s e.signals e.order
  pub of : AllByRecursion (λ line. SendsSignals (kind_of s line.signal.timer)) (e.signals (push_counter s))

-- what holds of the whole run, for each lane to use
pub record IsJoined (s : Script) (e : Ending) : Type 0 where
  -- the entries along the record's lines are the order's, a history of all timers and bases
  pub entries : entries_in (witness_of s e) ≡ e.order
  pub history : IsSystemHistory s.bases (declareds_of s) (terms_of s) e.order
  pub one : IsOneHistory (witness_of s e)
  -- each call's receipts are its moves
  pub all : (c : Label) → AreAll c (witness_of s e).moves (notes_in e c)
  -- calls stand along each list by rounds
  pub moves_laid : IsLaid s (labels (witness_of s e)) (moves_spans e)
  pub clock_laid : IsLaid s (clock_labels e.run) (clock_spans e)
  pub signals : AreQueued s e

-- the parts that make a run, each of which is what one table or one lane gives
pub record IsEnding (s : Script) (e : Ending) : Type 0 where
  -- the timers' table
  pub history : IsSystemHistory s.bases (declareds_of s) (terms_of s) e.order
  -- the record's lines are the receipts of all calls, sorted, and each shows its entry
  pub sorted : List Filed
  pub filed : AreFiled (lists_of e) e.order (notes_in e) sorted
  pub entries : (c : Label) → AllByRecursion (ShowsEntry e.run e.order) (notes_in e c)
  -- the receipts stand in their calls' spans
  pub ledger : IsLedger s (moves_spans e)
  pub whole : (c : Label) → IsLabel s c → (e.logs c).moves.1 ≤ length e.order
  pub inside : (c : Label)
      → AllByRecursion (λ x. IsLabel s c × ((e.logs c).moves.0 ≤ x.place) × (x.place < (e.logs c).moves.1)) (notes_in e c)
  -- the clock's list
  pub clock_laid : IsLaid s (clock_labels e.run) (clock_spans e)
  pub writes : AreWrites (at_stamp 0) e.run.clock
  pub signals : AreQueued s e
  -- the objects' lists
  pub object_histories : (i : ℕ) → IsLegalObject s e.run i (kind_of s i)
  -- looks and skips under their lines, and one list for each base, timer and lane
  pub looks : (t : ℕ) → AllByRecursion (λ line. AreUnder s (map (λ look. look.label) line.looks)) (lines_of_timer e.run t)
  pub skips : (i : ℕ) → AllByRecursion (λ line. AreSkipsUnder s (map (λ skip. skip.label) line.skips)) (lines_of_object e.run i)
  pub bases : length e.run.bases ≡ s.bases
  pub timers : length e.run.timers ≡ length s.timers
  pub objects : length e.run.objects ≡ length s.timers
  pub lanes : length e.run.answers ≡ s.lanes
  pub version : e.run.version ≡ s.version
  -- each lane's promise
  pub calls : (lane : ℕ) → IsJoined s e → FitsLane (witness_of s e) lane 0 unseen (calls_of s lane) (answers_of e.run lane)

-- a run of lanes may leave this record
abbrev pub IsRun : Script → RunRecord → Type 0
IsRun s r = (e : Ending) × (e.run ≡ r) × IsEnding s e
