-- One order of all entries of a record's timers, bases and objects, of the beginnings of calls' turns of objects, of the clock's writes, and of pushes and
-- pops of signals; and all timers and bases after each number of them.
use Rattle.std.specs.Prelude.{ℕ, zero, suc, ◌≡◌, ◌+◌, nat_eq, Bool, false, List, [], ◌∷◌, ◌++◌, map, take}
use Rattle.record_text.specs.declared.record.BaseLine.{BaseLine}
use Rattle.record_text.specs.declared.record.ClockLine.{ClockLine}
use Rattle.record_text.specs.declared.record.Entry.{Entry}
use Rattle.record_text.specs.declared.record.Label.{Label}
use Rattle.record_text.specs.declared.record.ObjectLine.{ObjectLine}
use Rattle.record_text.specs.declared.record.RunRecord.{RunRecord}
use Rattle.record_text.specs.declared.record.TimerLine.{TimerLine}
use Rattle.run_history.specs.Actions.{Action, also}
use Rattle.run_history.specs.Signals.{SignalLine}
use Rattle.run_history.specs.Histories.{entry_shown, lines_of_base, lines_of_timer}
use Rattle.run_history.specs.Objects.{lines_of_object}
use Rattle.script_text.specs.Declarations.{declareds_of, terms_of}
use Rattle.script_text.specs.declared.script.Script.{Script}
use Rattle.seq_timer.specs.Steps.{Timer}
use Rattle.seq_timer.specs.Systems.{IsSystemHistory, System, rises_of, system_of}
use Rattle.seq_timer.specs.declared.event.Placement.{Placement}
use Rattle.seq_timer.specs.declared.event.Restarted.{Restarted}
use Rattle.seq_timer.specs.declared.standing.BaseEvent.{BaseEvent}
use Rattle.seq_timer.specs.declared.standing.Standing.{Standing}
use Rattle.seq_timer.specs.declared.system.SystemEntry.{SystemEntry}
use Rattle.seq_timer.specs.declared.system.SystemEntry.TheVariants as entries

-- one callback of an expiry run: the timer, and the number and the generation of its claim; what the callback did; the number of the
-- finish, whether a restart was asked for, and what came of it
pub record Fired : Type 0 where
  pub timer : ℕ
  pub claim : ℕ
  pub generation : ℕ
  pub body : List Action
  pub finish : ℕ
  pub restart : Bool
  pub restarted : Restarted

-- a timer that a call moved off a base: how many entries it had before; what its start on the other base asked for; and how it is kept after it
pub record Evacuation : Type 0 where
  pub timer : ℕ
  pub before : ℕ
  pub ns : ℕ
  pub slack : ℕ
  pub placement : Placement

-- what one call did: the stamp of its one reading; the callbacks that it ran; the timers that it moved off a base; its actions in their order; and two
-- numbers of the order, at the first of which it had made no entry yet, and at the last of which it had made them all
pub record Trace : Type 0 where
  pub at : ℕ
  pub fired : List Fired
  pub moved : List Evacuation
  pub actions : List Action
  pub first : ℕ
  pub last : ℕ

-- what a line shows: an entry of a timer, or of a base; or a rise of a counter. Counter 0 counts the clock's writes. Counter i + 1 rises where a call's turn of
-- object i begins and again where the call makes its entry: it is odd while a call has its turn. Behind these are the counters of pushes and pops.
pub data Shown : Type 0 where
  OfTimer : ℕ → Entry → Shown
  OfBase : ℕ → BaseEvent → Shown
  OfRise : ℕ → Shown

-- whose list a line stands in: a timer's, or a base's; or a counter's, which is the clock's, an object's, or one of the queue's two
pub data Owner : Type 0 where
  TimersList : ℕ → Owner
  BasesList : ℕ → Owner
  CountersList : ℕ → Owner

-- whether two lists are the same
abbrev pub is_owner : Owner → Owner → Bool
is_owner (TimersList t) (TimersList u) = nat_eq t u
is_owner (BasesList b) (BasesList c) = nat_eq b c
is_owner (CountersList j) (CountersList k) = nat_eq j k
is_owner a b = false

-- the list in which a line stands that shows this
abbrev pub owner_of : Shown → Owner
owner_of (OfTimer t entry) = TimersList t
owner_of (OfBase b event) = BasesList b
owner_of (OfRise k) = CountersList k

-- the list in which an entry or a rise is shown
abbrev pub owner_of_entry : SystemEntry → Owner
owner_of_entry (entries.Timer e) = TimersList e.timer
owner_of_entry (entries.Base c) = BasesList c.base
owner_of_entry (entries.Rise k) = CountersList k

-- a line's label and what it shows: looks, skips, what was written, an object's entry and a signal are left out
pub record ShownLine : Type 0 where
  pub label : Label
  pub shown : Shown

-- the same of a timer's line, of a base's, of the clock's, and of an object's
abbrev pub line_of_timer : ℕ → TimerLine → ShownLine
line_of_timer t line = record { label = line.label; shown = OfTimer t line.entry }

abbrev pub line_of_base : ℕ → BaseLine → ShownLine
line_of_base b line = record { label = line.label; shown = OfBase b line.event }

abbrev pub line_of_write : ClockLine → ShownLine
line_of_write line = record { label = line.label; shown = OfRise 0 }

abbrev pub line_of_object : ℕ → ObjectLine → ShownLine
line_of_object i line = record { label = line.label; shown = OfRise (suc i) }

-- and of a push or a pop
abbrev pub line_of_signal : ℕ → SignalLine → ShownLine
line_of_signal k line = record { label = line.label; shown = OfRise k }

-- each item twice
abbrev pub twice : {A : Type 0} → List A → List A
twice [] = []
twice (x ∷ xs) = x ∷ x ∷ twice xs

-- the lists of a run: those that its record prints, and the signals of each counter's rises
pub record RunLists : Type 0 where
  pub run : RunRecord
  pub signals : ℕ → List SignalLine

-- The lines of a list; none for one that isn't there. An object's line stands for two moves: a call's turn begins, and it makes the line's entry. No counter is
-- an object's and the queue's.
abbrev pub lines_at : RunLists → Owner → List ShownLine
lines_at l (TimersList t) = map (line_of_timer t) (lines_of_timer l.run t)
lines_at l (BasesList b) = map (line_of_base b) (lines_of_base l.run b)
lines_at l (CountersList zero) = map line_of_write l.run.clock
lines_at l (CountersList (suc i)) = twice (map (line_of_object i) (lines_of_object l.run i)) ++ map (line_of_signal (suc i)) (l.signals (suc i))

-- a line along the order, and how many lines of its list stand before it
pub record Move : Type 0 where
  pub before : ℕ
  pub label : Label
  pub shown : Shown

-- a script, a record of it, and what the record doesn't print: an order of all timers', bases' and objects' entries, the beginnings of turns, the clock's
-- writes, and the pushes and pops of signals; the signals of each counter's rises; and what each call did
pub record Witness : Type 0 where
  pub script : Script
  pub run : RunRecord
  pub moves : List Move
  pub signals : ℕ → List SignalLine
  pub traces : Label → Trace

-- the same of this script and this record
abbrev pub witness_with : Script → RunRecord → List Move → (ℕ → List SignalLine) → (Label → Trace) → Witness
witness_with s r moves signals traces = record { script = s; run = r; moves = moves; signals = signals; traces = traces }

-- the moves of one list
abbrev pub moves_on : Owner → List Move → List Move
moves_on o [] = []
moves_on o (m ∷ ms) = also (is_owner (owner_of m.shown) o) m (moves_on o ms)

-- the lines of a list as moves, where so many stand before them
abbrev pub moves_from : ℕ → List ShownLine → List Move
moves_from before [] = []
moves_from before (line ∷ lines) = record { before = before; label = line.label; shown = line.shown } ∷ moves_from (before + 1) lines

-- the entry that a line shows
abbrev pub entry_of_shown : List ClockLine → Shown → SystemEntry
entry_of_shown clock (OfTimer t entry) =
    entries.Timer (record { timer = t; event = (entry_shown clock entry).event; reply = (entry_shown clock entry).reply })
entry_of_shown clock (OfBase b event) = entries.Base (record { base = b; event = event })
entry_of_shown clock (OfRise k) = entries.Rise k

-- the entry that a move shows
abbrev pub entry_of_move : List ClockLine → Move → SystemEntry
entry_of_move clock m = entry_of_shown clock m.shown

-- the labels along the order
abbrev pub labels : Witness → List Label
labels w = map (λ m. m.label) w.moves

-- the entries in the order
abbrev pub entries_in : Witness → List SystemEntry
entries_in w = map (entry_of_move w.run.clock) w.moves

-- all timers and bases after so many moves
abbrev pub system_along : Witness → ℕ → System
system_along w n = system_of (declareds_of w.script) (terms_of w.script) (take n (entries_in w))

-- a timer after so many moves
abbrev pub timer_along : Witness → ℕ → ℕ → Timer
timer_along w n t = (system_along w n).timers t

-- whether a base is on line, after so many moves
abbrev pub standing_along : Witness → ℕ → ℕ → Standing
standing_along w n b = ((system_along w n).bases b).standing

-- how many of the first so many moves are writes of the clock
abbrev pub writes_along : Witness → ℕ → ℕ
writes_along w n = rises_of 0 (take n (entries_in w))

-- how often the counter of an object rose in the first so many moves: twice for each of its entries, and once more while a call has its turn
abbrev pub turns_along : Witness → ℕ → ℕ → ℕ
turns_along w n i = rises_of (suc i) (take n (entries_in w))

-- The order is one of all entries, writes, pushes and pops, and the entries of timers and bases together are one history that a library on one thread gives:
-- each is a step of its timer and of the base that it is on, is sent only to a base that is there, on its way to the heir of the base that it was sent to, and
-- is started only on one that is on line; each claim takes the first timer of its context in the base's queues; and a base is taken off line only while it has
-- no timer.
pub record IsOneHistory (w : Witness) : Type 0 where
  pub all : (o : Owner) → moves_on o w.moves ≡ moves_from 0 (lines_at (record { run = w.run; signals = w.signals }) o)
  pub history : IsSystemHistory w.script.bases (declareds_of w.script) (terms_of w.script) (entries_in w)
