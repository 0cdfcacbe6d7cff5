-- A whole run: the rounds of a script from its first passes on, and the record of what all lanes have left, which shows all that the last passes have seen.
use Rattle.std.specs.Prelude.{ℕ, ◌≡◌, ◌+◌, ◌≤◌, ◌<◌, length, map, List, [], ◌∷◌}
use Rattle.clock_cell.specs.Views.{writes}
use Rattle.ordered_clock.specs.Moments.{told}
use Rattle.ordered_signals.specs.Places.{pops_seen, pops_told, pushes_seen, pushes_told}
use Rattle.pass_names.specs.Passes.{Looks}
use Rattle.pass_names.specs.SharedHistory.{LooksOn}
use Rattle.record_text.specs.declared.record.RunRecord.{RunRecord}
use Rattle.script_text.specs.declared.script.Script.{Script}
use Rattle.lane_notes.specs.Notes.{NotesOf}
use Rattle.lane_notes.specs.Records.{record_from}
use Rattle.lane_notes.specs.Sorted.{IsSortedFrom}
use Rattle.run_history.specs.Histories.{history_of, lines_of_base}
use Rattle.run_history.specs.Objects.{lines_of_object}
use Rattle.seq_timer.specs.Systems.{entries_of, shifts_of}
use Rattle.timer_objects.specs.Known.{seen_of}
use Rattle.timer_objects.specs.Turns.{turns_told}
use Rattle.lane_notes.specs.Rounds.{IsMain, LeftOf, MakesRounds, none_left}
use Rattle.lane_notes.specs.Worlds.{WorldOf}
use Rattle.lane_notes.specs.declared.lane.WorldPass.{WorldPass}
use Rattle.counted_row.specs.declared.view.Entry.{Entry}
use Rattle.record_text.specs.declared.record.ClockLine.{ClockLine}
use Rattle.record_text.specs.declared.record.ObjectEntry.{ObjectEntry}
use Rattle.record_text.specs.declared.record.ObjectLine.{ObjectLine}
use Rattle.run_history.specs.ObjectEntries.{object_entry_shown}
use Rattle.timer_setting.specs.declared.object_call.ObjectCall.{ObjectCall}
use Rattle.timer_setting.specs.Kinds.{as_told}
use Rattle.timer_setting.specs.declared.object_call.ObjectReply.{ObjectReply}

-- the record shows the notes and answers that were left, the notes in order
pub record ShowsLeft (s : Script) (left : LeftOf) (r : RunRecord) : Type 0 where
  pub sorted : NotesOf
  pub in_order : IsSortedFrom left.notes sorted
  pub shows : r ≡ record_from s.version sorted s.bases (length s.timers) left.answers

-- The clock was read until the timers' passes were told of just the writes that it had; nothing else was done.
pub record Settles (p q : WorldPass) : Type 0 where
  pub timers : LooksOn p.timers.known q.timers.known
  pub objects : q.objects ≡ p.objects
  pub clock : Looks p.clock.knows.pass q.clock.knows.pass
  pub all : told q.timers.known ≡ length (writes q.clock.knows)
  pub signals : q.signals ≡ p.signals

-- Each object was looked at, and seen to have made all turns of which the timers' passes had been told before that; nothing else was done.
pub record LooksAtAll (x : WorldOf) (p q : WorldPass) : Type 0 where
  pub timers : LooksOn p.timers.known q.timers.known
  pub objects : Looks p.objects.knows.pass q.objects.knows.pass
  pub opening : q.objects.knows.opening ≡ p.objects.knows.opening
  pub clock : q.clock ≡ p.clock
  pub signals : q.signals ≡ p.signals
  pub no_more : (i : ℕ) → i < length x.objects.decls → turns_told i p.timers.known ≤ length (seen_of q.objects i) + length (seen_of q.objects i)

-- The queue of signals was looked at, and seen to have made all pushes and pops of which the timers' passes had been told before that; nothing else was done.
pub record LooksAtQueue (x : WorldOf) (p q : WorldPass) : Type 0 where
  pub timers : LooksOn p.timers.known q.timers.known
  pub objects : q.objects ≡ p.objects
  pub clock : q.clock ≡ p.clock
  pub signals : Looks p.signals.knows.pass q.signals.knows.pass
  pub pushes : pushes_told x.timers.about p.timers.known.seen ≤ pushes_seen q.signals.knows
  pub pops : pops_told x.timers.about p.timers.known.seen ≤ pops_seen q.signals.knows

-- The rounds were made in turn, the clock was settled, the queue and each object were looked at, and the record shows the notes and answers that the rounds
-- left, the notes in order. The record's order is what the timers' pass had seen when the clock was settled.
pub record MakesRun (x : WorldOf) (s : Script) (p : WorldPass) (r : RunRecord) (q : WorldPass) : Type 0 where
  pub left : LeftOf
  pub before : WorldPass
  pub rounds : MakesRounds x s.rounds p (none_left s.lanes) before left
  pub settled : WorldPass
  pub of : IsMain x settled []
  pub settles : Settles before settled
  pub queued : WorldPass
  pub heard : LooksAtQueue x settled queued
  pub looks : LooksAtAll x queued q
  pub shows : ShowsLeft s left r

-- ---- what it shows

-- an entry of an object
abbrev pub ObjectMove : Type 0
ObjectMove = Entry ObjectCall ObjectReply

-- an entry of an object as the record's line has it, by the readings that the line's stamps name; of a start that was refused the line may have no stamp
abbrev pub ShowsObjectCall : List ClockLine → ObjectCall → ObjectReply → ObjectEntry → Type 0
ShowsObjectCall clock call reply e = object_entry_shown clock e ≡ record { call = as_told call; reply = reply }

-- an object's lines show these entries
abbrev pub AreObjectLines : List ClockLine → List ObjectMove → List ObjectLine → Type 0
AreObjectLines clock [] [] = Unit
AreObjectLines clock (h ∷ hs) (line ∷ lines) = ShowsObjectCall clock h.call h.reply line.entry × AreObjectLines clock hs lines
AreObjectLines clock [] (line ∷ lines) = ⊥
AreObjectLines clock (h ∷ hs) [] = ⊥

-- The record's histories are the whole of what these passes have seen: the clock's writes, and each timer's, each base's and each object's entries.
pub record ShowsAllSeen (r : RunRecord) (q : WorldPass) : Type 0 where
  pub clock : map (λ line. line.write) r.clock ≡ writes q.clock.knows
  pub timers : (t : ℕ) → history_of r t ≡ entries_of t q.timers.known.seen
  pub bases : (b : ℕ) → map (λ line. line.event) (lines_of_base r b) ≡ shifts_of b q.timers.known.seen
  pub objects : (i : ℕ) → AreObjectLines r.clock (seen_of q.objects i) (lines_of_object r i)
