-- The histories that a record tells: the clock's readings, each base's entries, and each timer's entries with the state after each number of them.
use Rattle.std.specs.Prelude.{ℕ, ◌≡◌, List, [], ◌∷◌, map, take, get_or}
use Rattle.ktime.specs.Readings.{ClockReading}
use Rattle.ktime.specs.Clocks.{at_stamp, after_write, clock_after, IsAccepted}
use Rattle.seq_timer.specs.Events.{map_reading}
use Rattle.seq_timer.specs.Steps.{Timer}
use Rattle.seq_timer.specs.Histories as histories
use Rattle.script_text.specs.Declarations.{declared_of, terms_of}
use Rattle.script_text.specs.declared.script.Script.{Script}
use Rattle.record_text.specs.declared.record.Answer.{Answer}
use Rattle.record_text.specs.declared.record.Label.{Label}
use Rattle.record_text.specs.declared.record.ClockLine.{ClockLine}
use Rattle.record_text.specs.declared.record.BaseLine.{BaseLine}
use Rattle.record_text.specs.declared.record.Entry.{Entry}
use Rattle.record_text.specs.declared.record.TimerLine.{TimerLine}
use Rattle.record_text.specs.declared.record.RunRecord.{RunRecord}

-- a line of the clock shows this reading
pub record ShowsReading (line : ClockLine) (reading : ClockReading) : Type 0 where
  pub mono : line.mono ≡ reading.mono
  pub real : line.real ≡ reading.real
  pub boot : line.boot ≡ reading.boot
  pub changes : line.changes ≡ reading.changes

-- from this reading on, each line is a write that the clock takes, and shows the reading after it
abbrev pub AreWrites : ClockReading → List ClockLine → Type 0
AreWrites reading [] = Unit
AreWrites reading (line ∷ lines) =
    IsAccepted reading line.write × ShowsReading line (after_write reading line.write) × AreWrites (after_write reading line.write) lines

-- the reading that is named by a stamp: the one after so many of the record's writes
abbrev pub reading_at : List ClockLine → ℕ → ClockReading
reading_at lines stamp = clock_after (at_stamp 0) (map (λ line. line.write) (take stamp lines))

-- the labels along the clock's writes
abbrev pub clock_labels : RunRecord → List Label
clock_labels r = map (λ line. line.label) r.clock

-- a base's lines; none for a base that isn't there
abbrev pub lines_of_base : RunRecord → ℕ → List BaseLine
lines_of_base r base = get_or r.bases base []

-- a timer's lines; none for a timer that isn't there
abbrev pub lines_of_timer : RunRecord → ℕ → List TimerLine
lines_of_timer r timer = get_or r.timers timer []

-- the labels along a timer's entries
abbrev pub timer_labels : RunRecord → ℕ → List Label
timer_labels r timer = map (λ line. line.label) (lines_of_timer r timer)

-- a lane's answers; none for a lane that isn't there
abbrev pub answers_of : RunRecord → ℕ → List Answer
answers_of r lane = get_or r.answers lane []

-- the entry of a history that a line shows, with the reading that its stamp names
abbrev pub entry_shown : List ClockLine → Entry → histories.Entry
entry_shown clock entry = record { event = map_reading (reading_at clock) entry.event; reply = entry.reply }

-- the history that lines show
abbrev pub history_from : List ClockLine → List TimerLine → List histories.Entry
history_from clock lines = map (λ line. entry_shown clock line.entry) lines

-- a timer's history
abbrev pub history_of : RunRecord → ℕ → List histories.Entry
history_of r timer = history_from r.clock (lines_of_timer r timer)

-- a timer after its first so many entries
abbrev pub timer_after : Script → RunRecord → ℕ → ℕ → Timer
timer_after s r timer stamp = histories.state_after (declared_of s timer) (terms_of s) (take stamp (history_of r timer))
