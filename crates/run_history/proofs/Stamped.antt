-- Entries that name their readings by stamps, in a record whose clock has these readings.
use Rattle.std.proofs.Common.{◌≡◌, List, [], ◌∷◌, map, refl, ap, sym, ◌∙◌}
use Rattle.std.specs.List.{AllByRecursion}
use Rattle.seq_timer.specs.Events.{Event, map_reading, stamped}
use Rattle.seq_timer.specs.Histories as histories
use Rattle.record_text.specs.declared.record.ClockLine.{ClockLine}
use Rattle.record_text.specs.declared.record.Entry.{Entry}
use Rattle.run_history.specs.Histories.{entry_shown, reading_at}

-- an entry of a history as a record's line has it
abbrev pub entry_stamped : histories.Entry → Entry
entry_stamped e = record { event = stamped e.event; reply = e.reply }

-- a record's clock has the reading of an event at its stamp
abbrev pub HasReading : List ClockLine → Event → Type 0
HasReading clock event = map_reading (reading_at clock) (stamped event) ≡ event

-- the same of entries
abbrev pub HaveReadings : List ClockLine → List histories.Entry → Type 0
HaveReadings clock es = AllByRecursion (λ e. HasReading clock e.event) es

-- law: such lines show the entries
pub all_stamped_shown : (clock : List ClockLine) (es : List histories.Entry) → HaveReadings clock es → es ≡ map (entry_shown clock) (map entry_stamped es)
all_stamped_shown clock [] has = refl
all_stamped_shown clock (e ∷ es) has =
    (λ i. record { event = sym has.0 i; reply = e.reply } ∷ es) ∙ ap (λ xs. entry_shown clock (entry_stamped e) ∷ xs) (all_stamped_shown clock es has.1)
