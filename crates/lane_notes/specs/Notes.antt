-- What lanes have noted.
use Rattle.std.specs.Prelude.{ℕ, List, [], ◌∷◌, ◌++◌}
use Rattle.record_text.specs.declared.record.ClockLine.{ClockLine}
use Rattle.lane_notes.specs.declared.notes.BaseNote.{BaseNote}
use Rattle.lane_notes.specs.declared.notes.EntryNote.{EntryNote}
use Rattle.lane_notes.specs.declared.notes.LookNote.{LookNote}
use Rattle.lane_notes.specs.declared.notes.ObjectNote.{ObjectNote}
use Rattle.lane_notes.specs.declared.notes.SkipNote.{SkipNote}
use Rattle.lane_notes.specs.declared.notes.WriteNote.{WriteNote}

-- notes of each kind
pub record NotesOf : Type 0 where
  pub entries : List EntryNote
  pub looks : List LookNote
  pub objects : List ObjectNote
  pub skips : List SkipNote
  pub bases : List BaseNote
  pub writes : List WriteNote

abbrev pub notes_of : List EntryNote → List LookNote → List ObjectNote → List SkipNote → List BaseNote → List WriteNote → NotesOf
notes_of entries looks objects skips bases writes =
    record { entries = entries; looks = looks; objects = objects; skips = skips; bases = bases; writes = writes }

-- nothing is noted yet
abbrev pub no_notes : NotesOf
no_notes = record { entries = []; looks = []; objects = []; skips = []; bases = []; writes = [] }

-- the notes of one, and behind them those of the other
abbrev pub both_noted : NotesOf → NotesOf → NotesOf
both_noted a b = record {
  entries = a.entries ++ b.entries;
  looks = a.looks ++ b.looks;
  objects = a.objects ++ b.objects;
  skips = a.skips ++ b.skips;
  bases = a.bases ++ b.bases;
  writes = a.writes ++ b.writes;
}

-- one more entry of a base
abbrev pub with_base_note : NotesOf → BaseNote → NotesOf
with_base_note notes note = record notes { bases = notes.bases ++ note ∷ [] }

-- one more write of the clock
abbrev pub with_write_note : NotesOf → ℕ → ClockLine → NotesOf
with_write_note notes stamp line = record notes { writes = notes.writes ++ record { stamp = stamp; line = line } ∷ [] }
