-- The record that is made of notes in their order.
use Rattle.std.specs.Prelude.{ℕ, zero, suc, ◌+◌, Bool, nat_eq, List, [], ◌∷◌, ◌++◌, map, filter, get_or, slice_set}
use Rattle.record_text.specs.declared.record.BaseLine.{BaseLine}
use Rattle.record_text.specs.declared.record.Look.{Look}
use Rattle.record_text.specs.declared.record.Skip.{Skip}
use Rattle.record_text.specs.declared.record.TimerLine.{TimerLine}
use Rattle.record_text.specs.declared.record.ObjectLine.{ObjectLine}
use Rattle.record_text.specs.declared.record.Answer.{Answer}
use Rattle.record_text.specs.declared.record.RunRecord.{RunRecord}
use Rattle.record_text.specs.declared.version.Version.{Version}
use Rattle.lane_notes.specs.declared.notes.BaseNote.{BaseNote}
use Rattle.lane_notes.specs.declared.notes.EntryNote.{EntryNote}
use Rattle.lane_notes.specs.declared.notes.LookNote.{LookNote}
use Rattle.lane_notes.specs.declared.notes.ObjectNote.{ObjectNote}
use Rattle.lane_notes.specs.declared.notes.SkipNote.{SkipNote}
use Rattle.lane_notes.specs.declared.filing.By.{By}
use Rattle.lane_notes.specs.declared.filing.By.TheVariants as shelves
use Rattle.lane_notes.specs.Notes.{NotesOf}
use Rattle.lane_notes.specs.Sorted.{Place, is_of_list, is_of_number, place_of_base, place_of_entry, place_of_look, place_of_object, place_of_skip}

-- the value at each number below this one, from 0
abbrev pub each_below : {A : Type 0} → (ℕ → A) → ℕ → List A
each_below f zero = []
each_below f (suc n) = each_below f n ++ f n ∷ []

-- lists with one more item in the one at this place, if there is one
abbrev pub put_in_list : {A : Type 0} → ℕ → A → List (List A) → List (List A)
put_in_list place x lists = slice_set lists place (get_or lists place [] ++ x ∷ [])

-- the number by which a note is put into a list
abbrev pub filed_at : By → Place → ℕ
filed_at shelves.List place = place.list
filed_at shelves.Number place = place.number

-- whether a note is put into the list of this number
abbrev pub is_filed_at : {A : Type 0} → (A → Place) → By → ℕ → A → Bool
is_filed_at place by number note = nat_eq (filed_at by (place note)) number

-- the lines of notes, which are numbered from here
abbrev pub numbered_from : {N L : Type 0} → (ℕ → N → L) → ℕ → List N → List L
numbered_from line number [] = []
numbered_from line number (note ∷ notes) = line number note ∷ numbered_from line (number + 1) notes

-- a look as it stands under a line
abbrev pub look_of : LookNote → Look
look_of note = record { label = note.label; reply = note.reply }

-- a skip as it stands under a line
abbrev pub skip_of : SkipNote → Skip
skip_of note = record { label = note.label; generation = note.generation }

module _ {N U L : Type 0} (under : U → Place) (line : N → List U → L) where
  -- the line of a note that is its list's note of this number, with what was noted at that number
  abbrev pub line_at_number : List U → ℕ → N → L
  line_at_number unders number note = line note (filter (is_of_number under number) unders)

  -- the lines of a list
  abbrev pub noted_lines : (N → Place) → ℕ → List N → List U → List L
  noted_lines place list notes unders = numbered_from (line_at_number (filter (is_of_list under list) unders)) 1 (filter (is_of_list place list) notes)

-- the items of a list
abbrev pub noted_items : {N I : Type 0} → (N → Place) → (N → I) → ℕ → List N → List I
noted_items place item list notes = map item (filter (is_of_list place list) notes)

-- an entry of a timer as a line, with these looks
abbrev pub timer_line : EntryNote → List LookNote → TimerLine
timer_line note looks = record { label = note.label; entry = note.entry; looks = map look_of looks }

-- an entry of an object as a line, with these skips
abbrev pub object_line : ObjectNote → List SkipNote → ObjectLine
object_line note skips = record { label = note.label; entry = note.entry; skips = map skip_of skips }

-- the lines of a timer
abbrev pub noted_timer_lines : ℕ → List EntryNote → List LookNote → List TimerLine
noted_timer_lines timer entries looks = noted_lines place_of_look timer_line place_of_entry timer entries looks

-- the lines of an object
abbrev pub noted_object_lines : ℕ → List ObjectNote → List SkipNote → List ObjectLine
noted_object_lines object entries skips = noted_lines place_of_skip object_line place_of_object object entries skips

-- an entry of a base as a line
abbrev pub base_line : BaseNote → BaseLine
base_line note = record { label = note.label; event = note.event }

-- the lines of a base
abbrev pub noted_base_lines : ℕ → List BaseNote → List BaseLine
noted_base_lines base notes = noted_items place_of_base base_line base notes

-- the record of a version, of notes in their order, with so many bases and timers and with each lane's answers
abbrev pub record_from : Version → NotesOf → ℕ → ℕ → List (List Answer) → RunRecord
record_from version notes bases timers answers = record {
  version = version;
  clock = map (λ note. note.line) notes.writes;
  bases = each_below (λ b. noted_base_lines b notes.bases) bases;
  timers = each_below (λ t. noted_timer_lines t notes.entries notes.looks) timers;
  objects = each_below (λ i. noted_object_lines i notes.objects notes.skips) timers;
  answers = answers;
}
