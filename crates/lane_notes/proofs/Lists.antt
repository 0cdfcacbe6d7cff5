-- What the record's lists have of the sorted notes.
use Rattle.std.proofs.Common.{◌≡◌, ℕ, ◌+◌, zero, suc, List, [], ◌∷◌, Some, filter, length, map, arith, refl, sym, ap, ◌∙◌}
use Rattle.std.specs.List.{slice_get}
use Rattle.std.proofs.lemmas.Option.{same_Some}
use Rattle.record_text.specs.declared.record.Answer.{Answer}
use Rattle.record_text.specs.declared.record.BaseLine.{BaseLine}
use Rattle.record_text.specs.declared.record.ClockLine.{ClockLine}
use Rattle.record_text.specs.declared.record.Entry.{Entry}
use Rattle.record_text.specs.declared.record.Label.{Label}
use Rattle.record_text.specs.declared.record.ObjectEntry.{ObjectEntry}
use Rattle.record_text.specs.declared.record.ObjectLine.{ObjectLine}
use Rattle.record_text.specs.declared.record.RunRecord.{RunRecord}
use Rattle.record_text.specs.declared.record.TimerLine.{TimerLine}
use Rattle.record_text.specs.declared.version.Version.{Version}
use Rattle.lane_notes.specs.declared.notes.EntryNote.{EntryNote}
use Rattle.lane_notes.specs.declared.notes.ObjectNote.{ObjectNote}
use Rattle.lane_notes.specs.Notes.{NotesOf}
use Rattle.lane_notes.specs.Sorted.{Place, is_of_list, is_of_number}
use Rattle.lane_notes.specs.Records.{line_at_number, noted_base_lines, noted_lines, noted_object_lines, noted_timer_lines, numbered_from, record_from}
use Rattle.lane_notes.proofs.Shelves.{add_later, add_none, length-each_below}

-- law: there is one list for each base and for each timer, and one for a timer's object
pub length-bases : (version : Version) (notes : NotesOf) (bases timers : ℕ) (answers : List (List Answer))
    → length (record_from version notes bases timers answers).bases ≡ bases
length-bases version notes bases timers answers = length-each_below (λ b. noted_base_lines b notes.bases) bases

pub length-timers : (version : Version) (notes : NotesOf) (bases timers : ℕ) (answers : List (List Answer))
    → length (record_from version notes bases timers answers).timers ≡ timers
length-timers version notes bases timers answers = length-each_below (λ u. noted_timer_lines u notes.entries notes.looks) timers

pub length-objects : (version : Version) (notes : NotesOf) (bases timers : ℕ) (answers : List (List Answer))
    → length (record_from version notes bases timers answers).objects ≡ timers
length-objects version notes bases timers answers = length-each_below (λ j. noted_object_lines j notes.objects notes.skips) timers

-- a record is the same as another where its parts are
pub same_record : (version : Version) {clock clocks : List ClockLine} {base bases : List (List BaseLine)} {timer timers : List (List TimerLine)}
    {object objects : List (List ObjectLine)} {answer answers : List (List Answer)} → clock ≡ clocks → base ≡ bases → timer ≡ timers → object ≡ objects
    → answer ≡ answers
    → ◌≡◌ {A = RunRecord} (record { version = version; clock = clock; bases = base; timers = timer; objects = object; answers = answer })
    (record { version = version; clock = clocks; bases = bases; timers = timers; objects = objects; answers = answers })
same_record version clock bases timers objects answers =
    λ i. record { version = version; clock = clock i; bases = bases i; timers = timers i; objects = objects i; answers = answers i }

-- ---- lines by their number

-- what a line shows of its note does not depend on its number
map-numbered_from : {N L A : Type 0} (line : ℕ → N → L) (shown : L → A) (told : N → A) → ((k : ℕ) (n : N) → shown (line k n) ≡ told n)
    → (k : ℕ) (ns : List N) → map shown (numbered_from line k ns) ≡ map told ns
map-numbered_from line shown told same k [] = refl
map-numbered_from line shown told same k (n ∷ ns) =
    ap (λ x. x ∷ map shown (numbered_from line (k + 1) ns)) (same k n) ∙ ap (λ xs. told n ∷ xs) (map-numbered_from line shown told same (k + 1) ns)

-- a line is made of the note at its place
pub record LineAt {N L : Type 0} (line : ℕ → N → L) (k : ℕ) (ns : List N) (i : ℕ) (l : L) : Type 0 where
  pub note : N
  pub there : slice_get ns i ≡ Some note
  pub is : l ≡ line (k + i) note

pub line_at : {N L : Type 0} (line : ℕ → N → L) (k : ℕ) (ns : List N) (i : ℕ) (l : L) → slice_get (numbered_from line k ns) i ≡ Some l
    → LineAt line k ns i l
line_at line k [] i l at = absurd (cc)
line_at line k (n ∷ ns) zero l at = record { note = n; there = refl; is = sym (same_Some _ l at) ∙ ap (λ m. line m n) (add_none k) }
line_at line k (n ∷ ns) (suc i) l at =
    let r = line_at line (k + 1) ns i l at in
    record { note = r.note; there = r.there; is = r.is ∙ ap (λ m. line m r.note) (add_later k i) }

-- ---- what the lines show

abbrev pub entry_note_shape : EntryNote → Label × Entry
entry_note_shape note = (note.label, note.entry)

abbrev pub object_line_shape : ObjectLine → Label × ObjectEntry
object_line_shape line = (line.label, line.entry)

abbrev pub object_note_shape : ObjectNote → Label × ObjectEntry
object_note_shape note = (note.label, note.entry)

module _ {N U L : Type 0} (under : U → Place) (line : N → List U → L) (place : N → Place) (l : ℕ) (notes : List N) (unders : List U) where
  -- law: what a line shows of its note alone, a list's lines show of its sorted notes
  pub noted_lines-shown : {A : Type 0} (shown : L → A) (told : N → A) → ((n : N) (us : List U) → shown (line n us) ≡ told n)
      → map shown (noted_lines under line place l notes unders) ≡ map told (filter (is_of_list place l) notes)
  noted_lines-shown shown told same =
      map-numbered_from (line_at_number under line (filter (is_of_list under l) unders)) shown told
      (λ k n. same n (filter (is_of_number under k) (filter (is_of_list under l) unders))) 1 (filter (is_of_list place l) notes)

  -- law: under line k, from 0, stands what was noted at number k + 1, in its order
  pub noted_lines-under : {A : Type 0} (of : L → A) (told : List U → A) → ((n : N) (us : List U) → of (line n us) ≡ told us) → (k : ℕ) (x : L)
      → slice_get (noted_lines under line place l notes unders) k ≡ Some x
      → of x ≡ told (filter (is_of_number under (k + 1)) (filter (is_of_list under l) unders))
  noted_lines-under of told same k x at =
      let r = line_at (line_at_number under line (filter (is_of_list under l) unders)) 1 (filter (is_of_list place l) notes) k x at in
      ap of r.is ∙ same r.note (filter (is_of_number under (1 + k)) (filter (is_of_list under l) unders))
      ∙ ap (λ n. told (filter (is_of_number under n) (filter (is_of_list under l) unders))) (turned k)
    where
      turned : (k : ℕ) → 1 + k ≡ k + 1
      turned k = omega arith
