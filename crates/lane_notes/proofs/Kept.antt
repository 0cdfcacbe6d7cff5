-- What a lane keeps of one call, of each kind the same: its log, the notes that it added, and the promise that the call fits in every run that goes on
-- from what the lane's passes have seen.
use Rattle.std.specs.List.{AllByRecursion, slice_get}
use Rattle.std.specs.List.Sorted.{IsPermutation}
use Rattle.std.proofs.Common.{ℕ, suc, ◌≡◌, ◌≤◌, ◌<◌, ◌+◌, ◌-◌, nat_eq, Some, List, [], ◌∷◌, length, map, take, ◌++◌, filter}
use Rattle.clock_cell.specs.Views.{reading_after, writes}
use Rattle.ktime.specs.Clocks.{last_stamp}
use Rattle.lane_notes.specs.Notes.{NotesOf, both_noted, no_notes}
use Rattle.record_text.proofs.Lists.{All-append}
use Rattle.lane_notes.specs.declared.notes.BaseNote.{BaseNote}
use Rattle.lane_notes.specs.declared.notes.EntryNote.{EntryNote}
use Rattle.lane_notes.specs.declared.notes.LookNote.{LookNote}
use Rattle.lane_notes.specs.declared.notes.ObjectNote.{ObjectNote}
use Rattle.lane_notes.specs.declared.notes.SkipNote.{SkipNote}
use Rattle.lane_notes.specs.declared.notes.WriteNote.{WriteNote}
use Rattle.pass_names.specs.Counts.{count}
use Rattle.pass_names.specs.Passes.{Begins, GoesOn, is_place}
use Rattle.record_text.specs.declared.record.Answer.{Answer}
use Rattle.record_text.specs.declared.record.CallbackReply.{CallbackReply}
use Rattle.record_text.specs.declared.record.Label.{Label}
use Rattle.record_text.specs.declared.record.ObjectEntry.{ObjectEntry}
use Rattle.run_history.specs.Witnesses.{OfBase, OfRise, OfTimer, Shown, TimersList, Trace}
use Rattle.run_history.specs.Fits.{FitsCall, ReadsInTurn, Seen}
use Rattle.run_history.specs.Promises as promises
use Rattle.run_history.specs.Promises.{GoesOnClock, HasLog, IsPromised}
use Rattle.run_history.specs.Receipts as receipts
use Rattle.run_history.specs.Receipts.{IsMade, PlacedEntry, receipt, Rises, ShowsEntry}
use Rattle.run_history.specs.Runs.{CallLog, Ending, IsJoined, witness_of}
use Rattle.run_history.specs.Actions.{Action, Signalled, also, looked, made, skipped, wrote}
use Rattle.run_history.specs.Histories.{ShowsReading}
use Rattle.run_history.specs.Objects.{lines_of_object}
use Rattle.run_history.specs.Order.{CallInRound, calls_of, is_label}
use Rattle.script_text.specs.Scripts.{IsInRange}
use Rattle.script_text.specs.declared.script.Call.{Call}
use Rattle.script_text.specs.declared.script.Script.{Script}
use Rattle.timer_objects.specs.Known.{row_of, seen_of}
use Rattle.lane_notes.specs.Called.{LaneOf}
use Rattle.lane_notes.specs.Worlds.{IsWhole, IsWorldOf, WorldOf}
use Rattle.lane_notes.specs.declared.lane.WorldPass.{WorldPass}
use Rattle.signal_queue.specs.Rules.{turns}
use Rattle.signal_queue.specs.Turns.{popped, pushed}
use Rattle.signal_queue.specs.declared.signal.Signal.{Signal}
use Rattle.signal_queue.specs.declared.signal.Turn.{Turn}
use Rattle.signal_queue.specs.declared.signal.Turn.TheVariants.{Popped, Pushed}
use Rattle.run_history.specs.Signals.{SendsSignals, pop_counter, push_counter}
use Rattle.script_text.specs.Declarations.{kind_of}
use Rattle.lane_notes.specs.Runs.{AreObjectLines, ObjectMove, ShowsObjectCall}

-- ---- what passes have seen

-- how much a lane's passes have seen of each list
abbrev pub seen_by : WorldPass → Seen
seen_by p = record {
  clock = length (writes p.clock.knows);
  moves = length p.timers.known.seen;
}

-- of each list what was seen goes on, and the objects are the same
pub record SeesOn (p q : WorldPass) : Type 0 where
  pub timers : Begins p.timers.known.seen q.timers.known.seen
  pub clock : Begins (writes p.clock.knows) (writes q.clock.knows)
  pub objects : GoesOn p.objects.knows.pass.seen q.objects.knows.pass.seen
  pub opening : q.objects.knows.opening ≡ p.objects.knows.opening
  pub signals : Begins (turns p.signals.knows) (turns q.signals.knows)

-- what a lane kept of a call, by its passes before and after it, its receipts, its actions, and its turns of the queue
abbrev pub log_of : WorldPass → WorldPass → List PlacedEntry → Trace → List (ℕ × Turn) → CallLog
log_of p q notes trace turned = record {
  notes = notes;
  trace = trace;
  moves = (length p.timers.known.seen, length q.timers.known.seen);
  clock = (length (writes p.clock.knows), length (writes q.clock.knows));
  turns = turned;
}

-- ---- the runs in which a lane may still end

-- the run goes on from what a pass has seen of an object: the object's whole history begins with it, and the record shows that
pub record FollowsObject (e : Ending) (i : ℕ) (seen : List ObjectMove) : Type 0 where
  pub history : List ObjectMove
  pub goes_on : Begins seen history
  pub lines : AreObjectLines e.run.clock history (lines_of_object e.run i)

-- the run goes on from all that a lane's passes have seen, and the clock had taken fewer writes than it counts
pub record Follows (p : WorldPass) (e : Ending) : Type 0 where
  pub few : length e.run.clock < last_stamp
  pub timers : promises.RunGoesOn p.timers.known.seen e
  pub clock : GoesOnClock (writes p.clock.knows) e
  pub objects : (i : ℕ) → FollowsObject e i (seen_of p.objects i)

-- ---- notes

-- the kinds of notes, the notes of a kind, and their labels
pub data NoteKind : Type 0 where
  EntryNotes : NoteKind
  LookNotes : NoteKind
  ObjectNotes : NoteKind
  SkipNotes : NoteKind
  BaseNotes : NoteKind
  WriteNotes : NoteKind

abbrev pub NoteOf : NoteKind → Type 0
NoteOf EntryNotes = EntryNote
NoteOf LookNotes = LookNote
NoteOf ObjectNotes = ObjectNote
NoteOf SkipNotes = SkipNote
NoteOf BaseNotes = BaseNote
NoteOf WriteNotes = WriteNote

abbrev pub list_of : (k : NoteKind) → NotesOf → List (NoteOf k)
list_of EntryNotes notes = notes.entries
list_of LookNotes notes = notes.looks
list_of ObjectNotes notes = notes.objects
list_of SkipNotes notes = notes.skips
list_of BaseNotes notes = notes.bases
list_of WriteNotes notes = notes.writes

-- law: nothing holds of each of none, and what holds of each of both holds of each of both together
pub each_none : (k : NoteKind) (P : NoteOf k → Type 0) → AllByRecursion P (list_of k no_notes)
each_none EntryNotes P = tt
each_none k P = tt

pub each_both : (k : NoteKind) (P : NoteOf k → Type 0) (a b : NotesOf) → AllByRecursion P (list_of k a) → AllByRecursion P (list_of k b)
    → AllByRecursion P (list_of k (both_noted a b))
each_both EntryNotes P a b = All-append P a.entries b.entries
each_both LookNotes P a b = All-append P a.looks b.looks
each_both ObjectNotes P a b = All-append P a.objects b.objects
each_both SkipNotes P a b = All-append P a.skips b.skips
each_both BaseNotes P a b = All-append P a.bases b.bases
each_both WriteNotes P a b = All-append P a.writes b.writes

abbrev pub label_of : (k : NoteKind) → NoteOf k → Label
label_of EntryNotes n = n.label
label_of LookNotes n = n.label
label_of ObjectNotes n = n.label
label_of SkipNotes n = n.label
label_of BaseNotes n = n.label
label_of WriteNotes n = n.line.label

-- the notes of one call among those of all
abbrev pub own_notes : Label → NotesOf → NotesOf
own_notes c notes = record {
  entries = filter (λ n. is_label c n.label) notes.entries;
  looks = filter (λ n. is_label c n.label) notes.looks;
  objects = filter (λ n. is_label c n.label) notes.objects;
  skips = filter (λ n. is_label c n.label) notes.skips;
  bases = filter (λ n. is_label c n.label) notes.bases;
  writes = filter (λ n. is_label c n.line.label) notes.writes;
}

-- a note of a move: of an entry of a timer, a base or an object, of a turn's beginning, or of a write of the clock
pub record ToldNote : Type 0 where
  pub label : Label
  pub number : ℕ
  pub shown : Shown

abbrev pub of_entry : EntryNote → ToldNote
of_entry n = record { label = n.label; number = n.number; shown = OfTimer n.timer n.entry }

abbrev pub of_base : BaseNote → ToldNote
of_base n = record { label = n.label; number = n.number; shown = OfBase n.base n.event }

-- an object's note tells of two moves: its call's turn began, and the call made the entry
abbrev pub of_turn : ObjectNote → ToldNote
of_turn n = record { label = n.label; number = n.number + n.number - 1; shown = OfRise (suc n.object) }

abbrev pub of_object : ObjectNote → ToldNote
of_object n = record { label = n.label; number = n.number + n.number; shown = OfRise (suc n.object) }

abbrev pub turn_notes : List ObjectNote → List ToldNote
turn_notes [] = []
turn_notes (n ∷ ns) = of_turn n ∷ of_object n ∷ turn_notes ns

abbrev pub of_write : WriteNote → ToldNote
of_write n = record { label = n.line.label; number = n.stamp; shown = OfRise 0 }

-- all of them
abbrev pub told_notes : NotesOf → List ToldNote
told_notes notes = map of_entry notes.entries ++ (map of_base notes.bases ++ (map of_write notes.writes ++ turn_notes notes.objects))

-- what such a note says but for its label
abbrev pub told_in : ToldNote → ℕ × Shown
told_in n = (n.number, n.shown)

abbrev pub entries_told : NotesOf → List (ℕ × Shown)
entries_told notes = map told_in (told_notes notes)

-- the looks at a timer, the entries of an object and the expiries that it refused, each with its number
abbrev pub looks_on : ℕ → List LookNote → List (ℕ × CallbackReply)
looks_on t [] = []
looks_on t (n ∷ ns) = also (nat_eq n.timer t) (n.number, n.reply) (looks_on t ns)

abbrev pub made_on : ℕ → List ObjectNote → List (ℕ × ObjectEntry)
made_on i [] = []
made_on i (n ∷ ns) = also (nat_eq n.object i) (n.number, n.entry) (made_on i ns)

abbrev pub skips_on : ℕ → List SkipNote → List (ℕ × ℕ)
skips_on i [] = []
skips_on i (n ∷ ns) = also (nat_eq n.object i) (n.number, n.generation) (skips_on i ns)

-- The notes but for timers' and bases' entries are of the call's actions, in their order. Numbers rise along each list; a full history may refuse more than one
-- expiry at the same number.
pub record TellActions (added : NotesOf) (actions : List Action) : Type 0 where
  pub writes : map (λ n. (n.stamp, n.line.write)) added.writes ≡ wrote actions
  pub looks : (t : ℕ) → looks_on t added.looks ≡ looked t actions
  pub objects : (i : ℕ) → made_on i added.objects ≡ made i actions
  pub skips : (i : ℕ) → skips_on i added.skips ≡ skipped i actions
  pub writes_rise : Rises 1 (map (λ n. n.0) (wrote actions))
  pub looks_rise : (t : ℕ) → Rises 1 (map (λ n. n.0) (looked t actions))
  pub objects_rise : (i : ℕ) → Rises 1 (map (λ n. n.0) (made i actions))

-- the pushes and pops among what a call did: the counter that rose, the number there, and the signal
abbrev pub signals_of : List Action → List (ℕ × (ℕ × Signal))
signals_of [] = []
signals_of (Signalled counter number signal ∷ ds) = (counter, (number, signal)) ∷ signals_of ds
signals_of (d ∷ ds) = signals_of ds

-- and the moves that they are, of which there are no notes
abbrev pub signals_told : List Action → List (ℕ × Shown)
signals_told ds = map (λ x. (x.1.0, OfRise x.0)) (signals_of ds)

-- a call's notes, and its pushes and pops, are of what its lane kept of it
pub record TellLog (log : CallLog) (own : NotesOf) : Type 0 where
  pub receipts : IsPermutation (map receipt log.notes) (entries_told own ++ signals_told log.trace.actions)
  pub tells : TellActions own log.trace.actions

-- the place of a note of an entry, of a timer's and of a base's; there are so many timers, and a base's places stand behind theirs
abbrev pub note_place : EntryNote → ℕ × ℕ
note_place e = (e.timer, e.number)

abbrev pub base_note_place : ℕ → BaseNote → ℕ × ℕ
base_note_place many n = (many + n.base, n.number)

-- how often a place is that of a note of an entry
abbrev pub places_noted : ℕ → ℕ → ℕ → NotesOf → ℕ
places_noted many i n notes = count (is_place i n) (map note_place notes.entries) + count (is_place i n) (map (base_note_place many) notes.bases)

-- the places that a lane's passes have made are those of the notes; there are so many timers
pub record Tallies (many : ℕ) (q : WorldPass) (notes : NotesOf) : Type 0 where
  pub timers : (i n : ℕ) → count (is_place i n) q.timers.known.mine ≡ places_noted many i n notes
  pub objects : (i n : ℕ) → count (is_place i n) q.objects.knows.pass.mine ≡ count (is_place i n) (map (λ e. (e.object, e.number)) notes.objects)
  pub clock : (n : ℕ) → count (is_place 0 n) q.clock.knows.pass.mine ≡ count (is_place 0 n) (map (λ e. (0, e.stamp)) notes.writes)

-- the places that they have added to their own are
pub record AddsPlaces (many : ℕ) (p q : WorldPass) (added : NotesOf) : Type 0 where
  pub timers : (i n : ℕ) → count (is_place i n) q.timers.known.mine ≡ count (is_place i n) p.timers.known.mine + places_noted many i n added
  pub objects : (i n : ℕ) → count (is_place i n) q.objects.knows.pass.mine
      ≡ count (is_place i n) p.objects.knows.pass.mine + count (is_place i n) (map (λ e. (e.object, e.number)) added.objects)
  pub clock : (n : ℕ) → count (is_place 0 n) q.clock.knows.pass.mine
      ≡ count (is_place 0 n) p.clock.knows.pass.mine + count (is_place 0 n) (map (λ e. (0, e.stamp)) added.writes)

-- the write of a note stands in what was seen, in its call's span, and its line shows the clock after it
pub record IsWriteLeft (q : WorldPass) (log : CallLog) (n : WriteNote) : Type 0 where
  pub before : ℕ
  pub number : before + 1 ≡ n.stamp
  pub inside : (log.clock.0 ≤ before) × (before < log.clock.1)
  pub there : slice_get (writes q.clock.knows) before ≡ Some n.line.write
  pub shows : ShowsReading n.line (reading_after (take n.stamp (writes q.clock.knows)))

-- the entry of a note stands in what was seen of its object, and every record shows it that has these readings
pub record IsObjectLeft (q : WorldPass) (n : ObjectNote) : Type 0 where
  pub before : ℕ
  pub number : before + 1 ≡ n.number
  pub step : ObjectMove
  pub there : slice_get (seen_of q.objects n.object) before ≡ Some step
  pub shows : (e : Ending) → GoesOnClock (writes q.clock.knows) e → ShowsObjectCall e.run.clock step.call step.reply n.entry

-- A note is of something that was seen, and that its call did; of an entry the receipts say it. A look stands behind an entry of its timer that was
-- seen, and a refused expiry behind one of its object.
abbrev pub IsNoteSeen : (k : NoteKind) → WorldPass → CallLog → NoteOf k → Type 0
IsNoteSeen EntryNotes q log n = Unit
IsNoteSeen LookNotes q log n = (0 < n.number) × (n.number ≤ receipts.count_owned (TimersList n.timer) q.timers.known.seen)
IsNoteSeen ObjectNotes q log n = IsObjectLeft q n
IsNoteSeen SkipNotes q log n = (0 < n.number) × (n.number ≤ length (seen_of q.objects n.object))
IsNoteSeen BaseNotes q log n = Unit
IsNoteSeen WriteNotes q log n = IsWriteLeft q log n

-- the receipts stand in what was seen of all timers and bases, at rising places in their call's span, and every run shows them that goes on from there
pub record StandAt (q : WorldPass) (log : CallLog) : Type 0 where
  pub rise : Rises log.moves.0 (map (λ n. n.place) log.notes)
  pub below : AllByRecursion (λ n. n.place < log.moves.1) log.notes
  pub made : AllByRecursion (IsMade q.timers.known.seen) log.notes
  pub shows : (e : Ending) → Follows q e → AllByRecursion (ShowsEntry e.run e.order) log.notes

-- ---- pushes and pops of signals

-- the place of a push or a pop behind so many
abbrev pub turn_place : ℕ × Turn → ℕ × ℕ
turn_place x = (0, x.0 + 1)

-- a push is of a signal of a queued timer
abbrev pub IsOfQueued : Script → Turn → Type 0
IsOfQueued s (Pushed signal) = SendsSignals (kind_of s signal.timer)
IsOfQueued s (Popped signal) = Unit

-- a push or a pop stands in what a pass has seen, and a push is of a queued timer's signal
pub record IsTurnSeen (s : Script) (seen : List Turn) (x : ℕ × Turn) : Type 0 where
  pub there : slice_get seen x.0 ≡ Some x.1
  pub of : IsOfQueued s x.1

-- a push or a pop as a rise of its counter: its number is that of pushes, or of pops
abbrev pub signal_at : Script → List Turn → ℕ × Turn → ℕ × (ℕ × Signal)
signal_at s seen (place, Pushed signal) = (push_counter s, (length (pushed (take place seen)) + 1, signal))
signal_at s seen (place, Popped signal) = (pop_counter s, (length (popped (take place seen)) + 1, signal))

-- a call's pushes and pops stand in what was seen, at rising places, and are those among its actions
pub record AreTurnsOf (s : Script) (q : WorldPass) (log : CallLog) : Type 0 where
  pub rise : Rises 0 (map (λ x. x.0) log.turns)
  pub each : AllByRecursion (IsTurnSeen s (turns q.signals.knows)) log.turns
  pub are : signals_of log.trace.actions ≡ map (signal_at s (turns q.signals.knows)) log.turns

-- ---- a call

-- the script's world, of which the lane's passes are, and its call at the lane's label
pub record IsNextCall (s : Script) (x : WorldOf) (l : LaneOf) (call : Call) : Type 0 where
  pub world : IsWorldOf s x
  pub range : IsInRange s
  pub whole : IsWhole x
  pub objects : l.pass.objects.knows.opening ≡ (row_of x.objects).made
  pub at : CallInRound
  pub there : slice_get (calls_of s l.label.lane) l.label.call ≡ Some at
  pub is : at.call ≡ call

-- what a lane keeps of a call, with its receipts, its actions and the notes that it added
pub record KeepsCall (s : Script) (l : LaneOf) (call : Call) (a : Answer) (m : LaneOf) : Type 0 where
  pub notes : List PlacedEntry
  pub trace : Trace
  pub turned : List (ℕ × Turn)
  pub added : NotesOf
  pub sees : SeesOn l.pass m.pass
  -- the notes
  pub joins : m.notes ≡ both_noted l.notes added
  pub bears : (k : NoteKind) → AllByRecursion (λ n. label_of k n ≡ l.label) (list_of k added)
  pub tells : TellLog (log_of l.pass m.pass notes trace turned) added
  -- no call writes more than once
  pub few : length added.writes ≤ 1
  pub places : AddsPlaces (length s.timers) l.pass m.pass added
  pub seen : (k : NoteKind) → AllByRecursion (IsNoteSeen k m.pass (log_of l.pass m.pass notes trace turned)) (list_of k added)
  pub stand : StandAt m.pass (log_of l.pass m.pass notes trace turned)
  -- its pushes and pops are all that its pass of the queue has added
  pub turns : AreTurnsOf s m.pass (log_of l.pass m.pass notes trace turned)
  pub turn_places : m.pass.signals.knows.pass.mine ≡ l.pass.signals.knows.pass.mine ++ map turn_place turned
  -- the promise
  pub promised : IsPromised s l.label.lane l.label.call (log_of l.pass m.pass notes trace turned) (Follows m.pass) call a (seen_by l.pass) (seen_by m.pass)

-- What a lane keeps of a call with its reading: where it took one it had seen more of timers and clock before the call's own part, and had made nothing.
pub record KeepsTurn (s : Script) (l : LaneOf) (call : Call) (a : Answer) (m : LaneOf) : Type 0 where
  pub begun : LaneOf
  pub label : begun.label ≡ l.label
  pub notes : begun.notes ≡ l.notes
  pub sees : SeesOn l.pass begun.pass
  pub timers : begun.pass.timers.known.mine ≡ l.pass.timers.known.mine
  pub objects : begun.pass.objects.knows.pass.mine ≡ l.pass.objects.knows.pass.mine
  pub clock : begun.pass.clock.knows.pass.mine ≡ l.pass.clock.knows.pass.mine
  pub signals : begun.pass.signals ≡ l.pass.signals
  pub kept : KeepsCall s begun call a m
  pub read : (e : Ending) → Follows m.pass e → HasLog e l.label (log_of begun.pass m.pass kept.notes kept.trace kept.turned) → IsJoined s e
      → FitsCall (witness_of s e) l.label call a (seen_by begun.pass) (seen_by m.pass)
      → ReadsInTurn (witness_of s e) l.label call (length l.pass.timers.known.seen)
