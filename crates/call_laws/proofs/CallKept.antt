-- What a lane keeps of a call, by its passes before and after it: the parts that are the same for each kind of call.
use Rattle.script_text.specs.Declarations.{declared_as, declareds_of, terms_of}
use Rattle.std.proofs.lemmas.List.{length-map}
use Rattle.std.proofs.Common.{◌≡◌, ◌≤◌, ◌<◌, ℕ, ◌+◌, Bool, Option, Some, None, List, [], ◌∷◌, ◌++◌, length, map, arith, refl, sym, ap, ◌∙◌, subst}
use Rattle.std.specs.List.{AllByRecursion, fold}
use Rattle.std.specs.List.Sorted.{IsPermutation}
use Rattle.std.proofs.lemmas.List.Sorted.{IsPermutation-map, sum_by-IsPermutation}
use Rattle.std.proofs.lemmas.Option.{slice_get_within}
use Rattle.ktime.specs.Readings.{ClockReading}
use Rattle.ktime.specs.Clocks.{at_stamp, clock_after}
use Rattle.clock_cell.specs.Views.{writes}
use Rattle.pass_names.specs.Counts.{count, one_if, total}
use Rattle.pass_names.specs.Passes.{Begins, GoesOn, is_place, Looks}
use Rattle.pass_names.proofs.Counts.{total-append}
use Rattle.timer_objects.specs.Known.{seen_of}
use Rattle.record_text.specs.declared.record.Answer.{Answer}
use Rattle.record_text.specs.declared.record.ClockLine.{ClockLine}
use Rattle.run_history.specs.Actions.{wrote}
use Rattle.run_history.specs.Histories.{reading_at}
use Rattle.run_history.specs.Order.{calls_of, IsLabel, NeverFall}
use Rattle.script_text.specs.declared.script.Call.{Call}
use Rattle.script_text.specs.declared.script.Script.{Script}
use Rattle.lane_notes.specs.Notes.{NotesOf}
use Rattle.run_history.specs.Witnesses.{Trace}
use Rattle.run_history.specs.Fits.{FitsCall}
use Rattle.run_history.specs.Promises.{GoesOnClock, HasLog, IsRightLog, IsPromised}
use Rattle.run_history.specs.Receipts.{PlacedEntry, receipt}
use Rattle.run_history.specs.Runs.{CallLog, witness_of, Ending, IsJoined, moves_spans}
use Rattle.run_history.specs.Traces.{all_entered}
use Rattle.run_history.proofs.Kept.{IsKept}
use Rattle.run_history.proofs.Promise.{kept_from, reading_seen}
use Rattle.signal_queue.specs.declared.signal.Signal.{Signal}
use Rattle.signal_queue.specs.declared.signal.Turn.{Turn}
use Rattle.run_history.specs.Actions.{Action}
use Rattle.run_history.specs.Witnesses.{OfRise}
use Rattle.lane_notes.proofs.Kept.{signals_of, signals_told}
use Rattle.lane_notes.specs.Called.{LaneOf, LeavesClock, ReadsClock}
use Rattle.lane_notes.proofs.Kept.{base_note_place, entries_told, note_place, places_noted, told_in, of_base, of_entry, of_write, ToldNote, Follows, IsNextCall, log_of, seen_by, SeesOn, StandAt, turn_notes}
use Rattle.lane_notes.proofs.SeenMore.{begins_same}
use Rattle.lane_notes.specs.Worlds.{WorldOf}
use Rattle.lane_notes.specs.declared.lane.WorldPass.{WorldPass}
use Rattle.lane_notes.proofs.Kept.{told_notes}
use Rattle.std.proofs.lemmas.Simd.{map-map}
use Rattle.std.proofs.lemmas.List.{append-nil, take_all, map-append}
use Rattle.lane_notes.specs.declared.notes.WriteNote.{WriteNote}
use Rattle.lane_notes.specs.declared.notes.BaseNote.{BaseNote}
use Rattle.lane_notes.specs.declared.notes.EntryNote.{EntryNote}
use Rattle.lane_notes.specs.declared.notes.ObjectNote.{ObjectNote}
use Rattle.call_laws.proofs.Entering.{EntersNotes, own_places, place_told}
use Rattle.run_history.specs.Objects.{present}
use Rattle.lane_notes.proofs.Receipts.{present-append}
use Rattle.pass_names.proofs.Passes.{begins_length}
use Rattle.std.proofs.Common.{false}
use Rattle.ktime.specs.declared.write.Write.{Write}
use Rattle.clock_cell.specs.Views.{reading_after}
use Rattle.seq_timer.specs.Systems.{openings}
use Rattle.base_row.specs.declared.view.Opening.{Opening}

-- ---- places

fold_total : {A : Type 0} (f : A → ℕ) (k : ℕ) (xs : List A) → fold (λ a x. a + f x) k xs ≡ k + total f xs
fold_total f k [] = omega arith
fold_total f k (x ∷ xs) = omega (arith, fold_total f (k + f x) xs)

count_permuted : {A : Type 0} (p : A → Bool) (xs ys : List A) → IsPermutation xs ys → count p ys ≡ count p xs
count_permuted p xs ys is =
    omega (arith, fold_total (λ x. one_if (p x)) 0 xs, fold_total (λ x. one_if (p x)) 0 ys, sum_by-IsPermutation (λ x. one_if (p x)) xs ys is)

-- whether a place is this one, where there is one
abbrev is_told_place : ℕ → ℕ → Option (ℕ × ℕ) → Bool
is_told_place i n None = false
is_told_place i n (Some p) = is_place i n p

count_present : (i n : ℕ) (ps : List (Option (ℕ × ℕ))) → count (is_place i n) (present ps) ≡ count (is_told_place i n) ps
count_present i n [] = refl
count_present i n (None ∷ ps) = omega (arith, count_present i n ps)
count_present i n (Some p ∷ ps) = ap (λ k. one_if (is_place i n p) + k) (count_present i n ps)

-- what is there of each, and of none
each_there : {X Y : Type 0} (g : X → Option Y) (h : X → Y) → ((x : X) → g x ≡ Some (h x)) → (xs : List X) → present (map g xs) ≡ map h xs
each_there g h is [] = refl
each_there g h is (x ∷ xs) = ap (λ o. present (o ∷ map g xs)) (is x) ∙ ap (λ ys. h x ∷ ys) (each_there g h is xs)

none_there : {X Y : Type 0} (g : X → Option Y) → ((x : X) → g x ≡ None) → (xs : List X) → present (map g xs) ≡ []
none_there g is [] = refl
none_there g is (x ∷ xs) = ap (λ o. present (o ∷ map g xs)) (is x) ∙ none_there g is xs

no_turns_there : (s : Script) (ns : List ObjectNote) → present (map (λ n. place_told s (told_in n)) (turn_notes ns)) ≡ []
no_turns_there s [] = refl
no_turns_there s (n ∷ ns) = no_turns_there s ns

-- the places that notes tell, of those of each kind
places_in : (s : Script) (notes : NotesOf)
    → present (map (place_told s) (entries_told notes)) ≡ map note_place notes.entries ++ map (base_note_place (length s.timers)) notes.bases
places_in s notes =
    let place = λ (n : ToldNote). place_told s (told_in n) in
    let parts : (xs ys : List ToldNote) → present (map place (xs ++ ys)) ≡ present (map place xs) ++ present (map place ys) =
    λ xs ys. ap present (map-append place xs ys) ∙ present-append (map place xs) (map place ys) in
    let of : (X : Type 0) (make : X → ToldNote) (xs : List X) → present (map place (map make xs)) ≡ present (map (λ x. place (make x)) xs) =
    λ X make xs. ap present (map-map place make xs) in
    let rises = map of_write notes.writes ++ turn_notes notes.objects in
    let none : present (map place rises) ≡ [] = parts (map of_write notes.writes) (turn_notes notes.objects)
    ∙ ap (λ ps. ps ++ present (map place (turn_notes notes.objects))) (of WriteNote of_write notes.writes ∙ none_there (λ n. place (of_write n)) (λ n. refl) notes.writes)
    ∙ no_turns_there s notes.objects in
    ap present (map-map (place_told s) told_in (told_notes notes))
    ∙ parts (map of_entry notes.entries) (map of_base notes.bases ++ rises)
    ∙ ap (λ ps. ps ++ present (map place (map of_base notes.bases ++ rises)))
    (of EntryNote of_entry notes.entries ∙ each_there (λ n. place (of_entry n)) note_place (λ n. refl) notes.entries)
    ∙ ap (λ ps. map note_place notes.entries ++ ps) (parts (map of_base notes.bases) rises
    ∙ ap (λ ps. present (map place (map of_base notes.bases)) ++ ps) none ∙ append-nil (present (map place (map of_base notes.bases)))
    ∙ of BaseNote of_base notes.bases ∙ each_there (λ n. place (of_base n)) (base_note_place (length s.timers)) (λ n. refl) notes.bases)

-- pushes and pops are no places of the pass's own
none_signalled : (s : Script) (i n : ℕ) (xs : List (ℕ × (ℕ × Signal))) → count (is_told_place i n) (map (place_told s) (map (λ x. (x.1.0, OfRise x.0)) xs)) ≡ 0
none_signalled s i n [] = refl
none_signalled s i n (x ∷ xs) = omega (arith, none_signalled s i n xs)

-- law: the places of a call's receipts are those of its notes, which tell the same in another order, and of its pushes and pops
pub places_told : (s : Script) (mine new : List (ℕ × ℕ)) (notes : List PlacedEntry) (added : NotesOf) → new ≡ mine ++ own_places s notes
    → (ds : List Action) → IsPermutation (map receipt notes) (entries_told added ++ signals_told ds) → (i n : ℕ)
    → count (is_place i n) new ≡ count (is_place i n) mine + places_noted (length s.timers) i n added
places_told s mine new notes added is ds same i n =
    let test = is_place i n in
    let place = place_told s in
    omega (
      arith,
      ap (count test) is,
      total-append (λ q. one_if (test q)) mine (own_places s notes),
      ap (λ ps. count test (present ps)) (map-map place receipt notes),
      count_present i n (map place (map receipt notes)),
      count_present i n (map place (entries_told added)),
      count_permuted (is_told_place i n) (map place (map receipt notes)) (map place (entries_told added ++ signals_told ds)) (IsPermutation-map place _ _ same),
      ap (count (is_told_place i n)) (map-append place (entries_told added) (signals_told ds)),
      total-append (λ q. one_if (is_told_place i n q)) (map place (entries_told added)) (map place (signals_told ds)),
      none_signalled s i n (signals_of ds),
      ap (count test) (places_in s added),
      total-append (λ q. one_if (test q)) (map note_place added.entries) (map (base_note_place (length s.timers)) added.bases),
    )

-- where none were added
pub no_places : {A : Type 0} (p : A → Bool) (mine new : List A) → new ≡ mine → count p new ≡ count p mine + 0
no_places p mine new is = let same = ap (count p) is in omega (arith, same)

-- ---- what the passes saw

-- of the clock no less was seen, and no write of it was made
pub record LooksAtClock (p q : WorldPass) : Type 0 where
  pub seen : Begins (writes p.clock.knows) (writes q.clock.knows)
  pub mine : q.clock.knows.pass.mine ≡ p.clock.knows.pass.mine

-- it was left alone
pub clock_left : {p q : WorldPass} → LeavesClock p q → LooksAtClock p q
clock_left left = record { seen = begins_same (ap (λ c. writes c.knows) left); mine = ap (λ c. c.knows.pass.mine) left }

-- it was read
pub clock_read : {p q : WorldPass} → Looks p.clock.knows.pass q.clock.knows.pass → LooksAtClock p q
clock_read looks = record { seen = looks.seen.each 0; mine = looks.mine }

-- the objects were left alone
pub same_objects : (p q : WorldPass) → q.objects ≡ p.objects → GoesOn p.objects.knows.pass.seen q.objects.knows.pass.seen
same_objects p q is = record { each = λ i. begins_same (ap (λ o. seen_of o i) is) }

-- law: the reading after all writes that a pass has seen is the record's, in every run that goes on from there
pub reading_of_seen : (e : Ending) (ws : List Write) → GoesOnClock ws e → reading_at e.run.clock (length ws) ≡ reading_after ws
reading_of_seen e ws on = reading_seen e ws (length ws) on (omega arith) ∙ ap (clock_after (at_stamp 0)) (take_all _ ws (omega arith))

-- law: so the record has the reading that the call took
pub reading_goes_on : (p q : WorldPass) (r : ClockReading) → ReadsClock p q r → (e : Ending) → GoesOnClock (writes q.clock.knows) e
    → reading_at e.run.clock r.stamp ≡ r
reading_goes_on p q r reads e goes =
    ap (reading_at e.run.clock) reads.count ∙ reading_of_seen e (writes q.clock.knows) goes ∙ sym reads.shows

-- law: the receipts stand in what was seen
pub stand_from : {s : Script} (IsSo : List ClockLine → Type 0) (p q : WorldPass) (notes : List PlacedEntry)
    → EntersNotes s IsSo p.timers.known q.timers.known notes → (t : Trace) (turned : List (ℕ × Turn)) → ((e : Ending) → Follows q e → IsSo e.run.clock) → StandAt q (log_of p q notes t turned)
stand_from IsSo p q notes enters t turned so = record {
  rise = enters.made.rise;
  below = enters.made.below;
  made = enters.made.made;
  shows = λ e follows. enters.shows e.run e.order follows.timers.0 follows.timers.1 (so e follows);
}

-- ---- the log

-- law: what a lane keeps of a call that wrote nothing is right in itself
pub logged_from : (p q : WorldPass) (notes : List PlacedEntry) (t : Trace) (turned : List (ℕ × Turn)) → SeesOn p q
    → length p.timers.known.seen ≤ t.last → t.last ≤ length q.timers.known.seen
    → AllByRecursion (λ x. (length p.timers.known.seen ≤ x.place) × (x.place < t.last)) notes → map receipt notes ≡ all_entered t.actions
    → t.at ≡ length (writes q.clock.knows) → wrote t.actions ≡ [] → IsRightLog (log_of p q notes t turned) (seen_by p) (seen_by q)
logged_from p q notes t turned sees low high inside are at none =
    let clock = begins_length sees.clock in
    record {
      forward = low;
      last = high;
      inside = inside;
      entered = are;
      reading = (omega (arith, at, clock), omega (arith, at));
      writes = subst (λ ws. AllByRecursion (λ x. t.at < x.0) ws) (sym none) tt;
      clock_steps = subst (λ ws. NeverFall (length (writes p.clock.knows)) (t.at ∷ map (λ x. x.0) ws) (length (writes q.clock.knows))) (sym none)
          (omega (arith, at, clock), omega (arith, at));
      move_steps = (omega arith, omega arith);
    }

-- a call fits, by what its lane kept of it, in every run that goes on from there
abbrev pub FitsOn : Script → LaneOf → LaneOf → Call → Answer → List PlacedEntry → Trace → List (ℕ × Turn) → Type 0
FitsOn s l m call a notes t turned =
    (e : Ending) → Follows m.pass e → IsJoined s e → HasLog e l.label (log_of l.pass m.pass notes t turned)
    → IsKept (witness_of s e) (moves_spans e) l.label t notes call a (seen_by l.pass) (seen_by m.pass)
    → length l.pass.timers.known.seen ≡ (moves_spans e).first l.label → FitsCall (witness_of s e) l.label call a (seen_by l.pass) (seen_by m.pass)

-- law: it keeps its promise then
pub promised_from : {s : Script} {x : WorldOf} {l : LaneOf} {call : Call} (next : IsNextCall s x l call) (m : LaneOf) (notes : List PlacedEntry) (t : Trace)
    (turned : List (ℕ × Turn)) (a : Answer) → IsRightLog (log_of l.pass m.pass notes t turned) (seen_by l.pass) (seen_by m.pass)
    → FitsOn s l m call a notes t turned → IsPromised s l.label.lane l.label.call (log_of l.pass m.pass notes t turned) (Follows m.pass) call a (seen_by l.pass) (seen_by m.pass)
promised_from {s = s} {l = l} next m notes t turned a logged fits e follows has joined =
    let is : IsLabel s l.label = slice_get_within (calls_of s l.label.lane) l.label.call next.at next.there in
    fits e follows joined has (kept_from joined is has logged) (sym (ap (λ (g : CallLog). g.moves.0) has.kept))

-- the timers of a script's world are on its clocks
pub opened_timers : {s : Script} {x : WorldOf} {l : LaneOf} {call : Call} → IsNextCall s x l call
    → x.timers.about.timers ≡ openings (declareds_of s) (terms_of s)
opened_timers next = ap (λ (o : Opening). o.timers) next.world.timers

-- there are as many as the script declares
pub many_there : {s : Script} {x : WorldOf} {l : LaneOf} {call : Call} → IsNextCall s x l call → length x.timers.about.timers ≡ length s.timers
many_there {s = s} next =
    ap (λ (o : Opening). length o.timers) next.world.timers ∙ length-map (declareds_of s) _ ∙ length-map s.timers declared_as
