-- What a lane keeps of a call that is a part: of any call but a write of the clock.
use Rattle.lane_notes.proofs.Kept.{WriteNotes}
use Rattle.std.proofs.Common.{◌≡◌, List, length, map, arith, refl, sym, ap, ◌∙◌, subst}
use Rattle.clock_cell.specs.Views.{writes}
use Rattle.pass_names.specs.Counts.{count, one_if}
use Rattle.pass_names.specs.Passes.{is_place}
use Rattle.pass_names.proofs.Counts.{total-append}
use Rattle.record_text.specs.declared.record.Answer.{Answer}
use Rattle.record_text.specs.declared.record.ClockLine.{ClockLine}
use Rattle.script_text.specs.declared.script.Call.{Call}
use Rattle.script_text.specs.declared.script.Script.{Script}
use Rattle.run_history.specs.Witnesses.{Trace}
use Rattle.run_history.specs.Promises as promises
use Rattle.run_history.specs.Receipts.{PlacedEntry, Rises}
use Rattle.run_history.specs.Runs.{Ending}
use Rattle.lane_notes.specs.Called.{LaneOf}
use Rattle.std.specs.List.{AllByRecursion}
use Rattle.lane_notes.proofs.Kept.{IsNextCall, IsNoteSeen, list_of, EntryNotes, LookNotes, ObjectNotes, SkipNotes, BaseNotes, KeepsCall, log_of, SeesOn}
use Rattle.lane_notes.specs.Worlds.{WorldOf}
use Rattle.call_laws.proofs.CallKept.{FitsOn, logged_from, LooksAtClock, places_told, promised_from, stand_from}
use Rattle.call_laws.proofs.Noted.{HasWholeTurns, each_same, noted_by, noted_bears, noted_entries, noted_looks, noted_made, noted_skips, noted_writes, one_noted, told_same}
use Rattle.lane_notes.specs.Notes.{both_noted, NotesOf}
use Rattle.lane_notes.specs.declared.notes.WriteNote.{WriteNote}
use Rattle.std.specs.List.Sorted.{IsPermutation}
use Rattle.std.proofs.lemmas.List.Sorted.{IsPermutation-trans}
use Rattle.run_history.specs.Actions.{Action, Entered, Looked, Made, Shifted, Skipped, Wrote, wrote}
use Rattle.hr_timers.specs.Known.{KnownOfTimers}
use Rattle.timer_objects.specs.Known.{ObjectsPass}
use Rattle.record_text.specs.declared.record.Label.{Label}
use Rattle.lane_notes.specs.declared.lane.WorldPass.{WorldPass}
use Rattle.run_history.specs.Receipts.{receipt}
use Rattle.lane_notes.proofs.Kept.{each_both, each_none, entries_told, looks_on, made_on, NoteKind, skips_on}
use Rattle.std.proofs.Common.{[], ◌∷◌, ◌++◌}
use Rattle.call_laws.proofs.Parts.{IsActionSeen, IsPart, object_place}
use Rattle.call_laws.proofs.Signals.{TurnsPart}
use Rattle.lane_notes.proofs.Kept.{signals_of, signals_told}
use Rattle.signal_queue.specs.declared.signal.Turn.{Turn}
use Rattle.std.proofs.Common.{ℕ}
use Rattle.std.proofs.lemmas.List.Sorted.{IsPermutation-append, IsPermutation-refl}
use Rattle.run_history.proofs.Known.{AreMade, behind_all, rises_lower}
use Rattle.run_history.proofs.Lists.{all_at, each}
use Rattle.pass_names.proofs.Passes.{begins_length}
use Rattle.seq_timer.specs.declared.system.SystemEntry.{SystemEntry}
use Rattle.std.proofs.Common.{◌≤◌, ◌<◌}

-- ---- the notes

-- there is no write among the actions of a part
no_write : (IsSo : List ClockLine → Type 0) (p : ObjectsPass) (w : KnownOfTimers) (q : ObjectsPass) (ds : List Action)
    → AllByRecursion (IsActionSeen IsSo p w q) ds → wrote ds ≡ []
no_write IsSo p w q [] each = refl
no_write IsSo p w q (Wrote number write ∷ ds) each = absurd each.0
no_write IsSo p w q (d ∷ ds) each = no_write IsSo p w q ds each.1

-- what a part did stands in what was seen, by its notes
noted_seen : (IsSo : List ClockLine → Type 0) (p q : WorldPass) (notes : List PlacedEntry) (t : Trace) (turned : List (ℕ × Turn)) (label : Label)
    → ((e : Ending) → promises.GoesOnClock (writes q.clock.knows) e → IsSo e.run.clock) → (k : NoteKind) (ds : List Action)
    → AllByRecursion (IsActionSeen IsSo p.objects q.timers.known q.objects) ds
    → AllByRecursion (IsNoteSeen k q (log_of p q notes t turned)) (list_of k (noted_by label ds))
noted_seen IsSo p q notes t turned label so k [] each = each_none k (IsNoteSeen k q (log_of p q notes t turned))
noted_seen IsSo p q notes t turned label so k (d ∷ ds) each =
    each_both k (IsNoteSeen k q (log_of p q notes t turned)) (one_noted label d) (noted_by label ds) (one k d each.0) (noted_seen IsSo p q notes t turned label so k ds each.1)
  where
    one : (k : NoteKind) (d : Action) → IsActionSeen IsSo p.objects q.timers.known q.objects d
        → AllByRecursion (IsNoteSeen k q (log_of p q notes t turned)) (list_of k (one_noted label d))
    one EntryNotes (Entered timer number entry) is = (tt, tt)
    one LookNotes (Looked timer number reply) is = (is, tt)
    one ObjectNotes (Made i number entry) is = (
      record {
        before = is.before;
        number = is.is;
        step = is.step;
        there = is.there;
        shows = λ e goes. is.shows e.run.clock (so e goes);
      },
      tt,
    )
    one SkipNotes (Skipped i number generation) is = (is, tt)
    one BaseNotes (Shifted base number event) is = (tt, tt)
    one WriteNotes (Wrote number write) is = tt
    one k d is = tt

-- receipts of a part stand between what was seen before and where the call ended
inside_both : {order : List SystemEntry} {high : ℕ} (low end : ℕ) (notes : List PlacedEntry) → AreMade order low high notes
    → AllByRecursion (λ y. y.place < end) notes → AllByRecursion (λ y. (low ≤ y.place) × (y.place < end)) notes
inside_both low end notes made below =
    each _ notes (λ j y at. (all_at _ notes j y (behind_all low low notes (omega arith) made.rise) at, all_at _ notes j y below at))

-- ---- the call

-- law: a lane keeps a call that is a part, with its notes, and that ended between what its passes had seen, where it fits in every run that goes on from there
pub keeps_part_to : {s : Script} {x : WorldOf} {l : LaneOf} {call : Call} {IsSo : List ClockLine → Type 0} {notes : List PlacedEntry} {added : NotesOf}
    {turned : List (ℕ × Turn)} (next : IsNextCall s x l call) (m : LaneOf) (a : Answer) (t : Trace)
    → IsPart s IsSo l.label l.pass.timers.known l.pass.objects m.pass.timers.known m.pass.objects t.actions notes added
    → ((e : Ending) → promises.GoesOnClock (writes m.pass.clock.knows) e → IsSo e.run.clock) → LooksAtClock l.pass m.pass
    → m.notes ≡ both_noted l.notes added → length l.pass.timers.known.seen ≤ t.last → t.last ≤ length m.pass.timers.known.seen
    → AllByRecursion (λ y. y.place < t.last) notes → t.at ≡ length (writes m.pass.clock.knows)
    → HasWholeTurns t.actions → TurnsPart s l.pass.signals.knows m.pass.signals.knows (signals_of t.actions) turned
    → FitsOn s l m call a notes t turned → KeepsCall s l call a m
keeps_part_to {s = s} {l = l} {call = call} {IsSo = IsSo} {notes = notes} {added = added} {turned = turned} next m a t part so clock joins low high below at whole turns fits =
    let p = l.pass in
    let q = m.pass in
    let label = l.label in
    let others = part.told.others in
    let none = no_write IsSo p.objects q.timers.known q.objects t.actions part.each in
    let no_writes : added.writes ≡ [] = ap (λ (n : NotesOf). n.writes) others ∙ noted_writes label t.actions in
    let those = signals_told t.actions in
    let told : IsPermutation (map receipt notes) (entries_told added ++ those) = IsPermutation-trans _ _ _
    (subst (λ rs. IsPermutation rs (entries_told (noted_by label t.actions) ++ those)) (sym part.are) (noted_entries label t.actions none whole))
    (IsPermutation-append _ _ those those (told_same part.told) (IsPermutation-refl those)) in
    let sees : SeesOn p q = record {
      timers = part.enters.seen;
      clock = clock.seen;
      objects = part.goes_on;
      opening = part.opening;
      signals = turns.seen;
    } in
    record {
      notes = notes;
      trace = t;
      turned = turned;
      added = added;
      sees = sees;
      joins = joins;
      bears = λ k. each_same part.told k _ (noted_bears k label t.actions);
      tells = record {
        receipts = told;
        tells = record {
          writes = ap (map (λ n. (n.stamp, n.line.write))) no_writes ∙ sym none;
          looks = λ i. ap (λ (n : NotesOf). looks_on i n.looks) others ∙ noted_looks i label t.actions;
          objects = λ i. ap (λ (n : NotesOf). made_on i n.objects) others ∙ noted_made i label t.actions;
          skips = λ i. ap (λ (n : NotesOf). skips_on i n.skips) others ∙ noted_skips i label t.actions;
          writes_rise = subst (λ ws. Rises 1 (map (λ k. k.0) ws)) (sym none) tt;
          looks_rise = λ i. rises_lower 1 _ _ (omega arith) (part.looks_rise i).rise;
          objects_rise = λ i. rises_lower 1 _ _ (omega arith) (part.rise i).rise;
        };
      };
      few = omega (arith, ap length no_writes);
      places = record {
        timers = places_told s p.timers.known.mine q.timers.known.mine notes added part.enters.mine t.actions told;
        objects = λ i k. ap (count (is_place i k)) (part.mine ∙ ap (λ (n : NotesOf). p.objects.knows.pass.mine ++ map object_place n.objects) (sym others))
            ∙ total-append (λ u. one_if (is_place i k u)) p.objects.knows.pass.mine (map object_place added.objects);
        clock = λ k.
            let none = ap (λ (ws : List WriteNote). count (is_place 0 k) (map (λ e. (0, e.stamp)) ws)) no_writes in
            omega (arith, ap (count (is_place 0 k)) clock.mine, none);
      };
      seen = λ k. each_same part.told k _ (noted_seen IsSo p q notes t turned label so k t.actions part.each);
      stand = stand_from IsSo p q notes part.enters t turned (λ e follows. so e follows.clock);
      turns = record { rise = rises_lower 0 _ _ (omega arith) turns.span.rise; each = turns.each; are = turns.are };
      turn_places = turns.mine;
      promised = promised_from next m notes t turned a (logged_from p q notes t turned sees low high (inside_both (length p.timers.known.seen) t.last notes part.enters.made below) part.are at none) fits;
    }

-- law: one that ended with what its passes had seen then
pub keeps_part : {s : Script} {x : WorldOf} {l : LaneOf} {call : Call} {IsSo : List ClockLine → Type 0} {notes : List PlacedEntry} {added : NotesOf}
    {turned : List (ℕ × Turn)} (next : IsNextCall s x l call) (m : LaneOf) (a : Answer) (t : Trace)
    → IsPart s IsSo l.label l.pass.timers.known l.pass.objects m.pass.timers.known m.pass.objects t.actions notes added
    → ((e : Ending) → promises.GoesOnClock (writes m.pass.clock.knows) e → IsSo e.run.clock) → LooksAtClock l.pass m.pass
    → m.notes ≡ both_noted l.notes added → t.last ≡ length m.pass.timers.known.seen → t.at ≡ length (writes m.pass.clock.knows)
    → HasWholeTurns t.actions → TurnsPart s l.pass.signals.knows m.pass.signals.knows (signals_of t.actions) turned
    → FitsOn s l m call a notes t turned → KeepsCall s l call a m
keeps_part {notes = notes} next m a t part so clock joins last =
    keeps_part_to next m a t part so clock joins (omega (arith, begins_length part.enters.seen, last)) (omega (arith, last))
    (subst (λ n. AllByRecursion (λ y. y.place < n) notes) (sym last) part.enters.made.below)
