-- The record's lines of objects are the entries that the last pass has seen of each, each under the label of the call that made it.
use Rattle.timer_objects.specs.declared.object.Object.TheVariants as objects
use Rattle.script_text.specs.declared.script.Kind.TheVariants as kinds
use Rattle.std.proofs.Common.{◌≡◌, ℕ, ◌<◌, ◌≤◌, Some, List, [], ◌∷◌, filter, length, map, arith, refl, sym, ap, ◌∙◌, subst, suc}
use Rattle.std.specs.List.{slice_get}
use Rattle.std.proofs.Math.Logic.{⊎_elim}
use Rattle.std.proofs.lemmas.Bool.{cases_lt}
use Rattle.std.proofs.lemmas.Option.{same_Some}
use Rattle.counted_row.specs.Views.{StateAfter}
use Rattle.clock_cell.specs.Views.{writes}
use Rattle.timer_objects.specs.Meaning.{object_meaning}
use Rattle.timer_objects.specs.Steps.{opened_object}
use Rattle.timer_objects.specs.Known.{seen_of}
use Rattle.timer_objects.specs.declared.object.Object.{Object}
use Rattle.lane_notes.specs.Notes.{NotesOf}
use Rattle.lane_notes.specs.Records.{record_from, object_line}
use Rattle.lane_notes.specs.Sorted.{is_of_list, IsSortedFrom, place_of_object, place_of_skip}
use Rattle.lane_notes.proofs.Lists.{object_line_shape, object_note_shape, noted_lines-shown}
use Rattle.record_text.specs.declared.record.Answer.{Answer}
use Rattle.record_text.specs.declared.record.Label.{Label}
use Rattle.record_text.specs.declared.record.ObjectEntry.{ObjectEntry}
use Rattle.record_text.specs.declared.record.ObjectLine.{ObjectLine}
use Rattle.run_history.specs.Actions.{made, own}
use Rattle.run_history.specs.Objects.{IsLegalObject, lines_of_object}
use Rattle.script_text.specs.Declarations.{kind_of, clock_of}
use Rattle.run_history.specs.Order.{is_label}
use Rattle.script_text.specs.declared.script.Script.{Script}
use Rattle.run_history.specs.Promises.{GoesOnClock}
use Rattle.run_history.specs.Runs.{CallLog, Ending, RoundStarts}
use Rattle.run_history.proofs.Lists.{all_at}
use Rattle.lane_notes.specs.Runs.{AreObjectLines, ObjectMove, ShowsObjectCall}
use Rattle.lane_notes.proofs.Kept.{ObjectNotes, made_on}
use Rattle.lane_notes.proofs.Left.{AreLastOf, AreLeft, ending_of}
use Rattle.lane_notes.specs.Worlds.{WorldOf, decl_as}
use Rattle.lane_notes.specs.declared.lane.WorldPass.{WorldPass}
use Rattle.counted_row.specs.Meaning.{Leads}
use Rattle.posix_timer.specs.States.{posix_opening}
use Rattle.posix_timer.specs.Queued.{queued_opening}
use Rattle.timer_fd.specs.States.{fd_opening}
use Rattle.record_text.specs.declared.record.ClockLine.{ClockLine}
use Rattle.record_text.specs.declared.record.RunRecord.{RunRecord}
use Rattle.script_text.specs.declared.script.Kind.{Kind}
use Rattle.record_laws.proofs.ClockLines.{clock_goes_on}
use Rattle.record_laws.proofs.LastSeen.{objects_once, object_lines_are}
use Rattle.record_laws.proofs.SeenThere.{many_objects, objects_past}
use Rattle.lane_notes.proofs.ObjectSeen.{leads_from, legal}
use Rattle.timer_objects.proofs.KindOfObject.{fd_objects, posix_objects, queued_objects, sleeper_objects}
use Rattle.sleeper.specs.States.{sleeper_opening}
use Rattle.record_laws.proofs.OwnLines.{at_line, lines_long, own_lines, ShowNotes, told_of}

-- ---- the entries of an object

-- law: lines that each show the entry at their place
lines_from : (clock : List ClockLine) (hs : List ObjectMove) (lines : List ObjectLine) → length lines ≡ length hs
    → ((j : ℕ) (h : ObjectMove) (line : ObjectLine) → slice_get hs j ≡ Some h → slice_get lines j ≡ Some line
    → ShowsObjectCall clock h.call h.reply line.entry) → AreObjectLines clock hs lines
lines_from clock [] [] long at = tt
lines_from clock [] (line ∷ lines) long at = absurd (omega (arith, long))
lines_from clock (h ∷ hs) [] long at = absurd (omega (arith, long))
lines_from clock (h ∷ hs) (line ∷ lines) long at =
    (at 0 h line refl refl, lines_from clock hs lines (omega (arith, long)) (λ j g l at_h at_l. at (suc j) g l at_h at_l))

-- a timer by itself has no calls
raw_none : (clock : List ClockLine) (to : Object) (hs : List ObjectMove) (lines : List ObjectLine) → Leads object_meaning objects.Raw hs to
    → AreObjectLines clock hs lines → lines ≡ []
raw_none clock to [] [] leads are = refl
raw_none clock to [] (line ∷ lines) leads are = absurd are
raw_none clock to (h ∷ hs) lines leads are = absurd leads.0

-- lines that show all entries of a declared object are a history that it gives
legal_lines : (s : Script) (r : RunRecord) (i : ℕ) (hs : List ObjectMove) (now : Object)
    → AreObjectLines r.clock hs (lines_of_object r i) → (k : Kind) → Leads object_meaning (opened_object s.limit (decl_as k (clock_of s i))) hs now
    → IsLegalObject s r i k
legal_lines s r i hs now are (kinds.Raw context callback) leads = raw_none r.clock now hs (lines_of_object r i) leads are
legal_lines s r i hs now are (kinds.Posix base) leads =
    legal posix_objects r.clock (posix_opening (clock_of s i) base s.limit) now hs (lines_of_object r i) leads are
legal_lines s r i hs now are (kinds.Fd base) leads =
    legal fd_objects r.clock (fd_opening (clock_of s i) base s.limit) now hs (lines_of_object r i) leads are
legal_lines s r i hs now are (kinds.Queued base) leads =
    legal queued_objects r.clock (queued_opening (clock_of s i) base s.limit) now hs (lines_of_object r i) leads are
legal_lines s r i hs now are (kinds.Sleeper base) leads =
    legal sleeper_objects r.clock (sleeper_opening (clock_of s i) base s.limit) now hs (lines_of_object r i) leads are

-- the entries that were seen of an object lead on from where its declaration opens it
object_leads : {s : Script} {x : WorldOf} {q : WorldPass} → AreLastOf s x q → (i : ℕ)
    → (now : Object) × Leads object_meaning (opened_object s.limit (decl_as (kind_of s i) (clock_of s i))) (seen_of q.objects i) now
object_leads {s = s} {x = x} {q = q} last i = ⊎_elim
    (λ (there : i < length s.timers).
    let c = last.of.passes.objects.knows.legal i (subst (λ n. i < n) (sym (many_objects last.of)) there) in (
      c.0,
      leads_from s x last.of.world i (seen_of q.objects i) c.0
          (subst (λ o. StateAfter object_meaning o i (seen_of q.objects i) c.0) last.of.passes.objects.row.made c.1) (kind_of s i) refl,
    ))
    (λ (past : length s.timers ≤ i).
    let opened = opened_object s.limit (decl_as (kind_of s i) (clock_of s i)) in
    (opened, subst (λ hs. Leads object_meaning opened hs opened) (sym (objects_past last.of i past)) refl))
    (cases_lt i (length s.timers))

-- ---- the record's lines

module _ {s : Script} {x : WorldOf} {q : WorldPass} {notes sorted : NotesOf} {logs : Label → CallLog} (last : AreLastOf s x q) (left : AreLeft s q notes logs)
    (is : IsSortedFrom notes sorted) (answers : List (List Answer)) where
  abbrev r : RunRecord
  r = record_from s.version sorted s.bases (length s.timers) answers

  shown : (i : ℕ) → ShowNotes place_of_object (λ y. y.label) (λ y. y.entry) (λ n. n.entry) (lines_of_object r i)
      (filter (is_of_list place_of_object i) sorted.objects)
  shown i = record {
    same = ap (map object_line_shape) (object_lines_are last left is answers i)
        ∙ noted_lines-shown place_of_skip object_line place_of_object i sorted.objects sorted.skips object_line_shape object_note_shape (λ n us. refl);
  }

  -- law: there are as many as entries
  pub object_lines_long : (i : ℕ) → length (lines_of_object r i) ≡ length (seen_of q.objects i)
  object_lines_long i = lines_long is.objects (objects_once last left i) (shown i)

  -- a line's entry was seen at its place
  abbrev Shows : ℕ → Label × ObjectEntry → ℕ → Type 0
  Shows i y j = (step : ObjectMove) × (slice_get (seen_of q.objects i) j ≡ Some step)
      × ((f : Ending) → GoesOnClock (writes q.clock.knows) f → ShowsObjectCall f.run.clock step.call step.reply y.1)

  shows_at : (i j : ℕ) (line : ObjectLine) → slice_get (lines_of_object r i) j ≡ Some line → Shows i (line.label, line.entry) j
  shows_at i = at_line is.objects (objects_once last left i) (shown i) (Shows i) (λ n st of.
      let its = (all_at _ notes.objects st.0 n (left.seen ObjectNotes) st.1).1 in
      let shows : Shows n.object (n.label, n.entry) its.before = (its.step, its.there, its.shows) in
      (its.before, its.number, subst (λ k. Shows k (n.label, n.entry) its.before) of shows))

  -- law: those of a call are the entries that it made
  pub object_own : (c : Label) (i : ℕ) → own (λ line. line.label) (λ line. line.entry) c 1 (lines_of_object r i) ≡ made i (logs c).trace.actions
  object_own c i =
      own_lines is.objects (objects_once last left i) (shown i) (λ y. y) c
      (made i (logs c).trace.actions) ((left.tell c).tells.objects_rise i)
      (sym (told_of (made_on i) (is_of_list place_of_object i) (λ n. (n.number, n.entry)) refl (λ n ns. refl) (filter (λ n. is_label c n.label) notes.objects))
      ∙ (left.tell c).tells.objects i)

  module _ (starts : RoundStarts) where
    abbrev e : Ending
    e = ending_of r q (λ k. []) logs starts

    -- law: they show the entries
    pub object_lines_show : (i : ℕ) → AreObjectLines r.clock (seen_of q.objects i) (lines_of_object r i)
    object_lines_show i = lines_from r.clock (seen_of q.objects i) (lines_of_object r i) (object_lines_long i) (λ j h line at_h at_l.
        let its = shows_at i j line at_l in
        subst (λ (g : ObjectMove). ShowsObjectCall r.clock g.call g.reply line.entry) (same_Some its.0 h (sym its.1 ∙ at_h))
        (its.2 e (clock_goes_on last left is e refl)))

    -- law: each object's lines are a history that such an object gives
    pub object_histories : (i : ℕ) → IsLegalObject s r i (kind_of s i)
    object_histories i =
        let c = object_leads last i in legal_lines s r i (seen_of q.objects i) c.0 (object_lines_show i) (kind_of s i) c.1
