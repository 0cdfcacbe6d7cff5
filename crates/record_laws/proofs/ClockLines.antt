-- The record's lines of the clock are the writes that the last pass has seen, each under the label of the call that made it.
use Rattle.std.proofs.Common.{◌≡◌, ℕ, ◌<◌, suc, Some, List, [], ◌∷◌, filter, length, map, take, add-one, refl, sym, ap, ◌∙◌, subst}
use Rattle.std.specs.List.{slice_get}
use Rattle.std.proofs.lemmas.List.{append-nil, length-map}
use Rattle.std.proofs.lemmas.List.Sorted.{length_permutation}
use Rattle.ktime.specs.Readings.{ClockReading}
use Rattle.clock_cell.specs.Views.{reading_after, writes}
use Rattle.ktime.specs.Clocks.{after_write, AreAccepted, at_stamp, clock_after, last_stamp}
use Rattle.ktime.specs.declared.write.Write.{Write}
use Rattle.lane_notes.specs.Notes.{NotesOf}
use Rattle.lane_notes.specs.Sorted.{is_of_list, IsSortedFrom, place_of_write}
use Rattle.lane_notes.specs.declared.notes.WriteNote.{WriteNote}
use Rattle.record_text.specs.declared.record.ClockLine.{ClockLine}
use Rattle.record_text.specs.declared.record.Label.{Label}
use Rattle.run_history.specs.Actions.{own, wrote}
use Rattle.run_history.specs.Histories.{AreWrites, ShowsReading}
use Rattle.run_history.specs.Order.{is_label}
use Rattle.script_text.specs.declared.script.Script.{Script}
use Rattle.run_history.specs.Promises.{GoesOnClock}
use Rattle.run_history.specs.Runs.{CallLog, Ending}
use Rattle.run_history.proofs.Lists.{all_at, map_get}
use Rattle.run_history.proofs.Shown.{same_items as same_places}
use Rattle.lane_notes.proofs.Kept.{WriteNotes}
use Rattle.lane_notes.proofs.Left.{AreLastOf, AreLeft}
use Rattle.lane_notes.specs.Worlds.{WorldOf}
use Rattle.lane_notes.specs.declared.lane.WorldPass.{WorldPass}
use Rattle.record_laws.proofs.LastSeen.{writes_once}
use Rattle.record_laws.proofs.OwnLines.{at_line, InSpan, lines_long, own_lines, ShowNotes}
use Rattle.std.proofs.lemmas.Simd.{map-map}

-- ---- lines that show readings

-- lines whose writes the clock takes in turn, each of which shows the reading after it
writes_from : (lines : List ClockLine) (r : ClockReading) → AreAccepted r (map (λ line. line.write) lines)
    → ((k : ℕ) (line : ClockLine) → slice_get lines k ≡ Some line → ShowsReading line (clock_after r (take (suc k) (map (λ l. l.write) lines))))
    → AreWrites r lines
writes_from [] r accepted shows = tt
writes_from (line ∷ lines) r accepted shows =
    (accepted.0, shows 0 line refl, writes_from lines (after_write r line.write) accepted.1 (λ k. shows (suc k)))

-- law: the clock has one list
pub all_of_clock : (ns : List WriteNote) → filter (is_of_list place_of_write 0) ns ≡ ns
all_of_clock [] = refl
all_of_clock (n ∷ ns) = ap (λ ms. n ∷ ms) (all_of_clock ns)

-- ---- the record's

module _ {s : Script} {x : WorldOf} {q : WorldPass} {notes sorted : NotesOf} {logs : Label → CallLog} (last : AreLastOf s x q) (left : AreLeft s q notes logs)
    (is : IsSortedFrom notes sorted) where
  abbrev seen : List Write
  seen = writes q.clock.knows

  abbrev pub clock_lines : List ClockLine
  clock_lines = map (λ n. n.line) sorted.writes

  shown : ShowNotes place_of_write (λ y. y.label) (λ y. y) (λ n. n.line) clock_lines (filter (is_of_list place_of_write 0) sorted.writes)
  shown = record {
    same = map-map (λ (y : ClockLine). (y.label, y)) (λ (n : WriteNote). n.line) sorted.writes
        ∙ ap (map {B = Label × ClockLine} (λ (n : WriteNote). (n.line.label, n.line))) (sym (all_of_clock sorted.writes));
  }

  pub clock_lines_long : length clock_lines ≡ length seen
  clock_lines_long = lines_long is.writes (writes_once last left) shown

  -- a line's write was seen at its place, in its call's span, and the line shows the reading after it
  abbrev Shows : Label × ClockLine → ℕ → Type 0
  Shows y k = InSpan s (λ c. (logs c).clock) y.0 k × (slice_get seen k ≡ Some y.1.write) × ShowsReading y.1 (reading_after (take (suc k) seen))

  shows_at : (k : ℕ) (line : ClockLine) → slice_get clock_lines k ≡ Some line → Shows (line.label, line) k
  shows_at = at_line is.writes (writes_once last left) shown Shows (λ n st of.
      let its = all_at _ notes.writes st.0 n (left.seen WriteNotes) st.1 in
      let shows = subst (λ m. ShowsReading n.line (reading_after (take m seen))) (sym its.1.number ∙ add-one its.1.before) its.1.shows in
      (its.1.before, its.1.number, ((its.0, its.1.inside.0, its.1.inside.1), its.1.there, shows)))

  -- law: the lines show the writes that were seen
  pub clock_writes : map (λ line. line.write) clock_lines ≡ seen
  clock_writes = same_places (map (λ line. line.write) clock_lines) seen
      (length-map clock_lines (λ (line : ClockLine). line.write) ∙ clock_lines_long)
      (λ k w at. let m = map_get (λ (line : ClockLine). line.write) clock_lines k w at in (shows_at k m.0 m.1).1 ∙ ap Some m.2)

  -- law: so a run with this record goes on from what was seen of the clock, whose last writes these are
  pub clock_goes_on : (e : Ending) → e.run.clock ≡ clock_lines → GoesOnClock seen e
  clock_goes_on e has = ([], ap (map (λ (line : ClockLine). line.write)) has ∙ clock_writes ∙ sym (append-nil seen))

  -- law: and are no more than the clock counts
  pub clock_few : length clock_lines < last_stamp
  clock_few = subst (λ n. n < last_stamp)
      (sym (length-map sorted.writes (λ (n : WriteNote). n.line) ∙ length_permutation notes.writes sorted.writes is.writes.same)) left.few

  -- law: the clock takes them in turn, and each shows the reading after it
  pub clock_accepted : AreWrites (at_stamp 0) clock_lines
  clock_accepted = writes_from clock_lines (at_stamp 0) (subst (AreAccepted (at_stamp 0)) (sym clock_writes) last.of.passes.known.legal)
      (λ k line at. subst (λ ws. ShowsReading line (clock_after (at_stamp 0) (take (suc k) ws))) (sym clock_writes) (shows_at k line at).2)

  -- law: each is of a call of the script, in the call's span
  pub clock_in_span : (n : ℕ) (c : Label) → slice_get (map (λ line. line.label) clock_lines) n ≡ Some c → InSpan s (λ d. (logs d).clock) c n
  clock_in_span n c at =
      let m = map_get (λ (line : ClockLine). line.label) clock_lines n c at in
      subst (λ d. InSpan s (λ l. (logs l).clock) d n) m.2 (shows_at n m.0 m.1).0

  -- law: those of a call are what it wrote
  pub clock_own : (c : Label) → own (λ line. line.label) (λ line. line.write) c 1 clock_lines ≡ wrote (logs c).trace.actions
  clock_own c =
      own_lines is.writes (writes_once last left) shown (λ y. y.write) c
      (wrote (logs c).trace.actions) (left.tell c).tells.writes_rise
      (ap (map {B = ℕ × Write} (λ (n : WriteNote). (n.stamp, n.line.write))) (all_of_clock (filter (λ n. is_label c n.line.label) notes.writes))
      ∙ (left.tell c).tells.writes)
