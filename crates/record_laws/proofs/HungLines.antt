-- The record has under its lines the looks and refused expiries that calls noted, each under the line of its number.
use Rattle.lane_notes.proofs.Kept.{IsNoteSeen}
use Rattle.run_history.specs.Receipts as receipts
use Rattle.run_history.specs.Witnesses.{TimersList}
use Rattle.std.proofs.Common.{◌≡◌, ℕ, ◌+◌, ◌≤◌, List, filter, length, map, arith, refl, sym, ap, ◌∙◌, subst}
use Rattle.std.specs.List.{AllByRecursion}
use Rattle.std.specs.List.Sorted.{IsPermutation}
use Rattle.timer_objects.specs.Known.{seen_of}
use Rattle.lane_notes.specs.Notes.{NotesOf}
use Rattle.lane_notes.specs.Records.{look_of, noted_object_lines, noted_timer_lines, record_from, object_line, timer_line, skip_of}
use Rattle.lane_notes.specs.Sorted.{is_of_list, IsSortedFrom, place_of_look, place_of_object, place_of_skip, place_of_entry}
use Rattle.lane_notes.specs.declared.notes.LookNote.{LookNote}
use Rattle.lane_notes.specs.declared.notes.SkipNote.{SkipNote}
use Rattle.lane_notes.proofs.Standing.{HasPlace}
use Rattle.lane_notes.proofs.UnderLines.{labels_never_fall}
use Rattle.lane_notes.proofs.WholeRecord.{look_is_noted, looks_sorted, skip_is_noted, skips_labels}
use Rattle.record_text.specs.declared.record.Answer.{Answer}
use Rattle.record_text.specs.declared.record.CallbackReply.{CallbackReply}
use Rattle.record_text.specs.declared.record.Label.{Label}
use Rattle.record_text.specs.declared.record.TimerLine.{TimerLine}
use Rattle.run_history.specs.Actions.{looked, own_looks, own_skips, skipped}
use Rattle.run_history.specs.Histories.{lines_of_timer}
use Rattle.run_history.specs.Objects.{lines_of_object}
use Rattle.run_history.specs.Order.{AreSorted, AreUnder, is_label, IsLabel}
use Rattle.script_text.specs.declared.script.Script.{Script}
use Rattle.run_history.specs.Fits.{AreSkipsUnder, LabelsNeverFall}
use Rattle.run_history.specs.Receipts.{Rises}
use Rattle.run_history.specs.Runs.{CallLog}
use Rattle.run_history.proofs.Lists.{all_at, each}
use Rattle.run_history.proofs.Looks.{of_call, own_looks_are, own_skips_are}
use Rattle.lane_notes.proofs.Kept.{LookNotes, SkipNotes, looks_on, skips_on}
use Rattle.lane_notes.proofs.Left.{AreLastOf, AreLeft}
use Rattle.lane_notes.specs.Worlds.{WorldOf}
use Rattle.lane_notes.specs.declared.lane.WorldPass.{WorldPass}
use Rattle.std.proofs.lemmas.Simd.{map-map}
use Rattle.record_laws.proofs.HungNotes.{all_under_lines, calls_under, hung_own, one_of_call, shape}
use Rattle.record_laws.proofs.LastSeen.{entries_once, object_lines_are, objects_once, timer_lines_are}
use Rattle.record_laws.proofs.Numbered.{as_many}
use Rattle.record_laws.proofs.OwnLines.{own_on, rise_in, told_of}

module _ {s : Script} {x : WorldOf} {q : WorldPass} {notes sorted : NotesOf} {logs : Label → CallLog} (last : AreLastOf s x q) (left : AreLeft s q notes logs)
    (is : IsSortedFrom notes sorted) (answers : List (List Answer)) where
  -- ---- looks

  abbrev lines : ℕ → List TimerLine
  lines t = noted_timer_lines t sorted.entries sorted.looks

  abbrev told : LookNote → ℕ × CallbackReply
  told n = (n.number, n.reply)

  -- a call's looks at a timer are what it kept of them
  own_looks_noted : (c : Label) (t : ℕ) → map told (own_on place_of_look t c notes.looks) ≡ looked t (logs c).trace.actions
  own_looks_noted c t = sym (told_of (looks_on t) (is_of_list place_of_look t) told refl (λ n ns. refl) (filter (λ n. is_label c n.label) notes.looks))
      ∙ (left.tell c).tells.looks t

  timer_looks_sorted : (t : ℕ) → AllByRecursion (λ line. AreSorted (map (λ l. l.label) line.looks)) (lines t)
  timer_looks_sorted t = looks_sorted t sorted.entries notes.looks sorted.looks is.looks (λ n c. one_of_call place_of_look t n c notes.looks
      (subst (Rises 1) (ap (map (λ (y : ℕ × CallbackReply). y.0)) (sym (own_looks_noted c t))
      ∙ map-map (λ (y : ℕ × CallbackReply). y.0) told (own_on place_of_look t c notes.looks)) ((left.tell c).tells.looks_rise t)))

  look_noted : (n : LookNote) → HasPlace notes.looks n → IsLabel s n.label × IsNoteSeen LookNotes q (logs n.label) n
  look_noted n st = all_at (λ m. IsLabel s m.label × IsNoteSeen LookNotes q (logs m.label) m) notes.looks st.0 n (left.seen LookNotes) st.1

  -- law: a call's looks under the record's lines are what it was told
  pub looks_own : (c : Label) (t : ℕ)
      → own_looks c 1 (lines_of_timer (record_from s.version sorted s.bases (length s.timers) answers) t) ≡ looked t (logs c).trace.actions
  looks_own c t =
      let shapes = map (shape place_of_look (λ n. n.reply)) (filter (is_of_list place_of_look t) sorted.looks) in
      ap (own_looks c 1) (timer_lines_are last left is answers t)
      ∙ own_looks_are c (lines t) shapes (looked t (logs c).trace.actions) (timer_looks_sorted t)
      (all_under_lines place_of_look (λ n. n.reply) timer_line (λ line. line.looks) (λ l. l.label) (λ l. l.reply) (λ k n us. map-map _ look_of us)
      place_of_entry t sorted.entries is.looks (λ n st of.
      let its = (look_noted n st).1 in
      let seen = subst (λ u. n.number ≤ receipts.count_owned (TimersList u) q.timers.known.seen) of its.1 in
      (omega (arith, its.0), omega (arith, seen, as_many is.entries (entries_once last left t)))))
      (subst (IsPermutation (of_call c shapes)) (own_looks_noted c t) (hung_own place_of_look (λ n. n.reply) t c is.looks))
      (rise_in 1 (looked t (logs c).trace.actions) ((left.tell c).tells.looks_rise t))

  -- law: labels of looks under a line are those of calls, in order
  pub looks_under : (t : ℕ) → AllByRecursion (λ line. AreUnder s (map (λ look. look.label) line.looks))
      (lines_of_timer (record_from s.version sorted s.bases (length s.timers) answers) t)
  looks_under t = subst (AllByRecursion (λ line. AreUnder s (map (λ look. look.label) line.looks))) (sym (timer_lines_are last left is answers t))
      (each _ (lines t) (λ k line at. record {
        calls = calls_under s (λ look. look.label) (λ n. refl) is.looks (λ n st. (look_noted n st).0) line.looks
            (λ l. look_is_noted t sorted.entries sorted.looks k line l at);
        sorted = all_at (λ l. AreSorted (map (λ look. look.label) l.looks)) (lines t) k line (timer_looks_sorted t) at;
      }))

  -- ---- refused expiries

  skip_noted : (n : SkipNote) → HasPlace notes.skips n → IsLabel s n.label × IsNoteSeen SkipNotes q (logs n.label) n
  skip_noted n st = all_at (λ m. IsLabel s m.label × IsNoteSeen SkipNotes q (logs m.label) m) notes.skips st.0 n (left.seen SkipNotes) st.1

  -- law: a call's refused expiries under the record's lines are those that it noted, in some order
  pub skips_own : (c : Label) (i : ℕ)
      → IsPermutation (own_skips c 1 (lines_of_object (record_from s.version sorted s.bases (length s.timers) answers) i)) (skipped i (logs c).trace.actions)
  skips_own c i =
      let shapes = map (shape place_of_skip (λ n. n.generation)) (filter (is_of_list place_of_skip i) sorted.skips) in
      subst (λ ls. IsPermutation (own_skips c 1 ls) (skipped i (logs c).trace.actions)) (sym (object_lines_are last left is answers i))
      (own_skips_are c (noted_object_lines i sorted.objects sorted.skips) shapes (skipped i (logs c).trace.actions)
      (all_under_lines place_of_skip (λ n. n.generation) object_line (λ line. line.skips) (λ l. l.label) (λ l. l.generation) (λ k n us. map-map _ skip_of us)
      place_of_object i sorted.objects is.skips (λ n st of.
      let its = (skip_noted n st).1 in
      let seen = subst (λ j. n.number ≤ length (seen_of q.objects j)) of its.1 in
      (omega (arith, its.0), omega (arith, seen, as_many is.objects (objects_once last left i)))))
      (subst (IsPermutation (of_call c shapes))
      (sym (told_of (skips_on i) (is_of_list place_of_skip i) (λ n. (n.number, n.generation)) refl (λ n ns. refl)
      (filter (λ n. is_label c n.label) notes.skips)) ∙ (left.tell c).tells.skips i) (hung_own place_of_skip (λ n. n.generation) i c is.skips)))

  -- law: labels of refused expiries under a line are those of calls, and never fall
  pub skips_under : (i : ℕ) → AllByRecursion (λ line. AreSkipsUnder s (map (λ skip. skip.label) line.skips))
      (lines_of_object (record_from s.version sorted s.bases (length s.timers) answers) i)
  skips_under i = subst (AllByRecursion (λ line. AreSkipsUnder s (map (λ skip. skip.label) line.skips))) (sym (object_lines_are last left is answers i))
      (each _ (noted_object_lines i sorted.objects sorted.skips) (λ k line at. record {
        calls = calls_under s (λ skip. skip.label) (λ n. refl) is.skips (λ n st. (skip_noted n st).0) line.skips
            (λ y. skip_is_noted i sorted.objects sorted.skips k line y at);
        in_order = subst LabelsNeverFall (sym (skips_labels i sorted.objects sorted.skips k line at))
            (labels_never_fall place_of_skip i (k + 1) LabelsNeverFall tt (λ c cs lower rest. (lower, rest)) sorted.skips is.skips.order);
      }))
