-- Writes of the clock, as their lanes keep them.
use Rattle.lane_notes.specs.declared.notes.WriteNote.{WriteNote}
use Rattle.lane_notes.proofs.Kept.{NoteKind, NoteOf}
use Rattle.call_laws.proofs.Sights.{keeps_sight}
use Rattle.std.proofs.lemmas.List.{take_all}
use Rattle.std.proofs.Common.{◌≡◌, ℕ, ◌+◌, ◌<◌, ◌≤◌, List, [], ◌∷◌, ◌++◌, length, length-append, take, Ok, Err, Result, Some, arith, refl, sym, ap, ◌∙◌, subst}
use Rattle.std.specs.List.{slice_get}
use Rattle.std.proofs.lemmas.List.{append-nil, append_assoc, length-map}
use Rattle.ktime.specs.Readings.{ClockReading}
use Rattle.ktime.specs.Clocks.{IsRefusedAs, after_write, greatest, last_stamp}
use Rattle.ktime.specs.declared.write.ClockFault.{ClockFault}
use Rattle.ktime.specs.declared.write.ClockFault.TheVariants as faults
use Rattle.ktime.specs.declared.write.Write.{Write}
use Rattle.ktime.proofs.Writes.{stamp_after}
use Rattle.clock_cell.specs.Views.{AcceptsWrite, AnswersWrite, reading_after, seen_reading, writes}
use Rattle.record_text.specs.declared.record.Answer.TheVariants as answers
use Rattle.record_text.specs.declared.record.Answer.{Answer}
use Rattle.record_text.specs.declared.record.ClockLine.{ClockLine}
use Rattle.run_history.specs.Actions.{Wrote}
use Rattle.run_history.specs.Histories.{ShowsReading}
use Rattle.script_text.specs.declared.script.Call.TheVariants as calls
use Rattle.script_text.specs.declared.script.Script.{Script}
use Rattle.lane_notes.specs.Notes.{both_noted, NotesOf, with_write_note}
use Rattle.pass_names.specs.Counts.{count, one_if}
use Rattle.pass_names.specs.Passes.{is_place}
use Rattle.pass_names.specs.SharedHistory.{LooksOn}
use Rattle.ordered_clock.specs.Moments.{HasPlace, WritesAt}
use Rattle.seq_timer.specs.Systems.{rises_of}
use Rattle.seq_timer.specs.declared.system.SystemEntry.TheVariants as entries
use Rattle.run_history.specs.Receipts.{PlacedEntry}
use Rattle.run_history.specs.Witnesses.{OfRise, Trace}
use Rattle.lane_notes.specs.declared.lane.WorldPass.{WorldPass}
use Rattle.std.proofs.Math.Seq.{take-append_seam}
use Rattle.std.proofs.lemmas.Option.{slice_get_within}
use Rattle.call_laws.proofs.Turns.{next_begun, turn_by_itself, turn_read, writes_seen}
use Rattle.pass_names.proofs.Counts.{total-append}
use Rattle.run_history.specs.Promises.{GoesOnClock, IsRightLog}
use Rattle.run_history.specs.Runs.{CallLog, Ending}
use Rattle.run_history.proofs.Lists.{at_left, at_seam}
use Rattle.run_history.proofs.OthersMade.{plain, wrote_made}
use Rattle.lane_notes.specs.Called.{CallsWrite, LaneOf, LeavesSignals, ReadsFirst, written_line, with_write_told, write_told}
use Rattle.call_laws.proofs.Signals.{turns_none, TurnsPart}
use Rattle.signal_queue.specs.Rules.{turns}
use Rattle.std.specs.List.{AllByRecursion}
use Rattle.lane_notes.proofs.Kept.{IsNoteSeen, label_of, list_of, WriteNotes, IsNextCall, KeepsCall, KeepsTurn, StandAt, log_of, seen_by, SeesOn}
use Rattle.lane_notes.proofs.SeenMore.{begins_same, goes_before}
use Rattle.lane_notes.specs.Worlds.{WorldOf}
use Rattle.pass_names.proofs.Passes.{begins_length}
use Rattle.call_laws.proofs.CallKept.{clock_left, no_places, promised_from, same_objects, reading_of_seen}
use Rattle.lane_notes.proofs.PartLists.{notes_same, same_order}
use Rattle.call_laws.proofs.Sights.{LooksOnly, looks_alone, keeps_looking}

-- the notes of a write alone
abbrev pub write_notes : ℕ → ClockLine → NotesOf
write_notes stamp line = record { entries = []; looks = []; objects = []; skips = []; bases = []; writes = record { stamp = stamp; line = line } ∷ [] }

-- what holds of the write's note holds of each
of_write : (P : (k : NoteKind) → NoteOf k → Type 0) (n : WriteNote) → P WriteNotes n → (k : NoteKind)
    → AllByRecursion (P k) (list_of k (write_notes n.stamp n.line))
of_write P n holds WriteNotes = (holds, tt)
of_write P n holds k = tt

write_joins : (notes : NotesOf) (stamp : ℕ) (line : ClockLine) → with_write_note notes stamp line ≡ both_noted notes (write_notes stamp line)
write_joins notes stamp line =
    notes_same (with_write_note notes stamp line) (both_noted notes (write_notes stamp line)) (sym (append-nil notes.entries))
    (sym (append-nil notes.looks)) (sym (append-nil notes.objects)) (sym (append-nil notes.skips)) (sym (append-nil notes.bases)) refl

-- such a run has no fewer writes
writes_within : (e : Ending) (ws : List Write) → GoesOnClock ws e → length ws ≤ length e.run.clock
writes_within e ws on = omega (arith, length-map e.run.clock (λ (line : ClockLine). line.write), ap length on.1, length-append ws on.0)

-- ---- a write that the clock refused

looks_same : {s : Script} (b m : LaneOf) → m.pass ≡ b.pass → m.notes ≡ b.notes → LooksOnly s b m
looks_same b m same notes = looks_alone (begins_same (ap (λ (p : WorldPass). p.timers.known.seen) same)) (ap (λ (p : WorldPass). p.timers.known.mine) same)
    (ap (λ (p : WorldPass). p.objects) same) (clock_left (ap (λ (p : WorldPass). p.clock) same)) (ap (λ (p : WorldPass). p.signals) same) notes

-- law: it is kept, by a lane that has taken its reading
refused_kept : {s : Script} {x : WorldOf} {b m : LaneOf} {write : Write} (next : IsNextCall s x b (calls.Clock write)) (fault : ClockFault)
    → IsRefusedAs {T = ClockReading} (seen_reading m.pass.clock.knows) write (Err fault) → m.pass ≡ b.pass → m.notes ≡ b.notes
    → KeepsCall s b (calls.Clock write) (write_told (Err fault)) m
refused_kept {b = b} {m = m} {write = write} next (faults.ClockRange would_be) refused same notes =
    let ws = writes m.pass.clock.knows in
    let cause = (refused.range would_be).0 refl in
    keeps_sight next (answers.Range would_be) (looks_same b m same notes) (λ e. refl) (λ e follows joined has. record {
      counted = omega (arith, writes_within e ws follows.clock, follows.few);
      late = cause.1;
      greatest = cause.2 ∙ ap (λ r. greatest (after_write r write)) (sym (reading_of_seen e ws follows.clock));
    })
refused_kept {b = b} {m = m} next faults.ClockSpent refused same notes =
    let ws = writes m.pass.clock.knows in
    let full : last_stamp ≤ (seen_reading m.pass.clock.knows).stamp = refused.spent.0 refl in
    keeps_looking next answers.ClockSpent (looks_same b m same notes)
    (λ e follows joined has kept low. absurd (omega (arith, full, stamp_after ws, writes_within e ws follows.clock, follows.few)))

-- ---- one that it took

module _ (s : Script) (x : WorldOf) (l m : LaneOf) (write : Write) (next : IsNextCall s x l (calls.Clock write)) (r : ClockReading)
    (w : AcceptsWrite write l.pass.clock.knows m.pass.clock.knows r) (at : WritesAt l.pass.timers.known.seen m.pass.timers.known.seen r.stamp)
    (timers : LooksOn l.pass.timers.known m.pass.timers.known) (objects : m.pass.objects ≡ l.pass.objects)
    (signals : LeavesSignals l.pass m.pass) (notes : m.notes ≡ with_write_told l.notes l.label write (Ok r)) where
  abbrev p : WorldPass
  p = l.pass

  abbrev q : WorldPass
  q = m.pass

  abbrev ws : List Write
  ws = writes q.clock.knows

  abbrev line : ClockLine
  line = written_line l.label write r

  -- how many writes there were before, and the write's place among the entries of timers
  abbrev many : ℕ
  many = length w.adds.before

  abbrev place : ℕ
  place = length at.before

  abbrev receipt_of : PlacedEntry
  receipt_of = record { place = place; number = r.stamp; shown = OfRise 0 }

  abbrev did : Trace
  did = plain many place (length q.timers.known.seen) (Wrote r.stamp write ∷ [])

  number : many + 1 ≡ r.stamp
  number = omega (arith, w.count, ap length w.adds.last, length-append w.adds.before (write ∷ []))

  behind : length (writes p.clock.knows) ≤ many
  behind = begins_length w.adds.begins

  whole : q.timers.known.seen ≡ at.before ++ entries.Rise 0 ∷ at.seen.rest
  whole = at.seen.whole ∙ append_assoc at.before (entries.Rise 0 ∷ []) at.seen.rest

  there : slice_get q.timers.known.seen place ≡ Some (entries.Rise 0)
  there = ap (λ es. slice_get es place) whole ∙ at_seam at.before at.seen.rest (entries.Rise 0)

  low : length p.timers.known.seen ≤ place
  low = begins_length at.from

  high : place < length q.timers.known.seen
  high = slice_get_within q.timers.known.seen place (entries.Rise 0) there

  sees : SeesOn p q
  sees = record {
    timers = timers.seen;
    clock = w.adds.seen.each 0;
    objects = same_objects p q objects;
    opening = ap (λ o. o.knows.opening) objects;
    signals = begins_same (ap (λ u. turns u.knows) signals);
  }

  stands : StandAt q (log_of p q (receipt_of ∷ []) did [])
  stands = record {
    rise = (low, tt);
    below = (high, tt);
    made = (
      record {
        step = entries.Rise 0;
        there = there;
        owner = refl;
        number = ap (λ es. rises_of 0 (take place es) + 1) whole ∙ ap (λ es. rises_of 0 es + 1) (take-append_seam at.before (entries.Rise 0 ∷ at.seen.rest))
            ∙ at.count;
      },
      tt,
    );
    shows = λ e follows. (
      record {
        step = entries.Rise 0;
        there = ap (λ es. slice_get es place) follows.timers.1 ∙ at_left q.timers.known.seen follows.timers.0 place (entries.Rise 0) there;
        entry = refl;
      },
      tt,
    );
  }

  none_turned : TurnsPart s p.signals.knows q.signals.knows [] []
  none_turned = turns_none (ap (λ u. u.knows) signals)

  logged : IsRightLog (log_of p q (receipt_of ∷ []) did []) (seen_by p) (seen_by q)
  logged = record {
    forward = omega (arith, low, high);
    last = omega arith;
    inside = ((low, high), tt);
    entered = refl;
    reading = (behind, omega (arith, number, w.count));
    writes = (omega (arith, number), tt);
    clock_steps = (behind, (omega (arith, number), omega (arith, w.count)));
    move_steps = (omega arith, omega arith);
  }

  shown : reading_after (take r.stamp ws) ≡ r
  shown = ap (λ n. reading_after (take n ws)) w.count ∙ ap reading_after (take_all _ ws (omega arith)) ∙ sym w.shows

  took_kept : KeepsCall s l (calls.Clock write) (answers.Clock r.stamp) m
  took_kept = record {
    notes = receipt_of ∷ [];
    trace = did;
    turned = [];
    added = write_notes r.stamp line;
    sees = sees;
    joins = notes ∙ write_joins l.notes r.stamp line;
    bears = of_write (λ j n. label_of j n ≡ l.label) (record { stamp = r.stamp; line = line }) refl;
    tells = record {
      receipts = same_order refl;
      tells = record {
        writes = refl;
        looks = λ i. refl;
        objects = λ i. refl;
        skips = λ i. refl;
        writes_rise = (omega (arith, number), tt);
        looks_rise = λ i. tt;
        objects_rise = λ i. tt;
      };
    };
    few = omega arith;
    places = record {
      timers = λ i n. omega (arith, ap (count (is_place i n)) timers.mine);
      objects = λ i n. no_places (is_place i n) p.objects.knows.pass.mine q.objects.knows.pass.mine (ap (λ o. o.knows.pass.mine) objects);
      clock = λ n. ap (count (is_place 0 n)) w.place ∙ total-append (λ k. one_if (is_place 0 n k)) p.clock.knows.pass.mine ((0, r.stamp) ∷ []);
    };
    seen = of_write (λ j. IsNoteSeen j q (log_of p q (receipt_of ∷ []) did [])) (record { stamp = r.stamp; line = line }) (record {
      before = many;
      number = number;
      inside = (behind, omega (arith, number, w.count));
      there = subst (λ xs. slice_get xs many ≡ Some write) (sym w.adds.last) (at_seam w.adds.before [] write);
      shows = subst (ShowsReading line) (sym shown) (record { mono = refl; real = refl; boot = refl; changes = refl });
    });
    stand = stands;
    turns = record { rise = tt; each = tt; are = refl };
    turn_places = none_turned.mine;
    promised = promised_from next m (receipt_of ∷ []) did [] (answers.Clock r.stamp) logged
        (λ e follows joined has kept first. wrote_made r.stamp write kept (omega (arith, first, low)) (omega (arith, high)) (omega arith, tt));
  }

  -- its reading was right before it
  took_turn : KeepsTurn s l (calls.Clock write) (answers.Clock r.stamp) m
  unfolding took_kept
  took_turn = turn_by_itself took_kept (λ e follows has joined fits.
      let trace : (e.logs l.label).trace ≡ did = ap (λ (g : CallLog). g.trace) has.kept in record {
        moment = place;
        behind = low;
        no_later = omega (arith, ap (λ (t : Trace). t.first) trace);
        writes = writes_seen at.before joined (goes_before (record { rest = entries.Rise 0 ∷ at.seen.rest; whole = whole }) follows.timers) ∙ omega (arith, at.count, number, ap (λ (t : Trace). t.at) trace);
      })

-- law: a lane keeps a write of the clock
pub keeps_write : {s : Script} {x : WorldOf} {l m : LaneOf} {a : Answer} {write : Write} → IsNextCall s x l (calls.Clock write)
    → CallsWrite x l m a write → KeepsTurn s l (calls.Clock write) a m
keeps_write {s = s} {x = x} {l = l} {m = m} {write = write} next c =
    subst (λ a. KeepsTurn s l (calls.Clock write) a m) (sym c.told) (by_answer c.answer c.writes c.places c.notes)
  where
    by_answer : (answer : Result ClockReading ClockFault) → AnswersWrite write l.pass.clock.knows m.pass.clock.knows answer
        → HasPlace l.pass.timers.known m.pass.timers.known m.pass.clock.knows answer → m.notes ≡ with_write_told l.notes l.label write answer
        → KeepsTurn s l (calls.Clock write) (write_told answer) m
    by_answer (Ok r) w places notes = took_turn s x l m write next r w.ok places.place c.timers c.objects c.signals notes
    by_answer (Err fault) w places notes =
        let b : LaneOf = record { label = l.label; pass = m.pass; notes = m.notes } in
        let reads : ReadsFirst l b =
        record {
          label = refl;
          notes = notes;
          objects = c.objects;
          signals = c.signals;
          timers = c.timers;
          clock = w.err.looks;
          moment = places.refused;
        } in
        turn_read reads refl refl (refused_kept (next_begun reads next) fault w.err.cause refl refl)
