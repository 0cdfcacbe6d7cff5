-- The record of the sorted notes has all that makes a run, and with where its calls stand by rounds and what its lanes promise it is that of a run.
use Rattle.std.proofs.Common.{take-append-drop, ℕ, suc, ◌+◌, List, [], ◌++◌, length, take, drop, arith, sym, ap, refl, ◌∙◌, ◌≤◌, subst}
use Rattle.std.proofs.lemmas.List.{append-nil, length-map}
use Rattle.record_text.specs.declared.record.Answer.{Answer}
use Rattle.record_text.specs.declared.record.ClockLine.{ClockLine}
use Rattle.record_text.specs.declared.record.Label.{Label}
use Rattle.script_text.specs.declared.script.Script.{Script}
use Rattle.lane_notes.specs.Notes.{NotesOf}
use Rattle.lane_notes.specs.Records.{record_from}
use Rattle.lane_notes.specs.Sorted.{IsSortedFrom}
use Rattle.run_history.specs.Runs.{CallLog, RoundStarts, Ending, IsEnding, IsRun}
use Rattle.lane_notes.proofs.Kept.{Follows}
use Rattle.lane_notes.proofs.Left.{AreLastOf, AreLeft, ending_of, AreByRounds}
use Rattle.lane_notes.specs.Worlds.{WorldOf}
use Rattle.lane_notes.specs.declared.lane.WorldPass.{WorldPass}
use Rattle.record_laws.proofs.ClockLines.{clock_accepted, clock_few, clock_goes_on, clock_in_span, clock_lines, clock_lines_long, clock_own}
use Rattle.record_laws.proofs.FiledNotes.{are_filed, filed_notes, receipts_inside}
use Rattle.record_laws.proofs.HungLines.{looks_own, skips_own, looks_under, skips_under}
use Rattle.record_laws.proofs.ObjectLines.{object_histories, object_lines_show, object_own}
use Rattle.timer_objects.specs.Known.{seen_of}
use Rattle.seq_timer.specs.Systems.{AreSystemSteps, first_system, openings}
use Rattle.base_row.specs.declared.view.Opening.{Opening}
use Rattle.lane_notes.proofs.Lists.{length-bases, length-objects, length-timers}
use Rattle.std.proofs.Common.{◌≡◌}
use Rattle.clock_cell.specs.Views.{writes}
use Rattle.signal_queue.specs.Rules.{turns}
use Rattle.signal_queue.specs.Turns.{waiting_after}
use Rattle.signal_queue.proofs.Turns.{whole}
use Rattle.run_history.specs.Signals.{most_signals, pop_counter, pops_at, push_counter, pushes_at}
use Rattle.record_laws.proofs.Signalled.{signals, signals_none, signals_own, signals_popped, signals_pushed, signals_queued}
use Rattle.base_row.specs.Rings.{KeepsRings, put_counter, taken_counter}
use Rattle.lane_notes.specs.Worlds.{opening_for}
use Rattle.pass_names.specs.Passes.{Begins}
use Rattle.seq_timer.specs.Systems.{rises_of}
use Rattle.seq_timer.specs.declared.system.SystemEntry.{SystemEntry}
use Rattle.run_history.specs.Promises.{HasLog}
use Rattle.run_history.specs.Histories.{clock_labels}
use Rattle.script_text.specs.Declarations.{declareds_of, terms_of}

-- behind each number of moves no more signals were popped than pushed, and no more waited than have room
record InBounds (s : Script) (order : List SystemEntry) (n : ℕ) : Type 0 where
  put_first : pops_at s order n ≤ pushes_at s order n
  room : pushes_at s order n ≤ pops_at s order n + most_signals

in_bounds : {s : Script} {x : WorldOf} {q : WorldPass} → AreLastOf s x q → (n : ℕ) → InBounds s q.timers.known.seen n
in_bounds {s = s} {x = x} {q = q} last n =
    let seen = q.timers.known.seen in
    let begins : Begins (take n seen) seen = record { rest = drop n seen; whole = sym (take-append-drop n seen) } in
    let kept = subst (λ o. KeepsRings o seen) last.of.world.timers last.of.passes.timers.knows.rings (take n seen) begins 0 (omega arith) in
    let put : put_counter (opening_for s) 0 ≡ push_counter s = omega arith in
    let taken : taken_counter (opening_for s) 0 ≡ pop_counter s = omega arith in
    let put_is = ap (λ k. rises_of k (take n seen)) put in
    let taken_is = ap (λ k. rises_of k (take n seen)) taken in
    record { put_first = omega (arith, kept.put_first, put_is, taken_is); room = omega (arith, kept.room, put_is, taken_is) }

module _ {s : Script} {x : WorldOf} {q : WorldPass} {notes sorted : NotesOf} {logs : Label → CallLog} (last : AreLastOf s x q) (left : AreLeft s q notes logs)
    (is : IsSortedFrom notes sorted) (answers : List (List Answer)) (starts : RoundStarts) where
  abbrev e : Ending
  e = ending_of (record_from s.version sorted s.bases (length s.timers) answers) q (signals last left) logs starts

  -- a run with this record goes on from what the last passes have seen, which is all
  follows : Follows q e
  follows = record {
    few = clock_few last left is;
    timers = ([], sym (append-nil q.timers.known.seen));
    clock = clock_goes_on last left is e refl;
    objects = λ i. record {
      history = seen_of q.objects i;
      goes_on = record { rest = []; whole = sym (append-nil (seen_of q.objects i)) };
      lines = object_lines_show last left is answers starts i;
    };
  }

  -- law: it has of each call what its lane kept
  has : (c : Label) → HasLog e c (logs c)
  has c = record {
    kept = refl;
    clock = clock_own last left is c;
    looks = looks_own last left is answers c;
    objects = object_own last left is answers c;
    skips = skips_own last left is answers c;
    signals = signals_own last left c;
  }

  -- the clock has as many lines as writes were seen
  clock_long : length (clock_labels e.run) ≡ length (writes q.clock.knows)
  clock_long = length-map (clock_lines last left is) (λ (line : ClockLine). line.label) ∙ clock_lines_long last left is

  module _ (rounds : AreByRounds s q logs starts answers) where
    -- law: so it has the parts that make a run
    pub is_ending : IsEnding s e
    is_ending = record {
      history = subst (λ n. AreSystemSteps s.bases n (first_system (openings (declareds_of s) (terms_of s))) q.timers.known.seen)
          (length-map (declareds_of s) _)
          (subst (λ (o : Opening). AreSystemSteps o.bases (length o.timers) (first_system o.timers) q.timers.known.seen) last.of.world.timers
          last.of.passes.timers.knows.history);
      sorted = filed_notes last left is answers;
      filed = are_filed last left is answers;
      entries = λ c. (left.stand c).shows e follows;
      ledger = rounds.moves e.run e.signals;
      whole = rounds.moves_most;
      inside = receipts_inside last left is answers;
      clock_laid = record {
        inside = clock_in_span last left is;
        ledger = rounds.clock e.run e.signals;
        most = λ c label. subst (λ n. (logs c).clock.1 ≤ n) (sym clock_long) (rounds.clock_most c label);
      };
      writes = clock_accepted last left is;
      signals = record {
        legal = record {
          others = λ i less. signals_none last left (suc i) (λ same. omega (arith, same, less)) (λ same. omega (arith, same, less));
          waiting = waiting_after [] (turns q.signals.knows);
          in_turn = signals_pushed last left ∙ whole q.signals.knows.room [] (turns q.signals.knows) last.of.passes.queue.legal
              ∙ ap (λ xs. xs ++ waiting_after [] (turns q.signals.knows)) (sym (signals_popped last left));
          pushed_first = λ n. (in_bounds last n).put_first;
          room = λ n. (in_bounds last n).room;
        };
        of = signals_queued last left;
      };
      object_histories = object_histories last left is answers starts;
      looks = looks_under last left is answers;
      skips = skips_under last left is answers;
      bases = length-bases s.version sorted s.bases (length s.timers) answers;
      timers = length-timers s.version sorted s.bases (length s.timers) answers;
      objects = length-objects s.version sorted s.bases (length s.timers) answers;
      lanes = rounds.lanes;
      version = refl;
      calls = λ lane joined. rounds.calls e follows has joined lane;
    }

    -- law: the record may be left by a run
    pub is_run : IsRun s e.run
    is_run = (e, refl, is_ending)
