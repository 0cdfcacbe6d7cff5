-- A call with its reading: what a lane keeps of the call by itself, behind the reading, it keeps in its turn.
use Rattle.std.proofs.Common.{◌≡◌, ◌≤◌, ℕ, true, false, Some, List, [], ◌∷◌, length, map, take, arith, refl, sym, ap, ◌∙◌, subst}
use Rattle.std.specs.Prelude.{MatchBool}
use Rattle.std.proofs.Math.Seq.{take-append_seam}
use Rattle.clock_cell.specs.Views.{writes}
use Rattle.pass_names.proofs.Passes.{begins_length, begins_refl}
use Rattle.seq_timer.specs.Systems.{rises_of}
use Rattle.seq_timer.specs.declared.system.SystemEntry.{SystemEntry}
use Rattle.record_text.specs.declared.record.Answer.{Answer}
use Rattle.record_text.specs.declared.record.Label.{Label}
use Rattle.std.specs.List.{slice_get}
use Rattle.run_history.specs.Actions.{wrote}
use Rattle.run_history.specs.Calls.{reads_clock}
use Rattle.run_history.specs.Fits.{FitsCall, HasRead, ReadsInTurn}
use Rattle.run_history.specs.Order.{calls_of, NeverFall}
use Rattle.run_history.specs.Promises.{RunGoesOn, HasLog}
use Rattle.run_history.specs.Runs.{Ending, IsJoined, witness_of}
use Rattle.run_history.specs.Witnesses.{writes_along}
use Rattle.run_history.proofs.Promise.{seen_first}
use Rattle.script_text.specs.declared.script.Call.{Call}
use Rattle.script_text.specs.declared.script.Script.{Script}
use Rattle.lane_notes.proofs.Kept.{Follows, IsNextCall, KeepsCall, KeepsTurn, log_of, seen_by}
use Rattle.lane_notes.proofs.SeenMore.{begins_same, goes_before}
use Rattle.signal_queue.specs.Rules.{turns}
use Rattle.lane_notes.specs.Called.{LaneOf, ReadsFirst}
use Rattle.lane_notes.specs.Worlds.{WorldOf}
use Rattle.call_laws.proofs.CallKept.{same_objects}

-- ---- the order's writes

-- law: of the first entries, which a pass has seen, as many are writes as were seen
pub writes_seen : {s : Script} {e : Ending} (seen : List SystemEntry) → IsJoined s e → (goes : RunGoesOn seen e)
    → writes_along (witness_of s e) (length seen) ≡ rises_of 0 seen
writes_seen seen joined goes =
    ap (λ es. rises_of 0 (take (length seen) es)) (seen_first seen joined goes) ∙ ap (rises_of 0) (take-append_seam seen goes.0)

-- numbers that never fall stay below the last
falls_below : (n : ℕ) (ns : List ℕ) (to : ℕ) → NeverFall n ns to → n ≤ to
falls_below n [] to fall = fall
falls_below n (m ∷ ns) to fall = omega (arith, fall.0, falls_below m ns to fall.1)

-- ---- a call's turn

-- law: it is the next call still
pub next_begun : {s : Script} {x : WorldOf} {l b : LaneOf} {call : Call} → ReadsFirst l b → IsNextCall s x l call → IsNextCall s x b call
next_begun {s = s} reads next = record {
  world = next.world;
  range = next.range;
  whole = next.whole;
  objects = ap (λ o. o.knows.opening) reads.objects ∙ next.objects;
  at = next.at;
  there = subst (λ (c : Label). slice_get (calls_of s c.lane) c.call ≡ Some next.at) (sym reads.label) next.there;
  is = next.is;
}

-- law: a call that takes no reading is kept in its turn as by itself, and so is one whose reading is shown
pub turn_by_itself : {s : Script} {l m : LaneOf} {call : Call} {a : Answer} (kept : KeepsCall s l call a m)
    → ((e : Ending) → Follows m.pass e → HasLog e l.label (log_of l.pass m.pass kept.notes kept.trace kept.turned) → IsJoined s e
    → FitsCall (witness_of s e) l.label call a (seen_by l.pass) (seen_by m.pass) → ReadsInTurn (witness_of s e) l.label call (length l.pass.timers.known.seen))
    → KeepsTurn s l call a m
turn_by_itself {l = l} kept read = record {
  begun = l;
  label = refl;
  notes = refl;
  sees = record {
    timers = begins_refl l.pass.timers.known.seen;
    clock = begins_refl (writes l.pass.clock.knows);
    objects = same_objects l.pass l.pass refl;
    opening = refl;
    signals = begins_refl (turns l.pass.signals.knows);
  };
  timers = refl;
  objects = refl;
  clock = refl;
  signals = refl;
  kept = kept;
  read = read;
}

-- law: the call takes no reading
pub turn_plain : {s : Script} {l m : LaneOf} {call : Call} {a : Answer} → reads_clock call ≡ false → KeepsCall s l call a m → KeepsTurn s l call a m
turn_plain {s = s} {l = l} not kept =
    turn_by_itself kept (λ e follows has joined fits. subst (λ b. MatchBool b (HasRead (witness_of s e) l.label (length l.pass.timers.known.seen)) Unit) (sym not) tt)

-- law: it takes one first
pub turn_read : {s : Script} {l b m : LaneOf} {call : Call} {a : Answer} (reads : ReadsFirst l b) → reads_clock call ≡ true → m.pass.clock ≡ b.pass.clock
    → KeepsCall s b call a m → KeepsTurn s l call a m
turn_read {s = s} {l = l} {b = b} {m = m} {call = call} {a = a} reads takes same kept =
    let moment = reads.moment in
    record {
      begun = b;
      label = reads.label;
      notes = reads.notes;
      sees = record {
        timers = reads.timers.seen;
        clock = reads.clock.seen.each 0;
        objects = same_objects l.pass b.pass reads.objects;
        opening = ap (λ o. o.knows.opening) reads.objects;
        signals = begins_same (ap (λ u. turns u.knows) reads.signals);
      };
      timers = reads.timers.mine;
      objects = ap (λ o. o.knows.pass.mine) reads.objects;
      clock = reads.clock.mine;
      signals = reads.signals;
      kept = kept;
      read = λ e follows has joined fits.
          let w = witness_of s e in
          let at = (w.traces l.label).at in
          let none_more : length (writes m.pass.clock.knows) ≡ length (writes b.pass.clock.knows) = ap (λ c. length (writes c.knows)) same in
          subst (λ q. MatchBool q (HasRead w l.label (length l.pass.timers.known.seen)) Unit) (sym takes) (record {
            moment = length moment.at;
            behind = begins_length moment.from;
            no_later = omega (arith, begins_length moment.seen, fits.move_steps.0);
            writes = writes_seen moment.at joined (goes_before moment.seen (goes_before kept.sees.timers follows.timers))
                ∙ omega (
                  arith,
                  moment.count,
                  none_more,
                  fits.clock_steps.0,
                  falls_below at (map (λ x. x.0) (wrote (w.traces l.label).actions)) (length (writes m.pass.clock.knows)) fits.clock_steps.1,
                );
          });
    }
