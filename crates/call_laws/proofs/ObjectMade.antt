-- A call on an object that made an entry, as its lane keeps it: its turn began; it found the object's timer, perhaps cancelled and perhaps started it; and then
-- it made the entry.
use Rattle.call_laws.proofs.Parts.{ClockHas}
use Rattle.call_laws.proofs.Entering.{EntersOne}
use Rattle.call_laws.proofs.Noted.{HasNoTurns, no_signals, notes_of, notes_of-append, same_notes, whole_turn, with_done-joins}
use Rattle.call_laws.proofs.Parts.{IsPart, part_began, part_made, part_noted, part_none, part_then}
use Rattle.call_laws.proofs.Stays.{timer_stays}
use Rattle.std.proofs.Common.{◌≤◌, ◌<◌, ◌≡◌, ℕ, suc, ◌+◌, Option, None, Some, List, [], length, arith, refl, sym, ap, ◌∙◌, subst, Bool, ◌∷◌, ◌++◌}
use Rattle.ktime.specs.Readings.{ClockReading}
use Rattle.base_row.specs.declared.log.Receipt.{Receipt}
use Rattle.hr_timers.specs.Known.{KnownOfTimers, timer_then}
use Rattle.timer_objects.specs.Calls.{phase_of, EntersCall}
use Rattle.timer_objects.specs.Known.{seen_of}
use Rattle.timer_objects.specs.Steps.{object_step}
use Rattle.timer_objects.specs.declared.log.ObjectReceipt.{ObjectReceipt}
use Rattle.record_text.specs.declared.record.Answer.{Answer}
use Rattle.record_text.specs.declared.record.ObjectEntry.{ObjectEntry}
use Rattle.run_history.specs.Objects.{armed_in_phase}
use Rattle.script_text.specs.declared.script.Script.{Script}
use Rattle.lane_notes.specs.Objects.{arm_noted}
use Rattle.run_history.specs.Runs.{witness_of, Ending, IsJoined, moves_spans}
use Rattle.run_history.specs.Truths.{IsTrueStart, sight_of}
use Rattle.run_history.specs.Actions.{Began}
use Rattle.run_history.specs.Witnesses.{OfRise}
use Rattle.run_history.specs.Promises.{RunGoesOn}
use Rattle.run_history.specs.Receipts.{PlacedEntry}
use Rattle.run_history.specs.ObjectCalls.{HasBegun, cancels}
use Rattle.run_history.proofs.Known.{AreMade, behind_all, made-append, made_goes_on}
use Rattle.timer_objects.specs.Turns.{HasTurn}
use Rattle.pass_names.specs.Passes.{Begins}
use Rattle.call_laws.proofs.ObjectTurns.{enters_entry, enters_turn, turn_begun}
use Rattle.run_history.proofs.ObjectsMade.{anew_actions}
use Rattle.run_history.proofs.OthersMade.{plain}
use Rattle.call_laws.proofs.Signals.{turns_alone}
use Rattle.lane_notes.specs.Called.{LeavesSignals}
use Rattle.lane_notes.specs.Called.{lane_caller, LaneOf, ReadsClock, with_done}
use Rattle.lane_notes.proofs.Kept.{Follows, IsNextCall, KeepsCall, seen_by}
use Rattle.lane_notes.proofs.SeenMore.{goes_before}
use Rattle.lane_notes.specs.Worlds.{WorldOf}
use Rattle.pass_names.proofs.Passes.{begins_length, begins_trans}
use Rattle.timer_setting.specs.declared.arming.Arm.{Arm}
use Rattle.timer_setting.specs.declared.object_call.ObjectReply.{ObjectReply}
use Rattle.timer_setting.specs.declared.object_call.ObjectCall.{ObjectCall}
use Rattle.script_text.specs.declared.script.Call.{Call}
use Rattle.run_history.specs.Fits.{FitsCall}
use Rattle.run_history.proofs.Kept.{IsKept, Stops}
use Rattle.timer_setting.specs.declared.arming.Wanted.{Wanted}
use Rattle.run_history.specs.Witnesses as witnesses
use Rattle.run_history.specs.Witnesses.{turns_along}
use Rattle.call_laws.proofs.Armed.{IsArmedSo, IsLike, start_true, TimerPart}
use Rattle.call_laws.proofs.CallKept.{clock_left, reading_goes_on}
use Rattle.call_laws.proofs.PartKept.{keeps_part}
use Rattle.call_laws.proofs.Parts.{IsNotedAs}
use Rattle.std.proofs.lemmas.List.{append-nil}
use Rattle.timer_objects.specs.Steps.{object_answer}
use Rattle.lane_notes.specs.Runs.{ObjectMove}
use Rattle.std.proofs.Common.{length-append}
use Rattle.std.specs.List.{AllByRecursion}
use Rattle.counted_row.specs.Views.{StateAfter}
use Rattle.counted_row.proofs.Histories.{after_push}
use Rattle.timer_objects.specs.Meaning.{object_meaning, opened_objects}
use Rattle.timer_objects.specs.declared.object.Object.{Object}
use Rattle.run_history.specs.Objects.{object_armed_after}
use Rattle.script_text.specs.Declarations.{kind_of}
use Rattle.script_text.specs.declared.script.Kind.TheVariants as kinds
use Rattle.script_text.specs.declared.script.Kind.{Kind}
use Rattle.record_text.specs.declared.record.RunRecord.{RunRecord}
use Rattle.lane_notes.proofs.ObjectSeen.{object_after, object_seen}
use Rattle.timer_setting.specs.declared.phase.Phase.{Phase}

-- how an object after its first so many entries has armed its timer
armed_after : (s : Script) (r : RunRecord) (i n : ℕ) (k : Kind) → object_armed_after s r i n k ≡ armed_in_phase (phase_of (object_after s r i n k))
armed_after s r i n (kinds.Raw context callback) = refl
armed_after s r i n k = refl

module _ {s : Script} {x : WorldOf} {l : LaneOf} (m : LaneOf) {call : Call} (next : IsNextCall s x l call) {timer : ℕ} {log : List Receipt}
    {object_log : List ObjectReceipt} {made : ObjectCall} {reply : ObjectReply}
    (enters : EntersCall x.objects (lane_caller l.pass [] []) (lane_caller m.pass log object_log) timer made reply)
    {begun w : KnownOfTimers} (turn : HasTurn timer (length enters.commits.adds.before) l.pass.timers.known begun w m.pass.timers.known) {wanted : Option Wanted} {base : ℕ}
    {reading : ClockReading} {arm : Arm} {cancel : Option (ℕ × ℕ)} {begin : KnownOfTimers}
    (k : TimerPart s x l timer begin w wanted base reading arm cancel log) (behind : Begins begun.seen begin.seen) where
  -- how many entries the object had, and the number of the call's
  abbrev stamp : ℕ
  stamp = length enters.commits.adds.before

  abbrev number : ℕ
  number = stamp + 1

  -- the entry, and the object's phase behind it
  abbrev step : ObjectMove
  step = record { call = made; reply = object_answer enters.commits.state made }

  abbrev phase : Phase
  phase = phase_of (object_step enters.commits.state made)

  -- the receipts of the call: that of its turn's beginning, those of its part of the timer, and that of the object's entry
  abbrev opens : EntersOne s (ClockHas reading) l.pass.timers.known begun (stamp + stamp + 1, OfRise (suc timer))
  opens = enters_turn turn s (ClockHas reading)

  abbrev closes : EntersOne s (ClockHas reading) w m.pass.timers.known (number + number, OfRise (suc timer))
  closes = enters_entry turn s (ClockHas reading)

  abbrev pub receipts : List PlacedEntry
  receipts = opens.0 ∷ k.part.0 ++ closes.0 ∷ []

  -- where the turn begins
  abbrev pub turn_place : ℕ
  turn_place = opens.0.place

  pub turn_found : turn_place ≤ length begin.seen
  turn_found = omega (arith, opens.1.made.below.0, begins_length behind)

  turn_from : length l.pass.timers.known.seen ≤ turn_place
  turn_from = opens.1.made.rise.0

  -- the receipts behind it
  made_then : AreMade m.pass.timers.known.seen (length begin.seen) (length m.pass.timers.known.seen) (k.part.0 ++ closes.0 ∷ [])
  made_then = made-append m.pass.timers.known.seen (length begin.seen) (length w.seen) (length m.pass.timers.known.seen) k.part.0 (closes.0 ∷ [])
      (made_goes_on m.pass.timers.known.seen w.seen turn.ends.looks.seen.rest (length begin.seen) (length w.seen) k.part.0 turn.ends.looks.seen.whole
      k.part.1.enters.made) closes.1.made (begins_length k.part.1.enters.seen) (begins_length turn.ends.looks.seen)

  -- law: they stand where the turn begins and behind that; those of the timer behind where the call found it, and before the object's
  pub stop_first : AllByRecursion (λ y. turn_place ≤ y.place) receipts
  stop_first = (omega arith, behind_all turn_place (length begin.seen) (k.part.0 ++ closes.0 ∷ []) turn_found made_then.rise)

  pub stop_begun : Stops l.label receipts (Began timer stamp ∷ []) (length begin.seen)
  stop_begun = record {
    early = opens.0 ∷ [];
    late = k.part.0 ++ closes.0 ∷ [];
    split = refl;
    are = ap (λ r. r ∷ []) opens.2;
    below = (omega (arith, opens.1.made.below.0, begins_length behind), tt);
    behind = behind_all (length begin.seen) (length begin.seen) (k.part.0 ++ closes.0 ∷ []) (omega arith) made_then.rise;
  }

  pub stop_last : Stops l.label receipts (Began timer stamp ∷ cancels timer cancel ++ k.start) (length w.seen)
  stop_last = record {
    early = opens.0 ∷ k.part.0;
    late = closes.0 ∷ [];
    split = refl;
    are = (λ i. opens.2 i ∷ k.part.1.are i);
    below = (omega (arith, opens.1.made.below.0, begins_length behind, begins_length k.part.1.enters.seen), k.part.1.enters.made.below);
    behind = (closes.1.made.rise.0, tt);
  }

  -- ---- in a run that goes on from there

  module _ {e : Ending} (follows : Follows m.pass e) (joined : IsJoined s e) where
    worked : RunGoesOn w.seen e
    worked = goes_before turn.ends.looks.seen follows.timers

    pub begun_behind : turn_place ≤ length begun.seen
    begun_behind = omega (arith, opens.1.made.below.0)

    pub begun_there : stamp + stamp < turns_along (witness_of s e) (length begun.seen) timer
    begun_there = omega (arith, turn_begun turn joined (goes_before (begins_trans behind k.part.1.enters.seen) worked))

    -- law: behind the rise that begins it the call has its turn
    abbrev pub has_begun : HasBegun (sight_of (witness_of s e) turn_place (length m.pass.timers.known.seen)) timer stamp
    has_begun = record { begun = length begun.seen; from = begun_behind; turn = begun_there }

    timer_now : witnesses.timer_along (witness_of s e) (length w.seen) timer ≡ timer_then x.timers.about w.seen timer
    timer_now = timer_stays next.world.timers joined w.seen worked timer

    -- law: a timer as the lane knew it where the call found it is the script's
    pub timer_found : witnesses.timer_along (witness_of s e) (length begin.seen) timer ≡ timer_then x.timers.about begin.seen timer
    timer_found = timer_stays next.world.timers joined begin.seen (goes_before k.part.1.enters.seen worked) timer

    -- law: what became of its start
    pub outcome_is : IsArmedSo arm (witnesses.timer_along (witness_of s e) (length w.seen) timer)
    outcome_is = subst (IsArmedSo arm) (sym timer_now) k.armed

    -- the object after the entry is the record's
    phase_is : object_armed_after s e.run timer number (kind_of s timer) ≡ armed_in_phase phase
    phase_is =
        let opened = opened_objects x.objects.decls x.objects.limit in
        let before = enters.commits.adds.before in
        let now : Object = object_step enters.commits.state made in
        let at = subst (λ cells. StateAfter object_meaning cells timer before enters.commits.state) next.objects enters.commits.at in
        let after = subst (λ ys. StateAfter object_meaning opened timer ys now) (sym enters.commits.adds.last)
        (after_push object_meaning opened timer before step enters.commits.state at enters.may refl) in
        let count : length (seen_of m.pass.objects timer) ≡ number =
        omega (arith, ap length enters.commits.adds.last, length-append before (step ∷ [])) in
        armed_after s e.run timer number (kind_of s timer)
        ∙ ap (λ n. armed_in_phase (phase_of (object_after s e.run timer n (kind_of s timer)))) (sym count)
        ∙ ap (λ o. armed_in_phase (phase_of o)) (sym (object_seen s x next.world timer (seen_of m.pass.objects timer) now after e (follows.objects timer)))

    -- law: the object's entry tells the truth of it, where the object's phase bears it
    pub start_is : (on_clock : Bool) → IsLike on_clock arm (armed_in_phase phase) (timer_then x.timers.about w.seen timer)
        → IsTrueStart (witness_of s e) timer number on_clock (arm_noted arm) (length w.seen)
    start_is on_clock like =
        start_true (witness_of s e) timer number (length w.seen) on_clock arm outcome_is
        (subst (λ o. IsLike on_clock arm o (witnesses.timer_along (witness_of s e) (length w.seen) timer)) (sym phase_is)
        (subst (IsLike on_clock arm (armed_in_phase phase)) (sym timer_now) like))

  -- ---- the call

  no_turns : (cancel : Option (ℕ × ℕ)) → HasNoTurns (cancels timer cancel ++ k.start)
  no_turns None = k.no_turns
  no_turns (Some one) = k.no_turns

  module _ (notes : m.notes ≡ with_done l.notes l.label log object_log) {entry : ObjectEntry} (noted : IsNotedAs (ClockHas reading) made reply entry) where
    -- law: a turn with an entry is a part of its call
    pub made_part : IsPart s (ClockHas reading) l.label l.pass.timers.known l.pass.objects m.pass.timers.known m.pass.objects
        (anew_actions timer cancel k.start stamp entry) receipts (notes_of l.label log object_log)
    made_part =
        let p = l.pass in
        let q = m.pass in
        let receipt_of : ObjectReply → ObjectReceipt = λ r. record { object = timer; number = number; call = made; reply = r } in
        let this = receipt_of step.reply ∷ [] in
        let log_is : object_log ≡ this = enters.object_log ∙ ap (λ r. receipt_of r ∷ []) enters.reply in
        let entered = part_made {label = l.label} {q = q.objects} {step = step} enters.commits.adds enters.commits.opening
        (subst (λ r. IsNotedAs (ClockHas reading) made r entry) enters.reply noted) closes in
        let found = part_none {v = begun} {p = p.objects} {w = begin} behind (k.mine ∙ sym turn.begins.looks.mine) in
        let whole = part_then (part_began timer stamp opens) (part_then found (part_then k.part.1 entered)) in
        part_noted (same_notes (ap (notes_of l.label log) log_is ∙ ap (λ rs. notes_of l.label rs this) (sym (append-nil log))
        ∙ notes_of-append l.label log [] [] this)) whole

    -- law: a lane keeps the call, where it fits
    pub keeps_made : ReadsClock l.pass m.pass reading → LeavesSignals l.pass m.pass → (a : Answer)
        → ((e : Ending) → Follows m.pass e → IsJoined s e → IsKept (witness_of s e) (moves_spans e) l.label
        (plain reading.stamp turn_place (length m.pass.timers.known.seen) (anew_actions timer cancel k.start stamp entry)) receipts call a
        (seen_by l.pass) (seen_by m.pass) → (moves_spans e).first l.label ≤ turn_place
        → FitsCall (witness_of s e) l.label call a (seen_by l.pass) (seen_by m.pass))
        → KeepsCall s l call a m
    keeps_made reads signals a fits =
        let its = anew_actions timer cancel k.start stamp entry in
        keeps_part next m a (plain reading.stamp turn_place (length m.pass.timers.known.seen) its) made_part
        (reading_goes_on l.pass m.pass reading reads) (clock_left reads.same) (notes ∙ with_done-joins l.notes l.label log object_log) refl reads.count
        (whole_turn timer stamp entry (cancels timer cancel ++ k.start) (no_turns cancel))
        (turns_alone l.pass m.pass its signals (no_signals timer stamp entry (cancels timer cancel ++ k.start) (no_turns cancel)))
        (λ e follows joined has kept low. fits e follows joined kept (omega (arith, turn_from, low)))
