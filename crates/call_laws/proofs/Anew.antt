-- A call on an object that arms the object's timer anew, as its lane keeps it: the disarming of the timer, its start, and the object's entry.
use Rattle.pass_names.specs.Passes.{Begins}
use Rattle.pass_names.proofs.Passes.{begins_trans, begins_length}
use Rattle.std.proofs.Common.{◌≡◌, ◌≤◌, ℕ, true, Option, None, Some, List, [], length, refl, sym, subst}
use Rattle.ktime.specs.Readings.{ClockReading}
use Rattle.seq_timer.specs.Histories.{IsIdle}
use Rattle.base_row.specs.declared.log.Receipt.{Receipt}
use Rattle.hr_timers.specs.Calls.{cancel_entries}
use Rattle.hr_timers.specs.Known.{KnownOfTimers, MadeAt, timer_then}
use Rattle.timer_setting.specs.declared.arming.Arm.{Arm}
use Rattle.timer_setting.specs.declared.arming.Wanted.{Wanted}
use Rattle.timer_setting.specs.declared.object_call.ObjectCall.{ObjectCall}
use Rattle.timer_setting.specs.declared.object_call.ObjectReply.{ObjectReply}
use Rattle.timer_objects.specs.Calls.{ArmsAnew}
use Rattle.timer_objects.specs.Known.{decl_at}
use Rattle.timer_objects.specs.declared.log.ObjectReceipt.{ObjectReceipt}
use Rattle.record_text.specs.declared.record.Answer.{Answer}
use Rattle.record_text.specs.declared.record.Armed.{Armed}
use Rattle.record_text.specs.declared.record.ObjectEntry.{ObjectEntry}
use Rattle.script_text.specs.Declarations.{base_of, kind_of}
use Rattle.script_text.specs.declared.script.Call.{Call}
use Rattle.script_text.specs.declared.script.Script.{Script}
use Rattle.run_history.specs.Actions.{Action}
use Rattle.run_history.specs.Fits.{FitsCall}
use Rattle.run_history.specs.ObjectCalls.{ArmsAs, cancels}
use Rattle.run_history.specs.Receipts.{PlacedEntry}
use Rattle.run_history.specs.Runs.{Ending, IsJoined, moves_spans, witness_of}
use Rattle.run_history.specs.Truths.{sight_of}
use Rattle.run_history.specs.Witnesses.{timer_along}
use Rattle.run_history.proofs.Kept.{IsKept}
use Rattle.run_history.proofs.ObjectsMade.{FoundIdle, IsAnew, anew_actions}
use Rattle.run_history.proofs.OthersMade.{plain}
use Rattle.run_history.proofs.Reached.{as_wider, sight_wider}
use Rattle.lane_notes.specs.Objects.{arm_noted}
use Rattle.lane_notes.specs.Called.{LaneOf, LeavesSignals, ReadsClock, lane_caller, with_done}
use Rattle.lane_notes.specs.Worlds.{WorldOf}
use Rattle.lane_notes.proofs.Declared.{declared_base}
use Rattle.lane_notes.proofs.Kept.{Follows, IsNextCall, KeepsCall, seen_by}
use Rattle.lane_notes.proofs.SeenMore.{begins_same, goes_before}
use Rattle.call_laws.proofs.Armed.{IsArmedSo, TimerPart, TimersPart, WantsAtMost, disarmed_part, start_at_most}
use Rattle.call_laws.proofs.ObjectMade.{has_begun, keeps_made, outcome_is, receipts, start_is, stop_begun, stop_first, stop_last, timer_found, turn_found, turn_place}
use Rattle.call_laws.proofs.Parts.{ClockHas, IsNotedAs}
use Rattle.call_laws.proofs.SettimeParts.{like_start}

module _ {s : Script} {x : WorldOf} {l : LaneOf} (m : LaneOf) {of : Call} (next : IsNextCall s x l of) {timer : ℕ} {reading : ClockReading}
    (reads : ReadsClock l.pass m.pass reading) (signals : LeavesSignals l.pass m.pass) {log : List Receipt} {object_log : List ObjectReceipt}
    (notes : m.notes ≡ with_done l.notes l.label log object_log) {call : Arm → ObjectCall} {wanted : Option Wanted} {reply : ObjectReply}
    (anew : ArmsAnew x.objects x.timers.about (lane_caller l.pass [] []) (lane_caller m.pass log object_log) timer call wanted reading reply)
    (may : Option Wanted) (wants : WantsAtMost wanted may) where
  abbrev w : KnownOfTimers
  w = anew.worked

  -- the moment at which the timer was found
  abbrev begin : KnownOfTimers
  begin = let v = anew.begun in record v { seen = anew.disarms.cancelled.at }

  disarmed : (cancel : Option (ℕ × ℕ)) × TimersPart s l reading begin anew.disarmed (cancels timer cancel) anew.cancel_log
      × (cancel ≡ None → IsIdle (timer_then x.timers.about begin.seen timer))
  disarmed =
      let d = anew.disarms in
      let c = d.cancelled in
      let made : MadeAt begin anew.disarmed timer begin.seen (cancel_entries d.answer) =
      record { from = begins_same refl; seen = c.made.seen; own = c.made.own; mine = c.made.mine; id = c.made.id } in
      disarmed_part next timer reading d.answer (record { at = begin.seen; made = made; fits = c.fits; claims = c.claims }) d.ended
      d.receipts

  part : TimerPart s x l timer begin w may (decl_at x.objects timer).base reading anew.arm disarmed.0 log
  part = start_at_most next timer reading anew.cancel_log (begins_trans anew.turn.begins.looks.seen anew.disarms.cancelled.made.from) anew.turn.begins.looks.mine
      disarmed.1 wants anew.arms

  -- it was found while the call had the object
  after : Begins anew.begun.seen begin.seen
  after = anew.disarms.cancelled.made.from

  module _ {e : Ending} (follows : Follows m.pass e) (joined : IsJoined s e) where
    is_anew : IsAnew (witness_of s e) l.label (receipts m next anew.enters anew.turn part after) reading.stamp
        (turn_place m next anew.enters anew.turn part after) (length m.pass.timers.known.seen) timer may disarmed.0 (arm_noted anew.arm) part.start
        (length anew.enters.commits.adds.before)
    is_anew =
        let off = sight_of (witness_of s e) (length begin.seen) (length w.seen) in
        record {
          turn = has_begun m next anew.enters anew.turn part after follows joined;
          arms = as_wider off (sight_of (witness_of s e) (length anew.begun.seen) (length m.pass.timers.known.seen))
              (sight_wider (witness_of s e) (begins_length after) (begins_length anew.turn.ends.looks.seen)) s.limit timer may
              reading.stamp (base_of (kind_of s timer)) (arm_noted anew.arm) part.start
              (subst (λ b. ArmsAs off s.limit timer may reading.stamp b (arm_noted anew.arm) part.start) (declared_base s x timer next.world)
              (part.arms e joined (goes_before anew.turn.ends.looks.seen follows.timers)));
          begun = length begin.seen;
          ends = length w.seen;
          from = turn_found m next anew.enters anew.turn part after;
          between = begins_length part.part.1.enters.seen;
          high = begins_length anew.turn.ends.looks.seen;
          behind = stop_first m next anew.enters anew.turn part after;
          begins = stop_begun m next anew.enters anew.turn part after;
          stops = stop_last m next anew.enters anew.turn part after;
          idle = found disarmed.0 disarmed.2;
          holds = start_is m next anew.enters anew.turn part after follows joined true (like_start x.timers.about w timer anew.arm _ anew.bears);
        }
      where
        found : (cancel : Option (ℕ × ℕ)) → (cancel ≡ None → IsIdle (timer_then x.timers.about begin.seen timer))
            → FoundIdle (witness_of s e) timer cancel (length begin.seen)
        found None idle = subst IsIdle (sym (timer_found m next anew.enters anew.turn part after follows joined)) (idle refl)
        found (Some cancel) idle = tt

  -- law: the lane keeps it, where such calls fit
  pub keeps_anew : (entry : Armed → ObjectEntry) → IsNotedAs (ClockHas reading) (call anew.arm) reply (entry (arm_noted anew.arm))
      → (a : Answer)
      → ((e : Ending) (begin last : ℕ) (cancel : Option (ℕ × ℕ)) (arm : Armed) (start : List Action) (stamp : ℕ) (notes : List PlacedEntry)
      → IsKept (witness_of s e) (moves_spans e) l.label (plain reading.stamp begin last (anew_actions timer cancel start stamp
      (entry arm))) notes of a
      (seen_by l.pass) (seen_by m.pass)
      → (moves_spans e).first l.label ≤ begin → (is : IsAnew (witness_of s e) l.label notes reading.stamp begin last timer may cancel arm start stamp)
      → IsArmedSo anew.arm (timer_along (witness_of s e) is.ends timer)
      → FitsCall (witness_of s e) l.label of a (seen_by l.pass) (seen_by m.pass))
      → KeepsCall s l of a m
  unfolding is_anew
  keeps_anew entry noted a fits =
      keeps_made m next anew.enters anew.turn part after notes noted reads signals a (λ e follows joined kept low.
      fits e _ _ disarmed.0 (arm_noted anew.arm) part.start _ _ kept low (is_anew follows joined)
      (outcome_is m next anew.enters anew.turn part after follows joined))
