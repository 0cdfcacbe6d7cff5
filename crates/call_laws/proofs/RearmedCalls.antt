-- Calls on objects that may arm their timer again, as their lanes keep them: an acceptance, a read, and a gettime of either kind.
use Rattle.run_history.proofs.Reached.{arms_wider, sight_wider}
use Rattle.lane_notes.proofs.SeenMore.{goes_before}
use Rattle.std.proofs.Common.{◌≡◌, ◌≤◌, ℕ, Some, option_map, List, [], length, refl, sym, ap, subst}
use Rattle.ktime.specs.Readings.{ClockReading}
use Rattle.timer_setting.specs.declared.answers.AcceptAnswer.TheVariants as accept_answers
use Rattle.timer_setting.specs.declared.answers.AcceptAnswer.{AcceptAnswer}
use Rattle.timer_setting.specs.declared.object_call.ObjectReply.TheVariants as replies
use Rattle.timer_fd.specs.Steps.{count_length}
use Rattle.timer_setting.specs.declared.answers.GettimeAnswer.TheVariants as lefts
use Rattle.timer_setting.specs.declared.answers.ReadAnswer.TheVariants as read_answers
use Rattle.timer_setting.specs.declared.answers.ReadAnswer.{ReadAnswer}
use Rattle.timer_setting.specs.declared.object_call.ObjectCall.TheVariants as object_calls
use Rattle.timer_setting.specs.declared.arming.Arm.TheVariants as arms
use Rattle.timer_setting.specs.declared.arming.Arm.{Arm}
use Rattle.timer_objects.specs.Calls.{Accepts, Gettimes, RearmingMade, ReadsFd, rearming_call}
use Rattle.timer_objects.specs.Known.{decl_at}
use Rattle.timer_objects.specs.declared.answers.Gettime.TheVariants as gettimes
use Rattle.timer_objects.specs.declared.answers.Gettime.{Gettime}
use Rattle.timer_objects.specs.declared.object.Kind.TheVariants as over
use Rattle.timer_objects.specs.declared.wanting.Rearming.TheVariants as rearmings
use Rattle.record_text.specs.Replies.{answer_of_accept, answer_of_read}
use Rattle.record_text.specs.declared.record.AcceptReply.TheVariants as acceptances
use Rattle.record_text.specs.declared.record.AcceptReply.{AcceptReply}
use Rattle.record_text.specs.declared.record.Answer.TheVariants as answers
use Rattle.record_text.specs.declared.record.Answer.{Answer}
use Rattle.record_text.specs.declared.record.ObjectEntry.TheVariants as object_entries
use Rattle.record_text.specs.declared.record.ReadReply.TheVariants as reads
use Rattle.record_text.specs.declared.record.ReadReply.{ReadReply}
use Rattle.run_history.specs.Histories.{reading_at}
use Rattle.run_history.specs.Calls.{IsFd}
use Rattle.script_text.specs.Declarations.{base_of, kind_of}
use Rattle.script_text.specs.declared.script.Call.TheVariants as calls
use Rattle.script_text.specs.declared.script.Kind.TheVariants as kinds
use Rattle.script_text.specs.declared.script.Script.{Script}
use Rattle.run_history.proofs.ObjectsMade.{accept_made, gettime_made, read_made}
use Rattle.lane_notes.specs.Called.{accept_told, CalledThen, lane_caller, CallsObject, gettime_told, LaneOf, LeavesSignals, read_told, ReadsClock, with_done}
use Rattle.lane_notes.proofs.Kept.{IsNextCall, KeepsCall, Follows, seen_by}
use Rattle.lane_notes.specs.Worlds.{WorldOf}
use Rattle.call_laws.proofs.Sights.{keeps_full, keeps_same}
use Rattle.std.proofs.Common.{false, arith, le_refl}
use Rattle.ktime.specs.declared.mode.Mode.TheVariants as modes
use Rattle.timer_objects.specs.Calls.{wanted_by}
use Rattle.record_text.specs.declared.record.Armed.{Armed}
use Rattle.run_history.specs.Actions.{Action}
use Rattle.run_history.specs.Fits.{FitsCall}
use Rattle.run_history.specs.Receipts.{PlacedEntry}
use Rattle.run_history.specs.Runs.{witness_of, Ending, IsJoined, moves_spans}
use Rattle.run_history.specs.Truths.{sight_of}
use Rattle.run_history.proofs.Kept.{IsKept}
use Rattle.run_history.proofs.ObjectsMade.{IsRearmed, rearming_actions}
use Rattle.run_history.proofs.OthersMade.{plain}
use Rattle.base_row.specs.declared.log.Receipt.{Receipt}
use Rattle.timer_objects.specs.declared.log.ObjectReceipt.{ObjectReceipt}
use Rattle.pass_names.proofs.Passes.{begins_length, begins_refl}
use Rattle.call_laws.proofs.CallKept.{clock_left}
use Rattle.call_laws.proofs.Parts.{ClockHas, IsNotedAs, IsPart, noted_at}
use Rattle.call_laws.proofs.Noted.{notes_of}
use Rattle.lane_notes.proofs.Declared.{declared_base}
use Rattle.call_laws.proofs.ObjectMade.{has_begun, keeps_made, made_part, receipts, start_is, stop_first, stop_last, turn_found, turn_place}
use Rattle.call_laws.proofs.Rearmed.{like_restart, rearm_part, RearmPart, wanted_timely}
use Rattle.script_text.specs.declared.script.Call.{Call}
use Rattle.timer_objects.specs.declared.wanting.Rearming.{Rearming}
use Rattle.run_history.specs.ObjectCalls.{Arms}
use Rattle.record_text.specs.declared.record.ObjectEntry.{ObjectEntry}
use Rattle.timer_setting.specs.declared.object_call.ObjectReply.{ObjectReply}
use Rattle.lane_notes.specs.Objects.{accept_noted, arm_noted, object_entry_noted, read_noted, skip_generation}
use Rattle.run_history.specs.ObjectEntries.{accept_shown, arm_shown, read_shown}
use Rattle.timer_setting.specs.Kinds.{arm_told}
use Rattle.lane_notes.specs.Runs.{ShowsObjectCall}
use Rattle.std.proofs.Common.{None}
use Rattle.record_text.specs.declared.record.ClockLine.{ClockLine}

-- ---- a call that made an entry

-- as a line has the outcome of a start, so its history does
pub arm_back : (arm : Arm) → arm_shown (arm_noted arm) 0 ≡ arm_told arm
arm_back arms.NotAsked = refl
arm_back (arms.Armed generation) = refl
arm_back (arms.Unarmed stamp) = refl

module _ {s : Script} {x : WorldOf} {l : LaneOf} (m : LaneOf) {call : Call}
    (next : IsNextCall s x l call) {timer : ℕ} {reading : ClockReading} {log : List Receipt} {object_log : List ObjectReceipt}
    (reads : ReadsClock l.pass m.pass reading) (notes : m.notes ≡ with_done l.notes l.label log object_log) {r : Rearming} {reply : ObjectReply}
    (made : RearmingMade x.objects x.timers.about (lane_caller l.pass [] []) (lane_caller m.pass log object_log) timer r reading reply)
    (entry : Armed → ObjectEntry) where
  pub part : RearmPart s x l timer made.begun made.worked (decl_at x.objects timer).base reading made.arm log
  part =
      let object = made.enters.commits.state in
      rearm_part next timer reading (wanted_by r object reading) made.arm (wanted_timely r object reading) made.turn.begins.looks made.arms

  pub rearmed : {e : Ending} → Follows m.pass e → IsJoined s e
      → IsRearmed (witness_of s e) l.label (receipts m next made.enters made.turn part.does (begins_refl made.begun.seen)) reading.stamp
      (turn_place m next made.enters made.turn part.does (begins_refl made.begun.seen)) (length m.pass.timers.known.seen) timer [] (arm_noted made.arm)
      part.does.start (length made.enters.commits.adds.before)
  rearmed {e = e} follows joined = record {
    ns = part.ns;
    timely = part.timely;
    turn = has_begun m next made.enters made.turn part.does (begins_refl made.begun.seen) follows joined;
    arms = arms_wider (sight_of (witness_of s e) (length made.begun.seen) (length made.worked.seen))
        (sight_of (witness_of s e) (length made.begun.seen) (length m.pass.timers.known.seen))
        (sight_wider (witness_of s e) (le_refl (length made.begun.seen)) (begins_length made.turn.ends.looks.seen))
        s.limit timer modes.Keep part.ns reading.stamp
        (base_of (kind_of s timer)) (arm_noted made.arm) part.does.start (subst (λ b. Arms (sight_of (witness_of s e) (length made.begun.seen) (length made.worked.seen)) s.limit timer
        modes.Keep part.ns reading.stamp b (arm_noted made.arm) part.does.start) (declared_base s x timer next.world)
        (part.does.arms e joined (goes_before made.turn.ends.looks.seen follows.timers)));
    ends = length made.worked.seen;
    between = omega (
      arith,
      turn_found m next made.enters made.turn part.does (begins_refl made.begun.seen),
      begins_length part.does.part.1.enters.seen,
    );
    high = begins_length made.turn.ends.looks.seen;
    behind = stop_first m next made.enters made.turn part.does (begins_refl made.begun.seen);
    stops = stop_last m next made.enters made.turn part.does (begins_refl made.begun.seen);
    holds = start_is m next made.enters made.turn part.does (begins_refl made.begun.seen) follows joined false
        (like_restart x.timers.about made.worked timer made.arm _ made.bears);
  }

  module _ (noted : object_entry_noted (rearming_call r reading made.arm) reply ≡ Some (entry (arm_noted made.arm)))
      (no_skip : skip_generation (rearming_call r reading made.arm) reply ≡ None)
      (shows : (clock : List ClockLine)
      → ShowsObjectCall clock (rearming_call r (reading_at clock reading.stamp) made.arm) reply (entry (arm_noted made.arm))) where
    as_noted : IsNotedAs (ClockHas reading) (rearming_call r reading made.arm) reply (entry (arm_noted made.arm))
    as_noted = noted_at reading (λ r'. rearming_call r r' made.arm) reply (entry (arm_noted made.arm)) noted no_skip shows

    -- law: such a turn is a part of its call
    pub rearming_part : IsPart s (ClockHas reading) l.label l.pass.timers.known l.pass.objects m.pass.timers.known m.pass.objects
        (rearming_actions timer part.does.start (length made.enters.commits.adds.before) (entry (arm_noted made.arm)))
        (receipts m next made.enters made.turn part.does (begins_refl made.begun.seen)) (notes_of l.label log object_log)
    rearming_part = made_part m next made.enters made.turn part.does (begins_refl made.begun.seen) notes as_noted

    -- law: a lane keeps a call on an object that may arm the object's timer again and made an entry, where such calls fit
    pub keeps_rearming : LeavesSignals l.pass m.pass → (b : Answer)
        → ((e : Ending) (begin last : ℕ) (arm : Armed) (start : List Action) (stamp : ℕ) (notes : List PlacedEntry)
        → IsKept (witness_of s e) (moves_spans e) l.label
        (plain reading.stamp begin last (rearming_actions timer start stamp (entry arm))) notes call b (seen_by l.pass) (seen_by m.pass)
        → (moves_spans e).first l.label ≤ begin → IsRearmed (witness_of s e) l.label notes reading.stamp begin last timer [] arm start stamp
        → FitsCall (witness_of s e) l.label call b (seen_by l.pass) (seen_by m.pass))
        → KeepsCall s l call b m
    keeps_rearming signals b fits =
        keeps_made m next made.enters made.turn part.does (begins_refl made.begun.seen) notes as_noted reads signals b
        (λ e follows joined kept low. fits e _ _ (arm_noted made.arm) part.does.start _ _ kept low (rearmed follows joined))

-- ---- the calls

-- law: a lane keeps an acceptance
pub keeps_accept : {s : Script} {x : WorldOf} {l m : LaneOf} {a : Answer} {timer : ℕ} → IsNextCall s x l (calls.Accept timer)
    → CalledThen x l (calls.Accept timer) a m → KeepsCall s l (calls.Accept timer) a m
keeps_accept {s} {x} {l} {m} {a} {timer} next called = subst (λ b. KeepsCall s l (calls.Accept timer) b m) (sym called.1) (by_answer called.0 called.2)
  where
    accepted : (reply : AcceptReply) → accept_noted (accept_shown reply) ≡ Some reply
        → CallsObject x l m a (λ old new reading. RearmingMade x.objects x.timers.about old new timer rearmings.Accepting reading
        (replies.Accept (accept_shown reply))) → KeepsCall s l (calls.Accept timer) (answer_of_accept reply) m
    accepted reply back c =
        keeps_rearming m next c.reads c.notes c.does (λ arm. object_entries.Accept c.reading.stamp arm reply)
        (ap (option_map (λ (r : AcceptReply). object_entries.Accept c.reading.stamp (arm_noted c.does.arm) r)) back) refl (λ clock.
        ap (λ k. record { call = object_calls.Accept (reading_at clock c.reading.stamp) k; reply = replies.Accept (accept_shown reply) })
        (arm_back c.does.arm)) c.signals (answer_of_accept reply)
        (λ e begin last arm start stamp notes kept low rearmed. accept_made reply kept low rearmed)

    by_answer : (g : AcceptAnswer) → CallsObject x l m a (λ old new reading. Accepts x.objects x.timers.about old new timer reading g)
        → KeepsCall s l (calls.Accept timer) (accept_told g) m
    by_answer (accept_answers.Spent n) c =
        keeps_full next (answers.Spent n) timer n c.does (clock_left c.reads.same) c.signals c.notes (λ e. refl) (λ e saw. saw)
    by_answer (accept_answers.Accepted overrun) c = accepted (acceptances.Accepted overrun) refl c
    by_answer accept_answers.NoSignal c = accepted acceptances.NoSignal refl c

-- law: a lane keeps a read
pub keeps_read : {s : Script} {x : WorldOf} {l m : LaneOf} {a : Answer} {timer len : ℕ} → IsNextCall s x l (calls.Read timer len)
    → CalledThen x l (calls.Read timer len) a m → KeepsCall s l (calls.Read timer len) a m
keeps_read {s} {x} {l} {m} {a} {timer} {len} next called =
    subst (λ b. KeepsCall s l (calls.Read timer len) b m) (sym called.1) (by_answer called.0 called.2)
  where
    read : (reply : ReadReply) → read_noted (read_shown reply) ≡ Some reply
        → CallsObject x l m a (λ old new reading. (count_length ≤ len)
        × RearmingMade x.objects x.timers.about old new timer rearmings.Reading reading (replies.Read (read_shown reply)))
        → KeepsCall s l (calls.Read timer len) (answer_of_read reply) m
    read reply back c =
        keeps_rearming m next c.reads c.notes c.does.1 (λ arm. object_entries.Read c.reading.stamp arm reply)
        (ap (option_map (λ (r : ReadReply). object_entries.Read c.reading.stamp (arm_noted c.does.1.arm) r)) back) refl (λ clock.
        ap (λ k. record { call = object_calls.Read (reading_at clock c.reading.stamp) k; reply = replies.Read (read_shown reply) })
        (arm_back c.does.1.arm)) c.signals (answer_of_read reply)
        (λ e begin last arm start stamp notes kept low rearmed. read_made len reply kept low rearmed c.does.0)

    by_answer : (g : ReadAnswer) → CallsObject x l m a (λ old new reading. ReadsFd x.objects x.timers.about old new timer len reading g)
        → KeepsCall s l (calls.Read timer len) (read_told g) m
    by_answer read_answers.ShortBuffer c =
        keeps_same next answers.Invalid c.does.1 (clock_left c.reads.same) c.signals c.notes (λ e. (refl, c.does.0)) (λ e. tt)
    by_answer (read_answers.Spent n) c =
        keeps_full next (answers.Spent n) timer n c.does.1 (clock_left c.reads.same) c.signals c.notes (λ e. (refl, c.does.0))
        (λ e saw. saw)
    by_answer (read_answers.Count total) c = read (reads.Count total) refl c
    by_answer read_answers.Canceled c = read reads.Canceled refl c
    by_answer read_answers.Again c = read reads.Again refl c

-- law: a lane keeps a gettime of a descriptor
pub keeps_gettime-fd : {s : Script} {x : WorldOf} {l m : LaneOf} {a : Answer} {timer base : ℕ} → IsNextCall s x l (calls.Gettime timer)
    → kind_of s timer ≡ kinds.Fd base → (g : Gettime)
    → CallsObject x l m a (λ old new reading. Gettimes x.objects x.timers.about old new timer reading over.Fd g × (a ≡ gettime_told over.Fd reading.stamp g))
    → KeepsCall s l (calls.Gettime timer) a m
keeps_gettime-fd {s = s} {l = l} {m = m} {timer = timer} next kind (gettimes.Spent n) c =
    subst (λ b. KeepsCall s l (calls.Gettime timer) b m) (sym c.does.1)
    (keeps_full next (answers.Spent n) timer n c.does.0 (clock_left c.reads.same) c.signals c.notes
    (λ e. (refl, subst IsFd (sym kind) tt)) (λ e saw. saw))
keeps_gettime-fd {s = s} {l = l} {m = m} {timer = timer} {base = base} next kind (gettimes.Left left interval stamp) c =
    subst (λ b. KeepsCall s l (calls.Gettime timer) b m) (sym c.does.1)
    (keeps_rearming m next c.reads c.notes c.does.0.0 (λ arm. object_entries.Gettime c.reading.stamp arm left interval) refl refl
    (λ clock. ap (λ k. record { call = object_calls.Gettime (reading_at clock c.reading.stamp) k; reply = (replies.Gettime (lefts.Left left interval)) })
    (arm_back c.does.0.0.arm)) c.signals
    (answers.Left left interval) (λ e begin last arm start stamp notes kept low rearmed. gettime_made base left interval kept low rearmed kind))
