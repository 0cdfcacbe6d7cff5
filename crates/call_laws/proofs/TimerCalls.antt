-- Cancels and starts of timers by themselves, as their lanes keep them.
use Rattle.call_laws.proofs.Starts.{entries_so, told_so}
use Rattle.call_laws.proofs.Parts.{ClockHas}
use Rattle.std.proofs.Common.{◌≡◌, ◌<◌, ℕ, ◌+◌, [], ◌∷◌, length, arith, refl, sym, subst}
use Rattle.ktime.specs.Readings.{ClockReading}
use Rattle.clock_cell.specs.Views.{writes}
use Rattle.seq_timer.specs.declared.event.EventBy.TheVariants as events
use Rattle.seq_timer.specs.declared.event.Reply.TheVariants as replies
use Rattle.seq_timer.specs.declared.observation.Observation.TheVariants as observations
use Rattle.seq_timer.specs.declared.answer.CancelAnswer.{CancelAnswer}
use Rattle.seq_timer.specs.declared.answer.CancelAnswer.TheVariants as cancels
use Rattle.base_row.specs.Logs.{receipts_of}
use Rattle.hr_timers.specs.Calls.{Cancels, StartsTimer, cancel_entries, start_entries}
use Rattle.hr_timers.specs.Known.{timer_then}
use Rattle.hr_timers.specs.declared.answer.StartAnswer.{StartAnswer}
use Rattle.hr_timers.specs.declared.answer.StartAnswer.TheVariants as starts
use Rattle.record_text.specs.declared.record.Answer.TheVariants as answers
use Rattle.record_text.specs.declared.record.Answer.{Answer}
use Rattle.record_text.specs.declared.record.Entry.{Entry}
use Rattle.script_text.specs.declared.script.StartRequest.{StartRequest}
use Rattle.run_history.specs.Actions.{Entered}
use Rattle.run_history.specs.Starts.{arming_actions, was_armed_before}
use Rattle.script_text.specs.declared.script.Call.TheVariants as calls
use Rattle.script_text.specs.declared.script.Script.{Script}
use Rattle.run_history.specs.Runs.{witness_of}
use Rattle.run_history.specs.Truths.{sight_of}
use Rattle.run_history.proofs.OthersMade.{cancelled_made, plain, started_made}
use Rattle.lane_notes.specs.Called.{asked_in, CallsCancel, CallsStart, cancel_told, LaneOf, start_told, with_done}
use Rattle.lane_notes.proofs.Kept.{IsNextCall, KeepsCall}
use Rattle.lane_notes.specs.Worlds.{WorldOf}
use Rattle.call_laws.proofs.CallKept.{clock_left, reading_goes_on}
use Rattle.call_laws.proofs.Sights.{keeps_entered, keeps_sight, looks_at, notes_alone}
use Rattle.call_laws.proofs.Stays.{saw_quiet, timer_quiet}
use Rattle.seq_timer.specs.Steps.{Timer}
use Rattle.std.proofs.Common.{ap, ◌∙◌}
use Rattle.call_laws.proofs.SeenOff.{sent_seen}
use Rattle.call_laws.proofs.Starts.{arming_of, is_arming, limit_within, start_reads}

-- ---- cancel

-- law: a lane keeps a cancel
pub keeps_cancel : {s : Script} {x : WorldOf} {l m : LaneOf} {a : Answer} {timer : ℕ} → IsNextCall s x l (calls.Cancel timer) → CallsCancel x l m a timer
    → KeepsCall s l (calls.Cancel timer) a m
keeps_cancel {s = s} {x = x} {l = l} {m = m} {timer = timer} next called =
    subst (λ a. KeepsCall s l (calls.Cancel timer) a m) (sym called.told) (by_answer called.answer called.cancels called.notes)
  where
    by_answer : (answer : CancelAnswer) (c : Cancels x.timers.about l.pass.timers.known m.pass.timers.known timer answer)
        → m.notes ≡ with_done l.notes l.label (receipts_of timer (timer_then x.timers.about c.at timer).stamp (cancel_entries answer)) []
        → KeepsCall s l (calls.Cancel timer) (cancel_told answer) m
    by_answer (cancels.Idle n) c notes =
        keeps_sight next (answers.Idle n) (looks_at c.made called.objects (clock_left called.clock) called.signals (notes_alone l m refl refl notes))
        (λ e. refl)
        (λ e follows joined has. saw_quiet next.world.timers joined follows.timers c.made n observations.Idle c.fits.1 c.fits.0)
    by_answer (cancels.Running g n) c notes =
        keeps_sight next (answers.Running g n) (looks_at c.made called.objects (clock_left called.clock) called.signals
        (notes_alone l m refl refl notes)) (λ e. refl)
        (λ e follows joined has. saw_quiet next.world.timers joined follows.timers c.made n (observations.Running g) c.fits.1 c.fits.0)
    by_answer (cancels.Cancelled g n) c notes =
        let number = (timer_then x.timers.about c.at timer).stamp + 1 in
        let entry : Entry = record { event = events.Cancel; reply = replies.Cancel g } in
        keeps_entered (λ clock. Unit) next m (answers.Cancelled g)
        (plain (length (writes m.pass.clock.knows)) (length l.pass.timers.known.seen) (length m.pass.timers.known.seen) (Entered timer number entry ∷ []))
        c.made (λ clock so. (refl, tt)) (λ e goes. tt) (clock_left called.clock) called.objects called.signals notes refl refl refl
        (λ its e follows joined has kept low. cancelled_made timer number g kept low)

-- ---- start

-- law: a lane keeps a start
pub keeps_start : {s : Script} {x : WorldOf} {l m : LaneOf} {a : Answer} {timer : ℕ} {request : StartRequest}
    → IsNextCall s x l (calls.Start timer request) → CallsStart x l m a timer request → KeepsCall s l (calls.Start timer request) a m
keeps_start {s = s} {x = x} {l = l} {m = m} {timer = timer} {request = request} next called =
    subst (λ a. KeepsCall s l (calls.Start timer request) a m) (sym called.told) (by_answer called.answer called.starts called.notes)
  where
    reading : ClockReading
    reading = called.reading

    by_answer : (answer : StartAnswer) (c : StartsTimer x.timers.about l.pass.timers.known m.pass.timers.known timer (asked_in request reading) answer)
        → m.notes ≡ with_done l.notes l.label (receipts_of timer (timer_then x.timers.about c.at timer).stamp
        (start_entries (timer_then x.timers.about c.at timer) (asked_in request reading) c.sent c.last answer)) []
        → KeepsCall s l (calls.Start timer request) (start_told answer) m
    by_answer (starts.Spent n) c notes =
        keeps_sight next (answers.Spent n) (looks_at c.made called.objects (clock_left called.reads.same) called.signals (notes_alone l m refl refl notes))
        (λ e. refl) (λ e follows joined has. (
          saw_quiet next.world.timers joined follows.timers c.made n observations.Spent c.fits.2 c.fits.1,
          ap (λ (u : Timer). u.moving) (timer_quiet next.world.timers joined follows.timers c.made) ∙ c.fits.0,
        ))
    by_answer (starts.Started was generation last outs placed) c notes =
        let u = timer_then x.timers.about c.at timer in
        let v = l.pass.timers.known.seen in
        let w = m.pass.timers.known.seen in
        let arming = arming_of u (asked_in request reading) c.sent c.last in
        let few : u.stamp < s.limit = omega (arith, c.fits.1, (limit_within s x.timers.about next.world.timers next.range.limit.0 c.at timer)) in
        subst (λ a. KeepsCall s l (calls.Start timer request) a m)
        (sym (told_so timer request reading u c.sent c.last (starts.Started was generation last outs placed) c.fits.2))
        (keeps_entered (ClockHas reading) next m
        (answers.Started arming.number arming.placement.base (was_armed_before arming.outs arming.was_armed))
        (plain reading.stamp (length v) (length w) (arming_actions timer request reading.stamp arming)) c.made
        (λ clock has. start_reads timer request reading u c.sent c.last clock has) (reading_goes_on l.pass m.pass reading called.reads)
        (clock_left called.reads.same) called.objects called.signals notes (entries_so timer request reading u c.sent c.last) refl called.reads.count
        (λ its e follows joined has kept low. let sight = sight_of (witness_of s e) (length v) (length w) in
        started_made timer request arming kept low (is_arming sight timer s.limit request.base u (asked_in request reading) c.sent c.last few
        (sent_seen s x.timers.about next.world.timers e joined v w follows.timers timer u request.base c.sent c.last c.on_way))))
