-- A settime of an object, as its lane keeps it.
use Rattle.std.proofs.Common.{◌≡◌, ℕ, Option, None, Some, [], nat_eq, refl, sym, ap, ◌∙◌, subst}
use Rattle.std.specs.Prelude.{MatchOption}
use Rattle.ktime.specs.declared.timespec.TimeSpec.{TimeSpec}
use Rattle.timer_setting.specs.Arguments.{AreValid, bits_beyond, mode_by, time_of}
use Rattle.timer_setting.specs.declared.answers.SettimeAnswer.TheVariants as settings
use Rattle.timer_setting.specs.declared.answers.SettimeAnswer.{SettimeAnswer}
use Rattle.timer_setting.specs.declared.object_call.ObjectReply.TheVariants as replies
use Rattle.timer_objects.specs.Calls.{SettimeMade, Settimes, SetsTimer, argument_refusal, flags_of}
use Rattle.timer_objects.specs.Known.{decl_at}
use Rattle.record_text.specs.Replies.{answer_of_settime}
use Rattle.record_text.specs.declared.record.Answer.TheVariants as answers
use Rattle.record_text.specs.declared.record.Answer.{Answer}
use Rattle.record_text.specs.declared.record.ObjectEntry.TheVariants as object_entries
use Rattle.script_text.specs.Declarations.{kind_of}
use Rattle.script_text.specs.declared.script.Call.TheVariants as calls
use Rattle.script_text.specs.declared.script.Script.{Script}
use Rattle.run_history.specs.ObjectCalls.{AreValidFor, nanoseconds_of}
use Rattle.run_history.specs.Runs.{witness_of}
use Rattle.run_history.proofs.ObjectsMade.{settime_made, start_of}
use Rattle.lane_notes.specs.Called.{CalledThen, CallsObject, LaneOf, lane_caller, settime_told}
use Rattle.lane_notes.specs.Worlds.{WorldOf}
use Rattle.lane_notes.proofs.Kept.{IsNextCall, KeepsCall}
use Rattle.call_laws.proofs.Anew.{keeps_anew}
use Rattle.call_laws.proofs.Armed.{wants_unless}
use Rattle.call_laws.proofs.CallKept.{clock_left}
use Rattle.call_laws.proofs.SettimeNoted.{SettimeNoted, settime_noted}
use Rattle.call_laws.proofs.SettimeParts.{IsRefusal, checked, same_flags}
use Rattle.call_laws.proofs.Sights.{keeps_full, keeps_same}

-- law: a lane keeps a settime
pub keeps_settime : {s : Script} {x : WorldOf} {l m : LaneOf} {a : Answer} {timer flags : ℕ} {value interval : TimeSpec}
    → IsNextCall s x l (calls.Settime timer flags value interval) → CalledThen x l (calls.Settime timer flags value interval) a m
    → KeepsCall s l (calls.Settime timer flags value interval) a m
keeps_settime {s = s} {x = x} {l = l} {m = m} {a = a} {timer = timer} {flags = flags} {value = value} {interval = interval} next called =
    subst (λ b. KeepsCall s l (calls.Settime timer flags value interval) b m) (sym called.1)
    (by_arguments (argument_refusal (decl_at x.objects timer).kind flags value interval)
    (checked (bits_beyond (flags_of (decl_at x.objects timer).kind) flags) value interval) c.does)
  where
    c : CallsObject x l m a (λ old new reading. Settimes x.objects x.timers.about old new timer flags value interval reading called.0)
    c = called.2

    Valid : Type 0
    Valid = AreValid (bits_beyond (flags_of (decl_at x.objects timer).kind) flags) value interval

    -- the script's kind takes just the arguments that the object takes
    taken : Valid → AreValidFor (kind_of s timer) flags value interval
    taken valid = subst (λ mask. AreValid (bits_beyond mask flags) value interval) (same_flags s x timer next.world) valid

    set : (answer : SettimeAnswer)
        → SetsTimer x.objects x.timers.about (lane_caller l.pass [] []) (lane_caller m.pass c.log c.object_log) timer flags (time_of value)
        (time_of interval) c.reading answer
        → Valid → KeepsCall s l (calls.Settime timer flags value interval) (settime_told answer) m
    set answer made valid =
        let noted : SettimeNoted flags (time_of value) (time_of interval) c.reading answer made.arm (replies.Settime answer) =
        subst (SettimeNoted flags (time_of value) (time_of interval) c.reading answer made.arm) (sym made.enters.reply)
        (settime_noted flags (time_of value) (time_of interval) c.reading answer made.enters.commits.state made.arm made.enters.may made.enters.reply) in
        subst (λ b. KeepsCall s l (calls.Settime timer flags value interval) b m) (sym noted.answers)
        (keeps_anew m next c.reads c.signals c.notes made (start_of flags value)
        (wants_unless (nat_eq (time_of value) 0) (record { mode = mode_by flags; ns = nanoseconds_of value }))
        (λ armed. object_entries.Settime flags (nanoseconds_of value) (nanoseconds_of interval) c.reading.stamp armed noted.told) noted.noted (answer_of_settime noted.told)
        (λ e begin last cancel arm start stamp notes kept low is armed. settime_made noted.told kept low is (taken valid) (noted.refused (witness_of s e) timer is.ends armed)))

    Made : SettimeAnswer → Type 0
    Made answer =
        SettimeMade x.objects x.timers.about (lane_caller l.pass [] []) (lane_caller m.pass c.log c.object_log) timer flags (time_of value)
        (time_of interval) c.reading answer

    by_answer : (answer : SettimeAnswer) → Valid → Made answer
        → KeepsCall s l (calls.Settime timer flags value interval) (settime_told answer) m
    by_answer (settings.Spent n) valid full =
        keeps_full next (answers.Spent n) timer n full (clock_left c.reads.same) c.signals c.notes (λ e. (refl, taken valid)) (λ e saw. saw)
    by_answer settings.BadFlags valid made = absurd made
    by_answer settings.BadTime valid made = absurd made
    by_answer answer valid made = set answer made valid

    by_arguments : (refusal : Option SettimeAnswer)
        → MatchOption refusal Valid (IsRefusal (bits_beyond (flags_of (decl_at x.objects timer).kind) flags) value interval)
        → MatchOption refusal (Made called.0) (λ r. (called.0 ≡ r) × (lane_caller m.pass c.log c.object_log ≡ lane_caller l.pass [] []))
        → KeepsCall s l (calls.Settime timer flags value interval) (settime_told called.0) m
    by_arguments None valid made = by_answer called.0 valid made
    by_arguments (Some refusal) bad refused =
        subst (λ b. KeepsCall s l (calls.Settime timer flags value interval) b m) (sym (ap settime_told refused.0 ∙ bad.0))
        (keeps_same next answers.Invalid refused.1 (clock_left c.reads.same) c.signals c.notes
        (λ e. (refl, λ v. bad.1 (subst (λ mask. AreValid (bits_beyond mask flags) value interval) (sym (same_flags s x timer next.world)) v))) (λ e. tt))
