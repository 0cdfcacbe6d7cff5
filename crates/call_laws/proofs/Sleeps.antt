-- The calls on a sleeper, as their lanes keep them: a sleep, an interrupt, and a look.
use Rattle.std.proofs.Common.{◌≡◌, ◌<◌, ℕ, Bool, true, false, not, nat_eq, if◌then◌else◌, Option, None, Some, [], inl, refl, sym, ap, ◌∙◌, subst}
use Rattle.std.specs.Prelude.{MatchOption}
use Rattle.std.proofs.lemmas.Bool.{eqb-true, true≢false}
use Rattle.ktime.specs.declared.timespec.TimeSpec.{TimeSpec}
use Rattle.timer_setting.specs.Arguments.{abstime, bits_beyond, is_bad, mode_by, time_of}
use Rattle.timer_setting.specs.declared.answers.InterruptAnswer.TheVariants as ends
use Rattle.timer_setting.specs.declared.answers.InterruptAnswer.{InterruptAnswer}
use Rattle.timer_setting.specs.declared.answers.SleepAnswer.TheVariants as begins
use Rattle.timer_setting.specs.declared.answers.SleepAnswer.{SleepAnswer}
use Rattle.timer_setting.specs.declared.object_call.ObjectCall.TheVariants as object_calls
use Rattle.timer_setting.specs.declared.object_call.ObjectReply.TheVariants as replies
use Rattle.sleeper.specs.States.{Sleeper, is_free}
use Rattle.sleeper.specs.Steps.{has_come, sleep_start, slept_answer}
use Rattle.sleeper.specs.declared.answers.SleptAnswer.TheVariants as looks
use Rattle.sleeper.specs.declared.answers.SleptAnswer.{SleptAnswer}
use Rattle.timer_objects.specs.Calls.{ArmsAnew, FindsSleeper, Interrupts, LooksSlept, SleepMade, Sleeps, sleep_arguments_refusal, sleep_by}
use Rattle.timer_objects.specs.Known.{decl_at}
use Rattle.timer_objects.specs.declared.answers.Slept.{Slept}
use Rattle.timer_objects.specs.declared.object.Object.TheVariants as objects
use Rattle.record_text.specs.Replies.{answer_of_interrupt, answer_of_sleep}
use Rattle.record_text.specs.declared.record.Answer.TheVariants as answers
use Rattle.record_text.specs.declared.record.Answer.{Answer}
use Rattle.record_text.specs.declared.record.Armed.{Armed}
use Rattle.record_text.specs.declared.record.ObjectEntry.TheVariants as object_entries
use Rattle.script_text.specs.Declarations.{base_of, kind_of}
use Rattle.script_text.specs.declared.script.Call.TheVariants as calls
use Rattle.script_text.specs.declared.script.Script.{Script}
use Rattle.run_history.specs.Objects.{sleeper_after}
use Rattle.run_history.specs.ObjectCalls.{IsProperSleep, nanoseconds_of}
use Rattle.run_history.specs.Runs.{Ending, witness_of}
use Rattle.run_history.proofs.ObjectsMade.{interrupt_made, sleep_made, start_of}
use Rattle.lane_notes.specs.Called.{CalledThen, CallsLook, CallsObject, LaneOf, interrupt_told, lane_caller, sleep_told, slept_told, with_done}
use Rattle.lane_notes.specs.Worlds.{WorldOf}
use Rattle.lane_notes.proofs.Kept.{IsNextCall, KeepsCall}
use Rattle.lane_notes.proofs.ObjectSeen.{object_after}
use Rattle.lane_notes.proofs.PartLists.{no_notes-joins}
use Rattle.call_laws.proofs.Anew.{keeps_anew}
use Rattle.call_laws.proofs.Armed.{wants_unless}
use Rattle.call_laws.proofs.CallKept.{clock_left}
use Rattle.call_laws.proofs.Noted.{with_done-joins}
use Rattle.call_laws.proofs.ObjectLooks.{keeps_look, sleeper_looked}
use Rattle.call_laws.proofs.SleepNoted.{InterruptNoted, SleepNoted, interrupt_noted, sleep_noted}
use Rattle.call_laws.proofs.Sights.{keeps_full, keeps_same}

-- ---- a sleep

-- arguments of a sleep that are refused are no valid ones, and the answer says so
abbrev IsRefusal : ℕ → TimeSpec → SleepAnswer → Type 0
IsRefusal flags time refusal = (sleep_told refusal ≡ answers.Invalid) × (IsProperSleep flags time → ⊥)

-- the arguments of a sleep are valid, or refused with the answer that says so
checked : (flags : ℕ) (time : TimeSpec) → MatchOption (sleep_arguments_refusal flags time) (IsProperSleep flags time) (IsRefusal flags time)
checked flags time = by_tests (nat_eq (bits_beyond abstime flags) 0) (is_bad time) refl refl
  where
    by_tests : (a b : Bool) → nat_eq (bits_beyond abstime flags) 0 ≡ a → is_bad time ≡ b
        → MatchOption (if not a then Some begins.BadFlags else (if b then Some begins.BadTime else None)) (IsProperSleep flags time) (IsRefusal flags time)
    by_tests false b known bad = (refl, λ v. true≢false (sym (ap (λ n. nat_eq n 0) v.0) ∙ known))
    by_tests true true known bad = (refl, λ v. true≢false (sym bad ∙ v.1))
    by_tests true false known bad = (eqb-true (bits_beyond abstime flags) 0 known, bad)

-- law: a lane keeps a sleep
pub keeps_sleep : {s : Script} {x : WorldOf} {l m : LaneOf} {a : Answer} {timer flags : ℕ} {time : TimeSpec}
    → IsNextCall s x l (calls.Sleep timer flags time) → CalledThen x l (calls.Sleep timer flags time) a m → KeepsCall s l (calls.Sleep timer flags time) a m
keeps_sleep {s = s} {x = x} {l = l} {m = m} {a = a} {timer = timer} {flags = flags} {time = time} next called =
    subst (λ b. KeepsCall s l (calls.Sleep timer flags time) b m) (sym called.1)
    (by_arguments (sleep_arguments_refusal flags time) (checked flags time) c.does)
  where
    c : CallsObject x l m a (λ old new reading. Sleeps x.objects x.timers.about old new timer flags time reading called.0)
    c = called.2

    Made : SleepAnswer → Type 0
    Made answer = SleepMade x.objects x.timers.about (lane_caller l.pass [] []) (lane_caller m.pass c.log c.object_log) timer flags (time_of time) c.reading answer

    slept : (answer : SleepAnswer)
        → ArmsAnew x.objects x.timers.about (lane_caller l.pass [] []) (lane_caller m.pass c.log c.object_log) timer (sleep_by flags (time_of time) c.reading)
        (sleep_start (decl_at x.objects timer).clock flags (time_of time) c.reading) c.reading (replies.Sleep answer)
        → IsProperSleep flags time → KeepsCall s l (calls.Sleep timer flags time) (sleep_told answer) m
    slept answer made valid =
        let noted : SleepNoted flags (time_of time) c.reading answer made.arm (replies.Sleep answer) =
        subst (SleepNoted flags (time_of time) c.reading answer made.arm) (sym made.enters.reply)
        (sleep_noted flags (time_of time) c.reading answer made.enters.commits.state made.arm made.enters.may made.enters.reply) in
        subst (λ b. KeepsCall s l (calls.Sleep timer flags time) b m) (sym noted.answers)
        (keeps_anew m next c.reads c.signals c.notes made (start_of flags time)
        (wants_unless (has_come (decl_at x.objects timer).clock flags (time_of time) c.reading) (record { mode = mode_by flags; ns = nanoseconds_of time }))
        (λ armed. object_entries.Sleep flags (nanoseconds_of time) c.reading.stamp armed noted.told) noted.noted (answer_of_sleep noted.told)
        (λ e begin last cancel arm start stamp notes kept low is armed.
        sleep_made noted.told kept low is valid (noted.refused (witness_of s e) timer is.ends armed)))

    occupied : (n : ℕ) → FindsSleeper x.objects (lane_caller l.pass [] []) (lane_caller m.pass c.log c.object_log) timer n false
        → IsProperSleep flags time → KeepsCall s l (calls.Sleep timer flags time) (answers.Occupied n) m
    occupied n found valid =
        keeps_look m next (answers.Occupied n) found.1 (clock_left c.reads.same) c.signals c.notes
        (λ e. (refl, (valid, subst (λ limit. n < limit) next.world.limit found.2)))
        (λ e follows point is. (
          point,
          ap (λ (u : Sleeper). is_free u.sleep) (sym (sleeper_looked s e.run timer n (kind_of s timer) is)) ∙ found.3,
        ))

    by_answer : (answer : SleepAnswer) → IsProperSleep flags time → Made answer → KeepsCall s l (calls.Sleep timer flags time) (sleep_told answer) m
    by_answer begins.BadFlags valid made = absurd made
    by_answer begins.BadTime valid made = absurd made
    by_answer (begins.Spent n) valid full =
        keeps_full next (answers.Spent n) timer n full (clock_left c.reads.same) c.signals c.notes (λ e. (refl, valid)) (λ e saw. saw)
    by_answer (begins.Occupied n) valid found = occupied n found valid
    by_answer answer valid made = slept answer made valid

    by_arguments : (refusal : Option SleepAnswer) → MatchOption refusal (IsProperSleep flags time) (IsRefusal flags time)
        → MatchOption refusal (Made called.0) (λ r. (called.0 ≡ r) × (lane_caller m.pass c.log c.object_log ≡ lane_caller l.pass [] []))
        → KeepsCall s l (calls.Sleep timer flags time) (sleep_told called.0) m
    by_arguments None valid made = by_answer called.0 valid made
    by_arguments (Some refusal) bad refused =
        subst (λ b. KeepsCall s l (calls.Sleep timer flags time) b m) (sym (ap sleep_told refused.0 ∙ bad.0))
        (keeps_same next answers.Invalid refused.1 (clock_left c.reads.same) c.signals c.notes (λ e. (refl, bad.1)) (λ e. tt))

-- ---- an interrupt

-- law: a lane keeps an interrupt
pub keeps_interrupt : {s : Script} {x : WorldOf} {l m : LaneOf} {a : Answer} {timer : ℕ} → IsNextCall s x l (calls.Interrupt timer)
    → CalledThen x l (calls.Interrupt timer) a m → KeepsCall s l (calls.Interrupt timer) a m
keeps_interrupt {s = s} {x = x} {l = l} {m = m} {a = a} {timer = timer} next called =
    subst (λ b. KeepsCall s l (calls.Interrupt timer) b m) (sym called.1) (by_answer called.0 c.does)
  where
    c : CallsObject x l m a (λ old new reading. Interrupts x.objects x.timers.about old new timer reading called.0)
    c = called.2

    ended : (answer : InterruptAnswer)
        → ArmsAnew x.objects x.timers.about (lane_caller l.pass [] []) (lane_caller m.pass c.log c.object_log) timer (λ arm. object_calls.Interrupt c.reading)
        None c.reading (replies.Interrupt answer)
        → KeepsCall s l (calls.Interrupt timer) (interrupt_told answer) m
    ended answer made =
        let noted : InterruptNoted c.reading answer (replies.Interrupt answer) =
        subst (InterruptNoted c.reading answer) (sym made.enters.reply)
        (interrupt_noted c.reading answer made.enters.commits.state made.enters.may made.enters.reply) in
        subst (λ b. KeepsCall s l (calls.Interrupt timer) b m) (sym noted.answers)
        (keeps_anew m next c.reads c.signals c.notes made None (inl refl) (λ (armed : Armed). object_entries.Interrupt c.reading.stamp noted.told) noted.noted
        (answer_of_interrupt noted.told)
        (λ e begin last cancel arm start stamp notes kept low is armed. interrupt_made noted.told kept low is))

    by_answer : (answer : InterruptAnswer)
        → Interrupts x.objects x.timers.about (lane_caller l.pass [] []) (lane_caller m.pass c.log c.object_log) timer c.reading answer
        → KeepsCall s l (calls.Interrupt timer) (interrupt_told answer) m
    by_answer (ends.Spent n) full = keeps_full next (answers.Spent n) timer n full (clock_left c.reads.same) c.signals c.notes (λ e. refl) (λ e saw. saw)
    by_answer (ends.Awake n) found =
        keeps_look m next (answers.Awake n) found.1 (clock_left c.reads.same) c.signals c.notes (λ e. (
          refl,
          subst
              (λ limit. n < limit) next.world.limit found.2,
        ))
        (λ e follows point is. (
          point,
          ap (λ (u : Sleeper). is_free u.sleep) (sym (sleeper_looked s e.run timer n (kind_of s timer) is)) ∙ found.3,
        ))
    by_answer answer made = ended answer made

-- ---- a look

-- law: a lane keeps a look at a sleeper
pub keeps_slept : {s : Script} {x : WorldOf} {l m : LaneOf} {a : Answer} {timer : ℕ} → IsNextCall s x l (calls.Slept timer)
    → CalledThen x l (calls.Slept timer) a m → KeepsCall s l (calls.Slept timer) a m
keeps_slept {s = s} {x = x} {l = l} {m = m} {a = a} {timer = timer} next called =
    subst (λ b. KeepsCall s l (calls.Slept timer) b m) (sym c.tells) (by_answer found.answer refl)
  where
    found : Slept
    found = called.0

    c : CallsLook x l m a (λ old new. LooksSlept old new timer found) (slept_told found.answer found.stamp)
    c = called.1

    notes : m.notes ≡ with_done l.notes l.label [] []
    notes = c.notes ∙ no_notes-joins l.notes ∙ sym (with_done-joins l.notes l.label [] [])

    -- the sleep is the record's
    sleep_is : (answer : SleptAnswer) → found.answer ≡ answer → (e : Ending)
        → objects.Sleeper c.looks.0 ≡ object_after s e.run timer found.stamp (kind_of s timer)
        → slept_answer (sleeper_after s e.run timer (base_of (kind_of s timer)) found.stamp).sleep ≡ answer
    sleep_is answer told e is =
        ap (λ (u : Sleeper). slept_answer u.sleep) (sym (sleeper_looked s e.run timer found.stamp (kind_of s timer) is)) ∙ sym c.looks.2 ∙ told

    by_answer : (answer : SleptAnswer) → found.answer ≡ answer → KeepsCall s l (calls.Slept timer) (slept_told answer found.stamp) m
    by_answer looks.Sleeping told =
        keeps_look m next (answers.Sleeping found.stamp) c.looks.1 (clock_left c.clock) c.signals notes (λ e. refl)
        (λ e follows point is. (point, sleep_is looks.Sleeping told e is))
    by_answer looks.Slept told =
        keeps_look m next (answers.SleptAt found.stamp) c.looks.1 (clock_left c.clock) c.signals notes (λ e. refl)
        (λ e follows point is. (point, sleep_is looks.Slept told e is))
    by_answer looks.Awake told =
        keeps_look m next (answers.Awake found.stamp) c.looks.1 (clock_left c.clock) c.signals notes (λ e. refl)
        (λ e follows point is. (point, sleep_is looks.Awake told e is))
