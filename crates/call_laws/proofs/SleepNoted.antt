-- The objects' entries of a sleep and of an interrupt, as they are noted and answered.
use Rattle.std.proofs.Common.{◌≡◌, ℕ, false, refl, ap, ◌∙◌}
use Rattle.std.proofs.lemmas.Bool.{true≢false}
use Rattle.ktime.specs.Readings.{ClockReading}
use Rattle.timer_setting.specs.declared.answers.InterruptAnswer.TheVariants as ends
use Rattle.timer_setting.specs.declared.answers.InterruptAnswer.{InterruptAnswer}
use Rattle.timer_setting.specs.declared.answers.SleepAnswer.TheVariants as begins
use Rattle.timer_setting.specs.declared.answers.SleepAnswer.{SleepAnswer}
use Rattle.timer_setting.specs.declared.arming.Arm.TheVariants as arms
use Rattle.timer_setting.specs.declared.arming.Arm.{Arm}
use Rattle.timer_setting.specs.declared.object_call.ObjectCall.TheVariants as calls
use Rattle.timer_setting.specs.declared.object_call.ObjectReply.TheVariants as replies
use Rattle.timer_setting.specs.declared.object_call.ObjectReply.{ObjectReply}
use Rattle.sleeper.specs.States.{is_free, sleep_left}
use Rattle.sleeper.specs.Steps.{end_of, sleep_answer}
use Rattle.sleeper.specs.declared.sleep.Sleep.TheVariants as sleeps
use Rattle.sleeper.specs.declared.sleep.Sleep.{Sleep}
use Rattle.timer_objects.specs.Calls.{sleep_by}
use Rattle.timer_objects.specs.Steps.{ObjectAllows, object_answer}
use Rattle.timer_objects.specs.declared.object.Object.TheVariants as objects
use Rattle.timer_objects.specs.declared.object.Object.{Object}
use Rattle.record_text.specs.Replies.{answer_of_interrupt, answer_of_sleep}
use Rattle.record_text.specs.declared.record.InterruptReply.TheVariants as interrupt_replies
use Rattle.record_text.specs.declared.record.InterruptReply.{InterruptReply}
use Rattle.record_text.specs.declared.record.ObjectEntry.TheVariants as object_entries
use Rattle.record_text.specs.declared.record.SleepReply.TheVariants as sleep_replies
use Rattle.record_text.specs.declared.record.SleepReply.{SleepReply}
use Rattle.run_history.specs.Witnesses.{Witness, timer_along}
use Rattle.run_history.proofs.ObjectsMade.{UnsleptBy}
use Rattle.lane_notes.specs.Objects.{arm_noted}
use Rattle.lane_notes.specs.Called.{interrupt_told, sleep_told}
use Rattle.call_laws.proofs.Armed.{IsArmedSo}
use Rattle.call_laws.proofs.Parts.{ClockHas, IsNotedAs, noted_at}

-- replies that are the same have the same answer
same_sleep : {a b : SleepAnswer} → replies.Sleep a ≡ replies.Sleep b → a ≡ b
same_sleep is = ap answer_in is
  where
    answer_in : ObjectReply → SleepAnswer
    answer_in (replies.Sleep a) = a
    answer_in reply = begins.BadFlags

same_end : {a b : InterruptAnswer} → replies.Interrupt a ≡ replies.Interrupt b → a ≡ b
same_end is = ap answer_in is
  where
    answer_in : ObjectReply → InterruptAnswer
    answer_in (replies.Interrupt a) = a
    answer_in reply = ends.Slept

-- ---- a sleep

-- a sleep that made an entry: what the record's entry tells, its answer, and what it tells of a start that was refused
pub record SleepNoted (flags time : ℕ) (reading : ClockReading) (answer : SleepAnswer) (arm : Arm) (reply : ObjectReply) : Type 0 where
  pub told : SleepReply
  pub noted : IsNotedAs (ClockHas reading) (sleep_by flags time reading arm) reply (object_entries.Sleep flags time reading.stamp (arm_noted arm) told)
  pub answers : sleep_told answer ≡ answer_of_sleep told
  pub refused : (w : Witness) (timer last : ℕ) → IsArmedSo arm (timer_along w last timer) → UnsleptBy w timer told last

module _ (flags time : ℕ) (reading : ClockReading) (answer : SleepAnswer) where
  by_arm : (arm : Arm) → answer ≡ sleep_answer arm → SleepNoted flags time reading answer arm (replies.Sleep (sleep_answer arm))
  by_arm arms.NotAsked is = record {
    told = sleep_replies.Slept;
    noted = noted_at reading (λ r. sleep_by flags time r arms.NotAsked) _ _ refl refl (λ clock. refl);
    answers = ap sleep_told is;
    refused = λ w timer last armed. tt;
  }
  by_arm (arms.Armed generation) is = record {
    told = sleep_replies.Asleep;
    noted = noted_at reading (λ r. sleep_by flags time r (arms.Armed generation)) _ _ refl refl (λ clock. refl);
    answers = ap sleep_told is;
    refused = λ w timer last armed. tt;
  }
  by_arm (arms.Unarmed stamp) is = record {
    told = sleep_replies.Unarmed stamp;
    noted = noted_at reading (λ r. sleep_by flags time r (arms.Unarmed stamp)) _ _ refl refl (λ clock. refl);
    answers = ap sleep_told is;
    refused = λ w timer last armed. (record { stamp = armed.0; holds = armed.1 }, armed.2);
  }

  -- law: a sleep of an object is noted
  pub sleep_noted : (x : Object) (arm : Arm) → ObjectAllows x (sleep_by flags time reading arm)
      → replies.Sleep answer ≡ object_answer x (sleep_by flags time reading arm)
      → SleepNoted flags time reading answer arm (object_answer x (sleep_by flags time reading arm))
  sleep_noted objects.Raw arm allows tells = absurd allows
  sleep_noted (objects.Posix t) arm allows tells = absurd allows
  sleep_noted (objects.Fd t) arm allows tells = absurd allows
  sleep_noted (objects.Queued t) arm allows tells = absurd allows
  sleep_noted (objects.Sleeper s) arm allows tells = by_arm arm (same_sleep tells)

-- ---- an interrupt

-- an interrupt that made an entry: what the record's entry tells, and its answer
pub record InterruptNoted (reading : ClockReading) (answer : InterruptAnswer) (reply : ObjectReply) : Type 0 where
  pub told : InterruptReply
  pub noted : IsNotedAs (ClockHas reading) (calls.Interrupt reading) reply (object_entries.Interrupt reading.stamp told)
  pub answers : interrupt_told answer ≡ answer_of_interrupt told

module _ (reading : ClockReading) (answer : InterruptAnswer) where
  so : (told : InterruptReply) (end : InterruptAnswer)
      → IsNotedAs (ClockHas reading) (calls.Interrupt reading) (replies.Interrupt end) (object_entries.Interrupt reading.stamp told)
      → answer ≡ end → interrupt_told end ≡ answer_of_interrupt told → InterruptNoted reading answer (replies.Interrupt end)
  so told end noted is tells = record { told = told; noted = noted; answers = ap interrupt_told is ∙ tells }

  by_sleep : (sleep : Sleep) (left stamp : ℕ) → is_free sleep ≡ false → answer ≡ end_of sleep left stamp
      → InterruptNoted reading answer (replies.Interrupt (end_of sleep left stamp))
  by_sleep sleeps.Free left stamp free is = absurd (true≢false free)
  by_sleep sleeps.Relative left stamp free is =
      so (interrupt_replies.Left left) (ends.Left left) (noted_at reading (λ r. calls.Interrupt r) _ _ refl refl (λ clock. refl)) is refl
  by_sleep sleeps.Absolute left stamp free is =
      so interrupt_replies.Interrupted ends.Interrupted (noted_at reading (λ r. calls.Interrupt r) _ _ refl refl (λ clock. refl)) is refl
  by_sleep sleeps.Woken left stamp free is =
      so interrupt_replies.Slept ends.Slept (noted_at reading (λ r. calls.Interrupt r) _ _ refl refl (λ clock. refl)) is refl

  -- law: an interrupt of an object is noted
  pub interrupt_noted : (x : Object) → ObjectAllows x (calls.Interrupt reading) → replies.Interrupt answer ≡ object_answer x (calls.Interrupt reading)
      → InterruptNoted reading answer (object_answer x (calls.Interrupt reading))
  interrupt_noted objects.Raw allows tells = absurd allows
  interrupt_noted (objects.Posix t) allows tells = absurd allows
  interrupt_noted (objects.Fd t) allows tells = absurd allows
  interrupt_noted (objects.Queued t) allows tells = absurd allows
  interrupt_noted (objects.Sleeper s) allows tells = by_sleep s.sleep (sleep_left s reading) s.stamp allows.1 (same_end tells)
