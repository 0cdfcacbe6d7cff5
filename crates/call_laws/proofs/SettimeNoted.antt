-- The object's entry of a settime, as it is noted and answered.
use Rattle.call_laws.proofs.Parts.{ClockHas}
use Rattle.std.proofs.Common.{◌≡◌, ℕ, Bool, true, false, if◌then◌else◌, Some, refl, ap, None, List}
use Rattle.ktime.specs.Readings.{ClockReading}
use Rattle.timer_setting.specs.declared.arming.Arm.TheVariants as arms
use Rattle.timer_setting.specs.declared.arming.Arm.{Arm}
use Rattle.posix_timer.specs.States.{posix_left}
use Rattle.timer_fd.specs.States.{fd_left}
use Rattle.timer_fd.specs.Steps.{answers_canceled}
use Rattle.timer_setting.specs.declared.answers.SettimeAnswer.TheVariants as settings
use Rattle.timer_setting.specs.declared.answers.SettimeAnswer.{SettimeAnswer}
use Rattle.timer_setting.specs.declared.object_call.ObjectReply.TheVariants as replies
use Rattle.timer_objects.specs.Calls.{settime_by}
use Rattle.timer_objects.proofs.Settings.{settime_same}
use Rattle.timer_objects.specs.Steps.{object_answer, ObjectAllows}
use Rattle.timer_objects.specs.declared.object.Object.TheVariants as objects
use Rattle.timer_objects.specs.declared.object.Object.{Object}
use Rattle.timer_setting.specs.declared.object_call.ObjectCall.{ObjectCall}
use Rattle.timer_setting.specs.declared.object_call.ObjectReply.{ObjectReply}
use Rattle.record_text.specs.Replies.{answer_of_settime}
use Rattle.record_text.specs.declared.record.ObjectEntry.TheVariants as object_entries
use Rattle.record_text.specs.declared.record.SettimeReply.TheVariants as settimes
use Rattle.record_text.specs.declared.record.SettimeReply.{SettimeReply}
use Rattle.run_history.specs.Histories.{reading_at}
use Rattle.lane_notes.specs.Objects.{arm_noted}
use Rattle.run_history.specs.Witnesses.{Witness}
use Rattle.run_history.proofs.ObjectsMade.{RefusedBy}
use Rattle.lane_notes.specs.Called.{settime_told}
use Rattle.call_laws.proofs.Parts.{IsNotedAs, noted_at}
use Rattle.lane_notes.specs.Objects.{object_entry_noted, skip_generation}
use Rattle.lane_notes.specs.Runs.{ShowsObjectCall}
use Rattle.record_text.specs.declared.record.ClockLine.{ClockLine}
use Rattle.record_text.specs.declared.record.ObjectEntry.{ObjectEntry}
use Rattle.call_laws.proofs.Armed.{IsArmedSo}
use Rattle.run_history.specs.Witnesses.{timer_along}

module _ (flags value interval : ℕ) (reading : ClockReading) (answer : SettimeAnswer) where
  -- a settime with its reading and the outcome of its start
  abbrev call_by : Arm → ClockReading → ObjectCall
  call_by arm r = settime_by flags value interval r arm

  -- the record's entry of it
  abbrev entry_by : Arm → SettimeReply → ObjectEntry
  entry_by arm told = object_entries.Settime flags value interval reading.stamp (arm_noted arm) told

  -- a settime that made an entry: what the record's entry tells, its answer, and what it tells of a start that was refused
  pub record SettimeNoted (arm : Arm) (reply : ObjectReply) : Type 0 where
    pub told : SettimeReply
    pub noted : IsNotedAs (ClockHas reading) (call_by arm reading) reply (entry_by arm told)
    pub answers : settime_told answer ≡ answer_of_settime told
    pub refused : (w : Witness) (timer last : ℕ) → IsArmedSo arm (timer_along w last timer) → RefusedBy w timer told last

  noted_so : (arm : Arm) (reply : ObjectReply) (told : SettimeReply)
      → (object_entry_noted (call_by arm reading) reply ≡ Some (entry_by arm told)) × (skip_generation (call_by arm reading) reply ≡ None)
      × ((clock : List ClockLine) → ShowsObjectCall clock (call_by arm (reading_at clock reading.stamp)) reply (entry_by arm told))
      → settime_told answer ≡ answer_of_settime told
      → ((w : Witness) (timer last : ℕ) → IsArmedSo arm (timer_along w last timer) → RefusedBy w timer told last) → SettimeNoted arm reply
  noted_so arm reply told is tells refused =
      let noted = noted_at reading (call_by arm) reply (entry_by arm told) is.0 is.1 is.2 in
      record { told = told; noted = noted; answers = tells; refused = refused }

  refused_so : (stamp : ℕ) → replies.Settime answer ≡ replies.Settime (settings.Unarmed stamp)
      → SettimeNoted (arms.Unarmed stamp) (replies.Settime (settings.Unarmed stamp))
  refused_so stamp tells =
      noted_so (arms.Unarmed stamp) _ (settimes.Unarmed stamp) (refl, refl, λ clock. refl) (ap settime_told (settime_same tells))
      (λ w timer last armed. (record { stamp = armed.0; holds = armed.1 }, armed.2))

  -- law: a settime of an object is noted
  pub settime_noted : (x : Object) (arm : Arm) → ObjectAllows x (call_by arm reading) → replies.Settime answer ≡ object_answer x (call_by arm reading)
      → SettimeNoted arm (object_answer x (call_by arm reading))
  settime_noted objects.Raw arm allows tells = absurd allows
  settime_noted (objects.Sleeper s) arm allows tells = absurd allows
  settime_noted (objects.Posix t) (arms.Unarmed stamp) allows tells = refused_so stamp tells
  settime_noted (objects.Posix t) arm allows tells =
      noted_so arm _ (settimes.Old (posix_left t reading) t.interval) (refl, refl, λ clock. refl) (ap settime_told (settime_same tells))
      (λ w timer last armed. tt)
  settime_noted (objects.Queued t) (arms.Unarmed stamp) allows tells = refused_so stamp tells
  settime_noted (objects.Queued t) arm allows tells =
      noted_so arm _ (settimes.Old (posix_left t.timer reading) t.timer.interval) (refl, refl, λ clock. refl) (ap settime_told (settime_same tells))
      (λ w timer last armed. tt)
  settime_noted (objects.Fd t) (arms.Unarmed stamp) allows tells = refused_so stamp tells
  settime_noted (objects.Fd t) arm allows tells = old (answers_canceled t flags value reading) (settime_same tells)
    where
      old : (b : Bool) → answer ≡ (if b then settings.Canceled else settings.Old (fd_left t reading) t.interval)
          → SettimeNoted arm (replies.Settime (if b then settings.Canceled else settings.Old (fd_left t reading) t.interval))
      old true is = noted_so arm _ settimes.Canceled (refl, refl, λ clock. refl) (ap settime_told is) (λ w timer last armed. tt)
      old false is =
          noted_so arm _ (settimes.Old (fd_left t reading) t.interval) (refl, refl, λ clock. refl) (ap settime_told is)
          (λ w timer last armed. tt)
