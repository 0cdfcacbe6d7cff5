-- A call that arms its object's timer anew: it may be made, its reply, and the phase that it leaves.
use Rattle.std.proofs.Common.{arith, refl, sym, subst, ◌≡◌, ◌∙◌, ℕ, ◌<◌, Bool, true, false, not, nat_eq, List}
use Rattle.seq_timer.specs.Tables.{timer_at}
use Rattle.base_row.specs.declared.log.Receipt.{Receipt}
use Rattle.base_row.specs.declared.view.Opening.{Opening}
use Rattle.hr_timers.specs.Known.{KnownOfTimers}
use Rattle.timer_setting.specs.declared.answers.InterruptAnswer.{InterruptAnswer}
use Rattle.timer_setting.specs.declared.answers.SleepAnswer.{SleepAnswer}
use Rattle.timer_setting.specs.declared.arming.Arm.{Arm}
use Rattle.timer_setting.specs.declared.arming.Arm.TheVariants as arms
use Rattle.timer_setting.specs.declared.object_call.ObjectReply.TheVariants as replies
use Rattle.timer_setting.specs.declared.phase.Phase.TheVariants as phases
use Rattle.timer_setting.specs.declared.settime_call.SettimeCall.{SettimeCall}
use Rattle.timer_setting.specs.Phases.{IsOutcomeOf, phase_by}
use Rattle.sleeper.specs.declared.sleep.Sleep.{Sleep}
use Rattle.sleeper.specs.declared.sleep.Sleep.TheVariants as sleeping
use Rattle.sleeper.specs.States.{is_free, sleep_left}
use Rattle.sleeper.specs.Steps.{end_of, has_come, sleep_answer, sleep_start}
use Rattle.timer_objects.specs.declared.anew.Anew.{Anew}
use Rattle.timer_objects.specs.declared.anew.Anew.TheVariants as anews
use Rattle.timer_objects.specs.declared.anew.ValidSettime.{ValidSettime}
use Rattle.timer_objects.specs.declared.object.Decl.{Decl}
use Rattle.timer_objects.specs.declared.object.Kind.TheVariants as kinds
use Rattle.timer_objects.specs.declared.object.Object.{Object}
use Rattle.timer_objects.specs.declared.object.Object.TheVariants as objects
use Rattle.timer_objects.specs.Anew.{IsInterruptEntry, IsSleepEntry, IsValidAnew, RepliesAnew, anew_call, anew_reading, anew_wanted, refuses}
use Rattle.timer_objects.specs.Arming.{ArmsFor}
use Rattle.timer_objects.specs.Calls.{BearsStart, phase_of}
use Rattle.timer_objects.specs.Steps.{IsObjectOf, IsTimerOf, ObjectAllows, kind_over, object_answer, object_step, object_timer}
use Rattle.timer_objects.proofs.Settings.{arms_bears, set_phase, settime_allowed, settime_replies}

not_free : (b : Bool) → not b ≡ false → b ≡ true
not_free true e = refl
not_free false e = cc

-- a settime, with the outcome of its start
abbrev settime_with : ValidSettime → Arm → SettimeCall
settime_with v arm = record { flags = v.flags; value = v.value; interval = v.interval; reading = v.reading; arm = arm }

slept_replies : (arm : Arm) → (a : SleepAnswer) × (replies.Sleep (sleep_answer arm) ≡ replies.Sleep a) × IsSleepEntry a
slept_replies arms.NotAsked = (_, refl, tt)
slept_replies (arms.Armed g) = (_, refl, tt)
slept_replies (arms.Unarmed n) = (_, refl, tt)

ended_replies : (sleep : Sleep) (left stamp : ℕ) → is_free sleep ≡ false
    → (a : InterruptAnswer) × (replies.Interrupt (end_of sleep left stamp) ≡ replies.Interrupt a) × IsInterruptEntry a
ended_replies sleeping.Free left stamp e = absurd cc
ended_replies sleeping.Relative left stamp e = (_, refl, tt)
ended_replies sleeping.Absolute left stamp e = (_, refl, tt)
ended_replies sleeping.Woken left stamp e = (_, refl, tt)

module _ (d : Decl) (limit n : ℕ) (x : Object) (is : IsObjectOf d limit n x) where
  module _ (sleeper : d.kind ≡ kinds.Sleeper) where
    its_timer : IsTimerOf d limit n (object_timer x)
    its_timer = is.timer (λ raw. let both = sym sleeper ∙ raw in absurd cc)

    its_kind : kinds.Sleeper ≡ kind_over x
    its_kind = sym sleeper ∙ is.kind

  -- law: it is allowed, where the object doesn't refuse it
  pub may_anew : (call : Anew) (arm : Arm) → IsValidAnew d.kind call → refuses call x ≡ false → n < limit → IsOutcomeOf arm (anew_wanted d.clock call)
      → ObjectAllows x (anew_call call arm)
  may_anew (anews.Settime v) arm valid taken room outcome =
      settime_allowed d limit n x (settime_with v arm) is valid.has room valid.flags valid.value valid.interval outcome
  may_anew (anews.Sleep v) arm valid taken room outcome = at x (its_kind valid.sleeper) (its_timer valid.sleeper) taken
    where
      at : (y : Object) → kinds.Sleeper ≡ kind_over y → IsTimerOf d limit n (object_timer y) → refuses (anews.Sleep v) y ≡ false
          → ObjectAllows y (anew_call (anews.Sleep v) arm)
      at (objects.Sleeper s) k timer taken = (
        omega (arith, timer.limit, timer.stamp, room),
        valid.flags,
        valid.time,
        not_free (is_free s.sleep) taken,
        subst (λ c. IsOutcomeOf arm (sleep_start c v.flags v.time v.reading)) (sym timer.clock) outcome,
      )
      at y k timer taken = absurd cc
  may_anew (anews.Interrupt reading) arm valid taken room outcome = at x (its_kind valid) (its_timer valid) taken
    where
      at : (y : Object) → kinds.Sleeper ≡ kind_over y → IsTimerOf d limit n (object_timer y) → refuses (anews.Interrupt reading) y ≡ false
          → ObjectAllows y (anew_call (anews.Interrupt reading) arm)
      at (objects.Sleeper s) k timer taken = (omega (arith, timer.limit, timer.stamp, room), taken)
      at y k timer taken = absurd cc

  -- law: its reply is no refusal
  pub replies_anew : (call : Anew) (arm : Arm) → IsValidAnew d.kind call → refuses call x ≡ false → RepliesAnew call (object_answer x (anew_call call arm))
  replies_anew (anews.Settime v) arm valid taken = settime_replies d limit n x (settime_with v arm) is valid.has
  replies_anew (anews.Sleep v) arm valid taken = at x (its_kind valid.sleeper)
    where
      at : (y : Object) → kinds.Sleeper ≡ kind_over y → RepliesAnew (anews.Sleep v) (object_answer y (anew_call (anews.Sleep v) arm))
      at (objects.Sleeper s) k = slept_replies arm
      at y k = absurd cc
  replies_anew (anews.Interrupt reading) arm valid taken = at x (its_kind valid) taken
    where
      at : (y : Object) → kinds.Sleeper ≡ kind_over y → refuses (anews.Interrupt reading) y ≡ false
          → RepliesAnew (anews.Interrupt reading) (object_answer y (anew_call (anews.Interrupt reading) arm))
      at (objects.Sleeper s) k taken = ended_replies s.sleep (sleep_left s reading) s.stamp taken
      at y k taken = absurd cc

  -- law: the phase after it is that of its start
  module _ (o : Opening) (v w : KnownOfTimers) (t base : ℕ) (log log' : List Receipt) (same : (timer_at o.timers t).declared.clock ≡ d.clock) where
    pub bears_anew : (call : Anew) (arm : Arm) → IsValidAnew d.kind call
        → ArmsFor o v w t (anew_wanted d.clock call) base (anew_reading call) arm log log'
        → BearsStart o w t arm (phase_of (object_step x (anew_call call arm)))
    bears_anew (anews.Settime u) arm valid arms =
        subst (λ f. BearsStart o w t arm f) (sym (set_phase d limit n x (settime_with u arm) is valid.has))
        (arms_bears o v w t d u.flags u.value base u.reading log log' same valid.value (nat_eq u.value 0) arm arms)
    bears_anew (anews.Sleep u) arm valid arms = at x (its_kind valid.sleeper) (its_timer valid.sleeper)
      where
        at : (y : Object) → kinds.Sleeper ≡ kind_over y → IsTimerOf d limit n (object_timer y)
            → BearsStart o w t arm (phase_of (object_step y (anew_call (anews.Sleep u) arm)))
        at (objects.Sleeper s) k timer =
            subst (λ c. BearsStart o w t arm (phase_by c u.flags u.time u.reading arm)) (sym timer.clock)
            (arms_bears o v w t d u.flags u.time base u.reading log log' same valid.time (has_come d.clock u.flags u.time u.reading) arm arms)
        at y k timer = absurd cc
    bears_anew (anews.Interrupt reading) arm valid arms = at x (its_kind valid)
      where
        at : (y : Object) → kinds.Sleeper ≡ kind_over y → BearsStart o w t arm (phase_of (object_step y (anew_call (anews.Interrupt reading) arm)))
        at (objects.Sleeper s) k = subst (λ a. BearsStart o w t a phases.Idle) (sym arms.0) refl
        at y k = absurd cc
