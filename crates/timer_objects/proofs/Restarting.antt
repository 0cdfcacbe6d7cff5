-- The expiry that a start leaves which keeps its timer's clock.
use Rattle.std.proofs.Common.{arith, ap, ◌≡◌, ◌∙◌, ℕ, List, [], ◌∷◌}
use Rattle.ktime.specs.declared.mode.Mode.TheVariants as modes
use Rattle.ktime.specs.Readings.{ClockReading}
use Rattle.ktime.specs.Times.{sat}
use Rattle.base_row.specs.declared.view.Opening.{Opening}
use Rattle.seq_timer.specs.declared.event.EventBy.TheVariants as events
use Rattle.seq_timer.specs.Steps.{Timer, after}
use Rattle.seq_timer.specs.Calls.{asked_for, step_all}
use Rattle.hr_timers.specs.declared.answer.StartAnswer.{StartAnswer}
use Rattle.hr_timers.specs.declared.answer.StartAnswer.TheVariants as starts
use Rattle.hr_timers.specs.Known.{KnownOfTimers, timer_then}
use Rattle.hr_timers.specs.Calls.{StartsTimer}
use Rattle.hr_timers.specs.Ways.{start_on}
use Rattle.hr_timers.proofs.Moments.{along, timer_after}
use Rattle.timer_setting.specs.declared.arming.Arm.TheVariants as arms
use Rattle.timer_objects.specs.Arming.{arm_of}

module _ (o : Opening) (v w : KnownOfTimers) (t ns asked : ℕ) (reading : ClockReading) where
  kept_expiry : (sent : List ℕ) (last : ℕ) (u : Timer) → (step_all u (start_on (asked_for modes.Keep ns 0 asked reading) sent last)).expires ≡ sat ns
  kept_expiry [] last u = omega arith
  kept_expiry (b ∷ bs) last u = kept_expiry bs last (after u (events.Out b))

  pub expiry : (a : StartAnswer) (g : ℕ) → StartsTimer o v w t (asked_for modes.Keep ns 0 asked reading) a → arms.Armed g ≡ arm_of a
      → (timer_then o w.seen t).expires ≡ sat ns
  expiry (starts.Started was_armed generation base outs placement) g s e =
      let u = timer_then o s.at t in
      ap (λ (x : Timer). x.expires) (timer_after o v w t s.at _ s.made ∙ along u (start_on (asked_for modes.Keep ns 0 asked reading) s.sent s.last))
      ∙ kept_expiry s.sent s.last u
  expiry (starts.Spent n) g s e = cc
