-- The number that a call answers is how many entries its pass has then seen of the timer, so it is near the timer's limit.
use Rattle.std.proofs.Common.{◌≡◌, ℕ, Bool, [], arith, ap, sym, ◌∙◌}
use Rattle.seq_timer.specs.declared.context.Context.{Context}
use Rattle.seq_timer.specs.Events.{Asked}
use Rattle.ktime.specs.Readings.{ClockReading}
use Rattle.seq_timer.specs.declared.observation.Peek.{Peek}
use Rattle.seq_timer.specs.Steps.{Timer}
use Rattle.seq_timer.specs.declared.answer.CancelAnswer.{CancelAnswer}
use Rattle.seq_timer.specs.declared.answer.CancelAnswer.TheVariants as cancels
use Rattle.seq_timer.specs.declared.answer.ForwardAnswer.{ForwardAnswer}
use Rattle.seq_timer.specs.declared.answer.ForwardAnswer.TheVariants as forwards
use Rattle.seq_timer.specs.declared.answer.Finished.{Finished}
use Rattle.hr_timers.specs.Ways.{start_on}
use Rattle.base_row.specs.declared.view.Opening.{Opening}
use Rattle.hr_timers.specs.declared.answer.StartAnswer.{StartAnswer}
use Rattle.hr_timers.specs.declared.answer.StartAnswer.TheVariants as starts
use Rattle.hr_timers.specs.declared.numbers.ClaimNumbers.{ClaimNumbers}
use Rattle.hr_timers.specs.Known.{KnownOfTimers, timer_then}
use Rattle.hr_timers.specs.Calls.{Cancels, ClaimsNextDue, Finishes, Forwards, Peeks, StartsTimer}
use Rattle.hr_timers.specs.Answered.{cancel_number, forward_number, start_number}
use Rattle.hr_timers.proofs.Moments.{along, stamp_made, timer_after}

-- of the timer before and after it, what a start that isn't refused answers
generation_told : (was now : StartAnswer) → was ≡ now → start_number was ≡ start_number now
generation_told was now e = ap start_number e

module _ (o : Opening) (v w : KnownOfTimers) (t : ℕ) where
  pub start_tells : (asked : Asked) (a : StartAnswer) → StartsTimer o v w t asked a
      → start_number a ≡ (timer_then o w.seen t).stamp
  start_tells asked (starts.Started was_armed generation base outs placement) s =
      let u = timer_then o s.at t in
      generation_told _ _ s.fits.2
      ∙ sym (ap (λ (x : Timer). x.stamp) (timer_after o v w t s.at _ s.made ∙ along u (start_on asked s.sent s.last)))
  start_tells asked (starts.Spent n) s = omega (arith, s.fits.2, stamp_made o v w t s.at [] s.made)

  pub cancel_tells : (a : CancelAnswer) → Cancels o v w t a → cancel_number a ≡ (timer_then o w.seen t).stamp
  cancel_tells (cancels.Idle n) c = omega (arith, c.fits.1, stamp_made o v w t c.at [] c.made)
  cancel_tells (cancels.Cancelled g n) c = omega (arith, c.fits.3, stamp_made o v w t c.at _ c.made)
  cancel_tells (cancels.Running g n) c = omega (arith, c.fits.1, stamp_made o v w t c.at [] c.made)

  pub peek_tells : (p : Peek) → Peeks o v w t p → p.stamp ≡ (timer_then o w.seen t).stamp
  peek_tells p peeks = omega (arith, ap (λ (q : Peek). q.stamp) peeks.fits, stamp_made o v w t peeks.at [] peeks.made)

module _ (o : Opening) (v w : KnownOfTimers) (c : ClaimNumbers) where
  pub claim_tells : (x : Context) (base : ℕ) (reading : ClockReading) → ClaimsNextDue o v w x base reading c → c.number ≡ (timer_then o w.seen c.timer).stamp
  claim_tells x base reading claims = omega (arith, claims.number, stamp_made o v w c.timer claims.at _ claims.made)

  pub forward_tells : (reading : ClockReading) (interval : ℕ) (a : ForwardAnswer) → Forwards o v w c reading interval a
      → forward_number a ≡ (timer_then o w.seen c.timer).stamp
  forward_tells reading interval (forwards.Forwarded number moved) f =
      omega (arith, ap forward_number f.fits.2, stamp_made o v w c.timer f.at _ f.made)
  forward_tells reading interval (forwards.Spent n) f = omega (arith, f.fits.1, stamp_made o v w c.timer f.at [] f.made)
  forward_tells reading interval (forwards.Armed g n) f = omega (arith, f.fits.2, stamp_made o v w c.timer f.at [] f.made)

  pub finish_tells : (restart : Bool) (a : Finished) → Finishes o v w c restart a → a.number ≡ (timer_then o w.seen c.timer).stamp
  finish_tells restart a f = omega (arith, f.number, stamp_made o v w c.timer f.at _ f.made)
