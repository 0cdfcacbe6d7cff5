-- What a pass knows of a timer after calls on it.
use Rattle.std.proofs.Common.{◌≡◌, ℕ, ◌+◌, ◌≤◌, List, [], ◌∷◌, ◌++◌, length, refl, ap, sym, ◌∙◌, subst, arith, length-append}
use Rattle.std.specs.Prelude.{Bool, Some}
use Rattle.std.proofs.lemmas.List.{append-nil}
use Rattle.ktime.specs.declared.mode.Mode.TheVariants as modes
use Rattle.ktime.specs.Readings.{ClockReading}
use Rattle.ktime.specs.Times.{sat}
use Rattle.pass_names.specs.Passes.{Begins, places}
use Rattle.seq_timer.specs.declared.event.EventBy.TheVariants as events
use Rattle.seq_timer.specs.declared.event.Placement.{Placement}
use Rattle.seq_timer.specs.declared.system.SystemEntry.{SystemEntry}
use Rattle.seq_timer.specs.Histories as seq
use Rattle.seq_timer.specs.Steps.{Timer, after, now_of, reply_to}
use Rattle.seq_timer.specs.Systems.{AreSystemSteps, entries_of, first_system}
use Rattle.seq_timer.specs.Tables.{timer_at}
use Rattle.seq_timer.proofs.Agreement.{parts}
use Rattle.seq_timer.specs.declared.answer.CancelAnswer.{CancelAnswer}
use Rattle.seq_timer.specs.declared.answer.CancelAnswer.TheVariants as cancels
use Rattle.seq_timer.specs.Calls.{asked_for, step_all}
use Rattle.base_row.specs.declared.view.Opening.{Opening}
use Rattle.base_row.proofs.Begun.{entries_of-begins}
use Rattle.hr_timers.specs.declared.answer.StartAnswer.TheVariants as starts
use Rattle.hr_timers.specs.Known.{KnownOfTimers, MadeAt, timer_then}
use Rattle.hr_timers.specs.Calls.{Cancels, StartsTimer}
use Rattle.hr_timers.specs.Ways.{start_on}
use Rattle.hr_timers.proofs.Answered.{start_tells}
use Rattle.hr_timers.proofs.Moments.{along, timer_after, timer_own}
use Rattle.shared_timer_uses.specs.Callers.{known_timer}

-- ---- entries

-- no place is added where no entry is made
pub no_places : (v w : KnownOfTimers) (t : ℕ) (x : List SystemEntry) → MadeAt v w t x [] → w.mine ≡ v.mine
no_places v w t x made = made.mine ∙ append-nil v.mine

pub one_place : (v w : KnownOfTimers) (t : ℕ) (x : List SystemEntry) (e : seq.Entry) → MadeAt v w t x (e ∷ []) → length w.mine ≡ length v.mine + 1
one_place v w t x e made = omega (arith, ap length made.mine, length-append v.mine (places t (length (entries_of t x)) (e ∷ [])))

-- the reply of an entry is that of its step
reply_there : (t : Timer) (xs ys : List seq.Entry) (e : seq.Entry) → seq.AreSteps t ((xs ++ e ∷ []) ++ ys) → e.reply ≡ reply_to (seq.after_all t xs) e.event
reply_there t [] ys e all = all.1
reply_there t (x ∷ xs) ys e all = reply_there (after t x.event) xs ys e all.2

pub reply_made : (o : Opening) (v w : KnownOfTimers) (t : ℕ) (x log : List SystemEntry) (e : seq.Entry) → MadeAt v w t x (e ∷ []) → Begins w.seen log
    → AreSystemSteps o.bases (length o.timers) (first_system o.timers) log → e.reply ≡ reply_to (timer_then o x t) e.event
reply_made o v w t x log e made begins history =
    let own = entries_of-begins t w.seen log begins in
    reply_there (timer_at o.timers t) (entries_of t x) own.rest e
    (subst (λ l. seq.AreSteps (timer_at o.timers t) l) (own.whole ∙ ap (λ l. l ++ own.rest) made.own)
    (parts o.bases (length o.timers) (first_system o.timers) log history t))
    ∙ ap (λ (s : Timer). reply_to s e.event) (sym (timer_own o x t))

-- ---- start

module _ (ns asked : ℕ) (reading : ClockReading) where
  -- a timer after a start that was sent to these bases
  abbrev started_now : Timer → List ℕ → ℕ → Timer
  started_now t sent last = step_all t (start_on (asked_for modes.Rel ns 0 asked reading) sent last)

  now_armed : (t : Timer) (sent : List ℕ) (last : ℕ) → (started_now t sent last).armed ≡ Some (started_now t sent last).stamp
  now_armed t [] last = refl
  now_armed t (b ∷ bs) last = now_armed (after t (events.Out b)) bs last

  now_expires : (t : Timer) (sent : List ℕ) (last : ℕ) → (started_now t sent last).expires ≡ sat (now_of (started_now t sent last) reading + ns)
  now_expires t [] last = omega arith
  now_expires t (b ∷ bs) last = now_expires (after t (events.Out b)) bs last

  module _ (o : Opening) (v w : KnownOfTimers) (t : ℕ) (was : Bool) (generation base outs : ℕ) (placement : Placement)
      (s : StartsTimer o v w t (asked_for modes.Rel ns 0 asked reading) (starts.Started was generation base outs placement)) where
    now : known_timer o w t ≡ started_now (timer_then o s.at t) s.sent s.last
    now = timer_after o v w t s.at _ s.made ∙ along (timer_then o s.at t) (start_on (asked_for modes.Rel ns 0 asked reading) s.sent s.last)

    pub start_armed : (known_timer o w t).armed ≡ Some generation
    start_armed =
        ap (λ (x : Timer). x.armed) now ∙ (now_armed (timer_then o s.at t) s.sent s.last
        ∙ ap (λ n. Some n) (ap (λ (x : Timer). x.stamp) (sym now) ∙ sym (start_tells o v w t _ _ s)))

    pub start_expires : (known_timer o w t).expires ≡ sat (now_of (known_timer o w t) reading + ns)
    start_expires =
        subst (λ (x : Timer). x.expires ≡ sat (now_of x reading + ns)) (sym now) (now_expires (timer_then o s.at t) s.sent s.last)

pub start_spent : (o : Opening) (v w : KnownOfTimers) (t ns asked : ℕ) (reading : ClockReading) (n : ℕ) → StartsTimer o v w t (asked_for modes.Rel ns 0 asked reading) (starts.Spent n)
    → (known_timer o w t).terms.limit ≤ (known_timer o w t).stamp
start_spent o v w t ns asked reading n s =
    subst (λ (x : Timer). x.terms.limit ≤ x.stamp) (sym (timer_after o v w t s.at [] s.made)) s.fits.1

-- ---- cancel

module _ (o : Opening) (v w : KnownOfTimers) (t : ℕ) where
  pub cancel_rests : (n : ℕ) → Cancels o v w t (cancels.Idle n) → seq.IsIdle (known_timer o w t)
  cancel_rests n c = subst seq.IsIdle (sym (timer_after o v w t c.at [] c.made)) c.fits.0

  pub cancel_disarms : (g n : ℕ) → Cancels o v w t (cancels.Cancelled g n) → seq.IsIdle (known_timer o w t)
  cancel_disarms g n c =
      subst seq.IsIdle (sym (timer_after o v w t c.at _ c.made)) (record { armed = refl; running = c.fits.1; moving = c.fits.2 })

  pub cancel_running : (g n : ℕ) → Cancels o v w t (cancels.Running g n) → (known_timer o w t).running ≡ Some g
  cancel_running g n c = ap (λ (x : Timer). x.running) (timer_after o v w t c.at [] c.made) ∙ c.fits.0

  -- a cancel that hasn't answered Running leaves the timer idle
  pub cancel_idle : (a : CancelAnswer) → Cancels o v w t a → ((g n : ℕ) → a ≡ cancels.Running g n → ⊥) → seq.IsIdle (known_timer o w t)
  cancel_idle (cancels.Idle n) c ended = cancel_rests n c
  cancel_idle (cancels.Cancelled g n) c ended = cancel_disarms g n c
  cancel_idle (cancels.Running g n) c ended = absurd (ended g n refl)

  -- and makes an entry only where it has answered Cancelled
  pub cancel_unmade : (a : CancelAnswer) → Cancels o v w t a → ((g n : ℕ) → a ≡ cancels.Cancelled g n → ⊥) → w.mine ≡ v.mine
  cancel_unmade (cancels.Idle n) c other = no_places v w t c.at c.made
  cancel_unmade (cancels.Cancelled g n) c other = absurd (other g n refl)
  cancel_unmade (cancels.Running g n) c other = no_places v w t c.at c.made
