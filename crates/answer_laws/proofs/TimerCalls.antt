-- Each call on a timer has one answer at one moment, and makes the same entries. The passes before may differ in what they had seen.
use Rattle.std.proofs.Common.{◌≡◌, ℕ, [], ◌∷◌, ap, sym, ◌∙◌, subst, refl, Bool}
use Rattle.std.specs.Prelude.{◌+◌}
use Rattle.ktime.specs.Readings.{ClockReading}
use Rattle.pass_names.specs.Counts.{without_first}
use Rattle.seq_timer.specs.Events.{Asked}
use Rattle.seq_timer.specs.Histories as seq
use Rattle.seq_timer.specs.Steps.{rearmed_by}
use Rattle.seq_timer.specs.declared.answer.CancelAnswer.{CancelAnswer}
use Rattle.seq_timer.specs.declared.answer.Finished.{Finished}
use Rattle.seq_timer.specs.declared.answer.ForwardAnswer.{ForwardAnswer}
use Rattle.seq_timer.specs.declared.answer.Rearmed.{Rearmed}
use Rattle.seq_timer.specs.declared.event.EventBy.TheVariants as events
use Rattle.seq_timer.specs.declared.observation.Peek.{Peek}
use Rattle.base_row.specs.Rules.{is_base_claim}
use Rattle.base_row.specs.declared.view.Opening.{Opening}
use Rattle.hr_timers.specs.declared.answer.StartAnswer.{StartAnswer}
use Rattle.hr_timers.specs.declared.numbers.ClaimNumbers.{ClaimNumbers}
use Rattle.hr_timers.specs.Calls.{CancelFits, Cancels, Finishes, ForwardFits, Forwards, Peeks, StartFits, StartsTimer, cancel_entries, entry_by, forward_entries, start_entries}
use Rattle.hr_timers.specs.Known.{KnownOfTimers, timer_then}
use Rattle.answer_laws.specs.Outcomes.{SameOutcome, SameOwn, StartMoment, start_moment}
use Rattle.answer_laws.proofs.OneAnswer.{one_cancel, one_forward, one_start}
use Rattle.answer_laws.proofs.Outcomes.{made_once}

module _ (o : Opening) (v v' w w' : KnownOfTimers) (own : SameOwn v v') where
  pub peek_once : (t : ℕ) (p p' : Peek) (c : Peeks o v w t p) (d : Peeks o v' w' t p') → c.at ≡ d.at → (p ≡ p') × SameOutcome w w' t
  peek_once t p p' c d e = (
    c.fits ∙ (ap (λ x. seq.peek_of (timer_then o x t)) e ∙ sym d.fits),
    made_once v v' w w' t t c.at d.at [] [] own c.made d.made refl e refl
        (c.claims ∙ (own.claims ∙ sym d.claims)),
  )

  module _ (t : ℕ) (asked asked' : Asked) (a a' : StartAnswer) (c : StartsTimer o v w t asked a) (d : StartsTimer o v' w' t asked' a') where
    pub same_start : asked ≡ asked' → start_moment o v w t asked a c ≡ start_moment o v' w' t asked' a' d → a ≡ a'
    same_start f e = one_start (timer_then o c.at t) asked c.sent c.last a a' c.fits
        (subst (λ (m : StartMoment). StartFits (timer_then o m.at t) asked m.sent m.last a') (sym e)
        (subst (λ k. StartFits (timer_then o d.at t) k d.sent d.last a') (sym f) d.fits))

    pub same_start_entries : asked ≡ asked' → start_moment o v w t asked a c ≡ start_moment o v' w' t asked' a' d
        → start_entries (timer_then o c.at t) asked c.sent c.last a ≡ start_entries (timer_then o d.at t) asked' d.sent d.last a'
    same_start_entries f e =
        ap (λ (m : StartMoment). start_entries (timer_then o m.at t) asked m.sent m.last a) e
        ∙ (ap (λ k. start_entries (timer_then o d.at t) k d.sent d.last a) f
        ∙ ap (start_entries (timer_then o d.at t) asked' d.sent d.last) (same_start f e))

    pub start_once : asked ≡ asked' → start_moment o v w t asked a c ≡ start_moment o v' w' t asked' a' d → (a ≡ a') × SameOutcome w w' t
    start_once f e = (
      same_start f e,
      made_once v v' w w' t t c.at d.at _ _ own c.made d.made refl (ap (λ (m : StartMoment). m.at) e) (same_start_entries f e)
          (c.claims ∙ (own.claims ∙ sym d.claims)),
    )

  module _ (t : ℕ) (a a' : CancelAnswer) (c : Cancels o v w t a) (d : Cancels o v' w' t a') (e : c.at ≡ d.at) where
    pub same_cancel : a ≡ a'
    same_cancel = one_cancel (timer_then o c.at t) a a' c.fits (subst (λ x. CancelFits (timer_then o x t) a') (sym e) d.fits)

    pub cancel_once : (a ≡ a') × SameOutcome w w' t
    cancel_once = (
      same_cancel,
      made_once v v' w w' t t c.at d.at _ _ own c.made d.made refl e (ap cancel_entries same_cancel) (c.claims
          ∙ (own.claims ∙ sym d.claims)),
    )

  module _ (n : ClaimNumbers) (reading : ClockReading) where
    module _ (interval : ℕ) (a a' : ForwardAnswer) (c : Forwards o v w n reading interval a) (d : Forwards o v' w' n reading interval a')
        (e : c.at ≡ d.at) where
      same_forward : a ≡ a'
      same_forward = one_forward (timer_then o c.at n.timer) reading interval a a' c.fits
          (subst (λ x. ForwardFits (timer_then o x n.timer) reading interval a') (sym e) d.fits)

      pub same_forward_entries : forward_entries (timer_then o c.at n.timer) reading interval a ≡ forward_entries
          (timer_then o d.at n.timer) reading interval a'
      same_forward_entries =
          ap (λ x. forward_entries (timer_then o x n.timer) reading interval a) e
          ∙ ap (forward_entries (timer_then o d.at n.timer) reading interval) same_forward

      pub forward_once : (a ≡ a') × SameOutcome w w' n.timer
      forward_once = (
        same_forward,
        made_once v v' w w' n.timer n.timer c.at d.at _ _ own c.made d.made refl e same_forward_entries (c.claims
            ∙ (own.claims ∙ sym d.claims)),
      )

  module _ (n : ClaimNumbers) (restart : Bool) (a a' : Finished) (c : Finishes o v w n restart a) (d : Finishes o v' w' n restart a') (e : c.at ≡ d.at) where
    pub same_finish_entries : entry_by (timer_then o c.at n.timer) (events.Finish restart) ∷ [] ≡ entry_by (timer_then o d.at n.timer)
        (events.Finish restart) ∷ []
    same_finish_entries = ap (λ x. entry_by (timer_then o x n.timer) (events.Finish restart) ∷ []) e

    pub finish_once : (a ≡ a') × SameOutcome w w' n.timer
    finish_once =
        let number : a.number ≡ a'.number = c.number ∙ (ap (λ x. (timer_then o x n.timer).stamp + 1) e ∙ sym d.number) in
        let rearmed : a.rearmed ≡ a'.rearmed = c.rearmed ∙ (ap (λ x. rearmed_by (timer_then o x n.timer) restart) e ∙ sym d.rearmed) in (
          finished_same a.number a'.number a.rearmed a'.rearmed number rearmed,
          made_once v v' w w' n.timer n.timer c.at d.at _ _ own c.made d.made refl e same_finish_entries
              (c.claims ∙ (ap (without_first (is_base_claim n.timer n.generation n.base)) own.claims ∙ sym d.claims)),
        )
      where
        finished : ℕ → Rearmed → Finished
        finished m r = record { number = m; rearmed = r }

        finished_same : (m k : ℕ) (r q : Rearmed) → m ≡ k → r ≡ q → finished m r ≡ finished k q
        finished_same m k r q x y = cc
