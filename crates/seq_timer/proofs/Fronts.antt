-- The front of a base is a timer that is armed there; a base without one has no timer in its queues.
use Rattle.std.proofs.Common.{◌≡◌, ◌⊎◌, ℕ, true, false, List, [], ◌∷◌, Option, Some, None, if◌then◌else◌, arith, refl, sym, ap, ◌∙◌, subst, inl, inr}
use Rattle.std.specs.Option.{option_or}
use Rattle.std.proofs.Math.Logic.{⊎_elim}
use Rattle.std.proofs.lemmas.Bool.Decides.{nat_tests}
use Rattle.ktime.specs.declared.clock_id.ClockId.{ClockId}
use Rattle.ktime.specs.declared.clock_id.ClockId.TheVariants as clocks
use Rattle.timer_queue.specs.Pairs.{expiry_of, first_of}
use Rattle.timer_queue.proofs.Pairs.{expiry_of-first}
use Rattle.seq_timer.specs.declared.context.Context.{Context}
use Rattle.seq_timer.specs.declared.context.Context.TheVariants as contexts
use Rattle.seq_timer.specs.Steps.{Timer}
use Rattle.seq_timer.specs.Tables.{in_context, is_armed_on, is_kept_on}
use Rattle.seq_timer.specs.Halves.{Half, front_in, no_half, queue_of, wanted}
use Rattle.seq_timer.specs.Contents.{Content, IsContentOf, front_of, half_of, no_content, running_in}
use Rattle.seq_timer.proofs.Contents.{seen_armed, seen_own}
use Rattle.seq_timer.proofs.Due.{or_none, or_some}

-- ---- one context

first_none : (queue : List (ℕ × ℕ)) → first_of queue ≡ None → queue ≡ []
first_none [] none = refl
first_none (p ∷ ps) none = absurd cc

empty_queue : (h : Half) → front_in h ≡ None → (clock : ClockId) → queue_of h clock ≡ []
empty_queue h none clocks.Monotonic = first_none h.monotonic (or_none (first_of h.monotonic) (first_of h.realtime) (first_of h.boottime) none).0
empty_queue h none clocks.Realtime = first_none h.realtime (or_none (first_of h.monotonic) (first_of h.realtime) (first_of h.boottime) none).1
empty_queue h none clocks.Boottime = first_none h.boottime (or_none (first_of h.monotonic) (first_of h.realtime) (first_of h.boottime) none).2

half_clear : (h : Half) → front_in h ≡ None → h.running ≡ None → h ≡ no_half
half_clear h none idle = λ i. record {
  monotonic = empty_queue h none clocks.Monotonic i;
  realtime = empty_queue h none clocks.Realtime i;
  boottime = empty_queue h none clocks.Boottime i;
  running = idle i;
}

-- the queue that the front of a context stands in
in_queue : (h : Half) (p : ℕ × ℕ) → front_in h ≡ Some p → (clock : ClockId) × (first_of (queue_of h clock) ≡ Some p)
in_queue h p is =
    ⊎_elim
    (λ m. (clocks.Monotonic, m))
    (λ rest. ⊎_elim (λ r. (clocks.Realtime, r.1)) (λ b. (clocks.Boottime, b.2)) rest)
    (or_some (first_of h.monotonic) (first_of h.realtime) (first_of h.boottime) p is)

-- ---- both contexts

either_none : (a b : Option (ℕ × ℕ)) → option_or a b ≡ None → (a ≡ None) × (b ≡ None)
either_none None b none = (refl, none)
either_none (Some p) b none = absurd cc

either_some : (a b : Option (ℕ × ℕ)) (p : ℕ × ℕ) → option_or a b ≡ Some p → (a ≡ Some p) ⊎ (b ≡ Some p)
either_some None b p is = inr is
either_some (Some q) b p is = inl is

no_front : (c : Content) → front_of c ≡ None → (x : Context) → front_in (half_of x c) ≡ None
no_front c none contexts.Hard = (either_none (front_in c.hard) (front_in c.soft) none).0
no_front c none contexts.Soft = (either_none (front_in c.hard) (front_in c.soft) none).1

-- a base with no timer in its queues, where no function runs, has nothing
pub front-clear : (c : Content) → front_of c ≡ None → ((x : Context) → running_in x c ≡ None) → c ≡ no_content
front-clear c none idle = λ i. record {
  hard = half_clear c.hard (no_front c none contexts.Hard) (idle contexts.Hard) i;
  soft = half_clear c.soft (no_front c none contexts.Soft) (idle contexts.Soft) i;
}

kept_armed : (base : ℕ) (clock : ClockId) (t : Timer) (expires : ℕ) → Some expires ≡ (if is_kept_on base clock t then Some t.expires else None)
    → (is_armed_on base t ≡ true) × (expires ≡ t.expires)
kept_armed base clock t expires is = grind (arith, nat_tests)

kept_none : (base : ℕ) (t : Timer) → None ≡ wanted base t.clock t → is_armed_on base t ≡ false
kept_none base t is = grind (arith, nat_tests)

module _ (timers : ℕ → Timer) (base : ℕ) (c : Content) (agrees : IsContentOf timers base c) where
  armed_in_context : (x : Context) (p : ℕ × ℕ) → front_in (half_of x c) ≡ Some p
      → (is_armed_on base (timers p.1) ≡ true) × (p.0 ≡ (timers p.1).expires)
  armed_in_context x p is =
      let at = in_queue (half_of x c) p is in
      let kept = kept_armed base at.0 (in_context x timers p.1) p.0
      (sym (expiry_of-first (queue_of (half_of x c) at.0) p at.1) ∙ ((agrees.each x).queues at.0).exact p.1) in
      subst (λ (t : Timer). (is_armed_on base t ≡ true) × (p.0 ≡ t.expires)) (sym (seen_armed x base (timers p.1) kept.0)) kept

  -- the timer that stands first is armed on the base
  pub front-armed : (p : ℕ × ℕ) → front_of c ≡ Some p → (is_armed_on base (timers p.1) ≡ true) × (p.0 ≡ (timers p.1).expires)
  front-armed p is = ⊎_elim (armed_in_context contexts.Hard p) (armed_in_context contexts.Soft p) (either_some (front_in c.hard) (front_in c.soft) p is)

  -- where no timer stands first, none is armed on the base
  pub front-unarmed : front_of c ≡ None → (t : ℕ) → is_armed_on base (timers t) ≡ false
  front-unarmed none t =
      let own = timers t in
      let x = own.declared.context in
      kept_none base own (sym (ap (expiry_of t) (empty_queue (half_of x c) (no_front c none x) own.clock)) ∙ ((agrees.each x).queues own.clock).exact t
      ∙ ap (wanted base own.clock) (seen_own own))
