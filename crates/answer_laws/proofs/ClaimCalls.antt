-- At one moment one timer's turn it is on a base, or none's, or one function runs there.
use Rattle.std.proofs.Common.{◌≡◌, ℕ, List, [], ◌∷◌, ap, sym, ◌∙◌, refl, Bool, true, false}
use Rattle.std.specs.Prelude.{Option, Some, None, ◌+◌, ◌++◌, ◌&&◌, is_some, nat_eq, if◌then◌else◌}
use Rattle.std.proofs.lemmas.Bool.{eqb-true}
use Rattle.ktime.specs.Readings.{ClockReading}
use Rattle.seq_timer.specs.Contents.{half_of}
use Rattle.seq_timer.specs.Halves.{generation_in, running_on}
use Rattle.seq_timer.specs.Steps.{Timer}
use Rattle.seq_timer.specs.Systems.{next_on, system_after}
use Rattle.seq_timer.specs.Tables.{in_context, runs_on}
use Rattle.seq_timer.specs.declared.context.Context.{Context}
use Rattle.seq_timer.specs.declared.event.EventBy.TheVariants as events
use Rattle.seq_timer.specs.declared.system.SystemEntry.{SystemEntry}
use Rattle.seq_timer.proofs.Agreement.{agrees}
use Rattle.base_row.specs.Calls.{AreFresh}
use Rattle.base_row.specs.declared.log.Receipt.{Receipt}
use Rattle.base_row.specs.declared.view.Opening.{Opening}
use Rattle.hr_timers.specs.declared.answer.ClaimAnswer.{ClaimAnswer}
use Rattle.hr_timers.specs.declared.answer.ClaimAnswer.TheVariants as claimings
use Rattle.hr_timers.specs.declared.numbers.ClaimNumbers.{ClaimNumbers}
use Rattle.hr_timers.specs.Calls.{ClaimFits, ClaimsNextDue, entry_by}
use Rattle.hr_timers.specs.Known.{KnownOfTimers, KnowsTimers, claimed_as, timer_then}
use Rattle.hr_timers.specs.Logged.{ClaimIsLogged}
use Rattle.answer_laws.specs.Outcomes.{SameOutcome, SameOwn, claim_moment}
use Rattle.answer_laws.proofs.BaseCalls.{some_is}
use Rattle.answer_laws.proofs.Outcomes.{logged_once, looked_once, made_once}

-- where a function runs one runs
pub no_idle : (base g : ℕ) (u : Timer) → runs_on base u ≡ false → running_on base u ≡ Some g → ⊥
no_idle base g u idle runs = at (nat_eq u.base base) u.running idle runs
  where
    at : (b : Bool) (r : Option ℕ) → is_some r && b ≡ false → (if b then r else None) ≡ Some g → ⊥
    at true (Some n) i e = cc
    at true None i e = cc
    at false r i e = cc

-- one function is marked
marked : (t g : ℕ) (r : ℕ × ℕ) → generation_in t (Some r) ≡ Some g → (r.0 ≡ t) × (r.1 ≡ g)
marked t g r e = at (nat_eq r.0 t) refl e
  where
    at : (b : Bool) → nat_eq r.0 t ≡ b → (if b then Some r.1 else None) ≡ Some g → (r.0 ≡ t) × (r.1 ≡ g)
    at true same e = (eqb-true r.0 t same, some_is _ _ e)
    at false same e = absurd cc

one_marked : (t g u h : ℕ) (r : Option (ℕ × ℕ)) → generation_in t r ≡ Some g → generation_in u r ≡ Some h → (t ≡ u) × (g ≡ h)
one_marked t g u h None e f = absurd cc
one_marked t g u h (Some r) e f =
    let a = marked t g r e in
    let b = marked u h r f in (sym a.0 ∙ b.0, sym a.1 ∙ b.1)

-- of a context one function runs on a base, after a history
pub one_function : (o : Opening) (k : KnownOfTimers) (x : Context) (base t g u h : ℕ) → AreFresh o.timers → KnowsTimers o k
    → running_on base (in_context x (timer_then o k.seen) t) ≡ Some g → running_on base (in_context x (timer_then o k.seen) u) ≡ Some h → (t ≡ u) × (g ≡ h)
one_function o k x base t g u h fresh knows a b =
    let half = ((agrees o.bases o.timers k.seen fresh.each knows.history).contents base).each x in
    one_marked t g u h (half_of x ((system_after o.timers k.seen).bases base).content).running (half.running t ∙ a) (half.running u ∙ b)

module _ (o : Opening) (v v' w w' : KnownOfTimers) (x : Context) (base : ℕ) (reading : ClockReading) where
  module _ (n m : ClaimNumbers) (c : ClaimsNextDue o v w x base reading n) (d : ClaimsNextDue o v' w' x base reading m) (e : c.at ≡ d.at) where
    same_timer : n.timer ≡ m.timer
    same_timer = ap (λ (p : ℕ × ℕ). p.1)
        (some_is _ _ (sym c.first ∙ (ap (λ y. next_on x ((system_after o.timers y).bases base) reading) e ∙ d.first)))

    same_state : timer_then o c.at n.timer ≡ timer_then o d.at m.timer
    same_state = ap (λ y. timer_then o y n.timer) e ∙ ap (timer_then o d.at) same_timer

    pub same_claim : n ≡ m
    same_claim = numbers_same n.timer m.timer n.generation m.generation n.base m.base n.number m.number same_timer
        (some_is _ _ (sym c.armed ∙ (ap (λ (t : Timer). t.armed) same_state ∙ d.armed))) (c.there ∙ sym d.there)
        (c.number ∙ (ap (λ (t : Timer). t.stamp + 1) same_state ∙ sym d.number))
      where
        numbers : ℕ → ℕ → ℕ → ℕ → ClaimNumbers
        numbers t g b k = record { timer = t; generation = g; base = b; number = k }

        numbers_same : (t u g h b p k l : ℕ) → t ≡ u → g ≡ h → b ≡ p → k ≡ l → numbers t g b k ≡ numbers u h p l
        numbers_same t u g h b p k l i j r s = cc

    same_claim_entry : entry_by (timer_then o c.at n.timer) (events.Claim base reading) ∷ [] ≡ entry_by (timer_then o d.at m.timer)
        (events.Claim base reading) ∷ []
    same_claim_entry = ap (λ t. entry_by t (events.Claim base reading) ∷ []) same_state

  pub no_turn : (at seen : List SystemEntry) (p : ℕ × ℕ) → next_on x ((system_after o.timers at).bases base) reading ≡ Some p
      → next_on x ((system_after o.timers seen).bases base) reading ≡ None → at ≡ seen → ⊥
  no_turn at seen p some none e = let f = ap (λ y. next_on x ((system_after o.timers y).bases base) reading) e in cc

  pub not_both : (at seen : List SystemEntry) (t g : ℕ) → ((u : ℕ) → runs_on base (in_context x (timer_then o at) u) ≡ false)
      → running_on base (in_context x (timer_then o seen) t) ≡ Some g → at ≡ seen → ⊥
  not_both at seen t g idle runs e = no_idle base g (in_context x (timer_then o seen) t)
      (sym (ap (λ y. runs_on base (in_context x (timer_then o y) t)) e) ∙ idle t) runs

module _ (o : Opening) (v v' w w' : KnownOfTimers) (own : SameOwn v v') (x : Context) (base : ℕ) (reading : ClockReading) where
  pub claims_once : (n m : ClaimNumbers) (c : ClaimsNextDue o v w x base reading n) (d : ClaimsNextDue o v' w' x base reading m) → c.at ≡ d.at
      → (n ≡ m) × SameOutcome w w' n.timer
  claims_once n m c d e =
      let same = same_claim o v v' w w' x base reading n m c d e in (
        same,
        made_once v v' w w' n.timer m.timer c.at d.at _ _ own c.made d.made (same_timer o v v' w w' x base reading n m c d e) e
            (same_claim_entry o v v' w w' x base reading n m c d e)
            (c.claims ∙ (ap (λ l. l ++ claimed_as n ∷ []) own.claims ∙ (ap (λ k. v'.claims ++ claimed_as k ∷ []) same ∙ sym d.claims))),
      )

  pub claim_once : (a a' : ClaimAnswer) (c : ClaimFits o v w x base reading a) (d : ClaimFits o v' w' x base reading a') → AreFresh o.timers → KnowsTimers o w
      → claim_moment o v w x base reading a c ≡ claim_moment o v' w' x base reading a' d → (a ≡ a') × SameOwn w w'
  claim_once (claimings.Claimed n) (claimings.Claimed m) c d fresh knows e =
      let same = claims_once n m c d e in (ap claimings.Claimed same.0, same.1.own)
  claim_once (claimings.Claimed n) claimings.NoneDue c d fresh knows e = absurd (no_turn o v v' w w' x base reading _ _ _ c.first d.1.first e)
  claim_once (claimings.Claimed n) (claimings.BaseBusy t g) c d fresh knows e = absurd (not_both o v v' w w' x base reading _ _ t g c.idle d.1 e)
  claim_once claimings.NoneDue (claimings.Claimed m) c d fresh knows e = absurd (no_turn o v v' w w' x base reading _ _ _ d.first c.1.first (sym e))
  claim_once claimings.NoneDue claimings.NoneDue c d fresh knows e = (refl, looked_once v v' w w' own c.0 d.0)
  claim_once claimings.NoneDue (claimings.BaseBusy t g) c d fresh knows e = absurd (not_both o v v' w w' x base reading _ _ t g c.1.idle d.1 e)
  claim_once (claimings.BaseBusy t g) (claimings.Claimed m) c d fresh knows e = absurd (not_both o v v' w w' x base reading _ _ t g d.idle c.1 (sym e))
  claim_once (claimings.BaseBusy t g) claimings.NoneDue c d fresh knows e = absurd (not_both o v v' w w' x base reading _ _ t g d.1.idle c.1 (sym e))
  claim_once (claimings.BaseBusy t g) (claimings.BaseBusy u h) c d fresh knows e =
      let one = one_function o w x base t g u h fresh knows c.1 (ap (λ y. running_on base (in_context x (timer_then o y) u)) e ∙ d.1) in
      (busy_same one.0 one.1, looked_once v v' w w' own c.0 d.0)
    where
      busy_same : {i j k l : ℕ} → i ≡ j → k ≡ l → claimings.BaseBusy i k ≡ claimings.BaseBusy j l
      busy_same p q = cc

  module _ {A : Type 0} (put : A → Receipt → A) (s r r' : A) where
    pub claim_logged_once : (a a' : ClaimAnswer) (c : ClaimFits o v w x base reading a) (d : ClaimFits o v' w' x base reading a')
        → claim_moment o v w x base reading a c ≡ claim_moment o v' w' x base reading a' d → a ≡ a'
        → ClaimIsLogged put o v w x base reading a c s r → ClaimIsLogged put o v' w' x base reading a' d s r' → r ≡ r'
    claim_logged_once (claimings.Claimed n) (claimings.Claimed m) c d e f p q =
        logged_once put o n.timer m.timer c.at d.at _ _ s r r' p q (same_timer o v v' w w' x base reading n m c d e) e
        (same_claim_entry o v v' w w' x base reading n m c d e)
    claim_logged_once (claimings.Claimed n) claimings.NoneDue c d e f p q = absurd cc
    claim_logged_once (claimings.Claimed n) (claimings.BaseBusy t g) c d e f p q = absurd cc
    claim_logged_once claimings.NoneDue (claimings.Claimed m) c d e f p q = absurd cc
    claim_logged_once (claimings.BaseBusy t g) (claimings.Claimed m) c d e f p q = absurd cc
    claim_logged_once claimings.NoneDue claimings.NoneDue c d e f p q = p ∙ sym q
    claim_logged_once claimings.NoneDue (claimings.BaseBusy u h) c d e f p q = p ∙ sym q
    claim_logged_once (claimings.BaseBusy t g) claimings.NoneDue c d e f p q = p ∙ sym q
    claim_logged_once (claimings.BaseBusy t g) (claimings.BaseBusy u h) c d e f p q = p ∙ sym q
