-- A run of expiries notes what the moments of its turns say, and ends as what it has then seen says.
use Rattle.std.proofs.Common.{◌≡◌, ℕ, zero, suc, List, [], ◌∷◌, ap, sym, ◌∙◌, refl, arith}
use Rattle.std.specs.Prelude.{◌++◌}
use Rattle.ktime.specs.Readings.{ClockReading}
use Rattle.seq_timer.specs.Halves.{running_on}
use Rattle.seq_timer.specs.Tables.{in_context}
use Rattle.seq_timer.specs.declared.context.Context.{Context}
use Rattle.seq_timer.specs.declared.system.SystemEntry.{SystemEntry}
use Rattle.base_row.specs.Calls.{AreFresh}
use Rattle.base_row.specs.declared.log.Receipt.{Receipt}
use Rattle.base_row.specs.declared.view.Opening.{Opening}
use Rattle.hr_timers.specs.declared.numbers.ClaimNumbers.{ClaimNumbers}
use Rattle.hr_timers.specs.Known.{KnownOfTimers, KnowsTimers, timer_then}
use Rattle.hr_timers.specs.declared.expiry.ExpireAnswer.{ExpireAnswer}
use Rattle.hr_timers.specs.declared.expiry.ExpireAnswer.TheVariants as expiries
use Rattle.hr_timers.specs.declared.handler.Restart.{Restart}
use Rattle.hr_timers.specs.Expiring.{Expires, Turns, claim_receipt, finish_receipt}
use Rattle.hr_timers.specs.Handlers.{Meaning}
use Rattle.answer_laws.specs.Expiries.{TurnMoment, run_at, turns_at}
use Rattle.answer_laws.proofs.ClaimCalls.{not_both, one_function, same_claim}

cons_parts : {X : Type 0} (x y : X) (xs ys : List X) → x ∷ xs ≡ y ∷ ys → (x ≡ y) × (xs ≡ ys)
cons_parts x y xs ys e = (cc, cc)

more : (a b : ℕ) → a ≡ b → suc a ≡ suc b
more a b e = ap suc e

module _ {A : Type 0} (m : Meaning A) (o : Opening) (x : Context) (base : ℕ) (reading : ClockReading) (k : KnownOfTimers) (h : A) (log : List Receipt) where
  abbrev noted : List Receipt → ClaimNumbers → Restart → List SystemEntry → List Receipt
  noted l c restart at = l ++ claim_receipt reading c ∷ finish_receipt c restart (timer_then o at c.timer) ∷ []

  noted_same : (l l' : List Receipt) (c c' : ClaimNumbers) (r r' : Restart) (y y' : List SystemEntry) → l ≡ l' → c ≡ c' → r ≡ r' → y ≡ y'
      → noted l c r y ≡ noted l' c' r' y'
  noted_same l l' c c' r r' y y' e f g i =
      ap (λ z. noted z c r y) e ∙ (ap (λ z. noted l' z r y) f ∙ (ap (λ z. noted l' c' z y) g ∙ ap (noted l' c' r') i))

  turns_once : (n n' : ℕ) (k1 k2 : KnownOfTimers) (h1 h2 : A) (l l' : List Receipt) (t : Turns m o x base reading n k h log k1 h1 l)
      (u : Turns m o x base reading n' k h log k2 h2 l') → turns_at m o x base reading n k h log k1 h1 l t ≡ turns_at m o x base reading n' k h log k2 h2 l' u
      → (n ≡ n') × (l ≡ l')
  turns_once zero zero k1 k2 h1 h2 l l' t u e = (refl, t.2 ∙ sym u.2)
  turns_once zero (suc n') k1 k2 h1 h2 l l' t u e = absurd cc
  turns_once (suc n) zero k1 k2 h1 h2 l l' t u e = absurd cc
  turns_once (suc n) (suc n') k1 k2 h1 h2 l l' t u e =
      let parts = cons_parts _ _ _ _ e in
      let claimed = ap (λ (z : TurnMoment). z.claimed) parts.0 in
      let restart = ap (λ (z : TurnMoment). z.restart) parts.0 in
      let finished = ap (λ (z : TurnMoment). z.finished) parts.0 in
      let rest = turns_once n n' t.0 u.0 t.1 u.1 t.2 u.2 t.3 u.3 parts.1 in
      let claim = same_claim o t.0 u.0 t.4.claimed u.4.claimed x base reading t.4.claim u.4.claim t.4.claims u.4.claims claimed in
      (more n n' rest.0, t.4.receipts ∙ (noted_same _ _ _ _ _ _ _ _ rest.1 claim restart finished ∙ sym u.4.receipts))

  module _ (budget : ℕ) (n n' : KnownOfTimers) (i i' : A) (l l' : List Receipt) (fresh : AreFresh o.timers) (knows : KnowsTimers o n)
      (e : n.seen ≡ n'.seen) where
    pub run_once : (a a' : ExpireAnswer) (c : Expires m o x base reading budget k h log n i l a) (d : Expires m o x base reading budget k h log n' i' l' a')
        → run_at m o x base reading budget k h log n i l a c ≡ run_at m o x base reading budget k h log n' i' l' a' d → (a ≡ a') × (l ≡ l')
    run_once (expiries.More f) (expiries.More g) c d q = let t = turns_once f g n n' i i' l l' c.1 d.1 q in (ap expiries.More t.0, t.1)
    run_once (expiries.More f) (expiries.Done g) c d q =
        let t = turns_once f g n d.1.0 i i' l l' c.1 d.1.1 q in absurd (omega (arith, c.0, d.0, t.0))
    run_once (expiries.More f) (expiries.BaseBusy g t v) c d q =
        let s = turns_once f g n d.1.0 i i' l l' c.1 d.1.1 q in absurd (omega (arith, c.0, d.0, s.0))
    run_once (expiries.Done f) (expiries.More g) c d q =
        let t = turns_once f g c.1.0 n' i i' l l' c.1.1 d.1 q in absurd (omega (arith, c.0, d.0, t.0))
    run_once (expiries.Done f) (expiries.Done g) c d q =
        let t = turns_once f g c.1.0 d.1.0 i i' l l' c.1.1 d.1.1 q in (ap expiries.Done t.0, t.1)
    run_once (expiries.Done f) (expiries.BaseBusy g t v) c d q = absurd (not_both o n n' n n' x base reading n.seen n'.seen t v c.1.2.1.idle d.1.2.1 e)
    run_once (expiries.BaseBusy f t v) (expiries.More g) c d q =
        let s = turns_once f g c.1.0 n' i i' l l' c.1.1 d.1 q in absurd (omega (arith, c.0, d.0, s.0))
    run_once (expiries.BaseBusy f t v) (expiries.Done g) c d q =
        absurd (not_both o n n' n n' x base reading n'.seen n.seen t v d.1.2.1.idle c.1.2.1 (sym e))
    run_once (expiries.BaseBusy f t v) (expiries.BaseBusy g u w) c d q =
        let s = turns_once f g c.1.0 d.1.0 i i' l l' c.1.1 d.1.1 q in
        let one = one_function o n x base t v u w fresh knows c.1.2.1 (ap (λ y. running_on base (in_context x (timer_then o y) u)) e ∙ d.1.2.1) in
        let fired = s.0 in
        let timer = one.0 in
        let generation = one.1 in (cc, s.1)
