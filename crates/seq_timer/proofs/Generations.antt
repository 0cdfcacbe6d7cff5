-- A cancelled generation isn't claimed.
use Rattle.std.proofs.Common.{◌≡◌, ◌+◌, ◌≤◌, ℕ, true, false, ◌||◌, Option, Some, None, List, [], ◌∷◌, nat_eq, arith, refl, sym, ap, ◌∙◌}
use Rattle.std.specs.List.{AllByRecursion}
use Rattle.std.proofs.Math.Logic.{⊎_elim}
use Rattle.std.proofs.lemmas.Option.{same_Some}
use Rattle.std.proofs.lemmas.Bool.{eqb-true, eqb-false, ne_eqb, false≢true, or_from, or_parts, cases_Bool}
use Rattle.seq_timer.specs.declared.context.Declared.{Declared}
use Rattle.seq_timer.specs.declared.context.Terms.{Terms}
use Rattle.seq_timer.specs.Events.{Event}
use Rattle.seq_timer.specs.declared.effect.QueueEffect.{QueueEffect}
use Rattle.seq_timer.specs.declared.effect.QueueEffect.TheVariants as queues
use Rattle.seq_timer.specs.Effects.{effect}
use Rattle.seq_timer.specs.Steps.{Timer, opening, Needs, after, reply_to}
use Rattle.seq_timer.specs.Histories.{Entry, AreSteps, IsLegal, claim_in, cancel_in, next_finish, with_span, spans_from}
use Rattle.seq_timer.specs.Laws.{is_told, is_cancelled, is_claimed}
use Rattle.seq_timer.proofs.Effects.{armed_afterwards, by_effect}
use Rattle.seq_timer.proofs.StepKinds.{IsCancelling, IsClaiming, cancelling_of, claims_none, kind_of}

-- the armed generation is a number of an entry
abbrev pub IsOld : Timer → Type 0
IsOld t = (generation : ℕ) → t.armed ≡ Some generation → generation ≤ t.stamp

-- a generation that was armed and isn't any more: it never is again
pub record IsGone (t : Timer) (generation : ℕ) : Type 0 where
  pub old : generation ≤ t.stamp
  pub unarmed : t.armed ≡ Some generation → ⊥

gone_by : (q : QueueEffect) (t now : Timer) (generation : ℕ) → now.stamp ≡ t.stamp + 1 → now.armed ≡ armed_afterwards q t
    → IsGone t generation → IsGone now generation
gone_by queues.Stays t now generation counted armed gone = let old = gone.old in record
    { old = omega (arith, old, counted); unarmed = λ is. gone.unarmed (sym armed ∙ is) }
gone_by queues.Leaves t now generation counted armed gone = let old = gone.old in record
    { old = omega (arith, old, counted); unarmed = λ is. absurd (cc (armed, is)) }
gone_by queues.Armed t now generation counted armed gone = let old = gone.old in record
    { old = omega (arith, old, counted); unarmed = λ is. let same = same_Some (t.stamp + 1) generation (sym armed ∙ is) in omega (arith, old, same) }

pub gone-after : (t : Timer) (e : Event) (generation : ℕ) → IsGone t generation → IsGone (after t e) generation
gone-after t e generation gone = gone_by (effect t e).queue t (after t e) generation (by_effect t e).stamp (by_effect t e).armed gone

-- it is neither claimed nor cancelled
untold : (t : Timer) (generation told : ℕ) → t.armed ≡ Some told → (t.armed ≡ Some generation → ⊥) → nat_eq told generation ≡ false
untold t generation told armed gone = ne_eqb told generation (λ e. gone (armed ∙ ap (λ n. Some n) e))

pub gone-untold : (t : Timer) (e : Event) (generation : ℕ) → Needs t e → IsGone t generation
    → (is_told generation (claim_in (reply_to t e)) ≡ false) × (is_told generation (cancel_in (reply_to t e)) ≡ false)
gone-untold t e generation needs gone = (
  ⊎_elim (λ (claiming : IsClaiming t e). ap (is_told generation) claiming.told ∙ untold t generation claiming.generation claiming.armed gone.unarmed)
      (λ others. ap (is_told generation) (claims_none t e others)) (kind_of t e needs),
  ⊎_elim (λ (cancelling : IsCancelling t e). ap (is_told generation) cancelling.told ∙ untold t generation cancelling.generation cancelling.armed gone.unarmed)
      (λ none. ap (is_told generation) none) (cancelling_of t e needs),
)

pub gone-later : (t : Timer) (generation : ℕ) (history : List Entry) → AreSteps t history → IsGone t generation
    → (is_claimed generation history ≡ false) × (is_cancelled generation history ≡ false)
gone-later t generation [] steps gone = (refl, refl)
gone-later t generation (e ∷ es) steps gone =
    let now = gone-untold t e.event generation steps.0 gone in
    let later = gone-later (after t e.event) generation es steps.2 (gone-after t e.event generation gone) in (
      or_from (is_told generation (claim_in e.reply)) (is_claimed generation es) (ap (λ r. is_told generation (claim_in r)) steps.1 ∙ now.0) later.0,
      or_from (is_told generation (cancel_in e.reply)) (is_cancelled generation es) (ap (λ r. is_told generation (cancel_in r)) steps.1 ∙ now.1) later.1,
    )

old_by : (q : QueueEffect) (t now : Timer) → now.stamp ≡ t.stamp + 1 → now.armed ≡ armed_afterwards q t → IsOld t → IsOld now
old_by queues.Stays t now counted armed old generation is = let before = old generation (sym armed ∙ is) in omega (arith, before, counted)
old_by queues.Leaves t now counted armed old generation is = absurd (cc (armed, is))
old_by queues.Armed t now counted armed old generation is = let same = same_Some (t.stamp + 1) generation (sym armed ∙ is) in omega (arith, same, counted)

pub old-after : (t : Timer) (e : Event) → IsOld t → IsOld (after t e)
old-after t e old = old_by (effect t e).queue t (after t e) (by_effect t e).stamp (by_effect t e).armed old

-- what was told of the armed generation is gone after a step that disarms it
gone_now : (t : Timer) (e : Event) (generation told : ℕ) → IsOld t → t.armed ≡ Some told → nat_eq told generation ≡ true → (after t e).armed ≡ None
    → IsGone (after t e) generation
gone_now t e generation told old armed is disarmed =
    let before = old generation (armed ∙ ap (λ n. Some n) (eqb-true told generation is)) in
    record { old = omega (arith, before, (by_effect t e).stamp); unarmed = λ again. absurd (cc (disarmed, again)) }

pub cancelled-gone : (t : Timer) (e : Event) (generation : ℕ) → Needs t e → IsOld t → is_told generation (cancel_in (reply_to t e)) ≡ true
    → IsGone (after t e) generation × (is_told generation (claim_in (reply_to t e)) ≡ false)
cancelled-gone t e generation needs old told =
    ⊎_elim
    (λ (cancelling : IsCancelling t e). (
      gone_now t e generation cancelling.generation old cancelling.armed (sym (ap (is_told generation) cancelling.told) ∙ told) cancelling.disarmed,
      ap (is_told generation) cancelling.no_claim,
    ))
    (λ none. absurd (false≢true (sym (ap (is_told generation) none) ∙ told)))
    (cancelling_of t e needs)

pub claimed-gone : (t : Timer) (e : Event) (generation : ℕ) → Needs t e → IsOld t → is_told generation (claim_in (reply_to t e)) ≡ true
    → IsGone (after t e) generation
claimed-gone t e generation needs old told =
    ⊎_elim
    (λ (claiming : IsClaiming t e).
    gone_now t e generation claiming.generation old claiming.armed (sym (ap (is_told generation) claiming.told) ∙ told) claiming.disarmed)
    (λ others. absurd (false≢true (sym (ap (is_told generation) (claims_none t e others)) ∙ told)))
    (kind_of t e needs)

pub never_claimed : (t : Timer) (generation : ℕ) (history : List Entry) → IsOld t → AreSteps t history
    → is_cancelled generation history ≡ true → is_claimed generation history ≡ false
never_claimed t generation [] old steps cancelled = absurd (false≢true cancelled)
never_claimed t generation (e ∷ es) old steps cancelled =
    let next = after t e.event in
    let cancels_now = ap (λ r. is_told generation (cancel_in r)) steps.1 in
    let claims_now = ap (λ r. is_told generation (claim_in r)) steps.1 in
    ⊎_elim
    (λ (now : is_told generation (cancel_in e.reply) ≡ true).
    let gone = cancelled-gone t e.event generation steps.0 old (sym cancels_now ∙ now) in
    or_from (is_told generation (claim_in e.reply)) (is_claimed generation es) (claims_now ∙ gone.1) (gone-later next generation es steps.2 gone.0).0)
    (λ (later : is_told generation (cancel_in e.reply) ≡ false).
    let rest : is_cancelled generation es ≡ true = sym (ap (λ b. b || is_cancelled generation es) later) ∙ cancelled in
    ⊎_elim
    (λ (now : is_told generation (claim_in e.reply) ≡ true). absurd
    (false≢true (sym (gone-later next generation es steps.2 (claimed-gone t e.event generation steps.0 old (sym claims_now ∙ now))).1 ∙ rest)))
    (λ (no_claim : is_told generation (claim_in e.reply) ≡ false). or_from (is_told generation (claim_in e.reply))
    (is_claimed generation es) no_claim (never_claimed next generation es (old-after t e.event old) steps.2 rest))
    (cases_Bool (is_told generation (claim_in e.reply))))
    (cases_Bool (is_told generation (cancel_in e.reply)))

pub legal_never_claimed : (clock : Declared) (terms : Terms) (generation : ℕ) (history : List Entry) → IsLegal clock terms history
    → is_cancelled generation history ≡ true → is_claimed generation history ≡ false
legal_never_claimed clock terms generation history legal cancelled = never_claimed (opening clock terms) generation history
    (λ g is. absurd (cc)) legal cancelled

-- no span where there is no claim
pub unclaimed_spans : (number generation : ℕ) (history : List Entry) → is_claimed generation history ≡ false
    → AllByRecursion (λ s. s.generation ≡ generation → ⊥) (spans_from number history)
unclaimed_spans number generation [] none = tt
unclaimed_spans number generation (e ∷ es) none =
    let parts = or_parts (is_told generation (claim_in e.reply)) (is_claimed generation es) none in
    with (claim_in e.reply) parts.0 (unclaimed_spans (number + 1) generation es parts.1)
  where
    with : (told : Option ℕ) → is_told generation told ≡ false
        → AllByRecursion (λ s. s.generation ≡ generation → ⊥) (spans_from (number + 1) es)
        → AllByRecursion (λ s. s.generation ≡ generation → ⊥) (with_span told number (next_finish (number + 1) es) (spans_from (number + 1) es))
    with None other rest = rest
    with (Some g) other rest = (eqb-false g generation other, rest)
