-- What one more expiry changes.
use Rattle.std.proofs.Common.{◌≡◌, ◌≢◌, ◌<◌, ℕ, ◌+◌, ◌*◌, true, false, not, ◌&&◌, ◌||◌, List, ◌∷◌, Some, refl, sym, ap, subst, ◌∙◌, inl, inr, arith, nat_lt, nat_eq}
use Rattle.std.specs.Prelude.{OnOk, Result, Ok, Err}
use Rattle.std.specs.HashMap.{HashMap}
use Rattle.std.specs.List.{list_any}
use Rattle.std.proofs.lemmas.Bool.{and_parts, cases_eq, eq-eqb, eqb-true, false_from_ne_true}
use Rattle.ktime.specs.declared.clock_id.ClockId.{ClockId}
use Rattle.ktime.specs.declared.clock_id.ClockId.TheVariants as clocks
use Rattle.seq_timer.specs.declared.context.Context.{Context}
use Rattle.seq_timer.specs.declared.context.Context.TheVariants as contexts
use Rattle.seq_timer.specs.Tables.{is_context, rank}
use Rattle.seq_timer.proofs.Contents.{is_context-same, same_context}
use Rattle.trace_check.specs.declared.known.OrderedExpiry.{OrderedExpiry}
use Rattle.trace_check.specs.declared.mark.Mark.{Mark}
use Rattle.trace_check.specs.Holding.{half_number, is_late, marks_in, queue_number, TellsPassed}
use Rattle.trace_check.specs.Knowledge.{is_passed, passes}
use Rattle.trace_check.specs.Traced.{is_ahead}

half_number-injective : (c d : ℕ) (x y : Context) → half_number c x ≡ half_number d y → (c ≡ d) × (x ≡ y)
half_number-injective c d contexts.Hard contexts.Hard e = (omega (arith, e), refl)
half_number-injective c d contexts.Soft contexts.Soft e = (omega (arith, e), refl)
half_number-injective c d contexts.Hard contexts.Soft e = absurd (omega (arith, e))
half_number-injective c d contexts.Soft contexts.Hard e = absurd (omega (arith, e))

small_rank : (c : ClockId) → rank c < 3
small_rank clocks.Monotonic = omega arith
small_rank clocks.Realtime = omega arith
small_rank clocks.Boottime = omega arith

pub queue_number-injective : (c d : ℕ) (x y : Context) (a b : ClockId) → queue_number c x a ≡ queue_number d y b
    → (c ≡ d) × (x ≡ y) × (rank a ≡ rank b)
queue_number-injective c d x y a b e =
    let half : half_number c x ≡ half_number d y = omega (arith, e, small_rank a, small_rank b) in
    let place = half_number-injective c d x y half in
    (place.0, place.1, omega (arith, e, half))

-- the queue's number of an expiry
abbrev pub number_of : OrderedExpiry → ℕ
number_of claim = queue_number claim.processor claim.context claim.clock

abbrev pub mark_of : OrderedExpiry → Mark
mark_of claim = record { expires = claim.expires; order = claim.order; at = claim.at }

-- an expiry of another queue passes none
passes_else : (q claim : OrderedExpiry) → (number_of claim ≡ number_of q → ⊥) → passes q claim ≡ false
passes_else q claim other = false_from_ne_true _ (λ is.
    let queue = (and_parts _ (nat_lt claim.order q.at && not (is_ahead q.expires q.order claim.expires claim.order)) is).0 in
    let two = and_parts _ (nat_eq (rank q.clock) (rank claim.clock)) queue in
    let one = and_parts (nat_eq q.processor claim.processor) (is_context q.context claim.context) two.0 in
    other (same_number (sym (eqb-true _ _ one.0)) (sym (same_context _ _ one.1)) (sym (eqb-true _ _ two.1))))
  where
    same_number : {c d : ℕ} {x y : Context} {a b : ℕ} → c ≡ d → x ≡ y → a ≡ b → 3 * half_number c x + a ≡ 3 * half_number d y + b
    same_number one two three = rw (one, two, three) refl

-- one of the same queue passes it where it is late
passes_same : (q claim : OrderedExpiry) → number_of claim ≡ number_of q → passes q claim ≡ is_late claim.expires claim.order (mark_of q)
passes_same q claim same =
    let is = queue_number-injective claim.processor q.processor claim.context q.context claim.clock q.clock same in
    let at : nat_eq q.processor claim.processor ≡ true = eq-eqb _ _ (sym is.0) in
    let within : is_context q.context claim.context ≡ true = subst (λ x. is_context q.context x ≡ true) (sym is.1) (is_context-same q.context) in
    let on : nat_eq (rank q.clock) (rank claim.clock) ≡ true = eq-eqb _ _ (sym is.2) in
    rw (at, within, on) refl

-- with one more expiry in its queue, the queues tell of it too
pub tells_one_more : {S : Type 0} (old new : HashMap ℕ (List Mark) S) (q : OrderedExpiry) (claims : List OrderedExpiry) → TellsPassed old claims
    → ((n : ℕ) → n ≢ number_of q → marks_in new n ≡ marks_in old n)
    → ((expires order : ℕ) → list_any (is_late expires order) (marks_in new (number_of q))
    ≡ (is_late expires order (mark_of q) || list_any (is_late expires order) (marks_in old (number_of q))))
    → TellsPassed new (q ∷ claims)
tells_one_more old new q claims tells others here claim =
    elim (cases_eq (number_of claim) (number_of q)) [
      | inl same ↦
          ap (λ n. list_any (is_late claim.expires claim.order) (marks_in new n)) same ∙ here claim.expires claim.order
          ∙ ap (λ n. is_late claim.expires claim.order (mark_of q) || list_any (is_late claim.expires claim.order) (marks_in old n)) (sym same)
          ∙ ap (λ b. is_late claim.expires claim.order (mark_of q) || b) (tells claim)
          ∙ ap (λ b. b || is_passed claims (Some claim)) (sym (passes_same q claim same))
      | inr other ↦
          ap (λ marks. list_any (is_late claim.expires claim.order) marks) (others (number_of claim) other) ∙ tells claim
          ∙ ap (λ b. b || is_passed claims (Some claim)) (sym (passes_else q claim other))
    ]

-- what follows from what an answer that succeeds says
pub OnOk_then : {T E P Q : Type 0} (r : Result T E) → OnOk r P → (P → Q) → OnOk r Q
OnOk_then (Ok x) h f = f h
OnOk_then (Err e) h f = tt

-- the queues behind a call that takes out the expiries of a queue, notes one more, and puts them in
pub tells_after_put : {S E : Type 0} (r : Result (Unit {0}) E) (old mid new : HashMap ℕ (List Mark) S) (q : OrderedExpiry) (claims : List OrderedExpiry) (n : ℕ)
    (was marks : List Mark) → n ≡ number_of q → TellsPassed old claims → was ≡ marks_in old n → ((m : ℕ) → m ≢ n → marks_in mid m ≡ marks_in old m)
    → ((expires order : ℕ) → list_any (is_late expires order) marks ≡ (is_late expires order (mark_of q) || list_any (is_late expires order) was))
    → OnOk r (marks_in new n ≡ marks) → OnOk r ((m : ℕ) → m ≢ n → marks_in new m ≡ marks_in mid m) → OnOk r (TellsPassed new (q ∷ claims))
tells_after_put (Ok x) old mid new q claims n was marks is tells taken out noted put others =
    tells_one_more old new q claims tells
    (λ m other. others m (λ same. other (same ∙ is)) ∙ out m (λ same. other (same ∙ is)))
    (λ expires order. ap (λ ms. list_any (is_late expires order) ms) (ap (λ m. marks_in new m) (sym is) ∙ put) ∙ noted expires order
    ∙ ap (λ ms. is_late expires order (mark_of q) || list_any (is_late expires order) ms) (taken ∙ ap (λ m. marks_in old m) is))
tells_after_put (Err e) old mid new q claims n was marks is tells taken out noted put others = tt
