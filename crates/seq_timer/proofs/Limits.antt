-- A timer's stamp counts its entries, and a history ends soon after the limit.
use Rattle.std.proofs.Common.{◌≡◌, ◌+◌, ◌<◌, ◌≤◌, ◌^◌, ℕ, List, [], ◌∷◌, length, arith, refl, ap}
use Rattle.std.proofs.Math.Logic.{⊎_elim}
use Rattle.std.proofs.lemmas.Bool.{cases_lt}
use Rattle.std.proofs.lemmas.Bool.Decides.{nat_tests}
use Rattle.seq_timer.specs.declared.context.Declared.{Declared}
use Rattle.seq_timer.specs.declared.context.Terms.{Terms}
use Rattle.seq_timer.specs.Events.{Event}
use Rattle.seq_timer.specs.Steps.{Timer, HasRoom, opening, Needs, after, most_entries}
use Rattle.seq_timer.specs.Histories.{Entry, AreSteps, IsLegal, after_all, state_after}
use Rattle.seq_timer.proofs.Effects.{HasLeft, by_effect}

pub left-after : (t : Timer) (e : Event) → Needs t e → HasLeft t → HasLeft (after t e)
left-after t e needs left = ((by_effect t e).needs needs).left left

pub stamp-after : (t : Timer) (e : Event) → ((after t e).stamp ≡ t.stamp + 1) × ((after t e).terms.limit ≡ t.terms.limit)
stamp-after t e = ((by_effect t e).stamp, ap (λ (k : Terms). k.limit) (by_effect t e).terms)

pub stamp-after_all : (t : Timer) (history : List Entry) → (after_all t history).stamp ≡ t.stamp + length history
stamp-after_all t [] = omega arith
stamp-after_all t (e ∷ es) =
    let rest = stamp-after_all (after t e.event) es in
    let counted = stamp-after t e.event in
    omega (arith, rest, counted.0)

pub stamp-state_after : (clock : Declared) (terms : Terms) (history : List Entry) → (state_after clock terms history).stamp ≡ length history
stamp-state_after clock terms history = let counted = stamp-after_all (opening clock terms) history in omega (arith, counted)

pub few_entries : (t : Timer) (history : List Entry) → AreSteps t history → HasLeft t → t.stamp + length history ≤ most_entries t.terms
few_entries t [] steps left = let few = left.few in omega (arith, few)
few_entries t (e ∷ es) steps left =
    let rest = few_entries (after t e.event) es steps.2 (left-after t e.event steps.0 left) in
    let counted = stamp-after t e.event in
    omega (arith, rest, counted.0, ap most_entries (by_effect t e.event).terms)

pub legal_most : (clock : Declared) (terms : Terms) (history : List Entry) → IsLegal clock terms history → length history ≤ most_entries terms
legal_most clock terms history legal =
    let few = few_entries (opening clock terms) history legal (record { few = grind (arith, nat_tests); apart = refl }) in omega (arith, few)

-- with no reach, and with any
pub legal_few : (clock : Declared) (terms : Terms) (history : List Entry) → terms.reach ≡ 0 → IsLegal clock terms history → length history ≤ terms.limit + 3
legal_few clock terms history none legal = let few = legal_most clock terms history legal in grind (arith, nat_tests, few)

pub legal_within : (clock : Declared) (terms : Terms) (history : List Entry) → IsLegal clock terms history → length history ≤ terms.limit + terms.reach + 80
legal_within clock terms history legal = let few = legal_most clock terms history legal in grind (arith, nat_tests, few)

-- a timer on terms that leave room has a stamp that a word can hold
pub small_entries : (terms : Terms) (n : ℕ) → HasRoom terms → n ≤ most_entries terms → n < 2 ^ 48
small_entries terms n room few = ⊎_elim
    (λ (some : 0 < terms.reach). let far = room.far some in grind (arith, nat_tests, few))
    (λ none. let less = room.few in grind (arith, nat_tests, few))
    (cases_lt 0 terms.reach)

pub legal_short : (clock : Declared) (terms : Terms) (history : List Entry) → HasRoom terms → IsLegal clock terms history → length history < 2 ^ 48
legal_short clock terms history room legal = small_entries terms (length history) room (legal_most clock terms history legal)

-- ---- the soft expiry is no later than the other

pub soft-after_all : (t : Timer) (history : List Entry) → t.soft ≤ t.expires → (after_all t history).soft ≤ (after_all t history).expires
soft-after_all t [] within = within
soft-after_all t (e ∷ es) within = soft-after_all (after t e.event) es ((by_effect t e.event).soft within)
