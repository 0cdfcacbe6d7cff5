-- Where calls stand in the order of the record with a full queue: by their numbers alone, since one lane makes them all in one round.
use Rattle.std.proofs.Common.{◌≡◌, ◌+◌, ◌<◌, ◌≤◌, ◌&&◌, ◌||◌, ℕ, zero, suc, Bool, true, false, nat_eq, nat_le, nat_lt, List, [], ◌∷◌, length, take, drop, arith, sym, ap, subst}
use Rattle.std.specs.List.{AllByRecursion, list_all, range_with_len}
use Rattle.std.proofs.Math.Logic.{⊎_elim}
use Rattle.std.proofs.lemmas.Bool.{and_parts, cases_lt, eqb-true}
use Rattle.std.proofs.lemmas.Bool.Decides.{nat_tests}
use Rattle.record_text.specs.declared.record.Label.{Label}
use Rattle.run_history.specs.Order.{IsInOrder, IsPoint, is_before, made_by, round_of}
use Rattle.run_history.specs.Witnesses.{labels}
use Rattle.run_cases.specs.FullQueue.{full_queue_script}
use Rattle.run_cases.specs.Lines.{at}
use Rattle.run_cases.proofs.FullQueue.{are_rising, full_witness, is_early, is_late, is_place, rising, rounds}
use Rattle.run_cases.proofs.Tests.{all_true, below, upto}

-- a test of each of these numbers
each : (test : ℕ → Bool) (k n i : ℕ) → list_all test (range_with_len k n) ≡ true → k ≤ i → i < k + n → test i ≡ true
each test k zero i e low high = absurd (omega (arith, low, high))
each test k (suc n) i e low high =
    let parts = and_parts (test k) (list_all test (range_with_len (k + 1) n)) e in
    ⊎_elim (λ (more : k < i). each test (k + 1) n i parts.1 (omega (arith, more)) (omega (arith, high)))
    (λ (same : i ≤ k). let is : k ≡ i = omega (arith, low, same) in subst (λ j. test j ≡ true) is parts.0) (cases_lt k i)

round_first : (i : ℕ) → i < 132 → round_of full_queue_script (at 0 i) ≡ 0
round_first i less = eqb-true (round_of full_queue_script (at 0 i)) 0
    (each (λ i. nat_eq (round_of full_queue_script (at 0 i)) 0) 0 132 i rounds (omega arith) (omega (arith, less)))

by_rounds : (r q i j : ℕ) → r ≡ 0 → q ≡ 0 → j ≤ i → (nat_lt r q || (nat_eq 0 0 && nat_lt i j)) ≡ false
by_rounds r q i j one two less = grind (arith, nat_tests, one, two, less)

-- no call is over before an earlier one, or itself
never_before : (i j : ℕ) → i < 132 → j ≤ i → is_before full_queue_script (at 0 i) (at 0 j) ≡ false
never_before i j less early =
    by_rounds (round_of full_queue_script (at 0 i)) (round_of full_queue_script (at 0 j)) i j (round_first i less)
    (round_first j (omega (arith, less, early))) early

in_lane : (x : Label) → nat_eq x.lane 0 ≡ true → at 0 x.call ≡ x
in_lane x e = ap {A = ℕ} (λ lane. record { lane = lane; call = x.call }) (sym (eqb-true x.lane 0 e))

early_never : (c : ℕ) → c < 132 → (x : Label) → is_early c x ≡ true → is_before full_queue_script (at 0 c) x ≡ false
early_never c less x e =
    let parts = and_parts (nat_eq x.lane 0) (nat_le x.call c) e in
    subst (λ y. is_before full_queue_script (at 0 c) y ≡ false) (in_lane x parts.0) (never_before c x.call less (upto x.call c parts.1))

late_never : (c : ℕ) (x : Label) → is_late c x ≡ true → is_before full_queue_script x (at 0 c) ≡ false
late_never c x e =
    let parts = and_parts (nat_eq x.lane 0) (nat_le c x.call && nat_lt x.call 132) e in
    let rest = and_parts (nat_le c x.call) (nat_lt x.call 132) parts.1 in
    subst (λ y. is_before full_queue_script y (at 0 c) ≡ false) (in_lane x parts.0)
    (never_before x.call c (below x.call 132 rest.1) (upto c x.call rest.0))

-- law: what passes the test is a moment of the call
pub place_passes : (c made n : ℕ) → c < 132 → is_place c made n ≡ true → IsPoint full_queue_script (at 0 c) made n (labels full_witness)
place_passes c made n less e =
    let ls = labels full_witness in
    let halves = and_parts (nat_le n (length ls) && list_all (is_early c) (take n ls))
    (list_all (is_late c) (drop n ls) && nat_eq (made_by (at 0 c) (take n ls)) made) e in
    let one = and_parts (nat_le n (length ls)) (list_all (is_early c) (take n ls)) halves.0 in
    let two = and_parts (list_all (is_late c) (drop n ls)) (nat_eq (made_by (at 0 c) (take n ls)) made) halves.1 in
    record {
      within = record {
        small = upto n (length ls) one.0;
        before = all_true (λ x. is_before full_queue_script (at 0 c) x ≡ false) (is_early c) (early_never c less) (take n ls) one.1;
        behind = all_true (λ x. is_before full_queue_script x (at 0 c) ≡ false) (is_late c) (late_never c) (drop n ls) two.0;
      };
      so_many = eqb-true (made_by (at 0 c) (take n ls)) made two.1;
    }

rising_passes : (xs : List Label) → are_rising xs ≡ true → IsInOrder full_queue_script xs
rising_passes [] e = tt
rising_passes (x ∷ xs) e =
    let parts = and_parts (is_late 0 x && list_all (is_late x.call) xs) (are_rising xs) e in
    let both = and_parts (is_late 0 x) (list_all (is_late x.call) xs) parts.0 in
    let lane = and_parts (nat_eq x.lane 0) (nat_le 0 x.call && nat_lt x.call 132) both.0 in (
      subst (λ y. AllByRecursion (λ z. is_before full_queue_script z y ≡ false) xs) (in_lane x lane.0)
          (all_true (λ z. is_before full_queue_script z (at 0 x.call) ≡ false) (is_late x.call) (late_never x.call) xs both.1),
      rising_passes xs parts.1,
    )

-- law: the moves stand in order
pub is_in_order : IsInOrder full_queue_script (labels full_witness)
is_in_order = rising_passes (labels full_witness) rising
