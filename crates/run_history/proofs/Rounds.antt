-- Where calls stand along one list, by rounds: the list is in order, and a number in a call's span is within the call's bounds.
use Rattle.std.proofs.Common.{◌≡◌, ◌<◌, ◌≤◌, ◌⊎◌, ◌||◌, ◌&&◌, ℕ, ◌+◌, ◌-◌, zero, suc, Bool, true, false, nat_eq, nat_lt, List, [], ◌∷◌, Some, length, arith, refl, sym, subst, inl, inr}
use Rattle.std.specs.List.{AllByRecursion, slice_get}
use Rattle.std.proofs.Math.Logic.{⊎_elim}
use Rattle.std.proofs.lemmas.Bool.Decides.{nat_tests}
use Rattle.std.proofs.lemmas.Bool.{and_parts, eqb-true}
use Rattle.record_text.specs.declared.record.Label.{Label}
use Rattle.run_history.specs.Order.{calls_of, is_before, IsInOrder, IsLabel, StandsWithin, round_of}
use Rattle.script_text.specs.declared.script.Script.{Script}
use Rattle.run_history.specs.Rounds.{IsLaid, IsLedger, label_at, Spans}
use Rattle.run_history.proofs.Labels.{refuted}
use Rattle.run_history.proofs.Lists.{each, each_drop, each_take}

-- ---- spans

starts_rise : (starts : ℕ → ℕ) → ((round : ℕ) → starts round ≤ starts (round + 1)) → (a d : ℕ) → starts a ≤ starts (a + d)
starts_rise starts rise a zero = subst (λ n. starts a ≤ starts n) (none a) (omega arith)
  where
    none : (n : ℕ) → n ≡ n + 0
    none n = omega arith
starts_rise starts rise a (suc d) = subst (λ n. starts a ≤ starts n) (further a d) (omega (arith, starts_rise starts rise a d, rise (a + d)))
  where
    further : (a d : ℕ) → a + d + 1 ≡ a + suc d
    further a d = omega arith

lane_rises : (s : Script) (p : Spans) (lane call d : ℕ) → IsLedger s p
    → IsLabel s (label_at lane (call + suc d)) → p.last (label_at lane call) ≤ p.first (label_at lane (call + suc d))
lane_rises s p lane call zero ledger is =
    subst (λ n. p.last (label_at lane call) ≤ p.first (label_at lane n)) (one call)
    (ledger.next lane call (subst (λ n. IsLabel s (label_at lane n)) (sym (one call)) is))
  where
    one : (n : ℕ) → n + 1 ≡ n + suc 0
    one n = omega arith
lane_rises s p lane call (suc d) ledger is =
    let here : IsLabel s (label_at lane (call + suc d)) = earlier (length (calls_of s lane)) is in
    let before = lane_rises s p lane call d ledger here in
    let follow : IsLabel s (label_at lane (call + suc d + 1)) = subst (λ n. IsLabel s (label_at lane n)) (sym (further call d)) is in
    subst (λ n. p.last (label_at lane call) ≤ p.first (label_at lane n)) (further call d)
    (omega (arith, before, ledger.order (label_at lane (call + suc d)) here, ledger.next lane (call + suc d) follow))
  where
    further : (a d : ℕ) → a + suc d + 1 ≡ a + suc (suc d)
    further a d = omega arith

    earlier : (n : ℕ) → call + suc (suc d) < n → call + suc d < n
    earlier n less = omega (arith, less)

either : (a b : Bool) → (a || b) ≡ true → (a ≡ true) ⊎ (b ≡ true)
either true b e = inl refl
either false b e = inr e

less_is : (a b : ℕ) → nat_lt a b ≡ true → a < b
less_is a b e = grind (arith, nat_tests)

-- a call that is over before another begins has a span that ends before
pub apart_from : (s : Script) (p : Spans) → IsLedger s p → (x y : Label) → IsLabel s x → IsLabel s y → is_before s x y ≡ true → p.last x ≤ p.first y
apart_from s p ledger x y is_x is_y before =
    ⊎_elim
    (λ rounds. by_round (round_of s x) (round_of s y) (less_is _ _ rounds) (ledger.to x is_x) (ledger.from y is_y))
    (λ lanes. let parts = and_parts (nat_eq x.lane y.lane) (nat_lt x.call y.call) lanes in
    by_lane x y is_y (eqb-true x.lane y.lane parts.0) (less_is x.call y.call parts.1))
    (either (nat_lt (round_of s x) (round_of s y)) (nat_eq x.lane y.lane && nat_lt x.call y.call) before)
  where
    by_round : (a b : ℕ) → a < b → p.last x ≤ p.starts (a + 1) → p.starts b ≤ p.first y → p.last x ≤ p.first y
    by_round a b less low high =
        omega (arith, low, high, subst (λ n. p.starts (a + 1) ≤ p.starts n) (sum a b less) (starts_rise p.starts ledger.rise (a + 1) (b - (a + 1))))
      where
        sum : (a b : ℕ) → a < b → a + 1 + (b - (a + 1)) ≡ b
        sum a b less = omega (arith, less)

    by_lane : (x y : Label) → IsLabel s y → x.lane ≡ y.lane → x.call < y.call → p.last x ≤ p.first y
    by_lane x y is lane less =
        let sum : x.call + suc (y.call - (x.call + 1)) ≡ y.call = omega (arith, less) in
        let here : IsLabel s (label_at y.lane (x.call + suc (y.call - (x.call + 1)))) = subst (λ n. IsLabel s (label_at y.lane n)) (sym sum) is in
        subst (λ l. p.last (label_at l x.call) ≤ p.first y) (sym lane)
        (subst (λ n. p.last (label_at y.lane x.call) ≤ p.first (label_at y.lane n)) sum
        (lane_rises s p y.lane x.call (y.call - (x.call + 1)) ledger here))

-- ---- so the list is in order, and a number in a call's span is within the call's bounds

in_order_from : (s : Script) (labels : List Label) (p : Spans) (k : ℕ)
    → ((n : ℕ) (x : Label) → slice_get labels n ≡ Some x → IsLabel s x × (p.first x ≤ k + n) × (k + n < p.last x))
    → ((x y : Label) → IsLabel s x → IsLabel s y → is_before s x y ≡ true → p.last x ≤ p.first y) → IsInOrder s labels
in_order_from s [] p k inside apart = tt
in_order_from s (x ∷ xs) p k inside apart = (
  each (λ y. is_before s y x ≡ false) xs (λ n y at. refuted (is_before s y x) (λ before.
      omega (arith, (inside 0 x refl).1, (inside (suc n) y at).2, apart y x (inside (suc n) y at).0 (inside 0 x refl).0 before))),
  in_order_from s xs p (k + 1) (λ n y at. let i = inside (suc n) y at in (i.0, omega (arith, i.1), omega (arith, i.2))) apart,
)

module _ (s : Script) (labels : List Label) (p : Spans) (laid : IsLaid s labels p) where
  pub labels_from : AllByRecursion (IsLabel s) labels
  labels_from = each (IsLabel s) labels (λ n x at. (laid.inside n x at).0)

  pub in_order : IsInOrder s labels
  in_order = in_order_from s labels p 0 (λ n x at. let i = laid.inside n x at in (i.0, omega (arith, i.1), omega (arith, i.2)))
      (apart_from s p laid.ledger)

  pub within_span : (c : Label) (n : ℕ) → IsLabel s c → p.first c ≤ n → n ≤ p.last c → StandsWithin s c n labels
  within_span c n is low high = record {
    small = omega (arith, high, laid.most c is);
    before = each_take (λ x. is_before s c x ≡ false) n labels (λ k x at less. refuted (is_before s c x) (λ before.
        let i = laid.inside k x at in omega (arith, less, high, i.1, apart_from s p laid.ledger c x is i.0 before)));
    behind = each_drop (λ x. is_before s x c ≡ false) n labels (λ k x at more. refuted (is_before s x c) (λ before.
        let i = laid.inside k x at in omega (arith, more, low, i.2, apart_from s p laid.ledger x c i.0 is before)));
  }
