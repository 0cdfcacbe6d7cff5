-- Points of a list: before these of the call's own entries there, and behind those.
use Rattle.std.proofs.Common.{◌≡◌, ◌<◌, ◌≤◌, ℕ, ◌+◌, zero, suc, true, false, if◌then◌else◌, List, [], ◌∷◌, ◌++◌, length, map, take, filter, arith, refl, ap, ◌∙◌, subst}
use Rattle.std.specs.List.{AllByRecursion}
use Rattle.std.proofs.lemmas.List.{take-map}
use Rattle.record_text.specs.declared.record.Label.{Label}
use Rattle.run_history.specs.Actions.{Action, also, own, wrote}
use Rattle.run_history.specs.Histories.{clock_labels}
use Rattle.run_history.specs.Order.{is_label, IsLabel, IsPoint, made_by}
use Rattle.script_text.specs.declared.script.Script.{Script}
use Rattle.run_history.specs.Witnesses.{Witness}
use Rattle.run_history.specs.Rounds.{IsLaid, Spans}
use Rattle.run_history.proofs.Items.{own_rises, RiseIn}
use Rattle.run_history.proofs.Rounds.{within_span}

pub count_own : {X A : Type 0} (label : X → Label) (thing : X → A) (c : Label) (k : ℕ) (xs : List X)
    → made_by c (map label xs) ≡ length (own label thing c k xs)
count_own label thing c k [] = refl
count_own label thing c k (x ∷ xs) =
    elim (is_label c (label x)) as (λ b. length (if b then label x ∷ filter (is_label c) (map label xs) else filter (is_label c) (map label xs))
    ≡ length (also b (k, thing x) (own label thing c (k + 1) xs))) [
      | true ↦ ap suc (count_own label thing c (k + 1) xs)
      | false ↦ count_own label thing c (k + 1) xs
    ]

-- the call's among the first so many lines
own_first : {X A : Type 0} (label : X → Label) (thing : X → A) (c : Label) (k n : ℕ) (xs : List X) (early late : List (ℕ × A))
    → own label thing c k xs ≡ early ++ late → AllByRecursion (λ e. e.0 < k + n) early → AllByRecursion (λ e. k + n ≤ e.0) late
    → own label thing c k (take n xs) ≡ early
own_first label thing c k zero [] [] late is below behind = refl
own_first label thing c k (suc n) [] [] late is below behind = refl
own_first label thing c k n [] (e ∷ early) late is below behind = absurd (cc)
own_first label thing c k zero (x ∷ xs) [] late is below behind = refl
own_first {A = A} label thing c k zero (x ∷ xs) (e ∷ early) late is below behind =
    absurd (omega (arith, below.0, (subst (RiseIn k) is (own_rises label thing c k (x ∷ xs))).0))
own_first {A = A} label thing c k (suc n) (x ∷ xs) early late is below behind =
    let rest : (es : List (ℕ × A)) → own label thing c (k + 1) xs ≡ es ++ late → AllByRecursion (λ e. e.0 < k + 1 + n) es
    → own label thing c (k + 1) (take n xs) ≡ es = λ es is all. own_first label thing c (k + 1) n xs es late is all (farther late behind) in
    elim (is_label c (label x)) as (λ b. also b (k, thing x) (own label thing c (k + 1) xs) ≡ early ++ late
    → also b (k, thing x) (own label thing c (k + 1) (take n xs)) ≡ early) [
      | true ↦ λ is. here early is below rest
      | false ↦ λ is. rest early is (shifted early below)
    ] is
  where
    later : (m : ℕ) → m < k + suc n → m < k + 1 + n
    later m less = omega (arith, less)

    shifted : (es : List (ℕ × A)) → AllByRecursion (λ e. e.0 < k + suc n) es → AllByRecursion (λ e. e.0 < k + 1 + n) es
    shifted [] all = tt
    shifted (e ∷ es) all = (later e.0 all.0, shifted es all.1)

    farther : (es : List (ℕ × A)) → AllByRecursion (λ e. k + suc n ≤ e.0) es → AllByRecursion (λ e. k + 1 + n ≤ e.0) es
    farther [] all = tt
    farther (e ∷ es) all = (omega (arith, all.0), farther es all.1)

    first_late : (ls : List (ℕ × A)) → (k, thing x) ∷ own label thing c (k + 1) xs ≡ ls → AllByRecursion (λ e. k + suc n ≤ e.0) ls → ⊥
    first_late [] is all = absurd (cc)
    first_late (e ∷ ls) is all = let same : (k, thing x) ≡ e = cc in omega (arith, all.0, ap (λ (p : ℕ × A). p.0) same)

    here : (es : List (ℕ × A)) → (k, thing x) ∷ own label thing c (k + 1) xs ≡ es ++ late → AllByRecursion (λ e. e.0 < k + suc n) es
        → ((es : List (ℕ × A)) → own label thing c (k + 1) xs ≡ es ++ late → AllByRecursion (λ e. e.0 < k + 1 + n) es
        → own label thing c (k + 1) (take n xs) ≡ es)
        → (k, thing x) ∷ own label thing c (k + 1) (take n xs) ≡ es
    here [] is all rest = absurd (first_late late is behind)
    here (e ∷ es) is all rest =
        let same : (k, thing x) ≡ e = cc in
        let tails : own label thing c (k + 1) xs ≡ es ++ late = cc in
        ap (λ y. y ∷ own label thing c (k + 1) (take n xs)) same ∙ ap (λ ys. e ∷ ys) (rest es tails (shifted es all.1))

-- a number in a call's span, before which these of its entries stand, and behind which the others, where the first line has this number
pub point_among : {X A : Type 0} (s : Script) (label : X → Label) (thing : X → A) (c : Label) (k : ℕ) (xs : List X) (p : Spans) (early late : List (ℕ × A))
    (n : ℕ) → IsLaid s (map label xs) p → IsLabel s c → p.first c ≤ n → n ≤ p.last c → own label thing c k xs ≡ early ++ late
    → AllByRecursion (λ e. e.0 < k + n) early → AllByRecursion (λ e. k + n ≤ e.0) late → IsPoint s c (length early) n (map label xs)
point_among s label thing c k xs p early late n laid is low high own_are below behind = record {
  within = within_span s (map label xs) p laid c n is low high;
  so_many = ap (made_by c) (take-map label n xs) ∙ count_own label thing c k (take n xs)
      ∙ ap length (own_first label thing c k n xs early late own_are below behind);
}

more : {A : Type 0} (n : ℕ) (es : List (ℕ × A)) → AllByRecursion (λ e. n < e.0) es → AllByRecursion (λ e. 1 + n ≤ e.0) es
more n [] all = tt
more n (e ∷ es) all = (omega (arith, all.0), more n es all.1)

-- a call's reading, which it took before it wrote
pub reading_from : (w : Witness) (c : Label) (p : Spans) (actions : List Action) (n : ℕ) → IsLaid w.script (clock_labels w.run) p → IsLabel w.script c
    → p.first c ≤ n → n ≤ p.last c → own (λ line. line.label) (λ line. line.write) c 1 w.run.clock ≡ wrote actions
    → AllByRecursion (λ e. n < e.0) (wrote actions) → IsPoint w.script c 0 n (clock_labels w.run)
reading_from w c p actions n laid is low high own_are behind =
    point_among w.script (λ line. line.label) (λ line. line.write) c 1 w.run.clock p [] (wrote actions) n laid is low high own_are tt
    (more n (wrote actions) behind)
