-- Beginnings of histories, and places that stand once.
use Rattle.std.proofs.Common.{◌≡◌, ℕ, zero, suc, ◌+◌, ◌<◌, ◌≤◌, ◌≢◌, true, eqb, ◌&&◌, List, [], ◌∷◌, ◌++◌, length, set, replicate, refl, ap, sym, ◌∙◌, subst, ◌⊎◌, inl, inr, ⊎_elim, append_assoc, length-append, arith}
use Rattle.std.proofs.lemmas.Bool.{cases_eq, and_parts, eqb-true, eq-eqb}
use Rattle.std.proofs.lemmas.Bool.Decides.{nat_tests}
use Rattle.std.proofs.lemmas.List.{append-nil, get_or-set_same, get_or-set_other}
use Rattle.pass_names.specs.declared.Pass.{Pass}
use Rattle.pass_names.specs.Counts.{one_if, count, without_first}
use Rattle.pass_names.specs.Passes.{is_place, within, Begins, entries, GoesOn, Adds, Looks, added}
use Rattle.pass_names.proofs.Counts.{total-append, count-without_first, count-without_first-le}

-- one entry more is one place more
pub within_more : (k n : ℕ) → one_if (within k (n + 1)) ≡ one_if (within k n) + one_if (eqb (n + 1) k)
within_more k n = grind (arith, nat_tests)

-- a place that neither pass has added is counted as before, once the second one, which had no places, is taken in
pub count_joined : (i k : ℕ) (joined first second was : List (ℕ × ℕ)) → joined ≡ first ++ second
    → count (is_place i k) first ≡ count (is_place i k) was → count (is_place i k) second ≡ 0 → count (is_place i k) joined ≡ count (is_place i k) was
count_joined i k joined first second was e same none =
    omega (arith, ap (count (is_place i k)) e, total-append (λ (p : ℕ × ℕ). one_if (is_place i k p)) first second, same, none)

-- the count of a place after one more
pub count_place : (i j k n : ℕ) (mine : List (ℕ × ℕ))
    → count (is_place j k) (mine ++ (i, n) ∷ []) ≡ count (is_place j k) mine + one_if (eqb i j && eqb n k)
count_place i j k n mine = omega (arith, total-append (λ (p : ℕ × ℕ). one_if (is_place j k p)) mine ((i, n) ∷ []))

-- what a list counts with every element
count_all : (mine : List (ℕ × ℕ)) → count (λ (p : ℕ × ℕ). true) mine ≡ length mine
count_all [] = refl
count_all (p ∷ ps) = omega (arith, count_all ps)

-- a list with a place has it at least once
place_stands : (p : ℕ × ℕ) (ps : List (ℕ × ℕ)) → 0 < count (is_place p.0 p.1) (p ∷ ps)
place_stands p ps = let here : is_place p.0 p.1 p ≡ true = rw (eq-eqb p.0 p.0 refl, eq-eqb p.1 p.1 refl) refl in omega (arith, ap one_if here)

place_is : (i k : ℕ) (p : ℕ × ℕ) → is_place i k p ≡ true → (p.0 ≡ i) × (p.1 ≡ k)
place_is i k p e = let t = and_parts (eqb p.0 i) (eqb p.1 k) e in (eqb-true p.0 i t.0, eqb-true p.1 k t.1)

-- Where a list has just the places 1 to n of one value, each once, it has n places.
pub places_of_one : (i n : ℕ) (mine : List (ℕ × ℕ)) → ((k : ℕ) → count (is_place i k) mine ≡ one_if (within k n))
    → ((j k : ℕ) → j ≢ i → count (is_place j k) mine ≡ 0) → length mine ≡ n
places_of_one i zero [] here else = refl
places_of_one i zero (p ∷ ps) here else =
    ⊎_elim
    (λ e. let none : one_if (within p.1 0) ≡ 0 = grind (arith, nat_tests) in absurd
    (omega (arith, place_stands p ps, ap (λ j. count (is_place j p.1) (p ∷ ps)) e, here p.1, none)))
    (λ apart. absurd (omega (arith, place_stands p ps, else p.0 p.1 apart)))
    (cases_eq p.0 i)
places_of_one i (suc n) mine here else =
    let last : ℕ = suc n in
    let stands : 0 < count (is_place i last) mine = omega (arith, here last, in_range n) in
    let less : List (ℕ × ℕ) = without_first (is_place i last) mine in
    let shorter : count (λ (p : ℕ × ℕ). true) less + 1 ≡ count (λ (p : ℕ × ℕ). true) mine = count-without_first (is_place i last)
    (λ p. true) true (λ p e. refl) mine stands in
    omega (
      arith,
      shorter,
      count_all less,
      count_all mine,
      places_of_one i n less
          (λ k. omega (
            arith,
            here k,
            range_less k n,
            count-without_first (is_place i last) (is_place i k) (eqb last k)
                (λ p e. let t = place_is i last p e in rw (t.0, t.1, eq-eqb i i refl) refl) mine stands,
          ))
          (λ j k apart. omega (arith, else j k apart, count-without_first-le (is_place i last) (is_place j k) mine)),
    )
  where
    in_range : (n : ℕ) → one_if (within (suc n) (suc n)) ≡ 1
    in_range n = grind (arith, nat_tests)

    range_less : (k n : ℕ) → one_if (within k (suc n)) ≡ one_if (within k n) + one_if (eqb (suc n) k)
    range_less k n = grind (arith, nat_tests)

module _ {E : Type 0} where
  pub begins_refl : (xs : List E) → Begins xs xs
  begins_refl xs = record { rest = []; whole = sym (append-nil xs) }

  pub begins_nil : (xs : List E) → Begins [] xs
  begins_nil xs = record { rest = xs; whole = refl }

  pub begins_more : (xs ys : List E) → Begins xs (xs ++ ys)
  begins_more xs ys = record { rest = ys; whole = refl }

  pub begins_trans : {xs ys zs : List E} → Begins xs ys → Begins ys zs → Begins xs zs
  begins_trans {xs} a b = record { rest = a.rest ++ b.rest; whole = b.whole ∙ (ap (λ l. l ++ b.rest) a.whole ∙ append_assoc xs a.rest b.rest) }

  pub begins_length : {xs ys : List E} → Begins xs ys → length xs ≤ length ys
  begins_length {xs} a = omega (arith, ap length a.whole, length-append xs a.rest)

  no_rest : (xs rest : List E) → length rest ≤ 0 → xs ≡ xs ++ rest
  no_rest xs [] h = sym (append-nil xs)
  no_rest xs (x ∷ rest) h = absurd (omega arith)

  -- a beginning that is as long is the whole
  pub begins_whole : {xs ys : List E} → Begins xs ys → length ys ≤ length xs → xs ≡ ys
  begins_whole {xs} a h = no_rest xs a.rest (omega (arith, ap length a.whole, length-append xs a.rest)) ∙ sym a.whole

  split_push : (ys rest log : List E) (e : E) → log ++ e ∷ [] ≡ ys ++ rest → Begins ys log ⊎ (ys ≡ log ++ e ∷ [])
  split_push [] rest log e h = inl (record { rest = log; whole = refl })
  split_push (y ∷ ys) rest [] e h =
      let t : y ≡ e = cc in
      let u : [] ≡ ys ++ rest = cc in
      inr ((λ i. t i ∷ nil ys rest u i))
    where
      nil : (ys rest : List E) → [] ≡ ys ++ rest → ys ≡ []
      nil [] rest h = refl
      nil (y ∷ ys) rest h = absurd (omega (arith, ap length h))
  split_push (y ∷ ys) rest (x ∷ log) e h =
      let t : y ≡ x = cc in
      let u : log ++ e ∷ [] ≡ ys ++ rest = cc in
      ⊎_elim
      (λ (b : Begins ys log). inl (record { rest = b.rest; whole = (λ i. x ∷ b.whole i) ∙ (λ i. sym t i ∷ (ys ++ b.rest)) }))
      (λ b. inr (λ i. t i ∷ b i))
      (split_push ys rest log e u)

  -- what begins a list with one element more begins the list, or is the whole
  pub begins_push : (ys log : List E) (e : E) → Begins ys (log ++ e ∷ []) → Begins ys log ⊎ (ys ≡ log ++ e ∷ [])
  begins_push ys log e b = split_push ys b.rest log e b.whole

  pub goes_refl : (seen : List (List E)) → GoesOn seen seen
  goes_refl seen = record { each = λ i. begins_refl (entries i seen) }

  pub goes_trans : {a b c : List (List E)} → GoesOn a b → GoesOn b c → GoesOn a c
  goes_trans f g = record { each = λ i. begins_trans (f.each i) (g.each i) }

  pub goes_nil : (seen : List (List E)) → GoesOn [] seen
  goes_nil seen = record { each = λ i. begins_nil (entries i seen) }

  -- looks one after another
  pub looks_trans : {p q r : Pass E} → Looks p q → Looks q r → Looks p r
  looks_trans a b = record { seen = goes_trans a.seen b.seen; mine = b.mine ∙ a.mine; id = b.id ∙ a.id }

  pub entries_here : (seen : List (List E)) (i : ℕ) (xs : List E) → i < length seen → entries i (set seen i xs) ≡ xs
  entries_here seen i xs h = get_or-set_same seen i xs [] h

  pub entries_else : (seen : List (List E)) (i j : ℕ) (xs : List E) → j ≢ i → entries j (set seen i xs) ≡ entries j seen
  entries_else seen i j xs n = get_or-set_other seen i j xs [] n

  -- histories go on where one of them goes on
  pub goes_set : (old seen : List (List E)) (i : ℕ) (xs : List E) → i < length seen → GoesOn old seen → Begins (entries i old) xs
      → GoesOn old (set seen i xs)
  goes_set old seen i xs h g b = record {
    each = λ j. ⊎_elim
        (λ e. subst (λ k. Begins (entries k old) (entries k (set seen i xs))) (sym e)
        (subst (λ l. Begins (entries i old) l) (sym (entries_here seen i xs h)) b))
        (λ n. subst (λ l. Begins (entries j old) l) (sym (entries_else seen i j xs n)) (g.each j))
        (cases_eq j i);
  }

  pub entries_replicate : (n i : ℕ) → entries {E = E} i (replicate n []) ≡ []
  entries_replicate zero i = refl
  entries_replicate (suc n) zero = refl
  entries_replicate (suc n) (suc i) = entries_replicate n i

  -- the entry that was added stands last, with its place
  pub adds_added : (p : Pass E) (i : ℕ) (e : E) → i < length p.seen → Adds p (added i e p) i (e ∷ [])
  adds_added p i e h = record {
    seen = goes_set p.seen p.seen i (entries i p.seen ++ e ∷ []) h (goes_refl p.seen) (begins_more (entries i p.seen) (e ∷ []));
    before = entries i p.seen;
    begins = begins_refl (entries i p.seen);
    last = entries_here p.seen i (entries i p.seen ++ e ∷ []) h;
    mine = refl;
    id = refl;
  }
