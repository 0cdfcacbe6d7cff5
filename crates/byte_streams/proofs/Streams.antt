-- Lemmas on what a sink took, and on what was taken of a source.
use Rattle.std.proofs.Common.{◌≡◌, ◌∙◌, ◌+◌, ◌-◌, ◌++◌, ℕ, List, Some, None, ap, sym, subst, append_assoc, take, drop, length}
use Rattle.std.specs.declared.option.Option.{Option}
use Rattle.std.specs.Io.KnownBytes.{Consumes}
use Rattle.std.proofs.Math.Seq.{take-add}
use Rattle.std.proofs.lemmas.List.{take_rest}
use Rattle.byte_streams.specs.Streams.{GrowsBy}

-- a sink that doesn't tell what it took never will
pub Adds-untold : (b c : Option (List ℕ)) (ys : List ℕ) → b ≡ None → GrowsBy b c ys → c ≡ None
Adds-untold None c ys e q = q
Adds-untold (Some y) c ys e q = absurd (cc e)

-- what was added in two steps was added
pub Adds-trans : (a b c : Option (List ℕ)) (xs ys : List ℕ) → GrowsBy a b xs → GrowsBy b c ys → GrowsBy a c (xs ++ ys)
Adds-trans None b c xs ys p q = Adds-untold b c ys p q
Adds-trans (Some x) None c xs ys p q = subst (λ o. GrowsBy (Some x) o (xs ++ ys)) (sym q) tt
Adds-trans (Some x) (Some y) None xs ys p q = tt
Adds-trans (Some x) (Some y) (Some z) xs ys p q = q ∙ ap (λ l. l ++ ys) p ∙ append_assoc x xs ys

-- the first n bytes of a text, and then the first m of the rest, are its first n + m
pub Adds-more : (a b c : Option (List ℕ)) (text : List ℕ) (n m : ℕ) → GrowsBy a b (take n text)
    → GrowsBy b c (take m (take (length text - n) (drop n text))) → GrowsBy a c (take (n + m) text)
Adds-more a b c text n m p q =
    let rest = subst (λ l. GrowsBy b c (take m l)) (take_rest text n) q in
    subst (GrowsBy a c) (sym (take-add n m text)) (Adds-trans a b c _ _ p rest)

-- what was taken in two steps was taken
pub Consumes-trans : (a b c : Option (List ℕ)) (xs ys : List ℕ) → Consumes a b xs → Consumes b c ys → Consumes a c (xs ++ ys)
Consumes-trans None b c xs ys p q = tt
Consumes-trans (Some x) None c xs ys p q = absurd p
Consumes-trans (Some x) (Some y) None xs ys p q = absurd q
Consumes-trans (Some x) (Some y) (Some z) xs ys p q = p ∙ ap (λ l. xs ++ l) q ∙ sym (append_assoc xs ys z)
