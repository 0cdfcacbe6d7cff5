-- The last part of a cut, which is a line only if it isn't empty.
use Rattle.std.proofs.Common.{◌≡◌, ℕ, Bool, true, false, List, [], ◌∷◌, ◌++◌, length, map, take, get_or, ◌-◌, ◌+◌, ◌≤◌, refl, sym, ap, ◌∙◌, arith, ◌==◌, if◌then◌else◌}
use Rattle.std.specs.List.{slice_split}
use Rattle.std.proofs.lemmas.List.{take_more, take_all, map-append, length-map}
use Rattle.std.proofs.lemmas.List.Splits.{length-slice_split}
use Rattle.std.proofs.lemmas.List.Sums.{count_by-le-length}
use Rattle.script_text.specs.Scripts.{without_empty_tail}

if_cons : (b : Bool) (p : List ℕ) (xs ys : List (List ℕ)) → p ∷ (if b then xs else ys) ≡ (if b then p ∷ xs else p ∷ ys)
if_cons true p xs ys = refl
if_cons false p xs ys = refl

without_empty_tail-cons : (p : List ℕ) (ps : List (List ℕ)) (last : List ℕ)
    → without_empty_tail (p ∷ ps ++ last ∷ []) ≡ p ∷ without_empty_tail (ps ++ last ∷ [])
without_empty_tail-cons p [] last = refl
without_empty_tail-cons p (q ∷ qs) last = refl

-- parts with one more, which stays only if it isn't empty
pub without_empty_tail-push : (ps : List (List ℕ)) (last : List ℕ)
    → without_empty_tail (ps ++ last ∷ []) ≡ (if length last == 0 then ps else ps ++ last ∷ [])
without_empty_tail-push [] last = refl
without_empty_tail-push (p ∷ ps) last =
    without_empty_tail-cons p ps last ∙ ap (λ (qs : List (List ℕ)). p ∷ qs) (without_empty_tail-push ps last)
    ∙ if_cons (length last == 0) p ps (ps ++ last ∷ [])

-- the items before the last one, and it
last_item : {X : Type 0} (xs : List X) (d : X) → 1 ≤ length xs → take (length xs - 1) xs ++ get_or xs (length xs - 1) d ∷ [] ≡ xs
last_item xs d some =
    let more : take ((length xs - 1) + 1) xs ≡ take (length xs - 1) xs ++ get_or xs (length xs - 1) d ∷ [] =
    take_more xs (length xs - 1) d (omega (arith, some)) in
    sym more ∙ take_all ((length xs - 1) + 1) xs (omega (arith, some))

module _ {X : Type 0} (f : X → List ℕ) (xs : List X) (d : X) (some : 1 ≤ length xs) where
  joined : map f xs ≡ map f (take (length xs - 1) xs) ++ f (get_or xs (length xs - 1) d) ∷ []
  joined = ap (λ (ys : List X). map f ys) (sym (last_item xs d some)) ∙ map-append f (take (length xs - 1) xs) (get_or xs (length xs - 1) d ∷ [])

  pub empty_tail_off : (length (f (get_or xs (length xs - 1) d)) == 0) ≡ true → map f (take (length xs - 1) xs) ≡ without_empty_tail (map f xs)
  empty_tail_off none =
      sym (ap without_empty_tail joined ∙ without_empty_tail-push (map f (take (length xs - 1) xs)) (f (get_or xs (length xs - 1) d)) ∙ rw none refl)

  pub empty_tail_all : (length (f (get_or xs (length xs - 1) d)) == 0) ≡ false → map f xs ≡ without_empty_tail (map f xs)
  empty_tail_all none =
      joined ∙ sym (ap without_empty_tail joined ∙ without_empty_tail-push (map f (take (length xs - 1) xs)) (f (get_or xs (length xs - 1) d))
      ∙ rw none refl)

empty_tail_few : (ps : List (List ℕ)) → length (without_empty_tail ps) ≤ length ps
empty_tail_few [] = omega arith
empty_tail_few (p ∷ []) = elim (length p == 0) as (λ b. length (if b then [] else p ∷ []) ≤ 1) [ true ↦ omega arith | false ↦ omega arith ]
empty_tail_few (p ∷ q ∷ ps) = omega (arith, empty_tail_few (q ∷ ps))

-- bytes have no more lines than newlines, and one
pub few_lines : {X : Type 0} (f : X → List ℕ) (lines parts : List X) (bytes : List ℕ) → map f lines ≡ without_empty_tail (map f parts)
    → map f parts ≡ slice_split (λ b. b == 10) bytes → length lines ≤ length bytes + 1
few_lines f lines parts bytes is cut =
    let one : length (map f lines) ≡ length lines = length-map _ _ in
    let all : length (map f lines) ≡ length (without_empty_tail (slice_split (λ b. b == 10) bytes)) =
    ap (λ (ps : List (List ℕ)). length ps) (is ∙ ap without_empty_tail cut) in
    omega (
      arith,
      one,
      all,
      empty_tail_few (slice_split (λ b. b == 10) bytes),
      length-slice_split (λ b. b == 10) bytes,
      count_by-le-length
          (λ b. b == 10) bytes,
    )
