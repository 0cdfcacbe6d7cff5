-- Lemmas on lists.
use Rattle.std.proofs.Common.{◌≡◌, ℕ, zero, suc, ◌+◌, ◌*◌, ◌<◌, ◌≤◌, List, [], ◌∷◌, ◌++◌, Some, length, map, refl, ap, ◌∙◌, arith, length-append}
use Rattle.std.specs.List.{AllByRecursion, flat_map, range_with_len, slice_get}
use Rattle.std.proofs.lemmas.Grind.{flat_map-append}
use Rattle.std.proofs.lemmas.List.{append-nil}
pub use Rattle.record_text.proofs.Lists.{All-append}

-- what holds at each place holds along the list
pub each : {X : Type 0} (P : X → Type 0) (xs : List X) → ((p : ℕ) (x : X) → slice_get xs p ≡ Some x → P x) → AllByRecursion P xs
each P [] at = tt
each P (x ∷ xs) at = (at 0 x refl, each P xs (λ p. at (suc p)))

-- what one more item gives
pub flat_map-push : {X A : Type 0} (f : X → List A) (xs : List X) (x : X) → flat_map f (xs ++ x ∷ []) ≡ flat_map f xs ++ f x
flat_map-push f xs x = flat_map-append f xs (x ∷ []) ∙ ap (λ (more : List _). flat_map f xs ++ more) (append-nil (f x))

pub All-weaker : {X : Type 0} (P Q : X → Type 0) → ((x : X) → P x → Q x) → (xs : List X) → AllByRecursion P xs → AllByRecursion Q xs
All-weaker P Q weaker [] h = tt
All-weaker P Q weaker (x ∷ xs) h = (weaker x h.0, All-weaker P Q weaker xs h.1)

pub All-map : {X Y : Type 0} (P : Y → Type 0) (f : X → Y) (xs : List X) → AllByRecursion (λ x. P (f x)) xs → AllByRecursion P (map f xs)
All-map P f [] h = tt
All-map P f (x ∷ xs) h = (h.0, All-map P f xs h.1)

pub All-flat_map : {X Y : Type 0} (P : Y → Type 0) (f : X → List Y) (xs : List X) → AllByRecursion (λ x. AllByRecursion P (f x)) xs
    → AllByRecursion P (flat_map f xs)
All-flat_map P f [] h = tt
All-flat_map P f (x ∷ xs) h = All-append P (f x) (flat_map f xs) h.0 (All-flat_map P f xs h.1)

-- what holds of each number below an end
pub All-range : (P : ℕ → Type 0) (a n : ℕ) → ((k : ℕ) → k < a + n → P k) → AllByRecursion P (range_with_len a n)
All-range P a zero h = tt
All-range P a (suc n) h = (h a (omega arith), All-range P (a + 1) n (λ k small. h k (omega (arith, small))))

-- pieces of a bounded length
pub length-pieces : {X Y : Type 0} (f : X → List Y) (m : ℕ) (xs : List X) → ((x : X) → length (f x) ≤ m) → length (flat_map f xs) ≤ m * length xs
length-pieces f m [] h = omega arith
length-pieces f m (x ∷ xs) h = omega (arith, length-append (f x) (flat_map f xs), h x, length-pieces f m xs h)

-- pieces of pieces
pub length-nested : {X Y Z : Type 0} (g : Y → List Z) (f : X → List Y) (m : ℕ) (xs : List X) → ((x : X) → length (flat_map g (f x)) ≤ m)
    → length (flat_map g (flat_map f xs)) ≤ m * length xs
length-nested g f m [] h = omega arith
length-nested g f m (x ∷ xs) h =
    omega (
      arith,
      ap (λ (zs : List _). length zs) (flat_map-append g (f x) (flat_map f xs)),
      length-append (flat_map g (f x)) (flat_map g (flat_map f xs)),
      h x,
      length-nested g f m xs h,
    )
