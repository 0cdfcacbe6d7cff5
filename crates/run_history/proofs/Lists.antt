-- Lists by the places of their items.
use Rattle.std.proofs.Common.{◌∙◌, ◌≡◌, ◌<◌, ◌≤◌, ℕ, zero, suc, List, [], ◌∷◌, ◌++◌, Some, length, take, drop, map, get_or, arith, refl, ap, subst}
use Rattle.std.specs.List.{AllByRecursion, slice_get}
use Rattle.std.specs.Option.{option_map}
use Rattle.std.proofs.lemmas.Option.{same_Some, slice_get-map}
pub use Rattle.script_text.proofs.Lists.{each}

pub each_take : {X : Type 0} (P : X → Type 0) (n : ℕ) (xs : List X) → ((p : ℕ) (x : X) → slice_get xs p ≡ Some x → p < n → P x)
    → AllByRecursion P (take n xs)
each_take P zero [] at = tt
each_take P zero (x ∷ xs) at = tt
each_take P (suc n) [] at = tt
each_take P (suc n) (x ∷ xs) at = (at 0 x refl (omega arith), each_take P n xs (λ p y is less. at (suc p) y is (omega (arith, less))))

pub each_drop : {X : Type 0} (P : X → Type 0) (n : ℕ) (xs : List X) → ((p : ℕ) (x : X) → slice_get xs p ≡ Some x → n ≤ p → P x)
    → AllByRecursion P (drop n xs)
each_drop P zero xs at = each P xs (λ p x is. at p x is (omega arith))
each_drop P (suc n) [] at = tt
each_drop P (suc n) (x ∷ xs) at = each_drop P n xs (λ p y is more. at (suc p) y is (omega (arith, more)))

-- what holds along the list holds at each place
pub all_at : {X : Type 0} (P : X → Type 0) (xs : List X) (p : ℕ) (x : X) → AllByRecursion P xs → slice_get xs p ≡ Some x → P x
all_at P [] p x all is = absurd (cc)
all_at P (y ∷ xs) zero x all is = subst P (same_Some y x is) all.0
all_at P (y ∷ xs) (suc p) x all is = all_at P xs p x all.1 is

-- what stands at a place of a list
pub item_at : {X : Type 0} (xs : List X) (i : ℕ) → i < length xs → (x : X) × (slice_get xs i ≡ Some x)
item_at [] i less = absurd (omega (arith, less))
item_at (x ∷ xs) zero less = (x, refl)
item_at (x ∷ xs) (suc i) less = item_at xs i (omega (arith, less))

pub at_map : {X Y : Type 0} (f : X → Y) (xs : List X) (p : ℕ) (x : X) → slice_get xs p ≡ Some x → slice_get (map f xs) p ≡ Some (f x)
at_map f xs p x is = slice_get-map f xs p ∙ ap (option_map f) is

pub map_get : {X Y : Type 0} (g : X → Y) (xs : List X) (j : ℕ) (y : Y) → slice_get (map g xs) j ≡ Some y → (x : X) × (slice_get xs j ≡ Some x) × (g x ≡ y)
map_get g [] j y at = absurd (cc)
map_get g (x ∷ xs) zero y at = (x, refl, same_Some (g x) y at)
map_get g (x ∷ xs) (suc j) y at = map_get g xs j y at

pub at_left : {X : Type 0} (xs ys : List X) (p : ℕ) (x : X) → slice_get xs p ≡ Some x → slice_get (xs ++ ys) p ≡ Some x
at_left [] ys p x at = absurd (cc)
at_left (y ∷ xs) ys zero x at = at
at_left (y ∷ xs) ys (suc p) x at = at_left xs ys p x at

pub at_seam : {X : Type 0} (xs ys : List X) (y : X) → slice_get (xs ++ y ∷ ys) (length xs) ≡ Some y
at_seam [] ys y = refl
at_seam (x ∷ xs) ys y = at_seam xs ys y

-- what holds of each list by its number holds of all
pub all_lists : {X : Type 0} (P : List X → Type 0) (lists : List (List X)) → ((t : ℕ) → P (get_or lists t [])) → AllByRecursion P lists
all_lists P [] each = tt
all_lists P (x ∷ xs) each = (each 0, all_lists P xs (λ t. each (suc t)))
