-- The longer one of two lists that begin one list.
use Rattle.std.proofs.Common.{◌≡◌, ◌≤◌, Bool, true, false, if◌then◌else◌, List, [], ◌∷◌, ◌++◌, length, refl, ap, sym, ◌∙◌, arith}
use Rattle.std.specs.Prelude.{nat_lt}
use Rattle.std.proofs.lemmas.Bool.Decides.{nat_tests}
use Rattle.signal_queue.specs.declared.signal.Turn.{Turn}
use Rattle.pass_names.specs.Passes.{Begins}
use Rattle.pass_names.proofs.Passes.{begins_length, begins_nil, begins_refl, begins_whole}
use Rattle.signal_queue.specs.Views.{longer_turns}

-- what holds of both lists holds of the longer one
longer_is : (P : List Turn → Type 0) (xs ys : List Turn) → P xs → P ys → P (longer_turns xs ys)
longer_is P xs ys a b = elim (nat_lt (length xs) (length ys)) as (λ t. P (if t then ys else xs)) [ true ↦ b | false ↦ a ]

pub longer_begins : (xs ys log : List Turn) → Begins xs log → Begins ys log → Begins (longer_turns xs ys) log
longer_begins xs ys log a b = longer_is (λ ws. Begins ws log) xs ys a b

-- of two lists that begin one list, the shorter begins the other
shorter : (xs ys r s : List Turn) → xs ++ r ≡ ys ++ s → length xs ≤ length ys → Begins xs ys
shorter [] ys r s e h = begins_nil ys
shorter (x ∷ xs) [] r s e h = absurd (omega arith)
shorter (x ∷ xs) (y ∷ ys) r s e h =
    let head : x ≡ y = cc in
    let tail : xs ++ r ≡ ys ++ s = cc in
    let t = shorter xs ys r s tail (omega arith) in
    record { rest = t.rest; whole = (λ i. y ∷ t.whole i) ∙ (λ i. sym head i ∷ (xs ++ t.rest)) }

begins_other : {xs ys all : List Turn} → Begins xs all → Begins ys all → length xs ≤ length ys → Begins xs ys
begins_other {xs} {ys} a b h = shorter xs ys a.rest b.rest (sym a.whole ∙ b.whole) h

-- the longer one goes on from both
pub goes_on : (xs ys all : List Turn) → Begins xs all → Begins ys all → Begins xs (longer_turns xs ys) × Begins ys (longer_turns xs ys)
goes_on xs ys all a b = by (nat_lt (length xs) (length ys)) refl
  where
    by : (t : Bool) → nat_lt (length xs) (length ys) ≡ t → Begins xs (if t then ys else xs) × Begins ys (if t then ys else xs)
    by true e = (begins_other a b (grind (arith, nat_tests, e)), begins_refl ys)
    by false e = (begins_refl xs, begins_other b a (grind (arith, nat_tests, e)))

-- what has the whole of a list is the longer one
pub all_first : (xs ys log : List Turn) → Begins xs log → Begins ys log → xs ≡ log → longer_turns xs ys ≡ log
all_first xs ys log a b e =
    begins_whole (longer_begins xs ys log a b) (omega (arith, begins_length (goes_on xs ys log a b).0, ap length e))

pub all_second : (xs ys log : List Turn) → Begins xs log → Begins ys log → ys ≡ log → longer_turns xs ys ≡ log
all_second xs ys log a b e =
    begins_whole (longer_begins xs ys log a b) (omega (arith, begins_length (goes_on xs ys log a b).1, ap length e))
