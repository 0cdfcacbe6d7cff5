-- How many digits a number has, and that they stand behind what stood there before.
use Rattle.std.proofs.Common.{◌≡◌, ℕ, List, [], ◌∷◌, ◌++◌, ◌+◌, ◌/◌, ◌<◌, ◌≤◌, ◌^◌, length, take, drop, set, refl, take-add, append_assoc, arith, length-set}
use Rattle.std.specs.Fmt.{decimal}
use Rattle.std.proofs.lemmas.Fmt.{length-decimal-le}
use Rattle.std.proofs.lemmas.List.{take_at, take_more_set}
use Rattle.itoa.proofs.Decimal.{length_one, length_two, length_pair}

pub length_few : (n : ℕ) → n < 2 ^ 64 → length (decimal n) ≤ 20
length_few n fits = length-decimal-le 20 n (omega arith) (omega arith) fits

pub length_three : (n : ℕ) → 100 ≤ n → n < 1000 → length (decimal n) ≡ 3
length_three n least most = omega (arith, length_pair n least (omega arith), length_one (n / 100) (omega arith))

pub length_of_four : (n : ℕ) → 1000 ≤ n → n < 10000 → length (decimal n) ≡ 4
length_of_four n least most = omega (arith, length_pair n (omega arith) (omega arith), length_two (n / 100) (omega arith) (omega arith))

-- digits that stand behind a space
pub put_behind : (at : ℕ) (xs ys ds rest : List ℕ) → at < length xs → take (at + 1) ys ≡ take (at + 1) (set xs at 32) → drop (at + 1) ys ≡ ds ++ rest
    → take (at + 1 + length ds) ys ≡ take at xs ++ 32 ∷ ds
put_behind at xs ys ds rest here before after =
    rw (take-add (at + 1) (length ds) ys, before, after, take_more_set xs at 32 here, take_at ds rest (length ds) refl)
    (append_assoc (take at xs) (32 ∷ []) ds)

-- one digit behind a space
pub put_digit : (at : ℕ) (xs : List ℕ) (d : ℕ) → at + 21 ≤ length xs → take (at + 2) (set (set xs at 32) (at + 1) d) ≡ take at xs ++ 32 ∷ d ∷ []
put_digit at xs d room =
    let long = length-set xs at 32 in
    let next : at + 1 + 1 ≡ at + 2 = omega arith in
    rw (← next, take_more_set (set xs at 32) (at + 1) d (omega arith), take_more_set xs at 32 (omega arith))
    (append_assoc (take at xs) (32 ∷ []) (d ∷ []))
