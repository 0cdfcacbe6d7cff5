-- The word of a number, and the number of a word.
use Rattle.std.proofs.Common.{arith, take, ◌-◌, ◌+◌, ◌*◌, ◌≡◌, ℕ, ◌^◌, ◌<◌, ◌≤◌, Bool, true, false, List, [], ◌∷◌, length, get_or, Some, None, refl, sym, ap, subst, ◌∙◌, inl, inr, nat_le, if◌then◌else◌, ◌&&◌}
use Rattle.std.specs.Prelude.{bytes_eq}
use Rattle.std.specs.Fmt.{decimal}
use Rattle.std.specs.Str.Parse.{digits_value, AllDigits}
use Rattle.std.proofs.lemmas.Bool.{and_parts, leb-true, le-leb, false_from_ne_true, cases_eq}
use Rattle.std.proofs.lemmas.Fmt.{digits_value-decimal, decimal_is_IsNumeral, decimal_nonempty, first_decimal, length-decimal-le, decimal_digit, decimal-digits_value}
use Rattle.std.proofs.lemmas.List.{length-take}
use Rattle.std.proofs.lemmas.Option.{same_Some}
use Rattle.std.proofs.lemmas.Str.{digit_value_digit}
use Rattle.std.proofs.lemmas.Int.Digits.{digits_more, digits_value_more}
use Rattle.std.specs.Int.{IsInRange}
use Rattle.std.proofs.lemmas.Str.Parse.{IsNumeralModel, numerals_by_value, tells_digits, digits_value_short}
use Rattle.std.proofs.lemmas.Slice.Eq.{bytes_eq-Decides}
use Rattle.ktime.specs.Times.{last_time}
use Rattle.script_text.specs.Reading.{number_in}

pub own : IsNumeralModel (AllDigits 10) (digits_value 10)
own = numerals_by_value (AllDigits 10) tells_digits

-- a number is read from its own word
pub number_again : (n : ℕ) → n ≤ last_time → number_in (decimal n) ≡ Some n
unfolding number_in
number_again n small =
    let value : digits_value 10 (decimal n) ≡ n = digits_value-decimal own n (omega arith) in
    let fits : nat_le n last_time ≡ true = le-leb n last_time small in
    let same : bytes_eq (decimal n) (decimal n) ≡ true = (bytes_eq-Decides (decimal n) (decimal n)).1 refl in
    rw (value, fits, same) refl

-- the word of a number that is read
pub number_spells : (word : List ℕ) (n : ℕ) → number_in word ≡ Some n → (word ≡ decimal n) × (n ≤ last_time)
unfolding number_in
number_spells word n e =
    let v = digits_value 10 word in
    let read : (b : Bool) → (nat_le v last_time && bytes_eq word (decimal v)) ≡ b → (if b then Some v else None) ≡ Some n
    → (word ≡ decimal n) × (n ≤ last_time) =
    λ b. elim b as (λ b. (nat_le v last_time && bytes_eq word (decimal v)) ≡ b → (if b then Some v else None) ≡ Some n
    → (word ≡ decimal n) × (n ≤ last_time)) [
      | true ↦ λ is k.
          let both = and_parts (nat_le v last_time) (bytes_eq word (decimal v)) is in
          let same : v ≡ n = same_Some v n k in
          (rw (← same) ((bytes_eq-Decides word (decimal v)).0 both.1), rw (← same) (leb-true v last_time both.0))
      | false ↦ λ is k. absurd cc
    ] in
    read _ refl e

-- a word that no number has is not read
pub number_none : (word : List ℕ) → ((n : ℕ) → n ≤ last_time → word ≡ decimal n → ⊥) → None ≡ number_in word
unfolding number_in
number_none word no_number =
    let v = digits_value 10 word in
    let fails : (nat_le v last_time && bytes_eq word (decimal v)) ≡ false = false_from_ne_true _ (λ is.
    let both = and_parts (nat_le v last_time) (bytes_eq word (decimal v)) is in
    no_number v (leb-true v last_time both.0) ((bytes_eq-Decides word (decimal v)).0 both.1)) in
    rw fails refl

pub number_zero : (word : List ℕ) → word ≡ 48 ∷ [] → Some 0 ≡ number_in word
number_zero word is = subst (λ w. Some 0 ≡ number_in w) (decimal_digit 0 (omega arith) ∙ sym is) (sym (number_again 0 (omega arith)))

pub none_from_empty : (word : List ℕ) → length word ≡ 0 → None ≡ number_in word
none_from_empty word empty = number_none word (λ n small is. omega (arith, empty, decimal_nonempty n (omega arith), ap (λ (w : List ℕ). length w) is))

pub none_from_front : (word : List ℕ) → (word ≡ 48 ∷ [] → ⊥) → get_or word 0 0 < 49 → None ≡ number_in word
none_from_front word other front = number_none word (λ n small is.
    elim (cases_eq n 0) [
      | inl none ↦ other (is ∙ ap decimal none ∙ decimal_digit 0 (omega arith))
      | inr some ↦ omega (arith, first_decimal n (omega arith) (omega arith), ap (λ (w : List ℕ). get_or w 0 0) is)
    ])

pub none_from_long : (word : List ℕ) → 19 < length word → None ≡ number_in word
none_from_long word long =
    number_none word (λ n small is. omega (arith, long, length-decimal-le 19 n (omega arith) (omega arith) (omega arith), ap (λ (w : List ℕ). length w) is))

pub none_from_other : (word : List ℕ) → (AllDigits 10 word → ⊥) → None ≡ number_in word
none_from_other word other =
    number_none word (λ n small is. other (subst (λ w. AllDigits 10 w) (sym is) (decimal_is_IsNumeral n (omega arith)).0.1))

pub none_from_large : (word : List ℕ) (m : ℕ) → m ≡ digits_value 10 word → last_time < m → None ≡ number_in word
none_from_large word m value large =
    number_none word (λ n small is. omega (arith, value, large, ap (λ w. digits_value 10 w) is, (decimal_is_IsNumeral n (omega arith)).1))

-- digits that do not begin with 0 are the word of the number that they write
pub number_from_digits : (word : List ℕ) (m : ℕ) → AllDigits 10 word → m ≡ digits_value 10 word → 0 < length word → 49 ≤ get_or word 0 0
    → m ≤ last_time → Some m ≡ number_in word
number_from_digits word m all value some front small =
    let spells : decimal (digits_value 10 word) ≡ word = decimal-digits_value own word all some (λ zero. omega (arith, zero)) (omega (arith, value)) in
    let is : decimal m ≡ word = ap decimal value ∙ spells in
    subst (λ w. Some m ≡ number_in w) is (sym (number_again m small))

-- ---- digits one by one

-- so many digits as the end of time has write a number that a word of the machine holds, with one more behind
pub digits_fit : (word : List ℕ) (i : ℕ) → length word ≤ 19 → i < length word → AllDigits 10 (take i word) → digits_value 10 (take i word) < 10 ^ 18
digits_fit word i short within all = digits_value_short own (take i word) 18 all (omega (arith, length-take i word))

-- what stands behind one more digit
pub one_more_digit : (word : List ℕ) (i n d : ℕ) → i < length word → AllDigits 10 (take i word) → n ≡ digits_value 10 (take i word)
    → IsInRange 48 57 (get_or word i 0) → d ≡ get_or word i 0 - 48
    → AllDigits 10 (take (i + 1) word) × (10 * n + d ≡ digits_value 10 (take (i + 1) word))
one_more_digit word i n d within all value range is =
    let digit = digit_value_digit (get_or word i 0) range in
    (digits_more 10 word i within all (omega (arith, range.0, range.1, digit)), omega (arith, value, is, digit, digits_value_more 10 word i within))
