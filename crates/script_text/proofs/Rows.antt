-- Rows, and the words that they are filled to: such words give the values back, and what words give fills the row to them again.
use Rattle.std.proofs.Common.{arith, codes, ◌≡◌, ℕ, ◌<◌, Bool, true, false, List, [], ◌∷◌, length, Option, Some, None, Result, Ok, Err, refl, ap, subst, ◌∙◌, nat_lt, if◌then◌else◌, ◌&&◌}
use Rattle.std.specs.Prelude.{bytes_eq}
use Rattle.std.specs.Fmt.{decimal}
use Rattle.std.specs.List.{AllByRecursion, list_all}
use Rattle.std.specs.Str.Parse.{AllDigits}
use Rattle.std.proofs.lemmas.Bool.{and_from, and_parts, lt-ltb}
use Rattle.std.proofs.lemmas.Fmt.{decimal_nonempty, digits_decimal}
use Rattle.std.proofs.lemmas.Option.{same_Some}
use Rattle.std.proofs.lemmas.Slice.Eq.{bytes_eq-Decides}
use Rattle.std.proofs.lemmas.Str.Parse.{digit_from_value}
use Rattle.ktime.specs.declared.clock_id.ClockId.{ClockId}
use Rattle.ktime.specs.declared.clock_id.ClockId.TheVariants as clocks
use Rattle.ktime.specs.declared.mode.Mode.{Mode}
use Rattle.ktime.specs.declared.mode.Mode.TheVariants as modes
use Rattle.record_text.specs.Words.{clock_word}
use Rattle.script_text.specs.declared.form.Value.{Value}
use Rattle.script_text.specs.declared.form.Value.TheVariants as values
use Rattle.script_text.specs.declared.refusal.Cause.{Cause}
use Rattle.script_text.specs.Forms.{Spot, Key, At, Sort, ClockName, ModeName, Numeral, sort}
use Rattle.script_text.specs.Grammar.{Fills, IsOfSort, fill_form, value_word}
use Rattle.script_text.specs.Reading.{◌>>=◌, clock_in, mode_in, or_cause, values_in, word_in}
use Rattle.script_text.proofs.Numbers.{number_again, number_spells, own}

-- ---- steps that went well

pub bind_ok : {A B E : Type 0} (r : Result A E) (f : A → Result B E) (b : B) → (r >>= f) ≡ Ok b → (a : A) × (r ≡ Ok a) × (f a ≡ Ok b)
bind_ok (Ok a) f b e = (a, refl, e)
bind_ok (Err x) f b e = absurd cc

pub same_Ok : {A E : Type 0} (a b : A) → ◌≡◌ {A = Result A E} (Ok a) (Ok b) → a ≡ b
same_Ok a b e = cc

found : {A : Type 0} (cause : Cause) (o : Option A) (a : A) → or_cause cause o ≡ Ok a → o ≡ Some a
found cause (Some x) a e = ap (λ y. Some y) (same_Ok x a e)
found cause None a e = absurd cc

-- where a choice by a word went well, either the word is this one, or the rest of the choice went well
key_then : {A P : Type 0} (word key : List ℕ) (x y : Option A) (a : A) → (if bytes_eq word key then x else y) ≡ Some a → (word ≡ key → x ≡ Some a → P)
    → (y ≡ Some a → P) → P
key_then {A} {P} word key x y a e this other =
    let go : (b : Bool) → bytes_eq word key ≡ b → (if b then x else y) ≡ Some a
    → P = λ b. elim b as (λ b. bytes_eq word key ≡ b → (if b then x else y) ≡ Some a → P) [
      | true ↦ λ is k. this ((bytes_eq-Decides word key).0 is) k
      | false ↦ λ is k. other k
    ] in
    go (bytes_eq word key) refl e

-- ---- one word

clock_again : (c : ClockId) → clock_in (clock_word c) ≡ Some c
unfolding clock_in
clock_again clocks.Monotonic = refl
clock_again clocks.Realtime = refl
clock_again clocks.Boottime = refl

clock_spells : (word : List ℕ) (c : ClockId) → clock_in word ≡ Some c → word ≡ clock_word c
unfolding clock_in
clock_spells word c e =
    key_then word (codes "monotonic") _ _ c e (λ k e. k ∙ ap clock_word (same_Some _ c e)) (λ e.
    key_then word (codes "realtime") _ _ c e (λ k e. k ∙ ap clock_word (same_Some _ c e)) (λ e.
    key_then word (codes "boottime") _ _ c e (λ k e. k ∙ ap clock_word (same_Some _ c e)) (λ e. absurd cc)))

-- a word says this
abbrev Says : Sort → List ℕ → Value → Type 0
Says s word v = (word ≡ value_word v) × IsOfSort s v

mode_spells : (word : List ℕ) (m : Mode) → mode_in word ≡ Some m → Says ModeName word (values.Mode m)
unfolding mode_in
mode_spells word m e =
    key_then word (codes "rel") _ _ m e (λ k e. subst (λ m. Says ModeName word (values.Mode m)) (same_Some modes.Rel m e) (k, tt)) (λ e.
    key_then word (codes "abs") _ _ m e (λ k e. subst (λ m. Says ModeName word (values.Mode m)) (same_Some modes.Abs m e) (k, tt)) (λ e. absurd cc))

word_again : (s : Sort) (v : Value) → IsOfSort s v → word_in s (value_word v) ≡ Ok v
unfolding word_in mode_in
word_again ClockName (values.Clock c) h = rw (clock_again c) refl
word_again ClockName (values.Mode m) h = absurd h
word_again ClockName (values.Number n) h = absurd h
word_again ModeName (values.Clock c) h = absurd h
word_again ModeName (values.Mode modes.Abs) h = refl
word_again ModeName (values.Mode modes.Rel) h = refl
word_again ModeName (values.Mode modes.Keep) h = absurd h
word_again ModeName (values.Number n) h = absurd h
word_again Numeral (values.Clock c) h = absurd h
word_again Numeral (values.Mode m) h = absurd h
word_again Numeral (values.Number n) h = rw (number_again n h) refl

word_spells : (s : Sort) (word : List ℕ) (v : Value) → word_in s word ≡ Ok v → Says s word v
unfolding word_in
word_spells ClockName word v e =
    let c = bind_ok _ _ v e in
    subst (λ v. Says ClockName word v) (same_Ok _ v c.2) (clock_spells word c.0 (found _ _ c.0 c.1), tt)
word_spells ModeName word v e =
    let m = bind_ok _ _ v e in
    subst (λ v. Says ModeName word v) (same_Ok _ v m.2) (mode_spells word m.0 (found _ _ m.0 m.1))
word_spells Numeral word v e =
    let n = bind_ok _ _ v e in
    subst (λ v. Says Numeral word v) (same_Ok _ v n.2) (number_spells word n.0 (found _ _ n.0 n.1))

-- ---- the words of a row

pub values_again : (spots : List Spot) (vs : List Value) → Fills spots vs → values_in spots (fill_form spots vs) ≡ Ok vs
unfolding values_in
values_again [] [] h = refl
values_again [] (v ∷ vs) h = absurd h
values_again (Key key ∷ spots) vs h = values_again spots vs h
values_again (At field ∷ spots) [] h = absurd h
values_again (At field ∷ spots) (v ∷ vs) h = rw (word_again (sort field) v h.0, values_again spots vs h.1) refl

pub length-filled : (spots : List Spot) (vs : List Value) → Fills spots vs → length (fill_form spots vs) ≡ length spots
length-filled [] [] h = refl
length-filled [] (v ∷ vs) h = absurd h
length-filled (Key key ∷ spots) vs h = omega (arith, length-filled spots vs h)
length-filled (At field ∷ spots) [] h = absurd h
length-filled (At field ∷ spots) (v ∷ vs) h = omega (arith, length-filled spots vs h.1)

-- the row's key words stand among these words where the row has them
abbrev pub HasKeys : List Spot → List (List ℕ) → Type 0
HasKeys (Key key ∷ spots) (word ∷ words) = (word ≡ key) × HasKeys spots words
HasKeys (At field ∷ spots) (word ∷ words) = HasKeys spots words
HasKeys spots words = Unit

pub values_spell : (spots : List Spot) (words : List (List ℕ)) (vs : List Value) → length words ≡ length spots → HasKeys spots words
    → values_in spots words ≡ Ok vs → (words ≡ fill_form spots vs) × Fills spots vs
unfolding values_in
values_spell [] [] vs long keys e = subst (λ vs. ([] ≡ fill_form [] vs) × Fills [] vs) (same_Ok [] vs e) (refl, tt)
values_spell [] (word ∷ words) vs long keys e = absurd (omega (arith, long))
values_spell (spot ∷ spots) [] vs long keys e = absurd (omega (arith, long))
values_spell (Key key ∷ spots) (word ∷ words) vs long keys e =
    let rest = values_spell spots words vs (omega (arith, long)) keys.1 e in
    (cc (keys.0, rest.0), rest.1)
values_spell (At field ∷ spots) (word ∷ words) vs long keys e =
    let v = bind_ok _ _ vs e in
    let more = bind_ok _ _ vs v.2 in
    let said = word_spells (sort field) word v.0 v.1 in
    let rest = values_spell spots words more.0 (omega (arith, long)) keys more.1 in
    subst (λ vs. (word ∷ words ≡ fill_form (At field ∷ spots) vs) × Fills (At field ∷ spots) vs) (same_Ok _ vs more.2)
    (cc (said.0, rest.0), (said.1, rest.1))

-- ---- words of letters and digits

-- a letter, a digit, or a sign among those behind the digits
abbrev pub is_plain : ℕ → Bool
is_plain b = nat_lt 47 b && nat_lt b 127

-- not empty, and without other signs
abbrev pub is_word : List ℕ → Bool
is_word [] = false
is_word (b ∷ bs) = list_all is_plain (b ∷ bs)

plain_digits : (ds : List ℕ) → AllDigits 10 ds → list_all is_plain ds ≡ true
plain_digits [] h = refl
plain_digits (d ∷ ds) h =
    let digit = digit_from_value d h.0 in
    and_from (is_plain d) (list_all is_plain ds)
    (and_from (nat_lt 47 d) (nat_lt d 127) (lt-ltb 47 d (omega (arith, digit.0, digit.1))) (lt-ltb d 127 (omega (arith, digit.0, digit.1))))
    (plain_digits ds h.1)

is_word_from_digits : (ds : List ℕ) → AllDigits 10 ds → 0 < length ds → is_word ds ≡ true
is_word_from_digits [] h some = absurd (omega (arith, some))
is_word_from_digits (d ∷ ds) h some = plain_digits (d ∷ ds) h

value_is_word : (s : Sort) (v : Value) → IsOfSort s v → is_word (value_word v) ≡ true
value_is_word s (values.Clock clocks.Monotonic) h = refl
value_is_word s (values.Clock clocks.Realtime) h = refl
value_is_word s (values.Clock clocks.Boottime) h = refl
value_is_word s (values.Mode modes.Abs) h = refl
value_is_word s (values.Mode modes.Rel) h = refl
value_is_word s (values.Mode modes.Keep) h = refl
value_is_word ClockName (values.Number n) h = absurd h
value_is_word ModeName (values.Number n) h = absurd h
value_is_word Numeral (values.Number n) h = is_word_from_digits (decimal n) (digits_decimal own n (omega arith)) (decimal_nonempty n (omega arith))

abbrev has_words : List Spot → Bool
has_words [] = true
has_words (Key key ∷ spots) = is_word key && has_words spots
has_words (At field ∷ spots) = has_words spots

-- there are words in a row, and the key words among them are such words
abbrev pub is_row : List Spot → Bool
is_row [] = false
is_row (spot ∷ spots) = has_words (spot ∷ spots)

-- there are words, and all are such words
abbrev pub AreWords : List (List ℕ) → Type 0
AreWords words = (0 < length words) × AllByRecursion (λ w. is_word w ≡ true) words

filled_words : (spots : List Spot) (vs : List Value) → Fills spots vs → has_words spots ≡ true
    → AllByRecursion (λ w. is_word w ≡ true) (fill_form spots vs)
filled_words [] vs h keys = tt
filled_words (Key key ∷ spots) vs h keys = let both = and_parts (is_word key) (has_words spots) keys in (both.0, filled_words spots vs h both.1)
filled_words (At field ∷ spots) [] h keys = tt
filled_words (At field ∷ spots) (v ∷ vs) h keys = (value_is_word (sort field) v h.0, filled_words spots vs h.1 keys)

pub row_words : (spots : List Spot) (vs : List Value) → Fills spots vs → is_row spots ≡ true → AreWords (fill_form spots vs)
row_words [] vs h row = absurd cc
row_words (spot ∷ spots) vs h row = (omega (arith, length-filled (spot ∷ spots) vs h), filled_words (spot ∷ spots) vs h row)
