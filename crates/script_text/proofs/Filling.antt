-- What words fill the fields of a row with, as a loop over them finds it.
use Rattle.std.proofs.Common.{arith, length, ◌==◌, ◌||◌, Bool, true, false, ◌≡◌, ℕ, List, [], ◌∷◌, ◌++◌, map, refl, sym, ap, ◌∙◌, append_assoc, Bor, Option, Some, None, Result, Ok, Err, IfOk, MatchResult, ◌⊎◌, inl, inr}
use Rattle.std.specs.List.{list_any}
use Rattle.std.proofs.lemmas.Bool.{eq-eqb, ne_eqb}
use Rattle.std.proofs.lemmas.List.{append-nil, length-map}
use Rattle.record_text.specs.declared.version.Version.{Version}
use Rattle.script_text.specs.declared.form.Form.{Form}
use Rattle.script_text.specs.declared.form.Line.{Line}
use Rattle.script_text.specs.declared.form.Field.{Field}
use Rattle.script_text.specs.declared.form.Value.{Value}
use Rattle.script_text.specs.declared.refusal.Cause.{Cause}
use Rattle.script_text.specs.declared.refusal.Cause.TheVariants as causes
use Rattle.script_text.specs.Forms.{Spot, Key, At, field_at, row}
use Rattle.script_text.specs.Reading.{◌>>=◌, line_of_form, form_in, is_bad_byte, is_empty_word, line_in, value_in, values_in, words_in}

-- a spot with this field, or with some key word
abbrev pub spot_of : Option Field → Spot
spot_of None = Key []
spot_of (Some field) = At field

-- what the fields that are left take from the words that are left
abbrev pub values_from : List (Option Field) → List (Bor (List ℕ)) → Result (List Value) Cause
values_from fields words = values_in (map spot_of fields) (map (λ w. w.now) words)

-- what was found before, and what is still found
abbrev pub with_front : List Value → Result (List Value) Cause → Result (List Value) Cause
with_front front rest = rest >>= λ vs. Ok (front ++ vs)

-- what words fill a row with doesn't hang on its key words
pub values_in-fields : (spots : List Spot) (words : List (List ℕ)) → values_in (map spot_of (map field_at spots)) words ≡ values_in spots words
unfolding values_in
values_in-fields [] words = refl
values_in-fields (Key key ∷ spots) [] = refl
values_in-fields (Key key ∷ spots) (word ∷ words) = values_in-fields spots words
values_in-fields (At field ∷ spots) [] = refl
values_in-fields (At field ∷ spots) (word ∷ words) =
    ap (λ (rest : Result (List Value) Cause). value_in field word >>= λ v. rest >>= λ vs. Ok (v ∷ vs)) (values_in-fields spots words)

nothing_before : (rest : Result (List Value) Cause) → with_front [] rest ≡ rest
nothing_before (Ok vs) = refl
nothing_before (Err cause) = refl

pub values_from-start : (spots : List Spot) (words : List (Bor (List ℕ)))
    → with_front [] (values_from (map field_at spots) words) ≡ values_in spots (map (λ w. w.now) words)
values_from-start spots words = nothing_before _ ∙ values_in-fields spots _

pub values_from-key : (fields rest : List (Option Field)) (words more : List (Bor (List ℕ))) (word : Bor (List ℕ)) → fields ≡ None ∷ rest
    → words ≡ word ∷ more → values_from fields words ≡ values_from rest more
unfolding values_in
values_from-key fields rest words more word p w = rw (p, w) refl

regroup : (front : List Value) (v : Value) (rest : Result (List Value) Cause)
    → with_front front (rest >>= λ vs. Ok (v ∷ vs)) ≡ with_front (front ++ v ∷ []) rest
regroup front v (Ok vs) = ap (λ (ws : List Value). Ok ws) (simp append_assoc)
regroup front v (Err cause) = refl

pub values_from-field : (front : List Value) (fields rest : List (Option Field)) (words more : List (Bor (List ℕ))) (field : Field)
    (word : Bor (List ℕ)) (v : Value) → fields ≡ Some field ∷ rest → words ≡ word ∷ more
    → value_in field word.now ≡ Ok v → with_front front (values_from fields words) ≡ with_front (front ++ v ∷ []) (values_from rest more)
unfolding values_in
values_from-field front fields rest words more field word v p w is = rw (p, w, is) (regroup front v (values_from rest more))

pub values_from-bad : (front : List Value) (fields rest : List (Option Field)) (words more : List (Bor (List ℕ))) (field : Field)
    (word : Bor (List ℕ)) (cause : Cause) → fields ≡ Some field ∷ rest → words ≡ word ∷ more
    → value_in field word.now ≡ Err cause → with_front front (values_from fields words) ≡ Err cause
unfolding values_in
values_from-bad front fields rest words more field word cause p w is = rw (p, w, is) refl

pub values_from-end : (front : List Value) (fields : List (Option Field)) (words : List (Bor (List ℕ))) → (length fields ≡ 0) ⊎ (length words ≡ 0)
    → with_front front (values_from fields words) ≡ Ok front
unfolding values_in
values_from-end front [] words ended = ap (λ (vs : List Value). Ok vs) (append-nil front)
values_from-end front (None ∷ fields) [] ended = ap (λ (vs : List Value). Ok vs) (append-nil front)
values_from-end front (Some field ∷ fields) [] ended = ap (λ (vs : List Value). Ok vs) (append-nil front)
values_from-end front (field ∷ fields) (word ∷ words) (inl none) = absurd (omega (arith, none))
values_from-end front (field ∷ fields) (word ∷ words) (inr none) = absurd (omega (arith, none))

-- ---- a line of a form

-- the line of a form with these values, where there are some
abbrev pub line_with : Form → Result (List Value) Cause → Result Line Cause
line_with form found = found >>= λ vs. Ok (record { form = form; values = vs })

pub line_of_form-count : (form : Form) (words : List (Bor (List ℕ))) (fields : List (Option Field)) → fields ≡ map field_at (row form)
    → (length words ≡ length fields → ⊥)
    → line_of_form form (map (λ w. w.now) words) ≡ Err causes.WordCount
unfolding line_of_form
line_of_form-count form words fields is other =
    let counts : (length (map (λ w. w.now) words) == length (row form)) ≡ false =
    ne_eqb _ _ (λ same. other (sym (length-map words (λ w. w.now)) ∙ same ∙ sym (length-map (row form) field_at)
    ∙ ap (λ (ps : List (Option Field)). length ps) (sym is))) in
    rw counts refl

pub line_of_form-values : (form : Form) (words : List (Bor (List ℕ))) (fields : List (Option Field)) → fields ≡ map field_at (row form)
    → length words ≡ length fields
    → line_of_form form (map (λ w. w.now) words) ≡ line_with form (values_in (row form) (map (λ w. w.now) words))
unfolding line_of_form
line_of_form-values form words fields is same =
    let counts : (length (map (λ w. w.now) words) == length (row form)) ≡ true =
    eq-eqb _ _ (length-map words (λ w. w.now) ∙ same ∙ ap (λ (ps : List (Option Field)). length ps) is ∙ length-map (row form) field_at) in
    rw counts refl

pub line_filled : {U E : Type 0} (r : Result (Result U Cause) E) (form : Form) (found : Result (List Value) Cause) (line : Result Line Cause)
    (filled : List Value) → line ≡ line_with form found
    → IfOk r (λ q. MatchResult q (λ u. found ≡ Ok filled) (λ cause. found ≡ Err cause))
    → IfOk r (λ q. MatchResult q (λ u. line ≡ Ok (record { form = form; values = filled })) (λ cause. line ≡ Err cause))
line_filled (Err e) form found line filled is h = h
line_filled (Ok (Ok u)) form found line filled is h = is ∙ ap (line_with form) h
line_filled (Ok (Err cause)) form found line filled is h = is ∙ ap (line_with form) h

-- ---- a line by itself

pub list_any-map : {X Y : Type 0} (test : Y → Bool) (f : X → Y) (xs : List X) → list_any test (map f xs) ≡ list_any (λ x. test (f x)) xs
list_any-map test f [] = refl
list_any-map test f (x ∷ xs) = ap (λ (rest : Bool). test (f x) || rest) (list_any-map test f xs)

pub line_in-byte : (version : Version) (line : List ℕ) → list_any is_bad_byte line ≡ true → line_in version line ≡ Err causes.BadByte
unfolding line_in
line_in-byte version line bad = rw bad refl

pub line_in-space : (version : Version) (line : List ℕ) (words : List (List ℕ)) → words ≡ words_in line → list_any is_bad_byte line ≡ false
    → list_any is_empty_word words ≡ true → line_in version line ≡ Err causes.BadSpace
unfolding line_in
line_in-space version line words is good empty = rw (good, ← is, empty) refl

pub line_in-words : (version : Version) (line : List ℕ) (words : List (List ℕ)) (found : Result Form Cause) → words ≡ words_in line
    → list_any is_bad_byte line ≡ false → list_any is_empty_word words ≡ false → form_in version words ≡ found
    → line_in version line ≡ (found >>= λ form. line_of_form form words)
unfolding line_in
line_in-words version line words found is good full form = rw (good, ← is, full, form) refl
