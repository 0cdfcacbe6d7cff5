-- The form that a word names in a table, as a loop over its rows finds it.
use Rattle.std.proofs.Common.{arith, codes, ◌≡◌, ℕ, ◌+◌, ◌<◌, ◌≤◌, true, false, List, [], ◌∷◌, length, drop, get_or, map, refl, Bor, Ok, Err, Result, ◌&&◌}
use Rattle.std.specs.Prelude.{bytes_eq}
use Rattle.std.proofs.lemmas.List.{drop-map, drop_all, drop_more}
use Rattle.record_text.specs.declared.version.Version.{Version}
use Rattle.record_text.specs.declared.version.Version.TheVariants as versions
use Rattle.script_text.specs.declared.form.Form.{Form}
use Rattle.script_text.specs.declared.refusal.Cause.{Cause}
use Rattle.script_text.specs.declared.refusal.Cause.TheVariants as causes
use Rattle.script_text.specs.Forms.{call_forms, has_form, plain_forms, raw_forms, comes_by, soft_forms}
use Rattle.script_text.specs.Reading.{begins_with_digit, find_form_by_first, form_in, find_form}

-- what a word names among the rows of a slice from one on
abbrev pub found_from : Version → List (Bor (List ℕ) × Form) → ℕ → List ℕ → Result Form Cause
found_from version forms i word = find_form version (map (λ f. (f.0.now, f.1)) (drop i forms)) word

pub found_here : (version : Version) (forms : List (Bor (List ℕ) × Form)) (i : ℕ) (d : Bor (List ℕ) × Form) (word : List ℕ) → i < length forms
    → (bytes_eq word (get_or forms i d).0.now && has_form version (get_or forms i d).1) ≡ true
    → found_from version forms i word ≡ Ok (get_or forms i d).1
unfolding find_form
found_here version forms i d word inside same = rw (drop_more forms i d inside, same) refl

pub found_past : (version : Version) (forms : List (Bor (List ℕ) × Form)) (i : ℕ) (d : Bor (List ℕ) × Form) (word : List ℕ) → i < length forms
    → (bytes_eq word (get_or forms i d).0.now && has_form version (get_or forms i d).1) ≡ false
    → found_from version forms i word ≡ found_from version forms (i + 1) word
unfolding find_form
found_past version forms i d word inside other = rw (drop_more forms i d inside, other) refl

pub found_end : (version : Version) (forms : List (Bor (List ℕ) × Form)) (i : ℕ) (word : List ℕ) → length forms ≤ i
    → found_from version forms i word ≡ Err causes.UnknownWord
unfolding find_form
found_end version forms i word past = rw (drop_all i forms past) refl

-- ---- the word that names the form of a line

-- the words of a line, as a slice has them
abbrev pub read : List (Bor (List ℕ)) → List (List ℕ)
read words = map (λ w. w.now) words

pub find_form_by_first_some : (version : Version) (forms : List (List ℕ × Form)) (words : List (Bor (List ℕ))) (at : ℕ) (word : Bor (List ℕ))
    → at < length words
    → word ≡ get_or words at word
    → find_form_by_first version forms (drop at (read words)) ≡ find_form version forms word.now
unfolding find_form_by_first
find_form_by_first_some version forms words at word inside is = rw (drop-map _ at words, drop_more words at word inside, ← is) refl

pub find_form_by_first_none : (version : Version) (forms : List (List ℕ × Form)) (words : List (Bor (List ℕ))) (at : ℕ) → length words ≤ at
    → find_form_by_first version forms (drop at (read words)) ≡ Err causes.WordCount
unfolding find_form_by_first
find_form_by_first_none version forms words at past = rw (drop-map _ at words, drop_all at words past) refl

pub form_none : (version : Version) (words : List (Bor (List ℕ))) → length words ≤ 0 → form_in version (read words) ≡ Err causes.WordCount
unfolding form_in
form_none version [] none = refl
form_none version (w ∷ ws) none = absurd (omega (arith, none))

pub form_of_call : (version : Version) (words : List (Bor (List ℕ))) (first : Bor (List ℕ)) → 0 < length words → first ≡ get_or words 0 first
    → begins_with_digit first.now ≡ true
    → form_in version (read words) ≡ find_form_by_first version call_forms (drop 1 (read words))
unfolding form_in
form_of_call version [] first some is digit = absurd (omega (arith, some))
form_of_call version (w ∷ ws) first some is digit = rw (← is, digit) refl

pub form_of_raw : (version : Version) (words : List (Bor (List ℕ))) (first : Bor (List ℕ)) → 0 < length words → first ≡ get_or words 0 first
    → begins_with_digit first.now ≡ false → bytes_eq first.now (codes "raw") ≡ true
    → form_in version (read words) ≡ find_form_by_first version raw_forms (drop 3 (read words))
unfolding form_in
form_of_raw version [] first some is other raw = absurd (omega (arith, some))
form_of_raw version (w ∷ ws) first some is other raw = rw (← is, other, raw) refl

pub form_of_soft : (version : Version) (words : List (Bor (List ℕ))) (first : Bor (List ℕ)) → 0 < length words → first ≡ get_or words 0 first
    → begins_with_digit first.now ≡ false → bytes_eq first.now (codes "raw") ≡ false
    → (bytes_eq first.now (codes "soft") && comes_by versions.Two version) ≡ true
    → form_in version (read words) ≡ find_form_by_first version soft_forms (drop 3 (read words))
unfolding form_in
form_of_soft version [] first some is other hard soft = absurd (omega (arith, some))
form_of_soft version (w ∷ ws) first some is other hard soft = rw (← is, other, hard, soft) refl

pub form_of_plain : (version : Version) (words : List (Bor (List ℕ))) (first : Bor (List ℕ)) → 0 < length words → first ≡ get_or words 0 first
    → begins_with_digit first.now ≡ false → bytes_eq first.now (codes "raw") ≡ false
    → (bytes_eq first.now (codes "soft") && comes_by versions.Two version) ≡ false
    → form_in version (read words) ≡ find_form_by_first version plain_forms (drop 0 (read words))
unfolding form_in find_form_by_first
form_of_plain version [] first some is other hard plain = absurd (omega (arith, some))
form_of_plain version (w ∷ ws) first some is other hard plain = rw (← is, other, hard, plain) refl
