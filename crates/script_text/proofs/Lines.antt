-- A line is read from its own bytes, and from no others.
use Rattle.std.proofs.Common.{arith, ◌≡◌, ℕ, ◌<◌, Bool, true, false, List, [], ◌∷◌, length, Result, Ok, Err, refl, sym, ap, subst, ◌∙◌, nat_lt, if◌then◌else◌, ◌==◌}
use Rattle.std.specs.List.{AllByRecursion, join_with_byte, list_all, list_any}
use Rattle.std.proofs.lemmas.Bool.{and_parts, eq-eqb, eqb-true, ltb-true, ne_eqb, le-ltb}
use Rattle.std.proofs.lemmas.List.Folds.{list_any-append}
use Rattle.std.proofs.lemmas.List.Splits.{join_with_byte-slice_split}
use Rattle.record_text.specs.declared.version.Version.{Version}
use Rattle.record_text.specs.declared.version.Version.TheVariants as versions
use Rattle.script_text.specs.declared.form.Form.{Form}
use Rattle.script_text.specs.declared.form.Line.{Line}
use Rattle.script_text.specs.declared.refusal.Cause.{Cause}
use Rattle.script_text.specs.declared.refusal.Cause.TheVariants as causes
use Rattle.script_text.specs.Forms.{has_form, row}
use Rattle.script_text.specs.Grammar.{IsLine, fill_form, spelled}
use Rattle.script_text.specs.Reading.{◌>>=◌, line_of_form, is_bad_byte, is_empty_word, line_in, values_in, words_in}
use Rattle.script_text.specs.Scripts.{is_skipped}
use Rattle.record_text.proofs.Cutting.{Without, split_joined}
use Rattle.script_text.proofs.Choosing.{form_again, form_spells}
use Rattle.script_text.proofs.Filling.{line_in-words}
use Rattle.script_text.proofs.Rows.{AreWords, HasKeys, bind_ok, is_plain, is_word, length-filled, row_words, same_Ok, values_again, values_spell}

-- ---- the bytes of words

-- all are words
abbrev AllWords : List (List ℕ) → Type 0
AllWords words = AllByRecursion (λ w. is_word w ≡ true) words

without_space : (word : List ℕ) → list_all is_plain word ≡ true → Without 32 word
without_space [] plain = tt
without_space (b ∷ bs) plain =
    let both = and_parts (is_plain b) (list_all is_plain bs) plain in
    (ne_eqb b 32 (λ same. omega (arith, same, ltb-true 47 b (and_parts (nat_lt 47 b) (nat_lt b 127) both.0).0)), without_space bs both.1)

words_without_space : (words : List (List ℕ)) → AllWords words → AllByRecursion (λ w. Without 32 w) words
words_without_space [] h = tt
words_without_space ([] ∷ words) h = absurd cc
words_without_space ((b ∷ bs) ∷ words) h = (without_space (b ∷ bs) h.0, words_without_space words h.1)

words_again : (words : List (List ℕ)) → AreWords words → words_in (join_with_byte 32 words) ≡ words
words_again [] h = absurd (omega (arith, h.0))
words_again (w ∷ ws) h = split_joined 32 w ws (words_without_space (w ∷ ws) h.1)

first_byte : (b : ℕ) (bs : List ℕ) → is_word (b ∷ bs) ≡ true → 47 < b
first_byte b bs plain = ltb-true 47 b (and_parts (nat_lt 47 b) (nat_lt b 127) (and_parts (is_plain b) (list_all is_plain bs) plain).0).0

no_empty_word : (words : List (List ℕ)) → AllWords words → list_any is_empty_word words ≡ false
no_empty_word [] h = refl
no_empty_word ([] ∷ words) h = absurd cc
no_empty_word ((b ∷ bs) ∷ words) h = rw (ne_eqb (length (b ∷ bs)) 0 (λ none. omega (arith, none))) (no_empty_word words h.1)

good_byte : (b : ℕ) → is_plain b ≡ true → is_bad_byte b ≡ false
good_byte b plain =
    let both = and_parts (nat_lt 47 b) (nat_lt b 127) plain in
    rw (le-ltb b 32 (omega (arith, ltb-true 47 b both.0)), le-ltb 126 b (omega (arith, ltb-true b 127 both.1))) refl

no_bad_byte : (word : List ℕ) → list_all is_plain word ≡ true → list_any is_bad_byte word ≡ false
no_bad_byte [] plain = refl
no_bad_byte (b ∷ bs) plain =
    let both = and_parts (is_plain b) (list_all is_plain bs) plain in
    rw (good_byte b both.0) (no_bad_byte bs both.1)

good_bytes : (words : List (List ℕ)) → AllWords words → list_any is_bad_byte (join_with_byte 32 words) ≡ false
good_bytes [] h = refl
good_bytes ([] ∷ words) h = absurd cc
good_bytes ((b ∷ bs) ∷ []) h = no_bad_byte (b ∷ bs) h.0
good_bytes ((b ∷ bs) ∷ w ∷ ws) h =
    list_any-append is_bad_byte (b ∷ bs) (32 ∷ join_with_byte 32 (w ∷ ws)) ∙ rw (no_bad_byte (b ∷ bs) h.0) (good_bytes (w ∷ ws) h.1)

kept : (words : List (List ℕ)) → AreWords words → is_skipped (join_with_byte 32 words) ≡ false
kept [] h = absurd (omega (arith, h.0))
kept ([] ∷ words) h = absurd cc
kept ((b ∷ bs) ∷ []) h = ne_eqb b 35 (λ same. omega (arith, same, first_byte b bs h.1.0))
kept ((b ∷ bs) ∷ w ∷ ws) h = ne_eqb b 35 (λ same. omega (arith, same, first_byte b bs h.1.0))

-- ---- a line

line_words : (l : Line) → IsLine l → AreWords (fill_form (row l.form) l.values)
line_words l h = row_words (row l.form) l.values h (form_again versions.One l.form).1

-- a line that can be spelled isn't skipped
pub spelled_kept : (l : Line) → IsLine l → is_skipped (spelled l) ≡ false
spelled_kept l h = kept (fill_form (row l.form) l.values) (line_words l h)

-- the bytes of a line that can be spelled are letters, digits, signs and spaces
pub spelled_good : (l : Line) → IsLine l → list_any is_bad_byte (spelled l) ≡ false
spelled_good l h = good_bytes (fill_form (row l.form) l.values) (line_words l h).1

pub line_again : (version : Version) (l : Line) → has_form version l.form ≡ true → IsLine l → line_in version (spelled l) ≡ Ok l
unfolding line_of_form
line_again version l has h =
    let words = fill_form (row l.form) l.values in
    let are = line_words l h in
    let form = (form_again version l.form).0 has l.values h in
    line_in-words version (spelled l) words _ (sym (words_again words are)) (good_bytes words are.1) (no_empty_word words are.1) form
    ∙ rw (eq-eqb (length words) (length (row l.form)) (length-filled (row l.form) l.values h), values_again (row l.form) l.values h) refl

unless_refused : (b : Bool) (cause : Cause) (r : Result Line Cause) (l : Line) → (if b then Err cause else r) ≡ Ok l → r ≡ Ok l
unless_refused true cause r l e = absurd cc
unless_refused false cause r l e = e

-- these words spell a line of a form that the version has
abbrev Spells : Version → List (List ℕ) → Line → Type 0
Spells version words l = (words ≡ fill_form (row l.form) l.values) × IsLine l × (has_form version l.form ≡ true)

filled_spells : (version : Version) (form : Form) (words : List (List ℕ)) (l : Line) → HasKeys (row form) words → has_form version form ≡ true
    → line_of_form form words ≡ Ok l → Spells version words l
unfolding line_of_form
filled_spells version form words l keys has e =
    let go : (b : Bool) → (length words == length (row form)) ≡ b
    → (if b then (values_in (row form) words >>= λ vs. Ok (record { form = form; values = vs })) else Err causes.WordCount) ≡ Ok l
    → Spells version words l =
    λ b. elim b as (λ b. (length words == length (row form)) ≡ b
    → (if b then (values_in (row form) words >>= λ vs. Ok (record { form = form; values = vs })) else Err causes.WordCount) ≡ Ok l
    → Spells version words l) [
      | true ↦ λ is k.
          let vs = bind_ok _ _ l k in
          let s = values_spell (row form) words vs.0 (eqb-true _ _ is) keys vs.1 in
          subst (λ l. Spells version words l) (same_Ok _ l vs.2) (s.0, s.1, has)
      | false ↦ λ is k. absurd cc
    ] in
    go (length words == length (row form)) refl e

pub line_spells : (version : Version) (bytes : List ℕ) (l : Line) → line_in version bytes ≡ Ok l
    → (bytes ≡ spelled l) × IsLine l × (has_form version l.form ≡ true)
unfolding line_in
line_spells version bytes l e =
    let full = unless_refused (list_any is_bad_byte bytes) causes.BadByte _ l e in
    let form = bind_ok _ _ l (unless_refused (list_any is_empty_word (words_in bytes)) causes.BadSpace _ l full) in
    let chosen = form_spells version (words_in bytes) form.0 form.1 in
    let s = filled_spells version form.0 (words_in bytes) l chosen.0 chosen.1 form.2 in
    (sym (join_with_byte-slice_split 32 bytes) ∙ ap (λ (words : List (List ℕ)). join_with_byte 32 words) s.0, s.1, s.2)
