-- The form that words choose, and the key words that it has.
use Rattle.std.proofs.Common.{arith, codes, ◌≡◌, ℕ, ◌<◌, ◌≤◌, length, Bool, true, false, List, [], ◌∷◌, ◌++◌, drop, Option, Some, None, Ok, Err, Result, ◌&&◌, refl, sym, subst, ◌∙◌, nat_le, if◌then◌else◌}
use Rattle.std.specs.Prelude.{bytes_eq}
use Rattle.std.specs.Fmt.{decimal}
use Rattle.std.specs.Str.Parse.{AllDigits}
use Rattle.std.proofs.lemmas.Bool.{and_from, and_parts, le-leb}
use Rattle.std.proofs.lemmas.Fmt.{decimal_nonempty, digits_decimal}
use Rattle.std.proofs.lemmas.Slice.Eq.{bytes_eq-Decides}
use Rattle.std.proofs.lemmas.Str.Parse.{digit_from_value}
use Rattle.ktime.specs.Times.{last_time}
use Rattle.record_text.specs.declared.version.Version.{Version}
use Rattle.record_text.specs.declared.version.Version.TheVariants as versions
use Rattle.script_text.specs.declared.form.Field.{Field}
use Rattle.script_text.specs.declared.form.Field.TheVariants as fields
use Rattle.script_text.specs.declared.form.Form.{Form}
use Rattle.script_text.specs.declared.form.Form.TheVariants as forms
use Rattle.script_text.specs.declared.refusal.Cause.{Cause}
use Rattle.script_text.specs.declared.refusal.Cause.TheVariants as causes
use Rattle.script_text.specs.declared.form.Value.{Value}
use Rattle.script_text.specs.declared.form.Value.TheVariants as values
use Rattle.script_text.specs.Forms.{Spot, Key, At, Numeral, call_forms, called_by, has_form, plain_forms, raw, raw_forms, comes_by, row, soft, soft_forms, sort}
use Rattle.script_text.specs.Grammar.{Fills, IsOfSort, fill_form}
use Rattle.script_text.specs.Reading.{begins_with_digit, find_form_by_first, form_in, find_form}
use Rattle.script_text.proofs.Numbers.{own}
use Rattle.script_text.proofs.Rows.{HasKeys, is_row, same_Ok}

-- ---- the words of a row choose its form

begins : (ds : List ℕ) → AllDigits 10 ds → 0 < length ds → begins_with_digit ds ≡ true
unfolding begins_with_digit
begins [] h some = absurd (omega (arith, some))
begins (d ∷ ds) h some =
    let digit = digit_from_value d h.0 in
    and_from (nat_le 48 d) (nat_le d 57) (le-leb 48 d (omega (arith, digit.0, digit.1))) (le-leb d 57 (omega (arith, digit.0, digit.1)))

decimal_begins : (n : ℕ) → n ≤ last_time → begins_with_digit (decimal n) ≡ true
decimal_begins n small = begins (decimal n) (digits_decimal own n (omega arith)) (decimal_nonempty n (omega arith))

-- the words that fill this row choose this form, whatever fills it
abbrev Chooses : Version → List Spot → Form → Type 0
Chooses version spots form = (vs : List Value) → Fills spots vs → form_in version (fill_form spots vs) ≡ Ok form

-- the field of a call's lane
abbrev lane_of : Form → Field
lane_of forms.Offline = fields.FirstLane
lane_of forms.Online = fields.FirstLane
lane_of form = fields.Lane

-- the key word at the second spot of a row, and no word where there is none
abbrev second_key : List Spot → List ℕ
second_key (spot ∷ Key name ∷ spots) = name
second_key spots = []

-- the name of a form's call
abbrev call_name : Form → List ℕ
call_name form = second_key (row form)

filled_call : (field : Field) (version : Version) (name : List ℕ) (more : List Spot) (form : Form)
    → find_form version call_forms name ≡ Ok form
    → (v : Value) (vs : List Value) → IsOfSort Numeral v → form_in version (fill_form (called_by field name more) (v ∷ vs)) ≡ Ok form
unfolding form_in find_form_by_first
filled_call field version name more form e (values.Clock c) vs none = absurd none
filled_call field version name more form e (values.Mode m) vs none = absurd none
filled_call field version name more form e (values.Number n) vs few = rw (decimal_begins n few) e

call_by : (field : Field) → sort field ≡ Numeral → (version : Version) (name : List ℕ) (more : List Spot) (form : Form)
    → find_form version call_forms name ≡ Ok form → Chooses version (called_by field name more) form
call_by field is version name more form e [] h = absurd h
call_by field is version name more form e (v ∷ vs) h = filled_call field version name more form e v vs (subst (λ s. IsOfSort s v) is h.0)

callback : (version : Version) (key : List ℕ) (more : List Spot) (form : Form) → find_form version raw_forms key ≡ Ok form
    → Chooses version (raw key more) form
unfolding form_in find_form_by_first begins_with_digit
callback version key more form e [] h = absurd h
callback version key more form e (v ∷ []) h = absurd h.1
callback version key more form e (v ∷ w ∷ vs) h = e

soft_callback : (version : Version) (key : List ℕ) (more : List Spot) (form : Form) → comes_by versions.Two version ≡ true
    → find_form version soft_forms key ≡ Ok form → Chooses version (soft key more) form
unfolding form_in find_form_by_first begins_with_digit
soft_callback version key more form has e [] h = absurd h
soft_callback version key more form has e (v ∷ []) h = absurd h.1
soft_callback version key more form has e (v ∷ w ∷ vs) h = rw has e

found_where : (form : Form) (has : Bool) → has ≡ true → ◌≡◌ {A = Result Form Cause} (if has then Ok form else Err causes.UnknownWord) (Ok form)
found_where form true is = refl
found_where form false is = absurd cc

-- the form of a row is the one that its words choose in a version that has it; its words are words of a line
pub form_again : (version : Version) (form : Form)
    → (has_form version form ≡ true → Chooses version (row form) form) × (is_row (row form) ≡ true)
unfolding form_in find_form_by_first begins_with_digit find_form
form_again version forms.Version = (λ has vs h. refl, refl)
form_again version forms.Bases = (λ has vs h. refl, refl)
form_again version forms.Lanes = (λ has vs h. refl, refl)
form_again version forms.Limit = (λ has vs h. refl, refl)
form_again version forms.RawOnce = (λ has. callback version (codes "once") (drop 4 (row forms.RawOnce)) _ refl, refl)
form_again version forms.RawEvery = (λ has. callback version (codes "every") (drop 4 (row forms.RawEvery)) _ refl, refl)
form_again version forms.RawCancels = (λ has. callback version (codes "cancels") (drop 4 (row forms.RawCancels)) _ refl, refl)
form_again version forms.RawStarts = (λ has. callback version (codes "starts") (drop 4 (row forms.RawStarts)) _ refl, refl)
form_again version forms.SoftOnce = (λ has. soft_callback version (codes "once") (drop 4 (row forms.SoftOnce)) _ has (rw has refl), refl)
form_again version forms.SoftEvery = (λ has. soft_callback version (codes "every") (drop 4 (row forms.SoftEvery)) _ has (rw has refl), refl)
form_again version forms.Posix = (λ has vs h. refl, refl)
form_again version forms.Fd = (λ has vs h. refl, refl)
form_again version forms.Queued = (λ has vs h. found_where forms.Queued (has_form version forms.Queued) has, refl)
form_again version forms.Sleeper = (λ has vs h. found_where forms.Sleeper (has_form version forms.Sleeper) has, refl)
form_again version forms.Round = (λ has vs h. refl, refl)
form_again version call =
    (λ has. call_by (lane_of call) refl version (call_name call) (drop 2 (row call)) call (found_where call (has_form version call) has), refl)

-- ---- the form that words choose has their key words, and the version has it

-- each row of a table passes a test of its word and its form
abbrev all_pass : (List ℕ → Form → Bool) → List (List ℕ × Form) → Bool
all_pass test [] = true
all_pass test (f ∷ table) = test f.0 f.1 && all_pass test table

-- the word and the form that it names in a table pass the test that each row passes, and the version has the form
found_passes : (version : Version) (test : List ℕ → Form → Bool) (table : List (List ℕ × Form)) (word : List ℕ) (form : Form)
    → all_pass test table ≡ true → find_form version table word ≡ Ok form → (test word form ≡ true) × (has_form version form ≡ true)
unfolding find_form
found_passes version test [] word form all e = absurd cc
found_passes version test (f ∷ table) word form all e =
    let passes = and_parts (test f.0 f.1) (all_pass test table) all in
    let go : (b : Bool) → (bytes_eq word f.0 && has_form version f.1) ≡ b → (if b then Ok f.1 else find_form version table word) ≡ Ok form
    → (test word form ≡ true) × (has_form version form ≡ true) =
    λ b. elim b as (λ b. (bytes_eq word f.0 && has_form version f.1) ≡ b → (if b then Ok f.1 else find_form version table word) ≡ Ok form
    → (test word form ≡ true) × (has_form version form ≡ true)) [
      | true ↦ λ is k.
          let both = and_parts (bytes_eq word f.0) (has_form version f.1) is in
          subst (λ form. (test word form ≡ true) × (has_form version form ≡ true)) (same_Ok f.1 form k)
          (subst (λ w. test w f.1 ≡ true) (sym ((bytes_eq-Decides word f.0).0 both.0)) passes.0, both.1)
      | false ↦ λ is k. found_passes version test table word form passes.1 k
    ] in
    go (bytes_eq word f.0 && has_form version f.1) refl e

-- a row begins with fields and these key words, and has no key word behind them
abbrev begins_so : List (Option (List ℕ)) → List Spot → Bool
begins_so (Some key ∷ keys) (Key word ∷ spots) = bytes_eq key word && begins_so keys spots
begins_so (None ∷ keys) (At field ∷ spots) = begins_so keys spots
begins_so [] (At field ∷ spots) = begins_so [] spots
begins_so [] [] = true
begins_so keys spots = false

-- words begin with these key words, any word standing where there is none
abbrev Begin : List (Option (List ℕ)) → List (List ℕ) → Type 0
Begin (Some key ∷ keys) (word ∷ words) = (word ≡ key) × Begin keys words
Begin (None ∷ keys) (word ∷ words) = Begin keys words
Begin keys words = Unit

has_keys : (keys : List (Option (List ℕ))) (spots : List Spot) (words : List (List ℕ)) → begins_so keys spots ≡ true → Begin keys words
    → HasKeys spots words
has_keys (Some key ∷ keys) (Key word ∷ spots) [] so begin = tt
has_keys (Some key ∷ keys) (Key word ∷ spots) (w ∷ words) so begin =
    let both = and_parts (bytes_eq key word) (begins_so keys spots) so in
    (begin.0 ∙ (bytes_eq-Decides key word).0 both.0, has_keys keys spots words both.1 begin.1)
has_keys (None ∷ keys) (At field ∷ spots) [] so begin = tt
has_keys (None ∷ keys) (At field ∷ spots) (w ∷ words) so begin = has_keys keys spots words so begin
has_keys [] (At field ∷ spots) [] so begin = tt
has_keys [] (At field ∷ spots) (w ∷ words) so begin = has_keys [] spots words so tt
has_keys [] [] words so begin = tt
has_keys _ _ words so begin = absurd cc

-- the words have the form's key words, and the version has the form
abbrev pub IsChosen : Version → Form → List (List ℕ) → Type 0
IsChosen version form words = HasKeys (row form) words × (has_form version form ≡ true)

-- the words of a line have the key words of the form that one of them names in a table
chosen : (version : Version) (before : List (Option (List ℕ))) (table : List (List ℕ × Form)) (key : List ℕ) (form : Form) (words : List (List ℕ))
    → all_pass (λ key form. begins_so (before ++ Some key ∷ []) (row form)) table ≡ true → find_form version table key ≡ Ok form
    → Begin (before ++ Some key ∷ []) words → IsChosen version form words
chosen version before table key form words all e begin =
    let found = found_passes version (λ key form. begins_so (before ++ Some key ∷ []) (row form)) table key form all e in
    (has_keys (before ++ Some key ∷ []) (row form) words found.0 begin, found.1)

callback_chosen : (version : Version) (words : List (List ℕ)) (form : Form) → find_form_by_first version raw_forms (drop 2 words) ≡ Ok form
    → IsChosen version form (codes "raw" ∷ words)
unfolding find_form_by_first
callback_chosen version [] form e = absurd cc
callback_chosen version (timer ∷ []) form e = absurd cc
callback_chosen version (timer ∷ clock ∷ []) form e = absurd cc
callback_chosen version (timer ∷ clock ∷ key ∷ words) form e =
    chosen version (Some (codes "raw") ∷ None ∷ None ∷ []) raw_forms key form _ refl e (refl, (refl, tt))

soft_chosen : (version : Version) (words : List (List ℕ)) (form : Form) → find_form_by_first version soft_forms (drop 2 words) ≡ Ok form
    → IsChosen version form (codes "soft" ∷ words)
unfolding find_form_by_first
soft_chosen version [] form e = absurd cc
soft_chosen version (timer ∷ []) form e = absurd cc
soft_chosen version (timer ∷ clock ∷ []) form e = absurd cc
soft_chosen version (timer ∷ clock ∷ key ∷ words) form e =
    chosen version (Some (codes "soft") ∷ None ∷ None ∷ []) soft_forms key form _ refl e (refl, (refl, tt))

call_chosen : (version : Version) (lane : List ℕ) (words : List (List ℕ)) (form : Form) → find_form_by_first version call_forms words ≡ Ok form
    → IsChosen version form (lane ∷ words)
unfolding find_form_by_first
call_chosen version lane [] form e = absurd cc
call_chosen version lane (name ∷ words) form e = chosen version (None ∷ []) call_forms name form _ refl e (refl, tt)

pub form_spells : (version : Version) (words : List (List ℕ)) (form : Form) → form_in version words ≡ Ok form → IsChosen version form words
unfolding form_in
form_spells version [] form e = absurd cc
form_spells version (word ∷ words) form e =
    let is_soft : Bool = bytes_eq word (codes "soft") && comes_by versions.Two version in
    let calls : Result Form Cause = find_form_by_first version call_forms words in
    let hard : Result Form Cause = find_form_by_first version raw_forms (drop 2 words) in
    let soft : Result Form Cause = find_form_by_first version soft_forms (drop 2 words) in
    let plain : Result Form Cause = find_form version plain_forms word in
    let soft_or_plain : (b : Bool) → is_soft ≡ b → (if b then soft else plain) ≡ Ok form → IsChosen version form (word ∷ words) =
    λ b. elim b as (λ b. is_soft ≡ b → (if b then soft else plain) ≡ Ok form → IsChosen version form (word ∷ words)) [
      | true ↦ λ is k.
          let same = (bytes_eq-Decides word (codes "soft")).0 (and_parts (bytes_eq word (codes "soft")) (comes_by versions.Two version) is).0 in
          subst (λ w. IsChosen version form (w ∷ words)) (sym same) (soft_chosen version words form k)
      | false ↦ λ is k. chosen version [] plain_forms word form _ refl k (refl, tt)
    ] in
    let raw_or_other : (b : Bool) → bytes_eq word (codes "raw") ≡ b → (if b then hard else (if is_soft then soft else plain)) ≡ Ok form
    → IsChosen version form (word ∷ words) =
    λ b. elim b as (λ b. bytes_eq word (codes "raw") ≡ b → (if b then hard else (if is_soft then soft else plain)) ≡ Ok form
    → IsChosen version form (word ∷ words)) [
      | true ↦ λ is k.
          subst (λ w. IsChosen version form (w ∷ words)) (sym ((bytes_eq-Decides word (codes "raw")).0 is)) (callback_chosen version words form k)
      | false ↦ λ is k. soft_or_plain is_soft refl k
    ] in
    let go : (b : Bool) → (if b then calls else (if bytes_eq word (codes "raw") then hard else (if is_soft then soft else plain))) ≡ Ok form
    → IsChosen version form (word ∷ words) =
    λ b. elim b as (λ b. (if b then calls else (if bytes_eq word (codes "raw") then hard else (if is_soft then soft else plain))) ≡ Ok form
    → IsChosen version form (word ∷ words)) [
      | true ↦ λ k. call_chosen version word words form k
      | false ↦ λ k. raw_or_other (bytes_eq word (codes "raw")) refl k
    ] in
    go (begins_with_digit word) e
