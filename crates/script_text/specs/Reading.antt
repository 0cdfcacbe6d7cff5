-- How one line is read by itself, and the first cause that refuses it and needs no line before it.
use Rattle.std.specs.Prelude.{ℕ, ◌==◌, ◌&&◌, ◌||◌, Bool, false, nat_lt, nat_le, if◌then◌else◌, List, [], ◌∷◌, length, drop, bytes_eq, Option, Some, None, Result, Ok, Err, codes}
use Rattle.std.specs.List.{list_any, slice_split}
use Rattle.std.specs.Fmt.{decimal}
use Rattle.std.specs.Str.Parse.{digits_value}
use Rattle.ktime.specs.Times.{last_time}
use Rattle.ktime.specs.declared.clock_id.ClockId.{ClockId}
use Rattle.ktime.specs.declared.clock_id.ClockId.TheVariants as clocks
use Rattle.ktime.specs.declared.mode.Mode.{Mode}
use Rattle.ktime.specs.declared.mode.Mode.TheVariants as modes
use Rattle.record_text.specs.declared.version.Version.{Version}
use Rattle.record_text.specs.declared.version.Version.TheVariants as versions
use Rattle.script_text.specs.declared.form.Form.{Form}
use Rattle.script_text.specs.declared.form.Line.{Line}
use Rattle.script_text.specs.declared.form.Field.{Field}
use Rattle.script_text.specs.declared.form.Value.{Value}
use Rattle.script_text.specs.declared.form.Value.TheVariants as values
use Rattle.script_text.specs.declared.refusal.Cause.{Cause}
use Rattle.script_text.specs.declared.refusal.Cause.TheVariants as causes
use Rattle.script_text.specs.Forms.{Spot, Key, At, Sort, ClockName, ModeName, Numeral, sort, row, comes_by, has_form, plain_forms, raw_forms, soft_forms, call_forms}

infixl 10 ◌>>=◌
abbrev pub ◌>>=◌ : {A B E : Type 0} → Result A E → (A → Result B E) → Result B E
(Ok x) >>= f = f x
(Err e) >>= f = Err e

-- what there is, or this cause
abbrev pub or_cause : {A : Type 0} → Cause → Option A → Result A Cause
or_cause cause None = Err cause
or_cause cause (Some x) = Ok x

-- ---- words

-- the number that has this word as its decimal
unfoldable pub number_in : List ℕ → Option ℕ
number_in word = if nat_le (digits_value 10 word) last_time && bytes_eq word (decimal (digits_value 10 word)) then Some
    (digits_value 10 word) else None

-- the clock of this name
unfoldable pub clock_in : List ℕ → Option ClockId
clock_in word =
    if bytes_eq word (codes "monotonic") then Some clocks.Monotonic
    else if bytes_eq word (codes "realtime") then Some clocks.Realtime
    else if bytes_eq word (codes "boottime") then Some clocks.Boottime
    else None

-- the mode of this name, among those that a script can give
unfoldable pub mode_in : List ℕ → Option Mode
mode_in word =
    if bytes_eq word (codes "rel") then Some modes.Rel
    else if bytes_eq word (codes "abs") then Some modes.Abs
    else None

-- what a word says, where it is of this sort
unfoldable pub word_in : Sort → List ℕ → Result Value Cause
word_in ClockName word = or_cause causes.UnknownWord (clock_in word) >>= λ clock. Ok (values.Clock clock)
word_in ModeName word = or_cause causes.UnknownWord (mode_in word) >>= λ mode. Ok (values.Mode mode)
word_in Numeral word = or_cause causes.BadNumber (number_in word) >>= λ n. Ok (values.Number n)

-- what a word fills a field with
abbrev pub value_in : Field → List ℕ → Result Value Cause
value_in field word = word_in (sort field) word

-- what words fill the fields of a row with, from left to right
unfoldable pub values_in : List Spot → List (List ℕ) → Result (List Value) Cause
values_in (Key key ∷ spots) (word ∷ words) = values_in spots words
values_in (At field ∷ spots) (word ∷ words) = value_in field word >>= λ v. values_in spots words >>= λ vs. Ok (v ∷ vs)
values_in spots words = Ok []

-- ---- forms

-- the form that a word names among these, in this version
unfoldable pub find_form : Version → List (List ℕ × Form) → List ℕ → Result Form Cause
find_form version [] word = Err causes.UnknownWord
find_form version (f ∷ fs) word = if bytes_eq word f.0 && has_form version f.1 then Ok f.1 else find_form version fs word

-- the form that the first of these words names
unfoldable pub find_form_by_first : Version → List (List ℕ × Form) → List (List ℕ) → Result Form Cause
find_form_by_first version forms [] = Err causes.WordCount
find_form_by_first version forms (word ∷ words) = find_form version forms word

-- a call line begins with a digit
unfoldable pub begins_with_digit : List ℕ → Bool
begins_with_digit [] = false
begins_with_digit (b ∷ bs) = nat_le 48 b && nat_le b 57

-- the form of a line in this version: a call's is chosen by the second word, a raw or soft timer's by the fourth, any other by the first
unfoldable pub form_in : Version → List (List ℕ) → Result Form Cause
form_in version [] = Err causes.WordCount
form_in version (word ∷ words) =
    if begins_with_digit word then find_form_by_first version call_forms words
    else if bytes_eq word (codes "raw") then find_form_by_first version raw_forms (drop 2 words)
    else if bytes_eq word (codes "soft") && comes_by versions.Two version then find_form_by_first version soft_forms (drop 2 words)
    else find_form version plain_forms word

-- ---- lines

-- the words of a line: it is cut at spaces
abbrev pub words_in : List ℕ → List (List ℕ)
words_in line = slice_split (λ b. b == 32) line

-- no letter, digit, sign or space
abbrev pub is_bad_byte : ℕ → Bool
is_bad_byte b = nat_lt b 32 || nat_lt 126 b

-- an empty word stands beside a space too many
abbrev pub is_empty_word : List ℕ → Bool
is_empty_word word = length word == 0

-- words of the right number fill the fields of a form
unfoldable pub line_of_form : Form → List (List ℕ) → Result Line Cause
line_of_form form words =
    if length words == length (row form) then (values_in (row form) words >>= λ vs. Ok (record { form = form; values = vs }))
    else Err causes.WordCount

-- a line by itself in this version: its bytes, then its spaces, then its form, then its words
unfoldable pub line_in : Version → List ℕ → Result Line Cause
line_in version line =
    if list_any is_bad_byte line then Err causes.BadByte
    else if list_any is_empty_word (words_in line) then Err causes.BadSpace
    else form_in version (words_in line) >>= λ form. line_of_form form (words_in line)
