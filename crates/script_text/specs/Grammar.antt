-- The grammar of a line: how it is spelled, and which lines can be.
use Rattle.std.specs.Prelude.{ℕ, ◌≤◌, List, [], ◌∷◌, map}
use Rattle.std.specs.List.{join_with_byte}
use Rattle.std.specs.Fmt.{decimal}
use Rattle.ktime.specs.Times.{last_time}
use Rattle.ktime.specs.declared.mode.Mode.TheVariants as modes
use Rattle.record_text.specs.Words.{clock_word, mode_word}
use Rattle.script_text.specs.declared.form.Form.{Form}
use Rattle.script_text.specs.declared.form.Line.{Line}
use Rattle.script_text.specs.declared.form.Field.{Field}
use Rattle.script_text.specs.declared.form.Value.{Value}
use Rattle.script_text.specs.declared.form.Value.TheVariants as values
use Rattle.script_text.specs.Forms.{Spot, Key, At, Sort, ClockName, ModeName, Numeral, row, sort}

-- the word that a field is filled with: a number in decimal, a clock or a mode by its name
abbrev pub value_word : Value → List ℕ
value_word (values.Clock clock) = clock_word clock
value_word (values.Mode mode) = mode_word mode
value_word (values.Number n) = decimal n

-- a row's words, its fields filled from left to right
abbrev pub fill_form : List Spot → List Value → List (List ℕ)
fill_form [] vs = []
fill_form (Key word ∷ spots) vs = word ∷ fill_form spots vs
fill_form (At field ∷ spots) (v ∷ vs) = value_word v ∷ fill_form spots vs
fill_form (At field ∷ spots) [] = []

-- it may be the name of a clock, a mode that a script can give, or a number up to the end of time
abbrev pub IsOfSort : Sort → Value → Type 0
IsOfSort ClockName (values.Clock clock) = Unit
IsOfSort ModeName (values.Mode modes.Abs) = Unit
IsOfSort ModeName (values.Mode modes.Rel) = Unit
IsOfSort Numeral (values.Number n) = n ≤ last_time
IsOfSort sort v = ⊥

-- a field takes what is of its sort
abbrev pub CanFill : Field → Value → Type 0
CanFill field v = IsOfSort (sort field) v

-- each field of a row is filled with what it takes, and nothing is left over
abbrev pub Fills : List Spot → List Value → Type 0
Fills [] [] = Unit
Fills [] (v ∷ vs) = ⊥
Fills (Key word ∷ spots) vs = Fills spots vs
Fills (At field ∷ spots) (v ∷ vs) = CanFill field v × Fills spots vs
Fills (At field ∷ spots) [] = ⊥

-- a line can be spelled
abbrev pub IsLine : Line → Type 0
IsLine l = Fills (row l.form) l.values

-- a line in bytes: its words with single spaces between them
abbrev pub spelled : Line → List ℕ
spelled l = join_with_byte 32 (fill_form (row l.form) l.values)

-- a line of a form whose fields are all filled with numbers
abbrev pub of_numbers : Form → List ℕ → Line
of_numbers form ns = record { form = form; values = map (λ n. values.Number n) ns }
