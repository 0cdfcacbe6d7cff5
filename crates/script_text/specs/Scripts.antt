-- The lines of a script, the limits that it keeps to, and the bytes that it is read from.
use Rattle.std.specs.Prelude.{ℕ, ◌≡◌, ◌+◌, ◌-◌, ◌^◌, ◌<◌, ◌≤◌, ◌==◌, Bool, true, not, if◌then◌else◌, List, [], ◌∷◌, ◌++◌, length, map, filter}
use Rattle.std.specs.List.{AllByRecursion, flat_map, slice_split}
use Rattle.ktime.specs.declared.clock_id.ClockId.{ClockId}
use Rattle.seq_timer.specs.declared.context.Context.TheVariants as contexts
use Rattle.record_text.specs.declared.version.Version.{Version}
use Rattle.record_text.specs.declared.version.Version.TheVariants as versions
use Rattle.script_text.specs.declared.form.Line.{Line}
use Rattle.script_text.specs.declared.form.Form.TheVariants as forms
use Rattle.script_text.specs.declared.form.Value.TheVariants as values
use Rattle.script_text.specs.declared.script.Callback.TheVariants as callbacks
use Rattle.script_text.specs.declared.script.Kind.{Kind}
use Rattle.script_text.specs.declared.script.Kind.TheVariants as kinds
use Rattle.script_text.specs.declared.script.Declaration.{Declaration}
use Rattle.script_text.specs.declared.script.LaneCall.{LaneCall}
use Rattle.script_text.specs.declared.script.Round.{Round}
use Rattle.script_text.specs.declared.script.Script.{Script}
use Rattle.script_text.specs.Forms.{has_form}
use Rattle.script_text.specs.Grammar.{IsLine, of_numbers, spelled}
use Rattle.script_text.specs.CallLines.{IsCallInRange, call_line}

-- ---- limits

-- how many bytes a script may have
abbrev pub most_script_bytes : ℕ
most_script_bytes = 1048576

-- how many bases a script of a version may have
abbrev pub most_script_bases : Version → ℕ
most_script_bases versions.One = 8
most_script_bases versions.Two = 64

-- how many lanes a script of a version may have
abbrev pub most_lanes : Version → ℕ
most_lanes versions.One = 16
most_lanes versions.Two = 64

-- how many timers a script of a version may declare
abbrev pub most_timers : Version → ℕ
most_timers versions.One = 256
most_timers versions.Two = 4096

-- the greatest limit on a timer's entries in a script of a version
abbrev pub most_events : Version → ℕ
most_events versions.One = 2 ^ 48 - 16
most_events versions.Two = 2 ^ 48 - 2048

-- how many call lines a script may have
abbrev pub most_calls : ℕ
most_calls = 65536

-- ---- the lines of a script

-- the line that declares a timer of this number, on a clock and of a kind; a callback that cancels or starts has none in the soft context
abbrev pub declaration_line : ℕ → ClockId → Kind → Line
declaration_line timer clock (kinds.Raw contexts.Hard callbacks.Once) =
    record { form = forms.RawOnce; values = values.Number timer ∷ values.Clock clock ∷ [] }
declaration_line timer clock (kinds.Raw contexts.Soft callbacks.Once) =
    record { form = forms.SoftOnce; values = values.Number timer ∷ values.Clock clock ∷ [] }
declaration_line timer clock (kinds.Raw contexts.Hard (callbacks.Every interval)) =
    record { form = forms.RawEvery; values = values.Number timer ∷ values.Clock clock ∷ values.Number interval ∷ [] }
declaration_line timer clock (kinds.Raw contexts.Soft (callbacks.Every interval)) =
    record { form = forms.SoftEvery; values = values.Number timer ∷ values.Clock clock ∷ values.Number interval ∷ [] }
declaration_line timer clock (kinds.Raw context callbacks.Cancels) =
    record { form = forms.RawCancels; values = values.Number timer ∷ values.Clock clock ∷ [] }
declaration_line timer clock (kinds.Raw context (callbacks.Starts ns base)) =
    record { form = forms.RawStarts; values = values.Number timer ∷ values.Clock clock ∷ values.Number ns ∷ values.Number base ∷ [] }
declaration_line timer clock (kinds.Posix base) =
    record { form = forms.Posix; values = values.Number timer ∷ values.Clock clock ∷ values.Number base ∷ [] }
declaration_line timer clock (kinds.Fd base) = record { form = forms.Fd; values = values.Number timer ∷ values.Clock clock ∷ values.Number base ∷ [] }
declaration_line timer clock (kinds.Queued base) =
    record { form = forms.Queued; values = values.Number timer ∷ values.Clock clock ∷ values.Number base ∷ [] }
declaration_line timer clock (kinds.Sleeper base) =
    record { form = forms.Sleeper; values = values.Number timer ∷ values.Clock clock ∷ values.Number base ∷ [] }

-- the lines that declare timers, numbered from this one on
abbrev pub declaration_lines : ℕ → List Declaration → List Line
declaration_lines timer [] = []
declaration_lines timer (d ∷ ds) = declaration_line timer d.clock d.kind ∷ declaration_lines (timer + 1) ds

-- the lines of a round: one that begins it, and its calls in order
abbrev pub round_lines : Round → List Line
round_lines r = of_numbers forms.Round [] ∷ map (λ c. call_line c.lane c.call) r.calls

-- the number of a version
abbrev pub version_number : Version → ℕ
version_number versions.One = 1
version_number versions.Two = 2

-- the four header lines
abbrev pub header_lines : Version → ℕ → ℕ → ℕ → List Line
header_lines version bases lanes limit =
    of_numbers forms.Version (version_number version ∷ []) ∷ of_numbers forms.Bases (bases ∷ []) ∷ of_numbers forms.Lanes (lanes ∷ [])
    ∷ of_numbers forms.Limit (limit ∷ []) ∷ []

-- the lines of a script: the header, the declarations and the rounds
abbrev pub script_lines : Script → List Line
script_lines s = header_lines s.version s.bases s.lanes s.limit ++ declaration_lines 0 s.timers ++ flat_map round_lines s.rounds

-- ---- what a script may ask for

-- the calls of all rounds
abbrev pub all_calls : List Round → List LaneCall
all_calls rounds = flat_map (λ r. r.calls) rounds

-- the base that a timer's callback starts it on, or that an object's timer is on, exists; in the soft context no callback cancels or starts
abbrev pub IsKindInRange : ℕ → Kind → Type 0
IsKindInRange bases (kinds.Raw contexts.Hard (callbacks.Starts ns base)) = base < bases
IsKindInRange bases (kinds.Raw contexts.Hard callback) = Unit
IsKindInRange bases (kinds.Raw contexts.Soft (callbacks.Starts ns base)) = ⊥
IsKindInRange bases (kinds.Raw contexts.Soft callbacks.Cancels) = ⊥
IsKindInRange bases (kinds.Raw contexts.Soft callback) = Unit
IsKindInRange bases (kinds.Posix base) = base < bases
IsKindInRange bases (kinds.Fd base) = base < bases
IsKindInRange bases (kinds.Queued base) = base < bases
IsKindInRange bases (kinds.Sleeper base) = base < bases

-- lines are of forms that a version has
abbrev pub HasForms : Version → List Line → Type 0
HasForms version lines = AllByRecursion (λ l. has_form version l.form ≡ true) lines

-- a script keeps to the limits of its version, and has only lines of forms that its version has
pub record IsInRange (s : Script) : Type 0 where
  pub bases : (1 ≤ s.bases) × (s.bases ≤ most_script_bases s.version)
  pub lanes : (1 ≤ s.lanes) × (s.lanes ≤ most_lanes s.version)
  pub limit : (1 ≤ s.limit) × (s.limit ≤ most_events s.version)
  pub timers : length s.timers ≤ most_timers s.version
  pub forms : HasForms s.version (script_lines s)
  pub kinds : AllByRecursion (λ d. IsKindInRange s.bases d.kind) s.timers
  pub count : length (all_calls s.rounds) ≤ most_calls
  pub callers : AllByRecursion (λ c. c.lane < s.lanes) (all_calls s.rounds)
  pub calls : AllByRecursion (λ c. IsCallInRange c.lane s.bases s.timers c.call) (all_calls s.rounds)

-- ---- reading

-- the parts of a cut, the last one only if it isn't empty
abbrev pub without_empty_tail : List (List ℕ) → List (List ℕ)
without_empty_tail [] = []
without_empty_tail (last ∷ []) = if length last == 0 then [] else last ∷ []
without_empty_tail (part ∷ parts) = part ∷ without_empty_tail parts

-- the lines of bytes: they are cut at newlines, and what stands after the last newline is a line if it isn't empty
abbrev pub lines_of : List ℕ → List (List ℕ)
lines_of bytes = without_empty_tail (slice_split (λ b. b == 10) bytes)

-- an empty line, and one that begins with `#`, are skipped
abbrev pub is_skipped : List ℕ → Bool
is_skipped [] = true
is_skipped (b ∷ bs) = b == 35

-- these bytes are read as this script: the lines that aren't skipped are spelled as the script's lines
pub record Reads (bytes : List ℕ) (s : Script) : Type 0 where
  pub few : length bytes ≤ most_script_bytes
  pub spelling : filter (λ l. not (is_skipped l)) (lines_of bytes) ≡ map spelled (script_lines s)
  pub lines : AllByRecursion IsLine (script_lines s)
  pub ranges : IsInRange s
