-- When a script is refused, at which line and for which cause, and how that is told.
use Rattle.std.specs.Prelude.{ℕ, ◌≡◌, ◌+◌, ◌&&◌, ◌||◌, ◌++◌, Bool, true, false, not, is_some, nat_lt, nat_le, nat_eq, if◌then◌else◌, List, [], ◌∷◌, length, map, get_or, Option, Some, None, Result, Ok, Err, codes}
use Rattle.std.specs.Fmt.{decimal}
use Rattle.std.specs.Option.{option_or}
use Rattle.seq_timer.specs.declared.context.Context.TheVariants as contexts
use Rattle.script_text.specs.declared.form.Form.{Form}
use Rattle.script_text.specs.declared.form.Line.{Line}
use Rattle.script_text.specs.declared.form.Part.{Part}
use Rattle.script_text.specs.declared.form.Part.TheVariants as parts
use Rattle.script_text.specs.declared.form.Field.{Field}
use Rattle.script_text.specs.declared.form.Field.TheVariants as fields
use Rattle.script_text.specs.declared.form.Value.{Value}
use Rattle.script_text.specs.declared.form.Value.TheVariants as values
use Rattle.script_text.specs.declared.script.Callback.TheVariants as callbacks
use Rattle.script_text.specs.declared.script.Kind.{Kind}
use Rattle.script_text.specs.declared.script.Kind.TheVariants as kinds
use Rattle.script_text.specs.declared.script.Script.{Script}
use Rattle.script_text.specs.declared.refusal.Cause.{Cause}
use Rattle.script_text.specs.declared.refusal.Cause.TheVariants as causes
use Rattle.script_text.specs.declared.refusal.Refused.{Refused}
use Rattle.script_text.specs.declared.refusal.ParseError.{ParseError}
use Rattle.script_text.specs.declared.refusal.ParseError.TheVariants as errors
use Rattle.script_text.specs.Forms.{Spot, Key, At, row, part, suits}
use Rattle.script_text.specs.Reading.{◌>>=◌, line_in}
use Rattle.script_text.specs.declared.reading.drafts.Draft.{Draft}
use Rattle.script_text.specs.Drafts.{empty, script_of, draft_with_line}
use Rattle.script_text.specs.Scripts.{most_script_bytes, most_script_bases, most_lanes, most_timers, most_events, most_calls, lines_of, is_skipped}
use Rattle.script_text.specs.CallLines.{most_budget}

-- ---- causes that need the lines before

-- this cause, unless the test holds
abbrev pub unless : Bool → Cause → Option Cause
unless true cause = None
unless false cause = Some cause

-- a line of this part may stand here: the header lines in their order, then declarations, then rounds with their calls
unfoldable pub is_placed : Draft → Part → Bool
is_placed d (parts.Header n) = nat_eq d.headers n
is_placed d parts.Declaration = nat_eq d.headers 4 && not (is_some d.begun)
is_placed d parts.Round = nat_eq d.headers 4
is_placed d parts.Call = is_some d.begun

-- the cause that refuses one more line of this part
unfoldable pub check_count : Draft → Part → Option Cause
check_count d parts.Declaration = unless (nat_lt (length d.timers) (most_timers d.version)) causes.TimerLimit
check_count d parts.Call = unless (nat_lt d.calls most_calls) causes.CallLimit
check_count d part = None

-- the cause that refuses a number in its field, behind the base that its line has named
unfoldable pub check_number : Draft → ℕ → Field → ℕ → Option Cause
check_number d base fields.Version n = unless (nat_eq n 1 || nat_eq n 2) causes.Version
check_number d base fields.Bases n = unless (nat_le 1 n && nat_le n (most_script_bases d.version)) causes.BaseLimit
check_number d base fields.Base n = unless (nat_lt n d.bases) causes.BaseLimit
check_number d base fields.Lanes n = unless (nat_le 1 n && nat_le n (most_lanes d.version)) causes.LaneLimit
check_number d base fields.Lane n = unless (nat_lt n d.lanes) causes.LaneLimit
check_number d base fields.FirstLane n = unless (nat_eq n 0) causes.LaneLimit
check_number d base fields.Limit n = unless (nat_le 1 n && nat_le n (most_events d.version)) causes.EventLimit
check_number d base fields.NewTimer n = unless (nat_eq n (length d.timers)) causes.BadId
check_number d base fields.Timer n = unless (nat_lt n (length d.timers)) causes.NoTimer
check_number d base fields.Heir n = unless (nat_lt n base) causes.HeirLimit
check_number d base fields.Budget n = unless (nat_le n most_budget) causes.BudgetLimit
check_number d base field n = None

-- the cause that refuses what fills a field
abbrev pub check_value : Draft → ℕ → Field → Value → Option Cause
check_value d base field (values.Number n) = check_number d base field n
check_value d base field v = None

-- the base that a line has named, after one more of its fields
abbrev pub base_named : ℕ → Value → Field → ℕ
base_named base (values.Number n) fields.Base = n
base_named base v field = base

-- the first cause in what fills the fields of a row, behind the base that its line has named
unfoldable pub check_values : Draft → ℕ → List Spot → List Value → Option Cause
check_values d base (Key word ∷ spots) vs = check_values d base spots vs
check_values d base (At field ∷ spots) (v ∷ vs) = option_or (check_value d base field v) (check_values d (base_named base v field) spots vs)
check_values d base spots vs = None

-- the kind of the timer of a number
abbrev pub drafted_kind : Draft → ℕ → Kind
drafted_kind d n = get_or (map (λ t. t.kind) d.timers) n (kinds.Raw contexts.Hard callbacks.Once)

-- the cause that refuses a call on a timer whose kind it doesn't suit; the timer stands behind the call's name
unfoldable pub check_kind : Draft → Form → List Spot → List Value → Option Cause
check_kind d form (At k ∷ Key name ∷ At fields.Timer ∷ spots) (lane ∷ values.Number n ∷ vs) = unless (suits form (drafted_kind d n)) causes.WrongKind
check_kind d form spots vs = None

-- the first cause that refuses a line that was read by itself: where it stands, the count of its like, its numbers, its timer's kind
unfoldable pub check_line : Draft → Line → Option Cause
check_line d l =
    option_or (unless (is_placed d (part l.form)) causes.BadPlace)
    (option_or (check_count d (part l.form)) (option_or (check_values d 0 (row l.form) l.values) (check_kind d l.form (row l.form) l.values)))

-- this, unless a cause refuses it
abbrev pub unless_refused : {A : Type 0} → Option Cause → A → Result A Cause
unless_refused None x = Ok x
unless_refused (Some cause) x = Err cause

-- what the lines have told after one more, or the first cause that refuses it
unfoldable pub with_line_in : Draft → List ℕ → Result Draft Cause
with_line_in d line = line_in d.version line >>= λ l. unless_refused (check_line d l) (draft_with_line d l)

-- ---- scripts

-- what follows a line of this number, or its refusal
abbrev pub continue_after : {A : Type 0} → ℕ → Result Draft Cause → (Draft → Result A Refused) → Result A Refused
continue_after number (Ok d) next = next d
continue_after number (Err cause) next = Err (record { line = number; cause = cause })

-- the script of lines that are numbered from here, after those before; or the first line that is refused, and its cause
unfoldable pub script_from : ℕ → Draft → List (List ℕ) → Result Script Refused
script_from number d [] = if nat_lt d.headers 4 then Err (record { line = number; cause = causes.Unfinished }) else Ok (script_of d)
script_from number d (line ∷ lines) =
    if is_skipped line then script_from (number + 1) d lines
    else continue_after number (with_line_in d line) (λ now. script_from (number + 1) now lines)

-- the script of bytes, or why they are refused
unfoldable pub script_in : List ℕ → Result Script Refused
script_in bytes = if nat_lt most_script_bytes (length bytes) then Err (record { line = 0; cause = causes.TooLong }) else script_from 1 empty
    (lines_of bytes)

-- these bytes are refused, at this line and for this cause
abbrev pub IsRefused : List ℕ → Refused → Type 0
IsRefused bytes r = script_in bytes ≡ Err r

-- ---- the text of a refusal

-- the word of a cause
abbrev pub cause_word : Cause → List ℕ
cause_word causes.TooLong = codes "TooLong"
cause_word causes.BadByte = codes "BadByte"
cause_word causes.BadSpace = codes "BadSpace"
cause_word causes.UnknownWord = codes "UnknownWord"
cause_word causes.WordCount = codes "WordCount"
cause_word causes.BadNumber = codes "BadNumber"
cause_word causes.BadPlace = codes "BadPlace"
cause_word causes.TimerLimit = codes "TimerLimit"
cause_word causes.CallLimit = codes "CallLimit"
cause_word causes.Version = codes "Version"
cause_word causes.BaseLimit = codes "BaseLimit"
cause_word causes.LaneLimit = codes "LaneLimit"
cause_word causes.EventLimit = codes "EventLimit"
cause_word causes.BadId = codes "BadId"
cause_word causes.NoTimer = codes "NoTimer"
cause_word causes.HeirLimit = codes "HeirLimit"
cause_word causes.BudgetLimit = codes "BudgetLimit"
cause_word causes.WrongKind = codes "WrongKind"
cause_word causes.Unfinished = codes "Unfinished"

-- the line that tells a refusal
abbrev pub refusal_text : Refused → List ℕ
refusal_text r = codes "line " ++ decimal r.line ++ codes ": " ++ cause_word r.cause ++ 10 ∷ []

-- ---- what a reading of bytes gives

-- why no script was read: the bytes are refused so, or memory ran out
abbrev pub IsReason : List ℕ → ParseError → Type 0
IsReason bytes (errors.Refused r) = IsRefused bytes r
IsReason bytes errors.OutOfMemory = Unit

-- this is what was found, unless memory ran out
abbrev pub Gives : Result Script ParseError → Result Script Refused → Type 0
Gives (Ok s) found = found ≡ Ok s
Gives (Err (errors.Refused r)) found = found ≡ Err r
Gives (Err errors.OutOfMemory) found = Unit
