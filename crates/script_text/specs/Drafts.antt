-- A script as its lines are read one after the other: what they have told so far, and what a line adds.
use Rattle.std.specs.Prelude.{ℕ, ◌≡◌, ◌+◌, ◌^◌, ◌<◌, ◌≤◌, length, List, [], ◌∷◌, ◌++◌, Option, Some, None, option_map, nat_eq, if◌then◌else◌}
use Rattle.seq_timer.specs.declared.context.Context.TheVariants as contexts
use Rattle.record_text.specs.declared.version.Version.{Version}
use Rattle.record_text.specs.declared.version.Version.TheVariants as versions
use Rattle.script_text.specs.declared.reading.drafts.Draft.{Draft}
use Rattle.script_text.specs.declared.form.Form.{Form}
use Rattle.script_text.specs.declared.form.Form.TheVariants as forms
use Rattle.script_text.specs.declared.form.Line.{Line}
use Rattle.script_text.specs.declared.form.Field.{Field}
use Rattle.script_text.specs.declared.form.Field.TheVariants as fields
use Rattle.script_text.specs.declared.form.Part.{Part}
use Rattle.script_text.specs.declared.form.Part.TheVariants as parts
use Rattle.script_text.specs.declared.form.Value.{Value}
use Rattle.script_text.specs.declared.form.Value.TheVariants as values
use Rattle.script_text.specs.declared.script.Callback.TheVariants as callbacks
use Rattle.script_text.specs.declared.script.Declaration.{Declaration}
use Rattle.script_text.specs.declared.script.Kind.TheVariants as kinds
use Rattle.script_text.specs.declared.script.LaneCall.{LaneCall}
use Rattle.script_text.specs.declared.script.Round.{Round}
use Rattle.script_text.specs.declared.script.Script.{Script}
use Rattle.script_text.specs.Forms.{Spot, Key, At, part}
use Rattle.script_text.specs.CallLines.{call_of}
use Rattle.script_text.specs.Scripts.{most_script_bases, most_lanes, most_timers, most_calls}

-- before the first line
abbrev pub empty : Draft
empty = record { headers = 0; version = versions.One; bases = 0; lanes = 0; limit = 0; timers = []; ended = []; begun = None; calls = 0 }

-- the round that has begun, where one has
abbrev pub last_round : Option (List LaneCall) → List Round
last_round None = []
last_round (Some cs) = record { calls = cs } ∷ []

-- the script that the lines make
abbrev pub script_of : Draft → Script
script_of d =
    record { version = d.version; bases = d.bases; lanes = d.lanes; limit = d.limit; timers = d.timers; rounds = d.ended ++ last_round d.begun }

-- ---- what a line means

-- what a declaration declares, by its form and values
unfoldable pub declaration_of : Form → List Value → Option Declaration
declaration_of forms.RawOnce (values.Number i ∷ values.Clock c ∷ []) = Some (record { clock = c; kind = kinds.Raw contexts.Hard callbacks.Once })
declaration_of forms.RawEvery (values.Number i ∷ values.Clock c ∷ values.Number n ∷ []) =
    Some (record { clock = c; kind = kinds.Raw contexts.Hard (callbacks.Every n) })
declaration_of forms.RawCancels (values.Number i ∷ values.Clock c ∷ []) =
    Some
    (record { clock = c; kind = kinds.Raw contexts.Hard callbacks.Cancels })
declaration_of forms.RawStarts (values.Number i ∷ values.Clock c ∷ values.Number n ∷ values.Number b ∷ []) =
    Some (record { clock = c; kind = kinds.Raw contexts.Hard (callbacks.Starts n b) })
declaration_of forms.SoftOnce (values.Number i ∷ values.Clock c ∷ []) = Some (record { clock = c; kind = kinds.Raw contexts.Soft callbacks.Once })
declaration_of forms.SoftEvery (values.Number i ∷ values.Clock c ∷ values.Number n ∷ []) =
    Some (record { clock = c; kind = kinds.Raw contexts.Soft (callbacks.Every n) })
declaration_of forms.Posix (values.Number i ∷ values.Clock c ∷ values.Number b ∷ []) = Some (record { clock = c; kind = kinds.Posix b })
declaration_of forms.Fd (values.Number i ∷ values.Clock c ∷ values.Number b ∷ []) = Some (record { clock = c; kind = kinds.Fd b })
declaration_of forms.Queued (values.Number i ∷ values.Clock c ∷ values.Number b ∷ []) = Some (record { clock = c; kind = kinds.Queued b })
declaration_of forms.Sleeper (values.Number i ∷ values.Clock c ∷ values.Number b ∷ []) = Some (record { clock = c; kind = kinds.Sleeper b })
declaration_of form vs = None

-- the version of this number; the first where there is none
abbrev pub version_numbered : ℕ → Version
version_numbered n = if nat_eq n 2 then versions.Two else versions.One

-- one more header line, with its number
unfoldable pub with_header : Draft → Form → List Value → Draft
with_header d forms.Version (values.Number n ∷ []) = record d { headers = d.headers + 1; version = version_numbered n }
with_header d forms.Bases (values.Number n ∷ []) = record d { headers = d.headers + 1; bases = n }
with_header d forms.Lanes (values.Number n ∷ []) = record d { headers = d.headers + 1; lanes = n }
with_header d forms.Limit (values.Number n ∷ []) = record d { headers = d.headers + 1; limit = n }
with_header d form vs = record d { headers = d.headers + 1 }

-- one more timer
unfoldable pub with_timer : Draft → Option Declaration → Draft
with_timer d None = d
with_timer d (Some declared) = record d { timers = d.timers ++ declared ∷ [] }

-- the round that had begun ends, and the next begins
unfoldable pub with_round : Draft → Draft
with_round d = record d { ended = d.ended ++ last_round d.begun; begun = Some [] }

-- one more call in the round that has begun
unfoldable pub with_call : Draft → Option LaneCall → Draft
with_call d None = d
with_call d (Some c) = record d { begun = option_map (λ cs. cs ++ c ∷ []) d.begun; calls = d.calls + 1 }

-- what the lines have told after one more, by the part of the script that it belongs to
unfoldable pub with_part : Draft → Part → Form → List Value → Draft
with_part d (parts.Header n) form vs = with_header d form vs
with_part d parts.Declaration form vs = with_timer d (declaration_of form vs)
with_part d parts.Round form vs = with_round d
with_part d parts.Call form vs = with_call d (call_of form vs)

-- what the lines have told after one more
unfoldable pub draft_with_line : Draft → Line → Draft
draft_with_line d l = with_part d (part l.form) l.form l.values

-- ---- room

-- the header lines are at most four, before them the version is the first, and there are no more bases, lanes, timers and calls than it allows
pub record IsWithinLimits (d : Draft) : Type 0 where
  pub first : d.headers ≡ 0 → d.version ≡ versions.One
  pub headers : d.headers ≤ 4
  pub bases : d.bases ≤ most_script_bases d.version
  pub lanes : d.lanes ≤ most_lanes d.version
  pub timers : length d.timers ≤ most_timers d.version
  pub calls : d.calls ≤ most_calls

-- the number of a timer, a base or a lane fits in 32 bits
abbrev pub IsShort : Field → ℕ → Type 0
IsShort fields.Bases n = n < 2 ^ 32
IsShort fields.Lanes n = n < 2 ^ 32
IsShort fields.Lane n = n < 2 ^ 32
IsShort fields.FirstLane n = n < 2 ^ 32
IsShort fields.Timer n = n < 2 ^ 32
IsShort fields.Base n = n < 2 ^ 32
IsShort fields.Heir n = n < 2 ^ 32
IsShort field n = Unit

-- each number that fills the fields of a row is as short as its field asks for
abbrev pub AreShort : List Spot → List Value → Type 0
AreShort (Key word ∷ spots) vs = AreShort spots vs
AreShort (At field ∷ spots) (values.Number n ∷ vs) = IsShort field n × AreShort spots vs
AreShort (At field ∷ spots) (v ∷ vs) = AreShort spots vs
AreShort spots vs = Unit
