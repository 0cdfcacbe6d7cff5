-- The forms of line of a script, one row each of a table: key words and fields from left to right; the first version that has it;
-- the part of a script that it belongs to; whether its call suits a timer of a kind.
use Rattle.std.specs.Prelude.{ℕ, Bool, true, false, List, [], ◌∷◌, Option, Some, None, codes}
use Rattle.record_text.specs.declared.version.Version.{Version}
use Rattle.record_text.specs.declared.version.Version.TheVariants as versions
use Rattle.script_text.specs.declared.form.Form.{Form}
use Rattle.script_text.specs.declared.form.Form.TheVariants as forms
use Rattle.script_text.specs.declared.form.Field.{Field}
use Rattle.script_text.specs.declared.form.Field.TheVariants as fields
use Rattle.script_text.specs.declared.form.Part.{Part}
use Rattle.script_text.specs.declared.form.Part.TheVariants as parts
use Rattle.script_text.specs.declared.script.Kind.{Kind}
use Rattle.script_text.specs.declared.script.Kind.TheVariants as kinds

-- a word of a form: a key word, or a field to fill
pub data Spot : Type 0 where
  Key : List ℕ → Spot
  At : Field → Spot

-- what a field is filled with: the name of a clock or of a mode of starting, or a number
pub data Sort : Type 0 where
  ClockName : Sort
  ModeName : Sort
  Numeral : Sort

-- the sort of each field
abbrev pub sort : Field → Sort
sort fields.Clock = ClockName
sort fields.Mode = ModeName
sort field = Numeral

-- the field at a spot, where it is one
abbrev pub field_at : Spot → Option Field
field_at (Key word) = None
field_at (At field) = Some field

-- the words of a raw timer's declaration
abbrev pub raw : List ℕ → List Spot → List Spot
raw callback more = Key (codes "raw") ∷ At fields.NewTimer ∷ At fields.Clock ∷ Key callback ∷ more

-- the words of the declaration of a timer whose callback runs in the soft context
abbrev pub soft : List ℕ → List Spot → List Spot
soft callback more = Key (codes "soft") ∷ At fields.NewTimer ∷ At fields.Clock ∷ Key callback ∷ more

-- the words of a call, whose lane fills this field
abbrev pub called_by : Field → List ℕ → List Spot → List Spot
called_by lane name more = At lane ∷ Key name ∷ more

-- those of a call of any lane, and of one of the first lane alone
abbrev pub called : List ℕ → List Spot → List Spot
called name more = called_by fields.Lane name more

abbrev pub called_first : List ℕ → List Spot → List Spot
called_first name more = called_by fields.FirstLane name more

-- the words of each form
abbrev pub row : Form → List Spot
row forms.Version = Key (codes "hrt") ∷ At fields.Version ∷ []
row forms.Bases = Key (codes "bases") ∷ At fields.Bases ∷ []
row forms.Lanes = Key (codes "lanes") ∷ At fields.Lanes ∷ []
row forms.Limit = Key (codes "limit") ∷ At fields.Limit ∷ []
row forms.RawOnce = raw (codes "once") []
row forms.RawEvery = raw (codes "every") (At fields.Free ∷ [])
row forms.RawCancels = raw (codes "cancels") []
row forms.RawStarts = raw (codes "starts") (At fields.Free ∷ At fields.Base ∷ [])
row forms.SoftOnce = soft (codes "once") []
row forms.SoftEvery = soft (codes "every") (At fields.Free ∷ [])
row forms.Posix = Key (codes "posix") ∷ At fields.NewTimer ∷ At fields.Clock ∷ At fields.Base ∷ []
row forms.Fd = Key (codes "fd") ∷ At fields.NewTimer ∷ At fields.Clock ∷ At fields.Base ∷ []
row forms.Queued = Key (codes "queued") ∷ At fields.NewTimer ∷ At fields.Clock ∷ At fields.Base ∷ []
row forms.Sleeper = Key (codes "sleeper") ∷ At fields.NewTimer ∷ At fields.Clock ∷ At fields.Base ∷ []
row forms.Round = Key (codes "round") ∷ []
row forms.Start = called (codes "start") (At fields.Timer ∷ At fields.Mode ∷ At fields.Free ∷ At fields.Base ∷ [])
row forms.StartRange = called (codes "startrange") (At fields.Timer ∷ At fields.Mode ∷ At fields.Free ∷ At fields.Free ∷ At fields.Base ∷ [])
row forms.Cancel = called (codes "cancel") (At fields.Timer ∷ [])
row forms.Peek = called (codes "peek") (At fields.Timer ∷ [])
row forms.Expire = called (codes "expire") (At fields.Base ∷ At fields.Budget ∷ [])
row forms.SoftExpire = called (codes "softexpire") (At fields.Base ∷ At fields.Budget ∷ [])
row forms.Advance = called (codes "advance") (At fields.Free ∷ [])
row forms.Set = called (codes "set") (At fields.Free ∷ [])
row forms.Suspend = called (codes "suspend") (At fields.Free ∷ [])
row forms.Settime = called (codes "settime")
    (At fields.Timer ∷ At fields.Free ∷ At fields.Free ∷ At fields.Free ∷ At fields.Free ∷ At fields.Free ∷ [])
row forms.Gettime = called (codes "gettime") (At fields.Timer ∷ [])
row forms.Accept = called (codes "accept") (At fields.Timer ∷ [])
row forms.Overrun = called (codes "overrun") (At fields.Timer ∷ [])
row forms.Read = called (codes "read") (At fields.Timer ∷ At fields.Free ∷ [])
row forms.Readable = called (codes "readable") (At fields.Timer ∷ [])
row forms.Sleep = called (codes "sleep") (At fields.Timer ∷ At fields.Free ∷ At fields.Free ∷ At fields.Free ∷ [])
row forms.Interrupt = called (codes "interrupt") (At fields.Timer ∷ [])
row forms.Slept = called (codes "slept") (At fields.Timer ∷ [])
row forms.Sigwait = called (codes "sigwait") []
row forms.Offline = called_first (codes "offline") (At fields.Base ∷ At fields.Heir ∷ At fields.Budget ∷ [])
row forms.Online = called_first (codes "online") (At fields.Base ∷ [])

-- the first version that has a form
abbrev pub since : Form → Version
since forms.SoftOnce = versions.Two
since forms.SoftEvery = versions.Two
since forms.StartRange = versions.Two
since forms.SoftExpire = versions.Two
since forms.Offline = versions.Two
since forms.Online = versions.Two
since forms.Queued = versions.Two
since forms.Sigwait = versions.Two
since forms.Sleeper = versions.Two
since forms.Sleep = versions.Two
since forms.Interrupt = versions.Two
since forms.Slept = versions.Two
since form = versions.One

-- whether what comes with one version has come by another
abbrev pub comes_by : Version → Version → Bool
comes_by versions.One version = true
comes_by versions.Two versions.One = false
comes_by versions.Two versions.Two = true

-- whether scripts of a version have lines of a form
abbrev pub has_form : Version → Form → Bool
has_form version form = comes_by (since form) version

-- the part of a script that each form belongs to; a header line has so many before it
abbrev pub part : Form → Part
part forms.Version = parts.Header 0
part forms.Bases = parts.Header 1
part forms.Lanes = parts.Header 2
part forms.Limit = parts.Header 3
part forms.RawOnce = parts.Declaration
part forms.RawEvery = parts.Declaration
part forms.RawCancels = parts.Declaration
part forms.RawStarts = parts.Declaration
part forms.SoftOnce = parts.Declaration
part forms.SoftEvery = parts.Declaration
part forms.Posix = parts.Declaration
part forms.Fd = parts.Declaration
part forms.Queued = parts.Declaration
part forms.Sleeper = parts.Declaration
part forms.Round = parts.Round
part call = parts.Call

-- whether a form's call can be made on a timer of this kind
abbrev pub suits : Form → Kind → Bool
suits forms.Start (kinds.Raw context callback) = true
suits forms.StartRange (kinds.Raw context callback) = true
suits forms.Cancel (kinds.Raw context callback) = true
suits forms.Peek kind = true
suits forms.Settime (kinds.Posix base) = true
suits forms.Settime (kinds.Fd base) = true
suits forms.Settime (kinds.Queued base) = true
suits forms.Gettime (kinds.Posix base) = true
suits forms.Gettime (kinds.Fd base) = true
suits forms.Gettime (kinds.Queued base) = true
suits forms.Accept (kinds.Posix base) = true
suits forms.Accept (kinds.Queued base) = true
suits forms.Overrun (kinds.Posix base) = true
suits forms.Overrun (kinds.Queued base) = true
suits forms.Read (kinds.Fd base) = true
suits forms.Readable (kinds.Fd base) = true
suits forms.Sleep (kinds.Sleeper base) = true
suits forms.Interrupt (kinds.Sleeper base) = true
suits forms.Slept (kinds.Sleeper base) = true
suits form kind = false

-- the forms that are chosen by a line's first word
abbrev pub plain_forms : List (List ℕ × Form)
plain_forms =
    (codes "hrt", forms.Version) ∷ (codes "bases", forms.Bases) ∷ (codes "lanes", forms.Lanes) ∷ (codes "limit", forms.Limit)
    ∷ (codes "posix", forms.Posix) ∷ (codes "fd", forms.Fd) ∷ (codes "queued", forms.Queued) ∷ (codes "sleeper", forms.Sleeper)
    ∷ (codes "round", forms.Round) ∷ []

-- those of a raw timer, by the word after its clock
abbrev pub raw_forms : List (List ℕ × Form)
raw_forms =
    (codes "once", forms.RawOnce) ∷ (codes "every", forms.RawEvery) ∷ (codes "cancels", forms.RawCancels) ∷ (codes "starts", forms.RawStarts) ∷ []

-- those of a timer of the soft context, by the word after its clock
abbrev pub soft_forms : List (List ℕ × Form)
soft_forms = (codes "once", forms.SoftOnce) ∷ (codes "every", forms.SoftEvery) ∷ []

-- those of a call, by the word after its lane
abbrev pub call_forms : List (List ℕ × Form)
call_forms =
    (codes "start", forms.Start) ∷ (codes "startrange", forms.StartRange) ∷ (codes "cancel", forms.Cancel) ∷ (codes "peek", forms.Peek)
    ∷ (codes "expire", forms.Expire) ∷ (codes "softexpire", forms.SoftExpire)
    ∷ (codes "advance", forms.Advance) ∷ (codes "set", forms.Set) ∷ (codes "suspend", forms.Suspend)
    ∷ (codes "settime", forms.Settime) ∷ (codes "gettime", forms.Gettime) ∷ (codes "accept", forms.Accept) ∷ (codes "overrun", forms.Overrun)
    ∷ (codes "read", forms.Read) ∷ (codes "readable", forms.Readable)
    ∷ (codes "sleep", forms.Sleep) ∷ (codes "interrupt", forms.Interrupt) ∷ (codes "slept", forms.Slept)
    ∷ (codes "sigwait", forms.Sigwait)
    ∷ (codes "offline", forms.Offline) ∷ (codes "online", forms.Online) ∷ []
