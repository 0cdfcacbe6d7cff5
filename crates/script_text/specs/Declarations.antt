-- What a script says of its timers, each by its number, and what a start asks for.
use Rattle.std.specs.Prelude.{ℕ, None, unwrap_or, List, map, get_or}
use Rattle.ktime.specs.declared.clock_id.ClockId.{ClockId}
use Rattle.ktime.specs.declared.clock_id.ClockId.TheVariants as clocks
use Rattle.ktime.specs.declared.mode.Mode.{Mode}
use Rattle.seq_timer.specs.Tables.{no_declared}
use Rattle.seq_timer.specs.declared.context.Context.{Context}
use Rattle.seq_timer.specs.declared.context.Context.TheVariants as contexts
use Rattle.seq_timer.specs.declared.context.Declared.{Declared}
use Rattle.seq_timer.specs.declared.context.Terms.{Terms}
use Rattle.record_text.specs.declared.version.Version.{Version}
use Rattle.record_text.specs.declared.version.Version.TheVariants as versions
use Rattle.script_text.specs.declared.script.Callback.TheVariants as callbacks
use Rattle.script_text.specs.declared.script.Declaration.{Declaration}
use Rattle.script_text.specs.declared.script.Kind.{Kind}
use Rattle.script_text.specs.declared.script.Kind.TheVariants as kinds
use Rattle.script_text.specs.declared.script.Script.{Script}
use Rattle.script_text.specs.declared.script.StartRequest.{StartRequest}

-- the kind of a declared timer
abbrev pub kind_of : Script → ℕ → Kind
kind_of s i = get_or (map (λ d. d.kind) s.timers) i (kinds.Raw contexts.Hard callbacks.Once)

-- the clock that a timer is declared on
abbrev pub clock_of : Script → ℕ → ClockId
clock_of s timer = get_or (map (λ d. d.clock) s.timers) timer clocks.Monotonic

-- the context of a timer of this kind; an object's is the hard one
abbrev pub context_of : Kind → Context
context_of (kinds.Raw context callback) = context
context_of (kinds.Posix base) = contexts.Hard
context_of (kinds.Fd base) = contexts.Hard
context_of (kinds.Queued base) = contexts.Hard
context_of (kinds.Sleeper base) = contexts.Hard

-- the base of an object's timer
abbrev pub base_of : Kind → ℕ
base_of (kinds.Raw context callback) = 0
base_of (kinds.Posix base) = base
base_of (kinds.Fd base) = base
base_of (kinds.Queued base) = base
base_of (kinds.Sleeper base) = base

-- as what a declaration's timer is declared
abbrev pub declared_as : Declaration → Declared
declared_as d = record { clock = d.clock; context = context_of d.kind }

-- as what all timers are declared
abbrev pub declareds_of : Script → List Declared
declareds_of s = map declared_as s.timers

-- as what a timer is declared
abbrev pub declared_of : Script → ℕ → Declared
declared_of s timer = get_or (declareds_of s) timer no_declared

-- how many entries past its limit may move a timer off a base that goes off line; in version 1 none does
abbrev pub reach_of : Version → ℕ
reach_of versions.One = 0
reach_of versions.Two = 1024

-- the terms on which a script's timers take entries
abbrev pub terms_of : Script → Terms
terms_of s = record { limit = s.limit; reach = reach_of s.version }

-- the slack that a request asks for
abbrev pub asked_slack : StartRequest → ℕ
asked_slack request = unwrap_or request.slack 0

-- a request without a slack
abbrev pub without_slack : Mode → ℕ → ℕ → StartRequest
without_slack mode ns base = record { mode = mode; ns = ns; slack = None; base = base }
