-- What the fields behind an event's name say.
use Rattle.std.specs.Prelude.{ℕ, ◌-◌, ◌^◌, ◌/◌, ◌%◌, ◌==◌, Bool, true, false, if◌then◌else◌, List, [], ◌∷◌, bytes_eq, codes, Option, Some, None, option_map, unwrap_or, Result, Ok, Err}
use Rattle.std.specs.Option.{option_and_then, option_or}
use Rattle.ktime.specs.declared.clock_id.ClockId.{ClockId}
use Rattle.ktime.specs.declared.clock_id.ClockId.TheVariants as clocks
use Rattle.ktime.specs.declared.mode.Mode.{Mode}
use Rattle.ktime.specs.declared.mode.Mode.TheVariants as modes
use Rattle.ktime.specs.Times.{effective_clock, last_time}
use Rattle.seq_timer.specs.declared.context.Context.{Context}
use Rattle.seq_timer.specs.declared.context.Context.TheVariants as contexts
use Rattle.trace_text.specs.declared.modes.TimerMode.{TimerMode}
use Rattle.trace_text.specs.declared.unreadable.Unreadable.{Unreadable}
use Rattle.trace_text.specs.declared.unreadable.Unreadable.TheVariants as wrong
use Rattle.trace_text.specs.Words.{behind, number_by_radix}

-- what a field says: what stands behind its key in the first word that has it
abbrev pub field : List ℕ → List (List ℕ) → Option (List ℕ)
field key [] = None
field key (w ∷ ws) = option_or (behind key w) (field key ws)

-- what there is, or else this is wrong
abbrev pub or_wrong : {A : Type 0} → Unreadable → Option A → Result A Unreadable
or_wrong cause None = Err cause
or_wrong cause (Some x) = Ok x

-- a timer's address, with or without `0x` before it
abbrev pub address_in : List ℕ → Option ℕ
address_in word = number_by_radix 16 (2 ^ 64 - 1) (unwrap_or (behind (codes "0x") word) word)

abbrev pub timer_field : List (List ℕ) → Result ℕ Unreadable
timer_field ws = or_wrong wrong.Timer (option_and_then address_in (field (codes "hrtimer=") ws))

-- the time that a field says, up to the end of time
abbrev pub time_field : List ℕ → Unreadable → List (List ℕ) → Result ℕ Unreadable
time_field key cause ws = or_wrong cause (option_and_then (λ w. number_by_radix 10 last_time w) (field key ws))

-- whether the timer was queued before: nothing where no field says so
unfoldable pub was_armed_in : List ℕ → Result (Option Bool) Unreadable
was_armed_in word =
    if bytes_eq word (codes "0") then Ok (Some false) else if bytes_eq word (codes "1") then Ok (Some true) else Err wrong.WasArmed

abbrev pub armed_field : Option (List ℕ) → Result (Option Bool) Unreadable
armed_field None = Ok None
armed_field (Some word) = was_armed_in word

abbrev pub was_armed_of : List (List ℕ) → Result (Option Bool) Unreadable
was_armed_of ws = armed_field (field (codes "was_armed=") ws)

-- ---- clocks and modes

-- the clock of this name, among those that the model has
unfoldable pub clock_named : List ℕ → Option ClockId
clock_named word =
    if bytes_eq word (codes "CLOCK_MONOTONIC") then Some clocks.Monotonic
    else if bytes_eq word (codes "CLOCK_REALTIME") then Some clocks.Realtime
    else if bytes_eq word (codes "CLOCK_BOOTTIME") then Some clocks.Boottime
    else None

-- the context that a mode tells behind `ABS` or `REL` and `|PINNED`, where it tells one
unfoldable pub context_by : List ℕ → Option (Option Context)
context_by rest =
    if bytes_eq rest [] then Some None
    else if bytes_eq rest (codes "|SOFT") then Some (Some contexts.Soft)
    else if bytes_eq rest (codes "|HARD") then Some (Some contexts.Hard)
    else None

-- a mode behind `ABS` or `REL`
abbrev pub mode_with : Mode → List ℕ → Option TimerMode
mode_with mode rest = option_map (λ x. record { mode = mode; context = x }) (context_by (unwrap_or (behind (codes "|PINNED") rest) rest))

-- a mode by its name: absolute or relative, and a context where it tells one
abbrev pub mode_named : List ℕ → Option TimerMode
mode_named word = option_or (option_and_then (λ rest. mode_with modes.Abs rest) (behind (codes "ABS") word))
    (option_and_then (λ rest. mode_with modes.Rel rest) (behind (codes "REL") word))

-- the context that a mode's number tells: 4 is soft, and 8 hard
unfoldable pub context_numbered : ℕ → Option (Option Context)
context_numbered n =
    if n == 0 then Some None else if n == 1 then Some (Some contexts.Soft) else if n == 2 then Some (Some contexts.Hard) else None

-- a mode by its number, in which 1 is relative and 2 pinned
abbrev pub mode_numbered : ℕ → Option TimerMode
mode_numbered n = option_map (λ x. record { mode = (if n % 2 == 0 then modes.Abs else modes.Rel); context = x }) (context_numbered (n / 4))

-- a mode: by its name as tracefs prints it, or by its number as perf does
abbrev pub mode_field : List ℕ → Option TimerMode
mode_field word = option_or (mode_named word) (option_and_then (λ n. mode_numbered n) (option_and_then (λ w. number_by_radix 16 (2 ^ 64 - 1) w) (behind (codes "0x") word)))

-- the clock of a timer's times, where it is set up on this one and by this mode
abbrev pub clock_kept : Mode → Option ClockId → Option ClockId
clock_kept mode clock = option_map (λ c. effective_clock c mode c) clock
