-- What a line says up to the name of its event: which processor told it, in which context, and the event.
use Rattle.std.specs.Prelude.{ℕ, ◌-◌, ◌^◌, ◌==◌, ◌||◌, true, false, if◌then◌else◌, List, [], ◌∷◌, get_or, bytes_eq, codes, Option, Some, None, unwrap_or}
use Rattle.std.specs.Option.{option_and_then}
use Rattle.seq_timer.specs.declared.context.Context.{Context}
use Rattle.seq_timer.specs.declared.context.Context.TheVariants as contexts
use Rattle.trace_text.specs.declared.names.EventName.{EventName}
use Rattle.trace_text.specs.declared.names.EventName.TheVariants as names
use Rattle.trace_text.specs.declared.heads.Head.{Head}
use Rattle.trace_text.specs.Words.{behind, before, number_by_radix}

-- the event of a name, behind its beginning
unfoldable pub event_named : List ℕ → Option EventName
event_named rest =
    if bytes_eq rest (codes "start:") then Some names.Start
    else if bytes_eq rest (codes "expire_entry:") then Some names.Entry
    else if bytes_eq rest (codes "expire_exit:") then Some names.Exit
    else if bytes_eq rest (codes "cancel:") then Some names.Cancel
    else if bytes_eq rest (codes "setup:") || bytes_eq rest (codes "init:") then Some names.SetUp
    else None

-- the event that a word names, alone as tracefs and `trace-cmd` print it, or behind its group as `perf` does
abbrev pub name_in : List ℕ → Option EventName
name_in word = option_and_then event_named (behind (codes "hrtimer_") (unwrap_or (behind (codes "timer:") word) word))

-- the processor that a word names, as `[003]` does
abbrev pub processor_in : List ℕ → Option ℕ
processor_in word = option_and_then (λ digits. number_by_radix 10 (2 ^ 32 - 1) digits) (option_and_then (λ rest. before (codes "]") rest) (behind (codes "[") word))

-- the context that flags tell by their third byte: `h`, or `H` where a soft interrupt was interrupted, and `s`
unfoldable pub context_flag : ℕ → Option Context
context_flag b = if b == 104 || b == 72 then Some contexts.Hard else if b == 115 then Some contexts.Soft else None

abbrev pub context_in : List ℕ → Option Context
context_in flags = context_flag (get_or flags 2 0)

-- nothing is told yet
abbrev pub no_head : Head
no_head = record { processor = None; context = None; flags_next = false }

-- the head with one more word: a processor, behind which flags may stand, or another word
abbrev pub with_processor : Head → List ℕ → Option ℕ → Head
with_processor h word (Some p) = record { processor = Some p; context = None; flags_next = true }
with_processor h word None = record h { context = (if h.flags_next then context_in word else h.context); flags_next = false }

abbrev pub next_head : Head → List ℕ → Head
next_head h word = with_processor h word (processor_in word)

-- an event, what stands before its name, and the words behind it
abbrev pub Found : Type 0
Found = EventName × (Head × List (List ℕ))

-- the event that a word names, with what stands before and behind it; or else another
abbrev pub event_or : Option EventName → Head → List (List ℕ) → Option Found → Option Found
event_or (Some name) h ws other = Some (name, (h, ws))
event_or None h ws other = other

-- the first event that one of these words names, what stands before it, and the words behind it
abbrev pub first_event : Head → List (List ℕ) → Option Found
first_event h [] = None
first_event h (w ∷ ws) = event_or (name_in w) h ws (first_event (next_head h w) ws)
