-- What a line of a kernel's trace tells.
use Rattle.std.specs.Prelude.{ℕ, ◌&&◌, ◌||◌, Bool, false, if◌then◌else◌, is_some, List, [], ◌∷◌, bytes_eq, codes, Option, Some, None, option_map, Result, Ok, Err}
use Rattle.std.specs.List.{list_any}
use Rattle.std.specs.Option.{option_and_then}
use Rattle.trace_text.specs.declared.event.KernelEvent.{KernelEvent}
use Rattle.trace_text.specs.declared.event.KernelEvent.TheVariants as events
use Rattle.trace_text.specs.declared.event.Site.{Site}
use Rattle.trace_text.specs.declared.heads.Head.{Head}
use Rattle.trace_text.specs.declared.names.EventName.{EventName}
use Rattle.trace_text.specs.declared.names.EventName.TheVariants as names
use Rattle.trace_text.specs.declared.unreadable.Unreadable.{Unreadable}
use Rattle.trace_text.specs.declared.unreadable.Unreadable.TheVariants as wrong
use Rattle.trace_text.specs.Words.{behind, trace_words}
use Rattle.trace_text.specs.Names.{Found, first_event, no_head}
use Rattle.trace_text.specs.Fields.{clock_named, clock_kept, field, mode_field, or_wrong, time_field, timer_field, was_armed_of}

infixl 10 ◌>>=◌
abbrev pub ◌>>=◌ : {A B E : Type 0} → Result A E → (A → Result B E) → Result B E
(Ok x) >>= f = f x
(Err e) >>= f = Err e

-- where a line was told
abbrev pub site_of : Head → Result Site Unreadable
site_of h = or_wrong wrong.Processor (option_map (λ p. record { processor = p; context = h.context }) h.processor)

-- the event of a line, by its name, by what stands before that, and by the words behind it
abbrev pub event_of : EventName → Head → List (List ℕ) → Result KernelEvent Unreadable
event_of names.SetUp h ws =
    timer_field ws >>= λ t. or_wrong wrong.Clock (field (codes "clockid=") ws) >>= λ c.
    or_wrong wrong.Mode (option_and_then mode_field (field (codes "mode=") ws)) >>= λ m. Ok (events.SetUp t (clock_kept m.mode (clock_named c)) m.context)
event_of names.Start h ws =
    timer_field ws >>= λ t. time_field (codes "softexpires=") wrong.SoftExpires ws >>= λ soft.
    time_field (codes "expires=") wrong.Expires ws >>= λ expires. was_armed_of ws >>= λ was. Ok (events.Start t soft expires was)
event_of names.Cancel h ws = timer_field ws >>= λ t. Ok (events.Cancel t)
event_of names.Entry h ws =
    timer_field ws >>= λ t. site_of h >>= λ site. time_field (codes "now=") wrong.Now ws >>= λ now. Ok (events.Entry t site now)
event_of names.Exit h ws = timer_field ws >>= λ t. site_of h >>= λ site. Ok (events.Exit t site)

-- the last word of a line that tells of lost events, by tracefs or by `trace-cmd`
abbrev pub ends_loss : List ℕ → Bool
ends_loss w = bytes_eq w (codes "EVENTS]") || bytes_eq w (codes "DROPPED]")

-- lines were lost: `CPU:3 [LOST 12 EVENTS]`, `CPU:3 [12 EVENTS DROPPED]`, or `##### CPU 3 buffer started ####` where a full buffer lost its first ones
abbrev pub tells_loss : List (List ℕ) → Bool
tells_loss [] = false
tells_loss (w ∷ ws) = bytes_eq w (codes "#####") || (is_some (behind (codes "CPU:") w) && list_any ends_loss ws)

-- a comment begins with `#`
abbrev pub is_comment : List (List ℕ) → Bool
is_comment [] = false
is_comment (w ∷ ws) = is_some (behind (codes "#") w)

-- the event that was found, read
unfoldable pub read_event : Option Found → Result (Option KernelEvent) Unreadable
read_event None = Ok None
read_event (Some found) = event_of found.0 found.1.0 found.1.1 >>= λ event. Ok (Some event)

-- the event that the words of a line tell; none where they tell something else, or what is wrong in them
unfoldable pub event_in : List (List ℕ) → Result (Option KernelEvent) Unreadable
event_in ws = if tells_loss ws then Ok (Some events.Lost) else if is_comment ws then Ok None else read_event (first_event no_head ws)

-- what a line tells of a timer
abbrev pub event_line : List ℕ → Result (Option KernelEvent) Unreadable
event_line line = event_in (trace_words line)
