-- What an event does, as data: what becomes of its timer in its queue, of its timer's function, where the timer is sent, and who makes the event.
use Rattle.std.specs.Prelude.{ℕ, ◌≡◌, ◌⊎◌, ◌<◌, Bool, true, false, Option, Some, None, if◌then◌else◌}
use Rattle.ktime.specs.Readings.{ClockReading}
use Rattle.seq_timer.specs.declared.effect.Effect.{Effect}
use Rattle.seq_timer.specs.declared.effect.QueueEffect.{QueueEffect}
use Rattle.seq_timer.specs.declared.effect.QueueEffect.TheVariants as queues
use Rattle.seq_timer.specs.declared.effect.RunEffect.{RunEffect}
use Rattle.seq_timer.specs.declared.effect.RunEffect.TheVariants as functions
use Rattle.seq_timer.specs.Events.{Event}
use Rattle.seq_timer.specs.declared.event.EventBy.TheVariants as events
use Rattle.seq_timer.specs.Steps.{Timer, arms_again}

-- all stays
abbrev pub no_effect : Effect
no_effect = record { queue = queues.Stays; function = functions.Stays; sent = None; by_claimer = false }

-- what a finish does to its timer in the queue
abbrev pub restart_effect : Timer → Bool → QueueEffect
restart_effect t restart = if arms_again t restart then queues.Armed else queues.Stays

-- what an event does to a timer, which was so
abbrev pub effect : Timer → Event → Effect
effect t (events.Out base) = record no_effect { queue = queues.Leaves; sent = Some base }
effect t (events.Start asked) = record no_effect { queue = queues.Armed }
effect t events.Cancel = record no_effect { queue = queues.Leaves }
effect t (events.Claim base reading) = record no_effect { queue = queues.Leaves; function = functions.Begins reading }
effect t (events.Forward reading interval) = record no_effect { by_claimer = true }
effect t (events.Finish restart) = record no_effect { queue = restart_effect t restart; function = functions.Ends; by_claimer = true }

-- whether an event arms its timer
abbrev pub is_arming : QueueEffect → Bool
is_arming queues.Stays = false
is_arming queues.Leaves = false
is_arming queues.Armed = true

-- whether a function begins
abbrev pub is_beginning : RunEffect → Bool
is_beginning functions.Stays = false
is_beginning (functions.Begins reading) = true
is_beginning functions.Ends = false

-- whether the event is a start: it arms the timer, and anybody may make it
abbrev pub is_start : Effect → Bool
is_start d = if d.by_claimer then false else is_arming d.queue

-- the event wants its timer's base on line: it arms the timer, or its function begins
abbrev pub WantsOnLine : Effect → Type 0
WantsOnLine d = (is_arming d.queue ≡ true) ⊎ (is_beginning d.function ≡ true)

-- a timer that is sent is sent to one of so many bases
abbrev pub IsSentWithin : ℕ → Option ℕ → Type 0
IsSentWithin bases None = Unit {0}
IsSentWithin bases (Some base) = base < bases

-- what an effect needs of the bases, of which there are so many: a function begins at a reading that suits; a timer is sent to one of the bases
abbrev pub NeedsOfBases : (ClockReading → Type 0) → ℕ → RunEffect → Option ℕ → Type 0
NeedsOfBases Suits bases functions.Stays sent = IsSentWithin bases sent
NeedsOfBases Suits bases (functions.Begins reading) sent = Suits reading
NeedsOfBases Suits bases functions.Ends sent = IsSentWithin bases sent
