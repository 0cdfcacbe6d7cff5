-- What each call of C answers, and what it leaves.
use Rattle.std.specs.Prelude.{ℕ, ℤ, ◌≡◌, ◌+◌, ◌<◌, ◌≤◌, ◌⊎◌, Bool, not, ◌&&◌, map, nat_le, IsSome, List, [], ◌∷◌, Option, Some, None, Result, Ok, Err, length, nat_eq, nat_lt, is_some, unwrap_or, if◌then◌else◌}
use Rattle.ktime.specs.declared.mode.Mode.{Mode}
use Rattle.ktime.specs.Readings.{ClockReading}
use Rattle.seq_timer.specs.Events.{Asked}
use Rattle.seq_timer.specs.Steps.{Timer, greatest_limit, limited, rearmed_by}
use Rattle.seq_timer.specs.Calls.{asked_for, forwarded_as, start_events}
use Rattle.seq_timer.specs.Contents.{first_due, running_in}
use Rattle.seq_timer.specs.declared.answer.CancelAnswer.{CancelAnswer}
use Rattle.seq_timer.specs.declared.answer.CancelAnswer.TheVariants as cancels
use Rattle.seq_timer.specs.declared.answer.ForwardAnswer.{ForwardAnswer}
use Rattle.seq_timer.specs.declared.answer.ForwardAnswer.TheVariants as forwards
use Rattle.seq_timer.specs.declared.answer.Rearmed.{Rearmed}
use Rattle.seq_timer.specs.declared.answer.Rearmed.TheVariants as rearmings
use Rattle.seq_timer.specs.declared.context.Context.{Context}
use Rattle.seq_timer.specs.declared.context.Context.TheVariants as contexts
use Rattle.seq_timer.specs.declared.context.Declared.{Declared}
use Rattle.ktime.specs.declared.clock_id.ClockId.TheVariants as clocks
use Rattle.seq_timer.specs.declared.event.EventBy.TheVariants as events
use Rattle.timer_core.specs.Answers.{started_as}
use Rattle.timer_core.specs.declared.answer.StartAnswer.{StartAnswer}
use Rattle.timer_core.specs.declared.answer.StartAnswer.TheVariants as starts
use Rattle.timer_core.specs.Waits.{IsNextWait}
use Rattle.timer_core.specs.Kept.{Kept, IsBelowLimit, IsSpent, after_events, content_at, opened, timer_in}
use Rattle.hulayban_c.specs.Numbers.{clock_number, clock_by_number, context_by_number, mode_by_number, nothing, reading_by_times}
use Rattle.hulayban_c.specs.declared.codes.TheConstants.{NO_TIMERS, DONE, SPENT, ARMED, RUNNING, BUSY, CLAIMED, CANCELLED, AGAIN, BAD_TIMER, BAD_BASE, BAD_MODE, BAD_TIME, BAD_CLOCK, BAD_CONTEXT, BAD_COUNT, BAD_LIMIT, IN_USE, NO_MEMORY, NOT_RUNNING}
use Rattle.hulayban_c.specs.declared.crossing.Time.{Time}
use Rattle.hulayban_c.specs.declared.crossing.Declares.{Declares}
use Rattle.hulayban_c.specs.declared.crossing.Answer.{Answer}

-- ---- the tests of arguments, in their order

-- what a start asks for at this mode and reading
abbrev pub start_asks_at : Option Mode → Option ClockReading → ℕ → ℕ → ℕ → Result Asked ℤ
start_asks_at None reading ns slack base = Err BAD_MODE
start_asks_at (Some mode) None ns slack base = Err BAD_TIME
start_asks_at (Some mode) (Some reading) ns slack base = Ok (asked_for mode ns slack base reading)

-- what a start asks for, or the number for its first bad argument
abbrev pub start_asks : Kept → ℕ → ℕ → ℕ → ℕ → ℕ → Time → Result Asked ℤ
start_asks k timer mode ns slack base now =
    if nat_lt timer (length k.timers) then (if nat_lt base (length k.bases) then start_asks_at (mode_by_number mode) (reading_by_times now) ns slack base else Err BAD_BASE)
    else Err BAD_TIMER

-- the context and the reading of a claim
abbrev pub claim_asks_at : Option Context → Option ClockReading → Result (Context × ClockReading) ℤ
claim_asks_at None reading = Err BAD_CONTEXT
claim_asks_at (Some context) None = Err BAD_TIME
claim_asks_at (Some context) (Some reading) = Ok (context, reading)

-- the same, or the number for its first bad argument
abbrev pub claim_asks : Kept → ℕ → ℕ → Time → Result (Context × ClockReading) ℤ
claim_asks k context base now = if nat_lt base (length k.bases) then claim_asks_at (context_by_number context) (reading_by_times now) else Err BAD_BASE

-- the number for a call that is asked of a timer whose function runs, if it may not be made
abbrev pub fault_inside : Kept → ℕ → Option ℤ
fault_inside k timer = if nat_lt timer (length k.timers) then (if is_some (timer_in k timer).running then None else Some NOT_RUNNING) else Some BAD_TIMER

-- a reading that is asked for
abbrev pub reading_asked : Option ClockReading → Result ClockReading ℤ
reading_asked None = Err BAD_TIME
reading_asked (Some reading) = Ok reading

-- the reading of a look at a base, or the number for its first bad argument
abbrev pub next_asks : Kept → ℕ → Time → Result ClockReading ℤ
next_asks k base now = if nat_lt base (length k.bases) then reading_asked (reading_by_times now) else Err BAD_BASE

-- the reading of a forward
abbrev pub forward_asks_at : Option ℤ → Option ClockReading → Result ClockReading ℤ
forward_asks_at (Some code) reading = Err code
forward_asks_at None reading = reading_asked reading

-- the same, or the number for its first bad argument
abbrev pub forward_asks : Kept → ℕ → Time → Result ClockReading ℤ
forward_asks k timer now = forward_asks_at (fault_inside k timer) (reading_by_times now)

-- the number for a declaration that no timer can have
abbrev pub fault_of : Declares → Option ℤ
fault_of d = if is_some (clock_by_number d.clock) then (if is_some (context_by_number d.context) then None else Some BAD_CONTEXT) else Some BAD_CLOCK

-- the first of two faults
abbrev pub fault_or : Option ℤ → Option ℤ → Option ℤ
fault_or (Some code) rest = Some code
fault_or None rest = rest

-- the number for the first bad one of declarations
abbrev pub first_fault : List Declares → Option ℤ
first_fault [] = None
first_fault (d ∷ ds) = fault_or (fault_of d) (first_fault ds)

-- how a timer is declared; a bad number doesn't come to this
abbrev pub timer_declared : Declares → Declared
timer_declared d = record { clock = unwrap_or (clock_by_number d.clock) clocks.Monotonic; context = unwrap_or (context_by_number d.context) contexts.Hard }

-- the number for the first bad argument of new timers, where there may be so many
abbrev pub fault_among : ℕ → ℕ → List Declares → ℕ → Option ℤ
fault_among most bases declares max_events =
    if nat_lt 0 bases && nat_le bases 64 then (
    if nat_le (length declares) most then (
    if nat_lt 0 max_events && nat_le max_events greatest_limit then first_fault declares
    else Some BAD_LIMIT) else Some BAD_COUNT) else Some BAD_BASE

-- the number for the first bad argument of a new handle
abbrev pub fault_new : ℕ → List Declares → ℕ → Option ℤ
fault_new bases declares max_events = fault_among 4294967295 bases declares max_events

-- what a call tells: the number for its first bad argument, or its number and its answer
abbrev pub Told : Type 0
Told = Result (ℤ × Answer) ℤ

-- what is told, as C sees it: the number that is returned, and the answer, which a bad argument leaves as it was
abbrev pub IsReturned : {A : Type 0} → ℤ → A → A → Result (ℤ × A) ℤ → Type 0
IsReturned returned before after (Ok told) = (returned ≡ told.0) × (after ≡ told.1)
IsReturned returned before after (Err code) = (returned ≡ code) × (after ≡ before)

-- a call on the timers of a handle or of a seat, by what it does: with none of them C is told so, and there are timers after it exactly where there were before
abbrev pub OnTimers : {K A : Type 0} → (K → Result (ℤ × A) ℤ → K → Type 0) → Option K → Option K → ℤ → A → A → Type 0
OnTimers {A = A} Does (Some old) (Some new) returned before after = (told : Result (ℤ × A) ℤ) × Does old told new × IsReturned returned before after told
OnTimers Does None None returned before after = IsReturned returned before after (Err NO_TIMERS)
OnTimers Does (Some old) None returned before after = ⊥
OnTimers Does None (Some new) returned before after = ⊥

-- ---- answers

-- 1 for true
abbrev pub one_where : Bool → ℕ
one_where b = if b then 1 else 0

-- an answer that says how many entries a timer has
abbrev pub of_count : ℕ → ℕ → Answer
of_count id stamp = record nothing { timer = id; number = stamp }

-- an answer of a generation and the number of an entry
abbrev pub of_generation : ℕ → ℕ → ℕ → Answer
of_generation id generation number = record nothing { timer = id; generation = generation; number = number }

-- what a start tells
abbrev pub start_tells : ℕ → StartAnswer → ℤ × Answer
start_tells id (starts.Spent stamp) = (SPENT, of_count id stamp)
start_tells id (starts.Started was_armed generation moved_to placement) = (
  DONE,
  record nothing {
    timer = id;
    base = placement.base;
    clock = clock_number placement.clock;
    armed = one_where was_armed;
    moved = one_where (is_some moved_to);
    generation = generation;
    number = generation;
    soft = placement.soft;
    expires = placement.expires;
  },
)

-- what a cancel tells
abbrev pub cancel_tells : ℕ → CancelAnswer → ℤ × Answer
cancel_tells id (cancels.Idle stamp) = (DONE, of_count id stamp)
cancel_tells id (cancels.Cancelled generation number) = (CANCELLED, of_generation id generation number)
cancel_tells id (cancels.Running generation stamp) = (RUNNING, of_generation id generation stamp)

-- what a claim tells of the timer that it claims: how it was armed, and the number of the claim's entry
abbrev pub claimed_tells : ℕ → Timer → Answer
claimed_tells id t = record nothing {
  timer = id;
  base = t.base;
  clock = clock_number t.clock;
  generation = unwrap_or t.armed 0;
  number = t.stamp + 1;
  soft = t.soft;
  expires = t.expires;
}

-- what a forward tells
abbrev pub forward_tells : ℕ → ForwardAnswer → ℤ × Answer
forward_tells id (forwards.Forwarded number moved) = (DONE, record nothing { timer = id; number = number; count = moved.count; soft = moved.soft; expires = moved.expires })
forward_tells id (forwards.Spent stamp) = (SPENT, of_count id stamp)
forward_tells id (forwards.Armed generation stamp) = (ARMED, of_generation id generation stamp)

-- what a finish tells, by the number of its entry
abbrev pub finish_tells : ℕ → ℕ → Rearmed → ℤ × Answer
finish_tells id number rearmings.No = (DONE, of_count id number)
finish_tells id number (rearmings.Again generation) = (AGAIN, of_generation id generation number)
finish_tells id number (rearmings.Spent stamp) = (SPENT, of_count id number)

-- how long a base may be left alone
abbrev pub next_tells : Option ℕ → ℤ × Answer
next_tells None = (DONE, nothing)
next_tells (Some wait) = (ARMED, record nothing { wait = wait })

-- how a timer is kept
abbrev pub peek_tells : ℕ → Timer → Answer
peek_tells id t = record nothing {
  timer = id;
  base = t.base;
  clock = clock_number t.clock;
  armed = one_where (is_some t.armed);
  running = one_where (is_some t.running);
  generation = unwrap_or t.armed 0;
  number = t.stamp;
  soft = t.soft;
  expires = t.expires;
}

-- ---- the calls, by what they tell of the timers before and leave of them

-- a start
pub record AnswersStart (old : Kept) (timer mode ns slack base : ℕ) (now : Time) (told : Told) (new : Kept) : Type 0 where
  pub bad : (code : ℤ) → start_asks old timer mode ns slack base now ≡ Err code → (told ≡ Err code) × (new ≡ old)
  pub spent : (asked : Asked) → start_asks old timer mode ns slack base now ≡ Ok asked → IsSpent (timer_in old timer)
      → (told ≡ Ok (start_tells timer (starts.Spent (timer_in old timer).stamp))) × (new ≡ old)
  pub started : (asked : Asked) → start_asks old timer mode ns slack base now ≡ Ok asked → IsBelowLimit (timer_in old timer)
      → (told ≡ Ok (start_tells timer (started_as (timer_in old timer) (timer_in new timer) base)))
      × (new ≡ after_events old timer (start_events (timer_in old timer) asked))

-- a cancel
pub record AnswersCancel (old : Kept) (timer : ℕ) (told : Told) (new : Kept) : Type 0 where
  pub bad : length old.timers ≤ timer → (told ≡ Err BAD_TIMER) × (new ≡ old)
  pub running : (g : ℕ) → timer < length old.timers → (timer_in old timer).running ≡ Some g
      → (told ≡ Ok (cancel_tells timer (cancels.Running g (timer_in old timer).stamp))) × (new ≡ old)
  pub cancelled : (g : ℕ) → timer < length old.timers → (timer_in old timer).running ≡ None → (timer_in old timer).armed ≡ Some g
      → (told ≡ Ok (cancel_tells timer (cancels.Cancelled g ((timer_in old timer).stamp + 1)))) × (new ≡ after_events old timer (events.Cancel ∷ []))
  pub idle : timer < length old.timers → (timer_in old timer).running ≡ None → (timer_in old timer).armed ≡ None
      → (told ≡ Ok (cancel_tells timer (cancels.Idle (timer_in old timer).stamp))) × (new ≡ old)

-- a claim
pub record AnswersClaim (old : Kept) (context base : ℕ) (now : Time) (told : Told) (new : Kept) : Type 0 where
  pub bad : (code : ℤ) → claim_asks old context base now ≡ Err code → (told ≡ Err code) × (new ≡ old)
  pub busy : (c : Context) (reading : ClockReading) (t g : ℕ) → claim_asks old context base now ≡ Ok (c, reading) → running_in c (content_at old base) ≡ Some (t, g)
      → (told ≡ Ok (BUSY, of_generation t g 0)) × (new ≡ old)
  pub none : (c : Context) (reading : ClockReading) → claim_asks old context base now ≡ Ok (c, reading) → running_in c (content_at old base) ≡ None
      → first_due c (timer_in old) (content_at old base) reading ≡ None → (told ≡ Ok (DONE, nothing)) × (new ≡ old)
  pub claimed : (c : Context) (reading : ClockReading) (e t : ℕ) → claim_asks old context base now ≡ Ok (c, reading) → running_in c (content_at old base) ≡ None
      → first_due c (timer_in old) (content_at old base) reading ≡ Some (e, t)
      → (told ≡ Ok (CLAIMED, claimed_tells t (timer_in old t))) × (new ≡ after_events old t (events.Claim base reading ∷ []))

-- a forward
pub record AnswersForward (old : Kept) (timer : ℕ) (now : Time) (interval : ℕ) (told : Told) (new : Kept) : Type 0 where
  pub bad : (code : ℤ) → forward_asks old timer now ≡ Err code → (told ≡ Err code) × (new ≡ old)
  pub spent : (reading : ClockReading) → forward_asks old timer now ≡ Ok reading → IsSpent (timer_in old timer)
      → (told ≡ Ok (forward_tells timer (forwards.Spent (timer_in old timer).stamp))) × (new ≡ old)
  pub armed : (reading : ClockReading) (g : ℕ) → forward_asks old timer now ≡ Ok reading → IsBelowLimit (timer_in old timer) → (timer_in old timer).armed ≡ Some g
      → (told ≡ Ok (forward_tells timer (forwards.Armed g (timer_in old timer).stamp))) × (new ≡ old)
  pub forwarded : (reading : ClockReading) → forward_asks old timer now ≡ Ok reading → IsBelowLimit (timer_in old timer) → (timer_in old timer).armed ≡ None
      → (told ≡ Ok (forward_tells timer (forwarded_as (timer_in old timer) reading interval))) × (new ≡ after_events old timer (events.Forward reading interval ∷ []))

-- a finish; any number but 0 asks for a restart
pub record AnswersFinish (old : Kept) (timer restart : ℕ) (told : Told) (new : Kept) : Type 0 where
  pub bad : (code : ℤ) → fault_inside old timer ≡ Some code → (told ≡ Err code) × (new ≡ old)
  pub finished : fault_inside old timer ≡ None
      → (told ≡ Ok (finish_tells timer ((timer_in old timer).stamp + 1) (rearmed_by (timer_in old timer) (not (nat_eq restart 0)))))
      × (new ≡ after_events old timer (events.Finish (not (nat_eq restart 0)) ∷ []))

-- a look at a base: how long it may be left alone
pub record AnswersNext (old : Kept) (base : ℕ) (now : Time) (told : Told) (new : Kept) : Type 0 where
  pub bad : (code : ℤ) → next_asks old base now ≡ Err code → (told ≡ Err code) × (new ≡ old)
  pub next : (reading : ClockReading) → next_asks old base now ≡ Ok reading
      → ((wait : Option ℕ) × (told ≡ Ok (next_tells wait)) × IsNextWait old base reading wait) × (new ≡ old)

-- a look at a timer
pub record AnswersPeek (old : Kept) (timer : ℕ) (told : Told) (new : Kept) : Type 0 where
  pub bad : length old.timers ≤ timer → (told ≡ Err BAD_TIMER) × (new ≡ old)
  pub peek : timer < length old.timers → (told ≡ Ok (DONE, peek_tells timer (timer_in old timer))) × (new ≡ old)

-- a new handle: it takes timers where it has none, the arguments are good, and there is memory
pub record AnswersNew (was : Option Kept) (bases : ℕ) (declares : List Declares) (max_events : ℕ) (returned : ℤ) (is : Option Kept) : Type 0 where
  pub in_use : IsSome was → (returned ≡ IN_USE) × (is ≡ was)
  pub bad : (code : ℤ) → was ≡ None → fault_new bases declares max_events ≡ Some code → (returned ≡ code) × (is ≡ None)
  pub opened : was ≡ None → fault_new bases declares max_events ≡ None
      → ((returned ≡ DONE) × (is ≡ Some (opened bases (map timer_declared declares) (limited max_events)))) ⊎ ((returned ≡ NO_MEMORY) × (is ≡ None))
