-- What calls on a seat tell C.
use Rattle.std.specs.Prelude.{ℕ, ℤ, Bool, not, nat_eq, Option, Some, None, Result, Ok, Err}
use Rattle.seq_timer.specs.declared.observation.Peek.{Peek}
use Rattle.seq_timer.specs.declared.event.Placement.{Placement}
use Rattle.seq_timer.specs.declared.answer.Finished.{Finished}
use Rattle.seq_timer.specs.declared.answer.ForwardAnswer.{ForwardAnswer}
use Rattle.hr_timers.specs.declared.answer.NowAnswer.{NowAnswer}
use Rattle.hr_timers.specs.declared.answer.NowAnswer.TheVariants as nows
use Rattle.hr_timers.specs.declared.answer.StartAnswer.{StartAnswer}
use Rattle.hr_timers.specs.declared.answer.StartAnswer.TheVariants as starts
use Rattle.hr_timers.specs.declared.answer.ClaimAnswer.{ClaimAnswer}
use Rattle.hr_timers.specs.declared.answer.ClaimAnswer.TheVariants as claimings
use Rattle.hr_timers.specs.declared.carrying.ArriveAnswer.{ArriveAnswer}
use Rattle.hr_timers.specs.declared.carrying.ArriveAnswer.TheVariants as arrives
use Rattle.hr_timers.specs.declared.once_answer.Landed.{Landed}
use Rattle.hr_timers.specs.declared.once_answer.Miss.{Miss}
use Rattle.hr_timers.specs.declared.once_answer.Miss.TheVariants as misses
use Rattle.hr_timers.specs.declared.once_answer.Unsent.{Unsent}
use Rattle.hr_timers.specs.declared.once_answer.Unsent.TheVariants as unsents
use Rattle.hr_timers.specs.declared.numbers.ClaimNumbers.{ClaimNumbers}
use Rattle.hulayban_c.specs.Calls.{cancel_tells, finish_tells, forward_tells, next_tells, of_count, of_generation, one_where}
use Rattle.hulayban_c.specs.Numbers.{clock_number, nothing}
use Rattle.hulayban_c.specs.declared.codes.TheConstants.{BUSY, CARRIED, CLAIMED, CONTENDED, DONE, MOVING, SPENT}
use Rattle.hulayban_c.specs.declared.crossing.Answer.{Answer}
use Rattle.hulayban_c.specs.declared.shared.answer.SharedAnswer.{SharedAnswer}

-- what a call on a seat tells: the number for a refusal, or its number and its answer
abbrev pub SharedTold : Type 0
SharedTold = Result (ℤ × SharedAnswer) ℤ

-- an answer that says nothing
abbrev pub says_nothing : SharedAnswer
says_nothing = record {
  timer = 0;
  base = 0;
  clock = 0;
  armed = 0;
  running = 0;
  moving = 0;
  moved = 0;
  first = 0;
  generation = 0;
  number = 0;
  soft = 0;
  expires = 0;
  count = 0;
  wait = 0;
}

-- what a call on one thread would tell
abbrev pub as_shared : ℤ × Answer → ℤ × SharedAnswer
as_shared told = (
  told.0,
  record {
    timer = told.1.timer;
    base = told.1.base;
    clock = told.1.clock;
    armed = told.1.armed;
    running = told.1.running;
    moving = 0;
    moved = told.1.moved;
    first = 0;
    generation = told.1.generation;
    number = told.1.number;
    soft = told.1.soft;
    expires = told.1.expires;
    count = told.1.count;
    wait = told.1.wait;
  },
)

-- an answer of a timer and a base
abbrev pub on_base : ℕ → ℕ → SharedAnswer
on_base id base = record says_nothing { timer = id; base = base }

-- that another seat took the lock of this base
abbrev pub contended_tells : ℕ → ℕ → ℤ × SharedAnswer
contended_tells id base = (CONTENDED, on_base id base)

-- that the timer came to this base
abbrev pub moved_tells : ℕ → ℕ → ℤ × SharedAnswer
moved_tells id base = (MOVING, record (on_base id base) { moved = 1 })

-- why one try didn't get the lock of its timer's base
abbrev pub miss_tells : ℕ → Miss → ℤ × SharedAnswer
miss_tells id (misses.Contended b) = contended_tells id b
miss_tells id (misses.Moving b) = (MOVING, on_base id b)
miss_tells id (misses.Moved a b) = moved_tells id b

-- how a started timer is kept
abbrev pub kept_tells : ℕ → ℕ → Placement → SharedAnswer
kept_tells id generation placement = record says_nothing {
  timer = id;
  base = placement.base;
  clock = clock_number placement.clock;
  generation = generation;
  number = generation;
  soft = placement.soft;
  expires = placement.expires;
}

-- what a start tells that moved its timer nowhere, and whether the timer now leads its queue
abbrev pub here_tells : ℕ → StartAnswer → Bool → ℤ × SharedAnswer
here_tells id (starts.Spent stamp) first = as_shared (SPENT, of_count id stamp)
here_tells id (starts.Started was_armed generation asked outs placement) first =
    (DONE, record (kept_tells id generation placement) { armed = one_where was_armed; moved = one_where (not (nat_eq outs 0)); first = one_where first })

-- what a start tells whose timer has come to another base
abbrev pub landed_tells : ℕ → Bool → Landed → ℤ × SharedAnswer
landed_tells id was_armed l = (DONE, record (kept_tells id l.generation l.placement) { armed = one_where was_armed; moved = 1; first = one_where l.first })

-- that the seat carries the timer to this base
abbrev pub carried_tells : ℕ → ℕ → ℤ × SharedAnswer
carried_tells id base = (CARRIED, on_base id base)

-- what an arrival tells of a timer
abbrev pub arrive_tells : ℕ → Bool → ArriveAnswer → ℤ × SharedAnswer
arrive_tells id was_armed (arrives.Arrived p l) = landed_tells id was_armed l
arrive_tells id was_armed (arrives.SentOn c) = carried_tells id c.state.base
arrive_tells id was_armed (arrives.Contended c) = carried_tells id c.state.base

-- why a timer wasn't sent off its base
abbrev pub unsent_tells : ℕ → Unsent → ℤ × SharedAnswer
unsent_tells id (unsents.Missed m) = miss_tells id m
unsent_tells id (unsents.Spent stamp) = as_shared (SPENT, of_count id stamp)
unsent_tells id (unsents.Stays b) = moved_tells id b

-- what a cancel tells
abbrev pub now_tells : ℕ → NowAnswer → ℤ × SharedAnswer
now_tells id (nows.Tried a) = as_shared (cancel_tells id a)
now_tells id (nows.Contended b) = contended_tells id b
now_tells id (nows.Moving b) = (MOVING, on_base id b)
now_tells id (nows.Moved a b) = moved_tells id b

-- what a claim tells of the timer that it claims
abbrev pub claim_tells : ClaimNumbers → ℤ × SharedAnswer
claim_tells c = (CLAIMED, record (on_base c.timer c.base) { generation = c.generation; number = c.number })

-- whose function runs where a claim asks
abbrev pub busy_tells : ℕ → ℕ → ℤ × SharedAnswer
busy_tells id generation = as_shared (BUSY, of_generation id generation 0)

-- what a try at a claim on this base tells
abbrev pub claiming_tells : ℕ → Option ClaimAnswer → ℤ × SharedAnswer
claiming_tells base None = contended_tells 0 base
claiming_tells base (Some (claimings.Claimed c)) = claim_tells c
claiming_tells base (Some claimings.NoneDue) = as_shared (DONE, nothing)
claiming_tells base (Some (claimings.BaseBusy t g)) = busy_tells t g

-- what a try at a forward of this claim's timer tells
abbrev pub forwarding_tells : ClaimNumbers → Option ForwardAnswer → ℤ × SharedAnswer
forwarding_tells c None = contended_tells c.timer c.base
forwarding_tells c (Some a) = as_shared (forward_tells c.timer a)

-- what a try at a finish of this claim tells
abbrev pub finishing_tells : ClaimNumbers → Result Finished ClaimNumbers → ℤ × SharedAnswer
finishing_tells c (Err d) = contended_tells c.timer c.base
finishing_tells c (Ok a) = as_shared (finish_tells c.timer a.number a.rearmed)

-- how a timer's word shows it
abbrev pub peek_shared : ℕ → Peek → ℤ × SharedAnswer
peek_shared id p =
    (DONE, record (on_base id p.base) { armed = one_where p.enqueued; running = one_where p.running; moving = one_where p.moving; number = p.stamp })

-- what looks at a base tell: how long it may be left alone, or that another seat took its lock
abbrev pub looking_tells : ℕ → Option (Option ℕ) → ℤ × SharedAnswer
looking_tells base None = contended_tells 0 base
looking_tells base (Some wait) = as_shared (next_tells wait)
