-- The step table of one timer: what each event needs, the state after it, and its reply.
use Rattle.std.specs.Prelude.{ℕ, ◌≡◌, ◌+◌, ◌≤◌, ◌<◌, ◌^◌, ◌-◌, ◌*◌, Bool, true, false, not, ◌&&◌, ◌||◌, ◌⊎◌, nat_lt, Option, Some, None, is_some, unwrap_or, IsSome, IsNone, if◌then◌else◌}
use Rattle.ktime.specs.declared.clock_id.ClockId.{ClockId}
use Rattle.ktime.specs.declared.mode.Mode.{Mode}
use Rattle.ktime.specs.declared.mode.Mode.TheVariants as modes
use Rattle.ktime.specs.Readings.{ClockReading, value_of}
use Rattle.ktime.specs.Times.{sat, last_time, effective_clock, passed, next_after, step_of}
use Rattle.seq_timer.specs.declared.context.Declared.{Declared}
use Rattle.seq_timer.specs.declared.context.Terms.{Terms}
use Rattle.seq_timer.specs.declared.event.Placement.{Placement}
use Rattle.seq_timer.specs.Events.{Asked}
use Rattle.seq_timer.specs.declared.event.Moved.{Moved}
use Rattle.seq_timer.specs.Events.{Event}
use Rattle.seq_timer.specs.declared.event.EventBy.TheVariants as events
use Rattle.seq_timer.specs.declared.event.Reply.{Reply}
use Rattle.seq_timer.specs.declared.event.Reply.TheVariants as replies
use Rattle.seq_timer.specs.declared.event.Restarted.{Restarted}
use Rattle.seq_timer.specs.declared.event.Restarted.TheVariants as restarts
use Rattle.seq_timer.specs.declared.answer.Rearmed.{Rearmed}
use Rattle.seq_timer.specs.declared.answer.Rearmed.TheVariants as rearmings

-- a timer: the clock and context it was declared on, the clock, base, soft expiry and expiry that it is kept on, the generations that are armed and running,
-- whether it is on the move between bases, how many entries its history has, and the terms on which it takes more
pub record Timer : Type 0 where
  pub declared : Declared
  pub clock : ClockId
  pub base : ℕ
  pub soft : ℕ
  pub expires : ℕ
  pub armed : Option ℕ
  pub running : Option ℕ
  pub moving : Bool
  pub stamp : ℕ
  pub terms : Terms

-- the terms of a timer that is on no base which can go off line: a limit on its entries alone
abbrev pub limited : ℕ → Terms
limited limit = record { limit = limit; reach = 0 }

-- a timer of which nothing has happened yet
abbrev pub opening : Declared → Terms → Timer
opening declared terms = record {
  declared = declared;
  clock = declared.clock;
  base = 0;
  soft = 0;
  expires = 0;
  armed = None;
  running = None;
  moving = false;
  stamp = 0;
  terms = terms;
}

-- the time that the timer's clock shows in a reading
abbrev pub now_of : Timer → ClockReading → ℕ
now_of t reading = value_of t.clock reading

-- the soft expiry that a start sets on this clock
abbrev pub expiry_from : Mode → ℕ → ClockId → ClockReading → ℕ
expiry_from modes.Abs ns clock reading = sat ns
expiry_from modes.Keep ns clock reading = sat ns
expiry_from modes.Rel ns clock reading = sat (value_of clock reading + ns)

-- whether a finish arms the timer again: a restart was asked for, no start came in, and the limit leaves room
abbrev pub arms_again : Timer → Bool → Bool
arms_again t restart = restart && not (is_some t.armed) && nat_lt t.stamp t.terms.limit

-- a timer with a reach is sent to bases below this number only; so one start has at most so many Outs
abbrev pub most_bases : ℕ
most_bases = 64

-- whether a timer may be sent to a base. With no reach: one that rests, below its limit. With a reach, and to a base of a lower number than 64: one that
-- rests, below its limit, and so far past it as its reach goes where it is armed; and one that is on its way, to a base of a lower number
abbrev pub may_send : Timer → ℕ → Bool
may_send t base = if nat_lt 0 t.terms.reach
    then nat_lt base most_bases && (if t.moving then nat_lt base t.base else nat_lt t.stamp (t.terms.limit + (if is_some t.armed then t.terms.reach else 0)))
    else not t.moving && nat_lt t.stamp t.terms.limit

-- what an event needs
abbrev pub Needs : Timer → Event → Type 0
Needs t (events.Out base) = IsNone t.running × (base ≡ t.base → ⊥) × (may_send t base ≡ true)
Needs t (events.Start asked) = (IsSome t.running ⊎ (asked.base ≡ t.base)) × ((t.stamp < t.terms.limit) ⊎ (t.moving ≡ true))
Needs t events.Cancel = IsSome t.armed × IsNone t.running × (t.moving ≡ false)
Needs t (events.Claim base reading) = IsSome t.armed × (base ≡ t.base) × IsNone t.running × (t.moving ≡ false) × (t.soft ≤ now_of t reading)
Needs t (events.Forward reading interval) = IsSome t.running × IsNone t.armed × (t.stamp < t.terms.limit)
Needs t (events.Finish restart) = IsSome t.running

-- the timer after a start
abbrev pub started : Timer → Asked → Timer
started t asked =
    let clock = effective_clock t.declared.clock asked.mode t.clock in
    let soft = expiry_from asked.mode asked.ns clock asked.reading in
    record t { clock = clock; soft = soft; expires = sat (soft + asked.slack); armed = Some (t.stamp + 1); moving = false; stamp = t.stamp + 1 }

-- the timer after a forward: as many intervals as bring its expiry past the reading are added to both expiries
abbrev pub forwarded : Timer → ClockReading → ℕ → Timer
forwarded t reading interval =
    let now = now_of t reading in
    record t { soft = sat (t.soft + passed t.expires now interval * step_of interval); expires = next_after t.expires now interval; stamp = t.stamp + 1 }

-- the timer after a finish
abbrev pub finished : Timer → Bool → Timer
finished t restart = record t { armed = (if arms_again t restart then Some (t.stamp + 1) else t.armed); running = None; stamp = t.stamp + 1 }

-- the timer after an event; what isn't named stays
abbrev pub after : Timer → Event → Timer
after t (events.Out base) = record t { base = base; armed = None; moving = true; stamp = t.stamp + 1 }
after t (events.Start asked) = started t asked
after t events.Cancel = record t { armed = None; stamp = t.stamp + 1 }
after t (events.Claim base reading) = record t { armed = None; running = t.armed; stamp = t.stamp + 1 }
after t (events.Forward reading interval) = forwarded t reading interval
after t (events.Finish restart) = finished t restart

-- what becomes of the restart that a finish is asked for
abbrev pub restarted_by : Timer → Bool → Restarted
restarted_by t restart = if restart && not
    (is_some t.armed) then (if nat_lt t.stamp t.terms.limit then restarts.Again (t.stamp + 1) else restarts.Spent) else restarts.No

-- the same as it is answered, with the stamp at which it was refused
abbrev pub rearmed_at : ℕ → Restarted → Rearmed
rearmed_at stamp restarts.No = rearmings.No
rearmed_at stamp (restarts.Again generation) = rearmings.Again generation
rearmed_at stamp restarts.Spent = rearmings.Spent stamp

-- how a finish answers for the restart
abbrev pub rearmed_by : Timer → Bool → Rearmed
rearmed_by t restart = rearmed_at t.stamp (restarted_by t restart)

-- how a timer is kept
abbrev pub placement_of : Timer → Placement
placement_of t = record { base = t.base; clock = t.clock; soft = t.soft; expires = t.expires }

-- by what a forward moves a timer's expiries
abbrev pub moved_by : Timer → ClockReading → ℕ → Moved
moved_by t reading interval = let now = forwarded t reading interval in
    record { count = passed t.expires (now_of t reading) interval; soft = now.soft; expires = now.expires }

-- what a start answers
abbrev pub start_reply : Timer → Asked → Reply
start_reply t asked = replies.Start (placement_of (started t asked)) (is_some t.armed)

-- what a forward answers
abbrev pub forward_reply : Timer → ClockReading → ℕ → Reply
forward_reply t reading interval = replies.Forward (moved_by t reading interval)

-- what a finish answers
abbrev pub finish_reply : Timer → Bool → Reply
finish_reply t restart = replies.Finish (unwrap_or t.running 0) (restarted_by t restart)

-- what an event answers
abbrev pub reply_to : Timer → Event → Reply
reply_to t (events.Out base) = replies.Out (is_some t.armed)
reply_to t (events.Start asked) = start_reply t asked
reply_to t events.Cancel = replies.Cancel (unwrap_or t.armed 0)
reply_to t (events.Claim base reading) = replies.Claim (unwrap_or t.armed 0)
reply_to t (events.Forward reading interval) = forward_reply t reading interval
reply_to t (events.Finish restart) = finish_reply t restart

-- the greatest limit on entries: entries past it keep the stamp below 2^48
abbrev pub greatest_limit : ℕ
greatest_limit = 2 ^ 48 - 16

-- how many entries can follow once the limit, and the reach past it, are reached
abbrev pub entries_left : Timer → ℕ
entries_left t = if t.moving then 3 + (if nat_lt 0 t.terms.reach then t.base else 0)
    else (if is_some t.armed then 2 else 0) + (if is_some t.running then 1 else 0)

-- no timer on these terms has more entries
abbrev pub most_entries : Terms → ℕ
most_entries terms = terms.limit + 3 + (if nat_lt 0 terms.reach then terms.reach + most_bases else 0)

-- the limit and the reach leave room for the stamp in a word
pub record HasRoom (terms : Terms) : Type 0 where
  pub few : terms.limit ≤ greatest_limit
  pub far : 0 < terms.reach → terms.limit + terms.reach + 80 < 2 ^ 48

-- what holds of a timer at all times: the stamp stays near its limit, the expiry within time and no earlier than the soft one, generations are
-- numbers of entries, and a timer on the move is neither armed nor running
pub record IsBounded (t : Timer) : Type 0 where
  pub room : HasRoom t.terms
  pub some : 0 < t.terms.limit
  pub stamp : t.stamp + entries_left t ≤ most_entries t.terms
  pub expires : t.expires ≤ last_time
  pub soft : t.soft ≤ t.expires
  pub armed : unwrap_or t.armed 0 ≤ t.stamp
  pub running : unwrap_or t.running 0 ≤ t.stamp
  pub apart : t.moving && (is_some t.armed || is_some t.running) ≡ false
