-- The first pair of a context that is reached belongs to the timer of that context that is the next to expire.
use Rattle.std.proofs.Common.{◌≡◌, ◌<◌, ℕ, true, List, [], ◌∷◌, Some, None, nat_eq, nat_le, if◌then◌else◌, arith, refl, sym, ap, ◌∙◌, subst, length}
use Rattle.std.specs.Option.{option_or}
use Rattle.std.proofs.Math.Logic.{⊎_elim}
use Rattle.std.proofs.lemmas.Bool.{cases_Bool, cases_lt, and_parts, false≢true, true≢false}
use Rattle.std.proofs.lemmas.Bool.Decides.{nat_tests}
use Rattle.std.proofs.lemmas.List.{get_or_past}
use Rattle.ktime.specs.declared.clock_id.ClockId.{ClockId}
use Rattle.ktime.specs.declared.clock_id.ClockId.TheVariants as clocks
use Rattle.ktime.specs.Readings.{ClockReading, value_of}
use Rattle.seq_timer.specs.declared.context.Context.{Context}
use Rattle.seq_timer.specs.Steps.{Timer}
use Rattle.seq_timer.specs.Tables.{IsNextDue, IsStopped, in_context, is_armed_on, is_context, no_timer, rank, seen_in, timer_at}
use Rattle.seq_timer.specs.Halves.{Half, IsHalfOf, IsQueueOf, first_in, reached}
use Rattle.seq_timer.specs.Contents.{Content, IsContentOf, first_due, half_of}
use Rattle.seq_timer.specs.declared.system.SystemEntry.{SystemEntry}
use Rattle.seq_timer.specs.Systems.{AreSystemSteps, BaseContent, IsFresh, IsOn, first_system, next_on, system_after}
use Rattle.seq_timer.proofs.Agreement.{agrees}
use Rattle.seq_timer.proofs.Systems.{shows, untouched}
use Rattle.seq_timer.proofs.Contents.{same_context, seen_armed, seen_else}
use Rattle.seq_timer.proofs.Due.{first_in-next, first_in-none, leads_of}

-- the first pair of a queue is judged by timers that are the same where they are armed on the base
reached-same : (f g : ℕ → Timer) (base : ℕ) (clock : ClockId) (now : ℕ) (queue : List (ℕ × ℕ)) → IsQueueOf f base clock queue
    → ((id : ℕ) → is_armed_on base (f id) ≡ true → g id ≡ f id) → reached g now queue ≡ reached f now queue
reached-same f g base clock now [] here same = refl
reached-same f g base clock now (q ∷ qs) here same =
    let kept = (leads_of f base clock (q ∷ qs) q here refl).0.kept in
    ap (λ (t : Timer). if nat_le t.soft now then Some q else None)
    (same q.1 (and_parts (is_armed_on base (f q.1)) (nat_eq (rank (f q.1).clock) (rank clock)) kept).0)

pub first_in-same : (f g : ℕ → Timer) (base : ℕ) (reading : ClockReading) (h : Half) → IsHalfOf f base h
    → ((id : ℕ) → is_armed_on base (f id) ≡ true → g id ≡ f id) → first_in g h reading ≡ first_in f h reading
first_in-same f g base reading h here same = λ i. option_or
    (reached-same f g base clocks.Monotonic reading.mono h.monotonic (here.queues clocks.Monotonic) same i)
    (option_or (reached-same f g base clocks.Realtime reading.real h.realtime (here.queues clocks.Realtime) same i)
    (reached-same f g base clocks.Boottime reading.boot h.boottime (here.queues clocks.Boottime) same i))

pub armed_context : (x : Context) (base : ℕ) (t : Timer) → is_armed_on base (seen_in x t) ≡ true → t.declared.context ≡ x
armed_context x base t armed = ⊎_elim
    (λ own. sym (same_context x t.declared.context own))
    (λ other. absurd (true≢false (sym armed ∙ ap (is_armed_on base) (seen_else x t other))))
    (cases_Bool (is_context x t.declared.context))

module _ (x : Context) (timers : ℕ → Timer) (base : ℕ) (reading : ClockReading) (c : Content) (here : IsContentOf timers base c) where
  first_seen : first_due x timers c reading ≡ first_in (in_context x timers) (half_of x c) reading
  first_seen = first_in-same (in_context x timers) timers base reading (half_of x c) (here.each x) (λ id armed. seen_armed x base (timers id) armed)

  pub first_due-next : (p : ℕ × ℕ) → first_due x timers c reading ≡ Some p
      → IsNextDue (in_context x timers) base reading p.1 × (timers p.1 ≡ in_context x timers p.1) × (p.0 ≡ (timers p.1).expires)
  first_due-next p is =
      let next = first_in-next (in_context x timers) base reading (half_of x c) p (here.each x) (sym first_seen ∙ is) in
      let same = seen_armed x base (timers p.1) (and_parts (is_armed_on base (in_context x timers p.1)) (nat_le (in_context x timers p.1).soft
      (value_of (in_context x timers p.1).clock reading)) next.0.due).0 in
      (next.0, same, next.1 ∙ ap (λ (t : Timer). t.expires) (sym same))

  pub first_due-none : first_due x timers c reading ≡ None → (clock : ClockId) → IsStopped (in_context x timers) base reading clock
  first_due-none is = first_in-none (in_context x timers) base reading (half_of x c) (here.each x) (sym first_seen ∙ is)

-- ---- what a base keeps of its timers is what they are

-- a timer that is armed on a base is on it
pub on_armed : (base : ℕ) (t : Timer) → is_armed_on base t ≡ true → IsOn base t
on_armed base t armed = record { at = grind (arith, nat_tests); still = grind (arith, nat_tests) }

module _ (bases : ℕ) (opened : List Timer) (log : List SystemEntry) (fresh : (t : ℕ) → IsFresh (timer_at opened t))
    (all : AreSystemSteps bases (length opened) (first_system opened) log) (base : ℕ) (x : Context) where
  abbrev timers_then : ℕ → Timer
  timers_then = (system_after opened log).timers

  abbrev base_then : BaseContent
  base_then = (system_after opened log).bases base

  there : (id : ℕ) → is_armed_on base (timers_then id) ≡ true → id < length opened
  there id armed = ⊎_elim
      (λ inside. inside)
      (λ past. absurd (false≢true (subst (λ (t : Timer). is_armed_on base t ≡ true)
      (untouched bases (length opened) (first_system opened) log id past all ∙ get_or_past opened id no_timer past) armed)))
      (cases_lt id (length opened))

  pub kept_there : (id : ℕ) → is_armed_on base (in_context x timers_then id) ≡ true → timer_at base_then.states id ≡ in_context x timers_then id
  kept_there id armed =
      let own = seen_armed x base (timers_then id) armed in
      let here : is_armed_on base (timers_then id) ≡ true = subst (λ (t : Timer). is_armed_on base t ≡ true) (sym own) armed in
      (shows bases opened log all).kept base id (there id here) (on_armed base (timers_then id) here) ∙ own

  pub next_on-seen : (reading : ClockReading) → next_on x base_then reading ≡ first_due x timers_then base_then.content reading
  next_on-seen reading =
      let here = ((agrees bases opened log fresh all).contents base).each x in
      let half = half_of x base_then.content in
      first_in-same (in_context x timers_then) (timer_at base_then.states) base reading half here kept_there
      ∙ sym (first_in-same (in_context x timers_then) timers_then base reading half here (λ id armed. seen_armed x base (timers_then id) armed))

  -- the first pair of a context belongs to a timer of the context, which is the next to expire
  pub next_on-next : (reading : ClockReading) (p : ℕ × ℕ) → next_on x base_then reading ≡ Some p
      → IsNextDue (in_context x timers_then) base reading p.1 × ((timers_then p.1).declared.context ≡ x)
      × (p.0 ≡ (timers_then p.1).expires) × (p.1 < length opened)
  next_on-next reading p is =
      let next = first_due-next x timers_then base reading base_then.content ((agrees bases opened log fresh all).contents base) p
      (sym (next_on-seen reading) ∙ is) in
      let armed = (and_parts (is_armed_on base (in_context x timers_then p.1)) (nat_le (in_context x timers_then p.1).soft
      (value_of (in_context x timers_then p.1).clock reading)) next.0.due).0 in
      (next.0, armed_context x base (timers_then p.1) armed, next.2, there p.1 (subst (λ (t : Timer). is_armed_on base t ≡ true) (sym next.1) armed))

  -- where there is none, the base is stopped for each clock
  pub next_on-none : (reading : ClockReading) → next_on x base_then reading ≡ None → (clock : ClockId) → IsStopped (in_context x timers_then) base reading clock
  next_on-none reading is = first_due-none x timers_then base reading base_then.content ((agrees bases opened log fresh all).contents base)
      (sym (next_on-seen reading) ∙ is)
