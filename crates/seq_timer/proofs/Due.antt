-- The first pair that is reached belongs to the timer that is the next to expire.
use Rattle.std.proofs.Common.{◌≡◌, ◌<◌, ◌≤◌, ◌⊎◌, ℕ, Bool, true, false, ◌&&◌, List, [], ◌∷◌, Option, Some, None, nat_eq, nat_lt, nat_le, if◌then◌else◌, arith, refl, sym, ap, ◌∙◌, subst, IfSome, inl, inr}
use Rattle.std.specs.Option.{option_or}
use Rattle.std.proofs.Math.Logic.{⊎_elim}
use Rattle.std.proofs.lemmas.Bool.{cases_lt, and_parts, and_from, eqb-true, le-leb, le-ltb, true≢false}
use Rattle.std.proofs.lemmas.Bool.Decides.{nat_tests}
use Rattle.ktime.specs.declared.clock_id.ClockId.{ClockId}
use Rattle.ktime.specs.declared.clock_id.ClockId.TheVariants as clocks
use Rattle.ktime.specs.Readings.{ClockReading, value_of}
use Rattle.timer_queue.specs.Pairs.{first_of}
use Rattle.timer_queue.proofs.Pairs.{expiry_of-first, first_is_least}
use Rattle.seq_timer.specs.Steps.{Timer}
use Rattle.seq_timer.specs.Tables.{rank, is_armed_on, is_kept_on, is_smaller, IsNextDue, IsStopped, IsLeading}
use Rattle.seq_timer.specs.Halves.{Half, reached, first_in, IsQueueOf, IsHalfOf}

-- a clock is told by its place among the queues
pub rank-injective : (a b : ClockId) → rank a ≡ rank b → a ≡ b
rank-injective clocks.Monotonic clocks.Monotonic e = refl
rank-injective clocks.Monotonic clocks.Realtime e = absurd (grind arith)
rank-injective clocks.Monotonic clocks.Boottime e = absurd (grind arith)
rank-injective clocks.Realtime clocks.Monotonic e = absurd (grind arith)
rank-injective clocks.Realtime clocks.Realtime e = refl
rank-injective clocks.Realtime clocks.Boottime e = absurd (grind arith)
rank-injective clocks.Boottime clocks.Monotonic e = absurd (grind arith)
rank-injective clocks.Boottime clocks.Realtime e = absurd (grind arith)
rank-injective clocks.Boottime clocks.Boottime e = refl

pub first_reached : (timers : ℕ → Timer) (now : ℕ) (queue : List (ℕ × ℕ)) (p : ℕ × ℕ) → reached timers now queue ≡ Some p
    → (first_of queue ≡ Some p) × ((timers p.1).soft ≤ now)
first_reached timers now [] p is = cc
first_reached timers now (q ∷ qs) p is = ⊎_elim
    (λ (early : now < (timers q.1).soft). absurd (grind (arith, nat_tests)))
    (λ (late : (timers q.1).soft ≤ now).
    let same : Some q ≡ Some p = grind (arith, nat_tests) in
    (same, subst (λ (o : Option (ℕ × ℕ)). IfSome o (λ r. (timers r.1).soft ≤ now)) same late))
    (cases_lt now (timers q.1).soft)

pub expiry-kept : (kept : Bool) (expires least : ℕ) → (if kept then Some expires else None) ≡ Some least → (kept ≡ true) × (expires ≡ least)
expiry-kept true expires least is = (refl, cc)
expiry-kept false expires least is = absurd (cc)

none-kept : (kept : Bool) (expires : ℕ) → None ≡ (if kept then Some expires else None) → kept ≡ false
none-kept true expires is = absurd (cc)
none-kept false expires is = refl

-- the first pair of a queue is of a timer that leads its clock
pub leads_of : (timers : ℕ → Timer) (base : ℕ) (clock : ClockId) (queue : List (ℕ × ℕ)) (p : ℕ × ℕ) → IsQueueOf timers base clock queue
    → first_of queue ≡ Some p → IsLeading timers base clock p.1 × ((timers p.1).expires ≡ p.0)
leads_of timers base clock queue p here first =
    let t = timers p.1 in
    let kept = expiry-kept (is_kept_on base clock t) t.expires p.0 (sym (here.exact p.1) ∙ expiry_of-first queue p first) in
    let not_smaller : (other : ℕ) → is_smaller base clock p.0 (timers other) ≡ false = λ other.
    elim (is_kept_on base clock (timers other)) as (λ b. is_kept_on base clock (timers other) ≡ b → (b && nat_lt (timers other).expires p.0) ≡ false) [
      | true ↦ λ there. le-ltb (timers other).expires p.0
          (first_is_least queue p here.by_expiry first other (timers other).expires
          (here.exact other ∙ ap (λ b. if b then Some (timers other).expires else None) there))
      | false ↦ λ absent. refl
    ] refl in (
      record { kept = kept.0; smaller = λ other. subst (λ e. is_smaller base clock e (timers other) ≡ false) (sym kept.1) (not_smaller other) },
      kept.1,
    )

-- where a queue's first pair isn't reached, the base is stopped for its clock
pub stopped_of : (timers : ℕ → Timer) (base : ℕ) (reading : ClockReading) (clock : ClockId) (queue : List (ℕ × ℕ))
    → IsQueueOf timers base clock queue → reached timers (value_of clock reading) queue ≡ None → IsStopped timers base reading clock
stopped_of timers base reading clock [] here none = inl (λ id. none-kept (is_kept_on base clock (timers id)) (timers id).expires (here.exact id))
stopped_of timers base reading clock (q ∷ qs) here none = ⊎_elim
    (λ (early : value_of clock reading < (timers q.1).soft). inr (q.1, (leads_of timers base clock (q ∷ qs) q here refl).0, early))
    (λ (late : (timers q.1).soft ≤ value_of clock reading). absurd (grind (arith, nat_tests)))
    (cases_lt (value_of clock reading) (timers q.1).soft)

-- where a base is stopped for a clock, no expiry of a timer that is kept on it there is reached
pub stopped-unreached : (timers : ℕ → Timer) (base : ℕ) (reading : ClockReading) (clock : ClockId) → ((id : ℕ) → (timers id).soft ≤ (timers id).expires)
    → IsStopped timers base reading clock → (id : ℕ) → is_kept_on base clock (timers id) ≡ true → value_of clock reading < (timers id).expires
stopped-unreached timers base reading clock within (inl none) id kept = absurd (true≢false (sym kept ∙ none id))
stopped-unreached timers base reading clock within (inr lead) id kept =
    let first = timers lead.0 in
    let least : nat_lt (timers id).expires first.expires ≡ false = sym (ap (λ b. b && nat_lt (timers id).expires first.expires) kept) ∙ lead.1.smaller id in
    let soft = within lead.0 in
    let late = lead.2 in
    grind (arith, nat_tests)

-- the first pair of a queue, where it is reached and the base is stopped for each clock before it
pub next_of : (timers : ℕ → Timer) (base : ℕ) (reading : ClockReading) (clock : ClockId) (queue : List (ℕ × ℕ)) (p : ℕ × ℕ)
    → IsQueueOf timers base clock queue → reached timers (value_of clock reading) queue ≡ Some p
    → ((before : ClockId) → nat_lt (rank before) (rank clock) ≡ true → IsStopped timers base reading before)
    → IsNextDue timers base reading p.1 × (p.0 ≡ (timers p.1).expires)
next_of timers base reading clock queue p here is before =
    let t = timers p.1 in
    let first = first_reached timers (value_of clock reading) queue p is in
    let leads = leads_of timers base clock queue p here first.0 in
    let parts = and_parts (is_armed_on base t) (nat_eq (rank t.clock) (rank clock)) leads.0.kept in
    let clock_is : t.clock ≡ clock = rank-injective t.clock clock (eqb-true (rank t.clock) (rank clock) parts.1) in
    let in_time : t.soft ≤ value_of t.clock reading = subst (λ k. t.soft ≤ value_of k reading) (sym clock_is) first.1 in (
      record {
        due = and_from (is_armed_on base t) (nat_le t.soft (value_of t.clock reading)) parts.0 (le-leb t.soft (value_of t.clock reading) in_time);
        ahead = subst (λ k. (c : ClockId) → nat_lt (rank c) (rank k) ≡ true → IsStopped timers base reading c) (sym clock_is) before;
        smaller = λ other. subst (λ k. is_smaller base k t.expires (timers other) ≡ false) (sym clock_is) (leads.0.smaller other);
      },
      sym leads.1,
    )

-- ---- over the three queues

pub or_some : (a b d : Option (ℕ × ℕ)) (p : ℕ × ℕ) → option_or a (option_or b d) ≡ Some p
    → (a ≡ Some p) ⊎ ((a ≡ None) × (b ≡ Some p)) ⊎ ((a ≡ None) × (b ≡ None) × (d ≡ Some p))
or_some (Some x) b d p is = inl is
or_some None (Some x) d p is = inr (inl (refl, is))
or_some None None d p is = inr (inr (refl, refl, is))

pub or_none : (a b d : Option (ℕ × ℕ)) → option_or a (option_or b d) ≡ None → (a ≡ None) × (b ≡ None) × (d ≡ None)
or_none None None None is = (refl, refl, refl)
or_none None None (Some x) is = absurd (cc)
or_none None (Some x) d is = absurd (cc)
or_none (Some x) b d is = absurd (cc)

pub first_in-next : (timers : ℕ → Timer) (base : ℕ) (reading : ClockReading) (c : Half) (p : ℕ × ℕ) → IsHalfOf timers base c
    → first_in timers c reading ≡ Some p → IsNextDue timers base reading p.1 × (p.0 ≡ (timers p.1).expires)
first_in-next timers base reading c p here is =
    let none_mono = stopped_of timers base reading clocks.Monotonic c.monotonic (here.queues clocks.Monotonic) in
    let none_real = stopped_of timers base reading clocks.Realtime c.realtime (here.queues clocks.Realtime) in
    ⊎_elim
    (λ mono. next_of timers base reading clocks.Monotonic c.monotonic p (here.queues clocks.Monotonic) mono
    (λ before earlier. absurd (none_before before earlier)))
    (λ rest. ⊎_elim
    (λ real. next_of timers base reading clocks.Realtime c.realtime p (here.queues clocks.Realtime) real.1
    (one_before (IsStopped timers base reading) (none_mono real.0)))
    (λ boot. next_of timers base reading clocks.Boottime c.boottime p (here.queues clocks.Boottime) boot.2
    (two_before (IsStopped timers base reading) (none_mono boot.0) (none_real boot.1)))
    rest)
    (or_some (reached timers reading.mono c.monotonic) (reached timers reading.real c.realtime) (reached timers reading.boot c.boottime) p is)
  where
    none_before : (before : ClockId) → nat_lt (rank before) 0 ≡ true → ⊥
    none_before before earlier = grind (arith, nat_tests)

    one_before : (P : ClockId → Type 0) → P clocks.Monotonic → (before : ClockId) → nat_lt (rank before) 1 ≡ true → P before
    one_before P mono clocks.Monotonic earlier = mono
    one_before P mono clocks.Realtime earlier = absurd (grind (arith, nat_tests))
    one_before P mono clocks.Boottime earlier = absurd (grind (arith, nat_tests))

    two_before : (P : ClockId → Type 0) → P clocks.Monotonic → P clocks.Realtime → (before : ClockId) → nat_lt (rank before) 2 ≡ true → P before
    two_before P mono real clocks.Monotonic earlier = mono
    two_before P mono real clocks.Realtime earlier = real
    two_before P mono real clocks.Boottime earlier = absurd (grind (arith, nat_tests))

pub first_in-none : (timers : ℕ → Timer) (base : ℕ) (reading : ClockReading) (c : Half) → IsHalfOf timers base c
    → first_in timers c reading ≡ None → (clock : ClockId) → IsStopped timers base reading clock
first_in-none timers base reading c here is clock =
    let parts = or_none (reached timers reading.mono c.monotonic) (reached timers reading.real c.realtime) (reached timers reading.boot c.boottime) is in
    each (IsStopped timers base reading)
    (stopped_of timers base reading clocks.Monotonic c.monotonic (here.queues clocks.Monotonic) parts.0)
    (stopped_of timers base reading clocks.Realtime c.realtime (here.queues clocks.Realtime) parts.1)
    (stopped_of timers base reading clocks.Boottime c.boottime (here.queues clocks.Boottime) parts.2)
    clock
  where
    each : (P : ClockId → Type 0) → P clocks.Monotonic → P clocks.Realtime → P clocks.Boottime → (clock : ClockId) → P clock
    each P mono real boot clocks.Monotonic = mono
    each P mono real boot clocks.Realtime = real
    each P mono real boot clocks.Boottime = boot
