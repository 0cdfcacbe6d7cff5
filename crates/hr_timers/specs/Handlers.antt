-- What a handler's functions do.
use Rattle.std.specs.Prelude.{ℕ, ◌≡◌, ◌≤◌, Bool, true, false, length}
use Rattle.ktime.specs.Readings.{ClockReading}
use Rattle.pass_names.specs.Passes.{Begins}
use Rattle.base_row.specs.declared.view.Opening.{Opening}
use Rattle.hr_timers.specs.declared.numbers.ClaimNumbers.{ClaimNumbers}
use Rattle.hr_timers.specs.Known.{KnownOfTimers}
use Rattle.hr_timers.specs.declared.handler.Restart.{Restart}
use Rattle.hr_timers.specs.declared.handler.Restart.TheVariants as restarts

-- What a handler's function does of timers with this opening, between what the pass knows after the claim and before the finish; for how many functions the
-- handler's own logs have room; how many timers it has at least; and how many bases and counters it needs.
pub record Meaning (A : Type 0) : Type 1 where
  pub did : Opening → A → A → KnownOfTimers → KnownOfTimers → ClaimNumbers → ClockReading → Restart → Type 0
  pub ready : A → ℕ
  pub timers : A → ℕ
  pub bases : A → ℕ
  pub counters : A → ℕ

-- these timers are no more, and their bases and counters no fewer, than a handler can serve
pub record CanServe {A : Type 0} (m : Meaning A) (o : Opening) (h : A) : Type 0 where
  pub timers : length o.timers ≤ m.timers h
  pub bases : m.bases h ≤ o.bases
  pub counters : m.counters h ≤ o.counters

-- the pass's name and claims are as they were, and what it has seen and made goes on
pub record KeepsPass (v w : KnownOfTimers) : Type 0 where
  pub id : w.id ≡ v.id
  pub claims : w.claims ≡ v.claims
  pub seen : Begins v.seen w.seen
  pub mine : Begins v.mine w.mine

abbrev pub asks : Restart → Bool
asks restarts.Stop = false
asks restarts.Again = true
