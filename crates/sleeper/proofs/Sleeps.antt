-- Sleeps begin and end by turns: along a history, those that begin and the one that goes on at first are those that end and the one that goes on
-- at last.
use Rattle.std.proofs.Common.{arith, refl, ◌≡◌, ℕ, ◌+◌, Bool, true, false, true≢false, if◌then◌else◌, List, [], ◌∷◌, ◌++◌, ap, sym, ◌∙◌}
use Rattle.ktime.specs.declared.clock_id.ClockId.{ClockId}
use Rattle.ktime.specs.Readings.{ClockReading}
use Rattle.timer_setting.specs.declared.arming.Arm.{Arm}
use Rattle.timer_setting.specs.declared.arming.Arm.TheVariants as arms
use Rattle.timer_setting.specs.declared.phase.Phase.{Phase}
use Rattle.timer_setting.specs.declared.phase.Phase.TheVariants as phases
use Rattle.timer_setting.specs.declared.trigger_answer.TriggerAnswer.TheVariants as triggers
use Rattle.timer_setting.specs.Phases.{armed_by, clock_by, expiry_by, is_expiry_of}
use Rattle.timer_setting.specs.StepTables.{AreCalls, after_calls}
use Rattle.timer_setting.specs.declared.object_call.ObjectCall.{ObjectCall}
use Rattle.timer_setting.specs.declared.object_call.ObjectCall.TheVariants as calls
use Rattle.timer_setting.specs.declared.object_call.ObjectReply.{ObjectReply}
use Rattle.timer_setting.specs.declared.object_call.ObjectReply.TheVariants as replies
use Rattle.sleeper.specs.declared.sleep.Sleep.{Sleep}
use Rattle.sleeper.specs.declared.sleep.Sleep.TheVariants as sleeps
use Rattle.sleeper.specs.Histories.{SleeperEntry, begins_sleep, ends_sleep, how_many}
use Rattle.sleeper.specs.States.{Sleeper, is_free, is_sleeping, sleep_left}
use Rattle.sleeper.specs.Steps.{SleeperAllows, begun_by, end_of, sleep_answer, sleeper_answer, sleeper_step, sleeper_table}

abbrev pub one : Bool → ℕ
one b = if b then 1 else 0

-- a timer is armed
abbrev pub is_armed : Phase → Bool
is_armed phases.Idle = false
is_armed (phases.Armed generation clock expires) = true
is_armed (phases.Expired clock expires) = false

-- the timer is armed exactly while a sleep goes on
abbrev pub IsTied : Sleeper → Type 0
IsTied s = is_sleeping s.sleep ≡ is_armed s.phase

pub expiry_armed : (p : Phase) (generation : ℕ) (r : ClockReading) → is_expiry_of p generation r ≡ true → is_armed p ≡ true
expiry_armed phases.Idle generation r e = absurd (true≢false (sym e))
expiry_armed (phases.Armed armed clock expires) generation r e = refl
expiry_armed (phases.Expired clock expires) generation r e = absurd (true≢false (sym e))

-- a sleep begins exactly where its start was made
pub begun_armed : (arm : Arm) (flags : ℕ) (clock : ClockId) (expires : ℕ)
    → (begins_sleep (replies.Sleep (sleep_answer arm)) ≡ is_armed (armed_by arm clock expires))
    × (is_sleeping (begun_by arm flags) ≡ is_armed (armed_by arm clock expires))
begun_armed arms.NotAsked flags clock expires = (refl, refl)
begun_armed (arms.Armed generation) flags clock expires = (refl, search arith)
begun_armed (arms.Unarmed stamp) flags clock expires = (refl, refl)

free_awake : (sleep : Sleep) → is_free sleep ≡ true → is_sleeping sleep ≡ false
free_awake sleeps.Free e = refl
free_awake sleeps.Relative e = absurd (true≢false (sym e))
free_awake sleeps.Absolute e = absurd (true≢false (sym e))
free_awake sleeps.Woken e = refl

-- an interrupt ends the sleep that goes on
sleeping_ended : (sleep : Sleep) (left stamp : ℕ) → is_free sleep ≡ false → is_sleeping sleep ≡ ends_sleep (replies.Interrupt (end_of sleep left stamp))
sleeping_ended sleeps.Free left stamp e = absurd (true≢false e)
sleeping_ended sleeps.Relative left stamp e = refl
sleeping_ended sleeps.Absolute left stamp e = refl
sleeping_ended sleeps.Woken left stamp e = refl

-- ---- one step

-- the sleeper after a trigger that counts, or doesn't
abbrev pub woken_if : Sleeper → Bool → Sleeper
woken_if s is = if is then record s { phase = phases.Idle; sleep = sleeps.Woken; stamp = s.stamp + 1 } else record s { stamp = s.stamp + 1 }

-- what one call adds up to
pub record Balances (s : Sleeper) (c : ObjectCall) : Type 0 where
  pub sum : one (is_sleeping s.sleep) + one (begins_sleep (sleeper_answer s c)) ≡ one (ends_sleep (sleeper_answer s c)) + one (is_sleeping (sleeper_step s c).sleep)
  pub tied : IsTied (sleeper_step s c)

-- the same of a trigger, whose generation and reading make this expiry the one that is armed, or not
trigger_balances : (s : Sleeper) (is : Bool) → (is ≡ true → is_armed s.phase ≡ true) → IsTied s
    → (one (is_sleeping s.sleep) + 0 ≡ one (ends_sleep (replies.Trigger (if is then triggers.Counted else triggers.Stale))) + one (is_sleeping (woken_if s is).sleep))
    × IsTied (woken_if s is)
trigger_balances s true armed tied = (rw (tied ∙ armed refl) refl, refl)
trigger_balances s false armed tied = (omega arith, tied)

pub balances : (s : Sleeper) (c : ObjectCall) → SleeperAllows s c → IsTied s → Balances s c
balances s (calls.Sleep c) allows tied =
    let begun = begun_armed c.arm c.flags (clock_by s.clock c.flags) (expiry_by s.clock c.flags c.time c.reading) in
    record { sum = rw (free_awake s.sleep allows.3, begun.0, begun.1) refl; tied = begun.1 }
balances s (calls.Trigger generation r) allows tied =
    let t = trigger_balances s (is_expiry_of s.phase generation r) (expiry_armed s.phase generation r) tied in record { sum = t.0; tied = t.1 }
balances s (calls.Interrupt r) allows tied = record { sum = rw (sleeping_ended s.sleep (sleep_left s r) s.stamp allows.1) refl; tied = refl }
balances s c allows tied = absurd allows

-- ---- a history

-- what all calls of a history add up to
pub record AllBalance (s : Sleeper) (h : List SleeperEntry) : Type 0 where
  pub sum : one (is_sleeping s.sleep) + how_many begins_sleep h ≡ how_many ends_sleep h + one (is_sleeping (after_calls sleeper_table s h).sleep)
  pub tied : IsTied (after_calls sleeper_table s h)

pub all_balance : (s : Sleeper) (h : List SleeperEntry) → AreCalls sleeper_table s h → IsTied s → AllBalance s h
all_balance s [] calls tied = record { sum = omega arith; tied = tied }
all_balance s (e ∷ es) calls tied =
    let step = balances s e.call calls.0 tied in
    let rest = all_balance (sleeper_step s e.call) es calls.2 step.tied in
    let begins = ap (λ (r : ObjectReply). one (begins_sleep r)) calls.1 in
    let ends = ap (λ (r : ObjectReply). one (ends_sleep r)) calls.1 in
    record { sum = omega (arith, step.sum, rest.sum, begins, ends); tied = rest.tied }

-- a history is cut in two
pub parts : (s : Sleeper) (h more : List SleeperEntry) → AreCalls sleeper_table s (h ++ more)
    → AreCalls sleeper_table s h × AreCalls sleeper_table (after_calls sleeper_table s h) more
parts s [] more calls = (tt, calls)
parts s (e ∷ es) more calls = let rest = parts (sleeper_step s e.call) es more calls.2 in ((calls.0, calls.1, rest.0), rest.1)

-- a call that begins a sleep finds none, and leaves one
pub record Begins (s : Sleeper) (c : ObjectCall) : Type 0 where
  pub none : is_sleeping s.sleep ≡ false
  pub one : is_sleeping (sleeper_step s c).sleep ≡ true

pub begins : (s : Sleeper) (c : ObjectCall) → SleeperAllows s c → begins_sleep (sleeper_answer s c) ≡ true → Begins s c
begins s (calls.Sleep c) allows is =
    let begun = begun_armed c.arm c.flags (clock_by s.clock c.flags) (expiry_by s.clock c.flags c.time c.reading) in
    record { none = free_awake s.sleep allows.3; one = begun.1 ∙ sym begun.0 ∙ is }
begins s (calls.Trigger generation r) allows is = absurd (true≢false (sym is))
begins s (calls.Interrupt r) allows is = absurd (true≢false (sym is))
begins s c allows is = absurd allows
