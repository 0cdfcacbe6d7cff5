-- A sleep that goes on keeps its clock and its expiry, and the expiry that ends it is of that.
use Rattle.std.proofs.Common.{arith, refl, ◌≡◌, ◌≤◌, ℕ, ◌+◌, Bool, true, false, true≢false, if◌then◌else◌, List, [], ◌∷◌, ap, sym, ◌∙◌}
use Rattle.std.specs.Prelude.{nat_le}
use Rattle.std.proofs.lemmas.Bool.{and_parts}
use Rattle.std.proofs.lemmas.Bool.Decides.{nat_tests}
use Rattle.ktime.specs.declared.clock_id.ClockId.{ClockId}
use Rattle.ktime.specs.Readings.{ClockReading, value_of}
use Rattle.timer_setting.specs.declared.arming.Arm.{Arm}
use Rattle.timer_setting.specs.declared.arming.Arm.TheVariants as arms
use Rattle.timer_setting.specs.declared.trigger_answer.TriggerAnswer.TheVariants as triggers
use Rattle.timer_setting.specs.Phases.{armed_by, clock_by, expiry_by, is_expiry_of}
use Rattle.timer_setting.specs.StepTables.{AreCalls, after_calls}
use Rattle.timer_setting.specs.declared.object_call.ObjectCall.{ObjectCall}
use Rattle.timer_setting.specs.declared.object_call.ObjectCall.TheVariants as calls
use Rattle.sleeper.specs.Histories.{SleeperEntry, begins_sleep, how_many}
use Rattle.sleeper.specs.States.{Sleeper}
use Rattle.sleeper.specs.Steps.{sleeper_answer, sleeper_step, sleeper_table}
use Rattle.sleeper.proofs.Sleeps.{begun_armed, is_armed, one, woken_if}

same_if : (s : Sleeper) (is : Bool) → is_armed (woken_if s is).phase ≡ true → (woken_if s is).phase ≡ s.phase
same_if s true armed = absurd (true≢false (sym armed))
same_if s false armed = refl

-- a timer that is armed after a call that began no sleep was armed so before
kept_phase : (s : Sleeper) (c : ObjectCall) → begins_sleep (sleeper_answer s c) ≡ false → is_armed (sleeper_step s c).phase ≡ true
    → (sleeper_step s c).phase ≡ s.phase
kept_phase s (calls.Sleep c) none armed =
    let begun = begun_armed c.arm c.flags (clock_by s.clock c.flags) (expiry_by s.clock c.flags c.time c.reading) in
    absurd (true≢false (sym armed ∙ sym begun.0 ∙ none))
kept_phase s (calls.Trigger generation r) none armed = same_if s (is_expiry_of s.phase generation r) armed
kept_phase s (calls.Interrupt r) none armed = absurd (true≢false (sym armed))
kept_phase s c none armed = refl

none_first : (b : Bool) (n : ℕ) → one b + n ≡ 0 → (b ≡ false) × (n ≡ 0)
none_first true n e = absurd (omega (arith, e))
none_first false n e = (refl, omega (arith, e))

pub same_phase : (s : Sleeper) (h : List SleeperEntry) → AreCalls sleeper_table s h → how_many begins_sleep h ≡ 0
    → is_armed (after_calls sleeper_table s h).phase ≡ true → (after_calls sleeper_table s h).phase ≡ s.phase
same_phase s [] calls none armed = refl
same_phase s (e ∷ es) calls none armed =
    let n = none_first (begins_sleep e.reply) (how_many begins_sleep es) none in
    let rest = same_phase (sleeper_step s e.call) es calls.2 n.1 armed in
    rest ∙ kept_phase s e.call (ap begins_sleep (sym calls.1) ∙ n.0) (ap is_armed (sym rest) ∙ armed)

-- the clock that the sleeper was made on stays
kept_clock : (s : Sleeper) (c : ObjectCall) → (sleeper_step s c).clock ≡ s.clock
kept_clock s (calls.Sleep c) = refl
kept_clock s (calls.Trigger generation r) = search arith
kept_clock s (calls.Interrupt r) = refl
kept_clock s c = refl

pub same_clock : (s : Sleeper) (h : List SleeperEntry) → (after_calls sleeper_table s h).clock ≡ s.clock
same_clock s [] = refl
same_clock s (e ∷ es) = same_clock (sleeper_step s e.call) es ∙ kept_clock s e.call

-- a trigger counts where it is of the expiry that is armed
pub counted_is : (is : Bool) → triggers.Counted ≡ (if is then triggers.Counted else triggers.Stale) → is ≡ true
counted_is true e = refl
counted_is false e = cc

-- which its clock has reached
pub expiry_reached : (arm : Arm) (clock : ClockId) (expires generation : ℕ) (r : ClockReading) → is_expiry_of (armed_by arm clock expires) generation r ≡ true
    → expires ≤ value_of clock r
expiry_reached arms.NotAsked clock expires generation r is = absurd (true≢false (sym is))
expiry_reached (arms.Armed armed) clock expires generation r is =
    let now = (and_parts (nat_le armed generation) (nat_le expires (value_of clock r)) is).1 in grind (arith, nat_tests, now)
expiry_reached (arms.Unarmed stamp) clock expires generation r is = absurd (true≢false (sym is))
