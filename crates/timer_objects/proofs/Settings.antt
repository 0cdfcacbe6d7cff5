-- A settime: what its steps leave.
use Rattle.std.proofs.Common.{arith, refl, sym, ap, subst, ◌≡◌, ◌∙◌, ℕ, ◌+◌, ◌≤◌, ◌<◌, Bool, true, false, List, [], ◌∷◌}
use Rattle.std.specs.Prelude.{Some, None, if◌then◌else◌}
use Rattle.ktime.specs.declared.clock_id.ClockId.{ClockId}
use Rattle.ktime.specs.declared.clock_id.ClockId.TheVariants as clocks
use Rattle.ktime.specs.declared.mode.Mode.TheVariants as modes
use Rattle.ktime.specs.Readings.{ClockReading, value_of}
use Rattle.ktime.specs.Times.{effective_clock, last_time, sat}
use Rattle.ktime.specs.declared.mode.Mode.{Mode}
use Rattle.seq_timer.specs.declared.context.Declared.{Declared}
use Rattle.seq_timer.specs.declared.event.EventBy.TheVariants as events
use Rattle.seq_timer.specs.Steps.{Timer, after, expiry_from}
use Rattle.seq_timer.specs.Tables.{timer_at}
use Rattle.seq_timer.specs.Calls.{asked_for, step_all}
use Rattle.base_row.specs.declared.view.Opening.{Opening}
use Rattle.hr_timers.specs.declared.answer.StartAnswer.{StartAnswer}
use Rattle.hr_timers.specs.declared.answer.StartAnswer.TheVariants as starts
use Rattle.hr_timers.specs.Known.{KnownOfTimers, timer_then}
use Rattle.hr_timers.specs.Calls.{StartsTimer}
use Rattle.hr_timers.specs.Ways.{start_on}
use Rattle.hr_timers.proofs.Moments.{along, declared_kept, timer_after}
use Rattle.base_row.specs.declared.log.Receipt.{Receipt}
use Rattle.timer_setting.specs.declared.arming.Arm.{Arm}
use Rattle.timer_setting.specs.declared.arming.Arm.TheVariants as arms
use Rattle.timer_setting.specs.declared.phase.Phase.{Phase}
use Rattle.timer_setting.specs.declared.phase.Phase.TheVariants as phases
use Rattle.timer_setting.specs.declared.settime_call.SettimeCall.{SettimeCall}
use Rattle.timer_setting.specs.Arguments.{bits_beyond, is_absolute, mode_by, start_by}
use Rattle.timer_setting.specs.Phases.{IsOutcomeOf, armed_by, clock_by, expiry_by, phase_by}
use Rattle.timer_setting.specs.declared.answers.SettimeAnswer.{SettimeAnswer}
use Rattle.timer_setting.specs.declared.answers.SettimeAnswer.TheVariants as settings
use Rattle.posix_timer.specs.Steps.{posix_settime_answer}
use Rattle.timer_fd.specs.Steps.{answers_canceled, fd_settime_answer}
use Rattle.timer_setting.specs.declared.object_call.ObjectCall.TheVariants as calls
use Rattle.timer_setting.specs.declared.object_call.ObjectReply.TheVariants as replies
use Rattle.timer_objects.specs.declared.object.Decl.{Decl}
use Rattle.timer_objects.specs.declared.object.Object.{Object}
use Rattle.timer_objects.specs.declared.object.Object.TheVariants as objects
use Rattle.timer_objects.specs.Steps.{IsObjectOf, IsTimerOf, ObjectAllows, kind_over, object_answer, object_step, object_timer}
use Rattle.timer_objects.specs.Arming.{ArmsFor, arm_of}
use Rattle.timer_objects.specs.Calls.{BearsStart, HasSetting, flags_of, phase_of}
use Rattle.timer_objects.specs.Anew.{IsSettimeEntry}
use Rattle.posix_timer.specs.States.{PosixTimer}
use Rattle.timer_fd.specs.States.{Descriptor, fd_left}

-- ---- the object

-- two settimes' replies are one where their answers are
pub settime_same : {a b : SettimeAnswer} → replies.Settime a ≡ replies.Settime b → a ≡ b
settime_same e = cc

module _ (d : Decl) (limit n : ℕ) (x : Object) (c : SettimeCall) (is : IsObjectOf d limit n x) (has : HasSetting d.kind) where
  timer : IsTimerOf d limit n (object_timer x)
  timer = is.timer has.0

  has_it : HasSetting (kind_over x)
  has_it = subst HasSetting is.kind has

  -- a settime with valid arguments is allowed
  pub settime_allowed : n < limit → bits_beyond (flags_of d.kind) c.flags ≡ 0 → c.value ≤ last_time → c.interval ≤ last_time
      → IsOutcomeOf c.arm (start_by c.flags c.value) → ObjectAllows x (calls.Settime c)
  settime_allowed room flags value interval outcome =
      at x has_it (omega (arith, timer.limit, timer.stamp, room)) (subst (λ k. bits_beyond (flags_of k) c.flags ≡ 0) is.kind flags)
    where
      at : (x : Object) → HasSetting (kind_over x) → (object_timer x).stamp < (object_timer x).limit → bits_beyond (flags_of (kind_over x)) c.flags ≡ 0
          → ObjectAllows x (calls.Settime c)
      at (objects.Posix t) has room flags = (room, flags, value, interval, outcome)
      at (objects.Queued t) has room flags = (room, flags, value, interval, outcome)
      at (objects.Fd t) has room flags = (room, flags, value, interval, outcome)
      at objects.Raw has room flags = absurd (has.0 refl)
      at (objects.Sleeper s) has room flags = absurd (has.1 refl)

  -- its reply tells an answer, which is no refusal
  pub settime_replies : (a : SettimeAnswer) × (object_answer x (calls.Settime c) ≡ replies.Settime a) × IsSettimeEntry a
  settime_replies = at x has_it
    where
      posix : (t : PosixTimer) (arm : Arm) → (a : SettimeAnswer) × (replies.Settime (posix_settime_answer t c.reading arm) ≡ replies.Settime a) × IsSettimeEntry a
      posix t arms.NotAsked = (_, refl, tt)
      posix t (arms.Armed g) = (_, refl, tt)
      posix t (arms.Unarmed k) = (_, refl, tt)

      old : (b : Bool) (left interval : ℕ)
          → (a : SettimeAnswer) × (replies.Settime (if b then settings.Canceled else settings.Old left interval) ≡ replies.Settime a) × IsSettimeEntry a
      old true left interval = (_, refl, tt)
      old false left interval = (_, refl, tt)

      descriptor : (t : Descriptor) (arm : Arm)
          → (a : SettimeAnswer) × (replies.Settime (fd_settime_answer t c.flags c.value c.reading arm) ≡ replies.Settime a) × IsSettimeEntry a
      descriptor t arms.NotAsked = old (answers_canceled t c.flags c.value c.reading) (fd_left t c.reading) t.interval
      descriptor t (arms.Armed g) = old (answers_canceled t c.flags c.value c.reading) (fd_left t c.reading) t.interval
      descriptor t (arms.Unarmed k) = (_, refl, tt)

      at : (x : Object) → HasSetting (kind_over x) → (a : SettimeAnswer) × (object_answer x (calls.Settime c) ≡ replies.Settime a) × IsSettimeEntry a
      at (objects.Posix t) has = posix t c.arm
      at (objects.Queued t) has = posix t.timer c.arm
      at (objects.Fd t) has = descriptor t c.arm
      at objects.Raw has = absurd (has.0 refl)
      at (objects.Sleeper s) has = absurd (has.1 refl)

  -- the phase after it
  pub set_phase : phase_of (object_step x (calls.Settime c)) ≡ armed_by c.arm (clock_by d.clock c.flags) (expiry_by d.clock c.flags c.value c.reading)
  set_phase = at x has_it ∙ ap (λ k. armed_by c.arm (clock_by k c.flags) (expiry_by k c.flags c.value c.reading)) timer.clock
    where
      at : (x : Object) → HasSetting (kind_over x) → phase_of (object_step x (calls.Settime c)) ≡ phase_by (object_timer x).clock c.flags c.value c.reading c.arm
      at (objects.Posix t) has = refl
      at (objects.Queued t) has = refl
      at (objects.Fd t) has = refl
      at objects.Raw has = absurd (has.0 refl)
      at (objects.Sleeper s) has = absurd (has.1 refl)

-- ---- the start

clock_same : (d present : ClockId) (flags : ℕ) → effective_clock d (mode_by flags) present ≡ clock_by d flags
clock_same d present flags = at d (is_absolute flags)
  where
    at : (c : ClockId) (b : Bool) → effective_clock c (if b then modes.Abs else modes.Rel) present ≡ effective_clock c (if b then modes.Abs else modes.Rel) c
    at clocks.Monotonic true = refl
    at clocks.Monotonic false = refl
    at clocks.Realtime true = refl
    at clocks.Realtime false = refl
    at clocks.Boottime true = refl
    at clocks.Boottime false = refl

expiry_same : (flags ns : ℕ) (clock : ClockId) (reading : ClockReading) → ns ≤ last_time
    → expiry_from (mode_by flags) ns clock reading ≡ (if is_absolute flags then ns else sat (value_of clock reading + ns))
expiry_same flags ns clock reading few = at (is_absolute flags)
  where
    at : (b : Bool) → expiry_from (if b then modes.Abs else modes.Rel) ns clock reading ≡ (if b then ns else sat (value_of clock reading + ns))
    at true = omega (arith, few)
    at false = refl

-- without slack both expiries are one
no_slack : (mode : Mode) (ns : ℕ) (clock : ClockId) (reading : ClockReading) → sat (expiry_from mode ns clock reading + 0) ≡ expiry_from mode ns clock reading
no_slack modes.Abs ns clock reading = omega arith
no_slack modes.Keep ns clock reading = omega arith
no_slack modes.Rel ns clock reading = omega arith

module _ (o : Opening) (v w : KnownOfTimers) (t : ℕ) (d : Decl) (flags value base : ℕ) (reading : ClockReading) (log log' : List Receipt)
    (same : (timer_at o.timers t).declared.clock ≡ d.clock) (few : value ≤ last_time) where
  abbrev set_armed : Arm → Phase
  set_armed arm = armed_by arm (clock_by d.clock flags) (expiry_by d.clock flags value reading)

  -- the timer after a start that a settime wanted
  started_as : (sent : List ℕ) (last : ℕ) (u : Timer) → u.declared.clock ≡ d.clock
      → let now = step_all u (start_on (asked_for (mode_by flags) value 0 base reading) sent last) in
      (now.clock ≡ clock_by d.clock flags) × (now.expires ≡ expiry_by d.clock flags value reading)
  started_as (b ∷ bs) last u declared = started_as bs last (after u (events.Out b)) declared
  started_as [] last u declared =
      let clock = ap (λ c. effective_clock c (mode_by flags) u.clock) declared ∙ clock_same d.clock u.clock flags in
      (clock, no_slack (mode_by flags) value _ reading ∙ expiry_same flags value _ reading few ∙ ap (λ c. if is_absolute flags then value else sat (value_of c reading + value)) clock)

  start_bears : (arm : Arm) (a : StartAnswer) → arm ≡ arm_of a → StartsTimer o v w t (asked_for (mode_by flags) value 0 base reading) a
      → BearsStart o w t arm (set_armed arm)
  start_bears arm (starts.Spent n) e s = subst (λ x. BearsStart o w t x (set_armed x)) (sym e) refl
  start_bears arm (starts.Started was g to outs placement) e s =
      let u = timer_then o s.at t in
      let now = timer_after o v w t s.at _ s.made ∙ along u (start_on (asked_for (mode_by flags) value 0 base reading) s.sent s.last) in
      let set = started_as s.sent s.last u (ap (λ (x : Declared). x.clock) (declared_kept o s.at t) ∙ same) in
      subst (λ x. BearsStart o w t x (set_armed x)) (sym e)
      (ap (λ c. phases.Armed g c (expiry_by d.clock flags value reading)) (sym (ap (λ (x : Timer). x.clock) now ∙ set.0))
      ∙ ap (λ k. phases.Armed g (timer_then o w.seen t).clock k) (sym (ap (λ (x : Timer). x.expires) now ∙ set.1)))

  -- the start of the mode that the flags ask for, where one was wanted
  pub arms_bears : (none : Bool) (arm : Arm) → ArmsFor o v w t (if none then None else Some (record { mode = mode_by flags; ns = value })) base reading arm log log'
      → BearsStart o w t arm (set_armed arm)
  arms_bears true arm a = subst (λ x. BearsStart o w t x (set_armed x)) (sym a.0) refl
  arms_bears false arm a = start_bears arm a.answer a.outcome a.starts
