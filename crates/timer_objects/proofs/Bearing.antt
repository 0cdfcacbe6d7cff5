-- A call that arms its object's timer again: it may be made, its reply, and the phase that it leaves.
use Rattle.std.proofs.Common.{arith, refl, sym, subst, ◌≡◌, ◌≢◌, ◌∙◌, ℕ, ◌<◌, Bool, true, false, nat_eq, nat_lt, ◌&&◌, ◌||◌, List}
use Rattle.std.specs.Prelude.{None, if◌then◌else◌}
use Rattle.ktime.specs.Readings.{ClockReading, value_of}
use Rattle.ktime.specs.Times.{next_after}
use Rattle.base_row.specs.declared.view.Opening.{Opening}
use Rattle.hr_timers.specs.Known.{KnownOfTimers}
use Rattle.base_row.specs.declared.log.Receipt.{Receipt}
use Rattle.timer_setting.specs.declared.arming.Arm.{Arm}
use Rattle.timer_setting.specs.declared.arming.Arm.TheVariants as arms
use Rattle.timer_setting.specs.declared.phase.Phase.{Phase}
use Rattle.timer_setting.specs.declared.phase.Phase.TheVariants as phases
use Rattle.timer_setting.specs.Phases.{IsOutcomeOf, next_start, periods_in, rearmed}
use Rattle.timer_setting.specs.declared.answers.AcceptAnswer.TheVariants as acceptances
use Rattle.posix_timer.specs.States.{PosixTimer}
use Rattle.posix_timer.specs.Steps.{overrun_of}
use Rattle.timer_fd.specs.States.{Descriptor, is_canceled}
use Rattle.timer_fd.specs.Steps.{fd_read_answer, left_by}
use Rattle.timer_objects.specs.declared.object.Decl.{Decl}
use Rattle.timer_objects.specs.declared.object.Kind.TheVariants as kinds
use Rattle.timer_objects.specs.declared.object.Object.{Object}
use Rattle.timer_objects.specs.declared.object.Object.TheVariants as objects
use Rattle.timer_setting.specs.declared.object_call.ObjectReply.{ObjectReply}
use Rattle.timer_objects.specs.declared.wanting.Rearming.{Rearming}
use Rattle.timer_objects.specs.declared.wanting.Rearming.TheVariants as rearmings
use Rattle.timer_objects.specs.Steps.{IsObjectOf, ObjectAllows, kind_over, object_answer, object_step, object_timer}
use Rattle.timer_objects.specs.Arming.{ArmsFor}
use Rattle.timer_objects.specs.Calls.{BearsRestart, phase_of, rearming_call, wanted_by}
use Rattle.timer_objects.specs.Rearming.{HasRearming, RepliesTo}
use Rattle.timer_objects.proofs.Restarting.{expiry}

rearming-Raw : (r : Rearming) → HasRearming r kinds.Raw → ⊥
rearming-Raw rearmings.Accepting has = has
rearming-Raw rearmings.Reading e = cc
rearming-Raw rearmings.Getting e = cc

module _ (d : Decl) (limit n : ℕ) (reading : ClockReading) (arm : Arm) where
  has_room : (x : Object) → IsObjectOf d limit n x → d.kind ≢ kinds.Raw → n < limit → (object_timer x).stamp < (object_timer x).limit
  has_room x is other few = omega (arith, (is.timer other).limit, (is.timer other).stamp, few)

  pub allows : (r : Rearming) (x : Object) → IsObjectOf d limit n x → HasRearming r d.kind → n < limit → IsOutcomeOf arm (wanted_by r x reading)
      → ObjectAllows x (rearming_call r reading arm)
  allows r x is k few outcome =
      at r x (subst (HasRearming r) is.kind k) (has_room x is (λ raw. rearming-Raw r (subst (HasRearming r) raw k)) few) outcome
    where
      at : (r : Rearming) (x : Object) → HasRearming r (kind_over x) → (object_timer x).stamp < (object_timer x).limit → IsOutcomeOf arm (wanted_by r x reading)
          → ObjectAllows x (rearming_call r reading arm)
      at rearmings.Accepting (objects.Posix t) k room outcome = (room, outcome)
      at rearmings.Accepting (objects.Queued t) k room outcome = (room, outcome)
      at rearmings.Reading (objects.Fd t) k room outcome = (room, outcome)
      at rearmings.Getting (objects.Fd t) k room outcome = (room, outcome)
      at rearmings.Accepting x k room outcome = absurd k
      at rearmings.Reading x k room outcome = absurd cc
      at rearmings.Getting x k room outcome = absurd cc

  pub replies_to : (r : Rearming) (x : Object) (reply : ObjectReply) → IsObjectOf d limit n x → HasRearming r d.kind
      → reply ≡ object_answer x (rearming_call r reading arm) → RepliesTo r reply
  replies_to r x reply is k e = at r x reply (subst (HasRearming r) is.kind k) e
    where
      unspent : (n : ℕ) (b : Bool) (overrun : ℕ) → (if b then acceptances.Accepted overrun else acceptances.NoSignal) ≡ acceptances.Spent n → ⊥
      unspent n true overrun e = cc
      unspent n false overrun e = cc

      at : (r : Rearming) (x : Object) (reply : ObjectReply) → HasRearming r (kind_over x) → reply ≡ object_answer x (rearming_call r reading arm) → RepliesTo r reply
      at rearmings.Accepting (objects.Posix t) reply k e = (_, e, λ n. unspent n t.pending (overrun_of (periods_in t.phase t.interval reading)))
      at rearmings.Accepting (objects.Queued t) reply k e =
          (_, e, λ n. unspent n t.timer.pending (overrun_of (periods_in t.timer.phase t.timer.interval reading)))
      at rearmings.Reading (objects.Fd t) reply k e = (fd_read_answer t reading, e, λ n f. grind (arith, f), λ f. grind (arith, f))
      at rearmings.Getting (objects.Fd t) reply k e = (left_by arm t reading, t.interval, e)
      at rearmings.Accepting x reply k e = absurd k
      at rearmings.Reading x reply k e = absurd cc
      at rearmings.Getting x reply k e = absurd cc

module _ (o : Opening) (v w : KnownOfTimers) (id base : ℕ) (reading : ClockReading) (arm : Arm) (log log' : List Receipt) where
  bears_none : (phase : Phase) → arm ≡ arms.NotAsked → BearsRestart o w id arm phase
  bears_none phase e = subst (λ a. BearsRestart o w id a phase) (sym e) tt

  -- a timer that has expired and was started again has the generation and the expiry of that start
  bears_expired : (a : Arm) (phase : Phase) (interval : ℕ) → ArmsFor o v w id (next_start phase interval reading) base reading a log log'
      → a ≡ arm → BearsRestart o w id arm (rearmed phase interval reading arm)
  bears_expired a phases.Idle interval started e = bears_none phases.Idle (sym e ∙ started.0)
  bears_expired a (phases.Armed generation clock expires) interval started e = bears_none (phases.Armed generation clock expires) (sym e ∙ started.0)
  bears_expired arms.NotAsked (phases.Expired clock expires) interval started e =
      bears_none (rearmed (phases.Expired clock expires) interval reading arm) (sym e)
  bears_expired (arms.Armed g) (phases.Expired clock expires) interval started e =
      let next = next_after expires (value_of clock reading) interval in
      subst (λ a. BearsRestart o w id a (rearmed (phases.Expired clock expires) interval reading a)) e
      (refl, omega (arith, expiry o v w id next base reading started.answer g started.starts started.outcome))
  bears_expired (arms.Unarmed n) (phases.Expired clock expires) interval started e =
      subst (λ a. BearsRestart o w id a (rearmed (phases.Expired clock expires) interval reading a)) e refl

  module _ (phase : Phase) (interval : ℕ) where
    bears_accept : (b c : Bool) (p q : PosixTimer) → p.phase ≡ rearmed phase interval reading arm
        → ArmsFor o v w id (if b && c then next_start phase interval reading else None) base reading arm log log'
        → BearsRestart o w id arm (if b then p else q).phase
    bears_accept true true p q e started = subst (BearsRestart o w id arm) (sym e) (bears_expired arm phase interval started refl)
    bears_accept true false p q e started = bears_none p.phase started.0
    bears_accept false c p q e started = bears_none q.phase started.0

    bears_read : (b c : Bool) (p q s : Descriptor) → s.phase ≡ rearmed phase interval reading arm
        → ArmsFor o v w id (if b || c then None else next_start phase interval reading) base reading arm log log'
        → BearsRestart o w id arm (if b then p else (if c then q else s)).phase
    bears_read true c p q s e started = bears_none p.phase started.0
    bears_read false true p q s e started = bears_none q.phase started.0
    bears_read false false p q s e started = subst (BearsRestart o w id arm) (sym e) (bears_expired arm phase interval started refl)

  pub bears : (r : Rearming) (x : Object) → ArmsFor o v w id (wanted_by r x reading) base reading arm log log'
      → BearsRestart o w id arm (phase_of (object_step x (rearming_call r reading arm)))
  bears rearmings.Accepting (objects.Posix t) started = bears_accept t.phase t.interval t.pending (nat_lt t.stamp t.limit) _ _ refl started
  bears rearmings.Accepting (objects.Queued t) started =
      bears_accept t.timer.phase t.timer.interval t.timer.pending (nat_lt t.timer.stamp t.timer.limit) _ _ refl started
  bears rearmings.Reading (objects.Fd t) started = bears_read t.phase t.interval (is_canceled t reading) (nat_eq t.count 0) _ _ _ refl started
  bears rearmings.Getting (objects.Fd t) started = bears_expired arm t.phase t.interval started refl
  bears r x started = bears_none _ started.0
