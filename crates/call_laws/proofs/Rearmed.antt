-- What a call does to its object's timer that may have expired: a start that keeps the timer's clock, or none; as a part of the call, and in the run.
use Rattle.std.proofs.Common.{◌≡◌, ◌≤◌, ℕ, Bool, true, false, if◌then◌else◌, Option, None, Some, List, [], arith, refl, sym, subst}
use Rattle.std.proofs.lemmas.Option.{same_Some}
use Rattle.ktime.specs.Readings.{ClockReading}
use Rattle.ktime.specs.Times.{last_time}
use Rattle.ktime.specs.declared.mode.Mode.TheVariants as modes
use Rattle.base_row.specs.declared.view.Opening.{Opening}
use Rattle.base_row.specs.declared.log.Receipt.{Receipt}
use Rattle.hr_timers.specs.Known.{KnownOfTimers, timer_then}
use Rattle.pass_names.specs.SharedHistory.{LooksOn}
use Rattle.timer_setting.specs.Phases.{next_start}
use Rattle.timer_setting.specs.declared.arming.Arm.TheVariants as arms
use Rattle.timer_setting.specs.declared.arming.Arm.{Arm}
use Rattle.timer_setting.specs.declared.arming.Wanted.{Wanted}
use Rattle.timer_setting.specs.declared.phase.Phase.TheVariants as phases
use Rattle.timer_setting.specs.declared.phase.Phase.{Phase}
use Rattle.timer_objects.specs.Arming.{ArmsFor}
use Rattle.timer_objects.specs.Calls.{BearsRestart, wanted_by}
use Rattle.timer_objects.specs.declared.object.Object.TheVariants as objects
use Rattle.timer_objects.specs.declared.object.Object.{Object}
use Rattle.timer_objects.specs.declared.wanting.Rearming.TheVariants as rearmings
use Rattle.timer_objects.specs.declared.wanting.Rearming.{Rearming}
use Rattle.run_history.specs.Objects.{armed_in_phase}
use Rattle.script_text.specs.declared.script.Call.{Call}
use Rattle.script_text.specs.declared.script.Script.{Script}
use Rattle.lane_notes.specs.Called.{LaneOf}
use Rattle.lane_notes.proofs.Kept.{IsNextCall}
use Rattle.lane_notes.proofs.SeenMore.{begins_same}
use Rattle.lane_notes.specs.Worlds.{WorldOf}
use Rattle.call_laws.proofs.Armed.{IsLike, start_none, start_part, TimerPart}
use Rattle.call_laws.proofs.Parts.{part_none}

-- it keeps the timer's clock, and its time isn't past the end of time
abbrev pub IsTimely : Wanted → Type 0
IsTimely wanted = (wanted.mode ≡ modes.Keep) × (wanted.ns ≤ last_time)

next_timely : (phase : Phase) (interval : ℕ) (reading : ClockReading) (wanted : Wanted) → next_start phase interval reading ≡ Some wanted → IsTimely wanted
next_timely (phases.Expired clock expires) interval reading wanted is = subst IsTimely (same_Some _ wanted is) (refl, omega arith)
next_timely phase interval reading wanted is = absurd (cc)

if_timely : (b : Bool) (o q : Option Wanted) (wanted : Wanted) → (o ≡ Some wanted → IsTimely wanted) → (q ≡ Some wanted → IsTimely wanted)
    → (if b then o else q) ≡ Some wanted → IsTimely wanted
if_timely true o q wanted one other is = one is
if_timely false o q wanted one other is = other is

-- law: the start that a call on an object wants, whose timer may have expired
pub wanted_timely : (r : Rearming) (object : Object) (reading : ClockReading) (wanted : Wanted) → wanted_by r object reading ≡ Some wanted → IsTimely wanted
wanted_timely rearmings.Accepting (objects.Posix t) reading wanted is =
    if_timely _ (next_start t.phase t.interval reading) None wanted (next_timely t.phase t.interval reading wanted) (λ none. absurd (cc)) is
wanted_timely rearmings.Accepting (objects.Queued t) reading wanted is =
    if_timely _ (next_start t.timer.phase t.timer.interval reading) None wanted (next_timely t.timer.phase t.timer.interval reading wanted)
    (λ none. absurd (cc)) is
wanted_timely rearmings.Reading (objects.Fd t) reading wanted is =
    if_timely _ None (next_start t.phase t.interval reading) wanted (λ none. absurd (cc)) (next_timely t.phase t.interval reading wanted) is
wanted_timely rearmings.Getting (objects.Fd t) reading wanted is = next_timely t.phase t.interval reading wanted is
wanted_timely r object reading wanted is = absurd (cc)

-- what such a call did to its timer while it had the object
pub record RearmPart (s : Script) (x : WorldOf) (l : LaneOf) (t : ℕ) (v w : KnownOfTimers) (base : ℕ) (reading : ClockReading) (arm : Arm)
    (log : List Receipt) : Type 0 where
  pub ns : ℕ
  pub timely : ns ≤ last_time
  pub does : TimerPart s x l t v w (Some (record { mode = modes.Keep; ns = ns })) base reading arm None log

-- law: a start that is wanted where the timer has expired, or none, is a part of the call
pub rearm_part : {s : Script} {x : WorldOf} {l : LaneOf} {call : Call} (next : IsNextCall s x l call) (t : ℕ) (reading : ClockReading) {v w : KnownOfTimers}
    {base : ℕ} {log : List Receipt} (wanted : Option Wanted) (arm : Arm) → ((its : Wanted) → wanted ≡ Some its → IsTimely its)
    → LooksOn l.pass.timers.known v → ArmsFor x.timers.about v w t wanted base reading arm [] log → RearmPart s x l t v w base reading arm log
rearm_part {s = s} {x = x} {l = l} next t reading {v = v} {w = w} {base = base} {log = log} None arm timely found r =
    let does = start_none next t reading {begin = v} {cancel = None} [] found.seen found.mine ([], part_none (begins_same refl) refl)
    (Some (record { mode = modes.Keep; ns = 0 })) r.1 r.2 in
    subst (λ a. RearmPart s x l t v w base reading a log) (sym r.0) (record { ns = 0; timely = omega arith; does = does })
rearm_part {s = s} {x = x} {l = l} next t reading {v = v} {w = w} {base = base} {log = log} (Some wanted) arm timely found r =
    let its = timely wanted refl in
    record {
      ns = wanted.ns;
      timely = its.1;
      does = subst (λ k. TimerPart s x l t v w (Some (record { mode = k; ns = wanted.ns })) base reading arm None log) its.0
          (start_part next t reading {cancel = None} [] found.seen found.mine ([], part_none (begins_same refl) refl) r);
    }

-- law: the object's phase after the call has its timer's start
pub like_restart : (o : Opening) (k : KnownOfTimers) (t : ℕ) (arm : Arm) (phase : Phase) → BearsRestart o k t arm phase
    → IsLike false arm (armed_in_phase phase) (timer_then o k.seen t)
like_restart o k t (arms.Armed generation) (phases.Armed armed clock expires) bears = (bears.0, bears.1, λ never. absurd (cc))
like_restart o k t (arms.Armed generation) phase bears = absurd bears
like_restart o k t arm phase bears = tt
