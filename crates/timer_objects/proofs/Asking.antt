-- A call that makes an entry and may start its object's timer before that, in one turn of the object.
use Rattle.std.proofs.Common.{refl, sym, subst, false, ◌≡◌, ℕ, ◌<◌, List, [], ◌∷◌, ◌++◌, length}
use Rattle.ktime.specs.Readings.{ClockReading}
use Rattle.base_row.specs.declared.view.Opening.{Opening}
use Rattle.hr_timers.specs.Known.{KnownOfTimers}
use Rattle.base_row.specs.declared.log.Receipt.{Receipt}
use Rattle.timer_setting.specs.declared.arming.Arm.{Arm}
use Rattle.timer_setting.specs.Phases.{IsOutcomeOf}
use Rattle.counted_row.specs.declared.view.Locked.{Locked}
use Rattle.counted_row.specs.Views.{IsPassOfRow, Locks}
use Rattle.timer_objects.specs.declared.log.ObjectReceipt.{ObjectReceipt}
use Rattle.timer_objects.specs.declared.object.Decl.{Decl}
use Rattle.timer_objects.specs.declared.object.Object.{Object}
use Rattle.timer_setting.specs.declared.object_call.ObjectCall.{ObjectCall}
use Rattle.timer_setting.specs.declared.object_call.ObjectReply.{ObjectReply}
use Rattle.timer_objects.specs.declared.anew.Anew.{Anew}
use Rattle.timer_objects.specs.declared.anew.EndedAnew.TheVariants as endings
use Rattle.timer_objects.specs.declared.wanting.Rearming.{Rearming}
use Rattle.timer_objects.specs.declared.wanting.Ended.{Ended}
use Rattle.timer_objects.specs.declared.wanting.Ended.TheVariants as ends
use Rattle.timer_objects.specs.Steps.{IsObjectOf, ObjectAllows}
use Rattle.timer_objects.specs.Meaning.{object_meaning}
use Rattle.timer_objects.specs.Known.{EntersObjectCall, HoldsObject, IsObjectsPass, ObjectsOf, ObjectsPass, Suits, decl_at, receipt_of, row_of}
use Rattle.timer_objects.specs.Arming.{ArmsFor, Disarms}
use Rattle.timer_objects.specs.Calls.{Caller, HasWaited, RearmingMade, rearming_call, wanted_by}
use Rattle.timer_objects.specs.Turns.{HasTurn}
use Rattle.timer_objects.specs.Anew.{EndsAnew, IsValidAnew, RepliesAnew, anew_call, anew_reading, anew_wanted, refuses}
use Rattle.timer_objects.specs.Rearming.{Ends, EndsAt, KeepsNames, MakesEntry, HasRearming}
use Rattle.timer_objects.proofs.Bearing.{allows, bears, replies_to}
use Rattle.timer_objects.proofs.Entering.{commits, enters_call, stamp_before}
use Rattle.timer_objects.proofs.Retrying.{arms_names, enters_after, turn_after, turn_names}
use Rattle.timer_objects.proofs.AnewCalls.{bears_anew, may_anew, replies_anew}

module _ (x : ObjectsOf) (id : ℕ) (h : Locked Object) (index : h.index ≡ id) (holds : HoldsObject x h) where
  abbrev d : Decl
  d = decl_at x id

  holds_it : IsObjectOf d x.limit h.stamp h.state
  holds_it = subst (λ i. IsObjectOf (decl_at x i) x.limit h.stamp h.state) index holds

  module _ (room : h.stamp < x.limit) (arm : Arm) where
    pub may_rearm : (r : Rearming) (reading : ClockReading) → HasRearming r d.kind → IsOutcomeOf arm (wanted_by r h.state reading)
        → ObjectAllows h.state (rearming_call r reading arm)
    may_rearm r reading kind outcome = allows d x.limit h.stamp reading arm r h.state holds_it kind room outcome

    pub may_arm : (call : Anew) → IsValidAnew d.kind call → refuses call h.state ≡ false → IsOutcomeOf arm (anew_wanted d.clock call)
        → ObjectAllows h.state (anew_call call arm)
    may_arm call valid taken outcome = may_anew d x.limit h.stamp h.state holds_it call arm valid taken room outcome

  module _ (o : Opening) (u v w z : KnownOfTimers) (p m q : ObjectsPass) (arm : Arm) (log log' : List Receipt) (olog olog' : List ObjectReceipt)
      (reply : ObjectReply) (room : h.stamp < x.limit) (row : IsPassOfRow (row_of x) m) (locks : Locks object_meaning p m id h)
      (isq : IsObjectsPass x q) (turn : HasTurn id h.stamp u v w z) where
    abbrev begun : Caller
    begun = record { timers = u; objects = p; log = log; object_log = olog }

    abbrev done : Caller
    done = record { timers = z; objects = q; log = log'; object_log = olog' }

    -- its turn, by the number of entries before its own
    turn_at : {call : ObjectCall} (e : EntersObjectCall m q h call reply) → HasTurn id (length (commits x p m q id h call reply locks row isq e).adds.before) u v w z
    turn_at {call} e = subst (λ n. HasTurn id n u v w z) (sym (stamp_before x p m q id h call reply locks row isq e)) turn

    -- law: a call that arms the timer again was made
    pub rearms : (r : Rearming) (reading : ClockReading) → HasRearming r d.kind
        → ArmsFor o v w id (wanted_by r h.state reading) d.base reading arm log log' → EntersObjectCall m q h (rearming_call r reading arm) reply
        → olog' ≡ olog ++ receipt_of h (rearming_call r reading arm) ∷ []
        → (made : MakesEntry x o begun done id r reading reply) × (made.0.enters.commits.state ≡ h.state)
    rearms r reading kind armed e noted = (
      (
        record {
          arm = arm;
          enters = enters_call x p m q id h _ reply locks row isq e begun done refl refl room noted;
          begun = v;
          worked = w;
          turn = turn_at e;
          arms = armed;
          bears = bears o v w id d.base reading arm log log' r h.state armed;
        },
        replies_to d x.limit h.stamp reading arm r h.state reply holds_it kind e.reply,
      ),
      refl,
    )

    -- law: a call that arms the timer anew was made
    pub anews_made : (call : Anew) → Suits x o → id < length x.decls → IsValidAnew d.kind call → refuses call h.state ≡ false
        → (disarmed : KnownOfTimers) (cancel_log : List Receipt) → Disarms o v disarmed id log cancel_log
        → ArmsFor o disarmed w id (anew_wanted d.clock call) d.base (anew_reading call) arm cancel_log log'
        → EntersObjectCall m q h (anew_call call arm) reply → olog' ≡ olog ++ receipt_of h (anew_call call arm) ∷ []
        → EndsAnew x o begun done id call (endings.Made reply)
    anews_made call suits within valid taken disarmed cancel_log disarms arms e noted = (
      record {
        arm = arm;
        enters = enters_call x p m q id h (anew_call call arm) reply locks row isq e begun done refl refl room noted;
        begun = v;
        worked = w;
        turn = turn_at e;
        disarmed = disarmed;
        cancel_log = cancel_log;
        disarms = disarms;
        arms = arms;
        bears = bears_anew d x.limit h.stamp h.state holds_it o disarmed w id d.base cancel_log log' (suits.clocks id within) call arm valid arms;
      },
      subst (RepliesAnew call) (sym e.reply) (replies_anew d x.limit h.stamp h.state holds_it call arm valid taken),
    )

-- a call that found this object ends
pub ends_at : (x : ObjectsOf) (o : Opening) (old new : Caller) (id : ℕ) (r : Rearming) (reading : ClockReading) (e : Ended) (object : Object)
    → EndsAt x o old new id r reading e object → Ends x o old new id r reading e
ends_at x o old new id r reading (ends.Full n) object full = full
ends_at x o old new id r reading (ends.Made n reply) object made = (made.0, made.2)

-- ---- turns that only looked

-- an entry behind looks
abbrev pub rearming_after : (x : ObjectsOf) (o : Opening) (a b c : Caller) (id : ℕ) (r : Rearming) (reading : ClockReading) (reply : ObjectReply)
    → HasWaited a b → RearmingMade x o b c id r reading reply → RearmingMade x o a c id r reading reply
rearming_after x o a b c id r reading reply waits m = record {
  arm = m.arm;
  enters = enters_after waits m.enters;
  begun = m.begun;
  worked = m.worked;
  turn = turn_after waits.timers m.turn;
  arms = subst (λ l. ArmsFor o m.begun m.worked id (wanted_by r m.enters.commits.state reading) (decl_at x id).base reading m.arm l c.log) waits.log m.arms;
  bears = m.bears;
}

-- ---- names

pub ends_names : (x : ObjectsOf) (o : Opening) (old new : Caller) (id : ℕ) (r : Rearming) (reading : ClockReading) (e : Ended) → Ends x o old new id r reading e
    → KeepsNames old new
ends_names x o old new id r reading (ends.Full n) found = record { timers = found.looks.id; claims = found.looks.claims; objects = found.reads.pass.id }
ends_names x o old new id r reading (ends.Made n reply) made =
    let m = made.0.0 in
    let names = arms_names o m.begun m.worked id _ reading m.arm _ _ _ m.arms in
    let kept = turn_names m.turn names.0 names.1 in
    record { timers = kept.0; claims = kept.1; objects = m.enters.commits.adds.id }
