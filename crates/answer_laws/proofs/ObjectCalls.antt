-- A call on an object has one outcome at one moment: of its timer, of its own history, and in the logs.
use Rattle.std.proofs.Common.{◌≡◌, ◌<◌, ℕ, List, [], ◌∷◌, ap, sym, ◌∙◌, subst, refl, length, arith}
use Rattle.std.specs.Prelude.{Option, Some, None, ◌+◌, ◌++◌}
use Rattle.ktime.specs.Readings.{ClockReading}
use Rattle.seq_timer.specs.Histories as seq
use Rattle.seq_timer.specs.declared.system.SystemEntry.{SystemEntry}
use Rattle.timer_setting.specs.declared.arming.Arm.{Arm}
use Rattle.timer_setting.specs.declared.arming.Wanted.{Wanted}
use Rattle.timer_setting.specs.declared.object_call.ObjectCall.{ObjectCall}
use Rattle.timer_setting.specs.declared.object_call.ObjectReply.{ObjectReply}
use Rattle.base_row.specs.Logs.{receipts_of}
use Rattle.base_row.specs.declared.log.Receipt.{Receipt}
use Rattle.base_row.specs.declared.view.Opening.{Opening}
use Rattle.counted_row.specs.declared.view.Entry.{Entry}
use Rattle.hr_timers.specs.Calls.{cancel_entries}
use Rattle.hr_timers.specs.Known.{KnownOfTimers, timer_then}
use Rattle.timer_objects.specs.declared.log.ObjectReceipt.{ObjectReceipt}
use Rattle.timer_objects.specs.declared.object.Object.{Object}
use Rattle.timer_objects.specs.declared.wanting.Rearming.{Rearming}
use Rattle.timer_objects.specs.Arming.{ArmsFor, Disarms, arm_of, asked_by}
use Rattle.timer_objects.specs.Calls.{ArmsAnew, Caller, EntersCall, FindsHistoryFull, LooksAtObject, RearmingMade, rearming_call, wanted_by}
use Rattle.timer_objects.specs.Known.{ObjectsOf, decl_at, seen_of}
use Rattle.timer_objects.specs.Meaning.{object_meaning}
use Rattle.timer_objects.specs.Steps.{object_answer}
use Rattle.answer_laws.specs.Objects.{AreOne, SameWork, anew_at, arm_moment, rearming_at}
use Rattle.answer_laws.specs.Outcomes.{SameOwn, StartMoment}
use Rattle.answer_laws.specs.Rows.{SameOfRow}
use Rattle.answer_laws.proofs.BaseCalls.{some_is}
use Rattle.answer_laws.proofs.Outcomes.{looked_once, own_same}
use Rattle.answer_laws.proofs.RowCalls.{commits_once, reads_once, row_same, state_once}
use Rattle.answer_laws.proofs.TimerCalls.{cancel_once, same_start_entries, start_once}

-- ---- a call's timer

module _ (o : Opening) (v v' w w' : KnownOfTimers) (own : SameOwn v v') (t : ℕ) where
  noted_once : (log log' : List Receipt) (x y : List SystemEntry) (es fs : List seq.Entry) → log ≡ log' → x ≡ y → es ≡ fs
      → log ++ receipts_of t (timer_then o x t).stamp es ≡ log' ++ receipts_of t (timer_then o y t).stamp fs
  noted_once log log' x y es fs e f g =
      ap (λ l. l ++ receipts_of t (timer_then o x t).stamp es) e ∙ (ap (λ z. log' ++ receipts_of t (timer_then o z t).stamp es) f
      ∙ ap (λ l. log' ++ receipts_of t (timer_then o y t).stamp l) g)

  pub disarms_once : (log l l' : List Receipt) (c : Disarms o v w t log l) (d : Disarms o v' w' t log l') → c.cancelled.at ≡ d.cancelled.at
      → (l ≡ l') × SameOwn w w'
  disarms_once log l l' c d e =
      let same = cancel_once o v v' w w' own t c.answer d.answer c.cancelled d.cancelled e in
      (c.receipts ∙ (noted_once log log _ _ _ _ refl e (ap cancel_entries same.0) ∙ sym d.receipts), same.1.own)

  pub arms_once : (base : ℕ) (reading : ClockReading) (k k' : Option Wanted) (arm arm' : Arm) (log log' l l' : List Receipt) → k ≡ k' → log ≡ log'
      → (c : ArmsFor o v w t k base reading arm log l) (d : ArmsFor o v' w' t k' base reading arm' log' l')
      → arm_moment o v w t k base reading arm log l c ≡ arm_moment o v' w' t k' base reading arm' log' l' d → (arm ≡ arm') × (l ≡ l') × SameOwn w w'
  arms_once base reading None None arm arm' log log' l l' e f c d at =
      (c.0 ∙ sym d.0, c.2 ∙ (f ∙ sym d.2), subst (λ z. SameOwn z w') (sym c.1) (subst (SameOwn v) (sym d.1) own))
  arms_once base reading None (Some k) arm arm' log log' l l' e f c d at = absurd cc
  arms_once base reading (Some k) None arm arm' log log' l l' e f c d at = absurd cc
  arms_once base reading (Some k) (Some j) arm arm' log log' l l' e f c d at =
      let asked = ap (λ i. asked_by i base reading) (some_is k j e) in
      let moment = some_is _ _ at in
      let same = start_once o v v' w w' own t (asked_by k base reading) (asked_by j base reading) c.answer d.answer c.starts d.starts asked moment in
      let entries = same_start_entries o v v' w w' own t (asked_by k base reading)
      (asked_by j base reading) c.answer d.answer c.starts d.starts asked moment in (
        c.outcome ∙ (ap arm_of same.0 ∙ sym d.outcome),
        c.receipts ∙ (noted_once log log' _ _ _ _ f (ap (λ (m : StartMoment). m.at) moment) entries ∙ sym d.receipts),
        same.1.own,
      )

-- ---- its entry

abbrev pub entry_of : ℕ → List (Entry ObjectCall ObjectReply) → ObjectCall → ObjectReply → ObjectReceipt
entry_of id before call reply = record { object = id; number = length before + 1; call = call; reply = reply }

module _ (old new new' : Caller) (id : ℕ) where
  pub look_once : (a a' : Object) (n n' : ℕ) → LooksAtObject old new id a n → LooksAtObject old new' id a' n'
      → seen_of new.objects id ≡ seen_of new'.objects id → (a ≡ a') × (n ≡ n') × SameWork new new' id
  look_once a a' n n' c d e =
      let same = reads_once object_meaning old.objects new.objects new'.objects id c.reads d.reads e in (
        c.state ∙ (same.0 ∙ sym d.state),
        c.stamp ∙ (ap length e ∙ sym d.stamp),
        record {
          caller = record {
            timers = looked_once _ _ _ _ (own_same old.timers) c.timers d.timers;
            objects = same.1;
            log = c.log ∙ sym d.log;
            object_log = c.object_log ∙ sym d.object_log;
          };
          entries = e;
        },
      )

module _ (x : ObjectsOf) (o : Opening) (old new new' : Caller) (id : ℕ) where
  pub enters_once : (call call' : ObjectCall) (a a' : ObjectReply) (c : EntersCall x old new id call a) (d : EntersCall x old new' id call' a') → call ≡ call'
      → c.commits.adds.before ≡ d.commits.adds.before → (a ≡ a') × SameOfRow new.objects new'.objects × (new.object_log ≡ new'.object_log)
      × (seen_of new.objects id ≡ seen_of new'.objects id)
  enters_once call call' a a' c d e f =
      let same = commits_once object_meaning old.objects new.objects old.objects new'.objects id call call' (row_same old.objects) e c.commits d.commits f in
      let reply : a ≡ a' = c.reply ∙ (ap (λ s. object_answer s call) same.0 ∙ (ap (object_answer d.commits.state) e ∙ sym d.reply)) in (
        reply,
        same.2,
        c.object_log ∙ (ap (λ l. old.object_log ++ entry_of id l call a ∷ []) f
            ∙ (ap (λ k. old.object_log ++ entry_of id d.commits.adds.before k a ∷ []) e
            ∙ (ap (λ r. old.object_log ++ entry_of id d.commits.adds.before call' r ∷ []) reply ∙ sym d.object_log))),
        same.1,
      )

  pub same_found : (call call' : ObjectCall) (a a' : ObjectReply) (c : EntersCall x old new id call a) (d : EntersCall x old new' id call' a')
      → c.commits.adds.before ≡ d.commits.adds.before → c.commits.state ≡ d.commits.state
  same_found call call' a a' c d e = state_once object_meaning _ _ id _ _ _ _ refl e c.commits.at d.commits.at

  -- ---- looks

  pub full_once : (n n' : ℕ) → FindsHistoryFull x old new id n → FindsHistoryFull x old new' id n' → seen_of new.objects id ≡ seen_of new'.objects id
      → (n ≡ n') × SameWork new new' id
  full_once n n' c d e = (
    c.stamp ∙ (ap length e ∙ sym d.stamp),
    record {
      caller = record {
        timers = looked_once _ _ _ _ (own_same old.timers) c.looks d.looks;
        objects = (reads_once object_meaning old.objects new.objects new'.objects id c.reads d.reads e).1;
        log = c.log ∙ sym d.log;
        object_log = c.object_log ∙ sym d.object_log;
      };
      entries = e;
    },
  )

  pub full_looked : (a : Object) (n n' : ℕ) → FindsHistoryFull x old new id n → LooksAtObject old new' id a n' → n' < x.limit
      → seen_of new.objects id ≡ seen_of new'.objects id → ⊥
  full_looked a n n' c d few e = omega (arith, c.full, c.stamp, d.stamp, few, ap length e)

  pub full_made : (call : ObjectCall) (a : ObjectReply) (n : ℕ) → FindsHistoryFull x old new id n → (d : EntersCall x old new' id call a)
      → seen_of new.objects id ≡ d.commits.adds.before → ⊥
  full_made call a n c d e = omega (arith, c.full, c.stamp, d.room, ap length e)

  pub looked_made : (call : ObjectCall) (object : Object) (a : ObjectReply) (n : ℕ) → LooksAtObject old new id object n
      → (d : EntersCall x old new' id call a)
      → seen_of new.objects id ≡ d.commits.adds.before → object ≡ d.commits.state
  looked_made call object a n c d e = c.state ∙ state_once object_meaning _ _ id _ _ _ _ refl e c.reads.at d.commits.at

  -- ---- whole calls

  pub anew_once : (call : Arm → ObjectCall) (wanted : Option Wanted) (reading : ClockReading) (a a' : ObjectReply)
      (c : ArmsAnew x o old new id call wanted reading a) (d : ArmsAnew x o old new' id call wanted reading a')
      → AreOne (anew_at x o old new id call wanted reading a c) (anew_at x o old new' id call wanted reading a' d) → (a ≡ a') × SameWork new new' id
  anew_once call wanted reading a a' c d at =
      let begun = looked_once _ _ _ _ (own_same old.timers) c.turn.begins.looks d.turn.begins.looks in
      let disarmed = disarms_once o c.begun d.begun c.disarmed d.disarmed begun id old.log c.cancel_log d.cancel_log c.disarms d.disarms at.1 in
      let armed = arms_once o c.disarmed d.disarmed c.worked d.worked disarmed.1 id
      (decl_at x id).base reading wanted wanted c.arm d.arm c.cancel_log d.cancel_log
      new.log new'.log refl disarmed.0 c.arms d.arms at.2 in
      let entered = enters_once (call c.arm) (call d.arm) a a' c.enters d.enters (ap call armed.0) at.0 in (
        entered.0,
        record {
          caller = record {
            timers = looked_once _ _ _ _ armed.2 c.turn.ends.looks d.turn.ends.looks;
            objects = entered.1;
            log = armed.1;
            object_log = entered.2;
          };
          entries = entered.3;
        },
      )

  pub rearmed_once : (r : Rearming) (reading : ClockReading) (a a' : ObjectReply) (c : RearmingMade x o old new id r reading a)
      (d : RearmingMade x o old new' id r reading a') → AreOne (rearming_at x o old new id r reading a c) (rearming_at x o old new' id r reading a' d)
      → (a ≡ a') × SameWork new new' id
  rearmed_once r reading a a' c d at =
      let found = same_found (rearming_call r reading c.arm) (rearming_call r reading d.arm) a a' c.enters d.enters at.0 in
      let begun = looked_once _ _ _ _ (own_same old.timers) c.turn.begins.looks d.turn.begins.looks in
      let armed = arms_once o c.begun d.begun c.worked d.worked begun id (decl_at x id).base reading (wanted_by r c.enters.commits.state reading)
      (wanted_by r d.enters.commits.state reading) c.arm d.arm old.log old.log new.log new'.log
      (ap (λ s. wanted_by r s reading) found) refl c.arms d.arms at.2 in
      let entered = enters_once (rearming_call r reading c.arm) (rearming_call r reading d.arm) a a' c.enters d.enters
      (ap (rearming_call r reading) armed.0) at.0 in (
        entered.0,
        record {
          caller = record {
            timers = looked_once _ _ _ _ armed.2 c.turn.ends.looks d.turn.ends.looks;
            objects = entered.1;
            log = armed.1;
            object_log = entered.2;
          };
          entries = entered.3;
        },
      )
