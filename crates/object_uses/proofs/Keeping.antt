-- What calls leave of the passes by which they are made.
use Rattle.std.proofs.Common.{◌≡◌, ℕ, List, sym, subst, refl}
use Rattle.std.specs.Prelude.{Option, Some, None, MatchOption}
use Rattle.ktime.specs.Readings.{ClockReading}
use Rattle.pass_names.specs.Passes.{Begins}
use Rattle.pass_names.specs.SharedHistory.{LooksOn}
use Rattle.pass_names.proofs.Passes.{begins_refl, begins_trans}
use Rattle.seq_timer.specs.Histories as seq
use Rattle.seq_timer.specs.declared.system.SystemEntry.{SystemEntry}
use Rattle.base_row.specs.declared.view.Opening.{Opening}
use Rattle.hr_timers.specs.Known.{KnownOfTimers, MadeAt}
use Rattle.hr_timers.specs.Handlers.{KeepsPass}
use Rattle.base_row.specs.declared.log.Receipt.{Receipt}
use Rattle.hr_timers.proofs.ExpiryTurns.{keeps_trans}
use Rattle.timer_setting.specs.declared.arming.Arm.{Arm}
use Rattle.timer_setting.specs.declared.arming.Wanted.{Wanted}
use Rattle.timer_setting.specs.declared.answers.SettimeAnswer.{SettimeAnswer}
use Rattle.timer_setting.specs.declared.answers.SettimeAnswer.TheVariants as settings
use Rattle.timer_setting.specs.declared.answers.AcceptAnswer.{AcceptAnswer}
use Rattle.timer_setting.specs.declared.answers.AcceptAnswer.TheVariants as acceptances
use Rattle.timer_setting.specs.declared.answers.ReadAnswer.{ReadAnswer}
use Rattle.timer_setting.specs.declared.answers.ReadAnswer.TheVariants as reads
use Rattle.timer_setting.specs.declared.answers.InterruptAnswer.{InterruptAnswer}
use Rattle.timer_setting.specs.declared.answers.InterruptAnswer.TheVariants as interrupts
use Rattle.timer_setting.specs.declared.answers.SleepAnswer.{SleepAnswer}
use Rattle.timer_setting.specs.declared.answers.SleepAnswer.TheVariants as sleeps
use Rattle.timer_setting.specs.declared.object_call.ObjectCall.{ObjectCall}
use Rattle.timer_setting.specs.declared.object_call.ObjectReply.{ObjectReply}
use Rattle.timer_objects.specs.declared.object.Object.{Object}
use Rattle.timer_objects.specs.declared.wanting.Rearming.{Rearming}
use Rattle.timer_objects.specs.Arming.{ArmsFor}
use Rattle.timer_objects.specs.BlockingReads.{ReadsBlocking}
use Rattle.timer_objects.specs.declared.answers.BlockingRead.{BlockingRead}
use Rattle.timer_objects.specs.declared.answers.BlockingRead.TheVariants as blocking
use Rattle.timer_objects.specs.Calls.{Accepts, ArmsAnew, Caller, FindsHistoryFull, Interrupts, LooksAtObject, RearmingMade, ReadsFd, SettimeMade, SleepMade}
use Rattle.timer_objects.specs.Known.{ObjectsOf}
use Rattle.timer_objects.specs.Turns.{HasTurn}
use Rattle.timer_objects.proofs.Lending.{keeps_added, keeps_read, keeps_same}
use Rattle.object_uses.specs.Callers.{KeepsBoth}

pub keeps_looks : (v w : KnownOfTimers) → LooksOn v w → KeepsPass v w
keeps_looks v w looks = record {
  id = looks.id;
  claims = looks.claims;
  seen = looks.seen;
  mine = subst (λ m. Begins v.mine m) (sym looks.mine) (begins_refl v.mine);
}

keeps_made : (v w : KnownOfTimers) (t : ℕ) (x : List SystemEntry) (es : List seq.Entry) → MadeAt v w t x es → w.claims ≡ v.claims → KeepsPass v w
keeps_made v w t x es made claims =
    record { id = made.id; claims = claims; seen = begins_trans made.from made.seen; mine = record { rest = _; whole = made.mine } }

keeps_armed : (o : Opening) (v w : KnownOfTimers) (t : ℕ) (wanted : Option Wanted) (base : ℕ) (reading : ClockReading) (arm : Arm) (log log' : List Receipt)
    → ArmsFor o v w t wanted base reading arm log log' → KeepsPass v w
keeps_armed o v w t None base reading arm log log' arms =
    subst (λ (k : KnownOfTimers). KeepsPass v k) (sym arms.1) (record { id = refl; claims = refl; seen = begins_refl v.seen; mine = begins_refl v.mine })
keeps_armed o v w t (Some wanted) base reading arm log log' starts = keeps_made v w t starts.starts.at _ starts.starts.made starts.starts.claims

-- what a call leaves that has a turn of an object, where what it did in that left it so
keeps_turn : {id n : ℕ} {old begun worked new : KnownOfTimers} → HasTurn id n old begun worked new → KeepsPass begun worked → KeepsPass old new
keeps_turn {id} {n} {old} {begun} {worked} {new} turn keeps =
    keeps_trans old begun new (keeps_looks old begun turn.begins.looks) (keeps_trans begun worked new keeps (keeps_looks worked new turn.ends.looks))

module _ (x : ObjectsOf) (o : Opening) (old new : Caller) (id : ℕ) where
  keeps_anew : {call : Arm → ObjectCall} {wanted : Option Wanted} {reading : ClockReading} {reply : ObjectReply}
      → ArmsAnew x o old new id call wanted reading reply → KeepsBoth old new
  keeps_anew {wanted = wanted} {reading = reading} sets =
      let off = sets.disarms.cancelled in (
        keeps_turn sets.turn (keeps_trans sets.begun sets.disarmed sets.worked (keeps_made sets.begun sets.disarmed id off.at _ off.made off.claims)
            (keeps_armed o sets.disarmed sets.worked id wanted _ reading sets.arm sets.cancel_log new.log sets.arms)),
        keeps_added old.objects new.objects id _ sets.enters.commits.adds,
      )

  pub keeps_looked : {object : Object} {n : ℕ} → LooksAtObject old new id object n → KeepsBoth old new
  keeps_looked looks = (keeps_looks old.timers new.timers looks.timers, keeps_read old.objects new.objects looks.reads.pass)

  pub keeps_full : (n : ℕ) → FindsHistoryFull x old new id n → KeepsBoth old new
  keeps_full n full = (keeps_looks old.timers new.timers full.looks, keeps_read old.objects new.objects full.reads.pass)

  pub keeps_none : new ≡ old → KeepsBoth old new
  keeps_none same = subst (λ (c : Caller). KeepsBoth old c) (sym same)
      (record { id = refl; claims = refl; seen = begins_refl old.timers.seen; mine = begins_refl old.timers.mine }, keeps_same old.objects)

  keeps_slept : (flags time : ℕ) (reading : ClockReading) (a : SleepAnswer) → SleepMade x o old new id flags time reading a → KeepsBoth old new
  keeps_slept flags time reading sleeps.BadFlags made = absurd made
  keeps_slept flags time reading sleeps.BadTime made = absurd made
  keeps_slept flags time reading (sleeps.Spent n) made = keeps_full n made
  keeps_slept flags time reading (sleeps.Occupied n) made = keeps_looked made.1
  keeps_slept flags time reading a made = keeps_anew made

  pub keeps_sleep : (refusal : Option SleepAnswer) (flags time : ℕ) (reading : ClockReading) (a : SleepAnswer)
      → MatchOption refusal (SleepMade x o old new id flags time reading a) (λ r. (a ≡ r) × (new ≡ old)) → KeepsBoth old new
  keeps_sleep None flags time reading a made = keeps_slept flags time reading a made
  keeps_sleep (Some r) flags time reading a refused = keeps_none refused.1

  pub keeps_interrupt : (reading : ClockReading) (a : InterruptAnswer) → Interrupts x o old new id reading a → KeepsBoth old new
  keeps_interrupt reading (interrupts.Spent n) made = keeps_full n made
  keeps_interrupt reading (interrupts.Awake n) made = keeps_looked made.1
  keeps_interrupt reading a made = keeps_anew made

module _ (x : ObjectsOf) (o : Opening) (old new : Caller) (id flags value interval : ℕ) (reading : ClockReading) where
  pub keeps_settime : (a : SettimeAnswer) → SettimeMade x o old new id flags value interval reading a → KeepsBoth old new
  keeps_settime (settings.Spent n) made = keeps_full x o old new id n made
  keeps_settime (settings.Old left was) made = keeps_anew x o old new id made
  keeps_settime (settings.Unarmed n) made = keeps_anew x o old new id made
  keeps_settime settings.Canceled made = keeps_anew x o old new id made
  keeps_settime settings.BadFlags made = absurd made
  keeps_settime settings.BadTime made = absurd made

  pub keeps_unless : (refusal : Option SettimeAnswer) (a : SettimeAnswer)
      → MatchOption refusal (SettimeMade x o old new id flags value interval reading a) (λ r. (a ≡ r) × (new ≡ old)) → KeepsBoth old new
  keeps_unless None a made = keeps_settime a made
  keeps_unless (Some r) a refused = keeps_none x o old new id refused.1

  pub keeps_call : (r : Rearming) (reply : ObjectReply) → RearmingMade x o old new id r reading reply → KeepsBoth old new
  keeps_call r reply made = (
    keeps_turn made.turn (keeps_armed o made.begun made.worked id _ _ reading made.arm old.log new.log made.arms),
    keeps_added old.objects new.objects id _ made.enters.commits.adds,
  )

  pub keeps_accept : (a : AcceptAnswer) → Accepts x o old new id reading a → KeepsBoth old new
  keeps_accept (acceptances.Spent n) full = keeps_full x o old new id n full
  keeps_accept (acceptances.Accepted overrun) made = keeps_call _ _ made
  keeps_accept acceptances.NoSignal made = keeps_call _ _ made

  pub keeps_read_fd : (len : ℕ) (a : ReadAnswer) → ReadsFd x o old new id len reading a → KeepsBoth old new
  keeps_read_fd len reads.ShortBuffer short = keeps_none x o old new id short.1
  keeps_read_fd len (reads.Spent n) full = keeps_full x o old new id n full.1
  keeps_read_fd len (reads.Count total) made = keeps_call _ _ made.1
  keeps_read_fd len reads.Canceled made = keeps_call _ _ made.1
  keeps_read_fd len reads.Again made = keeps_call _ _ made.1

  pub keeps_wait : (len : ℕ) (a : BlockingRead) → ReadsBlocking x o old new id len reading a → KeepsBoth old new
  keeps_wait len blocking.ShortBuffer short = keeps_none x o old new id short.1
  keeps_wait len (blocking.Spent n) full = keeps_full x o old new id n full.1
  keeps_wait len (blocking.Count total) read = keeps_call _ _ read.2.made
  keeps_wait len blocking.Zero read = keeps_call _ _ read.1.made
  keeps_wait len blocking.Canceled read = keeps_call _ _ read.1.made
