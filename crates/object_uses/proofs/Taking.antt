-- What an acceptance and a read take.
use Rattle.std.proofs.Common.{◌≡◌, ℕ, ◌+◌, length, length-append, ap, sym, ◌∙◌, refl}
use Rattle.std.specs.Prelude.{Bool, true, false, Option, Some, None, nat_eq, unwrap_or, if◌then◌else◌}
use Rattle.std.proofs.lemmas.Option.{none-some}
use Rattle.ktime.specs.Readings.{ClockReading}
use Rattle.timer_setting.specs.declared.arming.Arm.{Arm}
use Rattle.timer_setting.specs.Phases.{periods_in}
use Rattle.timer_setting.specs.declared.answers.AcceptAnswer.{AcceptAnswer}
use Rattle.timer_setting.specs.declared.answers.AcceptAnswer.TheVariants as acceptances
use Rattle.timer_setting.specs.declared.answers.ReadAnswer.{ReadAnswer}
use Rattle.timer_setting.specs.declared.answers.ReadAnswer.TheVariants as reads
use Rattle.timer_setting.specs.declared.object_call.ObjectCall.{ObjectCall}
use Rattle.timer_setting.specs.declared.object_call.ObjectCall.TheVariants as calls
use Rattle.timer_setting.specs.declared.object_call.ObjectReply.{ObjectReply}
use Rattle.timer_setting.specs.declared.object_call.ObjectReply.TheVariants as replies
use Rattle.posix_timer.specs.States.{PosixTimer}
use Rattle.posix_timer.specs.Steps.{overrun_of}
use Rattle.timer_fd.specs.States.{Descriptor, is_canceled}
use Rattle.timer_fd.specs.Steps.{total_in}
use Rattle.base_row.specs.declared.view.Opening.{Opening}
use Rattle.counted_row.specs.Calls.{Commits}
use Rattle.timer_objects.specs.BlockingReads.{ReadsBlocking}
use Rattle.timer_objects.specs.declared.answers.BlockingRead.{BlockingRead}
use Rattle.timer_objects.specs.declared.answers.BlockingRead.TheVariants as blocking
use Rattle.timer_objects.specs.declared.object.Object.{Object}
use Rattle.timer_objects.specs.declared.object.Object.TheVariants as objects
use Rattle.timer_objects.specs.declared.wanting.Rearming.{Rearming}
use Rattle.timer_objects.specs.declared.wanting.Rearming.TheVariants as rearmings
use Rattle.timer_objects.specs.Calls.{Accepts, Caller, RearmingMade, ReadsFd}
use Rattle.timer_objects.specs.Meaning.{object_meaning}
use Rattle.timer_objects.specs.Known.{ObjectsOf, ObjectsPass}
use Rattle.timer_objects.specs.Steps.{object_answer}
use Rattle.object_uses.specs.Callers.{AcceptFits, EndsWith, HasCounted, HasSignal, ReadFits, TakesCount, GetsSignal, WaitFits}

-- the number that a reply has
abbrev number_in : ObjectReply → Option ℕ
number_in (replies.Accept (acceptances.Accepted overrun)) = Some overrun
number_in (replies.Read (reads.Count total)) = Some total
number_in reply = None

module _ (reading : ClockReading) (arm : Arm) (n : ℕ) where
  signal_by : (t : PosixTimer) (b : Bool) → t.pending ≡ b
      → Some n ≡ number_in (replies.Accept (if b then acceptances.Accepted (overrun_of (periods_in t.phase t.interval reading)) else acceptances.NoSignal))
      → (t.pending ≡ true) × (n ≡ overrun_of (periods_in t.phase t.interval reading))
  signal_by t true is e = (is, ap (λ m. unwrap_or m 0) e)
  signal_by t false is e = absurd (none-some n (sym e))

  signal_of : (object : Object) → Some n ≡ number_in (object_answer object (calls.Accept reading arm))
      → HasSignal object reading n
  signal_of objects.Raw e = absurd (none-some n (sym e))
  signal_of (objects.Posix t) e = let by = signal_by t t.pending refl e in record { timer = t; is = refl; pending = by.0; overrun = by.1 }
  signal_of (objects.Fd t) e = absurd (none-some n (sym e))
  signal_of (objects.Sleeper t) e = absurd (none-some n (sym e))
  signal_of (objects.Queued t) e =
      let by = signal_by t.timer t.timer.pending refl e in record { timer = t.timer; is = refl; pending = by.0; overrun = by.1 }

  count_by : (t : Descriptor) (off none nil : Bool) (a b c : Descriptor) → c.count ≡ 0
      → Some n ≡ number_in (replies.Read (if off then reads.Canceled else (if none then reads.Again else (if nil then reads.Again
      else reads.Count (total_in t reading)))))
      → (n ≡ total_in t reading) × ((if off then a else (if none then b else c)).count ≡ 0)
  count_by t true none nil a b c z e = absurd (none-some n (sym e))
  count_by t false true nil a b c z e = absurd (none-some n (sym e))
  count_by t false false true a b c z e = absurd (none-some n (sym e))
  count_by t false false false a b c z e = (ap (λ m. unwrap_or m 0) e, z)

  count_of : (object : Object) → Some n ≡ number_in (object_answer object (calls.Read reading arm))
      → HasCounted object (calls.Read reading arm) reading n
  count_of objects.Raw e = absurd (none-some n (sym e))
  count_of (objects.Posix t) e = absurd (none-some n (sym e))
  count_of (objects.Sleeper t) e = absurd (none-some n (sym e))
  count_of (objects.Queued t) e = absurd (none-some n (sym e))
  count_of (objects.Fd t) e =
      let by = count_by t (is_canceled t reading) (nat_eq t.count 0) (nat_eq (total_in t reading) 0) _ _ _ refl e in record {
        arm = arm;
        is_read = refl;
        descriptor = t;
        is = refl;
        total = by.0;
        left = by.1;
      }

abbrev ends_with : (p q : ObjectsPass) (id : ℕ) (call : ObjectCall) (commits : Commits object_meaning p q id call)
    → EndsWith p q id
ends_with p q id call commits = record {
  state = commits.state;
  entry = record { call = call; reply = object_meaning.reply commits.state call };
  before = commits.adds.before;
  seen = commits.adds.begins;
  at = commits.at;
  last = commits.adds.last;
}

module _ (x : ObjectsOf) (o : Opening) (old new : Caller) (id : ℕ) (reading : ClockReading) (n : ℕ) where
  takes_signal : RearmingMade x o old new id rearmings.Accepting reading (replies.Accept (acceptances.Accepted n))
      → GetsSignal old.objects new.objects id reading n
  takes_signal made = record { ends = ends_with _ _ _ _ made.enters.commits; had = signal_of reading made.arm n _ (ap number_in made.enters.reply) }

  takes_count : RearmingMade x o old new id rearmings.Reading reading (replies.Read (reads.Count n))
      → TakesCount old.objects new.objects id reading n
  takes_count made = record { ends = ends_with _ _ _ _ made.enters.commits; had = count_of reading made.arm n _ (ap number_in made.enters.reply) }

  adds_one : (r : Rearming) (reply : ObjectReply) → RearmingMade x o old new id r reading reply
      → length new.objects.knows.pass.mine ≡ length old.objects.knows.pass.mine + 1
  adds_one r reply made = ap length made.enters.commits.adds.mine ∙ length-append old.objects.knows.pass.mine _

module _ (x : ObjectsOf) (o : Opening) (old new : Caller) (id : ℕ) (reading : ClockReading) where
  pub accept_fits : (a : AcceptAnswer) → Accepts x o old new id reading a → AcceptFits old.objects new.objects id reading a
  accept_fits (acceptances.Accepted n) made = takes_signal x o old new id reading n made
  accept_fits acceptances.NoSignal made = adds_one x o old new id reading 0 _ _ made
  accept_fits (acceptances.Spent n) full = (full.stamp, full.reads.pass.mine)

  pub read_fits : (len : ℕ) (a : ReadAnswer) → ReadsFd x o old new id len reading a → ReadFits old.objects new.objects id reading a
  read_fits len (reads.Count n) made = takes_count x o old new id reading n made.1
  read_fits len reads.ShortBuffer short = ap (λ (c : Caller). c.objects) short.1
  read_fits len (reads.Spent n) full = (full.1.stamp, full.1.reads.pass.mine)
  read_fits len reads.Canceled made = adds_one x o old new id reading 0 _ _ made.1
  read_fits len reads.Again made = adds_one x o old new id reading 0 _ _ made.1

  pub wait_fits : (len : ℕ) (a : BlockingRead) → ReadsBlocking x o old new id len reading a → WaitFits old.objects new.objects id reading a
  wait_fits len (blocking.Count n) read = (read.1, takes_count x o old new id reading n read.2.made)
  wait_fits len blocking.Zero read = adds_one x o old new id reading 0 _ _ read.1.made
  wait_fits len blocking.ShortBuffer short = ap (λ (c : Caller). c.objects) short.1
  wait_fits len (blocking.Spent n) full = (full.1.stamp, full.1.reads.pass.mine)
  wait_fits len blocking.Canceled read = adds_one x o old new id reading 0 _ _ read.1.made
