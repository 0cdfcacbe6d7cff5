-- A settime, a sleep and an interrupt have one answer at one moment.
use Rattle.std.proofs.Common.{◌≡◌, ℕ, ap, sym, ◌∙◌, subst, refl, true}
use Rattle.std.specs.Prelude.{not}
use Rattle.std.proofs.lemmas.Bool.{true≢false}
use Rattle.ktime.specs.Readings.{ClockReading}
use Rattle.timer_setting.specs.declared.answers.InterruptAnswer.{InterruptAnswer}
use Rattle.timer_setting.specs.declared.answers.InterruptAnswer.TheVariants as interrupts
use Rattle.timer_setting.specs.declared.answers.SettimeAnswer.{SettimeAnswer}
use Rattle.timer_setting.specs.declared.answers.SettimeAnswer.TheVariants as settings
use Rattle.timer_setting.specs.declared.answers.SleepAnswer.{SleepAnswer}
use Rattle.timer_setting.specs.declared.answers.SleepAnswer.TheVariants as sleeps
use Rattle.timer_setting.specs.declared.arming.Arm.{Arm}
use Rattle.timer_setting.specs.declared.object_call.ObjectReply.{ObjectReply}
use Rattle.timer_setting.specs.declared.object_call.ObjectReply.TheVariants as replies
use Rattle.base_row.specs.declared.view.Opening.{Opening}
use Rattle.timer_objects.specs.declared.anew.Anew.{Anew}
use Rattle.timer_objects.specs.declared.anew.Anew.TheVariants as anews
use Rattle.timer_objects.specs.declared.anew.EndedAnew.{EndedAnew}
use Rattle.timer_objects.specs.declared.anew.EndedAnew.TheVariants as ends
use Rattle.timer_objects.specs.declared.object.Object.{Object}
use Rattle.timer_objects.specs.declared.object.Object.TheVariants as objects
use Rattle.timer_objects.specs.Anew.{EndsAnew, anew_call, anew_reading, anew_wanted, refuses}
use Rattle.timer_objects.specs.Calls.{Caller, Interrupts, SettimeMade, SleepMade}
use Rattle.timer_objects.specs.Known.{ObjectsOf, decl_at}
use Rattle.timer_objects.specs.Steps.{ObjectAllows}
use Rattle.answer_laws.specs.Objects.{AreOne, ObjectMoment, SameWork, anew_at, interrupt_at, looked_at, settime_at, sleep_at}
use Rattle.answer_laws.proofs.ObjectCalls.{anew_once, full_looked, full_made, full_once, look_once, looked_made}

-- an object that allows a call doesn't refuse it
allowed : (call : Anew) (arm : Arm) (s : Object) → ObjectAllows s (anew_call call arm) → refuses call s ≡ true → ⊥
allowed (anews.Settime v) arm s may r = true≢false (sym r)
allowed (anews.Sleep v) arm (objects.Sleeper s) may r = true≢false (sym r ∙ ap not may.3)
allowed (anews.Sleep v) arm objects.Raw may r = may
allowed (anews.Sleep v) arm (objects.Posix t) may r = true≢false (sym r)
allowed (anews.Sleep v) arm (objects.Fd t) may r = true≢false (sym r)
allowed (anews.Sleep v) arm (objects.Queued t) may r = true≢false (sym r)
allowed (anews.Interrupt reading) arm (objects.Sleeper s) may r = true≢false (sym r ∙ may.1)
allowed (anews.Interrupt reading) arm objects.Raw may r = may
allowed (anews.Interrupt reading) arm (objects.Posix t) may r = true≢false (sym r)
allowed (anews.Interrupt reading) arm (objects.Fd t) may r = true≢false (sym r)
allowed (anews.Interrupt reading) arm (objects.Queued t) may r = true≢false (sym r)

pub are_one_as : (m m' n n' : ObjectMoment) → m ≡ m' → n ≡ n' → AreOne m n → AreOne m' n'
are_one_as m m' n n' e f a = subst (λ x. AreOne x n') e (subst (AreOne m) f a)

-- the moment of a call that ended so
abbrev ends_at : (x : ObjectsOf) (o : Opening) (old new : Caller) (id : ℕ) (call : Anew) (e : EndedAnew) → EndsAnew x o old new id call e → ObjectMoment
ends_at x o old new id call (ends.Full n) f = looked_at x o old new id
ends_at x o old new id call (ends.Refused n) f = looked_at x o old new id
ends_at x o old new id call (ends.Made reply) f =
    anew_at x o old new id (anew_call call) (anew_wanted (decl_at x id).clock call) (anew_reading call) reply f.0

module _ (x : ObjectsOf) (o : Opening) (old new new' : Caller) (id : ℕ) (call : Anew) where
  refused_made : (n : ℕ) (reply : ObjectReply) (c : EndsAnew x o old new id call (ends.Refused n)) (d : EndsAnew x o old new' id call (ends.Made reply))
      → AreOne (ends_at x o old new id call (ends.Refused n) c) (ends_at x o old new' id call (ends.Made reply) d) → ⊥
  refused_made n reply c d at = allowed call d.0.arm d.0.enters.commits.state d.0.enters.may
      (sym (ap (refuses call) (looked_made x o old new new' id (anew_call call d.0.arm) c.0 reply n c.1 d.0.enters at)) ∙ c.3)

  ended_once : (e e' : EndedAnew) (c : EndsAnew x o old new id call e) (d : EndsAnew x o old new' id call e')
      → AreOne (ends_at x o old new id call e c) (ends_at x o old new' id call e' d) → (e ≡ e') × SameWork new new' id
  ended_once (ends.Full n) (ends.Full m) c d at = let same = full_once x o old new new' id n m c d at in (ap ends.Full same.0, same.1)
  ended_once (ends.Full n) (ends.Refused m) c d at = absurd (full_looked x o old new new' id d.0 n m c d.1 d.2 at)
  ended_once (ends.Full n) (ends.Made r) c d at = absurd (full_made x o old new new' id (anew_call call d.0.arm) r n c d.0.enters at)
  ended_once (ends.Refused n) (ends.Full m) c d at = absurd (full_looked x o old new' new id c.0 m n d c.1 c.2 (sym at))
  ended_once (ends.Refused n) (ends.Refused m) c d at =
      let same = look_once old new new' id c.0 d.0 n m c.1 d.1 at in (ap ends.Refused same.1, same.2)
  ended_once (ends.Refused n) (ends.Made r) c d at = absurd (refused_made n r c d at)
  ended_once (ends.Made r) (ends.Full m) c d at = absurd (full_made x o old new' new id (anew_call call c.0.arm) r m d c.0.enters (sym at))
  ended_once (ends.Made r) (ends.Refused m) c d at = absurd (allowed call c.0.arm c.0.enters.commits.state c.0.enters.may
      (sym (ap (refuses call) (looked_made x o old new' new id (anew_call call c.0.arm) d.0 r m d.1 c.0.enters (sym at))) ∙ d.3))
  ended_once (ends.Made r) (ends.Made q) c d at =
      let same = anew_once x o old new new' id (anew_call call) (anew_wanted (decl_at x id).clock call) (anew_reading call) r q c.0 d.0 at in
      (ap ends.Made same.0, same.1)

-- ---- each call as one that ended so

abbrev settime_ended : SettimeAnswer → EndedAnew
settime_ended (settings.Spent n) = ends.Full n
settime_ended a = ends.Made (replies.Settime a)

abbrev settime_of : EndedAnew → SettimeAnswer
settime_of (ends.Full n) = settings.Spent n
settime_of (ends.Made (replies.Settime a)) = a
settime_of e = settings.BadFlags

settime_back : (a : SettimeAnswer) → settime_of (settime_ended a) ≡ a
settime_back (settings.Spent n) = refl
settime_back (settings.Old left was) = refl
settime_back (settings.Unarmed n) = refl
settime_back settings.Canceled = refl
settime_back settings.BadFlags = refl
settime_back settings.BadTime = refl

abbrev sleep_ended : SleepAnswer → EndedAnew
sleep_ended (sleeps.Spent n) = ends.Full n
sleep_ended (sleeps.Occupied n) = ends.Refused n
sleep_ended a = ends.Made (replies.Sleep a)

abbrev sleep_of : EndedAnew → SleepAnswer
sleep_of (ends.Full n) = sleeps.Spent n
sleep_of (ends.Refused n) = sleeps.Occupied n
sleep_of (ends.Made (replies.Sleep a)) = a
sleep_of e = sleeps.BadFlags

sleep_back : (a : SleepAnswer) → sleep_of (sleep_ended a) ≡ a
sleep_back (sleeps.Spent n) = refl
sleep_back (sleeps.Occupied n) = refl
sleep_back sleeps.Slept = refl
sleep_back (sleeps.Unarmed n) = refl
sleep_back sleeps.Asleep = refl
sleep_back sleeps.BadFlags = refl
sleep_back sleeps.BadTime = refl

abbrev interrupt_ended : InterruptAnswer → EndedAnew
interrupt_ended (interrupts.Spent n) = ends.Full n
interrupt_ended (interrupts.Awake n) = ends.Refused n
interrupt_ended a = ends.Made (replies.Interrupt a)

abbrev interrupt_of : EndedAnew → InterruptAnswer
interrupt_of (ends.Full n) = interrupts.Spent n
interrupt_of (ends.Refused n) = interrupts.Awake n
interrupt_of (ends.Made (replies.Interrupt a)) = a
interrupt_of e = interrupts.Slept

interrupt_back : (a : InterruptAnswer) → interrupt_of (interrupt_ended a) ≡ a
interrupt_back (interrupts.Spent n) = refl
interrupt_back (interrupts.Awake n) = refl
interrupt_back interrupts.Slept = refl
interrupt_back (interrupts.Left ns) = refl
interrupt_back interrupts.Interrupted = refl

module _ (x : ObjectsOf) (o : Opening) (old : Caller) (id : ℕ) where
  module _ (flags value interval : ℕ) (reading : ClockReading) where
    abbrev set : Anew
    set = anews.Settime (record { flags = flags; value = value; interval = interval; reading = reading })

    settime_ends : (new : Caller) (a : SettimeAnswer) (s : SettimeMade x o old new id flags value interval reading a)
        → (f : EndsAnew x o old new id set (settime_ended a))
        × (settime_at x o old new id flags value interval reading a s ≡ ends_at x o old new id set (settime_ended a) f)
    settime_ends new (settings.Spent n) s = (s, refl)
    settime_ends new (settings.Old left was) s = ((s, (settings.Old left was, refl, tt)), refl)
    settime_ends new (settings.Unarmed n) s = ((s, (settings.Unarmed n, refl, tt)), refl)
    settime_ends new settings.Canceled s = ((s, (settings.Canceled, refl, tt)), refl)
    settime_ends new settings.BadFlags s = absurd s
    settime_ends new settings.BadTime s = absurd s

    pub settime_once : (new new' : Caller) (a a' : SettimeAnswer) (c : SettimeMade x o old new id flags value interval reading a)
        (d : SettimeMade x o old new' id flags value interval reading a') → AreOne (settime_at x o old new id flags value interval reading a c)
        (settime_at x o old new' id flags value interval reading a' d) → (a ≡ a') × SameWork new new' id
    settime_once new new' a a' c d at =
        let p = settime_ends new a c in
        let q = settime_ends new' a' d in
        let same = ended_once x o old new new' id set (settime_ended a) (settime_ended a') p.0 q.0 (are_one_as _ _ _ _ p.1 q.1 at) in
        (sym (settime_back a) ∙ (ap settime_of same.0 ∙ settime_back a'), same.1)

  module _ (flags time : ℕ) (reading : ClockReading) where
    abbrev nap : Anew
    nap = anews.Sleep (record { flags = flags; time = time; reading = reading })

    sleep_ends : (new : Caller) (a : SleepAnswer) (s : SleepMade x o old new id flags time reading a) → (f : EndsAnew x o old new id nap (sleep_ended a))
        × (sleep_at x o old new id flags time reading a s ≡ ends_at x o old new id nap (sleep_ended a) f)
    sleep_ends new (sleeps.Spent n) s = (s, refl)
    sleep_ends new (sleeps.Occupied n) s = ((objects.Sleeper s.0, s.1, s.2, ap not s.3), refl)
    sleep_ends new sleeps.Slept s = ((s, (sleeps.Slept, refl, tt)), refl)
    sleep_ends new (sleeps.Unarmed n) s = ((s, (sleeps.Unarmed n, refl, tt)), refl)
    sleep_ends new sleeps.Asleep s = ((s, (sleeps.Asleep, refl, tt)), refl)
    sleep_ends new sleeps.BadFlags s = absurd s
    sleep_ends new sleeps.BadTime s = absurd s

    pub sleep_once : (new new' : Caller) (a a' : SleepAnswer) (c : SleepMade x o old new id flags time reading a)
        (d : SleepMade x o old new' id flags time reading a')
        → AreOne (sleep_at x o old new id flags time reading a c) (sleep_at x o old new' id flags time reading a' d) → (a ≡ a') × SameWork new new' id
    sleep_once new new' a a' c d at =
        let p = sleep_ends new a c in
        let q = sleep_ends new' a' d in
        let same = ended_once x o old new new' id nap (sleep_ended a) (sleep_ended a') p.0 q.0 (are_one_as _ _ _ _ p.1 q.1 at) in
        (sym (sleep_back a) ∙ (ap sleep_of same.0 ∙ sleep_back a'), same.1)

  module _ (reading : ClockReading) where
    interrupt_ends : (new : Caller) (a : InterruptAnswer) (s : Interrupts x o old new id reading a)
        → (f : EndsAnew x o old new id (anews.Interrupt reading) (interrupt_ended a))
        × (interrupt_at x o old new id reading a s ≡ ends_at x o old new id (anews.Interrupt reading) (interrupt_ended a) f)
    interrupt_ends new (interrupts.Spent n) s = (s, refl)
    interrupt_ends new (interrupts.Awake n) s = ((objects.Sleeper s.0, s.1, s.2, s.3), refl)
    interrupt_ends new interrupts.Slept s = ((s, (interrupts.Slept, refl, tt)), refl)
    interrupt_ends new (interrupts.Left ns) s = ((s, (interrupts.Left ns, refl, tt)), refl)
    interrupt_ends new interrupts.Interrupted s = ((s, (interrupts.Interrupted, refl, tt)), refl)

    pub interrupt_once : (new new' : Caller) (a a' : InterruptAnswer) (c : Interrupts x o old new id reading a) (d : Interrupts x o old new' id reading a')
        → AreOne (interrupt_at x o old new id reading a c) (interrupt_at x o old new' id reading a' d) → (a ≡ a') × SameWork new new' id
    interrupt_once new new' a a' c d at =
        let p = interrupt_ends new a c in
        let q = interrupt_ends new' a' d in
        let same = ended_once x o old new new' id (anews.Interrupt reading) (interrupt_ended a) (interrupt_ended a') p.0 q.0 (are_one_as _ _ _ _ p.1 q.1 at) in
        (sym (interrupt_back a) ∙ (ap interrupt_of same.0 ∙ interrupt_back a'), same.1)
