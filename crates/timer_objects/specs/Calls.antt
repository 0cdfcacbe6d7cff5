-- What each call on an object does and answers, by what the caller's passes know and what its logs have before and after it.
use Rattle.std.specs.Prelude.{ℕ, Bool, true, false, ◌≡◌, ◌≢◌, ◌+◌, ◌≤◌, ◌<◌, not, ◌||◌, nat_eq, List, [], ◌∷◌, ◌++◌, length, Option, Some, None, MatchOption, if◌then◌else◌}
use Rattle.ktime.specs.declared.timespec.TimeSpec.{TimeSpec}
use Rattle.ktime.specs.Readings.{ClockReading}
use Rattle.pass_names.specs.SharedHistory.{LooksOn}
use Rattle.base_row.specs.declared.view.Opening.{Opening}
use Rattle.hr_timers.specs.Known.{KnownOfTimers, timer_then}
use Rattle.base_row.specs.declared.log.Receipt.{Receipt}
use Rattle.timer_setting.specs.declared.arming.Arm.{Arm}
use Rattle.timer_setting.specs.declared.arming.Arm.TheVariants as arms
use Rattle.timer_setting.specs.declared.arming.Wanted.{Wanted}
use Rattle.timer_setting.specs.declared.phase.Phase.{Phase}
use Rattle.timer_setting.specs.declared.phase.Phase.TheVariants as phases
use Rattle.timer_setting.specs.Arguments.{abstime, bits_beyond, is_bad, start_by, time_of}
use Rattle.counted_row.specs.Views.{Sees}
use Rattle.counted_row.specs.Calls.{Commits, ReadsValue}
use Rattle.timer_setting.specs.declared.answers.AcceptAnswer.{AcceptAnswer}
use Rattle.timer_setting.specs.declared.answers.AcceptAnswer.TheVariants as acceptances
use Rattle.timer_setting.specs.declared.object_call.ObjectCall.TheVariants as calls
use Rattle.timer_setting.specs.declared.object_call.ObjectReply.TheVariants as replies
use Rattle.posix_timer.specs.States.{PosixTimer, setting_of}
use Rattle.timer_setting.specs.declared.answers.SettimeAnswer.{SettimeAnswer}
use Rattle.timer_setting.specs.declared.answers.SettimeAnswer.TheVariants as settings
use Rattle.timer_setting.specs.declared.answers.ReadAnswer.{ReadAnswer}
use Rattle.timer_setting.specs.declared.answers.ReadAnswer.TheVariants as reads
use Rattle.timer_setting.specs.declared.answers.GettimeAnswer.TheVariants as lefts
use Rattle.timer_setting.specs.declared.answers.InterruptAnswer.{InterruptAnswer}
use Rattle.timer_setting.specs.declared.answers.InterruptAnswer.TheVariants as interrupts
use Rattle.timer_setting.specs.declared.answers.SleepAnswer.{SleepAnswer}
use Rattle.timer_setting.specs.declared.answers.SleepAnswer.TheVariants as sleeps
use Rattle.sleeper.specs.States.{Sleeper, is_free}
use Rattle.sleeper.specs.Steps.{sleep_start, slept_answer}
use Rattle.timer_fd.specs.States.{fd_flags, is_readable}
use Rattle.timer_fd.specs.Steps.{count_length}
use Rattle.timer_objects.specs.declared.answers.Gettime.{Gettime}
use Rattle.timer_objects.specs.declared.answers.Gettime.TheVariants as gettimes
use Rattle.timer_objects.specs.declared.answers.Overrun.{Overrun}
use Rattle.timer_objects.specs.declared.answers.Readable.{Readable}
use Rattle.timer_objects.specs.declared.answers.Slept.{Slept}
use Rattle.timer_objects.specs.declared.log.ObjectReceipt.{ObjectReceipt}
use Rattle.timer_objects.specs.declared.object.Kind.{Kind}
use Rattle.timer_objects.specs.declared.object.Kind.TheVariants as kinds
use Rattle.timer_objects.specs.declared.object.Object.{Object}
use Rattle.timer_objects.specs.declared.object.Object.TheVariants as objects
use Rattle.timer_setting.specs.declared.object_call.ObjectCall.{ObjectCall}
use Rattle.timer_setting.specs.declared.object_call.ObjectReply.{ObjectReply}
use Rattle.timer_objects.specs.declared.wanting.Rearming.{Rearming}
use Rattle.timer_objects.specs.declared.wanting.Rearming.TheVariants as rearmings
use Rattle.timer_objects.specs.Steps.{IsObjectOf, ObjectAllows, object_answer, object_step, object_timer, object_wanted}
use Rattle.timer_objects.specs.Meaning.{object_meaning}
use Rattle.timer_objects.specs.Known.{ObjectsOf, ObjectsPass, decl_at, seen_of}
use Rattle.timer_objects.specs.Arming.{ArmsFor, Disarms}
use Rattle.timer_objects.specs.Turns.{HasTurn, turns_told}

-- what a caller's passes know, and what its logs have
pub record Caller : Type 0 where
  pub timers : KnownOfTimers
  pub objects : ObjectsPass
  pub log : List Receipt
  pub object_log : List ObjectReceipt

-- ---- what all calls share

-- the caller has waited, and may have looked at timers and objects
pub record HasWaited (old new : Caller) : Type 0 where
  pub timers : LooksOn old.timers new.timers
  pub objects : Sees old.objects new.objects
  pub log : new.log ≡ old.log
  pub object_log : new.object_log ≡ old.object_log

-- The history of the object is full. Nothing was done but to look at it, and so many entries stood there at a moment at which no call had its turn.
pub record FindsHistoryFull (x : ObjectsOf) (old new : Caller) (id n : ℕ) : Type 0 where
  pub looks : LooksOn old.timers new.timers
  pub reads : ReadsValue object_meaning old.objects new.objects id
  pub full : x.limit ≤ n
  pub stamp : n ≡ length (seen_of new.objects id)
  pub told : turns_told id new.timers ≡ n + n
  pub log : new.log ≡ old.log
  pub object_log : new.object_log ≡ old.object_log

-- The call stands last in the history of the object, which is that of its declaration; the history had room for it, and the object's table allows it. A
-- receipt of it was noted.
pub record EntersCall (x : ObjectsOf) (old new : Caller) (id : ℕ) (call : ObjectCall) (answer : ObjectReply) : Type 0 where
  pub commits : Commits object_meaning old.objects new.objects id call
  pub declared : IsObjectOf (decl_at x id) x.limit (length commits.adds.before) commits.state
  pub may : ObjectAllows commits.state call
  pub reply : answer ≡ object_answer commits.state call
  pub room : length commits.adds.before < x.limit
  pub object_log : new.object_log
      ≡ old.object_log ++ record { object = id; number = length commits.adds.before + 1; call = call; reply = answer } ∷ []

-- the phase of an object
abbrev pub phase_of : Object → Phase
phase_of object = (object_timer object).phase

-- ---- calls that disarm their timer, and start it where they want that: settime, sleep and interrupt

-- a generation that such a call armed is the one that the object's phase has, with the timer's clock and expiry
abbrev pub BearsStart : Opening → KnownOfTimers → ℕ → Arm → Phase → Type 0
BearsStart o k t arms.NotAsked phase = phase ≡ phases.Idle
BearsStart o k t (arms.Armed generation) phase = phase ≡ phases.Armed generation (timer_then o k.seen t).clock (timer_then o k.seen t).expires
BearsStart o k t (arms.Unarmed stamp) phase = phase ≡ phases.Idle

-- Such a call was made, which wanted this start: while the object was locked its timer was disarmed, or seen to be idle; then started where that was
-- wanted; then the object's entry was made, with the outcome of the start. All of it is one turn of the object.
pub record ArmsAnew (x : ObjectsOf) (o : Opening) (old new : Caller) (id : ℕ) (call : Arm → ObjectCall) (wanted : Option Wanted) (reading : ClockReading)
    (reply : ObjectReply) : Type 0 where
  pub arm : Arm
  pub enters : EntersCall x old new id (call arm) reply
  pub begun : KnownOfTimers
  pub worked : KnownOfTimers
  pub turn : HasTurn id (length enters.commits.adds.before) old.timers begun worked new.timers
  pub disarmed : KnownOfTimers
  pub cancel_log : List Receipt
  pub disarms : Disarms o begun disarmed id old.log cancel_log
  pub arms : ArmsFor o disarmed worked id wanted (decl_at x id).base reading arm cancel_log new.log
  pub bears : BearsStart o worked id arm (phase_of (object_step enters.commits.state (call arm)))

-- ---- settime

-- an object of this kind has a setting: it is a POSIX timer or a descriptor
abbrev pub HasSetting : Kind → Type 0
HasSetting kind = (kind ≢ kinds.Raw) × (kind ≢ kinds.Sleeper)

-- the flags of a settime that an object has
abbrev pub flags_of : Kind → ℕ
flags_of kinds.Raw = abstime
flags_of kinds.Posix = abstime
flags_of kinds.Fd = fd_flags
flags_of kinds.Sleeper = abstime
flags_of kinds.Queued = abstime

-- why the arguments of a settime are refused, if they are: an unknown flag comes first, then a bad time
abbrev pub argument_refusal : Kind → ℕ → TimeSpec → TimeSpec → Option SettimeAnswer
argument_refusal kind flags value interval =
    if not (nat_eq (bits_beyond (flags_of kind) flags) 0) then Some settings.BadFlags
    else (if is_bad value || is_bad interval then Some settings.BadTime else None)

-- a settime with these arguments
abbrev pub settime_by : ℕ → ℕ → ℕ → ClockReading → Arm → ObjectCall
settime_by flags value interval reading arm =
    calls.Settime (record { flags = flags; value = value; interval = interval; reading = reading; arm = arm })

-- a settime with these arguments made an entry, and so answered
abbrev pub SetsTimer : ObjectsOf → Opening → Caller → Caller → ℕ → ℕ → ℕ → ℕ → ClockReading → SettimeAnswer → Type 0
SetsTimer x o old new id flags value interval reading a =
    ArmsAnew x o old new id (settime_by flags value interval reading) (start_by flags value) reading (replies.Settime a)

-- a settime with valid arguments: it is refused exactly where the object's history is full
abbrev pub SettimeMade : ObjectsOf → Opening → Caller → Caller → ℕ → ℕ → ℕ → ℕ → ClockReading → SettimeAnswer → Type 0
SettimeMade x o old new id flags value interval reading (settings.Spent n) = FindsHistoryFull x old new id n
SettimeMade x o old new id flags value interval reading (settings.Old left was) = SetsTimer x o old new id flags value interval reading (settings.Old left was)
SettimeMade x o old new id flags value interval reading (settings.Unarmed n) = SetsTimer x o old new id flags value interval reading (settings.Unarmed n)
SettimeMade x o old new id flags value interval reading settings.Canceled = SetsTimer x o old new id flags value interval reading settings.Canceled
SettimeMade x o old new id flags value interval reading settings.BadFlags = ⊥
SettimeMade x o old new id flags value interval reading settings.BadTime = ⊥

-- a settime: where its arguments are refused, that is its answer and nothing is other than before
abbrev pub Settimes : ObjectsOf → Opening → Caller → Caller → ℕ → ℕ → TimeSpec → TimeSpec → ClockReading → SettimeAnswer → Type 0
Settimes x o old new id flags value interval reading a =
    MatchOption (argument_refusal (decl_at x id).kind flags value interval)
    (SettimeMade x o old new id flags (time_of value) (time_of interval) reading a) (λ refusal. (a ≡ refusal) × (new ≡ old))

-- ---- accept, read, and gettime of a descriptor

-- an object of this kind is a POSIX timer, with queued signals or not
abbrev pub IsPosixKind : Kind → Type 0
IsPosixKind kinds.Posix = Unit
IsPosixKind kinds.Queued = Unit
IsPosixKind kind = ⊥

-- the POSIX timer that an object is
abbrev pub posix_in : Object → Option PosixTimer
posix_in (objects.Posix t) = Some t
posix_in (objects.Queued t) = Some t.timer
posix_in object = None

-- the phase of a timer that was armed again has its generation and expiry
abbrev pub BearsRestart : Opening → KnownOfTimers → ℕ → Arm → Phase → Type 0
BearsRestart o k t arms.NotAsked phase = Unit {0}
BearsRestart o k t (arms.Armed generation) phases.Idle = ⊥
BearsRestart o k t (arms.Armed generation) (phases.Armed armed clock expires) = (armed ≡ generation) × (expires ≡ (timer_then o k.seen t).expires)
BearsRestart o k t (arms.Armed generation) (phases.Expired clock expires) = ⊥
BearsRestart o k t (arms.Unarmed stamp) phase = phase ≡ phases.Idle

-- the call, with the outcome of the start that it wants
abbrev pub rearming_call : Rearming → ClockReading → Arm → ObjectCall
rearming_call rearmings.Accepting reading arm = calls.Accept reading arm
rearming_call rearmings.Reading reading arm = calls.Read reading arm
rearming_call rearmings.Getting reading arm = calls.Gettime reading arm

-- that start, of an object whose history has room
abbrev pub wanted_by : Rearming → Object → ClockReading → Option Wanted
wanted_by r object reading = object_wanted object (rearming_call r reading arms.NotAsked)

-- Such a call was made: while the object was locked its timer was started in the mode that keeps its clock, where the call wants that; then the
-- object's entry was made. All of it is one turn of the object.
pub record RearmingMade (x : ObjectsOf) (o : Opening) (old new : Caller) (id : ℕ) (r : Rearming) (reading : ClockReading) (reply : ObjectReply) : Type 0 where
  pub arm : Arm
  pub enters : EntersCall x old new id (rearming_call r reading arm) reply
  pub begun : KnownOfTimers
  pub worked : KnownOfTimers
  pub turn : HasTurn id (length enters.commits.adds.before) old.timers begun worked new.timers
  pub arms : ArmsFor o begun worked id (wanted_by r enters.commits.state reading) (decl_at x id).base reading arm old.log new.log
  pub bears : BearsRestart o worked id arm (phase_of (object_step enters.commits.state (rearming_call r reading arm)))

-- an accept: it is refused exactly where the object's history is full
abbrev pub Accepts : ObjectsOf → Opening → Caller → Caller → ℕ → ClockReading → AcceptAnswer → Type 0
Accepts x o old new id reading (acceptances.Spent n) = FindsHistoryFull x old new id n
Accepts x o old new id reading (acceptances.Accepted overrun) =
    RearmingMade x o old new id rearmings.Accepting reading (replies.Accept (acceptances.Accepted overrun))
Accepts x o old new id reading acceptances.NoSignal =
    RearmingMade x o old new id rearmings.Accepting reading (replies.Accept acceptances.NoSignal)

-- a read: a buffer that is too short is refused first, and nothing is other than before
abbrev pub ReadsFd : ObjectsOf → Opening → Caller → Caller → ℕ → ℕ → ClockReading → ReadAnswer → Type 0
ReadsFd x o old new id len reading reads.ShortBuffer = (len < count_length) × (new ≡ old)
ReadsFd x o old new id len reading (reads.Spent n) = (count_length ≤ len) × FindsHistoryFull x old new id n
ReadsFd x o old new id len reading (reads.Count total) =
    (count_length ≤ len) × RearmingMade x o old new id rearmings.Reading reading (replies.Read (reads.Count total))
ReadsFd x o old new id len reading reads.Canceled =
    (count_length ≤ len) × RearmingMade x o old new id rearmings.Reading reading (replies.Read reads.Canceled)
ReadsFd x o old new id len reading reads.Again =
    (count_length ≤ len) × RearmingMade x o old new id rearmings.Reading reading (replies.Read reads.Again)

-- ---- looks

-- an object was looked at when no call had its turn, and the logs are as before; its state, and so many entries
pub record LooksAtObject (old new : Caller) (id : ℕ) (object : Object) (n : ℕ) : Type 0 where
  pub reads : ReadsValue object_meaning old.objects new.objects id
  pub state : object ≡ reads.state
  pub stamp : n ≡ length (seen_of new.objects id)
  pub timers : LooksOn old.timers new.timers
  pub told : turns_told id new.timers ≡ n + n
  pub log : new.log ≡ old.log
  pub object_log : new.object_log ≡ old.object_log

-- a gettime: of a POSIX timer, with queued signals or not, a look, of a descriptor a call that may arm its timer again, and makes entry number `stamp`
abbrev pub Gettimes : ObjectsOf → Opening → Caller → Caller → ℕ → ClockReading → Kind → Gettime → Type 0
Gettimes x o old new id reading kinds.Posix (gettimes.Left left interval stamp) =
    (t : _) × LooksAtObject old new id (objects.Posix t) stamp × (record { left = left; interval = interval } ≡ setting_of t reading)
Gettimes x o old new id reading kinds.Posix (gettimes.Spent stamp) = ⊥
Gettimes x o old new id reading kinds.Fd (gettimes.Left left interval stamp) =
    RearmingMade x o old new id rearmings.Getting reading (replies.Gettime (lefts.Left left interval)) × (stamp ≡ length (seen_of new.objects id))
Gettimes x o old new id reading kinds.Fd (gettimes.Spent n) = FindsHistoryFull x old new id n
Gettimes x o old new id reading kinds.Queued (gettimes.Left left interval stamp) =
    (t : _) × LooksAtObject old new id (objects.Queued t) stamp × (record { left = left; interval = interval } ≡ setting_of t.timer reading)
Gettimes x o old new id reading kinds.Queued (gettimes.Spent stamp) = ⊥
Gettimes x o old new id reading kinds.Raw a = ⊥
Gettimes x o old new id reading kinds.Sleeper a = ⊥

-- whether a descriptor is ready to be read
abbrev pub LooksReadable : Caller → Caller → ℕ → ClockReading → Readable → Type 0
LooksReadable old new id reading a = (t : _) × LooksAtObject old new id (objects.Fd t) a.stamp × (a.ready ≡ is_readable t reading)

-- the overrun of the last signal of a POSIX timer that was accepted
abbrev pub LooksOverrun : Caller → Caller → ℕ → Overrun → Type 0
LooksOverrun old new id a =
    (object : Object) × (t : PosixTimer) × LooksAtObject old new id object a.stamp × (posix_in object ≡ Some t) × (a.overrun ≡ t.overrun)

-- ---- sleepers

-- a sleep with these arguments
abbrev pub sleep_by : ℕ → ℕ → ClockReading → Arm → ObjectCall
sleep_by flags time reading arm = calls.Sleep (record { flags = flags; time = time; reading = reading; arm = arm })

-- why the arguments of a sleep are refused, if they are: an unknown flag comes first, then a bad time
abbrev pub sleep_arguments_refusal : ℕ → TimeSpec → Option SleepAnswer
sleep_arguments_refusal flags time =
    if not (nat_eq (bits_beyond abstime flags) 0) then Some sleeps.BadFlags else (if is_bad time then Some sleeps.BadTime else None)

-- the history of a sleeper had room, and so many entries; and whether the sleeper was free
abbrev pub FindsSleeper : ObjectsOf → Caller → Caller → ℕ → ℕ → Bool → Type 0
FindsSleeper x old new id n free = (s : Sleeper) × LooksAtObject old new id (objects.Sleeper s) n × (n < x.limit) × (is_free s.sleep ≡ free)

-- a sleep with valid arguments: it is refused exactly where the sleeper's history is full, or else the sleeper isn't free; one whose time has come starts
-- nothing
abbrev pub SleepMade : ObjectsOf → Opening → Caller → Caller → ℕ → ℕ → ℕ → ClockReading → SleepAnswer → Type 0
SleepMade x o old new id flags time reading sleeps.BadFlags = ⊥
SleepMade x o old new id flags time reading sleeps.BadTime = ⊥
SleepMade x o old new id flags time reading (sleeps.Spent n) = FindsHistoryFull x old new id n
SleepMade x o old new id flags time reading (sleeps.Occupied n) = FindsSleeper x old new id n false
SleepMade x o old new id flags time reading a =
    ArmsAnew x o old new id (sleep_by flags time reading) (sleep_start (decl_at x id).clock flags time reading) reading (replies.Sleep a)

-- a sleep: where its arguments are refused, that is its answer and nothing is other than before
abbrev pub Sleeps : ObjectsOf → Opening → Caller → Caller → ℕ → ℕ → TimeSpec → ClockReading → SleepAnswer → Type 0
Sleeps x o old new id flags time reading a =
    MatchOption (sleep_arguments_refusal flags time) (SleepMade x o old new id flags (time_of time) reading a) (λ refusal. (a ≡ refusal) × (new ≡ old))

-- an interrupt, which starts nothing: it is refused exactly where the sleeper's history is full, or else the sleeper is free
abbrev pub Interrupts : ObjectsOf → Opening → Caller → Caller → ℕ → ClockReading → InterruptAnswer → Type 0
Interrupts x o old new id reading (interrupts.Spent n) = FindsHistoryFull x old new id n
Interrupts x o old new id reading (interrupts.Awake n) = FindsSleeper x old new id n true
Interrupts x o old new id reading a = ArmsAnew x o old new id (λ arm. calls.Interrupt reading) None reading (replies.Interrupt a)

-- how a sleeper is
abbrev pub LooksSlept : Caller → Caller → ℕ → Slept → Type 0
LooksSlept old new id a = (s : Sleeper) × LooksAtObject old new id (objects.Sleeper s) a.stamp × (a.answer ≡ slept_answer s.sleep)
