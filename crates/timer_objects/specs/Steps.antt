-- Objects as one kind of object: their step table, the timer that each keeps and the start that a call wants, by a row for each kind.
use Rattle.std.specs.Prelude.{ℕ, ◌≡◌, ◌≢◌, Option, None}
use Rattle.ktime.specs.declared.clock_id.ClockId.{ClockId}
use Rattle.ktime.specs.declared.clock_id.ClockId.TheVariants as clocks
use Rattle.timer_setting.specs.declared.arming.Wanted.{Wanted}
use Rattle.timer_setting.specs.declared.object_call.ObjectCall.{ObjectCall}
use Rattle.timer_setting.specs.declared.object_call.ObjectReply.{ObjectReply}
use Rattle.timer_setting.specs.declared.object_call.ObjectReply.TheVariants as replies
use Rattle.timer_setting.specs.declared.object_timer.ObjectTimer.{ObjectTimer}
use Rattle.timer_setting.specs.Kinds.{ObjectKind}
use Rattle.timer_setting.specs.Settimes.{made_timer}
use Rattle.posix_timer.specs.States.{posix_opening}
use Rattle.posix_timer.specs.Queued.{QueuedAllows, queued_answer, queued_object_timer, queued_opening, queued_step, queued_wanted}
use Rattle.posix_timer.specs.Steps.{PosixAllows, posix_answer, posix_object_timer, posix_step, posix_wanted}
use Rattle.timer_fd.specs.States.{fd_opening}
use Rattle.timer_fd.specs.Steps.{FdAllows, fd_answer, fd_object_timer, fd_step, fd_wanted}
use Rattle.sleeper.specs.States.{sleeper_opening, timer_of}
use Rattle.sleeper.specs.Steps.{SleeperAllows, sleeper_answer, sleeper_step, sleeper_wanted}
use Rattle.timer_objects.specs.declared.object.Kind.{Kind}
use Rattle.timer_objects.specs.declared.object.Kind.TheVariants as kinds
use Rattle.timer_objects.specs.declared.object.Decl.{Decl}
use Rattle.timer_objects.specs.declared.object.Object.{Object}
use Rattle.timer_objects.specs.declared.object.Object.TheVariants as objects

-- an object of this kind that was just made, over a timer on this clock and base, with this limit on entries
abbrev pub opened_as : Kind → ClockId → ℕ → ℕ → Object
opened_as kinds.Raw clock base limit = objects.Raw
opened_as kinds.Posix clock base limit = objects.Posix (posix_opening clock base limit)
opened_as kinds.Fd clock base limit = objects.Fd (fd_opening clock base limit)
opened_as kinds.Sleeper clock base limit = objects.Sleeper (sleeper_opening clock base limit)
opened_as kinds.Queued clock base limit = objects.Queued (queued_opening clock base limit)

-- the same of its declaration
abbrev pub opened_object : ℕ → Decl → Object
opened_object limit decl = opened_as decl.kind decl.clock decl.base limit

-- what a call needs: it is one of the object's kind, and that kind's table allows it
abbrev pub ObjectAllows : Object → ObjectCall → Type 0
ObjectAllows objects.Raw c = ⊥
ObjectAllows (objects.Posix t) c = PosixAllows t c
ObjectAllows (objects.Fd t) c = FdAllows t c
ObjectAllows (objects.Sleeper s) c = SleeperAllows s c
ObjectAllows (objects.Queued t) c = QueuedAllows t c

-- the object after a call
abbrev pub object_step : Object → ObjectCall → Object
object_step objects.Raw c = objects.Raw
object_step (objects.Posix t) c = objects.Posix (posix_step t c)
object_step (objects.Fd t) c = objects.Fd (fd_step t c)
object_step (objects.Sleeper s) c = objects.Sleeper (sleeper_step s c)
object_step (objects.Queued t) c = objects.Queued (queued_step t c)

-- what a call answers
abbrev pub object_answer : Object → ObjectCall → ObjectReply
object_answer objects.Raw c = replies.None
object_answer (objects.Posix t) c = posix_answer t c
object_answer (objects.Fd t) c = fd_answer t c
object_answer (objects.Sleeper s) c = sleeper_answer s c
object_answer (objects.Queued t) c = queued_answer t c

-- the timer that an object keeps; a timer by itself keeps none
abbrev pub object_timer : Object → ObjectTimer
object_timer objects.Raw = made_timer clocks.Monotonic 0 0
object_timer (objects.Posix t) = posix_object_timer t
object_timer (objects.Fd t) = fd_object_timer t
object_timer (objects.Sleeper s) = timer_of s
object_timer (objects.Queued t) = queued_object_timer t

-- the start that a call with valid arguments wants
abbrev pub object_wanted : Object → ObjectCall → Option Wanted
object_wanted objects.Raw c = None
object_wanted (objects.Posix t) c = posix_wanted t c
object_wanted (objects.Fd t) c = fd_wanted t c
object_wanted (objects.Sleeper s) c = sleeper_wanted s c
object_wanted (objects.Queued t) c = queued_wanted t c

-- objects of whatever kind
abbrev pub object_kind : ObjectKind Object
object_kind = record { table = record { allows = ObjectAllows; next = object_step; answer = object_answer }; timer = object_timer; wanted = object_wanted }

-- the kind of an object
abbrev pub kind_over : Object → Kind
kind_over objects.Raw = kinds.Raw
kind_over (objects.Posix t) = kinds.Posix
kind_over (objects.Fd t) = kinds.Fd
kind_over (objects.Sleeper s) = kinds.Sleeper
kind_over (objects.Queued t) = kinds.Queued

-- a timer that was made by this declaration with this limit, of an object with so many entries
pub record IsTimerOf (decl : Decl) (most n : ℕ) (t : ObjectTimer) : Type 0 where
  pub clock : t.clock ≡ decl.clock
  pub base : t.base ≡ decl.base
  pub limit : t.limit ≡ most
  pub stamp : t.stamp ≡ n

-- the object of this declaration and limit, with so many entries: a timer by itself has none
pub record IsObjectOf (decl : Decl) (limit n : ℕ) (object : Object) : Type 0 where
  pub kind : decl.kind ≡ kind_over object
  pub timer : decl.kind ≢ kinds.Raw → IsTimerOf decl limit n (object_timer object)
  pub none : decl.kind ≡ kinds.Raw → n ≡ 0
