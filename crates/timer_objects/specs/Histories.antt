-- The history of an object, as one that an object of its declaration gives.
use Rattle.std.specs.Prelude.{ℕ, ◌≡◌, List, [], map}
use Rattle.ktime.specs.declared.clock_id.ClockId.{ClockId}
use Rattle.counted_row.specs.declared.view.Entry.{Entry}
use Rattle.timer_setting.specs.StepTables.{AnsweredCall}
use Rattle.timer_setting.specs.declared.object_call.ObjectCall.{ObjectCall}
use Rattle.timer_setting.specs.declared.object_call.ObjectReply.{ObjectReply}
use Rattle.posix_timer.specs.Queued.{IsQueuedHistory, queued_state_after}
use Rattle.posix_timer.specs.Histories.{IsPosixHistory, posix_state_after}
use Rattle.timer_fd.specs.Histories.{IsFdHistory, fd_state_after}
use Rattle.sleeper.specs.Histories.{IsSleeperHistory, sleeper_state_after}
use Rattle.timer_objects.specs.declared.object.Decl.{Decl}
use Rattle.timer_objects.specs.declared.object.Kind.{Kind}
use Rattle.timer_objects.specs.declared.object.Kind.TheVariants as kinds
use Rattle.timer_objects.specs.declared.object.Object.{Object}
use Rattle.timer_objects.specs.declared.object.Object.TheVariants as objects

-- the calls of a history with their replies
abbrev pub answered_calls : List (Entry ObjectCall ObjectReply) → List (AnsweredCall ObjectCall ObjectReply)
answered_calls log = map (λ e. record { call = e.call; reply = e.reply }) log

-- a history that one object of this kind gives, made on this clock and base with this limit on entries, and the object then; a timer by itself has none
abbrev pub IsHistoryOfKind : Kind → ClockId → ℕ → ℕ → List (AnsweredCall ObjectCall ObjectReply) → Object → Type 0
IsHistoryOfKind kinds.Raw clock base limit history object = (history ≡ []) × (object ≡ objects.Raw)
IsHistoryOfKind kinds.Posix clock base limit history object =
    IsPosixHistory clock base limit history × (object ≡ objects.Posix (posix_state_after clock base limit history))
IsHistoryOfKind kinds.Fd clock base limit history object =
    IsFdHistory clock base limit history × (object ≡ objects.Fd (fd_state_after clock base limit history))
IsHistoryOfKind kinds.Sleeper clock base limit history object =
    IsSleeperHistory clock base limit history × (object ≡ objects.Sleeper (sleeper_state_after clock base limit history))
IsHistoryOfKind kinds.Queued clock base limit history object =
    IsQueuedHistory clock base limit history × (object ≡ objects.Queued (queued_state_after clock base limit history))

-- a history that the object of a declaration gives, and the object then
abbrev pub IsHistoryOf : Decl → ℕ → List (AnsweredCall ObjectCall ObjectReply) → Object → Type 0
IsHistoryOf decl limit history object = IsHistoryOfKind decl.kind decl.clock decl.base limit history object
