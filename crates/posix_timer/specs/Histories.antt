-- The history of one POSIX timer, and the state after it.
use Rattle.std.specs.Prelude.{ℕ, List}
use Rattle.ktime.specs.declared.clock_id.ClockId.{ClockId}
use Rattle.timer_setting.specs.StepTables.{AnsweredCall, AreCalls, after_calls}
use Rattle.timer_setting.specs.declared.object_call.ObjectCall.{ObjectCall}
use Rattle.timer_setting.specs.declared.object_call.ObjectReply.{ObjectReply}
use Rattle.posix_timer.specs.States.{PosixTimer, posix_opening}
use Rattle.posix_timer.specs.Steps.{posix_table}

-- a history that one POSIX timer gives, made on this clock and base with this limit on entries
abbrev pub IsPosixHistory : ClockId → ℕ → ℕ → List (AnsweredCall ObjectCall ObjectReply) → Type 0
IsPosixHistory clock base limit history = AreCalls posix_table (posix_opening clock base limit) history

-- the state after it
abbrev pub posix_state_after : ClockId → ℕ → ℕ → List (AnsweredCall ObjectCall ObjectReply) → PosixTimer
posix_state_after clock base limit history = after_calls posix_table (posix_opening clock base limit) history
