-- The history of one descriptor, and the state after it.
use Rattle.std.specs.Prelude.{ℕ, List}
use Rattle.ktime.specs.declared.clock_id.ClockId.{ClockId}
use Rattle.timer_setting.specs.StepTables.{AnsweredCall, AreCalls, after_calls}
use Rattle.timer_setting.specs.declared.object_call.ObjectCall.{ObjectCall}
use Rattle.timer_setting.specs.declared.object_call.ObjectReply.{ObjectReply}
use Rattle.timer_fd.specs.States.{Descriptor, fd_opening}
use Rattle.timer_fd.specs.Steps.{fd_table}

-- a history that one descriptor gives, made on this clock and base with this limit on entries
abbrev pub IsFdHistory : ClockId → ℕ → ℕ → List (AnsweredCall ObjectCall ObjectReply) → Type 0
IsFdHistory clock base limit history = AreCalls fd_table (fd_opening clock base limit) history

-- the state after it
abbrev pub fd_state_after : ClockId → ℕ → ℕ → List (AnsweredCall ObjectCall ObjectReply) → Descriptor
fd_state_after clock base limit history = after_calls fd_table (fd_opening clock base limit) history
