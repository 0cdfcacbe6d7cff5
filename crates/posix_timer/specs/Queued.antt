-- A POSIX timer whose signals go to a queue: the number of its last signal beside the timer, its step table, and its histories.
use Rattle.std.specs.Prelude.{ℕ, ◌≡◌, ◌+◌, ◌<◌, true, ◌&&◌, nat_eq, Bool, List, Option, if◌then◌else◌}
use Rattle.ktime.specs.declared.clock_id.ClockId.{ClockId}
use Rattle.ktime.specs.Readings.{ClockReading}
use Rattle.timer_setting.specs.declared.arming.Wanted.{Wanted}
use Rattle.timer_setting.specs.declared.object_call.ObjectCall.{ObjectCall}
use Rattle.timer_setting.specs.declared.object_call.ObjectCall.TheVariants as calls
use Rattle.timer_setting.specs.declared.object_call.ObjectReply.{ObjectReply}
use Rattle.timer_setting.specs.declared.object_call.ObjectReply.TheVariants as replies
use Rattle.timer_setting.specs.declared.object_timer.ObjectTimer.{ObjectTimer}
use Rattle.timer_setting.specs.Kinds.{ObjectKind}
use Rattle.timer_setting.specs.Phases.{is_expiry_of}
use Rattle.timer_setting.specs.StepTables.{AnsweredCall, AreCalls, StepTable, after_calls}
use Rattle.posix_timer.specs.declared.queued_state.QueuedState.{QueuedState}
use Rattle.posix_timer.specs.States.{posix_opening}
use Rattle.posix_timer.specs.Steps.{PosixAllows, posix_answer, posix_object_timer, posix_overflowed, posix_step, posix_wanted}

-- a timer that was just made
abbrev pub queued_opening : ClockId → ℕ → ℕ → QueuedState
queued_opening clock base limit = record { timer = posix_opening clock base limit; signalled = 0 }

-- an expiry of this generation counts, so its signal goes to the queue
abbrev pub sends_signal : QueuedState → ℕ → ClockReading → Bool
sends_signal t generation reading = is_expiry_of t.timer.phase generation reading

-- the signal of this number is pending; that of an earlier setting, and one that was accepted, is stale
abbrev pub is_fresh : QueuedState → ℕ → Bool
is_fresh t number = t.timer.pending && nat_eq t.signalled number

-- what a call needs: those of a POSIX timer what they need there; and an overflow is of an expiry that counts
abbrev pub QueuedAllows : QueuedState → ObjectCall → Type 0
QueuedAllows t (calls.Overflow generation reading) = (t.timer.stamp < t.timer.limit) × (sends_signal t generation reading ≡ true)
QueuedAllows t call = PosixAllows t.timer call

-- the number of the last signal after a call: a signal has the number of its expiry's entry
abbrev pub signalled_after : QueuedState → ObjectCall → ℕ
signalled_after t (calls.Trigger generation reading) = if sends_signal t generation reading then t.timer.stamp + 1 else t.signalled
signalled_after t call = t.signalled

-- the timer after a call
abbrev pub queued_step : QueuedState → ObjectCall → QueuedState
queued_step t (calls.Overflow generation reading) = record t { timer = posix_overflowed t.timer }
queued_step t call = record { timer = posix_step t.timer call; signalled = signalled_after t call }

-- what a call answers
abbrev pub queued_answer : QueuedState → ObjectCall → ObjectReply
queued_answer t (calls.Overflow generation reading) = replies.Full
queued_answer t call = posix_answer t.timer call

-- the whole table
abbrev pub queued_table : StepTable QueuedState ObjectCall ObjectReply
queued_table = record { allows = QueuedAllows; next = queued_step; answer = queued_answer }

-- the timer that it keeps
abbrev pub queued_object_timer : QueuedState → ObjectTimer
queued_object_timer t = posix_object_timer t.timer

-- the start that a call with valid arguments wants
abbrev pub queued_wanted : QueuedState → ObjectCall → Option Wanted
queued_wanted t call = posix_wanted t.timer call

-- POSIX timers with queued signals as a kind of object
abbrev pub queued_kind : ObjectKind QueuedState
queued_kind = record { table = queued_table; timer = queued_object_timer; wanted = queued_wanted }

-- ---- histories

-- a history that one such timer gives, made on this clock and base with this limit on entries
abbrev pub IsQueuedHistory : ClockId → ℕ → ℕ → List (AnsweredCall ObjectCall ObjectReply) → Type 0
IsQueuedHistory clock base limit history = AreCalls queued_table (queued_opening clock base limit) history

-- the state after it
abbrev pub queued_state_after : ClockId → ℕ → ℕ → List (AnsweredCall ObjectCall ObjectReply) → QueuedState
queued_state_after clock base limit history = after_calls queued_table (queued_opening clock base limit) history
