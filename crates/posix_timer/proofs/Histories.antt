-- Each call of a POSIX timer needs room for its entry, adds one, and leaves the limit.
use Rattle.std.proofs.Common.{arith, refl, ◌≡◌, ◌<◌, ◌+◌}
use Rattle.timer_setting.specs.StepTables.{CountsCalls}
use Rattle.timer_setting.specs.declared.object_call.ObjectCall.{ObjectCall}
use Rattle.timer_setting.specs.declared.object_call.ObjectCall.TheVariants as calls
use Rattle.posix_timer.specs.States.{PosixTimer}
use Rattle.posix_timer.specs.Steps.{PosixAllows, posix_step, posix_table}

pub PosixAllows-room : (t : PosixTimer) (call : ObjectCall) → PosixAllows t call → t.stamp < t.limit
PosixAllows-room t (calls.Settime c) allows = allows.0
PosixAllows-room t (calls.Trigger generation reading) allows = allows
PosixAllows-room t (calls.Accept reading arm) allows = allows.0
PosixAllows-room t call allows = absurd allows

pub posix_step-stamp : (t : PosixTimer) (call : ObjectCall) → PosixAllows t call → (posix_step t call).stamp ≡ t.stamp + 1
posix_step-stamp t (calls.Settime c) allows = refl
posix_step-stamp t (calls.Trigger generation reading) allows = grind arith
posix_step-stamp t (calls.Accept reading arm) allows = grind arith
posix_step-stamp t call allows = absurd allows

pub posix_step-limit : (t : PosixTimer) (call : ObjectCall) → (posix_step t call).limit ≡ t.limit
posix_step-limit t (calls.Settime c) = refl
posix_step-limit t (calls.Trigger generation reading) = grind arith
posix_step-limit t (calls.Accept reading arm) = grind arith
posix_step-limit t call = refl

pub posix_counts : CountsCalls posix_table (λ t. t.stamp) (λ t. t.limit)
posix_counts = record { room = PosixAllows-room; counted = posix_step-stamp; kept = posix_step-limit }
