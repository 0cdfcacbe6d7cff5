-- Each call of a descriptor needs room for its entry, adds one, and leaves the limit.
use Rattle.std.proofs.Common.{arith, refl, ◌≡◌, ◌<◌, ◌+◌}
use Rattle.timer_setting.specs.StepTables.{CountsCalls}
use Rattle.timer_setting.specs.declared.object_call.ObjectCall.{ObjectCall}
use Rattle.timer_setting.specs.declared.object_call.ObjectCall.TheVariants as calls
use Rattle.timer_fd.specs.States.{Descriptor}
use Rattle.timer_fd.specs.Steps.{FdAllows, fd_step, fd_table}

pub FdAllows-room : (t : Descriptor) (call : ObjectCall) → FdAllows t call → t.stamp < t.limit
FdAllows-room t (calls.Settime c) allows = allows.0
FdAllows-room t (calls.Trigger generation reading) allows = allows
FdAllows-room t (calls.Read reading arm) allows = allows.0
FdAllows-room t (calls.Gettime reading arm) allows = allows.0
FdAllows-room t call allows = absurd allows

pub fd_step-stamp : (t : Descriptor) (call : ObjectCall) → FdAllows t call → (fd_step t call).stamp ≡ t.stamp + 1
fd_step-stamp t (calls.Settime c) allows = refl
fd_step-stamp t (calls.Trigger generation reading) allows = grind arith
fd_step-stamp t (calls.Read reading arm) allows = grind arith
fd_step-stamp t (calls.Gettime reading arm) allows = refl
fd_step-stamp t call allows = absurd allows

pub fd_step-limit : (t : Descriptor) (call : ObjectCall) → (fd_step t call).limit ≡ t.limit
fd_step-limit t (calls.Settime c) = refl
fd_step-limit t (calls.Trigger generation reading) = grind arith
fd_step-limit t (calls.Read reading arm) = grind arith
fd_step-limit t (calls.Gettime reading arm) = refl
fd_step-limit t call = refl

pub fd_counts : CountsCalls fd_table (λ t. t.stamp) (λ t. t.limit)
fd_counts = record { room = FdAllows-room; counted = fd_step-stamp; kept = fd_step-limit }
