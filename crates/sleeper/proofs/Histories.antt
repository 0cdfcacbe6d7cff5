-- Each call of a sleeper needs room for its entry, adds one, and leaves the limit.
use Rattle.std.proofs.Common.{arith, refl, ◌≡◌, ◌<◌, ◌+◌}
use Rattle.timer_setting.specs.StepTables.{CountsCalls}
use Rattle.timer_setting.specs.declared.object_call.ObjectCall.{ObjectCall}
use Rattle.timer_setting.specs.declared.object_call.ObjectCall.TheVariants as calls
use Rattle.sleeper.specs.States.{Sleeper}
use Rattle.sleeper.specs.Steps.{SleeperAllows, sleeper_step, sleeper_table}

pub room : (s : Sleeper) (call : ObjectCall) → SleeperAllows s call → s.stamp < s.limit
room s (calls.Sleep c) allows = allows.0
room s (calls.Trigger generation reading) allows = allows
room s (calls.Interrupt reading) allows = allows.0
room s call allows = absurd allows

pub counted : (s : Sleeper) (call : ObjectCall) → SleeperAllows s call → (sleeper_step s call).stamp ≡ s.stamp + 1
counted s (calls.Sleep c) allows = refl
counted s (calls.Trigger generation reading) allows = grind arith
counted s (calls.Interrupt reading) allows = refl
counted s call allows = absurd allows

kept : (s : Sleeper) (call : ObjectCall) → (sleeper_step s call).limit ≡ s.limit
kept s (calls.Sleep c) = refl
kept s (calls.Trigger generation reading) = grind arith
kept s (calls.Interrupt reading) = refl
kept s call = refl

pub sleeper_counts : CountsCalls sleeper_table (λ s. s.stamp) (λ s. s.limit)
sleeper_counts = record { room = room; counted = counted; kept = kept }
