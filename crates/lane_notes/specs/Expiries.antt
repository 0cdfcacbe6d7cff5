-- An expiry run by a lane's passes, whose functions trigger objects and push signals by the passes that are lent to it.
use Rattle.std.specs.Prelude.{ℕ, ◌≡◌, List, []}
use Rattle.seq_timer.specs.declared.context.Context.{Context}
use Rattle.ktime.specs.Readings.{ClockReading}
use Rattle.hr_timers.specs.declared.expiry.ExpireAnswer.{ExpireAnswer}
use Rattle.base_row.specs.declared.log.Receipt.{Receipt}
use Rattle.hr_timers.specs.Expiring.{Expires}
use Rattle.timer_objects.specs.declared.log.ObjectReceipt.{ObjectReceipt}
use Rattle.timer_objects.specs.QueuedFirings.{FiresAll, LeavesQueued, QueuedFiring, queued_firing}
use Rattle.base_row.specs.declared.view.Opening.{Opening}
use Rattle.hr_timers.specs.declared.handler.Restart.{Restart}
use Rattle.hr_timers.specs.declared.numbers.ClaimNumbers.{ClaimNumbers}
use Rattle.hr_timers.specs.Known.{KnownOfTimers}
use Rattle.signal_queue.specs.Views.{KnowsQueue}
use Rattle.lane_notes.specs.Worlds.{WorldOf}
use Rattle.lane_notes.specs.declared.lane.WorldPass.{WorldPass}

-- The handler was lent passes of objects and signals, and began with empty logs; these are the logs of the run, of callbacks and of objects.
pub record RunsGated (x : WorldOf) (p q : WorldPass) (context : Context) (base budget : ℕ) (reading : ClockReading) (log callback_log : List Receipt)
    (object_log : List ObjectReceipt) (answer : ExpireAnswer) : Type 0 where
  pub before : QueuedFiring
  pub after : QueuedFiring
  pub expires : Expires queued_firing x.timers.about context base reading budget p.timers.known before [] q.timers.known after log answer
  pub objects : before.objects.now ≡ x.objects
  pub callbacks : before.callbacks.now ≡ x.callbacks
  pub pass : (before.objects_pass.now ≡ p.objects) × (before.signal_pass.now ≡ p.signals)
  pub back : (after.objects_pass.now ≡ q.objects) × (after.signal_pass.now ≡ q.signals)
  pub fresh : (before.log.receipts ≡ []) × (before.object_log.receipts ≡ [])
  pub logs : (after.log.receipts ≡ callback_log) × (after.object_log.receipts ≡ object_log)

-- a run with a handler of objects, and what it leaves of it
pub record RunsWith (o : Opening) (context : Context) (base : ℕ) (reading : ClockReading) (budget : ℕ)
    (v : KnownOfTimers) (h : QueuedFiring) (log : List Receipt) (w : KnownOfTimers) (h' : QueuedFiring) (log' : List Receipt)
    (answer : ExpireAnswer) : Type 0 where
  pub expires : Expires queued_firing o context base reading budget v h log w h' log' answer
  pub leaves : LeavesQueued h h'
  pub queue : KnowsQueue h.signal_pass.now.knows → KnowsQueue h'.signal_pass.now.knows

-- a function has run by a handler that was lent one of objects, and has it still
pub record FiresLent (o : Opening) {N : Type 0} (name name' : N) (h h' : QueuedFiring) (v w : KnownOfTimers) (c : ClaimNumbers) (reading : ClockReading)
    (restart : Restart) : Type 0 where
  pub lent : name' ≡ name
  pub fires : FiresAll o h h' v w c reading restart
