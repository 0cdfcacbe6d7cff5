-- What the handler of objects' timers does where some are queued timers.
use Rattle.std.specs.Prelude.{ℕ, ◌≡◌, ◌+◌, length, get_or, min}
use Rattle.ktime.specs.Readings.{ClockReading}
use Rattle.pass_names.specs.SharedHistory.{LooksOn}
use Rattle.base_row.specs.declared.view.Opening.{Opening}
use Rattle.hr_timers.specs.declared.numbers.ClaimNumbers.{ClaimNumbers}
use Rattle.hr_timers.specs.Known.{KnownOfTimers}
use Rattle.hr_timers.specs.Handlers.{Meaning}
use Rattle.hr_timers.specs.declared.handler.Restart.{Restart}
use Rattle.hr_timers.specs.declared.handler.Restart.TheVariants as restarts
use Rattle.base_row.specs.declared.log.Receipt.{Receipt}
use Rattle.base_row.specs.Logs.{LogOf}
use Rattle.timer_objects.specs.declared.callback.Callback.TheVariants as callbacks
use Rattle.timer_objects.specs.declared.log.ObjectReceipt.{ObjectReceipt}
use Rattle.timer_objects.specs.declared.object.Kind.{Kind}
use Rattle.timer_objects.specs.declared.object.Kind.TheVariants as kinds
use Rattle.timer_objects.specs.declared.queued_firing.QueuedFiringWith.{QueuedFiringWith}
use Rattle.timer_setting.specs.declared.object_call.ObjectCall.TheVariants as calls
use Rattle.timer_objects.specs.Callbacks.{RunsCallback, bases_of}
use Rattle.timer_objects.specs.Known.{KeepsObjectsPass, decl_at}
use Rattle.timer_objects.specs.Meaning.{object_meaning}
use Rattle.counted_row.specs.Views.{Knows}
use Rattle.timer_objects.specs.Signals.{FiresQueued, KeepsSignalPass}
use Rattle.timer_objects.specs.Triggers.{Triggers}

-- the handler, with its logs
abbrev pub QueuedFiring : Type 0
QueuedFiring = QueuedFiringWith (LogOf Receipt) (LogOf ObjectReceipt)

-- for how many functions its logs have room
abbrev pub queued_ready_of : QueuedFiring → ℕ
queued_ready_of h = min h.log.spare h.object_log.spare

-- it has borrowed the same objects, the same passes, and the same callbacks
pub record IsSameQueuedLoan (h h' : QueuedFiring) : Type 0 where
  pub objects : h'.objects.now ≡ h.objects.now
  pub callbacks : h'.callbacks.now ≡ h.callbacks.now
  pub lent : h'.objects_pass.ghost_name ≡ h.objects_pass.ghost_name
  pub signals : h'.signal_pass.ghost_name ≡ h.signal_pass.ghost_name

module _ (o : Opening) (h h' : QueuedFiring) (v w : KnownOfTimers) (c : ClaimNumbers) (reading : ClockReading) (restart : Restart) where
  -- objects are left alone by the callback of a timer by itself, and the queue by all but a queued timer
  abbrev pub FiresKind : Kind → Type 0
  FiresKind kinds.Raw =
      RunsCallback o v w c reading h.log.receipts h'.log.receipts (get_or h.callbacks.now c.timer callbacks.Once) restart
      × (h'.objects_pass.now ≡ h.objects_pass.now) × (h'.object_log.receipts ≡ h.object_log.receipts) × (h'.signal_pass.now ≡ h.signal_pass.now)
  FiresKind kinds.Queued =
      FiresQueued o h.objects.now h.objects_pass.now h'.objects_pass.now h.object_log.receipts h'.object_log.receipts v w h.signal_pass.now.knows
      h'.signal_pass.now.knows c.timer c.generation reading
      × LooksOn v w × (h'.log.receipts ≡ h.log.receipts) × (restart ≡ restarts.Stop)
  FiresKind kind =
      Triggers h.objects.now h.objects_pass.now h'.objects_pass.now h.object_log.receipts h'.object_log.receipts v w c (calls.Trigger c.generation reading)
      × LooksOn v w × (h'.log.receipts ≡ h.log.receipts) × (restart ≡ restarts.Stop) × (h'.signal_pass.now ≡ h.signal_pass.now)

  -- the function of a claim has run
  pub record FiresAll : Type 0 where
    pub loan : IsSameQueuedLoan h h'
    pub fires : FiresKind (decl_at h.objects.now c.timer).kind

-- what is left of the loans: they are the same, what the passes have seen and made goes on, and what they know stays true
pub record LeavesQueued (h h' : QueuedFiring) : Type 0 where
  pub loan : IsSameQueuedLoan h h'
  pub keeps : KeepsObjectsPass h.objects_pass.now h'.objects_pass.now
  pub knows : Knows object_meaning h.objects_pass.now.knows → Knows object_meaning h'.objects_pass.now.knows
  pub signals : KeepsSignalPass h.signal_pass.now.knows h'.signal_pass.now.knows

-- it needs a base for each start that is stated, and a counter for each object behind the clock's
abbrev pub queued_firing : Meaning QueuedFiring
queued_firing = record {
  did = FiresAll;
  ready = queued_ready_of;
  timers = λ h. length h.objects.now.decls;
  bases = λ h. bases_of h.callbacks.now;
  counters = λ h. length h.objects.now.decls + 1;
}
