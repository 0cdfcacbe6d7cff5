-- What the handler of objects' timers does.
use Rattle.std.specs.Prelude.{ℕ, ◌≡◌, ◌+◌, length, get_or, min, Option, Some, None}
use Rattle.ktime.specs.Readings.{ClockReading}
use Rattle.pass_names.specs.SharedHistory.{LooksOn}
use Rattle.base_row.specs.declared.view.Opening.{Opening}
use Rattle.hr_timers.specs.declared.numbers.ClaimNumbers.{ClaimNumbers}
use Rattle.hr_timers.specs.Known.{KnownOfTimers}
use Rattle.hr_timers.specs.Handlers.{Meaning}
use Rattle.hr_timers.specs.declared.handler.Restart.{Restart}
use Rattle.hr_timers.specs.declared.handler.Restart.TheVariants as restarts
use Rattle.base_row.specs.declared.log.Receipt.{Receipt}
use Rattle.base_row.specs.Logs.{LogOf}
use Rattle.timer_objects.specs.declared.callback.Callback.{Callback}
use Rattle.timer_objects.specs.declared.callback.Callback.TheVariants as callbacks
use Rattle.timer_objects.specs.declared.firing.FiringWith.{FiringWith}
use Rattle.timer_objects.specs.declared.log.ObjectReceipt.{ObjectReceipt}
use Rattle.timer_setting.specs.declared.object_call.ObjectCall.{ObjectCall}
use Rattle.counted_row.specs.Views.{Knows}
use Rattle.timer_objects.specs.Meaning.{object_meaning}
use Rattle.timer_objects.specs.Known.{KeepsObjectsPass, decl_at}
use Rattle.timer_objects.specs.Callbacks.{RunsCallback, bases_of}
use Rattle.timer_objects.specs.Triggers.{Triggers, trigger_of}

-- the handler, with its logs
abbrev pub Firing : Type 0
Firing = FiringWith (LogOf Receipt) (LogOf ObjectReceipt)

-- for how many functions its logs have room
abbrev pub ready_of : Firing → ℕ
ready_of h = min h.log.spare h.object_log.spare

-- the callback that is stated for a timer
abbrev pub callback_at : Firing → ℕ → Callback
callback_at h t = get_or h.callbacks.now t callbacks.Once

-- it has borrowed the same objects, the same pass of theirs, and the same callbacks
pub record IsSameLoan (h h' : Firing) : Type 0 where
  pub objects : h'.objects.now ≡ h.objects.now
  pub callbacks : h'.callbacks.now ≡ h.callbacks.now
  pub lent : h'.objects_pass.ghost_name ≡ h.objects_pass.ghost_name

-- what is left of a loan: it is the same, what the pass has seen and made goes on, and what it knows stays true
pub record LeavesPass (h h' : Firing) : Type 0 where
  pub loan : IsSameLoan h h'
  pub keeps : KeepsObjectsPass h.objects_pass.now h'.objects_pass.now
  pub knows : Knows object_meaning h.objects_pass.now.knows → Knows object_meaning h'.objects_pass.now.knows

module _ (o : Opening) (h h' : Firing) (v w : KnownOfTimers) (c : ClaimNumbers) (reading : ClockReading) (restart : Restart) where
  -- a timer by itself runs its callback, and objects are left alone; an object is triggered, and timers are only looked at
  abbrev pub FiresBy : Option ObjectCall → Type 0
  FiresBy None = RunsCallback o v w c reading h.log.receipts h'.log.receipts (callback_at h c.timer) restart
      × (h'.objects_pass.now ≡ h.objects_pass.now) × (h'.object_log.receipts ≡ h.object_log.receipts)
  FiresBy (Some call) = Triggers h.objects.now h.objects_pass.now h'.objects_pass.now h.object_log.receipts h'.object_log.receipts v w c call
      × LooksOn v w × (h'.log.receipts ≡ h.log.receipts) × (restart ≡ restarts.Stop)

  -- the function of a claim has run
  pub record Fires : Type 0 where
    pub loan : IsSameLoan h h'
    pub fires : FiresBy (trigger_of (decl_at h.objects.now c.timer).kind c reading)

-- it needs a base for each start that is stated, and a counter for each object behind the clock's
abbrev pub firing : Meaning Firing
firing = record {
  did = Fires;
  ready = ready_of;
  timers = λ h. length h.objects.now.decls;
  bases = λ h. bases_of h.callbacks.now;
  counters = λ h. length h.objects.now.decls + 1;
}
