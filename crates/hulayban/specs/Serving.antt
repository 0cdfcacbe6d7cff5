-- What the functions of a system's timers do in an expiry run: those of objects trigger them, and those of timers by themselves are the caller's.
use Rattle.std.specs.Prelude.{ℕ, ◌≡◌, List, []}
use Rattle.ktime.specs.Readings.{ClockReading}
use Rattle.pass_names.specs.SharedHistory.{LooksOn}
use Rattle.seq_timer.specs.declared.context.Context.{Context}
use Rattle.base_row.specs.declared.log.Receipt.{Receipt}
use Rattle.base_row.specs.declared.view.Opening.{Opening}
use Rattle.hr_timers.specs.declared.expiry.ExpireAnswer.{ExpireAnswer}
use Rattle.hr_timers.specs.declared.handler.Restart.{Restart}
use Rattle.hr_timers.specs.declared.handler.Restart.TheVariants as restarts
use Rattle.hr_timers.specs.declared.numbers.ClaimNumbers.{ClaimNumbers}
use Rattle.hr_timers.specs.Expiring.{Expires}
use Rattle.hr_timers.specs.Handlers.{Meaning}
use Rattle.hr_timers.specs.Known.{KnownOfTimers}
use Rattle.signal_queue.specs.Views.{PassOfQueue}
use Rattle.timer_setting.specs.declared.object_call.ObjectCall.TheVariants as calls
use Rattle.timer_objects.specs.declared.log.ObjectReceipt.{ObjectReceipt}
use Rattle.timer_objects.specs.declared.object.Kind.{Kind}
use Rattle.timer_objects.specs.declared.object.Kind.TheVariants as kinds
use Rattle.timer_objects.specs.Known.{ObjectsOf, ObjectsPass, decl_at}
use Rattle.timer_objects.specs.Signals.{FiresQueued}
use Rattle.timer_objects.specs.Triggers.{Triggers}
use Rattle.hulayban.specs.Calls.{DoesNow}
use Rattle.hulayban.specs.Systems.{HandleOf, KeepsHandle, SystemOf}

-- what functions have in hand: objects, with the passes of them and of their signals and the receipts of their entries, and what the caller's functions have
pub record InHand (A : Type 0) : Type 0 where
  pub of : ObjectsOf
  pub objects : ObjectsPass
  pub signals : PassOfQueue
  pub log : List ObjectReceipt
  pub own : A

module _ {A : Type 0} (m : Meaning A) (o : Opening) (h h' : InHand A) (v w : KnownOfTimers) (c : ClaimNumbers) (reading : ClockReading) (restart : Restart) where
  -- A timer by itself runs the caller's function, and objects are left alone. A queued timer is triggered, and its signal put into the queue; any other object
  -- is triggered.
  abbrev pub RunsFor : Kind → Type 0
  RunsFor kinds.Raw =
      m.did o h.own h'.own v w c reading restart × (h'.objects ≡ h.objects) × (h'.log ≡ h.log) × (h'.signals ≡ h.signals)
  RunsFor kinds.Queued =
      FiresQueued o h.of h.objects h'.objects h.log h'.log v w h.signals.knows h'.signals.knows c.timer c.generation reading
      × LooksOn v w × (restart ≡ restarts.Stop) × (h'.own ≡ h.own)
  RunsFor kind =
      Triggers h.of h.objects h'.objects h.log h'.log v w c (calls.Trigger c.generation reading)
      × LooksOn v w × (restart ≡ restarts.Stop) × (h'.signals ≡ h.signals) × (h'.own ≡ h.own)

  -- the function of a claim has run, by what stands over its timer
  pub record RunsFunction : Type 0 where
    pub same : h'.of ≡ h.of
    pub runs : RunsFor (decl_at h.of c.timer).kind

-- what the functions of a system do, where those of timers by themselves do this
abbrev pub functions : {A : Type 0} → Meaning A → Meaning (InHand A)
functions m = record {
  did = RunsFunction m;
  ready = λ h. m.ready h.own;
  timers = λ h. m.timers h.own;
  bases = λ h. m.bases h.own;
  counters = λ h. m.counters h.own;
}

-- a handle's part of what functions have in hand
abbrev pub in_hand : {A : Type 0} → SystemOf → HandleOf → List ObjectReceipt → A → InHand A
in_hand x h log own = record { of = x.objects; objects = h.objects; signals = h.signals; log = log; own = own }

-- The call took a reading of the clock, and by it ran functions of a base's timers of a context, at most so many. It has finished each claim.
pub record DoesExpire {A : Type 0} (m : Meaning A) (x : SystemOf) (old new : HandleOf) (context : Context) (base budget : ℕ) (own own' : A)
    (answer : ExpireAnswer) : Type 0 where
  pub keeps : KeepsHandle x old new
  pub mid : HandleOf
  pub reading : ClockReading
  pub reads : DoesNow x old mid reading
  pub log : List Receipt
  pub object_log : List ObjectReceipt
  pub expires : Expires (functions m) x.timers.about context base reading budget mid.timers.known (in_hand x mid [] own) [] new.timers.known
      (in_hand x new object_log own') log answer
  pub clock : new.clock ≡ mid.clock
