-- What the steps of an expiry run leave.
use Rattle.std.specs.Prelude.{◌≡◌, List, []}
use Rattle.base_row.specs.declared.log.Receipt.{Receipt}
use Rattle.base_row.specs.declared.view.Opening.{Opening}
use Rattle.hr_timers.specs.declared.expiry.ExpireAnswer.{ExpireAnswer}
use Rattle.hr_timers.specs.Expiring.{Expires}
use Rattle.hr_timers.specs.Handlers.{KeepsPass, Meaning}
use Rattle.hr_timers.specs.Known.{KnownOfTimers}
use Rattle.timer_objects.specs.declared.log.ObjectReceipt.{ObjectReceipt}
use Rattle.timer_objects.specs.QueuedFirings.{IsSameQueuedLoan, QueuedFiring}
use Rattle.hulayban.specs.Serving.{InHand, functions, in_hand}
use Rattle.hulayban.specs.Systems.{HandleOf, KeepsHandle, SystemOf}
use Rattle.hulayban.specs.declared.serving.Run.{Run}

-- what a handler of objects and a caller's have in hand
abbrev pub hand_of : {A : Type 0} → QueuedFiring → A → InHand A
hand_of f own =
    record { of = f.objects.now; objects = f.objects_pass.now; signals = f.signal_pass.now; log = f.object_log.receipts; own = own }

module _ {A : Type 0} (m : Meaning A) where
  -- a run by a handler of objects and a caller's, which still have what they were lent
  pub record RunsServed (o : Opening) (run : Run) (k : KnownOfTimers) (f : QueuedFiring) (own : A) (log : List Receipt) (k' : KnownOfTimers) (f' : QueuedFiring)
      (own' : A) (log' : List Receipt) (answer : ExpireAnswer) : Type 0 where
    pub expires : Expires (functions m) o run.context run.base run.reading run.budget k (hand_of f own) log k' (hand_of f' own') log' answer
    pub loan : IsSameQueuedLoan f f'
    pub keeps : KeepsPass k k'

  -- a run by a handle and a caller's functions
  pub record RunsFunctions (x : SystemOf) (old new : HandleOf) (run : Run) (own own' : A) (answer : ExpireAnswer) : Type 0 where
    pub keeps : KeepsHandle x old new
    pub log : List Receipt
    pub object_log : List ObjectReceipt
    pub expires : Expires (functions m) x.timers.about run.context run.base run.reading run.budget old.timers.known (in_hand x old [] own) [] new.timers.known
        (in_hand x new object_log own') log answer
    pub clock : new.clock ≡ old.clock
