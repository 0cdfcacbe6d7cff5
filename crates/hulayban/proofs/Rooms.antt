-- What was done by logs that were just cleared, by a system that was opened.
use Rattle.std.proofs.Common.{◌≡◌, [], subst}
use Rattle.ktime.specs.Readings.{ClockReading}
use Rattle.base_row.specs.declared.log.Receipt.{Receipt}
use Rattle.base_row.specs.declared.view.Opening.{Opening}
use Rattle.base_row.specs.Logs.{LogOf}
use Rattle.signal_queue.specs.declared.view.QueueView.{QueueView}
use Rattle.timer_objects.specs.Calls.{Caller}
use Rattle.timer_objects.specs.Known.{ObjectsOf}
use Rattle.timer_objects.specs.Signals.{TakesNext}
use Rattle.timer_objects.specs.declared.log.ObjectReceipt.{ObjectReceipt}
use Rattle.timer_objects.specs.declared.signals.NextSignal.{NextSignal}
use Rattle.timer_objects.specs.declared.signals.NextSignal.TheVariants as nexts
use Rattle.hulayban.specs.Calls.{caller}
use Rattle.hulayban.specs.Systems.{HandleOf, SystemOf}

-- law: it was done by empty logs
pub from_empty : (Does : SystemOf → Caller → Caller → ClockReading → Type 0) (x y : SystemOf) (h : HandleOf) (l : LogOf Receipt) (k : LogOf ObjectReceipt) (new : Caller)
    (reading : ClockReading) → x ≡ y → (l ≡ record { receipts = []; spare = 68 }) × (k ≡ record { receipts = []; spare = 1 })
    → Does x (caller h l.receipts k.receipts) new reading → Does y (caller h [] []) new reading
from_empty Does x y h l k new reading e empty does =
    subst (λ (z : SystemOf). Does z (caller h [] []) new reading) e
    (subst (λ (l : LogOf Receipt). Does x (caller h l.receipts []) new reading) empty.0
    (subst (λ (k : LogOf ObjectReceipt). Does x (caller h l.receipts k.receipts) new reading) empty.1 does))

-- law: the call for the next signal keeps the name of its pass of the queue
pub next_named : (x : ObjectsOf) (o : Opening) (old new : Caller) (s t : QueueView) (reading : ClockReading) (next : NextSignal)
    → TakesNext x o old new s t reading next → t.pass.id ≡ s.pass.id
next_named x o old new s t reading nexts.NoneQueued taken = taken.0.looks.id
next_named x o old new s t reading next taken = taken.2.pops.id
