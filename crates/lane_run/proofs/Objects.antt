-- A call on an object, and one that takes the next signal, from what the library says of it.
use Rattle.std.proofs.Common.{◌≡◌, List, [], length, sym, ap, ◌∙◌, subst}
use Rattle.ktime.specs.Readings.{ClockReading}
use Rattle.base_row.specs.declared.log.Receipt.{Receipt}
use Rattle.timer_objects.specs.declared.log.ObjectReceipt.{ObjectReceipt}
use Rattle.clock_cell.specs.Views.{seen_reading, writes}
use Rattle.clock_cell.specs.declared.pass.ClockPass.{ClockPass}
use Rattle.timer_objects.specs.Calls.{Caller}
use Rattle.signal_queue.specs.Views.{KnowsQueue}
use Rattle.timer_objects.specs.Signals.{IsSignalPass, TakesNext}
use Rattle.timer_objects.specs.declared.signals.NextSignal.{NextSignal}
use Rattle.record_text.specs.declared.record.Answer.{Answer}
use Rattle.lane_notes.specs.Called.{CallsObject, CallsSigwait, LaneOf, LeavesClock, LeavesSignals, ReadsClock, lane_caller, next_told, with_done}
use Rattle.lane_notes.specs.Worlds.{WorldOf}
use Rattle.lane_notes.specs.declared.lane.WorldPass.{WorldPass}

-- The call began with empty logs. The notes were made after it, and left the passes as they were. `y` are the world's parts.
pub calls_object : {x y : WorldOf} {l m : LaneOf} {p : WorldPass} {a : Answer} (Does : WorldOf → Caller → Caller → ClockReading → Type 0)
    {begun : List Receipt} {objects_begun : List ObjectReceipt} (reading : ClockReading) (log : List Receipt) (object_log : List ObjectReceipt) → y ≡ x
    → m.pass ≡ p → ReadsClock l.pass p reading → LeavesSignals l.pass p → (begun ≡ []) × (objects_begun ≡ [])
    → Does y (lane_caller l.pass begun objects_begun) (lane_caller p log object_log) reading → m.notes ≡ with_done l.notes l.label log object_log
    → CallsObject x l m a (Does x)
calls_object {y = y} {l = l} {m = m} {p = p} Does {objects_begun = objects_begun} reading log object_log is same reads alone empty does notes = record {
  reading = reading;
  reads = subst (λ q. ReadsClock l.pass q reading) (sym same) reads;
  log = log;
  object_log = object_log;
  does = subst (λ z. Does z (lane_caller l.pass [] []) (lane_caller m.pass log object_log) reading) is
      (subst (λ q. Does y (lane_caller l.pass [] []) (lane_caller q log object_log) reading) (sym same)
      (subst (λ os. Does y (lane_caller l.pass [] os) (lane_caller p log object_log) reading) empty.1
      (subst (λ rs. Does y (lane_caller l.pass rs objects_begun) (lane_caller p log object_log) reading) empty.0 does)));
  signals = subst (LeavesSignals l.pass) (sym same) alone;
  notes = notes;
}

-- ---- the next signal

-- a reading that passes have seen, where others left the clock alone
pub reads_still : {l p q : WorldPass} {reading : ClockReading} → ReadsClock l p reading → LeavesClock p q → ReadsClock l q reading
reads_still was clock = record {
  same = clock ∙ was.same;
  shows = was.shows ∙ sym (ap (λ (c : ClockPass). seen_reading c.knows) clock);
  count = was.count ∙ sym (ap (λ (c : ClockPass). length (writes c.knows)) clock);
}

-- the call took the signal with empty logs, and the notes were made after it
pub calls_sigwait : {x y : WorldOf} {l m : LaneOf} {p : WorldPass} {a : Answer} {begun : List Receipt} {objects_begun : List ObjectReceipt}
    (reading : ClockReading) (log : List Receipt) (object_log : List ObjectReceipt) (next : NextSignal) → y ≡ x → m.pass ≡ p
    → IsSignalPass x.objects l.pass.signals → KnowsQueue p.signals.knows
    → ReadsClock l.pass p reading → (begun ≡ []) × (objects_begun ≡ [])
    → TakesNext y.objects y.timers.about (lane_caller l.pass begun objects_begun)
    (lane_caller p log object_log) l.pass.signals.knows p.signals.knows reading next
    → m.notes ≡ with_done l.notes l.label log object_log → a ≡ next_told next → CallsSigwait x l m a
calls_sigwait {x = x} {y = y} {l = l} {p = p} {objects_begun = objects_begun} reading log object_log next is same of knows reads empty takes notes told = record {
  of = of;
  knows = subst (λ (q : WorldPass). KnowsQueue q.signals.knows) (sym same) knows;
  reading = reading;
  reads = subst (λ q. ReadsClock l.pass q reading) (sym same) reads;
  log = log;
  object_log = object_log;
  next = next;
  takes = subst (λ (q : WorldPass). TakesNext x.objects x.timers.about (lane_caller l.pass [] [])
      (lane_caller q log object_log) l.pass.signals.knows q.signals.knows reading next) (sym same)
      (subst (λ (z : WorldOf). TakesNext z.objects z.timers.about (lane_caller l.pass [] [])
      (lane_caller p log object_log) l.pass.signals.knows p.signals.knows reading next) is
      (subst (λ os. TakesNext y.objects y.timers.about (lane_caller l.pass [] os)
      (lane_caller p log object_log) l.pass.signals.knows p.signals.knows reading next) empty.1
      (subst (λ rs. TakesNext y.objects y.timers.about (lane_caller l.pass rs objects_begun)
      (lane_caller p log object_log) l.pass.signals.knows p.signals.knows reading next)
      empty.0 takes)));
  notes = notes;
  told = told;
}
