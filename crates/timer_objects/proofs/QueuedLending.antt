-- What the functions of timers leave of the passes of objects and of signals that were lent to them, and what a run of them leaves.
use Rattle.std.proofs.Common.{◌≡◌, ℕ, List, refl, sym, ap, subst, inl, inr, ◌∙◌}
use Rattle.ktime.specs.Readings.{ClockReading}
use Rattle.base_row.specs.declared.view.Opening.{Opening}
use Rattle.base_row.specs.declared.log.Receipt.{Receipt}
use Rattle.hr_timers.specs.declared.numbers.ClaimNumbers.{ClaimNumbers}
use Rattle.hr_timers.specs.Known.{KnownOfTimers}
use Rattle.seq_timer.specs.declared.context.Context.{Context}
use Rattle.hr_timers.specs.declared.expiry.ExpireAnswer.{ExpireAnswer}
use Rattle.hr_timers.specs.declared.handler.Restart.{Restart}
use Rattle.hr_timers.specs.Expiring.{Expires}
use Rattle.hr_timers.proofs.ExpiryEnds.{run_leaves}
use Rattle.counted_row.specs.Views.{Knows}
use Rattle.signal_queue.specs.Views.{PassOfQueue}
use Rattle.timer_setting.specs.declared.object_call.ObjectCall.TheVariants as calls
use Rattle.timer_objects.specs.declared.object.Kind.{Kind}
use Rattle.timer_objects.specs.declared.object.Kind.TheVariants as kinds
use Rattle.timer_objects.specs.Known.{IsObjectsPass, KeepsObjectsPass, ObjectsOf, ObjectsPass}
use Rattle.timer_objects.specs.Meaning.{object_meaning}
use Rattle.timer_objects.specs.QueuedFirings.{FiresKind, IsSameQueuedLoan, LeavesQueued, QueuedFiring, queued_firing}
use Rattle.timer_objects.specs.Signals.{FiresQueued, IsPushedBy, IsSignalPass, KeepsSignalPass}
use Rattle.timer_objects.specs.Triggers.{Triggers}
use Rattle.signal_queue.specs.declared.view.QueueView.{QueueView}
use Rattle.signal_queue.specs.declared.signal.Signal.{Signal}
use Rattle.signal_queue.specs.declared.signal.Turn.{Turn}
use Rattle.signal_queue.specs.Calls.{TakesTurn}
use Rattle.pass_names.specs.Passes.{Begins, Looks}
use Rattle.pass_names.proofs.Passes.{begins_refl, begins_trans, goes_refl, goes_trans}
use Rattle.std.specs.Prelude.{Bool, true, false}
use Rattle.timer_objects.proofs.Lending.{keeps_added, keeps_both, keeps_read, keeps_same, pass_left}

signals_same : (s : QueueView) → KeepsSignalPass s s
signals_same s = record { id = refl; seen = goes_refl s.pass.seen; mine = begins_refl s.pass.mine }

pub signals_taken : (s t : QueueView) (turn : Turn) → TakesTurn s t turn → KeepsSignalPass s t
signals_taken s t turn taken = record { id = taken.id; seen = taken.seen; mine = record { rest = _; whole = taken.mine } }

pub signals_looked : (s t : QueueView) → Looks s.pass t.pass → KeepsSignalPass s t
signals_looked s t looks =
    record { id = looks.id; seen = looks.seen; mine = subst (λ m. Begins s.pass.mine m) (sym looks.mine) (begins_refl s.pass.mine) }

pub signals_alone : (s t : QueueView) → t ≡ s → KeepsSignalPass s t
signals_alone s t same = subst (KeepsSignalPass s) (sym same) (signals_same s)

pub queued_same : (h : QueuedFiring) → LeavesQueued h h
queued_same h = record {
  loan = record { objects = refl; callbacks = refl; lent = refl; signals = refl };
  keeps = keeps_same h.objects_pass.now;
  knows = λ k. k;
  signals = signals_same h.signal_pass.now.knows;
}

pub queued_trans : (h i j : QueuedFiring) → LeavesQueued h i → LeavesQueued i j → LeavesQueued h j
queued_trans h i j a b = record {
  loan = record {
    objects = b.loan.objects ∙ a.loan.objects;
    callbacks = b.loan.callbacks ∙ a.loan.callbacks;
    lent = b.loan.lent ∙ a.loan.lent;
    signals = b.loan.signals ∙ a.loan.signals;
  };
  keeps = keeps_both h.objects_pass.now i.objects_pass.now j.objects_pass.now a.keeps b.keeps;
  knows = λ k. b.knows (a.knows k);
  signals = record {
    id = b.signals.id ∙ a.signals.id;
    seen = goes_trans a.signals.seen b.signals.seen;
    mine = begins_trans a.signals.mine b.signals.mine;
  };
}

-- a signal that was sent, or none, leaves the queue's pass so
signals_sent : (o : Opening) (v w : KnownOfTimers) (sends : Bool) (s t : QueueView) (signal : Signal) → IsPushedBy o v w sends s t signal
    → KeepsSignalPass s t
signals_sent o v w true s t signal sent = signals_taken s t _ sent.0
signals_sent o v w false s t signal same = signals_alone s t same

module _ (o : Opening) (h h' : QueuedFiring) (v w : KnownOfTimers) (c : ClaimNumbers) (reading : ClockReading) (restart : Restart)
    (loan : IsSameQueuedLoan h h') where
  -- the expiry of an object that sends no signals
  by_trigger : Triggers h.objects.now h.objects_pass.now h'.objects_pass.now h.object_log.receipts h'.object_log.receipts v w c
      (calls.Trigger c.generation reading) → h'.signal_pass.now ≡ h.signal_pass.now → LeavesQueued h h'
  by_trigger (inl enters) same = record {
    loan = loan;
    keeps = keeps_added h.objects_pass.now h'.objects_pass.now c.timer _ enters.commits.adds;
    knows = λ k. enters.commits.knows;
    signals = signals_alone h.signal_pass.now.knows h'.signal_pass.now.knows (ap (λ (p : PassOfQueue). p.knows) same);
  }
  by_trigger (inr skips) same = record {
    loan = loan;
    keeps = keeps_read h.objects_pass.now h'.objects_pass.now skips.reads.pass;
    knows = λ k. skips.reads.knows;
    signals = signals_alone h.signal_pass.now.knows h'.signal_pass.now.knows (ap (λ (p : PassOfQueue). p.knows) same);
  }

  -- that of a queued timer
  by_signal : FiresQueued o h.objects.now h.objects_pass.now h'.objects_pass.now h.object_log.receipts h'.object_log.receipts v w h.signal_pass.now.knows
      h'.signal_pass.now.knows c.timer c.generation reading → LeavesQueued h h'
  by_signal (inl sends) = record {
    loan = loan;
    keeps = keeps_added h.objects_pass.now h'.objects_pass.now c.timer _ sends.enters.commits.adds;
    knows = λ k. sends.enters.commits.knows;
    signals = signals_sent o sends.enters.begun sends.enters.worked _ h.signal_pass.now.knows h'.signal_pass.now.knows _ sends.sent;
  }
  by_signal (inr (inl over)) = record {
    loan = loan;
    keeps = keeps_added h.objects_pass.now h'.objects_pass.now c.timer _ over.enters.commits.adds;
    knows = λ k. over.enters.commits.knows;
    signals = signals_looked h.signal_pass.now.knows h'.signal_pass.now.knows over.full.0.looks;
  }
  by_signal (inr (inr skips)) = record {
    loan = loan;
    keeps = keeps_read h.objects_pass.now h'.objects_pass.now skips.skips.reads.pass;
    knows = λ k. skips.skips.reads.knows;
    signals = signals_alone h.signal_pass.now.knows h'.signal_pass.now.knows skips.none;
  }

  by_kind : (kind : Kind) → FiresKind o h h' v w c reading restart kind → LeavesQueued h h'
  by_kind kinds.Raw by = record {
    loan = loan;
    keeps = subst (λ (p : ObjectsPass). KeepsObjectsPass h.objects_pass.now p) (sym by.1) (keeps_same h.objects_pass.now);
    knows = subst (λ (p : ObjectsPass). Knows object_meaning h.objects_pass.now.knows → Knows object_meaning p.knows) (sym by.1) (λ k. k);
    signals = signals_alone h.signal_pass.now.knows h'.signal_pass.now.knows (ap (λ (p : PassOfQueue). p.knows) by.3);
  }
  by_kind kinds.Queued by = by_signal by.0
  by_kind kind by = by_trigger by.0 by.4

-- a run of functions leaves the passes so
pub leaves_passes : (o : Opening) (reading : ClockReading) (x : Context) (base budget : ℕ) (k : KnownOfTimers) (h : QueuedFiring) (log : List Receipt)
    (k' : KnownOfTimers) (h' : QueuedFiring) (log' : List Receipt) (a : ExpireAnswer) → Expires queued_firing o x base reading budget k h log k' h' log' a
    → LeavesQueued h h'
leaves_passes o reading =
    run_leaves queued_firing o reading LeavesQueued queued_same queued_trans (λ h h' v w c restart fires.
    by_kind o h h' v w c reading restart fires.loan _ fires.fires)

-- a pass of objects that was lent is one of them after it
pub objects_after : (x : ObjectsOf) (h h' : QueuedFiring) → h.objects.now ≡ x → LeavesQueued h h' → Knows object_meaning h.objects_pass.now.knows
    → IsObjectsPass x h'.objects_pass.now
objects_after x h h' e left knows =
    pass_left x h'.objects.now h'.objects_pass.now (left.loan.objects ∙ e) h'.row h'.idle h'.unclaimed (left.knows knows)

-- and so is the pass of their queue
pub signals_after : (x : ObjectsOf) (h h' : QueuedFiring) → h.objects.now ≡ x → LeavesQueued h h' → IsSignalPass x h'.signal_pass.now
signals_after x h h' e left = subst (λ (y : ObjectsOf). IsSignalPass y h'.signal_pass.now) (left.loan.objects ∙ e) h'.signals
