-- A function that was served is one of the system's functions; and what these leave of what they have in hand.
use Rattle.std.proofs.Common.{◌≡◌, List, refl, sym, ap, subst, inl, inr, ◌∙◌}
use Rattle.std.specs.Prelude.{Bool, true, false}
use Rattle.ktime.specs.Readings.{ClockReading}
use Rattle.base_row.specs.declared.view.Opening.{Opening}
use Rattle.counted_row.specs.Views.{Knows}
use Rattle.hr_timers.specs.declared.handler.Restart.{Restart}
use Rattle.hr_timers.specs.declared.numbers.ClaimNumbers.{ClaimNumbers}
use Rattle.hr_timers.specs.Handlers.{Meaning}
use Rattle.hr_timers.specs.Known.{KnownOfTimers}
use Rattle.signal_queue.specs.declared.signal.Signal.{Signal}
use Rattle.signal_queue.specs.declared.view.QueueView.{QueueView}
use Rattle.signal_queue.specs.Views.{PassOfQueue}
use Rattle.timer_setting.specs.declared.object_call.ObjectCall.{ObjectCall}
use Rattle.timer_objects.specs.declared.log.ObjectReceipt.{ObjectReceipt}
use Rattle.timer_objects.specs.declared.object.Kind.{Kind}
use Rattle.timer_objects.specs.declared.object.Kind.TheVariants as kinds
use Rattle.timer_objects.specs.Known.{ObjectsOf, ObjectsPass, decl_at}
use Rattle.timer_objects.specs.Meaning.{object_meaning}
use Rattle.timer_objects.specs.QueuedFirings.{FiresKind, IsSameQueuedLoan, QueuedFiring}
use Rattle.timer_objects.specs.Signals.{FiresQueued, IsPushedBy}
use Rattle.timer_objects.specs.Triggers.{Triggers}
use Rattle.hulayban.specs.Runs.{hand_of}
use Rattle.hulayban.specs.Served.{ServedBy, Serves}
use Rattle.hulayban.specs.Serving.{InHand, RunsFor, RunsFunction, in_hand}
use Rattle.hulayban.specs.Systems.{HandleOf, SystemOf}

pub loan_same : (f : QueuedFiring) → IsSameQueuedLoan f f
loan_same f = record { objects = refl; callbacks = refl; lent = refl; signals = refl }

pub loan_trans : (f g h : QueuedFiring) → IsSameQueuedLoan f g → IsSameQueuedLoan g h → IsSameQueuedLoan f h
loan_trans f g h a b = record {
  objects = b.objects ∙ a.objects;
  callbacks = b.callbacks ∙ a.callbacks;
  lent = b.lent ∙ a.lent;
  signals = b.signals ∙ a.signals;
}

-- so it has, where they are a handle's
pub hand_is : {A : Type 0} (f : QueuedFiring) (own : A) (x : SystemOf) (h : HandleOf) (log : List ObjectReceipt) → f.objects.now ≡ x.objects
    → f.objects_pass.now ≡ h.objects → f.signal_pass.now ≡ h.signals → f.object_log.receipts ≡ log → hand_of f own ≡ in_hand x h log own
hand_is f own x h log of objects signals receipts =
    ap (λ (o : ObjectsOf). record (hand_of f own) { of = o }) of
    ∙ ap (λ (p : ObjectsPass). record (hand_of f own) { of = x.objects; objects = p }) objects
    ∙ ap (λ (p : PassOfQueue). record (hand_of f own) { of = x.objects; objects = h.objects; signals = p }) signals
    ∙ ap (λ (l : List ObjectReceipt). in_hand x h l own) receipts

module _ {A : Type 0} (m : Meaning A) (o : Opening) (f f' : QueuedFiring) (h h' : A) (v w : KnownOfTimers) (c : ClaimNumbers) (reading : ClockReading)
    (restart : Restart) where
  same_loan : (kind : Kind) → ServedBy m o f f' h h' v w c reading restart kind → IsSameQueuedLoan f f'
  same_loan kinds.Raw by = subst (λ (k : QueuedFiring). IsSameQueuedLoan f k) (sym by.1) (loan_same f)
  same_loan kind by = by.0.loan

  runs_for : (kind : Kind) → ServedBy m o f f' h h' v w c reading restart kind → (decl_at f.objects.now c.timer).kind ≡ kind
      → RunsFor m o (hand_of f h) (hand_of f' h') v w c reading restart kind
  runs_for kinds.Raw by is = (
    by.0,
    ap (λ (f : QueuedFiring). f.objects_pass.now) by.1,
    ap (λ (f : QueuedFiring). f.object_log.receipts) by.1,
    ap (λ (f : QueuedFiring). f.signal_pass.now) by.1,
  )
  runs_for kinds.Queued by is = let fires = subst (FiresKind o f f' v w c reading restart) is by.0.fires in (fires.0, fires.1, fires.3, by.1)
  runs_for kind by is = let fires = subst (FiresKind o f f' v w c reading restart) is by.0.fires in (fires.0, fires.1, fires.3, fires.4, by.1)

  module _ {N M : Type 0} (x : ObjectsOf) (lent lent' : N) (kept kept' : M) (s : Serves m o x lent lent' kept kept' f f' h h' v w c reading restart) where
    served_by : ServedBy m o f f' h h' v w c reading restart (decl_at f.objects.now c.timer).kind
    served_by = subst (λ (y : ObjectsOf). ServedBy m o f f' h h' v w c reading restart (decl_at y c.timer).kind) (sym s.of) s.does

    -- law: what was lent is lent still
    pub served_loan : IsSameQueuedLoan f f'
    served_loan = same_loan (decl_at f.objects.now c.timer).kind served_by

    -- law: what was served has run
    pub served_runs : RunsFunction m o (hand_of f h) (hand_of f' h') v w c reading restart
    served_runs = record { same = served_loan.objects; runs = runs_for (decl_at f.objects.now c.timer).kind served_by refl }

-- The objects are the same, the passes keep their names, and what that of the objects knows stays true.
pub record LeavesHand {A : Type 0} (h h' : InHand A) : Type 0 where
  pub of : h'.of ≡ h.of
  pub objects : h'.objects.knows.pass.id ≡ h.objects.knows.pass.id
  pub knows : Knows object_meaning h.objects.knows → Knows object_meaning h'.objects.knows
  pub signals : h'.signals.knows.pass.id ≡ h.signals.knows.pass.id

pub hand_same : {A : Type 0} (h : InHand A) → LeavesHand h h
hand_same h = record { of = refl; objects = refl; knows = λ k. k; signals = refl }

pub hand_trans : {A : Type 0} (h i j : InHand A) → LeavesHand h i → LeavesHand i j → LeavesHand h j
hand_trans h i j a b =
    record { of = b.of ∙ a.of; objects = b.objects ∙ a.objects; knows = λ k. b.knows (a.knows k); signals = b.signals ∙ a.signals }

sent_named : (o : Opening) (v w : KnownOfTimers) (sends : Bool) (s t : QueueView) (signal : Signal) → IsPushedBy o v w sends s t signal
    → t.pass.id ≡ s.pass.id
sent_named o v w true s t signal sent = sent.0.id
sent_named o v w false s t signal same = ap (λ (v : QueueView). v.pass.id) same

module _ {A : Type 0} (m : Meaning A) (o : Opening) (h h' : InHand A) (v w : KnownOfTimers) (c : ClaimNumbers) (reading : ClockReading) (restart : Restart)
    (same : h'.of ≡ h.of) where
  by_trigger : (call : ObjectCall) → Triggers h.of h.objects h'.objects h.log h'.log v w c call → h'.signals ≡ h.signals → LeavesHand h h'
  by_trigger call (inl enters) alone = record {
    of = same;
    objects = enters.commits.adds.id;
    knows = λ k. enters.commits.knows;
    signals = ap (λ (p : PassOfQueue). p.knows.pass.id) alone;
  }
  by_trigger call (inr skips) alone = record {
    of = same;
    objects = skips.reads.pass.id;
    knows = λ k. skips.reads.knows;
    signals = ap (λ (p : PassOfQueue). p.knows.pass.id) alone;
  }

  by_signal : FiresQueued o h.of h.objects h'.objects h.log h'.log v w h.signals.knows h'.signals.knows c.timer c.generation reading → LeavesHand h h'
  by_signal (inl sends) = record {
    of = same;
    objects = sends.enters.commits.adds.id;
    knows = λ k. sends.enters.commits.knows;
    signals = sent_named o sends.enters.begun sends.enters.worked _ h.signals.knows h'.signals.knows _ sends.sent;
  }
  by_signal (inr (inl over)) = record {
    of = same;
    objects = over.enters.commits.adds.id;
    knows = λ k. over.enters.commits.knows;
    signals = over.full.0.looks.id;
  }
  by_signal (inr (inr skips)) = record {
    of = same;
    objects = skips.skips.reads.pass.id;
    knows = λ k. skips.skips.reads.knows;
    signals = ap (λ (v : QueueView). v.pass.id) skips.none;
  }

  by_kind : (kind : Kind) → RunsFor m o h h' v w c reading restart kind → LeavesHand h h'
  by_kind kinds.Raw by = record {
    of = same;
    objects = ap (λ (p : ObjectsPass). p.knows.pass.id) by.1;
    knows = subst (λ (p : ObjectsPass). Knows object_meaning h.objects.knows → Knows object_meaning p.knows) (sym by.1) (λ k. k);
    signals = ap (λ (p : PassOfQueue). p.knows.pass.id) by.3;
  }
  by_kind kinds.Queued by = by_signal by.0
  by_kind kind by = by_trigger _ by.0 by.3

-- law: a function leaves what it has in hand so
pub runs_leave : {A : Type 0} (m : Meaning A) (o : Opening) (h h' : InHand A) (v w : KnownOfTimers) (c : ClaimNumbers) (reading : ClockReading)
    (restart : Restart) → RunsFunction m o h h' v w c reading restart → LeavesHand h h'
runs_leave m o h h' v w c reading restart ran = by_kind m o h h' v w c reading restart ran.same _ ran.runs
