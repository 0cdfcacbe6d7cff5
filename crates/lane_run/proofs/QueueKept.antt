-- What a pass of signals knows stays true in an expiry run that was lent it.
use Rattle.std.proofs.Common.{ℕ, List, sym, subst}
use Rattle.std.proofs.Math.Logic.{⊎_elim}
use Rattle.std.specs.Prelude.{Bool, true, false}
use Rattle.ktime.specs.Readings.{ClockReading}
use Rattle.seq_timer.specs.declared.context.Context.{Context}
use Rattle.base_row.specs.declared.log.Receipt.{Receipt}
use Rattle.base_row.specs.declared.view.Opening.{Opening}
use Rattle.hr_timers.specs.declared.numbers.ClaimNumbers.{ClaimNumbers}
use Rattle.hr_timers.specs.Known.{KnownOfTimers}
use Rattle.hr_timers.specs.declared.expiry.ExpireAnswer.{ExpireAnswer}
use Rattle.hr_timers.specs.declared.handler.Restart.{Restart}
use Rattle.hr_timers.specs.Expiring.{Expires}
use Rattle.hr_timers.proofs.ExpiryEnds.{run_leaves}
use Rattle.signal_queue.specs.Views.{KnowsQueue, PassOfQueue}
use Rattle.signal_queue.specs.declared.signal.Signal.{Signal}
use Rattle.signal_queue.specs.declared.view.QueueView.{QueueView}
use Rattle.timer_objects.specs.declared.object.Kind.{Kind}
use Rattle.timer_objects.specs.declared.object.Kind.TheVariants as kinds
use Rattle.timer_objects.specs.Known.{decl_at}
use Rattle.timer_objects.specs.QueuedFirings.{FiresKind, QueuedFiring, queued_firing}
use Rattle.timer_objects.specs.Signals.{IsPushedBy}

-- what the pass of signals knows stays true from the one handler to the other
abbrev pub KnowsStill : QueuedFiring → QueuedFiring → Type 0
KnowsStill h h' = KnowsQueue h.signal_pass.now.knows → KnowsQueue h'.signal_pass.now.knows

knows_sent : (o : Opening) (v w : KnownOfTimers) (sends : Bool) (s t : QueueView) (signal : Signal) → IsPushedBy o v w sends s t signal → KnowsQueue s
    → KnowsQueue t
knows_sent o v w true s t signal sent knows = sent.2
knows_sent o v w false s t signal same knows = subst KnowsQueue (sym same) knows

module _ (o : Opening) (h h' : QueuedFiring) (v w : KnownOfTimers) (c : ClaimNumbers) (reading : ClockReading) (restart : Restart) where
  knows_kind : (kind : Kind) → FiresKind o h h' v w c reading restart kind → KnowsStill h h'
  knows_kind kinds.Raw by knows = subst (λ (p : PassOfQueue). KnowsQueue p.knows) (sym by.3) knows
  knows_kind kinds.Queued by knows = ⊎_elim
      (λ sends. knows_sent o sends.enters.begun sends.enters.worked _ h.signal_pass.now.knows h'.signal_pass.now.knows _ sends.sent knows)
      (λ none. ⊎_elim (λ over. over.full.1) (λ skips. subst KnowsQueue (sym skips.none) knows) none) by.0
  knows_kind kind by knows = subst (λ (p : PassOfQueue). KnowsQueue p.knows) (sym by.4) knows

-- law: so it does in a run
pub knows_still : (o : Opening) (reading : ClockReading) (x : Context) (base budget : ℕ) (k : KnownOfTimers) (h : QueuedFiring) (log : List Receipt)
    (k' : KnownOfTimers) (h' : QueuedFiring) (log' : List Receipt) (a : ExpireAnswer) → Expires queued_firing o x base reading budget k h log k' h' log' a
    → KnowsStill h h'
knows_still o reading =
    run_leaves queued_firing o reading KnowsStill (λ h knows. knows) (λ h i j one two knows. two (one knows)) (λ h h' v w c restart fires.
    knows_kind o h h' v w c reading restart (decl_at h.objects.now c.timer).kind fires.fires)
