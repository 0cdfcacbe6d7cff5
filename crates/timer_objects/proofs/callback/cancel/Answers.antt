use Rattle.std.proofs.Common.{subst, ◌∙◌, ◌++◌, [], ◌∷◌}
use Rattle.hr_timers.specs.Calls.{Cancels}
use Rattle.seq_timer.specs.declared.answer.CancelAnswer.TheVariants as cancels
use Rattle.seq_timer.specs.declared.event.EventBy.TheVariants as events
use Rattle.seq_timer.specs.declared.observation.Observation.TheVariants as observations
use Rattle.timer_objects.specs.Callbacks.{look_receipt}
use Rattle.timer_objects.proofs.Running.{its_own, seen_running}
use Rattle.timer_objects.proofs.callback.cancel.Goals as goal

pub unreachable-requires : goal.unreachable-requires
unreachable-requires g c =
    let told = c.try_to_cancel in
    let cancels = subst (λ t. Cancels c.args.timers.now.about c.args.pass.now.known told.new.pass.known t told.result) c.timer-timer.ensures
    told.ensures.cancels in
    let seen = seen_running _ _ _ c.args.claim.now told.ensures.pass.knows c.requires.claim told.result cancels in
    c.in_default.not-Running seen.0 seen.1 seen.2

pub returns-clause-runs : goal.returns-clause-runs
returns-clause-runs g c =
    let o = c.args.timers.now.about in
    let v = c.args.pass.now.known in
    let w = c.try_to_cancel.new.pass.known in
    let mine = c.args.claim.now in
    let n = c.in-Running.stamp in
    let told = subst (λ t. Cancels o v w t (cancels.Running c.in-Running.generation n)) c.timer-timer.ensures c.in-Running.ensures.cancels in
    let own = its_own o v w mine c.try_to_cancel.ensures.pass.knows c.requires.claim c.in-Running.generation n told in
    record {
      stamp = n;
      cancels = subst (λ h. Cancels o v w mine.timer (cancels.Running h n)) own told;
      receipt = c.note_look.ensures.receipts
          ∙ (λ i. c.args.log.now.receipts ++ record (look_receipt mine n events.Cancel (observations.Running (own i))) { timer = c.timer-timer.ensures i }
          ∷ []);
    }
