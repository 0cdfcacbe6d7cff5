use Rattle.std.proofs.Common.{◌≡◌, ◌∙◌, List, [], refl, rules, sym, ap, subst}
use Rattle.counted_row.specs.Views.{Knows}
use Rattle.timer_objects.specs.Meaning.{object_meaning}
use Rattle.timer_objects.specs.Known.{ObjectsPass}
use Rattle.base_row.specs.declared.log.Receipt.{Receipt}
use Rattle.hr_timers.specs.Expiring.{Expires}
use Rattle.base_row.specs.Logs.{LogOf}
use Rattle.signal_queue.specs.Views.{KnowsQueue, PassOfQueue}
use Rattle.timer_objects.specs.QueuedFirings.{queued_firing}
use Rattle.timer_objects.specs.declared.log.ObjectReceipt.{ObjectReceipt}
use Rattle.lane_notes.specs.Expiries.{RunsGated}
use Rattle.lane_notes.specs.Worlds.{ArePassesOf, KeepPasses, WorldOf}
use Rattle.lane_notes.specs.declared.lane.WorldPass.{WorldPass}
use Rattle.timer_objects.proofs.QueuedLending.{objects_after, signals_after}
use Rattle.lane_run.proofs.expiring.run_gated.Goals as goal

pub returns-clause-pass : goal.returns-clause-pass
returns-clause-pass g c =
    let ran = c.run_with-answer in
    let was = c.requires.pass in
    let objects_was : c.reserve-2.new.self.objects_pass.now ≡ c.args.pass.now.objects = c.reserve-2.ensures.pass.0 ∙ c.make-firing.ensures.pass.0 in
    let signals_was : c.reserve-2.new.self.signal_pass.now ≡ c.args.pass.now.signals = c.reserve-2.ensures.pass.1 ∙ c.make-firing.ensures.pass.1 in
    let same = c.reserve-2.ensures.loan.objects ∙ c.make-firing.ensures.objects ∙ ap (λ (x : WorldOf). x.objects) c.world.view_is in
    let after : WorldPass = record c.args.pass.now {
      timers = ran.new.pass;
      objects = ran.new.firing.objects_pass.now;
      signals = ran.new.firing.signal_pass.now;
    } in
    let are : ArePassesOf c.args.world.now after = record {
      timers = search rules;
      objects = objects_after _ _ _ same ran.ensures.runs.leaves (subst (λ (p : ObjectsPass). Knows object_meaning p.knows)
          (sym objects_was) was.objects.knows);
      clock = was.clock;
      known = was.known;
      heard = was.heard;
      signals = signals_after _ _ _ same ran.ensures.runs.leaves;
      queue = ran.ensures.runs.queue (subst (λ (p : PassOfQueue). KnowsQueue p.knows) (sym signals_was) was.queue);
    } in
    subst (λ (p : WorldPass). ArePassesOf c.args.world.now p) (search rules) are

pub returns-clause-keeps : goal.returns-clause-keeps
returns-clause-keeps g c =
    let ran = c.run_with-answer in
    let objects_was : c.reserve-2.new.self.objects_pass.now ≡ c.args.pass.now.objects = c.reserve-2.ensures.pass.0 ∙ c.make-firing.ensures.pass.0 in
    let signals_was : c.reserve-2.new.self.signal_pass.now ≡ c.args.pass.now.signals = c.reserve-2.ensures.pass.1 ∙ c.make-firing.ensures.pass.1 in
    let after : WorldPass = record c.args.pass.now {
      timers = ran.new.pass;
      objects = ran.new.firing.objects_pass.now;
      signals = ran.new.firing.signal_pass.now;
    } in
    let keeps : KeepPasses c.args.pass.now after = record {
      timers = ran.ensures.keeps.id;
      claims = ran.ensures.keeps.claims;
      objects = ran.ensures.runs.leaves.keeps.id ∙ ap (λ (p : ObjectsPass). p.knows.pass.id) objects_was;
      clock = refl;
      signals = ran.ensures.runs.leaves.signals.id ∙ ap (λ (p : PassOfQueue). p.knows.pass.id) signals_was;
    } in
    subst (λ (p : WorldPass). KeepPasses c.args.pass.now p) (search rules) keeps

pub returns-clause-runs : goal.returns-clause-runs
returns-clause-runs g c =
    let ready = c.reserve-2.new.self in
    let ran = c.run_with-answer in
    let empty : c.reserve.new.self.receipts ≡ [] = search rules in
    let after : WorldPass = record c.args.pass.now {
      timers = ran.new.pass;
      objects = ran.new.firing.objects_pass.now;
      signals = ran.new.firing.signal_pass.now;
    } in
    let runs : RunsGated c.args.world.now c.args.pass.now after c.args.context c.args.base c.args.budget c.args.reading ran.new.log.receipts
    c.into_logs-callback_log.result.0.receipts c.into_logs-callback_log.result.1.receipts ran.result = record {
      before = ready;
      after = ran.new.firing;
      expires = subst (λ (x : WorldOf). Expires queued_firing x.timers.about c.args.context c.args.base c.args.reading c.args.budget c.args.pass.now.timers.known ready []
          ran.new.pass.known ran.new.firing ran.new.log.receipts ran.result) c.world.view_is
          (subst (λ (log : List Receipt). Expires queued_firing c.world.inside.timers.about c.args.context c.args.base c.args.reading c.args.budget
          c.args.pass.now.timers.known ready log ran.new.pass.known ran.new.firing ran.new.log.receipts ran.result) empty ran.ensures.runs.expires);
      objects = c.reserve-2.ensures.loan.objects ∙ c.make-firing.ensures.objects ∙ ap (λ (x : WorldOf). x.objects) c.world.view_is;
      callbacks = c.reserve-2.ensures.loan.callbacks ∙ c.make-firing.ensures.callbacks ∙ c.deref.ensures.value
          ∙ ap (λ (x : WorldOf). x.callbacks) c.world.view_is;
      pass = (c.reserve-2.ensures.pass.0 ∙ c.make-firing.ensures.pass.0, c.reserve-2.ensures.pass.1 ∙ c.make-firing.ensures.pass.1);
      back = (refl, refl);
      fresh = (c.reserve-2.ensures.logs.0 ∙ c.make-firing.ensures.logs.0, c.reserve-2.ensures.logs.1 ∙ c.make-firing.ensures.logs.1);
      logs = (
        sym (ap (λ (l : LogOf Receipt). l.receipts) c.into_logs-callback_log.ensures.logs.0),
        sym (ap (λ (l : LogOf ObjectReceipt). l.receipts) c.into_logs-callback_log.ensures.logs.1),
      );
    } in
    subst (λ (p : WorldPass). RunsGated c.args.world.now c.args.pass.now p c.args.context c.args.base c.args.budget c.args.reading ran.new.log.receipts
    c.into_logs-callback_log.result.0.receipts c.into_logs-callback_log.result.1.receipts ran.result) (search rules) runs
