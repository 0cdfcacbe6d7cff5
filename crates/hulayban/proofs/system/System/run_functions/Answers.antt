use Rattle.std.proofs.Common.{◌≡◌, ◌∙◌, List, [], rules, refl, sym, ap, subst}
use Rattle.base_row.specs.declared.log.Receipt.{Receipt}
use Rattle.counted_row.specs.Views.{Knows}
use Rattle.hr_timers.proofs.ExpiryEnds.{run_leaves}
use Rattle.hr_timers.specs.Expiring.{Expires}
use Rattle.signal_queue.specs.Views.{PassOfQueue}
use Rattle.timer_objects.proofs.Lending.{pass_left}
use Rattle.timer_objects.specs.Known.{ObjectsOf, ObjectsPass}
use Rattle.timer_objects.specs.Meaning.{object_meaning}
use Rattle.timer_objects.specs.Signals.{IsSignalPass}
use Rattle.hulayban.proofs.Hands.{LeavesHand, hand_is, hand_same, hand_trans, runs_leave}
use Rattle.hulayban.specs.Runs.{RunsFunctions, hand_of}
use Rattle.hulayban.specs.Serving.{InHand, functions, in_hand}
use Rattle.hulayban.specs.Systems.{HandleOf, SystemOf}
use Rattle.hulayban.proofs.system.System.run_functions.Goals as goal

pub returns-clause-ok : goal.returns-clause-ok
returns-clause-ok g c =
    let m = g.H.Handler.meaning in
    let x = c.args.self.now in
    let was = c.requires.me in
    let served = c.serve-answer in
    let ran = served.ensures.runs in
    let ready = c.reserve-2.new.self in
    let done = served.new.lent in
    let own = served.new.own in
    let old = c.args.me.now in
    let after : HandleOf = record old { timers = served.new.pass; objects = done.objects_pass.now; signals = done.signal_pass.now } in
    let left : LeavesHand (hand_of ready c.args.own.now) (hand_of done own) =
    run_leaves (functions m) x.timers.about c.args.run.reading LeavesHand hand_same hand_trans
    (λ h h' v w n restart did. runs_leave m x.timers.about h h' v w n c.args.run.reading restart did) _ _ _ _ _ _ _ _ _ _ ran.expires in
    let empty : c.reserve.new.self.receipts ≡ [] = search rules in
    let of_was : ready.objects.now ≡ x.objects = c.reserve-2.ensures.loan.objects ∙ c.make-firing.ensures.objects ∙ ap (λ (x : SystemOf). x.objects) c.self.view_is in
    let objects_was : ready.objects_pass.now ≡ old.objects = search rules in
    let signals_was : ready.signal_pass.now ≡ old.signals = search rules in
    let log_was : ready.object_log.receipts ≡ [] = c.reserve-2.ensures.logs.1 ∙ c.make-firing.ensures.logs.1 in
    let began = hand_is ready c.args.own.now x old [] of_was objects_was signals_was log_was in
    let ended = hand_is done own x after done.object_log.receipts (ran.loan.objects ∙ of_was) refl refl refl in
    let it : RunsFunctions m x old after c.args.run c.args.own.now own served.result = record {
      keeps = record {
        is = record {
          timers = search rules;
          unclaimed = ran.keeps.claims ∙ search rules;
          objects = pass_left x.objects done.objects.now done.objects_pass.now (ran.loan.objects ∙ of_was) done.row done.idle done.unclaimed
              (left.knows (subst (λ (p : ObjectsPass). Knows object_meaning p.knows) (sym objects_was) was.objects.knows));
          objects_name = left.objects ∙ ap (λ (p : ObjectsPass). p.knows.pass.id) objects_was ∙ was.objects_name ∙ sym (ran.keeps.id ∙ search rules);
          clock = was.clock;
          clock_name = was.clock_name ∙ sym (ran.keeps.id ∙ search rules);
          known = was.known;
          heard = was.heard;
          signals = subst (λ (y : ObjectsOf). IsSignalPass y done.signal_pass.now) (ran.loan.objects ∙ of_was) done.signals;
          signals_name = left.signals ∙ ap (λ (p : PassOfQueue). p.knows.pass.id) signals_was ∙ was.signals_name ∙ sym (ran.keeps.id ∙ search rules);
          ring = was.ring;
        };
        name = ran.keeps.id ∙ search rules;
      };
      log = served.new.log.receipts;
      object_log = done.object_log.receipts;
      expires = subst (λ (h : InHand _). Expires (functions m) x.timers.about c.args.run.context c.args.run.base c.args.run.reading c.args.run.budget old.timers.known
          h [] served.new.pass.known (in_hand x after done.object_log.receipts own) served.new.log.receipts served.result) began
          (subst (λ (h : InHand _). Expires (functions m) x.timers.about c.args.run.context c.args.run.base c.args.run.reading c.args.run.budget old.timers.known
          (hand_of ready c.args.own.now) [] served.new.pass.known h served.new.log.receipts served.result) ended
          (subst (λ (log : List Receipt). Expires (functions m) x.timers.about c.args.run.context c.args.run.base c.args.run.reading c.args.run.budget
          old.timers.known (hand_of ready c.args.own.now) log served.new.pass.known (hand_of done own) served.new.log.receipts served.result) empty
          (search rules)));
      clock = refl;
    } in
    subst (λ (h : HandleOf). RunsFunctions m x old h c.args.run c.args.own.now own served.result) (search rules) it
