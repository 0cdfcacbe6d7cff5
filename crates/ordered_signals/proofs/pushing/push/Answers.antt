use Rattle.std.proofs.Common.{ap, ◌∙◌, subst}
use Rattle.std.specs.Prelude.{IfNone, IfSome}
use Rattle.pass_names.specs.Passes.{Looks}
use Rattle.pass_names.proofs.Passes as passes
use Rattle.pass_names.proofs.SharedHistory.{looks_trans}
use Rattle.signal_queue.specs.Calls.{PushesSignal}
use Rattle.signal_queue.specs.Views.{IsPassOfQueue}
use Rattle.ordered_signals.specs.Places.{PushStands}
use Rattle.ordered_signals.proofs.Places.{push_from, pushes_again}
use Rattle.ordered_signals.proofs.pushing.push.Goals as goal

pub returns-in-Some-answer-clause-pushes : goal.returns-in-Some-answer-clause-pushes
returns-in-Some-answer-clause-pushes g c =
    let turn = c.push_in_turn-answer in
    let told = subst (λ r. IfSome r (λ a. PushesSignal c.loop.end.queue.room c.loop.signal_pass.knows turn.new.signal_pass.knows c.args.signal a))
    c.in-Some-answer.is turn.ensures.pushes in
    pushes_again _ _ _ _ _ _ c.loop.invariant.signal_looks
    (subst (λ n. PushesSignal n c.loop.signal_pass.knows turn.new.signal_pass.knows c.args.signal c.in-Some-answer.answer)
    (ap (λ q. q.room) c.loop.invariant.queue) told)

pub returns-in-Some-answer-clause-stands : goal.returns-in-Some-answer-clause-stands
returns-in-Some-answer-clause-stands g c =
    let turn = c.push_in_turn-answer in
    let told = subst (λ r. IfSome r (λ a. PushStands c.args.timers.now.about c.loop.pass.known turn.new.pass.known turn.new.signal_pass.knows a))
    c.in-Some-answer.is turn.ensures.stands in
    push_from c.args.timers.now.about c.args.pass.now.known c.loop.pass.known turn.new.pass.known turn.new.signal_pass.knows c.in-Some-answer.answer
    c.loop.invariant.looks.seen told

pub loop-preserved : goal.loop-preserved
loop-preserved g c =
    let before = c.loop.invariant in
    let turn = c.push_in_turn-answer.ensures in
    let looked = subst (λ r. IfNone r (Looks c.loop.signal_pass.knows.pass c.push_in_turn-answer.new.signal_pass.knows.pass)) c.in_default.is turn.again in
    record {
      can = tt;
      ends = tt;
      pass = turn.pass;
      looks = looks_trans _ _ _ before.looks turn.looks;
      locks = (turn.locks.0 ∙ before.locks.0, turn.locks.1 ∙ before.locks.1);
      queue = turn.end ∙ before.queue;
      signals = subst (λ q. IsPassOfQueue q c.push_in_turn-answer.new.signal_pass) before.queue turn.signals;
      id = turn.id ∙ before.id;
      signal_looks = passes.looks_trans before.signal_looks looked;
    }
