use Rattle.std.proofs.Common.{◌∙◌, subst}
use Rattle.std.specs.Prelude.{IfNone, IfSome}
use Rattle.pass_names.specs.Passes.{Looks}
use Rattle.pass_names.proofs.Passes as passes
use Rattle.pass_names.proofs.SharedHistory.{looks_trans}
use Rattle.signal_queue.specs.Calls.{PopsSignal}
use Rattle.signal_queue.specs.Views.{IsPassOfQueue}
use Rattle.ordered_signals.specs.Places.{PopStands}
use Rattle.ordered_signals.proofs.Places.{pop_from, pops_again}
use Rattle.ordered_signals.proofs.popping.pop.Goals as goal

pub returns-in-Some-answer-clause-pops : goal.returns-in-Some-answer-clause-pops
returns-in-Some-answer-clause-pops g c =
    let turn = c.pop_in_turn-answer in
    let told = subst (λ r. IfSome r (λ a. PopsSignal c.loop.signal_pass.knows turn.new.signal_pass.knows a)) c.in-Some-answer.is turn.ensures.pops in
    pops_again _ _ _ _ c.loop.invariant.signal_looks told

pub returns-in-Some-answer-clause-stands : goal.returns-in-Some-answer-clause-stands
returns-in-Some-answer-clause-stands g c =
    let turn = c.pop_in_turn-answer in
    let told = subst (λ r. IfSome r (λ a. PopStands c.args.timers.now.about c.loop.pass.known turn.new.pass.known turn.new.signal_pass.knows a))
    c.in-Some-answer.is turn.ensures.stands in
    pop_from c.args.timers.now.about c.args.pass.now.known c.loop.pass.known turn.new.pass.known turn.new.signal_pass.knows c.in-Some-answer.answer
    c.loop.invariant.looks.seen told

pub loop-preserved : goal.loop-preserved
loop-preserved g c =
    let before = c.loop.invariant in
    let turn = c.pop_in_turn-answer.ensures in
    let looked = subst (λ r. IfNone r (Looks c.loop.signal_pass.knows.pass c.pop_in_turn-answer.new.signal_pass.knows.pass)) c.in_default.is turn.again in
    record {
      can = tt;
      ends = tt;
      pass = turn.pass;
      looks = looks_trans _ _ _ before.looks turn.looks;
      locks = (turn.locks.0 ∙ before.locks.0, turn.locks.1 ∙ before.locks.1);
      queue = turn.end ∙ before.queue;
      signals = subst (λ q. IsPassOfQueue q c.pop_in_turn-answer.new.signal_pass) before.queue turn.signals;
      id = turn.id ∙ before.id;
      signal_looks = passes.looks_trans before.signal_looks looked;
    }
