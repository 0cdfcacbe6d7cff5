use Rattle.std.proofs.Common.{◌≡◌, ◌+◌, ap, subst, ◌∙◌}
use Rattle.std.specs.Prelude.{OnOk}
use Rattle.seq_timer.specs.Systems.{updated}
use Rattle.trace_check.specs.Checkers.{HoldsKnowledge}
use Rattle.trace_check.specs.Knowledge.{exited_there, known_exited}
use Rattle.trace_check.proofs.checker.Checker.learn_exit.Goals as goal

pub returns : goal.returns
returns c = λ k h.
    let t = c.args.timer in
    let site = c.args.site in
    let freed = c.in_ok-note_on.ensures k h in
    let noted = c.note.ensures _ freed in
    let known : c.known-known.result ≡ k.timers t = c.known-known.ensures ∙ h.timers t in
    let there : c.known_on-there.result ≡ k.processors site.processor = c.known_on-there.ensures ∙ h.processors site.processor in
    let processor : c.exited.result ≡ exited_there t site (k.timers t) (k.processors site.processor) =
    c.exited.ensures ∙ ap (λ kn. exited_there t site kn c.known_on-there.result) known ∙ ap (λ p. exited_there t site (k.timers t) p) there in
    let exited : c.exited-2.result ≡ known_exited site (k.processors site.processor) (k.timers t) =
    c.exited-2.ensures ∙ ap (λ kn. known_exited site c.known_on-there.result kn) known ∙ ap (λ p. known_exited site p (k.timers t)) there in
    subst (λ e. OnOk c.note.result (HoldsKnowledge c.note.new.self (record {
      timers = updated k.timers t e;
      processors = updated k.processors site.processor (exited_there t site (k.timers t) (k.processors site.processor));
      claims = k.claims;
      count = k.count + 1;
    }))) exited
    (subst (λ p. OnOk c.note.result (HoldsKnowledge c.note.new.self (record {
      timers = updated k.timers t c.exited-2.result;
      processors = updated k.processors site.processor p;
      claims = k.claims;
      count = k.count + 1;
    }))) processor noted)
