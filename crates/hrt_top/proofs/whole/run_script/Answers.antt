use Rattle.std.proofs.Common.{subst, List, ℕ}
use Rattle.hrt_top.specs.declared.engine.Answer.{Answer}
use Rattle.hrt_top.specs.Engine.{Answers, IsRecordText, IsRefusalText}
use Rattle.hrt_top.proofs.Outcomes.{must_refuse, must_succeed}
use Rattle.hrt_top.proofs.whole.run_script.Goals as goal

pub returns-in-Ok-write_all-clause-complete : goal.returns-in-Ok-write_all-clause-complete
returns-in-Ok-write_all-clause-complete g c = λ source sink. must_succeed _ _ _ c.in-Ok-Record.text.items c.in-Ok.ensures.read
    (subst (λ (bytes : List ℕ). IsRecordText bytes c.in-Ok-Record.text.items) c.deref.ensures.value
    (subst (λ (a : Answer). Answers c.deref.result.now a) c.in-Ok-Record.field-0-is c.in-Ok-Record.ensures))

pub returns-in-Ok-write_all-2-clause-complete : goal.returns-in-Ok-write_all-2-clause-complete
returns-in-Ok-write_all-2-clause-complete g c = λ source sink. must_refuse _ _ _ c.in-Ok-Refusal.text.items c.in-Ok.ensures.read
    (subst (λ (bytes : List ℕ). IsRefusalText bytes c.in-Ok-Refusal.text.items) c.deref.ensures.value
    (subst (λ (a : Answer). Answers c.deref.result.now a) c.in-Ok-Refusal.field-0-is c.in-Ok-Refusal.ensures))
