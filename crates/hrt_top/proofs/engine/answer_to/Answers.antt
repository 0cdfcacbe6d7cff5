use Rattle.std.proofs.Common.{ap, subst, ◌∙◌}
use Rattle.std.specs.Prelude.{Err, Ok}
use Rattle.script_text.specs.declared.refusal.ParseError.TheVariants as errors
use Rattle.script_text.specs.declared.refusal.Refused.{Refused}
use Rattle.script_text.specs.declared.script.Script.{Script}
use Rattle.script_text.specs.Refusals.{Gives, IsReason}
use Rattle.hrt_top.specs.Engine.{IsScript}
use Rattle.hrt_top.proofs.engine.answer_to.Goals as goal

unequal : (r : Refused) (s : Script) → Gives (Err (errors.Refused r)) (Ok s) → ⊥
unequal r s e = absurd cc

pub returns-in-Err-Refused : goal.returns-in-Err-Refused
unfolding IsScript
returns-in-Err-Refused g c = record {
  refused = c.in-Err-Refused.refused;
  cause = subst (IsReason c.args.bytes.now) c.in-Err-Refused.field-0-is c.in-Err-Refused.ensures.refusal;
  unread = λ form. unequal _ form.0 (subst (λ e. Gives (Err e) (Ok form.0)) c.in-Err-Refused.field-0-is (c.in-Err-Refused.ensures.reads form.0 form.1));
  spelled = ap (λ v. v.items) c.into_bytes.ensures.value ∙ c.in_ok-line-in-Err-Refused.ensures;
}

pub returns : goal.returns
returns g c = record {
  script = c.in-Ok.script;
  reads = c.in-Ok.ensures.script;
  run = c.in_ok-record.record;
  fits = c.in_ok-record.ensures;
  numbers = c.in_ok-bytes.ensures.numbers;
  spelled = c.in_ok-bytes.ensures.text;
}
