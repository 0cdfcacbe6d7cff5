use Rattle.std.proofs.Common.{sym, ◌∙◌, ap, ◌∷◌, inl, inr}
use Rattle.script_text.specs.Forms.{row}
use Rattle.script_text.proofs.Filling.{with_front, values_from-start, values_from-key, values_from-field, values_from-bad, values_from-end}
use Rattle.script_text.proofs.reading.lines.fill.Goals as goal

pub loop-field-init : goal.loop-field-init
loop-field-init c =
    rw (
      c.clear.ensures,
      c.into_iter-field-iterator.ensures.into_iter_gives,
      c.zip-field-items.ensures.first,
      c.zip-field-items.ensures.second.0,
      c.iter.ensures.rest,
      c.fields.ensures,
    )
    (values_from-start (row c.args.form) c.args.words.now)

pub returns-in-Err : goal.returns-in-Err
returns-in-Err c =
    let steps = c.in-Some.ensures.steps in
    sym c.loop-field.invariant ∙ values_from-bad _ _ _ _ _ c.in-Some-field.field c.in-Some.word.now c.in-Err.cause (steps.0
    ∙ ap (λ p. p ∷ c.next.new.self.a.rest.now) c.in-Some-field.is) steps.1 (sym c.value.ensures ∙ c.in-Err.is)

pub loop-field-preserved-in_default : goal.loop-field-preserved-in_default
loop-field-preserved-in_default c =
    let steps = c.in-Some.ensures.steps in
    sym (ap (λ rest. with_front c.loop-field.values rest)
    (values_from-key _ _ _ _ _ (steps.0 ∙ ap (λ p. p ∷ c.next.new.self.a.rest.now) c.in_default.is) steps.1)) ∙ c.loop-field.invariant

pub loop-field-preserved : goal.loop-field-preserved
loop-field-preserved c =
    let steps = c.in-Some.ensures.steps in
    let more = values_from-field c.loop-field.values _ _ _ _ c.in-Some-field.field c.in-Some.word.now c.in-Ok.v (steps.0
    ∙ ap (λ p. p ∷ c.next.new.self.a.rest.now) c.in-Some-field.is) steps.1 (sym c.value.ensures ∙ c.in-Ok.is) in
    rw c.in_ok-push-in-Ok.ensures.ok (sym more ∙ c.loop-field.invariant)

pub returns : goal.returns
returns c = sym c.loop-field.invariant ∙ values_from-end c.loop-field.values _ _ (elim c.in-None.ensures.steps [
  | inl fields ↦ inl fields.1.0
  | inr words ↦ inr words.1.0
])
