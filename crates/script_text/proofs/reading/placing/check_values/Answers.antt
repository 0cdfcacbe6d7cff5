use Rattle.std.proofs.Common.{◌≡◌, ◌+◌, sym, subst, ◌∙◌, drop, None}
use Rattle.script_text.specs.Forms.{row}
use Rattle.script_text.specs.Refusals.{check_values}
use Rattle.script_text.proofs.Fields.{after_key, said, not_said, unfilled, past_fields}
use Rattle.script_text.proofs.reading.placing.check_values.Goals as goal

pub loop-field-preserved-in_default : goal.loop-field-preserved-in_default
loop-field-preserved-in_default c =
    sym (after_key c.args.draft.now _ _ _ _ _ c.fields-field-items.ensures c.loop-field.rest.now c.loop-field-test.true c.in_default.is)
    ∙ c.loop-field.invariant

pub returns-in_default-split_first : goal.returns-in_default-split_first
returns-in_default-split_first c =
    sym (unfilled c.args.draft.now _ _ _ _ _ c.fields-field-items.ensures _ _ c.loop-field-test.true c.in-Some.is
    c.in_default-split_first.ensures.cases)
    ∙ c.loop-field.invariant

pub returns-in-Some-check_value : goal.returns-in-Some-check_value
returns-in-Some-check_value c =
    said c.args.draft.now _ _ _ _ _ c.fields-field-items.ensures _ _ _ _ _ _ c.loop-field-test.true c.in-Some.is
    c.in-Some-split_first.ensures.cases.0 (sym c.in-Some-check_value.is ∙ c.check_value.ensures) c.loop-field.invariant

pub loop-field-preserved : goal.loop-field-preserved
loop-field-preserved c =
    let total = check_values c.args.draft.now 0 (row c.args.form) c.args.values.now in
    subst (λ base. check_values c.args.draft.now base (drop (c.loop-field.field-index + 1) (row c.args.form)) c.in-Some-split_first.more.now ≡ total)
    (sym c.base_named-base.ensures)
    (not_said c.args.draft.now _ _ _ _ _ c.fields-field-items.ensures _ _ _ _ _ c.loop-field-test.true c.in-Some.is
    c.in-Some-split_first.ensures.cases.0 (sym c.in_default-check_value.is ∙ c.check_value.ensures) c.loop-field.invariant)

pub returns : goal.returns
returns c = sym (past_fields c.args.draft.now _ _ _ _ None c.fields-field-items.ensures _ c.loop-field-test.false) ∙ c.loop-field.invariant
