use Rattle.std.proofs.Common.{sym, ap, ◌∙◌, ◌≡◌, List, ℕ, Bool}
use Rattle.std.specs.Prelude.{bytes_eq}
use Rattle.script_text.proofs.Finding.{form_none, form_of_call, form_of_raw, form_of_soft, form_of_plain}
use Rattle.script_text.proofs.reading.forms.form.Goals as goal

-- what the test for a word tells, which was read from a text
told : (word key now : List ℕ) (test b : Bool) → now ≡ key → test ≡ bytes_eq word now → test ≡ b → bytes_eq word key ≡ b
told word key now test b same is holds = ap (bytes_eq word) (sym same) ∙ sym is ∙ holds

pub returns-in_default : goal.returns-in_default
returns-in_default c = sym (form_none c.args.version c.args.words.now c.in_default.ensures.item.3)

pub returns-then-begins_with_digit : goal.returns-then-begins_with_digit
returns-then-begins_with_digit c =
    let found = c.in-Some.ensures.item in
    c.find_form_at.ensures
    ∙ sym (form_of_call c.args.version c.args.words.now c.in-Some.first.now found.3.0 found.1 (sym c.begins_with_digit.ensures ∙ c.if-begins_with_digit.true))

pub returns-then-eq : goal.returns-then-eq
returns-then-eq c =
    let found = c.in-Some.ensures.item in c.find_form_at-then-eq.ensures
    ∙ sym (form_of_raw c.args.version c.args.words.now c.in-Some.first.now found.3.0 found.1 (sym c.begins_with_digit.ensures ∙ c.if-begins_with_digit.false)
    (told c.in-Some.first.now.now _ _ _ _ c.as_slice.ensures c.eq.ensures c.if-eq.true))

pub returns-then-begins_soft : goal.returns-then-begins_soft
returns-then-begins_soft c =
    let found = c.in-Some.ensures.item in c.find_form_at-then-begins_soft.ensures
    ∙ sym (form_of_soft c.args.version c.args.words.now c.in-Some.first.now found.3.0 found.1
    (sym c.begins_with_digit.ensures ∙ c.if-begins_with_digit.false)
    (told c.in-Some.first.now.now _ _ _ _ c.as_slice.ensures c.eq.ensures c.if-eq.false) (sym c.begins_soft.ensures ∙ c.if-begins_soft.true))

pub returns : goal.returns
returns c =
    let found = c.in-Some.ensures.item in c.find_form_at-2.ensures
    ∙ sym (form_of_plain c.args.version c.args.words.now c.in-Some.first.now found.3.0 found.1
    (sym c.begins_with_digit.ensures ∙ c.if-begins_with_digit.false)
    (told c.in-Some.first.now.now _ _ _ _ c.as_slice.ensures c.eq.ensures c.if-eq.false) (sym c.begins_soft.ensures ∙ c.if-begins_soft.false))
