use Rattle.std.proofs.Common.{sym, ap, subst, ◌∙◌, ◌≡◌, Bor, Bool, List, ℕ, IfOk, MatchResult, Ok, Err}
use Rattle.std.specs.List.{list_any}
use Rattle.script_text.specs.Reading.{line_of_form, form_in, is_empty_word}
use Rattle.script_text.proofs.Filling.{line_in-byte, line_in-space, line_in-words}
use Rattle.script_text.proofs.Finding.{read}
use Rattle.script_text.proofs.reading.lines.read_line.Goals as goal

-- what a test finds in a borrowed list of words, it finds in the list
full_words : (words lent : List (Bor (List ℕ))) {b : Bool} → words ≡ lent → list_any is_empty_word (read lent) ≡ b
    → list_any is_empty_word (read words) ≡ b
full_words words lent same found = ap (λ (ws : List (Bor (List ℕ))). list_any is_empty_word (read ws)) same ∙ found

pub returns-then-has_bad_byte : goal.returns-then-has_bad_byte
returns-then-has_bad_byte c = line_in-byte c.args.version c.args.bytes.now (sym c.has_bad_byte.ensures ∙ c.if-has_bad_byte.true)

pub returns-then-has_empty_word : goal.returns-then-has_empty_word
returns-then-has_empty_word c =
    let empty = full_words c.cut.new.words.items _ (sym c.deref.ensures) (sym c.has_empty_word.ensures ∙ c.if-has_empty_word.true) in
    line_in-space c.args.version c.args.bytes.now _ (rw c.new-words.ensures.items at c.in_ok-cut.ensures) (sym c.has_bad_byte.ensures ∙ c.if-has_bad_byte.false) empty

pub returns-in-Ok : goal.returns-in-Ok
returns-in-Ok c =
    let good = sym c.has_bad_byte.ensures ∙ c.if-has_bad_byte.false in
    let full = full_words c.cut.new.words.items _ (sym c.deref.ensures) (sym c.has_empty_word.ensures ∙ c.if-has_empty_word.false) in
    let form = ap (λ (words : List (Bor (List ℕ))). form_in c.args.version (read words)) (sym c.deref-2.ensures) ∙ sym c.form.ensures
    ∙ c.in-Ok.is in
    let line = line_in-words c.args.version c.args.bytes.now _ _ (rw c.new-words.ensures.items at c.in_ok-cut.ensures) good full form in
    let spelled = ap (λ (words : List (Bor (List ℕ))). line_of_form c.in-Ok.form (read words)) c.deref-in-Ok.ensures in
    subst (λ l. IfOk c.fill_line.result (λ r. MatchResult r (λ u. l ≡ Ok c.fill_line.new.line) (λ cause. l ≡ Err cause)))
    (spelled ∙ sym line) c.fill_line.ensures

pub returns : goal.returns
returns c =
    let full = full_words c.cut.new.words.items _ (sym c.deref.ensures) (sym c.has_empty_word.ensures ∙ c.if-has_empty_word.false) in
    let form = ap (λ (words : List (Bor (List ℕ))). form_in c.args.version (read words)) (sym c.deref-2.ensures) ∙ sym c.form.ensures
    ∙ c.in-Err.is in
    line_in-words c.args.version c.args.bytes.now _ _ (rw c.new-words.ensures.items at c.in_ok-cut.ensures) (sym c.has_bad_byte.ensures ∙ c.if-has_bad_byte.false) full form
