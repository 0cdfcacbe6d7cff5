use Rattle.std.proofs.Common.{◌≡◌, ◌∙◌, ◌++◌, List, ℕ, [], sym, ap, subst, IfOk}
use Rattle.std.proofs.lemmas.List.{append-nil}
use Rattle.trace_read.proofs.Lines.{tallied_of_line}
use Rattle.trace_read.specs.Readers.{IsOfLine, IsTallied, ReadsOn, HasReadSoFar}
use Rattle.trace_read.proofs.reader.Reader.take_last.Goals as goal

pub returns-in-Some : goal.returns-in-Some
returns-in-Some c = λ answer told stands.
    let piece = c.args.piece.now in
    let found : IsOfLine c.in-Some.verdict × ((rest : List ℕ) → answer (piece ++ rest) ≡ c.in-Some.verdict) =
    subst (λ v. ReadsOn v c.take.new.self answer told piece) c.in-Some.is (c.in_ok-verdict.ensures answer told stands) in
    (ap answer (sym (append-nil piece)) ∙ found.1 [], tallied_of_line c.in-Some.verdict c.take.new.self.tally (told piece) found.0)

pub returns-in-None : goal.returns-in-None
returns-in-None c = λ answer told stands.
    let piece = c.args.piece.now in
    let on : HasReadSoFar c.take.new.self (λ rest. answer (piece ++ rest)) (λ rest. told (piece ++ rest)) =
    subst (λ v. ReadsOn v c.take.new.self answer told piece) c.in-None.is (c.in_ok-verdict.ensures answer told stands) in
    subst (λ text. IfOk c.end.result (λ v. (answer text ≡ v) × IsTallied v c.end.new.self.tally (told text))) (append-nil piece)
    (c.end.ensures (λ rest. answer (piece ++ rest)) (λ rest. told (piece ++ rest)) on)
