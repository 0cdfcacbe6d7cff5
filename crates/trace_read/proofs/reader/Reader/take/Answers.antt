use Rattle.std.proofs.Common.{◌≡◌, ◌+◌, ◌++◌, ◌∷◌, ◌∙◌, [], sym, ap, subst, List, ℕ, take, drop, length, get_or, ◌<◌, append_assoc, arith}
use Rattle.std.proofs.lemmas.List.{take_more, take-append-drop}
use Rattle.trace_read.specs.Readers.{IsOfLine, ReadsOn}
use Rattle.trace_read.proofs.reader.Reader.take.Goals as goal

-- bytes up to a newline, it, and what is behind
cut_at : (bytes rest : List ℕ) (i : ℕ) → i < length bytes → get_or bytes i 0 ≡ 10
    → take i bytes ++ ((10 ∷ []) ++ (drop (i + 1) bytes ++ rest)) ≡ bytes ++ rest
cut_at bytes rest i within is =
    sym (append_assoc (take i bytes) (10 ∷ []) (drop (i + 1) bytes ++ rest))
    ∙ ap (λ front. front ++ (drop (i + 1) bytes ++ rest)) (ap (λ b. take i bytes ++ b ∷ []) (sym is) ∙ sym (take_more bytes i 0 within))
    ∙ sym (append_assoc (take (i + 1) bytes) (drop (i + 1) bytes) rest) ∙ ap (λ all. all ++ rest) (take-append-drop (i + 1) bytes)

pub returns-in-Some : goal.returns-in-Some
returns-in-Some c = λ answer told stands.
    let piece = c.args.piece.now in
    let i = c.loop-byte.byte-index in
    let within : i < length piece = omega arith in
    let found = c.in_ok-verdict.ensures (λ more. answer (take i piece ++ more)) (λ more. told (take i piece ++ more)) (c.loop-byte.invariant answer told stands) in
    let is : IsOfLine c.in-Some.verdict × ((more : List ℕ) → answer (take i piece ++ ((10 ∷ []) ++ more)) ≡ c.in-Some.verdict) =
    subst (λ v. ReadsOn v c.end_line.new.self (λ more. answer (take i piece ++ more)) (λ more. told (take i piece ++ more)) (10 ∷ [])) c.in-Some.is found in
    (is.0, λ rest. ap answer (sym (cut_at piece rest i within (omega arith))) ∙ is.1 (drop (i + 1) piece ++ rest))
