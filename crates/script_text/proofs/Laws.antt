-- Bytes are read as one script or refused in one way.
use Rattle.std.proofs.Common.{◌≡◌, ℕ, ◌+◌, Bool, true, false, List, [], ◌∷◌, length, map, None, Result, Ok, Err, refl, sym, ap, ◌∙◌, ◌⊎◌, inl, inr, arith, nat_lt, if◌then◌else◌}
use Rattle.std.specs.List.{AllByRecursion}
use Rattle.std.proofs.lemmas.Bool.{false_from_ne_true, ltb-true}
use Rattle.script_text.specs.declared.form.Line.{Line}
use Rattle.script_text.specs.declared.reading.drafts.Draft.{Draft}
use Rattle.script_text.specs.declared.refusal.Refused.{Refused}
use Rattle.script_text.specs.declared.script.Script.{Script}
use Rattle.script_text.specs.Forms.{has_form}
use Rattle.script_text.specs.Grammar.{IsLine, spelled}
use Rattle.script_text.specs.Scripts.{Reads, most_script_bytes, is_skipped, lines_of, script_lines}
use Rattle.script_text.specs.Drafts.{empty, script_of, draft_with_line}
use Rattle.script_text.specs.Refusals.{IsRefused, check_line, with_line_in, continue_after, script_from, script_in}
use Rattle.script_text.proofs.Lines.{line_again}
use Rattle.script_text.proofs.Scripts.{kept, kept_skipped, kept_more, read_from}
use Rattle.script_text.proofs.Steps.{Steps, script_steps}

line_taken : (d : Draft) (part : List ℕ) (l : Line) → part ≡ spelled l → has_form d.version l.form ≡ true → IsLine l → check_line d l ≡ None
    → with_line_in d part ≡ Ok (draft_with_line d l)
unfolding with_line_in
line_taken d part l is form line none = rw (is, line_again d.version l form line, none) refl

taken : (number : ℕ) (d e : Draft) (parts : List (List ℕ)) (ls : List Line) → kept parts ≡ map spelled ls → AllByRecursion IsLine ls → Steps d ls e
    → e.headers ≡ 4 → script_from number d parts ≡ Ok (script_of e)
unfolding script_from
taken number d e [] [] spelling lines steps four =
    let done : nat_lt d.headers 4 ≡ false = ap (λ (x : Draft). nat_lt x.headers 4) steps ∙ ap (λ (n : ℕ). nat_lt n 4) four in
    rw done (ap (λ (x : Draft). Ok (script_of x)) steps)
taken number d e [] (l ∷ ls) spelling lines steps four = absurd cc
taken number d e (part ∷ parts) ls spelling lines steps four =
    let rest : Result Script Refused = script_from (number + 1) d parts in
    let read : Result Script Refused = continue_after number (with_line_in d part) (λ now. script_from (number + 1) now parts) in
    let go : (b : Bool) → is_skipped part ≡ b
    → (if b then rest else read) ≡ Ok (script_of e) = λ b. elim b as (λ b. is_skipped part ≡ b → (if b then rest else read) ≡ Ok (script_of e)) [
      | true ↦ λ skipped. taken (number + 1) d e parts ls (sym (kept_skipped part parts skipped) ∙ spelling) lines steps four
      | false ↦ λ here. (elim ls as (λ ls. part ∷ kept parts ≡ map spelled ls → AllByRecursion IsLine ls → Steps d ls e → read ≡ Ok (script_of e)) [
        | [] ↦ λ spelling lines steps. absurd cc
        | l ∷ ls ↦ λ spelling lines steps.
            let first : part ≡ spelled l = cc in
            let others : kept parts ≡ map spelled ls = cc in
            rw (line_taken d part l first steps.0 lines.0 steps.1) (taken (number + 1) (draft_with_line d l) e parts ls others lines.1 steps.2 four)
      ]) (sym (kept_more part parts here) ∙ spelling) lines steps
    ] in
    go (is_skipped part) refl

-- what bytes are read as is given
pub read_again : (bytes : List ℕ) (s : Script) → Reads bytes s → script_in bytes ≡ Ok s
unfolding script_in
read_again bytes s reads =
    let all = script_steps s reads.ranges in
    let few : nat_lt most_script_bytes (length bytes) ≡ false =
    false_from_ne_true _ (λ long. omega (arith, ltb-true most_script_bytes (length bytes) long, reads.few)) in
    rw few (taken 1 empty all.0 (lines_of bytes) (script_lines s) reads.spelling reads.lines all.1 all.2 ∙ ap (λ (s : Script). Ok s) all.3)

pub one_script : (bytes : List ℕ) (s t : Script) → Reads bytes s → Reads bytes t → s ≡ t
one_script bytes s t p q = let same : Ok s ≡ Ok t = sym (read_again bytes s p) ∙ read_again bytes t q in cc

pub read_or_refused : (bytes : List ℕ) → ((s : Script) × Reads bytes s) ⊎ ((r : Refused) × IsRefused bytes r)
read_or_refused bytes =
    let go : (x : Result Script Refused) → script_in bytes ≡ x → ((s : Script) × Reads bytes s) ⊎ ((r : Refused) × IsRefused bytes r) =
    λ x. elim x as (λ x. script_in bytes ≡ x → ((s : Script) × Reads bytes s) ⊎ ((r : Refused) × IsRefused bytes r)) [
      | Ok s ↦ λ is. inl (s, read_from bytes s is)
      | Err r ↦ λ is. inr (r, is)
    ] in
    go (script_in bytes) refl

pub never_both : (bytes : List ℕ) (s : Script) (r : Refused) → Reads bytes s → IsRefused bytes r → ⊥
never_both bytes s r reads refused = let ok = read_again bytes s reads in absurd cc

pub one_refusal : (bytes : List ℕ) (q r : Refused) → IsRefused bytes q → IsRefused bytes r → q ≡ r
one_refusal bytes q r p o = let same : Err q ≡ Err r = sym p ∙ o in cc
