-- The bytes of a script's lines, each with a newline after it, are read as the script.
use Rattle.std.proofs.Common.{◌≡◌, ℕ, ◌+◌, ◌*◌, ◌≤◌, ◌==◌, true, false, List, [], ◌∷◌, ◌++◌, length, map, refl, sym, ap, ◌∙◌, append_assoc, arith, length-append}
use Rattle.std.specs.List.{AllByRecursion, list_any, slice_split}
use Rattle.std.proofs.lemmas.Bool.{ne_eqb, or_parts}
use Rattle.script_text.specs.declared.form.Line.{Line}
use Rattle.script_text.specs.declared.script.Script.{Script}
use Rattle.script_text.specs.Generator.{lines_bytes, script_bytes}
use Rattle.script_text.specs.Grammar.{IsLine, spelled}
use Rattle.script_text.specs.Reading.{is_bad_byte}
use Rattle.script_text.specs.Scripts.{IsInRange, Reads, most_script_bytes, script_lines, without_empty_tail}
use Rattle.record_text.proofs.Cutting.{Without, split_last, split_one}
use Rattle.script_text.proofs.Lines.{spelled_good, spelled_kept}
use Rattle.script_text.proofs.Scripts.{kept, kept_more}
use Rattle.script_text.proofs.Tails.{without_empty_tail-push}

no_newline : (bytes : List ℕ) → list_any is_bad_byte bytes ≡ false → Without 10 bytes
no_newline [] good = tt
no_newline (b ∷ bs) good =
    let both = or_parts (is_bad_byte b) (list_any is_bad_byte bs) good in
    let other : b ≡ 10 → ⊥ = λ is. let bad : true ≡ false = sym (ap is_bad_byte is) ∙ both.0 in absurd cc in
    (ne_eqb b 10 other, no_newline bs both.1)

-- the bytes of lines are cut at their newlines
cut : (ls : List Line) → AllByRecursion IsLine ls → slice_split (λ b. b == 10) (lines_bytes ls) ≡ map spelled ls ++ [] ∷ []
cut [] h = split_last 10 [] tt
cut (l ∷ ls) h =
    ap (slice_split (λ b. b == 10)) (append_assoc (spelled l) (10 ∷ []) (lines_bytes ls))
    ∙ split_one 10 (spelled l) (lines_bytes ls) (no_newline (spelled l) (spelled_good l h.0))
    ∙ ap (λ (parts : List (List ℕ)). spelled l ∷ parts) (cut ls h.1)

all_kept : (ls : List Line) → AllByRecursion IsLine ls → kept (map spelled ls) ≡ map spelled ls
all_kept [] h = refl
all_kept (l ∷ ls) h =
    kept_more (spelled l) (map spelled ls) (spelled_kept l h.0) ∙ ap (λ (parts : List (List ℕ)). spelled l ∷ parts) (all_kept ls h.1)

-- law: a script in range whose lines can be spelled is read from its own bytes
pub script_reads : (s : Script) → AllByRecursion IsLine (script_lines s) → IsInRange s → length (script_bytes s) ≤ most_script_bytes
    → Reads (script_bytes s) s
script_reads s lines ranges few = record {
  few = few;
  spelling = ap kept (ap without_empty_tail (cut (script_lines s) lines) ∙ without_empty_tail-push (map spelled (script_lines s)) [])
      ∙ all_kept (script_lines s) lines;
  lines = lines;
  ranges = ranges;
}

-- lines have as many bytes as their number and the longest one allow
pub few_bytes : (m : ℕ) (ls : List Line) → AllByRecursion (λ l. length (spelled l) ≤ m) ls → length (lines_bytes ls) ≤ (m + 1) * length ls
few_bytes m [] h = omega arith
few_bytes m (l ∷ ls) h =
    omega (
      arith,
      length-append (spelled l ++ 10 ∷ []) (lines_bytes ls),
      length-append (spelled l) (10 ∷ []),
      h.0,
      few_bytes m ls h.1,
    )
