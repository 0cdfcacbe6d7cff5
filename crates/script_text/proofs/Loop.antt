-- Reading lines one after the other, as a loop does.
use Rattle.std.proofs.Common.{◌≡◌, ℕ, ◌+◌, ◌<◌, ◌≤◌, true, false, List, [], ◌∷◌, length, drop, get_or, map, Result, Ok, Err, refl, sym, ap, ◌∙◌, arith, nat_lt}
use Rattle.std.proofs.lemmas.Bool.{lt-ltb, false_from_ne_true, ltb-true}
use Rattle.std.proofs.lemmas.List.{drop_more, drop_all}
use Rattle.script_text.specs.declared.reading.drafts.Draft.{Draft}
use Rattle.script_text.specs.declared.refusal.Cause.{Cause}
use Rattle.script_text.specs.declared.refusal.Cause.TheVariants as causes
use Rattle.script_text.specs.declared.refusal.Refused.{Refused}
use Rattle.script_text.specs.declared.script.Script.{Script}
use Rattle.script_text.specs.Scripts.{is_skipped}
use Rattle.script_text.specs.Drafts.{script_of}
use Rattle.script_text.specs.Refusals.{with_line_in, script_from}

-- what a line and those after it tell
first_skipped : (n : ℕ) (d : Draft) (part : List ℕ) (parts : List (List ℕ)) → is_skipped part ≡ true
    → script_from n d (part ∷ parts) ≡ script_from (n + 1) d parts
unfolding script_from
first_skipped n d part parts skipped = rw skipped refl

first_refused : (n : ℕ) (d : Draft) (part : List ℕ) (parts : List (List ℕ)) (cause : Cause) → is_skipped part ≡ false
    → with_line_in d part ≡ Err cause → script_from n d (part ∷ parts) ≡ Err (record { line = n; cause = cause })
unfolding script_from
first_refused n d part parts cause here refused = rw (here, refused) refl

first_taken : (n : ℕ) (d e : Draft) (part : List ℕ) (parts : List (List ℕ)) → is_skipped part ≡ false → with_line_in d part ≡ Ok e
    → script_from n d (part ∷ parts) ≡ script_from (n + 1) e parts
unfolding script_from
first_taken n d e part parts here taken = rw (here, taken) refl

unfinished : (n : ℕ) (d : Draft) → d.headers < 4 → script_from n d [] ≡ Err (record { line = n; cause = causes.Unfinished })
unfolding script_from
unfinished n d early = rw (lt-ltb d.headers 4 early) refl

finished : (n : ℕ) (d : Draft) → 4 ≤ d.headers → script_from n d [] ≡ Ok (script_of d)
unfolding script_from
finished n d done = let no : nat_lt d.headers 4 ≡ false =
    false_from_ne_true _ (λ early. omega (arith, done, ltb-true d.headers 4 early)) in rw no refl

-- ---- the steps of a loop over lines, of which i are read

module _ {X : Type 0} (line : X
    → List ℕ) (xs : List X) (i : ℕ) (d : Draft) (total : Result Script Refused) (so_far : script_from (i + 1) d (map line (drop i xs)) ≡ total) where
  at_line : (e : X) → i < length xs → script_from (i + 1) d (line (get_or xs i e) ∷ map line (drop (i + 1) xs)) ≡ total
  at_line e inside = ap (λ (ys : List X). script_from (i + 1) d (map line ys)) (sym (drop_more xs i e inside)) ∙ so_far

  pub line_skipped : (e : X) → i < length xs → is_skipped (line (get_or xs i e)) ≡ true
      → script_from ((i + 1) + 1) d (map line (drop (i + 1) xs)) ≡ total
  line_skipped e inside skipped = sym (first_skipped (i + 1) d _ _ skipped) ∙ at_line e inside

  pub line_refused : (e : X) (cause : Cause) → i < length xs → is_skipped (line (get_or xs i e)) ≡ false
      → with_line_in d (line (get_or xs i e)) ≡ Err cause → Err (record { line = i + 1; cause = cause }) ≡ total
  line_refused e cause inside here refused = sym (first_refused (i + 1) d _ _ cause here refused) ∙ at_line e inside

  pub line_taken : (e : X) (now : Draft) → i < length xs → is_skipped (line (get_or xs i e)) ≡ false → with_line_in d (line (get_or xs i e)) ≡ Ok now
      → script_from ((i + 1) + 1) now (map line (drop (i + 1) xs)) ≡ total
  line_taken e now inside here taken = sym (first_taken (i + 1) d now _ _ here taken) ∙ at_line e inside

  at_end : length xs ≤ i → script_from (i + 1) d [] ≡ total
  at_end past = ap (λ (ys : List X). script_from (i + 1) d (map line ys)) (sym (drop_all i xs past)) ∙ so_far

  pub lines_end_early : length xs ≤ i → d.headers < 4 → Err (record { line = i + 1; cause = causes.Unfinished }) ≡ total
  lines_end_early past early = sym (unfinished (i + 1) d early) ∙ at_end past

  pub lines_end : length xs ≤ i → 4 ≤ d.headers → Ok (script_of d) ≡ total
  lines_end past done = sym (finished (i + 1) d done) ∙ at_end past
