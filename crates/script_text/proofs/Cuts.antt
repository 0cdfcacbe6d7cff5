-- A line is cut at its spaces, byte after byte.
use Rattle.std.proofs.Common.{◌≡◌, ℕ, ◌+◌, ◌-◌, ◌<◌, ◌≤◌, false, ◌==◌, List, [], ◌∷◌, ◌++◌, length, take, drop, get_or, map, take_all, get_or-drop, drop-drop, take-append-drop, length-drop, append_assoc, sym, ap, subst, ◌∙◌, arith}
use Rattle.std.proofs.lemmas.Bool.{ne_eqb}
use Rattle.std.proofs.lemmas.List.{drop_more, map_push, take_more}
use Rattle.record_text.proofs.Cutting.{Without, split_last, split_one}
use Rattle.record_text.proofs.Lists.{All-append}
use Rattle.script_text.specs.Reading.{words_in}

pub nothing_apart : (n : ℕ) (line : List ℕ) → Without 32 (take (n - n) line)
nothing_apart n line = let none : n - n ≡ 0 = omega arith in rw none tt

-- one byte more that is no space
pub one_apart : (line : List ℕ) (start at d : ℕ) → start ≤ at → at < length line → (get_or line at d ≡ 32 → ⊥)
    → Without 32 (take (at - start) (drop start line)) → Without 32 (take (at + 1 - start) (drop start line))
one_apart line start at d order inside other apart =
    let next : at + 1 - start ≡ at - start + 1 = omega arith in
    let back : start + (at - start) ≡ at = omega arith in
    let here : get_or (drop start line) (at - start) d ≡ get_or line at d = get_or-drop start line (at - start) d ∙ ap (λ i. get_or line i d) back in
    let last : (get_or (drop start line) (at - start) d == 32) ≡ false = ne_eqb _ _ (λ same. other (sym here ∙ same)) in
    let long = length-drop start line in
    rw (next, take_more (drop start line) (at - start) d (omega arith))
    (All-append (λ b. (b == 32) ≡ false) (take (at - start) (drop start line)) _ apart (last, tt))

-- a space ends a word
cut_here : (line : List ℕ) (start at d : ℕ) → start ≤ at → at < length line → get_or line at d ≡ 32
    → Without 32 (take (at - start) (drop start line)) → words_in (drop start line) ≡ take (at - start) (drop start line) ∷ words_in (drop (at + 1) line)
cut_here line start at d order inside space apart =
    let back : start + (at - start) ≡ at = omega arith in
    let rest : drop (at - start) (drop start line) ≡ 32 ∷ drop (at + 1) line =
    drop-drop (at - start) start line ∙ ap (λ i. drop i line) back ∙ drop_more line at d inside ∙ ap (λ b. b ∷ drop (at + 1) line) space in
    let parts : drop start line ≡ take (at - start) (drop start line) ++ 32 ∷ drop (at + 1) line =
    sym (take-append-drop (at - start) (drop start line)) ∙ ap (λ bs. take (at - start) (drop start line) ++ bs) rest in
    ap words_in parts ∙ split_one 32 (take (at - start) (drop start line)) (drop (at + 1) line) apart

module _ {X : Type 0} (now : X → List ℕ) (items : List X) (w : X) (line : List ℕ) (start at : ℕ) (all : List (List ℕ))
    (apart : Without 32 (take (at - start) (drop start line))) (so_far : map now items ++ words_in (drop start line) ≡ all) where
  pub word_cut : (d : ℕ) → start ≤ at → at < length line → get_or line at d ≡ 32 → now w ≡ take (at - start) (drop start line)
      → map now (items ++ w ∷ []) ++ words_in (drop (at + 1) line) ≡ all
  word_cut d order inside space is =
      ap (λ ws. ws ++ words_in (drop (at + 1) line)) (map_push now items w)
      ∙ append_assoc (map now items) (now w ∷ []) (words_in (drop (at + 1) line))
      ∙ ap (λ (ws : List (List ℕ)). map now items ++ ws) (ap (λ v. v ∷ words_in (drop (at + 1) line)) is ∙ sym (cut_here line start at d order inside space apart))
      ∙ so_far

  pub last_cut : length line ≤ at → now w ≡ take (length line - start) (drop start line) → map now (items ++ w ∷ []) ≡ all
  last_cut ended is =
      let long = length-drop start line in
      let rest : take (at - start) (drop start line) ≡ drop start line = take_all (at - start) (drop start line) (omega arith) in
      let whole : take (length line - start) (drop start line) ≡ drop start line = take_all (length line - start) (drop start line) (omega arith) in
      map_push now items w
      ∙ ap (λ (ws : List (List ℕ)). map now items ++ ws) (ap (λ v. v ∷ []) (is ∙ whole) ∙ sym (split_last 32 (drop start line) (subst (λ bs. Without 32 bs) rest apart)))
      ∙ so_far
