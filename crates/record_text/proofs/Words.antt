-- Lines of words are cut out of a text again.
use Rattle.std.proofs.Common.{◌≡◌, ◌++◌, ◌∷◌, [], ℕ, List, ◌≤◌, Bool, true, false, nat_lt, refl, ap, ◌∙◌, append_assoc, arith, ◌==◌}
use Rattle.std.specs.List.{list_all, slice_split}
use Rattle.std.proofs.lemmas.List.{append-nil}
use Rattle.std.proofs.lemmas.Bool.{and_parts}
use Rattle.std.proofs.lemmas.Bool.Decides.{nat_tests}
use Rattle.record_text.specs.Text.{spaced, join_words}
use Rattle.record_text.proofs.Cutting.{Without, split_last, split_one}
use Rattle.record_text.proofs.Lists.{All-append}

-- bytes past the space
abbrev pub is_word : List ℕ → Bool
is_word w = list_all (λ b. nat_lt 32 b) w

abbrev pub are_words : List (List ℕ) → Bool
are_words ws = list_all is_word ws

abbrev pub parts : ℕ → List ℕ → List (List ℕ)
parts c bytes = slice_split (λ b. b == c) bytes

apart : (c : ℕ) (w : List ℕ) → c ≤ 32 → is_word w ≡ true → Without c w
apart c [] small h = tt
apart c (b ∷ w) small h =
    let past : nat_lt 32 b ≡ true = (and_parts _ _ h).0 in
    let other : (b == c) ≡ false = grind (arith, nat_tests) in
    (other, apart c w small (and_parts _ _ h).1)

spaced_apart : (ws : List (List ℕ)) → are_words ws ≡ true → Without 10 (spaced ws)
spaced_apart [] h = tt
spaced_apart (w ∷ ws) h =
    (refl, All-append (λ b. (b == 10) ≡ false) w (spaced ws) (apart 10 w (omega arith) (and_parts _ _ h).0) (spaced_apart ws (and_parts _ _ h).1))

-- words joined with spaces are spaced words without the first space
joined_apart : (ws : List (List ℕ)) → are_words ws ≡ true → Without 10 (join_words ws)
joined_apart [] h = tt
joined_apart (w ∷ ws) h = (spaced_apart (w ∷ ws) h).1

-- the words of a line
pub words_again : (w : List ℕ) (ws : List (List ℕ)) → is_word w ≡ true → are_words ws ≡ true → parts 32 (w ++ spaced ws) ≡ w ∷ ws
words_again w [] h hs = ap (parts 32) (append-nil w) ∙ split_last 32 w (apart 32 w (omega arith) h)
words_again w (v ∷ ws) h hs =
    split_one 32 w (v ++ spaced ws) (apart 32 w (omega arith) h)
    ∙ ap (λ r. w ∷ r) (words_again v ws (and_parts _ _ hs).0 (and_parts _ _ hs).1)

-- the first line of a text
pub line_again : (ws : List (List ℕ)) (text : List ℕ) → are_words ws ≡ true
    → parts 10 ((join_words ws ++ 10 ∷ []) ++ text) ≡ join_words ws ∷ parts 10 text
line_again ws text h = ap (parts 10) (append_assoc (join_words ws) (10 ∷ []) text) ∙ split_one 10 (join_words ws) text (joined_apart ws h)
