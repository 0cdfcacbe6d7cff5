-- The text of lines that stand one after the other.
use Rattle.std.proofs.Common.{◌≡◌, ◌++◌, ◌∷◌, [], ℕ, List, ◌<◌, ◌^◌, refl, sym, ap, ◌∙◌, append_assoc}
use Rattle.std.proofs.lemmas.List.Concat.{flat_map-append}
use Rattle.record_text.specs.declared.version.Version.{Version}
use Rattle.record_text.specs.Numbers.{AreMachineNumbers, HaveMachineNumbers, numbers_of}
use Rattle.record_text.specs.Text.{RecordLine, line_text, lines_text, spaced}
use Rattle.record_text.proofs.Lists.{All-append}

pub lines_text_both : (version : Version) (xs ys : List RecordLine) → lines_text version (xs ++ ys) ≡ lines_text version xs ++ lines_text version ys
lines_text_both version xs ys = flat_map-append (line_text version) xs ys

pub numbers_both : (xs ys : List RecordLine) → HaveMachineNumbers xs → HaveMachineNumbers ys → HaveMachineNumbers (xs ++ ys)
numbers_both xs ys h k = All-append (λ l. AreMachineNumbers (numbers_of l)) xs ys h k

-- ---- the words of a line in two parts

pub spaced_both : (xs ys : List (List ℕ)) → spaced (xs ++ ys) ≡ spaced xs ++ spaced ys
spaced_both [] ys = refl
spaced_both (x ∷ xs) ys = ap (λ ws. 32 ∷ (x ++ ws)) (spaced_both xs ys) ∙ ap (λ ws. 32 ∷ ws) (sym (append_assoc x (spaced xs) (spaced ys)))

pub machine_numbers_both : (ms ns : List ℕ) → AreMachineNumbers ms → AreMachineNumbers ns → AreMachineNumbers (ms ++ ns)
machine_numbers_both ms ns h k = All-append (λ n. n < 2 ^ 128) ms ns h k
