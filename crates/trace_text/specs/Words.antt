-- The words of a line, what stands behind a word's beginning, and numbers.
use Rattle.std.specs.Prelude.{ℕ, ◌+◌, ◌*◌, ◌-◌, ◌==◌, ◌&&◌, not, nat_lt, nat_le, if◌then◌else◌, List, [], ◌∷◌, length, drop, take, bytes_eq, Option, Some, None}
use Rattle.std.specs.List.{filter, slice_split}
use Rattle.std.specs.Option.{option_and_then}

-- a line's words: what stands between its spaces
abbrev pub trace_words : List ℕ → List (List ℕ)
trace_words line = filter (λ w. not (length w == 0)) (slice_split (λ b. b == 32) line)

-- what stands behind this beginning of a word, if the word has it
abbrev pub behind : List ℕ → List ℕ → Option (List ℕ)
behind beginning word = if bytes_eq (take (length beginning) word) beginning then Some (drop (length beginning) word) else None

-- what stands before this end of a word, if the word has it
abbrev pub before : List ℕ → List ℕ → Option (List ℕ)
before end word =
    if bytes_eq (drop (length word - length end) word) end then Some (take (length word - length end) word) else None

-- what a digit stands for, the letters a to f among them
abbrev pub digit_in : ℕ → Option ℕ
digit_in b =
    if nat_le 48 b && nat_le b 57 then Some (b - 48)
    else if nat_le 97 b && nat_le b 102 then Some (b - 97 + 10)
    else None

-- a number of this radix with one more digit, if it then is at most `most`
abbrev pub with_digit : ℕ → ℕ → ℕ → ℕ → Option ℕ
with_digit radix most n b =
    option_and_then (λ d. if nat_lt d radix && nat_le (n * radix + d) most then Some (n * radix + d) else None) (digit_in b)

-- a number followed by these digits
abbrev pub number_from : ℕ → ℕ → ℕ → List ℕ → Option ℕ
number_from radix most n [] = Some n
number_from radix most n (b ∷ bs) = option_and_then (λ m. number_from radix most m bs) (with_digit radix most n b)

-- the number of this radix that a word is, if it is at most `most`
abbrev pub number_by_radix : ℕ → ℕ → List ℕ → Option ℕ
number_by_radix radix most word = if length word == 0 then None else number_from radix most 0 word
