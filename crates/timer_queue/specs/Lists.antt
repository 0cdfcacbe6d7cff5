-- Several queues that are plain lists: of each its pairs, its room and for how many pairs it has memory.
use Rattle.std.specs.Prelude.{ℕ, List, map}

-- the pairs of each
abbrev pub pairs_of : List (List (ℕ × ℕ) × ℕ × ℕ) → List (List (ℕ × ℕ))
pairs_of lists = map (λ l. l.0) lists

-- for how many pairs each has memory
abbrev pub capacities_of : List (List (ℕ × ℕ) × ℕ × ℕ) → List ℕ
capacities_of lists = map (λ l. l.2) lists
