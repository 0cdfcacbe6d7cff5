-- What passes know of histories, and how that changes: entries are added, passes are split off, taken in and meet.
use Rattle.std.specs.Prelude.{◌≡◌, ℕ, ◌+◌, Bool, ◌==◌, ◌&&◌, nat_lt, nat_le, List, [], ◌∷◌, ◌++◌, length, get_or, set, replicate}
use Rattle.pass_names.specs.declared.Pass.{Pass}
use Rattle.pass_names.specs.Counts.{one_if, count}
use Rattle.pass_names.specs.Names.{first_pass_id, child_of, after_split, after_retire}

-- whether a place is this one
abbrev pub is_place : ℕ → ℕ → ℕ × ℕ → Bool
is_place i k p = (p.0 == i) && (p.1 == k)

-- whether a history of this length has an entry with this number
abbrev pub within : ℕ → ℕ → Bool
within k n = nat_lt 0 k && nat_le k n

module _ {E : Type 0} where
  -- the second list begins with the first
  pub record Begins (xs ys : List E) : Type 0 where
    pub rest : List E
    pub whole : ys ≡ xs ++ rest

  -- the history of one value
  abbrev pub entries : ℕ → List (List E) → List E
  entries i seen = get_or seen i []

  -- each history goes on from what was seen
  pub record GoesOn (old new : List (List E)) : Type 0 where
    pub each : (i : ℕ) → Begins (entries i old) (entries i new)

  -- the places of these entries after so many of a value
  abbrev pub places : ℕ → ℕ → List E → List (ℕ × ℕ)
  places i n [] = []
  places i n (e ∷ es) = (i, n + 1) ∷ places i (n + 1) es

  -- the places are those of all entries that were seen, each once
  pub record HasEach (seen : List (List E)) (mine : List (ℕ × ℕ)) : Type 0 where
    pub once : (i k : ℕ) → count (is_place i k) mine ≡ one_if (within k (length (entries i seen)))

  -- the first pass of so many values
  abbrev pub first_pass : ℕ → Pass E
  first_pass n = record { id = first_pass_id; seen = replicate n []; mine = [] }

  -- a pass after it has split one off
  abbrev pub splitter : Pass E → Pass E
  splitter p = record p { id = after_split p.id }

  -- the pass that was split off: it has seen as much
  abbrev pub split_off : Pass E → Pass E
  split_off p = record { id = child_of p.id; seen = p.seen; mine = [] }

  -- a pass after it has added an entry to a history that it has seen whole
  abbrev pub added : ℕ → E → Pass E → Pass E
  added i e p = record p { seen = set p.seen i (entries i p.seen ++ e ∷ []); mine = p.mine ++ (i, length (entries i p.seen) + 1) ∷ [] }

  -- The entries stand last in the history of value i, and their places last in mine. All else that was seen goes on.
  pub record Adds (old new : Pass E) (i : ℕ) (es : List E) : Type 0 where
    pub seen : GoesOn old.seen new.seen
    pub before : List E
    pub begins : Begins (entries i old.seen) before
    pub last : entries i new.seen ≡ before ++ es
    pub mine : new.mine ≡ old.mine ++ places i (length before) es
    pub id : new.id ≡ old.id

  -- no entry was added, and what was seen goes on
  pub record Looks (old new : Pass E) : Type 0 where
    pub seen : GoesOn old.seen new.seen
    pub mine : new.mine ≡ old.mine
    pub id : new.id ≡ old.id

  -- a pass has taken in another, for which it answered
  pub record Retires (main other new : Pass E) : Type 0 where
    pub seen : GoesOn main.seen new.seen
    pub heard : GoesOn other.seen new.seen
    pub mine : new.mine ≡ main.mine ++ other.mine
    pub id : new.id ≡ after_retire main.id other.id

  -- two passes have told each other what they had seen; the first has seen as much as the second
  pub record Meets (a b new_a new_b : Pass E) : Type 0 where
    pub first : Looks a new_a
    pub second : Looks b new_b
    pub first_heard : GoesOn b.seen new_a.seen
    pub second_heard : GoesOn a.seen new_b.seen
    pub one : GoesOn new_b.seen new_a.seen
