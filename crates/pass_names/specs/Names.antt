-- The names of passes: which name a new pass gets, which names a pass answers for, and which passes there are.
use Rattle.std.specs.Prelude.{◌≡◌, ℕ, ◌+◌, ◌<◌, ◌≤◌, Bool, true, false, ◌==◌, ◌&&◌, List, [], ◌∷◌, ◌++◌}
use lib.ListN.{get_elem?}
use mathlib.Core.Option.{some}
use Rattle.pass_names.specs.declared.PassId.{PassId}
use Rattle.pass_names.specs.Counts.{one_if, total, count, without_first}

-- whether two names are the same
abbrev pub same : List ℕ → List ℕ → Bool
same [] [] = true
same (x ∷ xs) (y ∷ ys) = (x == y) && same xs ys
same [] (y ∷ ys) = false
same (x ∷ xs) [] = false

-- how often the name is listed
abbrev pub occurrences : List ℕ → List (List ℕ) → ℕ
occurrences name names = count (same name) names

-- the name goes on from another, with this number next
pub record Extends (other : List ℕ) (next : ℕ) (name : List ℕ) : Type 0 where
  pub rest : List ℕ
  pub whole : name ≡ other ++ next ∷ rest

-- the first pass: no name, and nothing split off
abbrev pub first_pass_id : PassId
first_pass_id = record { live = true; name = []; made = 0; split = [] }

-- what is left where a pass was taken in
abbrev pub gone_pass_id : PassId
gone_pass_id = record { live = false; name = []; made = 0; split = [] }

-- the name of the next pass that is split off
abbrev pub next_name : PassId → List ℕ
next_name l = l.name ++ (l.made + 1) ∷ []

-- the pass that is split off next
abbrev pub child_of : PassId → PassId
child_of l = record { live = true; name = next_name l; made = 0; split = [] }

-- the pass after it has split one off
abbrev pub after_split : PassId → PassId
after_split l = record l { made = l.made + 1; split = l.split ++ next_name l ∷ [] }

-- the first pass after it has split one off, and that one
pub record AreFirstTwo (first second : PassId) : Type 0 where
  pub splitter : first ≡ after_split first_pass_id
  pub child : second ≡ child_of first_pass_id

-- the pass after it has taken in another, for which it answered
abbrev pub after_retire : PassId → PassId → PassId
after_retire l other = record l { split = without_first (same other.name) l.split ++ other.split }

-- the pass answers for the other
abbrev pub AnswersFor : PassId → PassId → Type 0
AnswersFor l other = 0 < occurrences other.name l.split

-- The pass answers for the passes with these names, for each as often as it is named, and for no others. So it can take them all in.
pub record Covers (l : PassId) (names : List (List ℕ)) : Type 0 where
  pub each : (name : List ℕ) → occurrences name names ≡ occurrences name l.split

-- the first pass, when it answers for no other
pub record IsLast (l : PassId) : Type 0 where
  pub first : l.name ≡ []
  pub alone : l.split ≡ []

-- how often the name is listed by all passes
abbrev pub listed : List ℕ → List PassId → ℕ
listed name ids = total (λ l. occurrences name l.split) ids

-- how many passes bear the name
abbrev pub bearers : List ℕ → List PassId → ℕ
bearers name ids = total (λ l. one_if (l.live && same name l.name)) ids

-- The passes that there are are the first one and those that are listed, each once.
pub record IsPassTree (ids : List PassId) : Type 0 where
  -- each name is listed as often as a pass bears it, but the first pass's, which is not listed
  pub each : (name : List ℕ) → listed name ids + one_if (same name []) ≡ bearers name ids
  pub once : (name : List ℕ) → bearers name ids ≤ 1
  -- a listed name goes on from the name of the pass that lists it
  pub longer : (j : ℕ) (l : PassId) (name : List ℕ) → get_elem? ids j ≡ some l → 0 < occurrences name l.split → (k : ℕ) × Extends l.name k name
  -- where a pass's name goes on from another pass's, the next number is one that was given out
  pub fresh : (j : ℕ) (l : PassId) (k : ℕ) (name : List ℕ) → get_elem? ids j ≡ some l → l.live ≡ true → 0 < bearers name ids
      → Extends l.name k name → k ≤ l.made
  pub dead : (j : ℕ) (l : PassId) → get_elem? ids j ≡ some l → l.live ≡ false → l.split ≡ []
