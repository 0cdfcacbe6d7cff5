-- What passes know of one history that many timers share: a list of all their entries, of which each timer has its part.
use Rattle.std.specs.Prelude.{◌≡◌, ℕ, ◌<◌, List, [], ◌++◌, length}
use Rattle.pass_names.specs.declared.PassId.{PassId}
use Rattle.pass_names.specs.Counts.{count, one_if}
use Rattle.pass_names.specs.Names.{after_retire, after_split, child_of, first_pass_id}
use Rattle.pass_names.specs.Passes.{Begins, is_place, places, within}

-- what a pass knows: its name, the beginning of the history that it has seen, the places of its own entries (a timer, and the entry's number
-- among the timer's), and its claims
pub record Known (E C : Type 0) : Type 0 where
  pub id : PassId
  pub seen : List E
  pub mine : List (ℕ × ℕ)
  pub claims : List C

module _ {E C : Type 0} where
  -- the first pass
  abbrev pub first_known : Known E C
  first_known = record { id = first_pass_id; seen = []; mine = []; claims = [] }

  -- a pass after it has split one off
  abbrev pub splitter_known : Known E C → Known E C
  splitter_known k = record k { id = after_split k.id }

  -- the pass that was split off: it has seen as much
  abbrev pub child_known : Known E C → Known E C
  child_known k = record { id = child_of k.id; seen = k.seen; mine = []; claims = [] }

  -- what was seen goes on, and nothing else has changed
  pub record LooksOn (old new : Known E C) : Type 0 where
    pub seen : Begins old.seen new.seen
    pub mine : new.mine ≡ old.mine
    pub id : new.id ≡ old.id
    pub claims : new.claims ≡ old.claims

  -- a pass has taken in another, for which it answered
  pub record TakesIn (main other new : Known E C) : Type 0 where
    pub seen : Begins main.seen new.seen
    pub heard : Begins other.seen new.seen
    pub mine : new.mine ≡ main.mine ++ other.mine
    pub id : new.id ≡ after_retire main.id other.id
    pub claims : new.claims ≡ main.claims ++ other.claims

  -- two passes have told each other what they had seen; the first has seen as much as the second
  pub record MeetWith (a b new_a new_b : Known E C) : Type 0 where
    pub first : LooksOn a new_a
    pub second : LooksOn b new_b
    pub first_heard : Begins b.seen new_a.seen
    pub second_heard : Begins a.seen new_b.seen
    pub one : Begins new_b.seen new_a.seen

  -- of entries, of which a history has each timer's part
  module _ {X : Type 0} (part : ℕ → List E → List X) where
    -- These entries stand right behind what the pass had seen of timer t, and their places last in mine. All else that was seen goes on. What becomes of
    -- the claims is said by the entries.
    pub record ExtendsBy (old new : Known E C) (t : ℕ) (es : List X) : Type 0 where
      pub seen : Begins old.seen new.seen
      pub own : part t new.seen ≡ part t old.seen ++ es
      pub mine : new.mine ≡ old.mine ++ places t (length (part t old.seen)) es
      pub id : new.id ≡ old.id

    -- of so many timers the places are those of all entries that were seen, each once
    pub record HasAll (timers : ℕ) (k : Known E C) : Type 0 where
      pub once : (t n : ℕ) → t < timers → count (is_place t n) k.mine ≡ one_if (within n (length (part t k.seen)))
