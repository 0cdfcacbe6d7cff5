-- What a pass of a row knows.
use Rattle.std.specs.Prelude.{◌≡◌, ℕ, ◌<◌, ◌≤◌, Bool, ◌==◌, ◌&&◌, List, [], ◌∷◌, ◌++◌, length, Some, None}
use mathlib.Core.Option.{some}
use lib.ListN.{get_elem?}
use Rattle.atomic_table.specs.Seated.{TableId}
use Rattle.pass_names.specs.Counts.{count, one_if, without_first}
use Rattle.pass_names.specs.Names.{same, occurrences, IsLast}
use Rattle.pass_names.specs.Passes.{entries, HasEach, is_place, Looks, within, first_pass, splitter, split_off, added}
use Rattle.counted_row.specs.declared.view.Entry.{Entry}
use Rattle.counted_row.specs.declared.view.Locked.{Locked}
use Rattle.counted_row.specs.declared.view.View.{View}
use Rattle.counted_row.specs.Meaning.{Effect, plain, opens, uses, ends, CallMeaning, Leads}

-- whether this is the claim on value i
abbrev pub is_claim : ℕ → List ℕ → ℕ × List ℕ → Bool
is_claim i name c = (c.0 == i) && same name c.1

-- the claim on value i stands among these
abbrev pub HasClaim : ℕ → List ℕ → List (ℕ × List ℕ) → Type 0
HasClaim i name claims = 0 < count (is_claim i name) claims

-- a claim that the call on value i uses or ends stands among these
abbrev pub HasClaimFor : List (ℕ × List ℕ) → ℕ → Effect → Type 0
HasClaimFor claims i plain = Unit {0}
HasClaimFor claims i (opens name) = Unit {0}
HasClaimFor claims i (uses name) = HasClaim i name claims
HasClaimFor claims i (ends name) = HasClaim i name claims

-- the claims after a call on value i
abbrev pub claims_after : List (ℕ × List ℕ) → ℕ → Effect → List (ℕ × List ℕ)
claims_after claims i plain = claims
claims_after claims i (opens name) = claims ++ (i, name) ∷ []
claims_after claims i (uses name) = claims
claims_after claims i (ends name) = without_first (is_claim i name) claims

-- a row, and the values that it was made of
pub record RowOf (S : Type 0) : Type 0 where
  pub id : TableId
  pub made : List S

-- a pass of a row, and what it knows
pub record PassOfRow (S C R : Type 0) : Type 0 where
  pub row : TableId
  pub knows : View S C R

-- the pass is one of this row, and knows what the row was made of
pub record IsPassOfRow {S C R : Type 0} (r : RowOf S) (p : PassOfRow S C R) : Type 0 where
  pub row : p.row ≡ r.id
  pub made : p.knows.opening ≡ r.made

-- a pass of this row that holds nothing, and so may lock value i
pub record MayLock {S C R : Type 0} (r : RowOf S) (p : PassOfRow S C R) (i : ℕ) : Type 0 where
  pub row : IsPassOfRow r p
  pub within : i < length r.made
  pub idle : p.knows.held ≡ None

module _ {S C R : Type 0} where
  -- a history leads value i from what it was made of to this state
  pub record StateAfter (m : CallMeaning S C R) (made : List S) (i : ℕ) (log : List (Entry C R)) (state : S) : Type 0 where
    pub from : S
    pub at : get_elem? made i ≡ some from
    pub leads : Leads m from log state

  -- what is held is the state after the history that was seen, with its length
  pub record IsNow (m : CallMeaning S C R) (v : View S C R) (h : Locked S) : Type 0 where
    pub state : StateAfter m v.opening h.index (entries h.index v.pass.seen) h.state
    pub stamp : h.stamp ≡ length (entries h.index v.pass.seen)

  -- What is known of what a pass knows.
  pub record Knows (m : CallMeaning S C R) (v : View S C R) : Type 0 where
    -- each history that was seen leads to a state
    pub legal : (i : ℕ) → i < length v.opening → (x : S) × StateAfter m v.opening i (entries i v.pass.seen) x
    -- in which the pass's own claims are open
    pub open_claims : (i : ℕ) (name : List ℕ) (x : S) → HasClaim i name v.claims → StateAfter m v.opening i (entries i v.pass.seen) x
        → 0 < occurrences name (m.claims x)
    pub held : (h : Locked S) → v.held ≡ Some h → IsNow m v h
    -- it knows of each value's history and of no others
    pub wide : length v.pass.seen ≡ length v.opening
    -- its own entries are among those that it has seen, each once at most
    pub own : (i k : ℕ) → count (is_place i k) v.pass.mine ≤ one_if (within k (length (entries i v.pass.seen)))
    -- the last pass has made each entry, each once, and has seen them all
    pub all_entries : IsLast v.pass.id → HasEach v.pass.seen v.pass.mine
    -- and the open claims are its claims, each once
    pub all_claims : IsLast v.pass.id → (i : ℕ) (name : List ℕ) (x : S) → StateAfter m v.opening i (entries i v.pass.seen) x
        → count (is_claim i name) v.claims ≡ occurrences name (m.claims x)

  -- the first pass of a row of these values
  abbrev pub first_view : List S → View S C R
  first_view made = record { pass = first_pass (length made); opening = made; heard = []; claims = []; held = None }

  -- what a pass knows after it has seen these histories
  abbrev pub having_seen : List (List (Entry C R)) → View S C R → View S C R
  having_seen seen v = record v { pass = record v.pass { seen = seen }; heard = [] }

  -- after a call on the held value
  abbrev pub committed : CallMeaning S C R → Locked S → C → View S C R → View S C R
  committed m h c v = record v {
    pass = added h.index (record { call = c; reply = m.reply h.state c }) v.pass;
    claims = claims_after v.claims h.index (m.effect h.state c);
    held = None;
  }

  -- after the held value was let go
  abbrev pub released : View S C R → View S C R
  released v = record v { held = None }

  -- after a pass was split off
  abbrev pub split_view : View S C R → View S C R
  split_view v = record v { pass = splitter v.pass }

  -- the pass that was split off
  abbrev pub new_view : View S C R → View S C R
  new_view v = record { pass = split_off v.pass; opening = v.opening; heard = []; claims = []; held = None }

  -- nothing but what the pass has seen is other than before
  pub record Sees (old new : PassOfRow S C R) : Type 0 where
    pub row : new.row ≡ old.row
    pub pass : Looks old.knows.pass new.knows.pass
    pub opening : new.knows.opening ≡ old.knows.opening
    pub claims : new.knows.claims ≡ old.knows.claims
    pub held : new.knows.held ≡ old.knows.held

  -- value i is held, and no entry was added
  pub record Locks (m : CallMeaning S C R) (old new : PassOfRow S C R) (i : ℕ) (h : Locked S) : Type 0 where
    pub row : new.row ≡ old.row
    pub pass : Looks old.knows.pass new.knows.pass
    pub opening : new.knows.opening ≡ old.knows.opening
    pub claims : new.knows.claims ≡ old.knows.claims
    pub held : new.knows.held ≡ Some h
    pub index : h.index ≡ i
    pub now : IsNow m new.knows h
    pub knows : Knows m new.knows
