-- The rule of a row's table: what its words, slots and passes have to do with one history of each value.
use Rattle.std.specs.Prelude.{◌≡◌, ◌≢◌, ℕ, ◌+◌, ◌^◌, ◌<◌, ◌≤◌, ◌⊎◌, false, true, List, [], length, map, slice_index, Option, Some}
use mathlib.Core.Option.{some}
use lib.ListN.{get_elem?}
use Rattle.atomic_table.specs.Table.{State}
use Rattle.pass_names.specs.declared.PassId.{PassId}
use Rattle.pass_names.specs.Counts.{one_if, total, count}
use Rattle.pass_names.specs.Names.{IsPassTree, occurrences}
use Rattle.pass_names.specs.Passes.{Begins, entries, GoesOn, within, is_place}
use Rattle.counted_row.specs.declared.view.Entry.{Entry}
use Rattle.counted_row.specs.declared.view.Locked.{Locked}
use Rattle.counted_row.specs.declared.view.View.{View}
use Rattle.counted_row.specs.Meaning.{CallMeaning}
use Rattle.counted_row.specs.Places.{row_word_at}
use Rattle.counted_row.specs.Views.{HasClaim, is_claim, StateAfter}

-- what is added to a value's word while its lock is taken
abbrev pub taken_mark : ℕ
taken_mark = 2 ^ 63

-- a pass's name and the names that it answers for
abbrev pub row_pass_id : {S C R : Type 0} → View S C R → PassId
row_pass_id v = v.pass.id

-- how many places of this kind a pass has of its own
abbrev pub row_places : {S C R : Type 0} → ℕ → ℕ → View S C R → ℕ
row_places i k v = count (is_place i k) v.pass.mine

-- how many claims of this kind a pass has
abbrev pub claims_at : {S C R : Type 0} → ℕ → List ℕ → View S C R → ℕ
claims_at i name v = count (is_claim i name) v.claims

module _ {S C R : Type 0} (m : CallMeaning S C R) (made : List S) where
  -- The word, the slot and the holder of value i. The holder is 0, or one more than the number of the seat that has the lock.
  pub record Cell (i : ℕ) (log : List (Entry C R)) (slot : mathlib.Core.Option.Option (mathlib.Core.Option.Option (Option S)))
      (word holder : ℕ) : Type 0 where
    pub state : S
    pub after : StateAfter m made i log state
    pub short : length log ≤ 2 ^ 48
    pub free : holder ≡ 0 → (word ≡ length log) × (slot ≡ some (some (Some state)))
    pub taken : holder ≢ 0 → word ≡ length log + taken_mark

  -- what seat j holds, which has seen these histories, is the state after the whole history
  pub record HoldsValue (logs : List (List (Entry C R))) (holders : List ℕ) (j : ℕ) (known : List (List (Entry C R))) (h : Locked S) : Type 0 where
    pub within : h.index < length made
    pub holder : slice_index holders h.index ≡ j + 1
    pub stamp : h.stamp ≡ length (entries h.index logs)
    pub seen : entries h.index known ≡ entries h.index logs
    pub state : StateAfter m made h.index (entries h.index logs) h.state

  -- what seat j knows is true
  pub record RowAgrees (logs : List (List (Entry C R))) (holders : List ℕ) (j : ℕ) (v : View S C R) : Type 0 where
    pub opening : v.pass.id.live ≡ true → v.opening ≡ made
    pub wide : v.pass.id.live ≡ true → length v.pass.seen ≡ length made
    pub seen : GoesOn v.pass.seen logs
    pub heard : GoesOn v.heard logs
    pub held : (h : Locked S) → v.held ≡ Some h → HoldsValue logs holders j v.pass.seen h
    pub mine : (i k : ℕ) → 0 < row_places i k v → (k ≤ length (entries i v.pass.seen)) ⊎ (k ≤ length (entries i v.heard))
    -- its claims are open after what it has seen, and ever after
    pub claims : (i : ℕ) (name : List ℕ) (log : List (Entry C R)) (x : S) → HasClaim i name v.claims → Begins (entries i v.pass.seen) log
        → Begins (entries i v.heard) log → Begins log (entries i logs)
        → StateAfter m made i log x → 0 < occurrences name (m.claims x)
    -- of a pass that is gone nothing is left
    pub gone : v.pass.id.live ≡ false → (v.pass.mine ≡ []) × (v.claims ≡ [])

  -- There is one history of each value, which all passes have seen beginnings of.
  pub record RowInvariant (s : State (Option S) (View S C R)) : Type 0 where
    pub logs : List (List (Entry C R))
    pub holders : List ℕ
    pub words_len : length s.words ≡ row_word_at (length made)
    pub homes_len : length s.homes ≡ length made
    pub logs_len : length logs ≡ length made
    pub holders_len : length holders ≡ length made
    pub each_cell : (i : ℕ) → i < length made → Cell i (entries i logs) (get_elem? s.homes i) (slice_index s.words (row_word_at i)) (slice_index holders i)
    pub each_view : (j : ℕ) (v : View S C R) → get_elem? s.views j ≡ some v → RowAgrees logs holders j v
    pub tree : IsPassTree (map row_pass_id s.views)
    -- each entry of each history is one pass's own, once
    pub tally : (i k : ℕ) → total (row_places i k) s.views ≡ one_if (within k (length (entries i logs)))
    -- the passes' claims are the open ones, each once
    pub claims : (i : ℕ) (name : List ℕ) (x : S) → StateAfter m made i (entries i logs) x
        → total (claims_at i name) s.views ≡ occurrences name (m.claims x)
