-- What each step on a row's table tells the caller, and how views are cut and put together.
use Rattle.std.specs.Prelude.{◌≡◌, ℕ, ◌+◌, ◌^◌, ◌<◌, ◌≤◌, ◌⊎◌, ◌==◌, true, List, [], ◌∷◌, ◌++◌, length, Option, Some, None, MatchBool}
use Rattle.atomic_table.specs.Seated.{TableId}
use Rattle.atomic_table.specs.Table.{Me, Step, rest}
use Rattle.pass_names.specs.Names.{after_retire, gone_pass_id}
use Rattle.pass_names.specs.Passes.{entries, GoesOn, Adds}
use Rattle.counted_row.specs.declared.view.Entry.{Entry}
use Rattle.counted_row.specs.declared.view.Locked.{Locked}
use Rattle.counted_row.specs.declared.view.View.{View}
use Rattle.counted_row.specs.Meaning.{CallMeaning}
use Rattle.counted_row.specs.Places.{row_word_at}
use Rattle.counted_row.specs.Views.{HasClaimFor, Knows, having_seen, committed, released}
use Rattle.counted_row.specs.Rules.{taken_mark}

-- the word of a value with so many entries
pub record IsLockWord (entries word : ℕ) : Type 0 where
  pub short : entries ≤ 2 ^ 48
  pub is : (word ≡ entries) ⊎ (word ≡ entries + taken_mark)

-- the slot that a pass carries while it holds a value: it is empty
abbrev pub slots_of : {S : Type 0} → Option (Locked S) → List (ℕ × Option S)
slots_of None = []
slots_of (Some h) = (h.index, None) ∷ []

module _ {S C R : Type 0} where
  -- what a load tells: the histories so far were seen, and how many entries the value's has
  pub record Looked (m : CallMeaning S C R) (st : Step (Option S)) (me : Me (Option S) (View S C R)) (found : ℕ)
      (new : Me (Option S) (View S C R)) : Type 0 where
    pub rest : new ≡ (having_seen new.0.pass.seen me.0, me.1)
    pub seen : GoesOn me.0.pass.seen new.0.pass.seen
    pub heard : GoesOn me.0.heard new.0.pass.seen
    pub knows : Knows m new.0
    pub counts : (i : ℕ) → st.word ≡ row_word_at i → i < st.slots → IsLockWord (length (entries i new.0.pass.seen)) found

  -- what a load tells where the seat stays as it is
  pub record Checked (m : CallMeaning S C R) (st : Step (Option S)) (me : Me (Option S) (View S C R)) (found : ℕ)
      (new : Me (Option S) (View S C R)) : Type 0 where
    pub same : new ≡ me
    pub knows : Knows m me.0

  -- a seat that may take value i's lock, by the word with this number: its pass is one, and it holds nothing
  pub record MayTake (table : TableId) (me : Me (Option S) (View S C R)) (i at : ℕ) : Type 0 where
    pub word : at ≡ row_word_at i
    pub in_words : at < table.words
    pub in_slots : i < table.slots
    pub live : me.0.pass.id.live ≡ true
    pub held : me.0.held ≡ None
    pub carried : me.1 ≡ []

  -- what an exchange tells that took value i's lock: the value is carried
  pub record Hit (m : CallMeaning S C R) (st : Step (Option S)) (me : Me (Option S) (View S C R)) (i : ℕ)
      (new : Me (Option S) (View S C R)) : Type 0 where
    pub state : S
    pub seen : List (List (Entry C R))
    pub goes_on : GoesOn me.0.pass.seen seen
    pub rest : new ≡ (record (having_seen seen me.0) { held = Some (record { index = i; stamp = st.first; state = state }) }, (i, Some state) ∷ [])
    pub knows : Knows m new.0

  -- what an exchange from a free lock tells
  abbrev pub Took : CallMeaning S C R → Step (Option S) → Me (Option S) (View S C R) → ℕ → Me (Option S) (View S C R) → Type 0
  Took m st me found new = (i : ℕ) → st.word ≡ row_word_at i → MatchBool (found == st.first) (Hit m st me i new) (Looked m st me found new)

  -- what a seat that is about to commit has: the value after the call is back in its slot
  pub record Ready (m : CallMeaning S C R) (me : Me (Option S) (View S C R)) (h : Locked S) (call : C) : Type 0 where
    pub held : me.0.held ≡ Some h
    pub slots : me.1 ≡ (h.index, Some (m.next h.state call)) ∷ []
    pub may : m.may h.state call
    pub permits : HasClaimFor me.0.claims h.index (m.effect h.state call)

  -- what the store of a commit tells: the call that was asked for was added
  pub record Entered (m : CallMeaning S C R) (asks : C → Type 0) (me : Me (Option S) (View S C R)) (h : Locked S)
      (new : Me (Option S) (View S C R)) : Type 0 where
    pub call : C
    pub asked : asks call
    pub after : new ≡ (committed m h call me.0, rest me.1)
    pub adds : Adds me.0.pass new.0.pass h.index (record { call = call; reply = m.reply h.state call } ∷ [])
    pub count : length (entries h.index new.0.pass.seen) ≡ h.stamp + 1
    pub knows : Knows m new.0

  abbrev pub Enters : CallMeaning S C R → (C → Type 0) → Step (Option S) → Me (Option S) (View S C R) → ℕ → Me (Option S) (View S C R) → Type 0
  Enters m asks st me stored new = (h : Locked S) → me.0.held ≡ Some h → Entered m asks me h new

  -- what the store of a release tells
  pub record Freed (m : CallMeaning S C R) (st : Step (Option S)) (me : Me (Option S) (View S C R)) (stored : ℕ)
      (new : Me (Option S) (View S C R)) : Type 0 where
    pub after : new ≡ (released me.0, rest me.1)
    pub count : (h : Locked S) → me.0.held ≡ Some h → h.stamp ≡ length (entries h.index new.0.pass.seen)
    pub knows : Knows m new.0

  -- a note of what a pass has seen, which is no pass
  abbrev pub note_of : View S C R → View S C R
  note_of v = record { pass = record { id = gone_pass_id; seen = v.pass.seen; mine = [] }; opening = []; heard = []; claims = []; held = None }

  -- what is left of a pass that was taken in
  abbrev pub gone_view : View S C R
  gone_view = record { pass = record { id = gone_pass_id; seen = []; mine = [] }; opening = []; heard = []; claims = []; held = None }

  -- a pass that has taken in another
  abbrev pub joined_view : View S C R → View S C R → View S C R
  joined_view v w = record v {
    pass = record v.pass { id = after_retire v.pass.id w.pass.id; mine = v.pass.mine ++ w.pass.mine };
    heard = w.pass.seen;
    claims = v.claims ++ w.claims;
  }

  -- a pass that was told what another has seen
  abbrev pub told_view : View S C R → View S C R → View S C R
  told_view v w = record v { heard = w.pass.seen }

  -- what a seat of a pass is like between calls
  pub record IsRestingSeat (slots : ℕ) (me : Me (Option S) (View S C R)) : Type 0 where
    pub live : me.0.pass.id.live ≡ true
    pub heard : me.0.heard ≡ []
    pub carried : me.1 ≡ slots_of me.0.held
    pub within : (h : Locked S) → me.0.held ≡ Some h → h.index < slots

  -- a seat has looked, and nothing else
  pub record HasLooked (m : CallMeaning S C R) (me new : Me (Option S) (View S C R)) : Type 0 where
    pub rest : new ≡ (having_seen new.0.pass.seen me.0, me.1)
    pub seen : GoesOn me.0.pass.seen new.0.pass.seen
    pub knows : Knows m new.0

  -- a seat has got the value
  pub record Caught (m : CallMeaning S C R) (me : Me (Option S) (View S C R)) (i : ℕ) (new : Me (Option S) (View S C R)) (h : Locked S) : Type 0 where
    pub index : h.index ≡ i
    pub rest : new ≡ (record (having_seen new.0.pass.seen me.0) { held = Some h }, slots_of (Some h))
    pub seen : GoesOn me.0.pass.seen new.0.pass.seen
    pub knows : Knows m new.0
