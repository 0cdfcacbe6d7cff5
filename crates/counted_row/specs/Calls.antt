-- What a whole turn on a value, from its lock to its commit or its release, does to what a pass knows.
use Rattle.std.specs.Prelude.{◌≡◌, ℕ, [], ◌∷◌, None}
use Rattle.pass_names.specs.Passes.{Adds, Looks, entries}
use Rattle.counted_row.specs.Meaning.{CallMeaning}
use Rattle.counted_row.specs.Views.{PassOfRow, StateAfter, Knows, claims_after}

module _ {S C R : Type 0} where
  -- value i was locked, and one call was made on it, at the state that its history then led to
  pub record Commits (m : CallMeaning S C R) (old new : PassOfRow S C R) (i : ℕ) (call : C) : Type 0 where
    pub row : new.row ≡ old.row
    pub opening : new.knows.opening ≡ old.knows.opening
    pub state : S
    pub adds : Adds old.knows.pass new.knows.pass i (record { call = call; reply = m.reply state call } ∷ [])
    pub at : StateAfter m old.knows.opening i adds.before state
    pub claims : new.knows.claims ≡ claims_after old.knows.claims i (m.effect state call)
    pub idle : new.knows.held ≡ None
    pub knows : Knows m new.knows

  -- value i was looked at and no call was made, and its state is that after all that was then seen of it
  pub record ReadsValue (m : CallMeaning S C R) (old new : PassOfRow S C R) (i : ℕ) : Type 0 where
    pub row : new.row ≡ old.row
    pub opening : new.knows.opening ≡ old.knows.opening
    pub pass : Looks old.knows.pass new.knows.pass
    pub state : S
    pub at : StateAfter m old.knows.opening i (entries i new.knows.pass.seen) state
    pub claims : new.knows.claims ≡ old.knows.claims
    pub held : new.knows.held ≡ old.knows.held
    pub knows : Knows m new.knows
