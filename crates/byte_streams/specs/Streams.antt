-- What a read and a write do to a stream's bytes and to its count of faults.
use Rattle.std.specs.Prelude.{◌≡◌, ◌+◌, ◌-◌, ◌^◌, ◌≤◌, ◌++◌, ℕ, List, min, take, OnOk, OnErr, ⊤, None, Some}
use Rattle.std.specs.declared.option.Option.{Option}
use Rattle.std.specs.declared.result.Result.{Result}

-- a count of faults after one more; it stops at its type's end
abbrev pub one_more : ℕ → ℕ
one_more count = min (count + 1) (2 ^ 64 - 1)

-- over some calls the count of faults has risen, or stands at its type's end
abbrev pub Rose : ℕ → ℕ → Type 0
Rose before now = one_more before ≤ now

-- a call that fails counts one fault, and one that succeeds counts none
pub record HasCause {T E : Type 0} (before now : ℕ) (result : Result T E) : Type 0 where
  pub later : before ≤ now
  pub ok : OnOk result (now ≡ before)
  pub failed : OnErr result (now ≡ one_more before)

-- what a sink took grew by these bytes, where it tells that still; one that doesn't tell never will
abbrev pub GrowsBy : Option (List ℕ) → Option (List ℕ) → List ℕ → Type 0
GrowsBy None now bytes = now ≡ None
GrowsBy (Some old) None bytes = ⊤
GrowsBy (Some old) (Some new) bytes = new ≡ old ++ bytes

-- what a sink took grew by a prefix of this text
pub record AddsPrefix (taken now : Option (List ℕ)) (text : List ℕ) : Type 0 where
  pub count : ℕ
  pub front : GrowsBy taken now (take count text)
