-- A handoff, at which a value goes to a worker and back: how it may stand, and what each step tells.
use Rattle.std.specs.Prelude.{ℕ, ◌≡◌, ◌==◌, [], ◌∷◌, MatchBool, Option, None, Some, ⊤}
use mathlib.Core.Option.{none, some}
use Rattle.atomic_table.specs.Table.{Me, State, Step}
use Rattle.handoff.specs.declared.rule.Part.{Part}
use Rattle.handoff.specs.declared.rule.Part.TheVariants.{First, Alone, Idle, Gave, Ended, Ready, Works, Dismissed}
use Rattle.handoff.specs.declared.rule.View.{View}

-- how a handoff stands
pub data Stand (T : Type 0) : Type 0 where
  -- it has one seat, and the slot lies there empty
  fresh : Stand T
  -- it has one seat, which has the slot
  alone : Stand T
  -- nothing is given, and the giver has the slot
  idle : Stand T
  -- this value was given, and lies in the slot
  given : T → Stand T
  -- this value was given, and the worker has the slot
  taken : T → Stand T
  -- the first was given, and the second lies in the slot
  returned : T → T → Stand T
  -- nothing is given any more, and the slot lies there empty
  ended : Stand T
  -- the same, and the worker was told so
  dismissed : Stand T

module _ {T K : Type 0} where
  -- a seat's view
  abbrev pub knows : K → Part T → View T K
  knows key part = record { key = key; part = part }

  -- the word, what lies in the slot where nobody has it, and what the giver and the worker do
  abbrev pub state_at : K → Stand T → State (Option T) (View T K)
  state_at key fresh = record { words = 0 ∷ []; homes = some None ∷ []; views = knows key First ∷ [] }
  state_at key alone = record { words = 0 ∷ []; homes = none ∷ []; views = knows key Alone ∷ [] }
  state_at key idle = record { words = 0 ∷ []; homes = none ∷ []; views = knows key Idle ∷ knows key Ready ∷ [] }
  state_at key (given v) = record { words = 1 ∷ []; homes = some (Some v) ∷ []; views = knows key (Gave v) ∷ knows key Ready ∷ [] }
  state_at key (taken v) = record { words = 1 ∷ []; homes = none ∷ []; views = knows key (Gave v) ∷ knows key (Works v) ∷ [] }
  state_at key (returned v w) = record { words = 0 ∷ []; homes = some (Some w) ∷ []; views = knows key (Gave v) ∷ knows key Ready ∷ [] }
  state_at key ended = record { words = 2 ∷ []; homes = some None ∷ []; views = knows key Ended ∷ knows key Ready ∷ [] }
  state_at key dismissed = record { words = 2 ∷ []; homes = some None ∷ []; views = knows key Ended ∷ knows key Dismissed ∷ [] }

-- what may be given, and what it may become
module _ {T : Type 0} (can : T → Type 0) (done : T → T → Type 0) where
  -- a value that lies there given is one that may be, and one that was put back is what the given one may have become
  abbrev pub MayStand : Stand T → Type 0
  MayStand fresh = ⊤
  MayStand alone = ⊤
  MayStand idle = ⊤
  MayStand (given v) = can v
  MayStand (taken v) = ⊤
  MayStand (returned v w) = done v w
  MayStand ended = ⊤
  MayStand dismissed = ⊤

  -- the rule of a handoff
  pub record IsHandoff {K : Type 0} (key : K) (s : State (Option T) (View T K)) : Type 0 where
    pub stand : Stand T
    pub is : s ≡ state_at key stand
    pub may : MayStand stand

-- ---- what a step tells, of the seat before, the number found and the seat after

module _ {T K : Type 0} where
  abbrev pub BeginsGiving : Step (Option T) → Me (Option T) (View T K) → ℕ → Me (Option T) (View T K) → Type 0
  BeginsGiving st me found after = after ≡ (knows me.0.key Alone, (0, None) ∷ [])

  abbrev pub GivesValue : Step (Option T) → Me (Option T) (View T K) → ℕ → Me (Option T) (View T K) → Type 0
  GivesValue st me found after = (v : T) → me.1 ≡ (0, Some v) ∷ [] → after ≡ (knows me.0.key (Gave v), [])

  abbrev pub TakesValue : (K → T → T → Type 0) → Step (Option T) → Me (Option T) (View T K) → ℕ → Me (Option T) (View T K) → Type 0
  TakesValue done st me found after = (v : T) → me.0.part ≡ Gave v
      → MatchBool (found == 0) ((w : T) × done me.0.key v w × (after ≡ (knows me.0.key Idle, (0, Some w) ∷ []))) (after ≡ (me.0, []))

  abbrev pub EndsGiving : Step (Option T) → Me (Option T) (View T K) → ℕ → Me (Option T) (View T K) → Type 0
  EndsGiving st me found after = after ≡ (knows me.0.key Ended, [])

  abbrev pub LooksForWork : (K → T → Type 0) → Step (Option T) → Me (Option T) (View T K) → ℕ → Me (Option T) (View T K) → Type 0
  LooksForWork can st me found after =
      MatchBool (found == 1) ((v : T) × can me.0.key v × (after ≡ (knows me.0.key (Works v), (0, Some v) ∷ []))) (after ≡ (me.0, []))

  abbrev pub LooksForEnd : Step (Option T) → Me (Option T) (View T K) → ℕ → Me (Option T) (View T K) → Type 0
  LooksForEnd st me found after = MatchBool (found == 2) (after ≡ (knows me.0.key Dismissed, [])) (after ≡ (me.0, []))

  abbrev pub ReturnsValue : Step (Option T) → Me (Option T) (View T K) → ℕ → Me (Option T) (View T K) → Type 0
  ReturnsValue st me found after = after ≡ (knows me.0.key Ready, [])
