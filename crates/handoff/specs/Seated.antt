-- What the seats of a handoff have.
use Rattle.std.specs.Prelude.{ℕ, ◌≡◌, List, [], ◌∷◌, Option, None}
use Rattle.atomic_table.specs.Seated.{TableId}
use Rattle.atomic_table.specs.declared.shared.Seat.{Seat}
use Rattle.handoff.specs.declared.rule.Part.{Part}
use Rattle.handoff.specs.declared.rule.Part.TheVariants.{Idle, Gave, Ended, Ready, Works, Dismissed}
use Rattle.handoff.specs.declared.rule.View.{View}
use Rattle.handoff.specs.Handoffs.{knows}

-- a handoff, and its key
pub record HandoffOf (K : Type 0) : Type 0 where
  pub id : TableId
  pub key : K

-- a seat of a handoff
abbrev pub SeatOf : Type 0 → Type 0 → Type 0
SeatOf T K = Seat (Option T) (View T K)

module _ {T K : Type 0} where
  -- a seat of a handoff does this, and has these slots
  pub record Has (handoff : HandoffOf K) (part : Part T) (slots : List (ℕ × Option T)) (seat : SeatOf T K) : Type 0 where
    pub same : seat.table_id ≡ handoff.id
    pub me : seat.me ≡ (knows handoff.key part, slots)

  -- the giver has given nothing, and may give
  abbrev pub MayGive : HandoffOf K → SeatOf T K → Type 0
  MayGive handoff seat = Has handoff Idle ((0, None) ∷ []) seat

  -- the giver has given this value, and not had it back
  abbrev pub HasGiven : HandoffOf K → T → SeatOf T K → Type 0
  HasGiven handoff v seat = Has handoff (Gave v) [] seat

  -- the giver gives nothing any more
  abbrev pub HasEnded : HandoffOf K → SeatOf T K → Type 0
  HasEnded handoff seat = Has handoff Ended [] seat

  -- the worker may take a value
  abbrev pub AwaitsWork : HandoffOf K → SeatOf T K → Type 0
  AwaitsWork handoff seat = Has handoff Ready [] seat

  -- the worker has taken this value
  abbrev pub IsWorking : HandoffOf K → T → SeatOf T K → Type 0
  IsWorking handoff v seat = Has handoff (Works v) ((0, None) ∷ []) seat

  -- the worker was told that the giver has ended
  abbrev pub IsDismissed : HandoffOf K → SeatOf T K → Type 0
  IsDismissed handoff seat = Has handoff Dismissed [] seat
