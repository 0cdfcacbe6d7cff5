-- What two outcomes of one call on a seat have in common.
use Rattle.std.specs.Prelude.{◌≡◌, Option, Some, None}
use Rattle.hr_timers.specs.Known.{KnownOfTimers}
use Rattle.hulayban_c.specs.Seats.{IsSeat, SeatAt}
use Rattle.hulayban_c.specs.declared.shared.held.Held.{Held}
use Rattle.hulayban_c.specs.declared.shared.held.Held.TheVariants as holds

-- what is behind a seat's handle: nothing, or a seat that keeps its invariant
abbrev pub IsSeatIfAny : Option SeatAt → Type 0
IsSeatIfAny None = Unit
IsSeatIfAny (Some s) = IsSeat s.timers s.held s.claim

-- what the holder of a seat knows of timers
abbrev pub known_by_held : Held → Option KnownOfTimers
known_by_held (holds.Rests p) = Some p.known
known_by_held (holds.Carries c) = Some c.pass.known
known_by_held holds.Taken = None

-- two seats are at timers that were made alike, know the same of them, and have the same claim
pub record AreAlikeSeats (s t : SeatAt) : Type 0 where
  pub about : s.timers.about ≡ t.timers.about
  pub known : known_by_held s.held ≡ known_by_held t.held
  pub claim : s.claim ≡ t.claim

-- the same of what two handles have
abbrev pub AreAlikeKept : Option SeatAt → Option SeatAt → Type 0
AreAlikeKept None None = Unit
AreAlikeKept (Some s) (Some t) = AreAlikeSeats s t
AreAlikeKept None (Some t) = ⊥
AreAlikeKept (Some s) None = ⊥
