-- What a thread's seat has at timers that threads share, and what is true of it.
use Rattle.std.specs.Prelude.{◌≡◌, ◌<◌, Option, Some, None, List, [], ◌∷◌, length}
use Rattle.base_row.specs.Calls.{BaseRowOf}
use Rattle.base_row.specs.declared.view.Claimed.{Claimed}
use Rattle.hr_timers.specs.Carriers.{IsCarrierOf}
use Rattle.hr_timers.specs.Known.{IsPassOf, PassOf, claimed_as}
use Rattle.hr_timers.specs.declared.numbers.ClaimNumbers.{ClaimNumbers}
use Rattle.hulayban_c.specs.declared.shared.held.Held.{Held}
use Rattle.hulayban_c.specs.declared.shared.held.Held.TheVariants as holds

-- a seat: its timers, what it holds of them, and the claim of the timer whose function it runs
pub record SeatAt : Type 0 where
  pub timers : BaseRowOf
  pub held : Held
  pub claim : Option ClaimNumbers

-- the claims of a pass whose seat has this one, or none
abbrev pub claims_of_seat : Option ClaimNumbers → List Claimed
claims_of_seat None = []
claims_of_seat (Some c) = claimed_as c ∷ []

-- what a seat holds is of these timers, and has these claims
abbrev pub IsHeld : BaseRowOf → List Claimed → Held → Type 0
IsHeld timers claims (holds.Rests p) = IsPassOf timers p × (p.known.claims ≡ claims)
IsHeld timers claims (holds.Carries c) = IsCarrierOf timers c × (c.pass.known.claims ≡ claims)
IsHeld timers claims holds.Taken = ⊥

-- the timer of a claim is one of these
abbrev pub IsClaimOf : BaseRowOf → Option ClaimNumbers → Type 0
IsClaimOf timers None = Unit
IsClaimOf timers (Some c) = c.timer < length timers.about.timers

-- what a seat has is of its timers: a pass or a carrier, whose claims are the seat's
abbrev pub IsSeat : BaseRowOf → Held → Option ClaimNumbers → Type 0
IsSeat timers held claim = IsHeld timers (claims_of_seat claim) held × IsClaimOf timers claim

-- the seat has a pass, and nothing else
abbrev pub IsFreeSeat : SeatAt → Type 0
IsFreeSeat s = ((p : PassOf) × (s.held ≡ holds.Rests p)) × (s.claim ≡ None)

-- the seat with this pass in place of what it holds
abbrev pub with_pass : SeatAt → PassOf → SeatAt
with_pass s p = record s { held = holds.Rests p }
