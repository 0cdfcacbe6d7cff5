-- How seats come and go: what the calls of C on them answer and leave.
use Rattle.std.specs.Prelude.{ℕ, ℤ, ◌≡◌, ◌⊎◌, Option, Some, None, IsSome, List, Result, Ok, Err, map}
use Rattle.pass_names.specs.SharedHistory.{TakesIn, child_known, first_known, splitter_known}
use Rattle.seq_timer.specs.Steps.{limited}
use Rattle.base_row.specs.Calls.{opening_of}
use Rattle.hr_timers.specs.Carriers.{CarrierOf}
use Rattle.hr_timers.specs.Known.{PassOf}
use Rattle.hr_timers.specs.declared.numbers.ClaimNumbers.{ClaimNumbers}
use Rattle.hulayban_c.specs.Calls.{fault_among, timer_declared}
use Rattle.hulayban_c.specs.Seats.{IsFreeSeat, SeatAt, with_pass}
use Rattle.hulayban_c.specs.declared.codes.TheConstants.{CARRIES, DONE, HOLDS_CLAIM, IN_USE, NO_MEMORY, NO_TIMERS}
use Rattle.hulayban_c.specs.declared.crossing.Declares.{Declares}
use Rattle.hulayban_c.specs.declared.shared.held.Held.{Held}
use Rattle.hulayban_c.specs.declared.shared.held.Held.TheVariants as holds

-- the number for the first bad argument of timers that threads share
abbrev pub fault_shared : ℕ → List Declares → ℕ → Option ℤ
fault_shared bases declares max_events = fault_among 16777216 bases declares max_events

-- the first seat of new timers
pub record IsFirstSeat (bases : ℕ) (declares : List Declares) (max_events : ℕ) (s : SeatAt) : Type 0 where
  pub about : s.timers.about ≡ opening_of bases (map timer_declared declares) (limited max_events)
  pub first : (p : PassOf) × (s.held ≡ holds.Rests p) × (p.known ≡ first_known)
  pub claim : s.claim ≡ None

-- new timers, and their first seat: it takes them where it has none, the arguments are good, and there is memory
pub record SharedOpen (was : Option SeatAt) (bases : ℕ) (declares : List Declares) (max_events : ℕ) (returned : ℤ) (is : Option SeatAt) : Type 0 where
  pub in_use : IsSome was → (returned ≡ IN_USE) × (is ≡ was)
  pub bad : (code : ℤ) → was ≡ None → fault_shared bases declares max_events ≡ Some code → (returned ≡ code) × (is ≡ None)
  pub opened : was ≡ None → fault_shared bases declares max_events ≡ None
      → ((returned ≡ DONE) × (s : SeatAt) × (is ≡ Some s) × IsFirstSeat bases declares max_events s) ⊎ ((returned ≡ NO_MEMORY) × (is ≡ None))

-- another seat of the same timers, whose pass was split off this one's
pub record SplitsOff (old : SeatAt) (p : PassOf) (new other : SeatAt) : Type 0 where
  pub stays : (q : PassOf) × (q.known ≡ splitter_known p.known) × (new ≡ with_pass old q)
  pub goes : (q : PassOf) × (q.known ≡ child_known p.known) × (other ≡ record { timers = old.timers; held = holds.Rests q; claim = None })

-- no memory for another seat: nothing was split off, or it was taken in again
abbrev pub SplitsNone : SeatAt → PassOf → SeatAt → Type 0
SplitsNone old p new = (new ≡ old) ⊎ ((q : PassOf) × TakesIn (splitter_known p.known) (child_known p.known) q.known × (new ≡ with_pass old q))

-- what a split makes of a seat that holds this: one that carries a timer isn't split
abbrev pub SplitsHeld : Held → SeatAt → Result SeatAt ℤ → SeatAt → Type 0
SplitsHeld (holds.Carries c) old made new = (made ≡ Err CARRIES) × (new ≡ old)
SplitsHeld (holds.Rests p) old (Ok other) new = SplitsOff old p new other
SplitsHeld (holds.Rests p) old (Err code) new = (code ≡ NO_MEMORY) × SplitsNone old p new
SplitsHeld holds.Taken old made new = ⊥

-- a split of a seat, for one that has none
pub record SharedSplit (was none : Option SeatAt) (returned : ℤ) (is new : Option SeatAt) : Type 0 where
  pub no_timers : was ≡ None → (returned ≡ NO_TIMERS) × (is ≡ None) × (new ≡ none)
  pub in_use : (s : SeatAt) → was ≡ Some s → IsSome none → (returned ≡ IN_USE) × (is ≡ was) × (new ≡ none)
  pub carries : (s : SeatAt) (c : CarrierOf) → was ≡ Some s → none ≡ None → s.held ≡ holds.Carries c → (returned ≡ CARRIES) × (is ≡ was) × (new ≡ None)
  pub splits : (s : SeatAt) (p : PassOf) → was ≡ Some s → none ≡ None → s.held ≡ holds.Rests p
      → ((returned ≡ DONE) × (t : SeatAt) × (u : SeatAt) × (is ≡ Some t) × (new ≡ Some u) × SplitsOff s p t u)
      ⊎ ((returned ≡ NO_MEMORY) × (t : SeatAt) × (is ≡ Some t) × (new ≡ None) × SplitsNone s p t)

-- a seat is left: it goes where it has neither a carried timer nor a claim
pub record SharedLeave (was : Option SeatAt) (returned : ℤ) (is : Option SeatAt) : Type 0 where
  pub no_timers : was ≡ None → (returned ≡ NO_TIMERS) × (is ≡ None)
  pub carries : (s : SeatAt) (c : CarrierOf) → was ≡ Some s → s.held ≡ holds.Carries c → (returned ≡ CARRIES) × (is ≡ was)
  pub holds : (s : SeatAt) (p : PassOf) (c : ClaimNumbers) → was ≡ Some s → s.held ≡ holds.Rests p → s.claim ≡ Some c → (returned ≡ HOLDS_CLAIM) × (is ≡ was)
  pub left : (s : SeatAt) → was ≡ Some s → IsFreeSeat s → (returned ≡ DONE) × (is ≡ None)
