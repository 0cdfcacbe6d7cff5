-- The step table of an object, and the histories that it allows.
use Rattle.std.specs.Prelude.{◌≡◌, ◌<◌, ℕ, ◌+◌, not, ◌||◌, nat_eq, nat_lt, Option, Some, None, List, [], ◌∷◌, if◌then◌else◌}
use Rattle.ktime.specs.declared.timespec.TimeSpec.{TimeSpec}
use Rattle.timer_setting.specs.Arguments.{is_bad}

-- of a state and a call: whether the call may be made, the state after it, and its answer
pub record StepTable (S C R : Type 0) : Type 1 where
  pub allows : S → C → Type 0
  pub next : S → C → S
  pub answer : S → C → R

-- an entry of a history: the call, and what it answered
pub record AnsweredCall (C R : Type 0) : Type 0 where
  pub call : C
  pub reply : R

module _ {S C R : Type 0} where
  -- from this state the calls may be made in turn, each with the answer of its step
  abbrev pub AreCalls : StepTable S C R → S → List (AnsweredCall C R) → Type 0
  AreCalls table s [] = Unit
  AreCalls table s (e ∷ es) = table.allows s e.call × (e.reply ≡ table.answer s e.call) × AreCalls table (table.next s e.call) es

  -- the state after the calls
  abbrev pub after_calls : StepTable S C R → S → List (AnsweredCall C R) → S
  after_calls table s [] = s
  after_calls table s (e ∷ es) = after_calls table (table.next s e.call) es

  -- a call's reply and the state after it: where the call is refused, that is its reply and nothing changes, else it is a step of the table
  pub record IsAnswered (table : StepTable S C R) (refusal : Option R) (s : S) (call : C) (reply : R) (now : S) : Type 0 where
    pub refused : (r : R) → refusal ≡ Some r → (reply ≡ r) × (now ≡ s)
    pub made : refusal ≡ None → (reply ≡ table.answer s call) × (now ≡ table.next s call)

  -- a state counts its entries up to its limit, and each call is one
  pub record CountsCalls (table : StepTable S C R) (entries most : S → ℕ) : Type 0 where
    pub room : (s : S) (call : C) → table.allows s call → entries s < most s
    pub counted : (s : S) (call : C) → table.allows s call → entries (table.next s call) ≡ entries s + 1
    pub kept : (s : S) (call : C) → most (table.next s call) ≡ most s

module _ {R : Type 0} where
  -- a history with so many entries is full at this limit, and the call is refused with their number
  abbrev pub full_refusal : (ℕ → R) → ℕ → ℕ → Option R
  full_refusal spent stamp limit = if nat_lt stamp limit then None else Some (spent stamp)

  -- why a settime is refused, in this order: an unknown flag, a bad time, a full history
  abbrev pub settime_refusal : R → R → (ℕ → R) → ℕ → TimeSpec → TimeSpec → ℕ → ℕ → Option R
  settime_refusal bad_flags bad_time spent unknown value interval stamp limit =
      if not (nat_eq unknown 0) then Some bad_flags
      else (if is_bad value || is_bad interval then Some bad_time else full_refusal spent stamp limit)
