-- What a checker holds.
use Rattle.std.specs.Prelude.{ℕ, ◌≡◌}
use Rattle.trace_check.specs.declared.checker.Checker.{Checker}
use Rattle.trace_check.specs.Holding.{TellsPassed, known_in, known_on}
use Rattle.trace_check.specs.Knowledge.{Knowledge}

-- a checker holds what is known
pub record HoldsKnowledge (c : Checker) (k : Knowledge) : Type 0 where
  pub timers : (t : ℕ) → known_in c.timers t ≡ k.timers t
  pub processors : (p : ℕ) → known_on c.processors p ≡ k.processors p
  pub queues : TellsPassed c.queues k.claims
  pub count : c.count ≡ k.count
