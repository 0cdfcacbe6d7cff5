-- What callbacks are told, why a write is refused, and how an object's start is told.
use Rattle.std.specs.Prelude.{ℕ, ◌≡◌, ◌<◌, Bool, true, Option, Some, None}
use Rattle.ktime.specs.Readings.{latest}
use Rattle.ktime.specs.Clocks.{last_stamp}
use Rattle.seq_timer.specs.declared.observation.Observation.{Observation}
use Rattle.seq_timer.specs.declared.observation.Observation.TheVariants as observations
use Rattle.seq_timer.specs.Steps.{Timer}
use Rattle.record_text.specs.declared.record.CallbackReply.{CallbackReply}
use Rattle.record_text.specs.declared.record.CallbackReply.TheVariants as replies
use Rattle.run_history.specs.Objects.{ArmedAs}

-- what a callback was told, as an observation
abbrev pub observed : CallbackReply → Observation
observed (replies.Running generation) = observations.Running generation
observed (replies.Armed generation) = observations.Armed generation
observed replies.Spent = observations.Spent

-- a forward is refused as armed only below the limit, which is looked at first
abbrev pub IsArmedBelowLimit : ℕ → ℕ → CallbackReply → Type 0
IsArmedBelowLimit limit number (replies.Armed generation) = number < limit
IsArmedBelowLimit limit number (replies.Running generation) = Unit
IsArmedBelowLimit limit number replies.Spent = Unit

-- the object after its entry has armed its timer as the timer's start has it: with its expiry, and for a settime or a sleep on its clock
abbrev pub IsArmedLike : Bool → Option ArmedAs → ℕ → Timer → Type 0
IsArmedLike on_clock None generation timer = ⊥
IsArmedLike on_clock (Some a) generation timer = (a.generation ≡ generation) × (a.expires ≡ timer.expires) × (on_clock ≡ true → a.clock ≡ timer.clock)

-- the clock refuses the write: the greatest of its times would be past the latest
pub record IsOutOfRange (stamp would_be most : ℕ) : Type 0 where
  pub counted : stamp < last_stamp
  pub late : latest < would_be
  pub greatest : would_be ≡ most
