-- Which words there are, and the number that a word packs to.
use Rattle.std.specs.Prelude.{ℕ, ◌≡◌, ◌+◌, ◌*◌, ◌^◌, ◌<◌, Bool, false, ◌&&◌, ◌||◌, if◌then◌else◌}
use Rattle.seq_timer.specs.declared.observation.Peek.{Peek}

-- a word's stamp has 48 bits and its base 8, and a timer on the move is neither armed nor running
pub record IsWord (w : Peek) : Type 0 where
  pub stamp : w.stamp < 2 ^ 48
  pub base : w.base < 256
  pub apart : w.moving && (w.enqueued || w.running) ≡ false

-- a flag as one bit
abbrev pub bit : Bool → ℕ
bit b = if b then 1 else 0

-- bits 0 to 47 the stamp, 48 to 55 the base, 56 enqueued, 57 running, 58 moving
abbrev pub packed : Peek → ℕ
packed w = w.stamp + w.base * 2 ^ 48 + (bit w.enqueued + bit w.running * 2 + bit w.moving * 4) * 2 ^ 56
