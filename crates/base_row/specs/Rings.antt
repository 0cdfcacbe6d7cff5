-- Rings: a bounded queue's two counters, of what was put in and of what was taken off. At no moment was more taken than put, or is more in it than has room.
use Rattle.std.specs.Prelude.{ℕ, ◌≡◌, ◌≤◌, ◌<◌, ◌+◌, List, length, slice_index}
use Rattle.pass_names.specs.Passes.{Begins}
use Rattle.seq_timer.specs.declared.system.SystemEntry.{SystemEntry}
use Rattle.seq_timer.specs.Systems.{rises_of}
use Rattle.base_row.specs.declared.view.Opening.{Opening}

-- how many counters there are: those that rise freely, and two for each ring
abbrev pub counters_in : Opening → ℕ
counters_in o = o.counters + (length o.rings + length o.rings)

-- which counter says how much was put into a ring
abbrev pub put_counter : Opening → ℕ → ℕ
put_counter o r = o.counters + (r + r)

-- which counter says how much was taken off it
abbrev pub taken_counter : Opening → ℕ → ℕ
taken_counter o r = put_counter o r + 1

-- how much was put into a ring, and taken off it
abbrev pub put_in : Opening → ℕ → List SystemEntry → ℕ
put_in o r seen = rises_of (put_counter o r) seen

abbrev pub taken_off : Opening → ℕ → List SystemEntry → ℕ
taken_off o r seen = rises_of (taken_counter o r) seen

-- how much may be in a ring
abbrev pub ring_room : Opening → ℕ → ℕ
ring_room o r = slice_index o.rings r

-- no more was taken off a ring than was put in, and no more is in it than has room
pub record IsRingInBounds (o : Opening) (seen : List SystemEntry) (r : ℕ) : Type 0 where
  pub put_first : taken_off o r seen ≤ put_in o r seen
  pub room : put_in o r seen ≤ taken_off o r seen + ring_room o r

-- at each moment of a history each ring was in its bounds
abbrev pub KeepsRings : Opening → List SystemEntry → Type 0
KeepsRings o log = (before : List SystemEntry) → Begins before log → (r : ℕ) → r < length o.rings → IsRingInBounds o before r

-- by what is seen no ring keeps a counter from rising to so much
pub record MayRiseTo (o : Opening) (k to : ℕ) (seen : List SystemEntry) : Type 0 where
  pub put : (r : ℕ) → r < length o.rings → k ≡ put_counter o r → to ≤ taken_off o r seen + ring_room o r
  pub taken : (r : ℕ) → r < length o.rings → k ≡ taken_counter o r → to ≤ put_in o r seen
