-- The clock after one write and after a list of writes, and when a write is refused.
use Rattle.std.specs.Prelude.{◌≡◌, ℕ, ◌+◌, ◌^◌, ◌≤◌, ◌<◌, ◌↔◌, max, nat_eq, if◌then◌else◌, List, [], ◌∷◌, Result, Err, IfOk, OnErr}
use Rattle.ktime.specs.Readings.{ClockReading, latest}
use Rattle.ktime.specs.declared.write.Write.{Write}
use Rattle.ktime.specs.declared.write.Write.TheVariants as writes
use Rattle.ktime.specs.declared.write.ClockFault.{ClockFault}
use Rattle.ktime.specs.declared.write.ClockFault.TheVariants.{ClockSpent, ClockRange}

-- how many writes the clock counts
abbrev pub last_stamp : ℕ
last_stamp = 2 ^ 32

-- the clock before any write, with so many counted
abbrev pub at_stamp : ℕ → ClockReading
at_stamp stamp = record { stamp = stamp; mono = 0; real = 0; boot = 0; changes = 0 }

-- the clock moved to these times by one write: the offset of real time to monotonic time changed, or stayed
abbrev pub moved_to : ClockReading → ℕ → ℕ → ℕ → ClockReading
moved_to r mono real boot = record {
  stamp = r.stamp + 1;
  mono = mono;
  real = real;
  boot = boot;
  changes = if nat_eq (real + r.mono) (r.real + mono) then r.changes else r.changes + 1;
}

-- the reading after one write
abbrev pub after_write : ClockReading → Write → ClockReading
after_write r (writes.Advance by) = moved_to r (r.mono + by) (r.real + by) (r.boot + by)
after_write r (writes.Set to) = moved_to r r.mono to r.boot
after_write r (writes.Suspend by) = moved_to r r.mono (r.real + by) (r.boot + by)

-- the greatest of the three times
abbrev pub greatest : ClockReading → ℕ
greatest r = max (max r.mono r.real) r.boot

-- the clock takes this write
pub record IsAccepted (r : ClockReading) (w : Write) : Type 0 where
  pub counted : r.stamp < last_stamp
  pub timely : greatest (after_write r w) ≤ latest

-- when a write is refused, and why: the count of writes is looked at first
pub record IsRefusedAs {T : Type 0} (r : ClockReading) (w : Write) (result : Result T ClockFault) : Type 0 where
  pub spent : (result ≡ Err ClockSpent) ↔ (last_stamp ≤ r.stamp)
  pub range : (would_be : ℕ)
      → (result ≡ Err (ClockRange would_be)) ↔ ((r.stamp < last_stamp) × (latest < would_be) × (would_be ≡ greatest (after_write r w)))

-- a write, made or refused: it answers the reading after it, which the clock then shows, and a refusal changes nothing
pub record MakesWrite (w : Write) (old new : ClockReading) (result : Result ClockReading ClockFault) : Type 0 where
  pub ok : IfOk result (λ r. (r ≡ after_write old w) × (new ≡ r))
  pub refused : IsRefusedAs old w result
  pub err : OnErr result (new ≡ old)

-- the reading after a list of writes
abbrev pub clock_after : ClockReading → List Write → ClockReading
clock_after r [] = r
clock_after r (w ∷ ws) = clock_after (after_write r w) ws

-- each of the writes is accepted in its turn
abbrev pub AreAccepted : ClockReading → List Write → Type 0
AreAccepted r [] = r ≡ r
AreAccepted r (w ∷ ws) = IsAccepted r w × AreAccepted (after_write r w) ws
