-- The clock after a list of writes that it took: its stamp counts them, and it shows a reading within its limits.
use Rattle.std.proofs.Common.{◌≡◌, ℕ, ◌+◌, ◌≤◌, Bool, true, false, if◌then◌else◌, nat_eq, List, [], ◌∷◌, ◌++◌, length, refl, sym, subst, arith}
use Rattle.ktime.specs.Readings.{ClockReading, IsTimely, latest}
use Rattle.ktime.specs.Clocks.{last_stamp, at_stamp, moved_to, after_write, greatest, IsAccepted, clock_after, AreAccepted}
use Rattle.ktime.specs.declared.write.Write.{Write}
use Rattle.ktime.specs.declared.write.Write.TheVariants.{Advance, Set, Suspend}

-- a reading that a clock may show
pub record IsShown (r : ClockReading) : Type 0 where
  pub counted : r.stamp ≤ last_stamp
  pub changes : r.changes ≤ r.stamp
  pub timely : IsTimely r

moved : (r : ClockReading) (mono real boot : ℕ) → IsShown r → r.stamp + 1 ≤ last_stamp → greatest (moved_to r mono real boot) ≤ latest
    → IsShown (moved_to r mono real boot)
moved r mono real boot is counted timely = record {
  counted = counted;
  changes = most (nat_eq (real + r.mono) (r.real + mono)) r.changes r.stamp is.changes;
  timely = record { mono = omega arith; real = omega arith; boot = omega arith };
}
  where
    most : (b : Bool) (n m : ℕ) → n ≤ m → (if b then n else n + 1) ≤ m + 1
    most true n m h = omega arith
    most false n m h = omega arith

shown_after : (r : ClockReading) (w : Write) → IsShown r → IsAccepted r w → IsShown (after_write r w)
shown_after r (Advance by) is ok = moved r (r.mono + by) (r.real + by) (r.boot + by) is (omega (arith, ok.counted)) ok.timely
shown_after r (Set to) is ok = moved r r.mono to r.boot is (omega (arith, ok.counted)) ok.timely
shown_after r (Suspend by) is ok = moved r r.mono (r.real + by) (r.boot + by) is (omega (arith, ok.counted)) ok.timely

shown_from : (r : ClockReading) (ws : List Write) → IsShown r → AreAccepted r ws → IsShown (clock_after r ws)
shown_from r [] is ok = is
shown_from r (w ∷ ws) is ok = shown_from (after_write r w) ws (shown_after r w is ok.0) ok.1

-- the clock after writes that it took
pub shown_by : (r : ClockReading) (ws : List Write) → r ≡ clock_after (at_stamp 0) ws → AreAccepted (at_stamp 0) ws → IsShown r
shown_by r ws e ok = subst IsShown (sym e) (shown_from (at_stamp 0) ws start ok)
  where
    start : IsShown (at_stamp 0)
    start = record {
      counted = omega arith;
      changes = omega arith;
      timely = record { mono = omega arith; real = omega arith; boot = omega arith };
    }

-- a write is counted once
pub after_write_counts : (r : ClockReading) (w : Write) → (after_write r w).stamp ≡ r.stamp + 1
after_write_counts r (Advance by) = refl
after_write_counts r (Set to) = refl
after_write_counts r (Suspend by) = refl

stamp_from : (r : ClockReading) (ws : List Write) → (clock_after r ws).stamp ≡ r.stamp + length ws
stamp_from r [] = omega arith
stamp_from r (w ∷ ws) = omega (arith, stamp_from (after_write r w) ws, after_write_counts r w)

-- the stamp is how many writes were made
pub stamp_after : (ws : List Write) → (clock_after (at_stamp 0) ws).stamp ≡ length ws
stamp_after ws = omega (arith, stamp_from (at_stamp 0) ws)

pub clock_after-append : (r : ClockReading) (xs ys : List Write) → clock_after r (xs ++ ys) ≡ clock_after (clock_after r xs) ys
clock_after-append r [] ys = refl
clock_after-append r (x ∷ xs) ys = clock_after-append (after_write r x) xs ys

-- one write more
pub accepted_push : (r : ClockReading) (ws : List Write) (w : Write) → AreAccepted r ws → IsAccepted (clock_after r ws) w
    → AreAccepted r (ws ++ w ∷ [])
accepted_push r [] w ok one = (one, refl)
accepted_push r (x ∷ xs) w ok one = (ok.0, accepted_push (after_write r x) xs w ok.1 one)
