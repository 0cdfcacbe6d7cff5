-- When the clock takes a write, by the clause of one that was tried.
use Rattle.std.proofs.Common.{◌≡◌, ◌<◌, ◌≤◌, ◌⊎◌, ⊎_elim, arith, refl, sym, Ok, Err}
use Rattle.std.proofs.lemmas.Bool.{cases_lt, true≢false}
use Rattle.std.specs.Prelude.{IsErr, Result}
use Rattle.ktime.specs.Clocks.{IsAccepted, IsRefusedAs, after_write, greatest, last_stamp}
use Rattle.ktime.specs.Readings.{ClockReading, latest}
use Rattle.ktime.specs.declared.write.ClockFault.{ClockFault}
use Rattle.ktime.specs.declared.write.ClockFault.TheVariants.{ClockSpent, ClockRange}
use Rattle.ktime.specs.declared.write.Write.{Write}

-- law: a write that was made was accepted
pub accepts : (r after : ClockReading) (w : Write) → IsRefusedAs r w (Ok after) → IsAccepted r w
accepts r after w made =
    ⊎_elim
    (λ (counted : r.stamp < last_stamp). ⊎_elim
    (λ (late : latest < greatest (after_write r w)). absurd (let e = (made.range (greatest (after_write r w))).1 (counted, late, refl) in cc))
    (λ timely. record { counted = counted; timely = timely })
    (cases_lt latest (greatest (after_write r w))))
    (λ (spent : last_stamp ≤ r.stamp). absurd (let e = made.spent.1 spent in cc))
    (cases_lt r.stamp last_stamp)

-- law: a write that was refused is not accepted
pub refuses : (r : ClockReading) (w : Write) (answer : Result ClockReading ClockFault) → IsErr answer → IsRefusedAs r w answer → IsAccepted r w → ⊥
refuses r w (Ok after) err refused ok = absurd (true≢false (sym err))
refuses r w (Err ClockSpent) err refused ok = omega (arith, refused.spent.0 refl, ok.counted)
refuses r w (Err (ClockRange would_be)) err refused ok =
    let why = (refused.range would_be).0 refl in omega (arith, why.1, why.2, ok.timely)
