-- Instants counted one by one, against the division that the code makes.
use Rattle.std.proofs.Common.{arith, ◌≡◌, ◌≤◌, ◌<◌, ℕ, ◌+◌, ◌-◌, ◌*◌, ◌/◌, ◌%◌, zero, suc, nat_lt, if◌then◌else◌}
use Rattle.std.proofs.lemmas.Bool.{cases_lt}
use Rattle.std.proofs.Math.Logic.{⊎_elim}
use Rattle.std.proofs.lemmas.Bool.Decides.{nat_tests}
use Rattle.std.proofs.Math.Nat.{div-eq-sub-div, div-eq_of_lt, mod-add-div, mod-lt, mul-le-mul_right}
use Rattle.ktime.specs.Times.{passed_among, passed, step_of, IsFewest}

-- the whole steps up to now are none, or one more than those after the first step
pub quotient_step : (at now step : ℕ) → 0 < step → at ≤ now → (if nat_lt now (at + step) then 0 else suc ((now - (at + step)) / step)) ≡ (now - at) / step
quotient_step at now step positive reached =
    ⊎_elim (λ short. let below : now - at < step = omega (arith, short) in grind (arith, nat_tests, div-eq_of_lt below))
    (λ long. let whole : step ≤ now - at = omega (arith, long) in grind (arith, nat_tests, div-eq-sub-div positive whole))
    (cases_lt now (at + step))

-- with room for all of them, the instants up to now are one and the whole steps since the first
pub passed_among-divides : (most at now step : ℕ) → 0 < step → now + 1 ≤ at + most → passed_among most at now step ≡ (if nat_lt now at then 0 else suc ((now - at) / step))
passed_among-divides zero at now step positive room = grind (arith, nat_tests)
passed_among-divides (suc most) at now step positive room =
    let rest = passed_among-divides most (at + step) now step positive (omega arith) in
    ⊎_elim (λ early. grind (arith, nat_tests))
    (λ reached. grind (arith, nat_tests, rest, quotient_step at now step positive reached))
    (cases_lt now at)

-- the definition in one division: `passed` has room for an instant on each nanosecond
pub passed-divides : (at now interval : ℕ) → passed at now interval ≡ (if nat_lt now at then 0 else suc ((now - at) / step_of interval))
unfolding passed
passed-divides at now interval = passed_among-divides (now + 1 - at) at now (step_of interval) (omega arith) (omega arith)

-- the first instant after now, from the rest that the division leaves
pub next_after-divides : (at now interval : ℕ) → at ≤ now → at + passed at now interval * step_of interval ≡ now - (now - at) % step_of interval + step_of interval
next_after-divides at now interval reached =
    let step = step_of interval in
    let count : passed at now interval ≡ suc ((now - at) / step) = grind (arith, nat_tests, passed-divides at now interval) in
    rw count (grind (arith, mod-add-div (now - at) step))

-- the count is the fewest
pub passed-fewest : (at now interval : ℕ) → at ≤ now → IsFewest at now interval (passed at now interval)
passed-fewest at now interval reached =
    let end = next_after-divides at now interval reached in
    let rest : (now - at) % step_of interval < step_of interval = mod-lt (now - at) (omega arith) in
    record {
      past = omega (arith, end, rest);
      fewer = λ n below. omega (arith, end, rest, mul-le-mul_right (step_of interval) below);
    }

-- one instant at a time: the expiry itself, and then those after the next one
pub passed-next : (at now interval : ℕ) → passed at now interval ≡ (if nat_lt now at then 0 else suc (passed (at + step_of interval) now interval))
passed-next at now interval =
    ⊎_elim (λ early. grind (arith, nat_tests, passed-divides at now interval))
    (λ reached. grind (arith, nat_tests, passed-divides at now interval, passed-divides (at + step_of interval) now interval, quotient_step at now (step_of interval) (omega arith) reached))
    (cases_lt now at)
