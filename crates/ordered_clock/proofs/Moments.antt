-- Between two counts there is a moment with each count between them, and counts never fall.
use Rattle.std.proofs.Common.{◌≡◌, ℕ, ◌+◌, ◌<◌, ◌≤◌, Bool, true, false, nat_eq, List, [], ◌∷◌, ◌++◌, length, refl, ap, sym, ◌∙◌, ⊎_elim, arith, if◌then◌else◌}
use Rattle.std.proofs.lemmas.Bool.{cases_lt, eqb-true}
use Rattle.std.proofs.lemmas.Bool.Decides.{nat_tests}
use Rattle.std.proofs.lemmas.List.{append_assoc}
use Rattle.pass_names.specs.Passes.{Begins}
use Rattle.pass_names.proofs.Passes.{begins_more, begins_trans}
use Rattle.seq_timer.specs.Systems.{rises_of}
use Rattle.seq_timer.specs.declared.system.SystemEntry.{SystemEntry}
use Rattle.seq_timer.specs.declared.system.SystemEntry.TheVariants as entries
use Rattle.seq_timer.proofs.Systems.{rises_of-append}
use Rattle.std.proofs.Common.{length-append}
use Rattle.ktime.specs.Readings.{ClockReading}
use Rattle.ktime.specs.declared.write.Write.{Write}
use Rattle.clock_cell.specs.declared.view.ClockView.{ClockView}
use Rattle.clock_cell.specs.Views.{AcceptsWrite, writes}
use Rattle.pass_names.proofs.Passes.{begins_length}
use Rattle.ordered_clock.specs.Moments.{CountsAt, IsReadBeforeItIsWritten, ReadsAt, RisesAt, clock_counter}

-- a counter's rise of this number stands in a list, where the count passes it; so many stand before the list
record HasRise (k many number : ℕ) (xs : List SystemEntry) : Type 0 where
  before : List SystemEntry
  later : List SystemEntry
  whole : xs ≡ before ++ entries.Rise k ∷ later
  count : many + rises_of k before + 1 ≡ number

behind : (k many number : ℕ) (x : SystemEntry) (xs : List SystemEntry) (many' : ℕ) → ((ys : List SystemEntry) → many' + rises_of k ys ≡ many + rises_of k (x ∷ ys))
    → HasRise k many' number xs → HasRise k many number (x ∷ xs)
behind k many number x xs many' same r = record {
  before = x ∷ r.before;
  later = r.later;
  whole = ap (λ zs. x ∷ zs) r.whole;
  count = omega (arith, r.count, same r.before);
}

has_rise : (k many number : ℕ) (xs : List SystemEntry) → many < number → number ≤ many + rises_of k xs → HasRise k many number xs
has_rise k many number [] low high = absurd (omega (arith, low, high))
has_rise k many number (entries.Timer e ∷ xs) low high = behind k many number (entries.Timer e) xs many (λ ys. refl) (has_rise k many number xs low high)
has_rise k many number (entries.Base c ∷ xs) low high = behind k many number (entries.Base c) xs many (λ ys. refl) (has_rise k many number xs low high)
has_rise k many number (entries.Rise j ∷ xs) low high =
    elim (nat_eq j k) as (λ q. nat_eq j k ≡ q → number ≤ many + (if q then rises_of k xs + 1 else rises_of k xs) → HasRise k many number (entries.Rise j ∷ xs)) [
      | true ↦ λ is top. ⊎_elim
          (λ (more : many + 1 < number). behind k many number (entries.Rise j) xs (many + 1)
          (λ ys. omega (arith, ap (λ (b : Bool). if b then rises_of k ys + 1 else rises_of k ys) is)) (has_rise k (many + 1) number xs more (omega (arith, top))))
          (λ last. record {
            before = [];
            later = xs;
            whole = ap (λ n. entries.Rise n ∷ xs) (eqb-true j k is);
            count = omega (arith, low, last);
          })
          (cases_lt (many + 1) number)
      | false ↦ λ not top. behind k many number (entries.Rise j) xs many
          (λ ys. omega (arith, ap (λ (b : Bool). if b then rises_of k ys + 1 else rises_of k ys) not)) (has_rise k many number xs low (omega (arith, top)))
    ] refl high

-- a rise is one
pub one_rise : (k : ℕ) → rises_of k (entries.Rise k ∷ []) ≡ 1
one_rise k = elim (nat_eq k k) as (λ q. nat_eq k k ≡ q → (if q then 0 + 1 else 0) ≡ 1) [ true ↦ λ is. refl | false ↦ λ not. absurd (grind (arith, nat_tests, not)) ] refl

-- the rise of a number that a counter hadn't reached where it was looked at, and has behind that
pub risen_at : (k : ℕ) {old mid new : List SystemEntry} (number : ℕ) → Begins old mid → Begins mid new → rises_of k mid < number → number ≤ rises_of k new
    → RisesAt k old new number
risen_at k {old} {mid} {new} number a b low high =
    let whole : rises_of k new ≡ rises_of k mid + rises_of k b.rest = ap (rises_of k) b.whole ∙ rises_of-append k mid b.rest in
    let r = has_rise k (rises_of k mid) number b.rest low (omega (arith, whole, high)) in record {
      before = mid ++ r.before;
      from = begins_trans a (begins_more mid r.before);
      seen = record {
        rest = r.later;
        whole = b.whole ∙ (ap (λ zs. mid ++ zs) r.whole ∙ (sym (append_assoc mid r.before (entries.Rise k ∷ r.later))
            ∙ sym (append_assoc (mid ++ r.before) (entries.Rise k ∷ []) r.later)));
      };
      count = omega (arith, rises_of-append k mid r.before, r.count);
    }

-- the moment of a count: where the counter was looked at, or right behind the last of its rises
pub counted_at : (k : ℕ) {old mid new : List SystemEntry} (number : ℕ) → Begins old mid → Begins mid new → rises_of k mid ≤ number → number ≤ rises_of k new
    → CountsAt k old new number
counted_at k {old} {mid} {new} number a b low high =
    ⊎_elim
    (λ (more : rises_of k mid < number). let w = risen_at k number a b more high in record {
      at = w.before ++ entries.Rise k ∷ [];
      from = begins_trans w.from (begins_more w.before (entries.Rise k ∷ []));
      seen = w.seen;
      count = omega (arith, rises_of-append k w.before (entries.Rise k ∷ []), one_rise k, w.count);
    })
    (λ same. record { at = mid; from = a; seen = b; count = omega (arith, low, same) })
    (cases_lt (rises_of k mid) number)

-- a count never falls
pub rises : (k : ℕ) {xs ys : List SystemEntry} → Begins xs ys → rises_of k xs ≤ rises_of k ys
rises k {xs} b = omega (arith, ap (rises_of k) b.whole, rises_of-append k xs b.rest)

pub no_older : (old new : List SystemEntry) (stamp : ℕ) → ReadsAt old new stamp → rises_of clock_counter old ≤ stamp
no_older old new stamp r = omega (arith, rises clock_counter r.from, r.count)

pub never : (stamp : ℕ) → IsReadBeforeItIsWritten stamp → ⊥
never stamp w = omega (arith, rises clock_counter w.read.seen, rises clock_counter w.written.from, w.read.count, w.written.count, w.had)

-- a write's number is above what its pass had seen
pub grown : {w : Write} {old new : ClockView} {r : ClockReading} → AcceptsWrite w old new r → length (writes old) < r.stamp
grown {w} a = omega (arith, a.count, begins_length a.adds.begins, ap length a.adds.last, length-append a.adds.before (w ∷ []))
