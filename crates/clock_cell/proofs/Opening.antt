-- The rule holds of a new clock: nothing was written.
use Rattle.std.proofs.Common.{◌≡◌, ℕ, zero, suc, [], ◌∷◌, length, refl, sym, subst, arith}
use Rattle.std.proofs.lemmas.Bool.Decides.{nat_tests}
use Rattle.std.proofs.lemmas.List.Elements.{All-nil}
use mathlib.Core.Option.{some, some-injective, some-ne-none}
use lib.ListN.{get_elem?}
use Rattle.ktime.specs.Clocks.{at_stamp}
use Rattle.ktime.specs.declared.write.Write.{Write}
use Rattle.pass_names.specs.Counts.{one_if}
use Rattle.pass_names.specs.Passes.{Begins, entries, within}
use Rattle.pass_names.proofs.Names.{first_tree}
use Rattle.pass_names.proofs.Passes.{goes_refl}
use Rattle.clock_cell.specs.declared.view.ClockView.{ClockView}
use Rattle.clock_cell.specs.Views.{KnowsClock, first_clock_view}
use Rattle.clock_cell.specs.Words.{cell_words}
use Rattle.clock_cell.specs.Rules.{ClockAgrees, ClockInvariant}

no_write : (i k : ℕ) → one_if (within k (length (entries {E = Write} i ([] ∷ [])))) ≡ 0
no_write zero k = grind (arith, nat_tests)
no_write (suc i) k = grind (arith, nat_tests)

agrees_first : (j : ℕ) (v : ClockView) → get_elem? (first_clock_view ∷ []) j ≡ some v → ClockAgrees [] v
agrees_first zero v e =
    subst (λ u. ClockAgrees [] u) (some-injective first_clock_view v e)
    (record { seen = goes_refl ([] ∷ []); heard = All-nil (λ ws. Begins ws []); gone = λ off. refl })
agrees_first (suc j) v e = absurd (some-ne-none v (sym e))

pub opens : ClockInvariant (cell_words (at_stamp 0)) (first_clock_view ∷ [])
opens = record {
  log = [];
  shows = refl;
  legal = refl;
  each_view = agrees_first;
  tree = first_tree;
  tally = λ i k. omega (arith, no_write i k);
}

-- the first pass knows that it is the last
pub knows_first : KnowsClock first_clock_view
knows_first = record { one = refl; legal = refl; all_entries = λ last. record { once = λ i k. omega (arith, no_write i k) } }
