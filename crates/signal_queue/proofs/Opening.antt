-- The rule holds of a new queue: nothing was pushed.
use Rattle.std.proofs.Common.{◌≡◌, ℕ, zero, suc, true, [], ◌∷◌, length, refl, ap, sym, subst, arith}
use Rattle.std.proofs.lemmas.Bool.Decides.{nat_tests}
use Rattle.std.proofs.lemmas.List.Elements.{All-nil}
use mathlib.Core.Option.{some, some-injective, some-ne-none}
use lib.ListN.{get_elem?}
use Rattle.signal_queue.specs.declared.signal.Turn.{Turn}
use Rattle.pass_names.specs.Counts.{one_if}
use Rattle.pass_names.specs.Passes.{Begins, HasEach, entries, within}
use Rattle.pass_names.proofs.Names.{first_tree}
use Rattle.pass_names.proofs.Passes.{goes_refl}
use Rattle.signal_queue.specs.declared.view.QueueView.{QueueView}
use Rattle.signal_queue.specs.Views.{first_queue_view}
use Rattle.signal_queue.specs.Rules.{QueueAgrees, QueueInvariant}

no_write : (i k : ℕ) → one_if (within k (length (entries {E = Turn} i ([] ∷ [])))) ≡ 0
no_write zero k = grind (arith, nat_tests)
no_write (suc i) k = grind (arith, nat_tests)

agrees_first : (j : ℕ) (v : QueueView) → get_elem? (first_queue_view ∷ []) j ≡ some v → QueueAgrees [] v
agrees_first zero v e =
    subst (λ u. QueueAgrees [] u) (some-injective first_queue_view v e)
    (record { seen = goes_refl ([] ∷ []); heard = All-nil (λ ws. Begins ws []); gone = λ off. refl; pushes = λ on. (refl, omega arith); pops = λ on. refl; pushes_made = λ on. refl; pops_made = λ on. refl })
agrees_first (suc j) v e = absurd (some-ne-none v (sym e))

knows_first : (j : ℕ) (v : QueueView) → get_elem? (first_queue_view ∷ []) j ≡ some v → v.pass.id.live ≡ true → v.room ≡ 0
knows_first zero v e on = ap (λ u. u.room) (sym (some-injective first_queue_view v e))
knows_first (suc j) v e on = absurd (some-ne-none v (sym e))

pub opens : QueueInvariant [] (first_queue_view ∷ [])
opens = record {
  log = [];
  room = 0;
  shows = refl;
  legal = tt;
  rooms = knows_first;
  each_view = agrees_first;
  tree = first_tree;
  tally = λ i k. omega (arith, no_write i k);
  one_pusher = refl;
  one_popper = refl;
  all_seen = (zero, first_queue_view, refl, record { live = refl; all = refl });
}

-- the first pass has each of no turns
pub each_of_none : HasEach {E = Turn} ([] ∷ []) []
each_of_none = record { once = λ i k. omega (arith, no_write i k) }
