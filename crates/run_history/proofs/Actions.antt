-- What a call did, of one list, in two parts.
use Rattle.std.proofs.Common.{◌≡◌, ℕ, ◌+◌, suc, true, false, nat_eq, List, [], ◌∷◌, ◌++◌, refl, ap}
use Rattle.run_history.specs.Actions.{Action, also, Began, Entered, Looked, Made, made, Shifted, Signalled, Skipped, Wrote}
use Rattle.run_history.specs.Traces.{all_entered}
use Rattle.run_history.specs.Witnesses.{OfBase, OfRise, OfTimer}

pub all_entered-append : (ds es : List Action) → all_entered (ds ++ es) ≡ all_entered ds ++ all_entered es
all_entered-append [] es = refl
all_entered-append (Wrote number write ∷ ds) es = ap (λ xs. (number, OfRise 0) ∷ xs) (all_entered-append ds es)
all_entered-append (Entered timer number entry ∷ ds) es = ap (λ xs. (number, OfTimer timer entry) ∷ xs) (all_entered-append ds es)
all_entered-append (Looked timer number reply ∷ ds) es = all_entered-append ds es
all_entered-append (Began i stamp ∷ ds) es = ap (λ xs. (stamp + stamp + 1, OfRise (suc i)) ∷ xs) (all_entered-append ds es)
all_entered-append (Made i number entry ∷ ds) es = ap (λ xs. (number + number, OfRise (suc i)) ∷ xs) (all_entered-append ds es)
all_entered-append (Skipped i number generation ∷ ds) es = all_entered-append ds es
all_entered-append (Shifted base number event ∷ ds) es = ap (λ xs. (number, OfBase base event) ∷ xs) (all_entered-append ds es)
all_entered-append (Signalled counter number signal ∷ ds) es = ap (λ xs. (number, OfRise counter) ∷ xs) (all_entered-append ds es)

pub made-append : (i : ℕ) (ds es : List Action) → made i (ds ++ es) ≡ made i ds ++ made i es
made-append i [] es = refl
made-append i (Wrote number write ∷ ds) es = made-append i ds es
made-append i (Entered timer number entry ∷ ds) es = made-append i ds es
made-append i (Looked timer number reply ∷ ds) es = made-append i ds es
made-append i (Began j stamp ∷ ds) es = made-append i ds es
made-append i (Made j number entry ∷ ds) es =
    elim (nat_eq j i) as (λ b. also b (number, entry) (made i (ds ++ es)) ≡ also b (number, entry) (made i ds) ++ made i es) [
      | true ↦ ap (λ xs. (number, entry) ∷ xs) (made-append i ds es)
      | false ↦ made-append i ds es
    ]
made-append i (Skipped j number generation ∷ ds) es = made-append i ds es
made-append i (Shifted base number event ∷ ds) es = made-append i ds es
made-append i (Signalled counter number signal ∷ ds) es = made-append i ds es
