-- What is collected of an iterator, whatever it is collected into.
use Rattle.std.proofs.Common.{◌≡◌, List, Option, map, Result, Ok, Err, ap, ◌∙◌, IfOk}
use Rattle.std.specs.Bool.{⊤}
use Rattle.std.specs.Iterator.{DrainsIf}
use Rattle.std.proofs.lemmas.Iterator.{YieldsList, items_from_drains}

-- read one by one, the items are those that the iterator yields
pub read_from_collect : {S A B V E : Type 0} {steps : S → Option A → S → Type 0} {v : A → B} {s : S} {all : List B} (items : V → List A) (r : Result V E)
    → IfOk r (λ w. (xs : List A) × DrainsIf steps ⊤ s xs × (items w ≡ xs)) → YieldsList steps v s all → IfOk r (λ w. map v (items w) ≡ all)
read_from_collect {v = v} items (Ok w) ran road = ap (map v) ran.2 ∙ items_from_drains ran.0 ran.1 road
read_from_collect items (Err x) ran road = tt
