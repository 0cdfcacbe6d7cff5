-- The timers that a run's receipts claim, one receipt after another.
use Rattle.std.proofs.Common.{◌≡◌, ◌<◌, ◌+◌, ℕ, Bool, List, [], ◌∷◌, ◌++◌, length, take, get_or, refl, sym, ap, ◌∙◌}
use Rattle.std.proofs.lemmas.List.{take_more}
use Rattle.base_row.specs.declared.log.Receipt.{Receipt}
use Rattle.run_history.specs.Actions.{also}
use Rattle.lane_notes.specs.Called.{claimed_in, is_claim_event}
use Rattle.lane_notes.proofs.PartLists.{also-append}

pub claimed_in-append : (xs ys : List Receipt) → claimed_in (xs ++ ys) ≡ claimed_in xs ++ claimed_in ys
claimed_in-append [] ys = refl
claimed_in-append (r ∷ xs) ys = also-append (is_claim_event r.event) r.timer _ _ _ (claimed_in-append xs ys)

-- after one more receipt of a list
pub claimed_next : (xs : List Receipt) (i : ℕ) (r : Receipt) (b : Bool) (old new : List ℕ) → i < length xs → r ≡ get_or xs i r → is_claim_event r.event ≡ b
    → old ≡ claimed_in (take i xs) → new ≡ old ++ also b r.timer [] → new ≡ claimed_in (take (i + 1) xs)
claimed_next xs i r b old new here is claims so_far next =
    next ∙ ap (λ ts. ts ++ also b r.timer []) so_far ∙ ap (λ t. claimed_in (take i xs) ++ also t r.timer []) (sym claims)
    ∙ sym (claimed_in-append (take i xs) (r ∷ [])) ∙ sym (ap claimed_in (take_more xs i r here ∙ ap (λ x. take i xs ++ x ∷ []) (sym is)))
