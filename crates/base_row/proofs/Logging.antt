-- Receipts that went one after another where they are kept.
use Rattle.std.proofs.Common.{◌≡◌, List, [], ◌∷◌, ◌++◌, refl, sym, ◌∙◌, append_assoc}
use Rattle.std.proofs.lemmas.List.{append-nil}
use Rattle.base_row.specs.declared.log.Receipt.{Receipt}
use Rattle.base_row.specs.Logs.{LogOf, all_pushed, kept}

-- in two parts
pub all_pushed-append : {A : Type 0} (put : A → Receipt → A) (s : A) (xs ys : List Receipt)
    → all_pushed put s (xs ++ ys) ≡ all_pushed put (all_pushed put s xs) ys
all_pushed-append put s [] ys = refl
all_pushed-append put s (x ∷ xs) ys = all_pushed-append put (put s x) xs ys

-- a log has them behind its own
pub all_kept : (l : LogOf Receipt) (rs : List Receipt) → (all_pushed kept l rs).receipts ≡ l.receipts ++ rs
all_kept l [] = sym (append-nil l.receipts)
all_kept l (r ∷ rs) = all_kept (kept l r) rs ∙ append_assoc l.receipts (r ∷ []) rs
