-- Notes of receipts, one more receipt at a time.
use Rattle.std.proofs.Common.{◌≡◌, ℕ, ◌+◌, ◌<◌, Option, Some, None, List, [], ◌∷◌, ◌++◌, length, map, take, get_or, refl, sym, ap, ◌∙◌}
use Rattle.std.proofs.lemmas.List.{append_assoc, map-append, take_more}
use Rattle.run_history.specs.Objects.{present}
use Rattle.base_row.specs.declared.log.Receipt.{Receipt}
use Rattle.timer_objects.specs.declared.log.ObjectReceipt.{ObjectReceipt}
use Rattle.record_text.specs.declared.record.Label.{Label}
use Rattle.lane_notes.specs.Notes.{NotesOf}
use Rattle.lane_notes.specs.Entries.{entry_note, look_note, with_receipts}
use Rattle.lane_notes.specs.Objects.{object_note, skip_note, with_object_receipts}

pub alike : {A B X : Type 0} (f : A → B → X) {a c : A} {b d : B} → a ≡ c → b ≡ d → f a b ≡ f c d
alike f {a = a} {d = d} first second = ap (f a) second ∙ ap (λ x. f x d) first

pub present-append : {A : Type 0} (xs ys : List (Option A)) → present (xs ++ ys) ≡ present xs ++ present ys
present-append [] ys = refl
present-append (None ∷ xs) ys = present-append xs ys
present-append (Some x ∷ xs) ys = ap (λ zs. x ∷ zs) (present-append xs ys)

-- the notes of items that are noted one by one
noted-append : {X A : Type 0} (note : X → Option A) (before : List A) (xs ys : List X)
    → before ++ present (map note (xs ++ ys)) ≡ before ++ present (map note xs) ++ present (map note ys)
noted-append note before xs ys =
    ap (λ zs. before ++ present zs) (map-append note xs ys) ∙ ap (λ zs. before ++ zs) (present-append (map note xs) (map note ys))
    ∙ sym (append_assoc before (present (map note xs)) (present (map note ys)))

-- of receipts in two parts, the notes of the second stand behind those of the first
pub with_receipts-append : (notes : NotesOf) (label : Label) (xs ys : List Receipt)
    → with_receipts notes label (xs ++ ys) ≡ with_receipts (with_receipts notes label xs) label ys
with_receipts-append notes label xs ys = alike (λ es ls. record notes { entries = es; looks = ls })
    (noted-append (entry_note label) notes.entries xs ys) (noted-append (look_note label) notes.looks xs ys)

pub with_object_receipts-append : (notes : NotesOf) (label : Label) (xs ys : List ObjectReceipt)
    → with_object_receipts notes label (xs ++ ys) ≡ with_object_receipts (with_object_receipts notes label xs) label ys
with_object_receipts-append notes label xs ys = alike (λ es ls. record notes { objects = es; skips = ls })
    (noted-append (object_note label) notes.objects xs ys) (noted-append (skip_note label) notes.skips xs ys)

-- a loop's step, where receipts are added one behind the other
pub receipts-step : {R : Type 0} (add : NotesOf → List R → NotesOf) → ((n : NotesOf) (xs ys : List R) → add n (xs ++ ys) ≡ add (add n xs) ys)
    → (notes now new : NotesOf) (rs : List R) (i : ℕ) (r : R) → i < length rs → r ≡ get_or rs i r → now ≡ add notes (take i rs)
    → new ≡ add now (r ∷ []) → new ≡ add notes (take (i + 1) rs)
receipts-step add append notes now new rs i r less is so_far step =
    step ∙ ap (λ (n : NotesOf). add n (r ∷ [])) so_far ∙ ap (λ x. add (add notes (take i rs)) (x ∷ [])) is
    ∙ sym (append notes (take i rs) (get_or rs i r ∷ [])) ∙ ap (add notes) (sym (take_more rs i r less))
