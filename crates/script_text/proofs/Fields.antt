-- The fields of a row and what fills them, one after the other.
use Rattle.std.proofs.Common.{◌≡◌, ℕ, ◌+◌, ◌<◌, ◌≤◌, List, [], ◌∷◌, length, drop, get_or, map, Option, Some, None, refl, sym, ap, ◌∙◌, arith}
use Rattle.std.specs.Option.{option_or}
use Rattle.std.proofs.lemmas.List.{drop_more, drop_all, get_or-map, length-map}
use Rattle.script_text.specs.declared.form.Field.{Field}
use Rattle.script_text.specs.declared.form.Value.{Value}
use Rattle.script_text.specs.declared.refusal.Cause.{Cause}
use Rattle.script_text.specs.declared.reading.drafts.Draft.{Draft}
use Rattle.script_text.specs.Forms.{Spot, Key, At, field_at}
use Rattle.script_text.specs.Refusals.{base_named, check_value, check_values}

-- the spot at which a loop over the fields stands, and those after it
spot_here : (spots : List Spot) (fields : List (Option Field)) (i : ℕ) (d : Option Field) → fields ≡ map field_at spots → i < length fields
    → (spot : Spot) × (drop i spots ≡ spot ∷ drop (i + 1) spots) × (get_or fields i d ≡ field_at spot)
spot_here spots fields i d is inside =
    let same : length (map field_at spots) ≡ length spots = length-map _ _ in
    let here : i < length spots = omega (arith, inside, ap (λ (ps : List (Option Field)). length ps) is, same) in (
      get_or spots i (Key []),
      drop_more spots i (Key []) here,
      ap (λ (ps : List (Option Field)). get_or ps i d) is
          ∙ get_or-map field_at spots i (Key []) d here,
    )

module _ (d : Draft) (base : ℕ) where
  key_says : (spot : Spot) (spots : List Spot) (vs : List Value) → field_at spot ≡ None
      → check_values d base (spot ∷ spots) vs ≡ check_values d base spots vs
  unfolding check_values
  key_says (Key word) spots vs is = refl
  key_says (At field) spots vs is = absurd cc

  field_says : (spot : Spot) (spots : List Spot) (field : Field) (v : Value) (vs : List Value) → field_at spot ≡ Some field
      → check_values d base (spot ∷ spots) (v ∷ vs)
      ≡ option_or (check_value d base field v) (check_values d (base_named base v field) spots vs)
  unfolding check_values
  field_says (Key word) spots field v vs is = absurd cc
  field_says (At p) spots field v vs is = let same : p ≡ field = cc in rw same refl

  unfilled_says : (spot : Spot) (spots : List Spot) (field : Field) → field_at spot ≡ Some field
      → check_values d base (spot ∷ spots) [] ≡ None
  unfolding check_values
  unfilled_says (Key word) spots field is = absurd cc
  unfilled_says (At p) spots field is = refl

  nothing_says : (vs : List Value) → check_values d base [] vs ≡ None
  unfolding check_values
  nothing_says vs = refl

-- ---- the steps of a loop over the fields

module _ (d : Draft) (base : ℕ) (spots : List Spot) (fields : List (Option Field)) (i : ℕ) (e : Option Field)
    (is : fields ≡ map field_at spots) where
  pub after_key : (vs : List Value) → i < length fields → get_or fields i e ≡ None
      → check_values d base (drop i spots) vs ≡ check_values d base (drop (i + 1) spots) vs
  after_key vs inside none =
      let here = spot_here spots fields i e is inside in
      rw here.1 (key_says d base here.0 (drop (i + 1) spots) vs (sym here.2 ∙ none))

  at_field : (field : Field) (v : Value) (vs : List Value) → i < length fields → get_or fields i e ≡ Some field
      → check_values d base (drop i spots) (v ∷ vs)
      ≡ option_or (check_value d base field v) (check_values d (base_named base v field) (drop (i + 1) spots) vs)
  at_field field v vs inside some =
      let here = spot_here spots fields i e is inside in
      rw here.1 (field_says d base here.0 (drop (i + 1) spots) field v vs (sym here.2 ∙ some))

  pub said : (field : Field) (v : Value) (vs rest : List Value) (cause : Cause) (total : Option Cause) → i < length fields
      → get_or fields i e ≡ Some field
      → rest ≡ v ∷ vs → Some cause ≡ check_value d base field v → check_values d base (drop i spots) rest ≡ total → Some cause ≡ total
  said field v vs rest cause total inside some is_rest gives so_far =
      let here : check_values d base (drop i spots) rest ≡ Some cause = rw (is_rest, at_field field v vs inside some, ← gives) refl in
      sym here ∙ so_far

  pub not_said : (field : Field) (v : Value) (vs rest : List Value) (total : Option Cause) → i < length fields → get_or fields i e ≡ Some field
      → rest ≡ v ∷ vs → None ≡ check_value d base field v → check_values d base (drop i spots) rest ≡ total
      → check_values d (base_named base v field) (drop (i + 1) spots) vs ≡ total
  not_said field v vs rest total inside some is_rest gives so_far =
      let here : check_values d base (drop i spots) rest ≡ check_values d (base_named base v field) (drop (i + 1) spots) vs =
      rw (is_rest, at_field field v vs inside some, ← gives) refl in
      sym here ∙ so_far

  pub unfilled : (field : Field) (rest : List Value) → i < length fields → get_or fields i e ≡ Some field → length rest ≡ 0
      → check_values d base (drop i spots) rest ≡ None
  unfilled field [] inside some none =
      let here = spot_here spots fields i e is inside in
      rw here.1 (unfilled_says d base here.0 (drop (i + 1) spots) field (sym here.2 ∙ some))
  unfilled field (v ∷ vs) inside some none = absurd (omega (arith, none))

  pub past_fields : (vs : List Value) → length fields ≤ i → check_values d base (drop i spots) vs ≡ None
  past_fields vs past =
      let same : length (map field_at spots) ≡ length spots = length-map _ _ in
      let all : drop i spots ≡ [] = drop_all i spots (omega (arith, past, ap (λ (ps : List (Option Field)). length ps) is, same)) in
      rw all (nothing_says d base vs)
