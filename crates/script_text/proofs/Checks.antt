-- What it takes that no cause refuses a line.
use Rattle.std.proofs.Common.{◌≡◌, ℕ, ◌≤◌, Bool, true, false, List, [], ◌∷◌, length, Option, Some, None, refl, arith}
use Rattle.std.specs.Option.{option_or}
use Rattle.std.proofs.lemmas.Bool.{and_parts, eqb-true, ltb-true, leb-true}
use Rattle.record_text.specs.declared.version.Version.{Version}
use Rattle.record_text.specs.declared.version.Version.TheVariants as versions
use Rattle.script_text.specs.declared.form.Line.{Line}
use Rattle.script_text.specs.declared.form.Field.{Field}
use Rattle.script_text.specs.declared.form.Field.TheVariants as fields
use Rattle.script_text.specs.declared.form.Value.{Value}
use Rattle.script_text.specs.declared.form.Value.TheVariants as values
use Rattle.script_text.specs.declared.reading.drafts.Draft.{Draft}
use Rattle.script_text.specs.declared.refusal.Cause.{Cause}
use Rattle.script_text.specs.Forms.{Spot, Key, At, row, part}
use Rattle.script_text.specs.Scripts.{most_script_bases, most_lanes, most_timers}
use Rattle.script_text.specs.Drafts.{IsWithinLimits, IsShort, AreShort}
use Rattle.script_text.specs.Refusals.{unless, is_placed, base_named, check_count, check_number, check_values, check_kind, check_line}

pub neither : (a b : Option Cause) → option_or a b ≡ None → (a ≡ None) × (b ≡ None)
neither None b e = (refl, e)
neither (Some cause) b e = absurd cc

pub holds : (b : Bool) (cause : Cause) → unless b cause ≡ None → b ≡ true
holds true cause e = refl
holds false cause e = absurd cc

-- no cause refuses a line, part by part
pub record Accepts (d : Draft) (l : Line) : Type 0 where
  pub placed : is_placed d (part l.form) ≡ true
  pub count : check_count d (part l.form) ≡ None
  pub values : check_values d 0 (row l.form) l.values ≡ None
  pub kind : check_kind d l.form (row l.form) l.values ≡ None

pub accepts : (d : Draft) (l : Line) → check_line d l ≡ None → Accepts d l
unfolding check_line
accepts d l e =
    let placed = neither _ _ e in
    let count = neither _ _ placed.1 in
    let values = neither _ _ count.1 in
    record { placed = holds _ _ placed.0; count = count.0; values = values.0; kind = values.1 }

pub no_cause : (d : Draft) (l : Line) → Accepts d l → check_line d l ≡ None
unfolding check_line
no_cause d l a = rw (a.placed, a.count, a.values, a.kind) refl

-- ---- numbers that no cause refuses are short

few_bases : (version : Version) → most_script_bases version ≤ 4096
few_bases versions.One = omega arith
few_bases versions.Two = omega arith

few_lanes : (version : Version) → most_lanes version ≤ 4096
few_lanes versions.One = omega arith
few_lanes versions.Two = omega arith

few_timers : (version : Version) → most_timers version ≤ 4096
few_timers versions.One = omega arith
few_timers versions.Two = omega arith

module _ (d : Draft) (room : IsWithinLimits d) where
  short_number : (base : ℕ) → base ≤ 4096 → (field : Field) (n : ℕ) → check_number d base field n ≡ None → IsShort field n
  unfolding check_number
  short_number base small fields.Bases n e =
      omega (arith, leb-true n (most_script_bases d.version) (and_parts _ _ (holds _ _ e)).1, few_bases d.version)
  short_number base small fields.Lanes n e =
      omega (arith, leb-true n (most_lanes d.version) (and_parts _ _ (holds _ _ e)).1, few_lanes d.version)
  short_number base small fields.Lane n e = omega (arith, ltb-true n d.lanes (holds _ _ e), room.lanes, few_lanes d.version)
  short_number base small fields.FirstLane n e = omega (arith, eqb-true n 0 (holds _ _ e))
  short_number base small fields.Timer n e = omega (arith, ltb-true n (length d.timers) (holds _ _ e), room.timers, few_timers d.version)
  short_number base small fields.Base n e = omega (arith, ltb-true n d.bases (holds _ _ e), room.bases, few_bases d.version)
  short_number base small fields.Heir n e = omega (arith, ltb-true n base (holds _ _ e), small)
  short_number base small _ n e = tt

  -- the base that a line has named is one of few
  few_named : (base : ℕ) → base ≤ 4096 → (field : Field) (n : ℕ) → check_number d base field n ≡ None
      → base_named base (values.Number n) field ≤ 4096
  unfolding check_number
  few_named base small fields.Base n e = omega (arith, ltb-true n d.bases (holds _ _ e), room.bases, few_bases d.version)
  few_named base small _ n e = small

  short_behind : (base : ℕ) → base ≤ 4096 → (spots : List Spot) (vs : List Value) → check_values d base spots vs ≡ None → AreShort spots vs
  unfolding check_values
  short_behind base small [] vs e = tt
  short_behind base small (Key word ∷ spots) vs e = short_behind base small spots vs e
  short_behind base small (At field ∷ spots) [] e = tt
  short_behind base small (At field ∷ spots) (values.Number n ∷ vs) e =
      let both = neither _ _ e in
      (short_number base small field n both.0, short_behind _ (few_named base small field n both.0) spots vs both.1)
  short_behind base small (At field ∷ spots) (values.Clock c ∷ vs) e = short_behind base small spots vs e
  short_behind base small (At field ∷ spots) (values.Mode m ∷ vs) e = short_behind base small spots vs e

  pub short_numbers : (spots : List Spot) (vs : List Value) → check_values d 0 spots vs ≡ None → AreShort spots vs
  short_numbers spots vs e = short_behind 0 (omega arith) spots vs e
