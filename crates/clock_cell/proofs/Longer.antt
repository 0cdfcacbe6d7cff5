-- The longer one of two lists that begin one list.
use Rattle.std.proofs.Common.{◌≡◌, ◌≤◌, Bool, true, false, if◌then◌else◌, List, [], ◌∷◌, ◌++◌, length, refl, ap, sym, ◌∙◌, subst, arith}
use Rattle.std.specs.Prelude.{nat_lt, All}
use Rattle.std.proofs.lemmas.Bool.Decides.{nat_tests}
use Rattle.std.proofs.lemmas.List.Elements.{All-nil, All-cons, All-head, All-tail}
use Rattle.ktime.specs.declared.write.Write.{Write}
use Rattle.pass_names.specs.Passes.{Begins, GoesOn, Looks, Retires, Meets}
use Rattle.pass_names.proofs.Passes.{begins_refl, begins_nil, begins_trans}
use Rattle.clock_cell.specs.declared.view.ClockView.{ClockView}
use Rattle.clock_cell.specs.Views.{AreOfOne, Hears, KnowsClock, longer, writes, all_heard, told_clock_view, joined_clock_view}
use Rattle.clock_cell.specs.Plays.{IsRestingView}
use Rattle.clock_cell.proofs.Frames.{goes_one}

-- what holds of both lists holds of the longer one
longer_is : (P : List Write → Type 0) (xs ys : List Write) → P xs → P ys → P (longer xs ys)
longer_is P xs ys a b = elim (nat_lt (length xs) (length ys)) as (λ t. P (if t then ys else xs)) [ true ↦ b | false ↦ a ]

pub longer_begins : (xs ys log : List Write) → Begins xs log → Begins ys log → Begins (longer xs ys) log
longer_begins xs ys log a b = longer_is (λ ws. Begins ws log) xs ys a b

-- of two lists that begin one list, the shorter begins the other
shorter : (xs ys r s : List Write) → xs ++ r ≡ ys ++ s → length xs ≤ length ys → Begins xs ys
shorter [] ys r s e h = begins_nil ys
shorter (x ∷ xs) [] r s e h = absurd (omega arith)
shorter (x ∷ xs) (y ∷ ys) r s e h =
    let head : x ≡ y = cc in
    let tail : xs ++ r ≡ ys ++ s = cc in
    let t = shorter xs ys r s tail (omega arith) in
    record { rest = t.rest; whole = (λ i. y ∷ t.whole i) ∙ (λ i. sym head i ∷ (xs ++ t.rest)) }

begins_other : {xs ys all : List Write} → Begins xs all → Begins ys all → length xs ≤ length ys → Begins xs ys
begins_other {xs} {ys} a b h = shorter xs ys a.rest b.rest (sym a.whole ∙ b.whole) h

-- the longer one goes on from both
goes_on : (xs ys all : List Write) → Begins xs all → Begins ys all → Begins xs (longer xs ys) × Begins ys (longer xs ys)
goes_on xs ys all a b = by (nat_lt (length xs) (length ys)) refl
  where
    by : (t : Bool) → nat_lt (length xs) (length ys) ≡ t → Begins xs (if t then ys else xs) × Begins ys (if t then ys else xs)
    by true e = (begins_other a b (grind (arith, nat_tests, e)), begins_refl ys)
    by false e = (begins_refl xs, begins_other b a (grind (arith, nat_tests, e)))

-- what a pass was told of another begins what it sees next, as does what it had seen itself
pub of_one : (v w old new : ClockView) → old.heard ≡ all_heard v w → Hears old new → Begins (writes v) (writes new) × Begins (writes w) (writes new)
of_one v w old new heard hears =
    let P : List Write → Type 0 = λ ws. Begins ws (writes new) in
    let all : All P (all_heard v w) = subst (All P) heard hears.begins in (
      All-head P (writes v) (writes w ∷ v.heard ++ w.heard) all,
      All-head P (writes w) (v.heard ++ w.heard) (All-tail P (writes v) (writes w ∷ v.heard ++ w.heard) all),
    )

all_front : (P : List Write → Type 0) (xs ys : List (List Write)) → All P (xs ++ ys) → All P xs
all_front P [] ys all = All-nil P
all_front P (x ∷ xs) ys all = All-cons P x xs (All-head P x (xs ++ ys) all) (all_front P xs ys (All-tail P x (xs ++ ys) all))

-- what a pass hears that was told of another goes on from all that it had been told of before
pub hears_before : (v w old new : ClockView) → old.heard ≡ all_heard v w → Hears old new → Hears v new
hears_before v w old new heard hears =
    let P : List Write → Type 0 = λ ws. Begins ws (writes new) in
    let all : All P (all_heard v w) = subst (All P) heard hears.begins in
    let both = All-tail P (writes w) (v.heard ++ w.heard) (All-tail P (writes v) (writes w ∷ v.heard ++ w.heard) all) in
    record { begins = all_front P v.heard w.heard both; none = hears.none }

-- what one pass has seen goes on in what another has, where its one list does
pub goes_between : (v new : ClockView) → v.pass.seen ≡ writes v ∷ [] → new.pass.seen ≡ writes new ∷ [] → Begins (writes v) (writes new)
    → GoesOn v.pass.seen new.pass.seen
goes_between v new one one_new b =
    subst (λ seen. GoesOn seen new.pass.seen) (sym one) (subst (λ seen. GoesOn (writes v ∷ []) seen) (sym one_new) (goes_one (writes v) (writes new) b))

module _ (v w : ClockView) (is : IsRestingView v) (is_w : IsRestingView w) (one : AreOfOne (writes v) (writes w)) where
  -- what was seen with a pass goes on where its one list does
  from : (u : ClockView) (ws : List Write) → IsRestingView u → Begins (writes u) ws → GoesOn u.pass.seen (ws ∷ [])
  from u ws rests b = subst (λ seen. GoesOn seen (ws ∷ [])) (sym rests.one) (goes_one (writes u) ws b)

  retires : Retires v.pass w.pass (joined_clock_view v w).pass
  retires =
      let t = goes_on (writes v) (writes w) one.all one.first one.second in
      record { seen = from v _ is t.0; heard = from w _ is_w t.1; mine = refl; id = refl }

  meets : Meets v.pass w.pass (told_clock_view v (told_clock_view w v)).pass (told_clock_view w v).pass
  meets =
      let heard = longer (writes w) (writes v) in
      let t = goes_on (writes w) (writes v) one.all one.second one.first in
      let u = goes_on (writes v) heard one.all one.first (longer_begins (writes w) (writes v) one.all one.second one.first) in
      record {
        first = record { seen = from v _ is u.0; mine = refl; id = refl };
        second = record { seen = from w _ is_w t.0; mine = refl; id = refl };
        first_heard = from w _ is_w (begins_trans t.0 u.1);
        second_heard = from v _ is t.1;
        one = goes_one _ _ u.1;
      }

-- the same of the views of seats: those before, inside the passes, and those after
module _ (v w before other : ClockView) (e : before ≡ v) (f : other ≡ w) (is : IsRestingView before) (is_w : IsRestingView other)
    (one : AreOfOne (writes v) (writes w)) where
  pub retires_at : (after : ClockView) → after ≡ joined_clock_view before other → Retires v.pass w.pass after.pass
  retires_at after heard =
      subst (λ u. Retires v.pass w.pass u.pass) (sym (heard ∙ (ap (λ u. joined_clock_view u other) e ∙ ap (joined_clock_view v) f)))
      (retires v w (subst IsRestingView e is) (subst IsRestingView f is_w) one)

  pub meets_at : (from to first second : ClockView) → from ≡ before → to ≡ told_clock_view other before → second ≡ to
      → first ≡ told_clock_view from to → Meets v.pass w.pass first.pass second.pass
  meets_at from to first second same heard again back =
      let heard : to ≡ told_clock_view w v = heard ∙ (ap (λ u. told_clock_view u before) f ∙ ap (told_clock_view w) e) in
      subst (λ u. Meets v.pass w.pass u.pass second.pass) (sym (back ∙ (ap (λ u. told_clock_view u to) (same ∙ e) ∙ ap (told_clock_view v) heard)))
      (subst (λ u. Meets v.pass w.pass (told_clock_view v (told_clock_view w v)).pass u.pass) (sym (again ∙ heard))
      (meets v w (subst IsRestingView e is) (subst IsRestingView f is_w) one))

-- a pass that was told of another and has looked: of the views inside the passes, and those before and after
module _ (v w before other told new : ClockView) (e : before ≡ v) (f : other ≡ w) (is : IsRestingView before) (is_w : IsRestingView other)
    (tells : told ≡ told_clock_view before other) (looks : Looks told.pass new.pass) (hears : Hears told new) (known : KnowsClock new) where
  heard_both : told.heard ≡ all_heard v w
  heard_both = ap (λ u. u.heard) tells ∙ (ap (λ u. all_heard u other) e ∙ ap (all_heard v) f)

  pub goes_on_told : GoesOn w.pass.seen new.pass.seen
  goes_on_told = goes_between w new (subst IsRestingView f is_w).one known.one (of_one v w told new heard_both hears).1

  pub hears_told : Hears v new
  hears_told = hears_before v w told new heard_both hears
