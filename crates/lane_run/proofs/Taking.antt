-- Lanes that are taken in one after another, the last one first; and rounds in turn.
use Rattle.std.proofs.Common.{length, length-append, get_or, ℕ, ◌≡◌, ◌<◌, ◌+◌, Bool, false, List, [], ◌∷◌, ◌++◌, refl, sym, ap, ◌∙◌, subst, arith}
use Rattle.std.specs.Prelude.{All, Some}
use Rattle.std.proofs.lemmas.List.Elements.{All-cons, All-pop}
use Rattle.lane_run.proofs.Mains.{main_takes}
use mathlib.Core.Logic.{dite}
use native.Mathlib.Decide.{ℕ_discrete}
use Rattle.std.proofs.Math.ListN.{get_or-append}
use Rattle.std.proofs.Math.Seq.{get_or-append_seam}
use Rattle.std.proofs.lemmas.List.{append-nil, append_assoc, get_or_default}
use Rattle.script_text.specs.declared.script.Round.{Round}
use Rattle.lane_notes.specs.declared.lane.Lane.{Lane}
use Rattle.lane_notes.specs.declared.lane.WorldPass.{WorldPass}
use Rattle.lane_notes.specs.Rounds.{IsLaneOf, IsMain, LeftOf, MakesRound, MakesRounds, TakesInLanes, TakesInPass, with_lane}
use Rattle.lane_notes.specs.Worlds.{ArePassesOf, WorldOf}

-- of all lanes these are left, and the others were taken in; none of them wants memory
pub record TakesRest (p : WorldPass) (left : LeftOf) (all lanes : List Lane) (q : WorldPass) (now : LeftOf) : Type 0 where
  pub rest : List Lane
  pub parts : all ≡ lanes ++ rest
  pub quiet : All (λ (l : Lane). l.wants_memory ≡ false) rest
  pub taken : TakesInLanes p left rest q now

pub takes_none : {p : WorldPass} {left : LeftOf} (all : List Lane) → TakesRest p left all all p left
takes_none all = record { rest = []; parts = sym (append-nil all); quiet = λ k d h. absurd (omega (arith, h)); taken = (refl, refl) }

-- lanes are taken in, so far these; whether one of them wanted memory
pub record TakesSoFar (x : WorldOf) (p : WorldPass) (left : LeftOf) (all these : List Lane) (q : WorldPass) (now : LeftOf) (wants : Bool) : Type 0 where
  pub main : IsMain x q these
  pub lanes : All (λ (l : Lane). IsLaneOf x l) these
  pub names : All (λ (l : Lane). l.label.lane < length now.answers) these
  pub count : length now.answers ≡ length left.answers
  pub taken : wants ≡ false → TakesRest p left all these q now

-- what holds of each of these holds of all but the last one, and of that one
pub last_of : (P : Lane → Type 0) {before : List Lane} (lanes : List Lane) (lane : Lane) → before ≡ lanes ++ lane ∷ [] → All P before → All P lanes × P lane
last_of P {before} lanes lane pop all = All-pop P before lanes (Some lane) pop all

-- one more, the last one
pub takes_one : {x : WorldOf} {p : WorldPass} {left : LeftOf} {all before lanes : List Lane} {m q : WorldPass} {n now : LeftOf} {was wants : Bool}
    (lane : Lane) → TakesSoFar x p left all before m n was → before ≡ lanes ++ lane ∷ [] → ArePassesOf x q → TakesInPass m lane.pass q
    → length now.answers ≡ length n.answers → (wants ≡ false → (was ≡ false) × (lane.wants_memory ≡ false) × (now ≡ with_lane n lane))
    → TakesSoFar x p left all lanes q now wants
takes_one {x} {lanes = lanes} {m = m} {n = n} lane so_far pop pass takes count quiet =
    let of = last_of (λ (l : Lane). IsLaneOf x l) lanes lane pop so_far.lanes in
    let names = last_of (λ (l : Lane). l.label.lane < length n.answers) lanes lane pop so_far.names in record {
      main = main_takes lanes (subst (IsMain x m) pop so_far.main) of.1 pass takes;
      lanes = of.0;
      names = λ k d h. subst (λ i. (get_or lanes k d).label.lane < i) (sym count) (names.0 k d h);
      count = count ∙ so_far.count;
      taken = λ none. let rest = so_far.taken (quiet none).0 in record {
        rest = lane ∷ rest.rest;
        parts = rest.parts ∙ ap (λ ls. ls ++ rest.rest) pop ∙ append_assoc lanes (lane ∷ []) rest.rest;
        quiet = All-cons (λ (l : Lane). l.wants_memory ≡ false) lane rest.rest (quiet none).1 rest.quiet;
        taken = (m, n, rest.taken, takes, (quiet none).2);
      };
    }

-- ---- lists whose elements go with those of another list

module _ {A B : Type 0} (R : A → B → Type 0) where
  -- what holds of each element and that of the same number in the other list holds of the last ones, and of those before
  pub beside_pop : (xs : List A) (ys : List B) (x : A) (y : B) {old : List A} {new : List B} → old ≡ xs ++ x ∷ [] → new ≡ ys ++ y ∷ [] → length new ≡ length old
      → ((k : ℕ) (d : A) (e : B) → k < length old → R (get_or old k d) (get_or new k e))
      → R x y × (length ys ≡ length xs) × ((k : ℕ) (d : A) (e : B) → k < length xs → R (get_or xs k d) (get_or ys k e))
  beside_pop xs ys x y {old} {new} was is many each =
      let before : length old ≡ length xs + 1 = ap length was ∙ length-append xs (x ∷ []) in
      let after : length new ≡ length ys + 1 = ap length is ∙ length-append ys (y ∷ []) in
      let same : length ys ≡ length xs = omega (arith, before, after, many) in
      let one : get_or old (length xs) x ≡ x = ap (λ zs. get_or zs (length xs) x) was ∙ get_or-append_seam xs x [] x in
      let two : get_or new (length xs) y ≡ y = ap (λ zs. get_or zs (length xs) y) is ∙ ap (λ n. get_or (ys ++ y ∷ []) n y) (sym same) ∙ get_or-append_seam ys y [] y in (
        subst (R x) two (subst (λ z. R z (get_or new (length xs) y)) one (each (length xs) x y (omega (arith, before)))),
        same,
        λ k d e h. subst (R (get_or xs k d)) (ap (λ zs. get_or zs k e) is ∙ get_or-append ys (y ∷ []) e k (omega (arith, h, same)))
            (subst (λ z. R z (get_or new k e)) (ap (λ zs. get_or zs k d) was ∙ get_or-append xs (x ∷ []) d k h) (each k d e (omega (arith, h, before)))),
      )

  -- and the other way round
  pub beside_push : (xs : List A) (ys : List B) (x : A) (y : B) {old : List A} {new : List B} → old ≡ xs ++ x ∷ [] → new ≡ ys ++ y ∷ [] → length ys ≡ length xs
      → ((k : ℕ) (d : A) (e : B) → k < length xs → R (get_or xs k d) (get_or ys k e)) → R x y
      → (length new ≡ length old) × ((k : ℕ) (d : A) (e : B) → k < length old → R (get_or old k d) (get_or new k e))
  beside_push xs ys x y {old} {new} was is same each last =
      let before : length old ≡ length xs + 1 = ap length was ∙ length-append xs (x ∷ []) in
      let after : length new ≡ length ys + 1 = ap length is ∙ length-append ys (y ∷ []) in (
        omega (arith, before, after, same),
        λ k d e h. dite (ℕ_discrete k (length xs))
            (λ at. subst (λ n. R (get_or old n d) (get_or new n e)) (sym at)
            (subst (λ z. R z (get_or new (length xs) e)) (sym (ap (λ zs. get_or zs (length xs) d) was ∙ get_or-append_seam xs x [] d))
            (subst (R x) (sym (ap (λ zs. get_or zs (length xs) e) is ∙ ap (λ n. get_or (ys ++ y ∷ []) n e) (sym same) ∙ get_or-append_seam ys y [] e)) last)))
            (λ off. let within : k < length xs = omega (arith, h, before, off) in
            subst (λ z. R z (get_or new k e)) (sym (ap (λ zs. get_or zs k d) was ∙ get_or-append xs (x ∷ []) d k within))
            (subst (R (get_or xs k d)) (sym (ap (λ zs. get_or zs k e) is ∙ get_or-append ys (y ∷ []) e k (omega (arith, within, same)))) (each k d e within))),
      )

-- ---- lanes beside others

-- law: what holds of each lane of two lists holds of their last ones, and of those before
pub ran_apart : (R : Lane → Lane → Type 0) (xs ys : List Lane) (x y : Lane) {old new : List Lane} → old ≡ xs ++ x ∷ [] → new ≡ ys ++ y ∷ []
    → length new ≡ length old → ((k : ℕ) (d : Lane) → k < length old → R (get_or old k d) (get_or new k d))
    → R x y × (length ys ≡ length xs) × ((k : ℕ) (d : Lane) → k < length xs → R (get_or xs k d) (get_or ys k d))
ran_apart R xs ys x y {old} {new} was is many ran =
    let apart = beside_pop R xs ys x y was is many
    (λ k d e h. subst (R (get_or old k d)) (get_or_default new k d e (omega (arith, h, many))) (ran k d h)) in
    (apart.0, apart.1, λ k d h. apart.2 k d d h)

-- law: and the other way round
pub ran_beside : (R : Lane → Lane → Type 0) (xs ys : List Lane) (x y : Lane) {old new : List Lane} → old ≡ xs ++ x ∷ [] → new ≡ ys ++ y ∷ []
    → length ys ≡ length xs → ((k : ℕ) (d : Lane) → k < length xs → R (get_or xs k d) (get_or ys k d)) → R x y
    → (length new ≡ length old) × ((k : ℕ) (d : Lane) → k < length old → R (get_or old k d) (get_or new k d))
ran_beside R xs ys x y was is same each last =
    let beside = beside_push R xs ys x y was is same
    (λ k d e h. subst (R (get_or xs k d)) (get_or_default ys k d e (omega (arith, h, same))) (each k d h)) last in
    (beside.0, λ k d h. beside.1 k d d h)

-- ---- rounds

pub rounds_push : {x : WorldOf} (rs : List Round) {r : Round} (p : WorldPass) {m q : WorldPass} (left : LeftOf) {mid now : LeftOf}
    → MakesRounds x rs p left m mid → MakesRound x r m mid q now → MakesRounds x (rs ++ r ∷ []) p left q now
rounds_push {x} [] {r} p {m} {q} left {mid} {now} so_far next =
    (q, now, subst (λ z. MakesRound x r z left q now) so_far.0 (subst (λ z. MakesRound x r m z q now) so_far.1 next), (refl, refl))
rounds_push (y ∷ rs) p left so_far next = (so_far.0, so_far.1, so_far.2, rounds_push rs so_far.0 so_far.1 so_far.3 next)
