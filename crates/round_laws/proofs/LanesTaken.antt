-- What lanes leave of a round is added to what all have left so far, one lane after another.
use Rattle.std.proofs.Common.{◌≡◌, ◌≤◌, ◌<◌, ◌+◌, ◌⊎◌, ℕ, true, false, nat_eq, cond, get_or, set, List, [], ◌∷◌, ◌++◌, length, length-set, arith, refl, sym, ap, ◌∙◌, subst, ⊎_elim, inl, inr, Some, zero, suc}
use Rattle.std.proofs.lemmas.Bool.{cases_lt, eqb-false, eqb-true}
use Rattle.std.proofs.lemmas.List.{get_or-set_other, get_or-set_same}
use Rattle.record_text.specs.declared.record.Label.{Label}
use Rattle.run_history.specs.Fits.{Seen}
use Rattle.run_history.specs.Runs.{CallLog}
use Rattle.run_history.specs.Order.{CallInRound}
use Rattle.script_text.specs.declared.script.Script.{Script}
use Rattle.lane_notes.specs.Notes.{NotesOf, both_noted, no_notes}
use Rattle.lane_notes.proofs.Kept.{seen_by, Tallies}
use Rattle.lane_notes.proofs.SeenMore.{SeesMore, more_heard, more_same, more_taken, no_less, stands_on}
use Rattle.lane_notes.specs.Rounds.{LeftOf, TakesInPass, with_lane}
use Rattle.lane_notes.specs.declared.lane.Lane.{Lane}
use Rattle.lane_notes.specs.declared.lane.WorldPass.{WorldPass}
use Rattle.round_laws.proofs.Chains.{AreUpTo, up_to_later}
use Rattle.round_laws.proofs.LaneRound.{IsFrom, IsKeptOf, kept_later, LaneSoFar, IsAt, answers_in, MakesInRound, turns_done}
use Rattle.round_laws.proofs.NotesJoined.{are_later, AreOf, joined}
use Rattle.round_laws.proofs.Tallies.{adds_taken, mine_both, sum_at, tallies_more}
use Rattle.pass_names.specs.Counts.{count}
use Rattle.pass_names.specs.Passes.{is_place}
use Rattle.lane_notes.proofs.Left.{sum_below}
use Rattle.lane_notes.specs.Worlds.{WorldOf}
use Rattle.lane_notes.specs.Called.{lane_of}
use Rattle.std.specs.List.{slice_get}
use Rattle.std.proofs.lemmas.Option.{slice_get_within}
use Rattle.pass_names.specs.Passes.{Begins}
use Rattle.record_text.specs.declared.record.Answer.{Answer}

-- ---- a thing for each lane

-- with another one for this lane
abbrev pub put : {X : Type 0} → (ℕ → X) → ℕ → X → ℕ → X
put of lane x j = cond (nat_eq j lane) x (of j)

-- law: what holds of the new one, and of the others
pub put_at : {X : Type 0} (P : X → Type 0) (of : ℕ → X) (lane : ℕ) (x : X) (j : ℕ) → (j ≡ lane → P x) → ((j ≡ lane → ⊥) → P (of j))
    → P (put of lane x j)
put_at P of lane x j here other = elim (nat_eq j lane) as (λ b. nat_eq j lane ≡ b → P (cond b x (of j))) [
  | true ↦ λ is. here (eqb-true j lane is)
  | false ↦ λ not. other (eqb-false j lane not)
] refl

-- ---- all lanes so far

-- an item that stands in a list's front
at_front : {X : Type 0} (xs ys : List X) (j : ℕ) {y : X} → j < length xs → slice_get (xs ++ ys) j ≡ Some y → slice_get xs j ≡ Some y
at_front [] ys j less at = absurd (omega (arith, less))
at_front (x ∷ xs) ys zero less at = at
at_front (x ∷ xs) ys (suc j) less at = at_front xs ys j (omega (arith, less)) at

-- what all lanes have left so far is what was kept of each
pub record AreLeftSoFar (s : Script) (past : List Seen) (p : WorldPass) (left : LeftOf) (of : ℕ → LaneSoFar) : Type 0 where
  pub lanes : length left.answers ≡ s.lanes
  pub given : (j : ℕ) → get_or left.answers j [] ≡ answers_in (of j).done
  pub kept : (j : ℕ) → IsKeptOf s past p j (of j)
  pub are : AreOf p left.notes (λ c. IsAt (of c.lane).done c)
  pub tallies : Tallies (length s.timers) p left.notes
  pub turned : (k : ℕ) → count (is_place 0 k) p.signals.knows.pass.mine ≡ sum_below s.lanes (λ j. turns_done k (of j).done)
  pub rise : AreUpTo past (seen_by p)

-- ---- one lane

module _ (of : ℕ → LaneSoFar) (name : ℕ) (end : LaneSoFar) (begins : Begins (of name).done end.done) where
  -- the lane's own calls of the round, those of all lanes before it, and with it
  abbrev own : Label → CallLog → Type 0
  own = IsFrom name (length (of name).done) end.done

  abbrev old : Label → CallLog → Type 0
  old c = IsAt (of c.lane).done c

  abbrev all : Label → CallLog → Type 0
  all c = IsAt (put of name end c.lane).done c

  at_first : (c : Label) (g : CallLog) → c.lane ≡ name → old c g → IsAt (of name).done c g
  at_first c g here at = subst (λ j. IsAt (of j).done c g) here at

  apart : (c : Label) (g h : CallLog) → old c g → own c h → ⊥
  apart c g h at is =
      let first = at_first c g is.0 at in
      absurd (omega (arith, is.1, slice_get_within (of name).done c.call first.0 first.1))

  still : (c : Label) (g : CallLog) → old c g → all c g
  still c g at = put_at (λ (e : LaneSoFar). IsAt e.done c g) of name end c.lane
      (λ here. let first = at_first c g here at in (first.0, stands_on c.call begins first.1, first.2)) (λ other. at)

  now : (c : Label) (g : CallLog) → own c g → all c g
  now c g is = put_at (λ (e : LaneSoFar). IsAt e.done c g) of name end c.lane (λ here. is.2) (λ other. absurd (other is.0))

  either : (c : Label) (g : CallLog) → all c g → old c g ⊎ own c g
  either c g = put_at (λ (e : LaneSoFar). IsAt e.done c g → old c g ⊎ own c g) of name end c.lane
      (λ here at. ⊎_elim (λ (less : c.call < length (of name).done). inl (subst (λ j. IsAt (of j).done c g) (sym here)
      (at.0, at_front (of name).done begins.rest c.call less (ap (λ ds. slice_get ds c.call) (sym begins.whole) ∙ at.1), at.2)))
      (λ (more : length (of name).done ≤ c.call). inr (here, more, at)) (cases_lt c.call (length (of name).done))) (λ other at. inl at)

-- the answers of the lanes
given_taken : (answers : List (List Answer)) (lane : ℕ) (given : List Answer) (of : ℕ → LaneSoFar) (end : LaneSoFar) → lane < length answers
    → answers_in end.done ≡ answers_in (of lane).done ++ given → ((j : ℕ) → get_or answers j [] ≡ answers_in (of j).done) → (j : ℕ)
    → get_or (set answers lane (get_or answers lane [] ++ given)) j [] ≡ answers_in (put of lane end j).done
given_taken answers lane given of end within is same j =
    let new = get_or answers lane [] ++ given in
    put_at (λ (e : LaneSoFar). get_or (set answers lane new) j [] ≡ answers_in e.done) of lane end j
    (λ here. ap (λ i. get_or (set answers lane new) i []) here ∙ get_or-set_same answers lane new [] within ∙ ap (λ zs. zs ++ given) (same lane) ∙ sym is)
    (λ other. get_or-set_other answers lane j new [] other ∙ same j)

-- the pushes and pops of all lanes with those of this one
turned_put : (k lanes : ℕ) (of : ℕ → LaneSoFar) (name : ℕ) (end : LaneSoFar) → name < lanes
    → sum_below lanes (λ j. turns_done k (put of name end j).done) + turns_done k (of name).done
    ≡ sum_below lanes (λ j. turns_done k (of j).done) + turns_done k end.done
turned_put k lanes of name end within =
    let here : turns_done k (put of name end name).done ≡ turns_done k end.done =
    put_at (λ (e : LaneSoFar). turns_done k e.done ≡ turns_done k end.done) of name end name (λ is. refl) (λ other. absurd (other refl)) in
    sum_at lanes name (λ j. turns_done k (put of name end j).done) (λ j. turns_done k (of j).done) within
    (λ j other. put_at (λ (e : LaneSoFar). turns_done k e.done ≡ turns_done k (of j).done) of name end j (λ is. absurd (other is)) (λ o. refl))
    ∙ ap (λ n. sum_below lanes (λ j. turns_done k (of j).done) + n) here

-- law: what a lane leaves of a round is added
left_added : {s : Script} {x : WorldOf} {before : List Seen} {base p q : WorldPass} {left : LeftOf} (of : ℕ → LaneSoFar) (lane : Lane)
    {start : NotesOf} {from : List (ℕ × ℕ)} {rest : List CallInRound} {most : ℕ} → let first = (of lane.label.lane).done in
    (leaves : MakesInRound s x before base first start from lane.label.lane (lane_of lane) first rest lane.answers.items most) → lane.label.lane < s.lanes
    → SeesMore p q → SeesMore lane.pass q → Tallies (length s.timers) q (both_noted left.notes lane.notes)
    → ((k : ℕ) → count (is_place 0 k) q.signals.knows.pass.mine
    ≡ sum_below s.lanes (λ j. turns_done k (put of lane.label.lane (record { done = leaves.all; rest = rest }) j).done))
    → AreLeftSoFar s (before ++ seen_by base ∷ []) p left of
    → AreLeftSoFar s (before ++ seen_by base ∷ []) q (with_lane left lane) (put of lane.label.lane (record { done = leaves.all; rest = rest }))
left_added {s = s} {before = before} {base = base} {q = q} {left = left} of lane {rest = rest} leaves within grows heard tallies turned so_far =
    let name = lane.label.lane in
    let past = before ++ seen_by base ∷ [] in
    let end : LaneSoFar = record { done = leaves.all; rest = rest } in
    let given = lane.answers.items in
    let begins = leaves.is.begins in
    record {
      lanes = length-set left.answers name (get_or left.answers name [] ++ given) ∙ so_far.lanes;
      given = given_taken left.answers name given of end (subst (λ n. name < n) (sym so_far.lanes) within) leaves.answers so_far.given;
      kept = λ j. put_at (IsKeptOf s past q j) of name end j
          (λ here. subst (λ i. IsKeptOf s past q i end) (sym here) (kept_later heard leaves.is.kept)) (λ other. kept_later grows (so_far.kept j));
      are = joined (are_later grows so_far.are) (are_later heard leaves.is.are) (apart of name end begins) (still of name end begins) (now of name end begins)
          (either of name end begins);
      tallies = tallies;
      turned = turned;
      rise = up_to_later past (no_less grows) so_far.rise;
    }

-- law: so where its passes are taken in
pub left_taken : {s : Script} {x : WorldOf} {before : List Seen} {base p q : WorldPass} {left : LeftOf} (of : ℕ → LaneSoFar) (lane : Lane)
    {rest : List CallInRound} {most : ℕ} → let first = (of lane.label.lane).done in
    (leaves : MakesInRound s x before base first no_notes [] lane.label.lane (lane_of lane) first rest lane.answers.items most) → lane.label.lane < s.lanes
    → TakesInPass p lane.pass q → AreLeftSoFar s (before ++ seen_by base ∷ []) p left of
    → AreLeftSoFar s (before ++ seen_by base ∷ []) q (with_lane left lane) (put of lane.label.lane (record { done = leaves.all; rest = rest }))
left_taken {s = s} {p = p} {left = left} of lane {rest = rest} leaves within takes so_far =
    left_added of lane leaves within (more_taken takes) (more_heard takes)
    (tallies_more left.notes lane.notes so_far.tallies (adds_taken takes leaves.is.tallies))
    (λ k. omega (
      arith,
      leaves.is.turned k,
      so_far.turned k,
      mine_both (is_place 0 k) p.signals.knows.pass.mine lane.pass.signals.knows.pass.mine takes.signals.mine,
      turned_put k s.lanes of lane.label.lane (record { done = leaves.all; rest = rest }) within,
    )) so_far

-- law: and of the first lane, whose passes the others' are taken into
pub left_first_lane : {s : Script} {x : WorldOf} {before : List Seen} {base : WorldPass} {left : LeftOf} (of : ℕ → LaneSoFar) (lane : Lane)
    {rest : List CallInRound} {most : ℕ} → let first = (of lane.label.lane).done in
    (leaves : MakesInRound s x before base first left.notes base.signals.knows.pass.mine lane.label.lane (lane_of lane) first rest lane.answers.items most)
    → lane.label.lane < s.lanes
    → AreLeftSoFar s (before ++ seen_by base ∷ []) base left of
    → AreLeftSoFar s (before ++ seen_by base ∷ []) lane.pass (with_lane left lane) (put of lane.label.lane (record { done = leaves.all; rest = rest }))
left_first_lane {s = s} of lane {rest = rest} leaves within so_far =
    left_added of lane leaves within leaves.is.sees more_same leaves.is.tallies
    (λ k. omega (
      arith,
      leaves.is.turned k,
      so_far.turned k,
      turned_put k s.lanes of lane.label.lane (record { done = leaves.all; rest = rest }) within,
    )) so_far
