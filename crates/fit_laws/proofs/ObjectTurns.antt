-- Each turn of an object that began before a moment at which the object had so many entries has ended before it.
use Rattle.std.proofs.Common.{◌≡◌, ◌<◌, ◌≤◌, ℕ, ◌+◌, zero, suc, true, false, List, [], ◌∷◌, Some, length, map, take, arith, refl, sym, ap, ◌∙◌}
use Rattle.std.specs.List.{slice_get}
use Rattle.std.proofs.Math.Logic.{⊎_elim}
use Rattle.std.proofs.lemmas.Bool.{cases_lt}
use Rattle.std.proofs.lemmas.Option.{same_Some}
use Rattle.record_text.specs.declared.record.Label.{Label}
use Rattle.run_history.specs.Actions.{also}
use Rattle.run_history.specs.Fits.{FitsIn}
use Rattle.run_history.specs.Objects.{lines_of_object}
use Rattle.run_history.specs.Truths.{HadEntries}
use Rattle.run_history.specs.Witnesses.{CountersList, Move, Owner, ShownLine, Witness, is_owner, line_of_object, moves_from, moves_on, owner_of, twice}
use Rattle.fit_laws.specs.ObjectTurns.{TurnBeginsAt, TurnEndsAt}
use Rattle.fit_laws.proofs.Moments.{rises_counted}
use Rattle.fit_laws.proofs.ObjectOrder.{own_lines}
use Rattle.fit_laws.proofs.OwnPoints.{before_there}
use Rattle.fit_laws.proofs.OwnParts.{before_at, on_here, on_place, on_rises}

-- a move of a list stands in the order, behind so many of the list
pub record StandsOn (o : Owner) (k : ℕ) (m : Move) (ms : List Move) : Type 0 where
  pub place : ℕ
  pub there : slice_get ms place ≡ Some m
  pub count : length (moves_on o (take place ms)) ≡ k

pub on_found : (o : Owner) (k : ℕ) (m : Move) (ms : List Move) → slice_get (moves_on o ms) k ≡ Some m → StandsOn o k m ms
on_found o k m [] at = absurd (cc)
on_found o k m (x ∷ ms) at =
    elim (is_owner (owner_of x.shown) o) as (λ b. is_owner (owner_of x.shown) o ≡ b → slice_get (also b x (moves_on o ms)) k ≡ Some m
    → StandsOn o k m (x ∷ ms)) [
      | true ↦ λ is at. here k at is (λ k at. on_found o k m ms at)
      | false ↦ λ is at. let s = on_found o k m ms at in
          later s (ap (λ b. length (also b x (moves_on o (take s.place ms)))) is ∙ s.count)
    ] refl at
  where
    later : {j k : ℕ} (s : StandsOn o j m ms) → length (moves_on o (take (suc s.place) (x ∷ ms))) ≡ k → StandsOn o k m (x ∷ ms)
    later s count = record { place = suc s.place; there = s.there; count = count }

    here : (k : ℕ) → slice_get (x ∷ moves_on o ms) k ≡ Some m → is_owner (owner_of x.shown) o ≡ true
        → ((k : ℕ) → slice_get (moves_on o ms) k ≡ Some m → StandsOn o k m ms) → StandsOn o k m (x ∷ ms)
    here zero at is further = record { place = 0; there = at; count = refl }
    here (suc k) at is further =
        let s = further k at in later s (ap (λ b. length (also b x (moves_on o (take s.place ms)))) is ∙ ap suc s.count)

-- of the two moves of a line the second follows the first
second_of : (b k p : ℕ) (lines : List ShownLine) (m : Move) → p ≡ k + k → slice_get (moves_from b (twice lines)) p ≡ Some m
    → (n : Move) × (slice_get (moves_from b (twice lines)) (suc p) ≡ Some n) × (n.label ≡ m.label) × (n.shown ≡ m.shown)
second_of b k p [] m even at = absurd (cc)
second_of b k zero (l ∷ lines) m even at = (
  record { before = b + 1; label = l.label; shown = l.shown },
  refl,
  ap (λ (x : Move). x.label) (same_Some (record { before = b; label = l.label; shown = l.shown }) m at),
  ap (λ (x : Move). x.shown) (same_Some (record { before = b; label = l.label; shown = l.shown }) m at),
)
second_of b k (suc zero) (l ∷ lines) m even at = absurd (omega (arith, even))
second_of b zero (suc (suc p)) (l ∷ lines) m even at = absurd (omega (arith, even))
second_of b (suc k) (suc (suc p)) (l ∷ lines) m even at = second_of (b + 1 + 1) k p lines m (omega (arith, even)) at

-- law: a turn that began before such a moment has ended before it
pub turn_ended : (w : Witness) → FitsIn w → (i entries n : ℕ) → i < length w.script.timers → HadEntries w i entries n → (c : Label) (stamp begun : ℕ)
    → TurnBeginsAt w i c stamp begun → begun < n → (ended : ℕ) × (begun < ended) × (ended < n) × TurnEndsAt w i c stamp ended
turn_ended w f i entries n its had c stamp begun turn less =
    let o = CountersList (suc i) in
    let lines = map (line_of_object i) (lines_of_object w.run i) in
    let before : ℕ → ℕ = λ p. length (moves_on o (take p w.moves)) in
    let all = f.history.all o ∙ ap (moves_from 0) (own_lines w f i its) in
    let at : slice_get (moves_from 0 (twice lines)) (before begun) ≡ Some turn.move =
    ap (λ ms. slice_get ms (before begun)) (sym all) ∙ on_place o begun w.moves turn.move turn.there (ap owner_of turn.is) in
    let even : before begun ≡ stamp + stamp = sym (before_there w f.history begun turn.move o turn.there (ap owner_of turn.is)) ∙ turn.count in
    let next = second_of 0 stamp (before begun) lines turn.move even at in
    let s = on_found o (suc (before begun)) next.0 w.moves (ap (λ ms. slice_get ms (suc (before begun))) all ∙ next.1) in
    let one = on_here o begun w.moves turn.move turn.there (ap owner_of turn.is) in
    let rise = on_rises o w.moves (suc begun) n (omega (arith, less)) in (
      s.place,
      ⊎_elim (λ (behind : begun < s.place). behind)
          (λ (early : s.place ≤ begun). absurd (omega (arith, s.count, on_rises o w.moves s.place begun early)))
          (cases_lt begun s.place),
      ⊎_elim (λ (inside : s.place < n). inside)
          (λ (late : n ≤ s.place). absurd (omega (arith, had, rises_counted w (suc i) n, even, one, rise, s.count, on_rises o w.moves n s.place late)))
          (cases_lt s.place n),
      record {
        move = next.0;
        there = s.there;
        label = next.2 ∙ turn.label;
        is = next.3 ∙ turn.is;
        count = sym (none (suc (before begun)) ∙ before_at 0 (suc (before begun)) (twice lines) next.0 next.1) ∙ add_one (before begun) even;
      },
    )
  where
    none : (n : ℕ) → n ≡ 0 + n
    none n = omega arith

    add_one : (k : ℕ) {n : ℕ} → k ≡ n → suc k ≡ n + 1
    add_one k is = omega (arith, is)
