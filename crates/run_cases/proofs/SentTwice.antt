-- A timer that is on its way is sent on only by the base to which it was sent, and only to that one's heir at the very place of the entry.
use Rattle.std.proofs.Common.{◌≡◌, ◌<◌, ◌≤◌, ℕ, zero, suc, Some, [], ◌∷◌, map, take, drop, length, arith, refl, sym, ap, ◌∙◌, subst, inl, inr, false}
use Rattle.std.specs.List.{slice_get}
use Rattle.std.proofs.Math.Logic.{⊎_elim}
use Rattle.std.proofs.lemmas.Bool.{cases_lt}
use Rattle.ktime.specs.declared.mode.Mode.TheVariants as modes
use Rattle.seq_timer.proofs.Ties.{step_at}
use Rattle.seq_timer.specs.Standings.{first_standing, standing_after_all}
use Rattle.seq_timer.specs.Systems.{AreSystemSteps, MayCome, after_entry, after_shift, changed, first_system, openings, shifted}
use Rattle.seq_timer.specs.Tables.{is_armed_on, runs_on}
use Rattle.seq_timer.specs.declared.standing.BaseEvent.TheVariants as shifts
use Rattle.seq_timer.specs.declared.standing.Standing.{Standing}
use Rattle.script_text.specs.Declarations.{declareds_of, terms_of}
use Rattle.run_history.specs.Actions.{Entered, Shifted}
use Rattle.run_history.specs.Fits.{Fits}
use Rattle.run_history.specs.Histories.{timer_after}
use Rattle.run_history.specs.Witnesses.{BasesList, IsOneHistory, Move, OfTimer, TimersList, Witness, entries_in, entry_of_move, lines_at, moves_from, standing_along, system_along, witness_with}
use Rattle.run_history.proofs.Lists.{at_map}
use Rattle.fit_laws.proofs.Moments.{all_since, all_yet, ends_later}
use Rattle.fit_laws.proofs.OwnPoints.{before_there, same_then, seen, seen_rises, split_at, stamp_then}
use Rattle.run_cases.specs.Fitting.{again_record, again_script}
use Rattle.run_cases.specs.Lines.{at, case_start_entry, out_entry}
use Rattle.run_cases.specs.Wrong.{sent_again_record}
use Rattle.run_cases.proofs.Calls.{right}
use Rattle.run_cases.proofs.OffLine.{of_one}
use Rattle.run_cases.proofs.Orders.{found}
use Rattle.run_cases.proofs.Small.{fits_by}
use Rattle.run_cases.proofs.Standings.{event_in, shifted_by, standing_then}
use Rattle.run_cases.proofs.Tests.{le, lt}
use Rattle.run_cases.proofs.Witnesses.{armed_as, did, none_along, on_line, step, two, witness_along, quiet}

-- ---- it is started on the base that is on line again

-- its witness
abbrev again_witness : Witness
again_witness = witness_along again_script again_record (BasesList 1 ∷ BasesList 1 ∷ TimersList 0 ∷ TimersList 0 ∷ [])
    ((did 0 (Shifted 1 1 (shifts.Offline 0) ∷ []) 0 1 ∷ did 0 (Shifted 1 2 shifts.Online ∷ []) 1 2 ∷ did 0 [] 2 2 ∷ [])
    ∷ (did 0 (Entered 0 1 (out_entry 1 false) ∷ Entered 0 2 (case_start_entry modes.Abs 50 0 1 1 50 false) ∷ []) 2 4 ∷ []) ∷ [])

-- law: it fits
pub again_fits : Fits again_script again_record
unfolding after_entry after_shift changed shifted
again_fits = fits_by again_witness (record {
  version = refl;
  passed = refl;
  writes = tt;
  all = (refl, tt);
  bases = (refl, (refl, tt));
  clock = refl;
  objects = (refl, tt);
  history = two (record { within = lt refl; may = (refl, lt refl, lt refl); clear = refl; heir = refl; reach = of_one _ (lt refl) })
      (two (record { within = lt refl; may = refl; clear = tt; heir = tt; reach = of_one _ (lt refl) })
      (two (step refl (refl, (λ e. omega (arith, e)), refl) refl (lt refl)) (two (step refl (inr refl, inl (lt refl)) refl tt) tt)));
  object_histories = (refl, tt);
  placed = (refl, (refl, tt));
  calls = two (
      two (right refl refl refl (refl, tt) (refl, tt) (refl, tt) (record { counted = refl; done = refl }, le refl) (refl, tt) (
        record { online = refl; heir_online = refl; room = lt refl },
        record {
          unarmed = none_along again_witness 1 (is_armed_on 1) refl refl (refl, tt);
          idle = none_along again_witness 1 (runs_on 1) refl refl (refl, tt);
        },
      ))
      (two (right refl refl refl (refl, tt) (refl, tt) (refl, tt) refl (refl, tt) tt)
      (two (right refl refl refl (refl, tt) (refl, tt) (refl, tt) refl (refl, tt) (record { stamp = refl; holds = refl })) tt))
      ) (two (
      two (right refl refl refl (refl, tt) (refl, tt) (refl, tt) (
        record (armed_as 2 1 50 50) { outs = record { base = 1; number = 1; was_armed = false } ∷ [] },
        refl,
        refl,
        refl,
        refl,
        record { below = le refl; next = (refl, tt); way = (on_line refl refl refl refl, refl, tt) },
      ) (refl, tt) tt) tt
      ) tt);
})

-- ---- it is sent on to the heir that the base had before

-- law: where a move stands it may come
step_there : (w : Witness) → IsOneHistory w → (p : ℕ) (m : Move) → slice_get w.moves p ≡ Some m
    → MayCome w.script.bases (length (declareds_of w.script)) (system_along w p) (entry_of_move w.run.clock m)
step_there w one p m there =
    let entry = entry_of_move w.run.clock in
    let first = first_system (openings (declareds_of w.script) (terms_of w.script)) in
    let count = length (declareds_of w.script) in
    step_at w.script.bases count first (take p (entries_in w)) (drop (suc p) (entries_in w)) (entry m)
    (subst (AreSystemSteps w.script.bases count first) (split_at (entries_in w) p (entry m) (at_map entry w.moves p m there)) one.history)

-- a base that has made both its entries is on line
on_line_since : (k : ℕ) → 1 < k
    → (standing_after_all first_standing (map (λ m. event_in m.shown)
    (take k (moves_from 0 (lines_at (quiet sent_again_record) (BasesList 1)))))).heir ≡ Some 0 → ⊥
on_line_since zero both off = omega (arith, both)
on_line_since (suc zero) both off = omega (arith, both)
on_line_since (suc (suc zero)) both off = cc
on_line_since (suc (suc (suc k))) both off = cc

-- law: it does not fit
pub sent_again_doesnt_fit : Fits again_script sent_again_record → ⊥
sent_again_doesnt_fit fits =
    let w : Witness = witness_with again_script sent_again_record fits.0 fits.1 fits.2 in
    let f = fits.3 in
    let online = (f.calls 0).2.1.0 in
    let peek = (f.calls 0).2.2.1.0 in
    let t = fits.2 (at 0 2) in
    let again : Move = record { before = 1; label = at 1 0; shown = OfTimer 0 (out_entry 0 false) } in
    let place = found (TimersList 0) 1 w.moves again (ap (λ ms. slice_get ms 1) (f.history.all (TimersList 0))) in
    let p = place.0 in
    -- the timer has one entry there, and is on the move to the base
    let one : 1 ≡ seen w p 0 = before_there w f.history p again (TimersList 0) place.1 refl in
    let moving = same_then w f.history f.timers (λ x. x.moving) refl p 0 ∙ ap (λ k. (timer_after again_script sent_again_record 0 k).moving) (sym one) in
    let there = same_then w f.history f.timers (λ x. x.base) refl p 0 ∙ ap (λ k. (timer_after again_script sent_again_record 0 k).base) (sym one) in
    let heir : (standing_along w p 1).heir ≡ Some 0 =
    subst (λ b. (standing_along w p b).heir ≡ Some 0) there ((step_there w f.history p again place.1).base.heir moving) in
    -- the look stands before, and both entries of the base before that
    let behind : t.last ≤ p = ⊎_elim
    (λ (early : p < t.last). absurd (omega (
      arith,
      one,
      peek.holds.stamp,
      stamp_then w f.history f.timers t.last 0,
      seen_rises w f.history f.timers p t.last 0 (omega (arith, early)),
    )))
    (λ late. late) (cases_lt p t.last) in
    let all = all_since p online (omega (arith, peek.move_steps.0, ends_later w (at 0 2) t.first [] t.actions t.last peek.truth, behind)) in
    on_line_since (shifted_by w p 1) (all_yet w f.history (BasesList 1) (at 0 1) 1 p refl all)
    (ap (λ (s : Standing). s.heir) (sym (standing_then w f.history p 1)) ∙ heir)
