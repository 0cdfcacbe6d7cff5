-- A base that stays on line, as a function runs there: a timer is moved off it before the function began, and none while it runs.
use Rattle.std.proofs.Common.{◌≡◌, ◌≤◌, ℕ, zero, suc, false, None, Option, Some, List, [], ◌∷◌, flat_map, length, arith, refl, sym, ap, ◌∙◌, inl, inr}
use Rattle.std.specs.List.{AllByRecursion}
use Rattle.std.proofs.lemmas.Bool.{false≢true}
use Rattle.ktime.specs.declared.clock_id.ClockId.TheVariants as clocks
use Rattle.ktime.specs.declared.mode.Mode.TheVariants as modes
use Rattle.seq_timer.specs.declared.context.Context.TheVariants as contexts
use Rattle.seq_timer.specs.Halves.{running_on}
use Rattle.seq_timer.specs.Systems.{after_entry, changed}
use Rattle.seq_timer.specs.Tables.{runs_on}
use Rattle.run_history.specs.Actions.{Entered}
use Rattle.run_history.specs.Deeds.{evacuates}
use Rattle.run_history.specs.Truths.{RanNone, LeftInTurn}
use Rattle.run_history.specs.Fits.{Fits}
use Rattle.run_history.specs.Histories.{timer_after}
use Rattle.run_history.specs.Witnesses.{Evacuation, TimersList, Trace, Witness, witness_with}
use Rattle.fit_laws.proofs.OwnPoints.{same_then, seen, seen_rises, stamp_then}
use Rattle.run_cases.specs.Fitting.{busy_record, busy_script}
use Rattle.run_cases.specs.Lines.{at, case_start_entry, out_entry}
use Rattle.run_cases.specs.Wrong.{running_moved_record}
use Rattle.run_cases.proofs.Calls.{right, right_moving}
use Rattle.run_cases.proofs.Small.{fits_by}
use Rattle.run_cases.proofs.Tests.{le, lt}
use Rattle.run_cases.proofs.Witnesses.{on_line, armed_as, did, done_by, fired, none_along, none_then, ran, step, two, witness_along}

-- ---- the timer is moved before the function began

-- the timer's move
abbrev busy_move : Evacuation
busy_move = record {
  timer = 1;
  before = 2;
  ns = 50;
  slack = 0;
  placement = record { base = 0; clock = clocks.Monotonic; soft = 50; expires = 50 };
}

-- what the call did that would take the base off line
abbrev busy_trace : Trace
busy_trace =
    record { at = 0; fired = []; moved = busy_move ∷ []; actions = flat_map (evacuates 0 0) (busy_move ∷ []); first = 4; last = 7 }

-- its witness
abbrev busy_witness : Witness
busy_witness = witness_along busy_script busy_record
    (TimersList 0 ∷ TimersList 0 ∷ TimersList 1 ∷ TimersList 1 ∷ TimersList 1 ∷ TimersList 1 ∷ TimersList 0 ∷ TimersList 0 ∷ [])
    ((did 0 (Entered 0 1 (out_entry 1 false) ∷ Entered 0 2 (case_start_entry modes.Abs 0 0 1 1 0 false) ∷ []) 0 2
    ∷ did 0 (Entered 1 1 (out_entry 1 false) ∷ Entered 1 2 (case_start_entry modes.Abs 50 0 1 1 50 false) ∷ []) 2 4
    ∷ did 0 [] 4 4 ∷ busy_trace ∷ []) ∷ (ran 1 0 (fired 3 2 [] 4 false ∷ []) 6 8 ∷ []) ∷ [])

-- law: it fits
pub busy_fits : Fits busy_script busy_record
unfolding after_entry changed
busy_fits = fits_by busy_witness (record {
  version = refl;
  passed = refl;
  writes = tt;
  all = (refl, (refl, tt));
  bases = (refl, (refl, tt));
  clock = refl;
  objects = (refl, (refl, tt));
  history = two (step refl (refl, (λ e. omega (arith, e)), refl) refl (lt refl)) (two (step refl (inr refl, inl (lt refl)) refl tt)
      (two (step refl (refl, (λ e. omega (arith, e)), refl) refl (lt refl)) (two (step refl (inr refl, inl (lt refl)) refl tt)
      (two (step refl (refl, (λ e. omega (arith, e)), refl) refl (lt refl)) (two (step refl (inr refl, inl (lt refl)) refl tt)
      (two (step refl (refl, refl, refl, refl, le refl) refl (refl, refl)) (two (step refl refl refl tt) tt)))))));
  object_histories = (refl, (refl, tt));
  placed = (refl, (refl, tt));
  calls = two (
      two (right refl refl refl (refl, (refl, tt)) (refl, (refl, tt)) (refl, (refl, tt)) (
        record (armed_as 2 1 0 0) { outs = record { base = 1; number = 1; was_armed = false } ∷ [] },
        refl,
        refl,
        refl,
        refl,
        record { below = le refl; next = (refl, tt); way = (on_line refl refl refl refl, refl, tt) },
      ) (refl, tt) tt)
      (two (right refl refl refl (refl, (refl, tt)) (refl, (refl, tt)) (refl, (refl, tt)) (
        record (armed_as 2 1 50 50) { outs = record { base = 1; number = 1; was_armed = false } ∷ [] },
        refl,
        refl,
        refl,
        refl,
        record { below = le refl; next = (refl, tt); way = (on_line refl refl refl refl, refl, tt) },
      ) (refl, tt) tt)
      (two (right refl refl refl (refl, (refl, tt)) (refl, (refl, tt)) (refl, (refl, tt)) refl (refl, tt) (record { stamp = refl; holds = refl }))
      (two (right_moving refl refl refl (refl, (refl, tt)) (refl, (refl, tt)) (refl, (refl, tt)) (record { counted = refl; done = refl }, le refl) (
        (record { armed = refl; soft = refl; slack = refl }, tt),
        (
          record {
            at = 4;
            from = le refl;
            to = le refl;
            stamp = refl;
            next = refl;
            idle = none_along busy_witness 4 (runs_on 1) refl refl (refl, (refl, tt));
            front = (50, refl);
          },
          tt,
        ),
      )
      (refl, tt) (
        record { online = refl; heir_online = refl; room = lt refl },
        (refl, inr (none_then busy_witness contexts.Hard 7 (runs_on 1) refl refl (refl, (refl, tt)))),
      )) tt)))
      ) (two (
      two (right refl refl refl (refl, (refl, tt)) (refl, (refl, tt)) (refl, (refl, tt))
      (record { one_reading = refl; claimed = refl; done = refl; contexts = (refl, tt); bodies = ((refl, refl), tt) }, lt refl)
      (refl, tt) (done_by busy_witness contexts.Soft 0 1 8 refl refl (refl, (refl, tt)) (λ clock. (refl, (refl, tt))))) tt
      ) tt);
})

-- ---- it is moved while the function runs

-- a call that moved one timer off a base did so at a moment at which no function ran there
one_moved : (w : Witness) (first last base : ℕ) (moved : List Evacuation) → 1 ≡ length moved → AllByRecursion (LeftInTurn w first last base) moved
    → (n : ℕ) × (first ≤ n) × (n ≤ last) × RanNone w base n
one_moved w first last base [] one turns = absurd (cc)
one_moved w first last base (e ∷ moved) one turns = (turns.0.at, turns.0.from, turns.0.to, turns.0.idle)

-- where the first timer's function runs on the base it isn't finished
not_finished : (k : ℕ) → running_on 1 (timer_after busy_script running_moved_record 0 k) ≡ Some 2 → k ≤ 3
not_finished zero runs = le refl
not_finished (suc zero) runs = le refl
not_finished (suc (suc zero)) runs = le refl
not_finished (suc (suc (suc zero))) runs = le refl
not_finished (suc (suc (suc (suc zero)))) runs = absurd (none_some runs)
  where
    none_some : ◌≡◌ {A = Option ℕ} None (Some 2) → ⊥
    none_some is = cc
not_finished (suc (suc (suc (suc (suc k))))) runs = absurd (none_some runs)
  where
    none_some : ◌≡◌ {A = Option ℕ} None (Some 2) → ⊥
    none_some is = cc

-- law: it does not fit
pub running_moved_doesnt_fit : Fits busy_script running_moved_record → ⊥
running_moved_doesnt_fit o =
    let w = witness_with busy_script running_moved_record o.0 o.1 o.2 in
    let f = o.3 in
    let peek = (f.calls 0).2.2.1.0 in
    let call = (f.calls 0).2.2.2.1.0 in
    let t = o.2 (at 0 3) in
    let moved = one_moved w t.first t.last 1 t.moved call.does.0.counted call.turns in
    let n = moved.0 in
    -- between the look and the call's last moment the timer has three entries, so its function runs where the other timer is moved
    let low = seen_rises w f.history f.timers (o.2 (at 0 2)).last n 0 (omega (arith, peek.move_steps.1, call.move_steps.0, moved.1)) in
    let high = seen_rises w f.history f.timers n t.last 0 moved.2 in
    let last = not_finished (seen w t.last 0) (sym (same_then w f.history f.timers (running_on 1) refl t.last 0) ∙ call.holds.1.0) in
    let three : seen w n 0 ≡ 3 = omega (arith, low, high, last, peek.holds.stamp, stamp_then w f.history f.timers (o.2 (at 0 2)).last 0) in
    false≢true (sym (moved.3 0) ∙ same_then w f.history f.timers (runs_on 1) refl n 0
    ∙ ap (λ k. runs_on 1 (timer_after busy_script running_moved_record 0 k)) three)
