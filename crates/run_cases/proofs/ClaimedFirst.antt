-- A callback's start finds its bases on line behind the claim of its own run, not only within the call that runs it.
use Rattle.std.proofs.Common.{◌≡◌, ◌<◌, ◌≤◌, ℕ, zero, suc, true, None, [], ◌∷◌, map, take, arith, refl, sym, ap, ◌∙◌, inl, false, inr}
use Rattle.std.proofs.Math.Logic.{⊎_elim}
use Rattle.std.proofs.lemmas.Bool.{cases_lt}
use Rattle.ktime.specs.declared.mode.Mode.TheVariants as modes
use Rattle.seq_timer.specs.Standings.{first_standing, standing_after_all}
use Rattle.seq_timer.specs.Systems.{after_entry, after_shift, changed, shifted}
use Rattle.seq_timer.specs.Tables.{is_armed_on, runs_on}
use Rattle.seq_timer.specs.declared.standing.BaseEvent.TheVariants as shifts
use Rattle.seq_timer.specs.declared.standing.Standing.{Standing}
use Rattle.run_history.specs.Actions.{Entered, Shifted}
use Rattle.run_history.specs.Fits.{Fits}
use Rattle.run_history.specs.Starts.{from_moment}
use Rattle.run_history.specs.Truths.{sight_of}
use Rattle.run_history.specs.Witnesses.{BasesList, TimersList, Witness, lines_at, moves_from, witness_with}
use Rattle.fit_laws.proofs.Moments.{all_since, all_yet, none_yet}
use Rattle.fit_laws.proofs.OwnPoints.{entered_then, seen, seen_rises, stamp_then}
use Rattle.run_cases.specs.Fitting.{meanwhile_record, meanwhile_script}
use Rattle.run_cases.specs.Lines.{at, case_start_entry, start}
use Rattle.run_cases.specs.Wrong.{meanwhile_off_record}
use Rattle.run_cases.proofs.AskedOff.{one_fired}
use Rattle.run_cases.proofs.Calls.{right}
use Rattle.run_cases.proofs.OffLine.{of_one}
use Rattle.run_cases.proofs.SentOff.{ends_on_line}
use Rattle.run_cases.proofs.Small.{fits_by}
use Rattle.run_cases.proofs.Standings.{event_in, shifted_by, standing_then}
use Rattle.run_cases.proofs.Tests.{le, lt}
use Rattle.run_cases.proofs.Witnesses.{armed_by, did, fired, none_along, ran, stays, step, two, witness_along, quiet}

-- ---- it asks for the heir

-- its witness
abbrev meanwhile_witness : Witness
meanwhile_witness = witness_along meanwhile_script meanwhile_record (BasesList 1 ∷ TimersList 0 ∷ TimersList 0 ∷ TimersList 0 ∷ TimersList 0 ∷ [])
    ((did 0 (Shifted 1 1 (shifts.Offline 0) ∷ []) 0 1 ∷ did 0 (Entered 0 1 (start modes.Abs 0 0) ∷ []) 1 2 ∷ [])
    ∷ (ran 0 0 (fired 2 1 (Entered 0 3 (case_start_entry modes.Rel 50 0 0 0 50 false) ∷ []) 4 true ∷ []) 2 5 ∷ []) ∷ [])

-- law: it fits
pub meanwhile_fits : Fits meanwhile_script meanwhile_record
unfolding after_entry after_shift changed shifted
meanwhile_fits = fits_by meanwhile_witness (record {
  version = refl;
  passed = refl;
  writes = tt;
  all = (refl, tt);
  bases = (refl, (refl, tt));
  clock = refl;
  objects = (refl, tt);
  history = two (record { within = lt refl; may = (refl, lt refl, lt refl); clear = refl; heir = refl; reach = of_one _ (lt refl) })
      (two (step refl (inr refl, inl (lt refl)) refl tt) (two (step refl (refl, refl, refl, refl, le refl) refl (refl, refl))
      (two (step refl (inl refl, inl (lt refl)) refl tt) (two (step refl refl refl tt) tt))));
  object_histories = (refl, tt);
  placed = (refl, (refl, tt));
  calls = two (
      two (right refl refl refl (refl, tt) (refl, tt) (refl, tt) (record { counted = refl; done = refl }, le refl) (refl, tt) (
        record { online = refl; heir_online = refl; room = lt refl },
        record {
          unarmed = none_along meanwhile_witness 1 (is_armed_on 1) refl refl (refl, tt);
          idle = none_along meanwhile_witness 1 (runs_on 1) refl refl (refl, tt);
        },
      ))
      (two (right refl refl refl (refl, tt) (refl, tt) (refl, tt) (armed_by 1 0, refl, refl, refl, refl, stays refl refl refl refl refl refl) (refl, tt) tt)
      tt)
      ) (two (
      two (right refl refl refl (refl, tt) (refl, tt) (refl, tt) (
        record {
          one_reading = refl;
          claimed = refl;
          done = refl;
          contexts = (refl, tt);
          bodies = (
            (
              inl (
                armed_by 3 50,
                refl,
                record {
                  begun = 3;
                  from = le refl;
                  claimed = le refl;
                  arming = record {
                    below = le refl;
                    next = tt;
                    way = record { path = 0 ∷ []; at = 3; way = (3, le refl, refl, (refl, le refl, refl)); no_later = le refl; before = lt refl };
                  };
                },
              ),
              refl,
            ),
            tt,
          );
        },
        refl,
      )
      (refl, tt) tt) tt
      ) tt);
})

-- ---- it tells the base that is off line since before its claim

-- a base that has made its one entry is off line
pub off_line_since : (k : ℕ) → 0 < k
    → (standing_after_all first_standing (map (λ m. event_in m.shown)
    (take k (moves_from 0 (lines_at (quiet meanwhile_off_record) (BasesList 1)))))).heir ≡ None → ⊥
off_line_since zero some on = omega (arith, some)
off_line_since (suc zero) some on = cc
off_line_since (suc (suc k)) some on = cc

-- law: it does not fit
pub meanwhile_off_doesnt_fit : Fits meanwhile_script meanwhile_off_record → ⊥
meanwhile_off_doesnt_fit fits =
    let w : Witness = witness_with meanwhile_script meanwhile_off_record fits.0 fits.1 fits.2 in
    let f = fits.3 in
    let off = (f.calls 0).1.0 in
    let started = (f.calls 0).2.1.0 in
    let run = (f.calls 1).1.0 in
    let t = fits.2 (at 1 0) in
    let sight = sight_of w t.first t.last in
    let own = entered_then w f.history f.timers (at 1 0) t.actions 0 run.traced.moves in
    let found = one_fired sight meanwhile_script refl refl t.at t.fired t.actions 0 own run.does.0 in
    let way = found.3 in
    let ends = ends_on_line (from_moment sight found.0) found.0 1 way.path 1 way.at way.way in
    let first = (fits.2 (at 0 1)).first in
    -- the timer has two entries there, of which the first is the start's
    let two : 2 ≤ seen w way.at 0 = omega (arith, found.2, stamp_then w f.history f.timers found.0 0, seen_rises w f.history f.timers found.0 way.at 0 ends.0) in
    let none = none_yet w f.history (TimersList 0) (at 0 1) 0 first refl started.begins in
    let behind : first ≤ way.at = ⊎_elim
    (λ (early : way.at < first). absurd (omega (arith, two, none, seen_rises w f.history f.timers way.at first 0 (omega (arith, early)))))
    (λ late. late) (cases_lt way.at first) in
    let all = all_since way.at off (omega (arith, started.move_steps.0, behind)) in
    off_line_since (shifted_by w way.at 1) (all_yet w f.history (BasesList 1) (at 0 0) 0 way.at refl all)
    (ap (λ (s : Standing). s.heir) (sym (standing_then w f.history way.at 1)) ∙ ends.1)
