-- A call on an object finds its bases on line within its turn of the object, not only within the call.
use Rattle.std.proofs.Common.{◌≡◌, ◌<◌, ◌≤◌, ℕ, ◌+◌, zero, suc, None, Option, Some, List, [], ◌∷◌, ◌++◌, map, take, arith, refl, sym, ap, ◌∙◌, subst, inl, inr, false}
use Rattle.std.proofs.Math.Logic.{⊎_elim}
use Rattle.std.proofs.lemmas.Bool.{cases_lt}
use Rattle.ktime.specs.declared.mode.Mode.TheVariants as modes
use Rattle.seq_timer.specs.Standings.{first_standing, standing_after_all}
use Rattle.seq_timer.specs.Systems.{after_entry, after_shift, changed, shifted}
use Rattle.seq_timer.specs.Tables.{is_armed_on, runs_on}
use Rattle.seq_timer.specs.declared.event.EventBy.{EventBy}
use Rattle.seq_timer.specs.declared.event.EventBy.TheVariants as events
use Rattle.seq_timer.specs.declared.standing.BaseEvent.TheVariants as shifts
use Rattle.seq_timer.specs.declared.standing.Standing.{Standing}
use Rattle.record_text.specs.declared.record.Armed.{Armed}
use Rattle.record_text.specs.declared.record.Armed.TheVariants as armings
use Rattle.record_text.specs.declared.record.Entry.{Entry}
use Rattle.record_text.specs.declared.record.ObjectEntry.{ObjectEntry}
use Rattle.script_text.specs.Declarations.{without_slack}
use Rattle.run_history.specs.Actions.{Action, Began, Entered, Made, Shifted, entered}
use Rattle.run_history.specs.Fits.{Fits}
use Rattle.run_history.specs.ObjectCalls.{Arms, cancels}
use Rattle.run_history.specs.Starts.{Arming, FindsOnLine, IsSentByHeirs, SentTo, Sight, arming_actions, from_moment}
use Rattle.run_history.specs.Truths.{sight_of}
use Rattle.run_history.specs.Witnesses.{BasesList, CountersList, TimersList, Witness, lines_at, moves_from, turns_along, witness_with}
use Rattle.fit_laws.proofs.EachTimer.{heads}
use Rattle.fit_laws.proofs.Moments.{all_since, all_yet, ends_later, turns_rise}
use Rattle.fit_laws.proofs.OwnPoints.{entered_then}
use Rattle.run_cases.specs.Fitting.{turning_record, turning_script}
use Rattle.run_cases.specs.Lines.{at, out_entry, set_entry_of, set_start}
use Rattle.run_cases.specs.Wrong.{turning_off_record}
use Rattle.run_cases.proofs.Calls.{right}
use Rattle.run_cases.proofs.OffLine.{of_one}
use Rattle.run_cases.proofs.SentOff.{ends_on_line}
use Rattle.run_cases.proofs.Small.{fits_by}
use Rattle.run_cases.proofs.Standings.{event_in, shifted_by, standing_then}
use Rattle.run_cases.proofs.Tests.{le, lt, point_passes}
use Rattle.run_cases.proofs.Witnesses.{armed_by, did, none_along, set_anew, step, three, turn_of, two, witness_along, quiet}

-- ---- its timer goes to the heir

-- its witness
abbrev turning_witness : Witness
turning_witness = witness_along turning_script turning_record (BasesList 1 ∷ CountersList 1 ∷ TimersList 0 ∷ CountersList 1 ∷ [])
    ((did 0 (Shifted 1 1 (shifts.Offline 0) ∷ []) 0 1 ∷ did 0 [] 1 1 ∷ [])
    ∷ (did 0 (turn_of 0 0 (Entered 0 1 (set_start 100 0 false) ∷ []) (set_entry_of 100 0 1 0)) 1 4 ∷ []) ∷ [])

-- law: it fits
pub turning_fits : Fits turning_script turning_record
unfolding after_entry after_shift changed shifted
turning_fits = fits_by turning_witness (record {
  version = refl;
  passed = refl;
  writes = tt;
  all = (refl, tt);
  bases = (refl, (refl, tt));
  clock = refl;
  objects = (refl, tt);
  history = two (record { within = lt refl; may = (refl, lt refl, lt refl); clear = refl; heir = refl; reach = of_one _ (lt refl) })
      (two tt (two (step refl (inr refl, inl (lt refl)) refl tt) (two tt tt)));
  object_histories = two (three (lt refl, refl, le refl, le refl, (λ e. absurd (cc), λ e. absurd (cc))) refl tt) tt;
  placed = (refl, (refl, tt));
  calls = two (
      two (right refl refl refl (refl, tt) (refl, tt) (refl, tt) (record { counted = refl; done = refl }, le refl) (refl, tt) (
        record { online = refl; heir_online = refl; room = lt refl },
        record {
          unarmed = none_along turning_witness 1 (is_armed_on 1) refl refl (refl, tt);
          idle = none_along turning_witness 1 (runs_on 1) refl refl (refl, tt);
        },
      ))
      (two (right refl refl refl (refl, tt) (refl, tt) (refl, tt) refl (refl, tt) (refl, refl)) tt)
      ) (two (
      two (right refl refl refl (refl, tt) (refl, tt) (refl, tt) (set_anew 0 1 refl (record { known = refl; good_value = lt refl; good_interval = lt refl }) (
        armed_by 1 100,
        refl,
        refl,
        record {
          below = le refl;
          next = tt;
          way = record { path = 0 ∷ []; at = 2; way = (2, le refl, refl, (refl, le refl, refl)); no_later = le refl; before = lt refl };
        },
      )) (refl, ((refl, (refl, refl, λ e. refl)), tt))
      (2, le refl, le refl, point_passes _ _ _ _ _ refl, record { armed = refl; running = refl; moving = refl })) tt
      ) tt);
})

-- ---- its timer is sent to the base that is off line since before its turn

-- the base to which an Out sends its timer, counted from 1
abbrev sent_to : EventBy ℕ → ℕ
sent_to (events.Out base) = suc base
sent_to event = 0

-- its three entries of the timer
abbrev set_three : List (ℕ × Entry)
set_three = (1, out_entry 1 false) ∷ (2, out_entry 0 false) ∷ (3, set_start 100 0 false) ∷ []

-- a settime that made them found the base on line before the first of them
sent_found : (sight : Sight) (ns reading stamp number : ℕ) (cancel : Option (ℕ × ℕ)) (arm : Armed) (start : List Action) (entry : ObjectEntry)
    → Arms sight 100 0 modes.Abs ns reading 1 arm start
    → set_three ≡ entered 0 (Began 0 stamp ∷ (cancels 0 cancel ++ start ++ Made 0 number entry ∷ [])) → FindsOnLine sight 0 sight.first 1 1 1
sent_found sight ns reading stamp number cancel arm start entry arms same = by_cancel cancel same
  where
    two_none : ◌≡◌ {A = ℕ} 2 0 → ⊥
    two_none is = omega (arith, is)

    wrong_first : (x : ℕ × Entry) (xs : List (ℕ × Entry)) → sent_to x.1.event ≡ 0 → set_three ≡ x ∷ xs → FindsOnLine sight 0 sight.first 1 1 1
    wrong_first x xs none is = absurd (two_none (ap (λ (y : ℕ × Entry). sent_to y.1.event) (heads _ x _ xs is) ∙ none))

    none_there : set_three ≡ [] → FindsOnLine sight 0 sight.first 1 1 1
    none_there is = absurd (cc)

    by_outs : (a : Arming) (outs : List SentTo)
        → set_three ≡ entered 0 (arming_actions 0 (without_slack modes.Abs ns 1) reading (record a { outs = outs }) ++ Made 0 number entry ∷ [])
        → IsSentByHeirs sight 0 1 outs a.number a.asked → FindsOnLine sight 0 sight.first 1 1 1
    by_outs a [] is way = wrong_first _ _ refl is
    by_outs a (out ∷ outs) is way =
        let head = heads _ _ _ _ is in
        let number : 1 ≡ out.number = ap (λ (x : ℕ × Entry). x.0) head in
        let base : 1 ≡ out.base = omega (arith, ap (λ (x : ℕ × Entry). sent_to x.1.event) head) in
        subst (λ n. FindsOnLine sight 0 sight.first n 1 1) (sym number) (subst (λ b. FindsOnLine sight 0 sight.first out.number 1 b) (sym base) way.0)

    by_arm : (arm : Armed) → Arms sight 100 0 modes.Abs ns reading 1 arm start → set_three ≡ entered 0 (start ++ Made 0 number entry ∷ [])
        → FindsOnLine sight 0 sight.first 1 1 1
    by_arm armings.None arms is = none_there (is ∙ ap (λ ds. entered 0 (ds ++ Made 0 number entry ∷ [])) arms)
    by_arm armings.Unarmed arms is = none_there (is ∙ ap (λ ds. entered 0 (ds ++ Made 0 number entry ∷ [])) arms)
    by_arm (armings.Generation generation) arms is =
        by_outs arms.0 arms.0.outs (is ∙ ap (λ ds. entered 0 (ds ++ Made 0 number entry ∷ [])) arms.1) arms.3.way

    by_cancel : (cancel : Option (ℕ × ℕ)) → set_three ≡ entered 0 (Began 0 stamp ∷ (cancels 0 cancel ++ start ++ Made 0 number entry ∷ []))
        → FindsOnLine sight 0 sight.first 1 1 1
    by_cancel None is = by_arm arm arms is
    by_cancel (Some c) is = wrong_first _ _ refl is

-- a base that has made its one entry is off line
off_line_since : (k : ℕ) → 0 < k
    → (standing_after_all first_standing (map (λ m. event_in m.shown)
    (take k (moves_from 0 (lines_at (quiet turning_off_record) (BasesList 1)))))).heir ≡ None → ⊥
off_line_since zero some on = omega (arith, some)
off_line_since (suc zero) some on = cc
off_line_since (suc (suc k)) some on = cc

-- law: it does not fit
pub turning_off_doesnt_fit : Fits turning_script turning_off_record → ⊥
turning_off_doesnt_fit fits =
    let w : Witness = witness_with turning_script turning_off_record fits.0 fits.1 fits.2 in
    let f = fits.3 in
    let off = (f.calls 0).1.0 in
    let look = (f.calls 0).2.1.0 in
    let set = (f.calls 1).1.0 in
    let makes = set.does.0 in
    let t = fits.2 (at 1 0) in
    let l = fits.2 (at 0 1) in
    let later = from_moment (sight_of w t.first t.last) makes.turn.begun in
    let own = entered_then w f.history f.timers (at 1 0) t.actions 0 set.traced.moves in
    let way = sent_found later _ _ makes.stamp (makes.stamp + 1) makes.cancel makes.arm makes.start _ makes.arms (own ∙ ap (entered 0) makes.done) in
    let ends = ends_on_line later later.first 1 way.path 1 way.at way.way in
    -- the object's turn had begun there, and hadn't where the other lane looked at the object
    let begun : 0 < turns_along w way.at 0 = omega (arith, makes.turn.turn, turns_rise w 0 makes.turn.begun way.at ends.0) in
    let behind : l.last ≤ way.at = ⊎_elim
    (λ (early : way.at < l.last). absurd (omega (arith, begun, look.holds.0, turns_rise w 0 way.at l.last (omega (arith, early)))))
    (λ late. late) (cases_lt way.at l.last) in
    let all = all_since way.at off (omega (arith, look.move_steps.0, ends_later w (at 0 1) l.first [] l.actions l.last look.truth, behind)) in
    off_line_since (shifted_by w way.at 1) (all_yet w f.history (BasesList 1) (at 0 0) 0 way.at refl all)
    (ap (λ (s : Standing). s.heir) (sym (standing_then w f.history way.at 1)) ∙ ends.1)
