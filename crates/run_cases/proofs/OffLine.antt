-- Bases that go off line: a record that fits, and those that don't.
use Rattle.std.proofs.Common.{◌≡◌, ◌<◌, ℕ, ◌+◌, zero, suc, true, false, nat_eq, None, Some, List, [], ◌∷◌, ◌++◌, flat_map, length, arith, refl, ap, ◌∙◌, inl, inr}
use Rattle.std.specs.List.{AllByRecursion}
use Rattle.std.proofs.lemmas.Bool.{eqb-true}
use Rattle.ktime.specs.declared.clock_id.ClockId.TheVariants as clocks
use Rattle.ktime.specs.declared.mode.Mode.TheVariants as modes
use Rattle.seq_timer.specs.Contents.{front_of}
use Rattle.seq_timer.specs.Systems.{after_entry, after_shift, changed, shifted}
use Rattle.seq_timer.specs.Tables.{is_armed_on, runs_on}
use Rattle.seq_timer.specs.declared.event.EventBy.{EventBy}
use Rattle.seq_timer.specs.declared.event.EventBy.TheVariants as events
use Rattle.seq_timer.specs.declared.standing.BaseEvent.TheVariants as shifts
use Rattle.seq_timer.specs.declared.event.Reply.TheVariants as replies
use Rattle.record_text.specs.declared.record.Answer.TheVariants as answers
use Rattle.record_text.specs.declared.record.Entry.{Entry}
use Rattle.run_history.specs.Actions.{also, Entered, entered, Shifted}
use Rattle.run_history.specs.Deeds.{evacuates, KeepsExpiries}
use Rattle.run_history.specs.Fits.{Fits}
use Rattle.run_history.specs.Histories.{timer_after}
use Rattle.run_history.specs.Traces.{all_entered}
use Rattle.run_history.specs.Witnesses.{BasesList, Evacuation, Owner, TimersList, Trace, Witness}
use Rattle.fit_laws.proofs.EachTimer.{fits_for_each_timer, heads}
use Rattle.run_cases.specs.Fitting.{heir_record, heir_script}
use Rattle.run_cases.specs.Lines.{case_start_entry, out_entry}
use Rattle.run_cases.specs.Wrong.{early_move_record, left_record, left_script, silent_record, silent_script, stranded_record, stranded_script}
use Rattle.run_cases.proofs.Calls.{right, right_moving}
use Rattle.run_cases.proofs.Orders.{in_one_order_of}
use Rattle.run_cases.proofs.Small.{fits_by}
use Rattle.run_cases.proofs.Tests.{le, lt}
use Rattle.run_cases.proofs.Witnesses.{on_line, armed_as, did, moves_by, none_along, step, two, witness_along}

-- ---- a base is taken off line, which moves its timer to the heir; a start that asks for the base goes there; and the base is on line again

-- the timer's move
abbrev heir_move : Evacuation
heir_move = record {
  timer = 0;
  before = 2;
  ns = 100;
  slack = 0;
  placement = record { base = 0; clock = clocks.Monotonic; soft = 100; expires = 100 };
}

-- what the call did that took the base off line
abbrev offline_trace : Trace
offline_trace = record {
  at = 0;
  fired = [];
  moved = heir_move ∷ [];
  actions = flat_map (evacuates 0 0) (heir_move ∷ []) ++ Shifted 1 1 (shifts.Offline 0) ∷ [];
  first = 2;
  last = 5;
}

-- its witness
abbrev heir_witness : Witness
heir_witness = witness_along heir_script heir_record
    (TimersList 0 ∷ TimersList 0 ∷ TimersList 0 ∷ TimersList 0 ∷ BasesList 1 ∷ TimersList 0 ∷ BasesList 1 ∷ [])
    ((did 0 (Entered 0 1 (out_entry 1 false) ∷ Entered 0 2 (case_start_entry modes.Abs 100 0 1 1 100 false) ∷ []) 0 2 ∷ offline_trace
    ∷ did 0 (Entered 0 5 (case_start_entry modes.Abs 200 0 0 0 200 true) ∷ []) 5 6 ∷ did 0 (Shifted 1 2 shifts.Online ∷ []) 6 7 ∷ []) ∷ [])

-- what holds of the one timer that is there
pub of_one : (P : ℕ → Type 0) → P 0 → (t : ℕ) → t < 1 → P t
of_one P here zero less = here
of_one P here (suc t) less = absurd (omega (arith, less))

-- law: it fits
pub heir_fits : Fits heir_script heir_record
unfolding after_entry after_shift changed shifted
heir_fits = fits_by heir_witness (record {
  version = refl;
  passed = refl;
  writes = tt;
  all = (refl, tt);
  bases = (refl, (refl, tt));
  clock = refl;
  objects = (refl, tt);
  history = two (step refl (refl, (λ e. omega (arith, e)), refl) refl (lt refl)) (two (step refl (inr refl, inl (lt refl)) refl tt)
      (two (step refl (refl, (λ e. omega (arith, e)), refl) refl (lt refl)) (two (step refl (inr refl, inl (lt refl)) refl tt)
      (two (record { within = lt refl; may = (refl, lt refl, lt refl); clear = refl; heir = refl; reach = of_one _ (lt refl) })
      (two (step refl (inr refl, inl (lt refl)) refl tt)
      (two (record { within = lt refl; may = refl; clear = tt; heir = tt; reach = of_one _ (lt refl) }) tt))))));
  object_histories = (refl, tt);
  placed = (refl, tt);
  calls = two (
      two (right refl refl refl (refl, tt) (refl, tt) (refl, tt) (
        record (armed_as 2 1 100 100) { outs = record { base = 1; number = 1; was_armed = false } ∷ [] },
        refl,
        refl,
        refl,
        refl,
        record { below = le refl; next = (refl, tt); way = (on_line refl refl refl refl, refl, tt) },
      ) (refl, tt) tt)
      (two (right_moving refl refl refl (refl, tt) (refl, tt) (refl, tt) (record { counted = refl; done = refl }, le refl) (
        (record { armed = refl; soft = refl; slack = refl }, tt),
        (
          record {
            at = 2;
            from = le refl;
            to = le refl;
            stamp = refl;
            next = refl;
            idle = none_along heir_witness 2 (runs_on 1) refl refl (refl, tt);
            front = (100, refl);
          },
          tt,
        ),
      )
      (refl, tt) (
        record { online = refl; heir_online = refl; room = lt refl },
        record {
          unarmed = none_along heir_witness 5 (is_armed_on 1) refl refl (refl, tt);
          idle = none_along heir_witness 5 (runs_on 1) refl refl (refl, tt);
        },
      ))
      (two (right refl refl refl (refl, tt) (refl, tt) (refl, tt) (
        record (armed_as 5 0 200 200) { was_armed = true },
        refl,
        refl,
        refl,
        refl,
        record {
          below = le refl;
          next = tt;
          way = record { path = 0 ∷ []; at = 5; way = (5, le refl, refl, (refl, le refl, refl)); no_later = le refl; before = lt refl };
        },
      ) (refl, tt) tt)
      (two (right refl refl refl (refl, tt) (refl, tt) (refl, tt) refl (refl, tt) tt) tt)))
      ) tt;
})

-- ---- a start leaves its timer on a base that is off line

-- law: it does not fit
pub stranded_doesnt_fit : Fits stranded_script stranded_record → ⊥
unfolding after_entry after_shift changed shifted
stranded_doesnt_fit fits =
    let order : List Owner = BasesList 1 ∷ TimersList 0 ∷ TimersList 0 ∷ [] in
    let o = in_one_order_of stranded_script stranded_record (moves_by stranded_record [] order) refl (refl, tt) (refl, (refl, tt)) refl (refl, tt) refl fits in
    -- at the third place, where the timer is started
    on_line (o.2.history.history.1.1.0.base.online refl)
  where
    on_line : {heir : ℕ} → Some heir ≡ None → ⊥
    on_line wrong = cc

-- ---- a base goes off line with a timer armed on it

-- law: it does not fit
pub left_doesnt_fit : Fits left_script left_record → ⊥
unfolding after_entry after_shift changed shifted
left_doesnt_fit fits =
    let order : List Owner = TimersList 0 ∷ TimersList 0 ∷ BasesList 1 ∷ [] in
    let o = in_one_order_of left_script left_record (moves_by left_record [] order) refl (refl, tt) (refl, (refl, tt)) refl (refl, tt) refl fits in
    -- at the third place, where the base goes off line
    let clear = o.2.history.history.1.1.0.clear in
    not_there (ap front_of clear)
  where
    not_there : {p : ℕ × ℕ} → Some p ≡ None → ⊥
    not_there wrong = cc

-- ---- a timer that is moved off a base gets another expiry

-- the time that a start asks for
abbrev ns_of : EventBy ℕ → ℕ
ns_of (events.Start asked) = asked.ns
ns_of event = 0

-- the call that took the base off line moved the one timer, which had two entries, and asked for this time
moved_early : (reading : ℕ) (moved : List Evacuation) (out start : Entry) → 1 ≡ length moved
    → (3, out) ∷ (4, start) ∷ [] ≡ entered 0 (flat_map (evacuates 0 reading) moved ++ Shifted 1 1 (shifts.Offline 0) ∷ [])
    → AllByRecursion (λ e. KeepsExpiries 1 (timer_after left_script early_move_record e.timer e.before) e) moved → ns_of start.event ≡ 100
moved_early reading [] out start one is keeps = absurd (cc)
moved_early reading (e ∷ f ∷ moved) out start one is keeps = absurd (cc)
moved_early reading (e ∷ []) out start one is keeps =
    elim (nat_eq e.timer 0) as (λ b. nat_eq e.timer 0 ≡ b
    → ◌≡◌ {A = List (ℕ × Entry)} ((3, out) ∷ (4, start) ∷ []) (also b (e.before + 1, sent) (also b (e.before + 2, started) []))
    → ns_of start.event ≡ 100) [
      | true ↦ λ own same. both (eqb-true e.timer 0 own) (heads (3, out) (e.before + 1, sent) _ _ same)
          (heads (4, start) (e.before + 2, started) [] [] (later same))
      | false ↦ λ own same. absurd (cc)
    ] refl is
  where
    sent : Entry
    sent = record { event = events.Out 0; reply = replies.Out true }

    started : Entry
    started = record {
      event = events.Start (record { mode = modes.Keep; ns = e.ns; slack = e.slack; reading = reading; base = 0 });
      reply = replies.Start e.placement false;
    }

    later : ◌≡◌ {A = List (ℕ × Entry)} ((3, out) ∷ (4, start) ∷ []) ((e.before + 1, sent) ∷ (e.before + 2, started) ∷ [])
        → ◌≡◌ {A = List (ℕ × Entry)} ((4, start) ∷ []) ((e.before + 2, started) ∷ [])
    later same = cc

    two_before : (n : ℕ) → 3 ≡ n + 1 → n ≡ 2
    two_before n e = omega (arith, e)

    both : e.timer ≡ 0 → ◌≡◌ {A = ℕ × Entry} (3, out) (e.before + 1, sent) → ◌≡◌ {A = ℕ × Entry} (4, start) (e.before + 2, started) → ns_of start.event ≡ 100
    both timer first second =
        ap (λ (x : ℕ × Entry). ns_of x.1.event) second ∙ keeps.0.soft
        ∙ ap (λ t. (timer_after left_script early_move_record t e.before).soft) timer
        ∙ ap (λ n. (timer_after left_script early_move_record 0 n).soft) (two_before e.before (ap (λ (x : ℕ × Entry). x.0) first))

-- law: it does not fit
pub early_move_doesnt_fit : Fits left_script early_move_record → ⊥
early_move_doesnt_fit fits =
    let has = fits_for_each_timer left_script early_move_record fits in
    let call = has.calls 0 1 _ (answers.Offline 1 1) refl refl in
    let wrong : 90 ≡ 100 = moved_early call.at call.moved (out_entry 0 true) (case_start_entry modes.Keep 90 0 0 0 90 false) call.does.0.counted
    (call.entered 0 ∙ ap (entered 0) call.does.0.done) call.keeps in
    omega (arith, wrong)

-- ---- a call answers that a base is on line again, and the base has no such entry

-- law: it does not fit
pub silent_doesnt_fit : Fits silent_script silent_record → ⊥
silent_doesnt_fit fits =
    let o = in_one_order_of silent_script silent_record (moves_by silent_record [] (BasesList 1 ∷ []))
    refl (refl, tt) (refl, (refl, tt)) refl (refl, tt) refl fits in
    let call = (o.2.calls 0).2.1.0 in
    let wrong = call.traced.moves ∙ ap all_entered call.does in
    cc
