-- A settime whose start is refused: it is told of its timer with its own cancel, and not as that was before; and of the timer as it was found idle, and not as
-- it was while its function still ran.
use Rattle.std.proofs.Common.{◌≡◌, ◌<◌, ◌≤◌, ℕ, zero, suc, true, false, None, Some, List, [], ◌∷◌, length, arith, refl, ap, inl, inr}
use Rattle.ktime.specs.Times.{passed}
use Rattle.ktime.specs.declared.write.Write.TheVariants as writes
use Rattle.seq_timer.specs.declared.context.Context.TheVariants as contexts
use Rattle.seq_timer.specs.Histories.{IsIdle}
use Rattle.seq_timer.specs.Systems.{after_entry, changed}
use Rattle.record_text.specs.declared.record.Label.{Label}
use Rattle.record_text.specs.declared.record.Armed.TheVariants as armings
use Rattle.run_history.specs.Actions.{Began, Entered, Wrote, entered}
use Rattle.run_history.specs.Fits.{Fits, FitsIn}
use Rattle.run_history.specs.Signals.{SignalLine}
use Rattle.fit_laws.proofs.EachTimer.{fits_for_each_timer}
use Rattle.fit_laws.proofs.Moments.{all_entered_by, all_since, seen_more}
use Rattle.fit_laws.proofs.OwnPoints.{entered_then, seen, seen_rises, stamp_then}
use Rattle.record_text.specs.declared.record.Answer.TheVariants as answers
use Rattle.run_history.specs.Witnesses.{CountersList, Move, TimersList, Trace, Witness, timer_along, witness_with}
use Rattle.run_cases.specs.Fitting.{ended_record, ended_script, full_record, full_script, unarmed_entry}
use Rattle.run_cases.specs.Lines.{at, cancel_entry, counted_entry, set_entry_of, set_start}
use Rattle.run_cases.specs.Wrong.{early_refusal_record, running_refusal_record}
use Rattle.run_cases.proofs.Calls.{right}
use Rattle.run_cases.proofs.ObjectsWrong.{some_none, still_then, unarmed_then}
use Rattle.run_cases.proofs.Settimes.{refused_idle}
use Rattle.run_cases.proofs.Small.{fits_by}
use Rattle.run_cases.proofs.Tests.{le, lt, point_passes}
use Rattle.run_cases.proofs.Witnesses.{begins, set_anew, armed_by, did, done_by, fired, ran, stays, step, three, turn_of, two, witness_along}

-- ---- it is told of the timer with the cancel

-- its witness
abbrev full_witness : Witness
full_witness = witness_along full_script full_record
    (CountersList 1 ∷ TimersList 0 ∷ CountersList 1 ∷ CountersList 1 ∷ TimersList 0 ∷ TimersList 0 ∷ CountersList 1
    ∷ CountersList 1 ∷ TimersList 0 ∷ CountersList 1 ∷ [])
    ((did 0 (turn_of 0 0 (Entered 0 1 (set_start 50 0 false) ∷ []) (set_entry_of 50 0 1 0)) 0 3
    ∷ did 0 (turn_of 0 1 (Entered 0 2 (cancel_entry 1) ∷ Entered 0 3 (set_start 60 0 false) ∷ []) (set_entry_of 60 0 3 50)) 3 7
    ∷ did 0 (turn_of 0 2 (Entered 0 4 (cancel_entry 3) ∷ []) (unarmed_entry 0 4)) 7 10 ∷ []) ∷ [])

-- law: it fits
pub full_fits : Fits full_script full_record
unfolding after_entry changed passed
full_fits = fits_by full_witness (record {
  version = refl;
  passed = refl;
  writes = tt;
  all = (refl, tt);
  bases = (refl, tt);
  clock = refl;
  objects = (refl, tt);
  history = two tt (two (step refl (inr refl, inl (lt refl)) refl tt) (two tt (two tt (two (step refl (refl, refl, refl) refl tt)
      (two (step refl (inr refl, inl (lt refl)) refl tt) (two tt (two tt (two (step refl (refl, refl, refl) refl tt) (two tt tt)))))))));
  object_histories = two (three (lt refl, refl, le refl, le refl, (λ e. absurd (cc), λ e. absurd (cc))) refl
      (three (lt refl, refl, le refl, le refl, (λ e. absurd (cc), λ e. absurd (cc))) refl
      (three (lt refl, refl, le refl, le refl, (λ e. absurd (cc), λ e. absurd (cc))) refl tt))) tt;
  placed = (refl, tt);
  calls = two (
      two (right refl refl refl (refl, tt) (refl, tt) (refl, tt) (set_anew 0 1 refl (record { known = refl; good_value = lt refl; good_interval = lt refl })
      (armed_by 1 50, refl, refl, stays refl refl refl refl refl refl)) (refl, ((refl, (refl, refl, λ e. refl)), tt))
      (1, le refl, le refl, point_passes _ _ _ _ _ refl, record { armed = refl; running = refl; moving = refl }))
      (two (right refl refl refl (refl, tt) (refl, tt) (refl, tt) (
        record {
          cancel = Some (2, 1);
          arm = armings.Generation 3;
          start = Entered 0 3 (set_start 60 0 false) ∷ [];
          stamp = 1;
          turn = begins refl;
          arms = (armed_by 3 60, refl, refl, stays refl refl refl refl refl refl);
          done = refl;
        },
        record { known = refl; good_value = lt refl; good_interval = lt refl },
      ) (refl, ((refl, (refl, refl, λ e. refl)), tt)) tt)
      (two (right refl refl refl (refl, tt) (refl, tt) (refl, tt) (
        record {
          cancel = Some (4, 3);
          arm = armings.Unarmed;
          start = [];
          stamp = 2;
          turn = begins refl;
          arms = refl;
          done = refl;
        },
        record { known = refl; good_value = lt refl; good_interval = lt refl },
      ) (refl, ((record { stamp = refl; holds = le refl }, refl), tt)) (record {
        early = Began 0 2 ∷ Entered 0 4 (cancel_entry 3) ∷ [];
        number = 3;
        entry = unarmed_entry 0 4;
        done = refl;
        moment = 9;
        from = le refl;
        to = le refl;
        disarmed = tt;
        point = point_passes _ _ _ _ _ refl;
        refused = (record { stamp = refl; holds = le refl }, refl);
      })) tt))
      ) tt;
})

-- ---- it is told of the timer before the cancel

-- law: it does not fit: where the timer had three entries, the third settime had made none of it
pub early_refusal_doesnt_fit : Fits full_script early_refusal_record → ⊥
early_refusal_doesnt_fit fits =
    let has = fits_for_each_timer full_script early_refusal_record fits in
    let call = has.calls 0 2 _ (answers.Unarmed 3) refl refl in
    let cancelled : 1 ≡ length (entered 0 call.actions) = ap length (call.entered 0) in
    let none : 0 ≡ length (entered 0 call.actions) = call.told.0.point.so_many in
    omega (arith, cancelled, none)

-- ---- it is told of the timer once its function has ended

-- its witness
abbrev ended_witness : Witness
ended_witness = witness_along ended_script ended_record
    (CountersList 1 ∷ TimersList 0 ∷ CountersList 1 ∷ CountersList 1 ∷ TimersList 0 ∷ TimersList 0 ∷ CountersList 1 ∷ CountersList 0
    ∷ TimersList 0 ∷ CountersList 1 ∷ CountersList 1 ∷ TimersList 0 ∷ CountersList 1 ∷ CountersList 1 ∷ [])
    ((did 0 (turn_of 0 0 (Entered 0 1 (set_start 50 0 false) ∷ []) (set_entry_of 50 0 1 0)) 0 3
    ∷ did 0 (turn_of 0 1 (Entered 0 2 (cancel_entry 1) ∷ Entered 0 3 (set_start 60 0 false) ∷ []) (set_entry_of 60 0 3 50)) 3 7
    ∷ did 0 (Wrote 1 (writes.Advance 60) ∷ []) 7 8 ∷ did 1 (turn_of 0 3 [] (unarmed_entry 1 5)) 12 14 ∷ [])
    ∷ (ran 0 1 (fired 4 3 (turn_of 0 2 [] (counted_entry 3 1)) 5 false ∷ []) 8 12 ∷ []) ∷ [])

-- law: it fits
pub ended_fits : Fits ended_script ended_record
unfolding after_entry changed passed
ended_fits = fits_by ended_witness (record {
  version = refl;
  passed = refl;
  writes = (record { counted = lt refl; timely = le refl }, record { mono = refl; real = refl; boot = refl; changes = refl }, tt);
  all = (refl, tt);
  bases = (refl, tt);
  clock = refl;
  objects = (refl, tt);
  history = two tt (two (step refl (inr refl, inl (lt refl)) refl tt) (two tt (two tt (two (step refl (refl, refl, refl) refl tt)
      (two (step refl (inr refl, inl (lt refl)) refl tt) (two tt (two tt
      (two (step refl (refl, refl, refl, refl, le refl) refl (refl, refl)) (two tt (two tt (two (step refl refl refl tt) (two tt (two tt tt)))))))))))));
  object_histories = two (three (lt refl, refl, le refl, le refl, (λ e. absurd (cc), λ e. absurd (cc))) refl
      (three (lt refl, refl, le refl, le refl, (λ e. absurd (cc), λ e. absurd (cc))) refl (three (lt refl) refl
      (three (lt refl, refl, le refl, le refl, (λ e. absurd (cc), λ e. absurd (cc))) refl tt)))) tt;
  placed = (refl, (refl, tt));
  calls = two (
      two (right refl refl refl (refl, tt) (refl, tt) (refl, tt) (set_anew 0 1 refl (record { known = refl; good_value = lt refl; good_interval = lt refl })
      (armed_by 1 50, refl, refl, stays refl refl refl refl refl refl)) (refl, ((refl, (refl, refl, λ e. refl)), tt))
      (1, le refl, le refl, point_passes _ _ _ _ _ refl, record { armed = refl; running = refl; moving = refl }))
      (two (right refl refl refl (refl, tt) (refl, tt) (refl, tt) (
        record {
          cancel = Some (2, 1);
          arm = armings.Generation 3;
          start = Entered 0 3 (set_start 60 0 false) ∷ [];
          stamp = 1;
          turn = begins refl;
          arms = (armed_by 3 60, refl, refl, stays refl refl refl refl refl refl);
          done = refl;
        },
        record { known = refl; good_value = lt refl; good_interval = lt refl },
      ) (refl, ((refl, (refl, refl, λ e. refl)), tt)) tt)
      (two (right refl refl refl (refl, tt) (refl, tt) (refl, tt) refl (refl, tt) tt)
      (two (right refl refl refl (refl, tt) (refl, tt) (refl, tt) (
        record { cancel = None; arm = armings.Unarmed; start = []; stamp = 3; turn = begins refl; arms = refl; done = refl },
        record { known = refl; good_value = lt refl; good_interval = lt refl },
      ) (refl, ((record { stamp = refl; holds = le refl }, refl), tt)) (record {
        early = Began 0 3 ∷ [];
        number = 4;
        entry = unarmed_entry 1 5;
        done = refl;
        moment = 13;
        from = le refl;
        to = le refl;
        disarmed = (13, le refl, le refl, point_passes _ _ _ _ _ refl, record { armed = refl; running = refl; moving = refl });
        point = point_passes _ _ _ _ _ refl;
        refused = (record { stamp = refl; holds = le refl }, refl);
      })) tt)))
      ) (two (
      two (right refl refl refl (refl, tt) (refl, tt) (refl, tt)
      (record { one_reading = refl; claimed = refl; done = refl; contexts = (refl, tt); bodies = ((inl (2, true, refl), refl), tt) }, lt refl)
      (refl, (tt, tt)) (done_by ended_witness contexts.Hard 1 0 12 refl refl (refl, tt) (λ clock. (refl, tt)))) tt
      ) tt);
})

-- ---- it is told of the timer while its function still ran

-- where the timer is idle behind the second settime, its function has run
idle_ended : (moves : List Move) (signals : ℕ → List SignalLine) (traces : Label → Trace)
    → FitsIn (witness_with ended_script running_refusal_record moves signals traces) → (n k : ℕ)
    → IsIdle (timer_along (witness_with ended_script running_refusal_record moves signals traces) n 0)
    → seen (witness_with ended_script running_refusal_record moves signals traces) n 0 ≡ k → 2 < k → 5 ≤ k
idle_ended moves signals traces f n zero idle is low = absurd (omega (arith, low))
idle_ended moves signals traces f n (suc zero) idle is low = absurd (omega (arith, low))
idle_ended moves signals traces f n (suc (suc zero)) idle is low = absurd (omega (arith, low))
idle_ended moves signals traces f n (suc (suc (suc zero))) idle is low =
    absurd (some_none (unarmed_then (witness_with ended_script running_refusal_record moves signals traces) f n 0 idle 3 is))
idle_ended moves signals traces f n (suc (suc (suc (suc zero)))) idle is low =
    absurd (some_none (still_then (witness_with ended_script running_refusal_record moves signals traces) f n 0 idle 4 is))
idle_ended moves signals traces f n (suc (suc (suc (suc (suc k))))) idle is low = omega arith

-- law: it does not fit: the timer was found idle behind its function's end, where it had five entries, and its start was refused behind that
pub running_refusal_doesnt_fit : Fits ended_script running_refusal_record → ⊥
running_refusal_doesnt_fit o =
    let w = witness_with ended_script running_refusal_record o.0 o.1 o.2 in
    let f = o.3 in
    let early = (f.calls 0).2.1.0 in
    let write = (f.calls 0).2.2.1.0 in
    let late = (f.calls 0).2.2.2.1.0 in
    let refusal = late.holds in
    let was = refused_idle 0 4 late (entered_then w f.history f.timers (at 0 3) (o.2 (at 0 3)).actions 0 late.traced.moves) in
    let n = was.0 in
    let low = all_entered_by w f.history f.timers 0 (at 0 1) 2 n refl (all_since n early (omega (arith, seen_more write, late.move_steps.0, was.1))) in
    let over = idle_ended o.0 o.1 o.2 f n (seen w n 0) was.4 refl (omega (arith, low, stamp_then w f.history f.timers n 0)) in
    omega (
      arith,
      over,
      seen_rises w f.history f.timers n refusal.moment 0 was.2,
      stamp_then w f.history f.timers refusal.moment 0,
      refusal.refused.0.stamp,
    )
