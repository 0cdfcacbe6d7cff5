-- The records that fit: a witness for each, and what makes it fit.
use Rattle.std.proofs.Common.{◌≡◌, ℕ, true, false, [], ◌∷◌, List, arith, refl, inl, inr}
use Rattle.ktime.specs.Times.{passed}
use Rattle.ktime.specs.declared.mode.Mode.TheVariants as modes
use Rattle.ktime.specs.declared.write.Write.TheVariants as writes
use Rattle.seq_timer.specs.declared.context.Context.TheVariants as contexts
use Rattle.seq_timer.specs.Systems.{after_entry, changed, IsSystemHistory}
use Rattle.record_text.specs.declared.record.Answer.TheVariants as answers
use Rattle.record_text.specs.declared.record.Answer.{Answer}
use Rattle.record_text.specs.declared.record.Armed.TheVariants as armings
use Rattle.record_text.specs.declared.record.CallbackReply.TheVariants as replies
use Rattle.record_text.specs.declared.record.RunRecord.{RunRecord}
use Rattle.script_text.specs.Declarations.{declareds_of, terms_of}
use Rattle.script_text.specs.declared.script.Call.TheVariants as calls
use Rattle.run_history.specs.Actions.{Entered, Looked, Wrote}
use Rattle.run_history.specs.Order.{calls_of}
use Rattle.run_history.specs.Witnesses.{CountersList, TimersList, Witness, entries_in, Trace}
use Rattle.run_history.specs.Fits.{Fits, unseen}
use Rattle.run_history.specs.Histories.{answers_of}
use Rattle.run_cases.specs.Fitting.{accept_entry, accepted_record, accepted_script, beside, beside_script, cancelled_record, expired_lines, idle_record, idle_script, kept_start, late_record, moved_record, moved_script, moved_start, rearming_start, none_entry, running_record, set_entry, told_record, told_script, trigger_entry}
use Rattle.run_cases.specs.Lines.{at, start, cancel_entry, out_entry}
use Rattle.run_cases.proofs.Calls.{are_placed, IsRight, right}
use Rattle.run_cases.proofs.Witnesses.{begins, on_line, set_anew, armed_as, armed_by, did, done_by, fired, ran, stays, step, three, turn_of, two, witness_along, witness_by}
use Rattle.run_cases.proofs.Small.{fits_by}
use Rattle.run_cases.proofs.Tests.{le, lt, point_passes}

-- ---- a timer is started, expires, is cancelled when it is idle, and is looked at

-- its witness
abbrev idle_witness : Witness
idle_witness = witness_along idle_script idle_record (TimersList 0 ∷ CountersList 0 ∷ TimersList 0 ∷ TimersList 0 ∷ [])
    ((did 0 (Entered 0 1 (start modes.Rel 100 100) ∷ []) 0 1 ∷ did 0 (Wrote 1 (writes.Advance 100) ∷ []) 1 2
    ∷ ran 0 1 (fired 2 1 [] 3 false ∷ []) 2 4 ∷ did 1 [] 4 4 ∷ did 1 [] 4 4 ∷ []) ∷ [])

-- law: it fits
pub idle_fits : Fits idle_script idle_record
unfolding after_entry changed
idle_fits = fits_by idle_witness (record {
  version = refl;
  passed = refl;
  writes = (record { counted = lt refl; timely = le refl }, record { mono = refl; real = refl; boot = refl; changes = refl }, tt);
  all = (refl, tt);
  bases = (refl, tt);
  clock = refl;
  objects = (refl, tt);
  history = two (step refl (inr refl, inl (lt refl)) refl tt) (two tt
      (two (step refl (refl, refl, refl, refl, le refl) refl (refl, refl)) (two (step refl refl refl tt) tt)));
  object_histories = (refl, tt);
  placed = (refl, tt);
  calls = two (
      two (right refl refl refl (refl, tt) (refl, tt) (refl, tt) (armed_by 1 100, refl, refl, refl, refl, stays refl refl refl refl refl refl) (refl, tt) tt)
      (two (right refl refl refl (refl, tt) (refl, tt) (refl, tt) refl (refl, tt) tt)
      (two (right refl refl refl (refl, tt) (refl, tt) (refl, tt)
      (record { one_reading = refl; claimed = refl; done = refl; contexts = (refl, tt); bodies = ((refl, refl), tt) }, lt refl)
      (refl, tt) (done_by idle_witness contexts.Hard 1 0 4 refl refl (refl, tt) (λ clock. (refl, tt))))
      (two (right refl refl refl (refl, tt) (refl, tt) (refl, tt) refl (refl, tt)
      (record { stamp = refl; holds = record { armed = refl; running = refl; moving = refl } }))
      (two (right refl refl refl (refl, tt) (refl, tt) (refl, tt) refl (refl, tt) (record { stamp = refl; holds = refl })) tt))))
      ) tt;
})

-- ---- a callback is told that its own timer runs

-- its witness
abbrev told_witness : Witness
told_witness = witness_by told_script told_record (0 ∷ 0 ∷ 0 ∷ []) ((did 0 (Entered 0 1 (start modes.Rel 0 0) ∷ []) 0 1
    ∷ ran 0 0 (fired 2 1 (Looked 0 2 (replies.Running 1) ∷ []) 3 false ∷ []) 1 3 ∷ []) ∷ [])

-- a start, the claim at the same time and the finish are a history
at_once : IsSystemHistory told_script.bases (declareds_of told_script) (terms_of told_script) (entries_in told_witness)
unfolding after_entry changed
at_once = two (step refl (inr refl, inl (lt refl)) refl tt)
    (two (step refl (refl, refl, refl, refl, le refl) refl (refl, refl)) (two (step refl refl refl tt) tt))

-- law: it fits
pub told_fits : Fits told_script told_record
unfolding after_entry changed
told_fits = fits_by told_witness (record {
  version = refl;
  passed = refl;
  writes = tt;
  all = (refl, tt);
  bases = (refl, tt);
  clock = refl;
  objects = (refl, tt);
  history = at_once;
  object_histories = (refl, tt);
  placed = (refl, tt);
  calls = two (
      two (right refl refl refl (refl, tt) (refl, tt) (refl, tt) (armed_by 1 0, refl, refl, refl, refl, stays refl refl refl refl refl refl) (refl, tt) tt)
      (two (right refl refl refl (refl, tt) (refl, tt) (refl, tt)
      (record { one_reading = refl; claimed = refl; done = refl; contexts = (refl, tt); bodies = (((2, refl), refl), tt) }, refl)
      (refl, ((record { stamp = refl; holds = refl }, tt), tt)) tt) tt)
      ) tt;
})

-- ---- a callback starts its own timer while it runs, and a later start moves the timer to another base

-- its witness
abbrev moved_witness : Witness
moved_witness = witness_by moved_script moved_record (0 ∷ 0 ∷ 0 ∷ 0 ∷ 0 ∷ 0 ∷ []) ((did 0 (Entered 0 1 (start modes.Abs 0 0) ∷ []) 0 1
    ∷ ran 0 0 (fired 2 1 (Entered 0 3 kept_start ∷ []) 4 true ∷ []) 1 4 ∷ did 0 [] 4 4
    ∷ did 0 (Entered 0 5 (out_entry 1 true) ∷ Entered 0 6 moved_start ∷ []) 4 6 ∷ []) ∷ [])

-- law: it fits
pub moved_fits : Fits moved_script moved_record
unfolding after_entry changed
moved_fits = fits_by moved_witness (record {
  version = refl;
  passed = refl;
  writes = tt;
  all = (refl, tt);
  bases = (refl, (refl, tt));
  clock = refl;
  objects = (refl, tt);
  history = two (step refl (inr refl, inl (lt refl)) refl tt) (two (step refl (refl, refl, refl, refl, le refl) refl (refl, refl))
      (two (step refl (inl refl, inl (lt refl)) refl tt) (two (step refl refl refl tt)
      (two (step refl (refl, (λ e. omega (arith, e)), refl) refl (lt refl)) (two (step refl (inr refl, inl (lt refl)) refl tt) tt)))));
  object_histories = (refl, tt);
  placed = (refl, tt);
  calls = two (
      two (right refl refl refl (refl, tt) (refl, tt) (refl, tt) (armed_by 1 0, refl, refl, refl, refl, stays refl refl refl refl refl refl) (refl, tt) tt)
      (two (right refl refl refl (refl, tt) (refl, tt) (refl, tt) (
        record {
          one_reading = refl;
          claimed = refl;
          done = refl;
          contexts = (refl, tt);
          bodies = (
            (
              inl (
                record
                    (armed_by 3 50) { asked = 1 },
                refl,
                record { begun = 2; from = le refl; claimed = le refl; arming = stays refl refl refl refl refl refl },
              ),
              refl,
            ),
            tt,
          );
        },
        refl,
      )
      (refl, tt) tt)
      (two (right refl refl refl (refl, tt) (refl, tt) (refl, tt) refl (refl, tt) (record { stamp = refl; holds = refl }))
      (two (right refl refl refl (refl, tt) (refl, tt) (refl, tt) (
        record (armed_as 6 1 70 70) { outs = record { base = 1; number = 5; was_armed = true } ∷ [] },
        refl,
        refl,
        refl,
        refl,
        record { below = le refl; next = (refl, tt); way = (on_line refl refl refl refl, refl, tt) },
      ) (refl, tt) tt) tt)))
      ) tt;
})

-- ---- a lane cancels a timer beside another lane's expiry run

-- the start came first; then the cancel, and the other lane's expiry run, did these things
abbrev beside_witness : RunRecord → List ℕ → Trace → Trace → Witness
beside_witness r order cancel expire =
    witness_by beside_script r (0 ∷ order) ((did 0 (Entered 0 1 (start modes.Rel 0 0) ∷ []) 0 1 ∷ cancel ∷ []) ∷ (expire ∷ []) ∷ [])

-- the cancel came first
abbrev cancelled_witness : Witness
cancelled_witness = beside_witness cancelled_record (0 ∷ []) (did 0 (Entered 0 2 (cancel_entry 1) ∷ []) 1 2) (ran 0 0 [] 2 2)

-- law: it fits
pub cancelled_fits : Fits beside_script cancelled_record
unfolding after_entry changed
cancelled_fits = fits_by cancelled_witness (record {
  version = refl;
  passed = refl;
  writes = tt;
  all = (refl, tt);
  bases = (refl, tt);
  clock = refl;
  objects = (refl, tt);
  history = two (step refl (inr refl, inl (lt refl)) refl tt) (two (step refl (refl, refl, refl) refl tt) tt);
  object_histories = (refl, tt);
  placed = (refl, (refl, tt));
  calls = two (
      two (right refl refl refl (refl, tt) (refl, tt) (refl, tt) (armed_by 1 0, refl, refl, refl, refl, stays refl refl refl refl refl refl) (refl, tt) tt)
      (two (right refl refl refl (refl, tt) (refl, tt) (refl, tt) (2, refl) (refl, tt) tt) tt)
      ) (two (
      two (right refl refl refl (refl, tt) (refl, tt) (refl, tt)
      (record { one_reading = refl; claimed = refl; done = refl; contexts = tt; bodies = tt }, lt refl) (refl, tt)
      (done_by cancelled_witness contexts.Hard 0 0 2 refl refl (refl, tt) (λ clock. (refl, tt)))) tt
      ) tt);
})

-- the timer expired, and a cancel did nothing at this moment
abbrev expired_witness : Answer → ℕ → Witness
expired_witness told moment = beside_witness (beside expired_lines told (answers.Done 0 (0 ∷ []))) (0 ∷ 0 ∷ []) (did 0 [] moment moment)
    (ran 0 0 (fired 2 1 [] 3 false ∷ []) 1 3)

expired_fits : (told : Answer) (moment : ℕ)
    → are_placed (expired_witness told moment) 0 0 unseen (calls_of beside_script 0) (answers_of (expired_witness told moment).run 0) ≡ true
    → IsRight (expired_witness told moment) (at 0 1) (calls.Cancel 0) told
    → Fits beside_script (beside expired_lines told (answers.Done 0 (0 ∷ [])))
unfolding after_entry changed
expired_fits told moment placed cancel = fits_by (expired_witness told moment) (record {
  version = refl;
  passed = refl;
  writes = tt;
  all = (refl, tt);
  bases = (refl, tt);
  clock = refl;
  objects = (refl, tt);
  history = at_once;
  object_histories = (refl, tt);
  placed = (placed, (refl, tt));
  calls = two (
      two (right refl refl refl (refl, tt) (refl, tt) (refl, tt) (armed_by 1 0, refl, refl, refl, refl, stays refl refl refl refl refl refl) (refl, tt) tt)
      (two cancel tt)
      ) (two (
      two (right refl refl refl (refl, tt) (refl, tt) (refl, tt)
      (record { one_reading = refl; claimed = refl; done = refl; contexts = (refl, tt); bodies = ((refl, refl), tt) }, lt refl) (refl, tt)
      (done_by (expired_witness told moment) contexts.Hard 0 0 3 refl refl (refl, tt) (λ clock. (refl, tt)))) tt
      ) tt);
})

-- law: so it fits where the function ran
pub running_fits : Fits beside_script running_record
unfolding after_entry changed
running_fits = expired_fits (answers.Running 1 2) 2 refl
    (right refl refl refl (refl, tt) (refl, tt) (refl, tt) refl (refl, tt) (record { stamp = refl; holds = refl }))

-- law: and where it had run
pub late_fits : Fits beside_script late_record
unfolding after_entry changed
late_fits = expired_fits (answers.Idle 3) 3 refl (right refl refl refl (refl, tt) (refl, tt) (refl, tt) refl (refl, tt)
    (record { stamp = refl; holds = record { armed = refl; running = refl; moving = refl } }))

-- ---- a POSIX timer is set, expires, and has its signal accepted, which arms it again; a second acceptance finds none

-- its witness
abbrev accepted_witness : Witness
accepted_witness = witness_along accepted_script accepted_record
    (CountersList 1 ∷ TimersList 0 ∷ CountersList 1 ∷ CountersList 0 ∷ TimersList 0 ∷ CountersList 1 ∷ CountersList 1 ∷ TimersList 0 ∷ CountersList 0
    ∷ CountersList 1 ∷ TimersList 0 ∷ CountersList 1 ∷ CountersList 1 ∷ CountersList 1 ∷ [])
    ((did 0 (turn_of 0 0 (Entered 0 1 (start modes.Abs 100 100) ∷ []) set_entry) 0 3
    ∷ did 0 (Wrote 1 (writes.Advance 100) ∷ []) 3 4 ∷ ran 0 1 (fired 2 1 (turn_of 0 1 [] trigger_entry) 3 false ∷ []) 4 8
    ∷ did 1 (Wrote 2 (writes.Advance 35) ∷ []) 8 9 ∷ did 2 (turn_of 0 2 (Entered 0 4 rearming_start ∷ []) accept_entry) 9 12
    ∷ did 2 (turn_of 0 3 [] none_entry) 12 14 ∷ did 2 [] 14 14 ∷ []) ∷ [])

-- law: it fits
pub accepted_fits : Fits accepted_script accepted_record
unfolding after_entry changed passed
accepted_fits = fits_by accepted_witness (record {
  version = refl;
  passed = refl;
  writes = three (record { counted = lt refl; timely = le refl }) (record { mono = refl; real = refl; boot = refl; changes = refl })
      (three (record { counted = lt refl; timely = le refl }) (record { mono = refl; real = refl; boot = refl; changes = refl }) tt);
  all = (refl, tt);
  bases = (refl, tt);
  clock = refl;
  objects = (refl, tt);
  history = two tt (two (step refl (inr refl, inl (lt refl)) refl tt) (two tt (two tt
      (two (step refl (refl, refl, refl, refl, le refl) refl (refl, refl)) (two tt (two tt (two (step refl refl refl tt) (two tt (two tt
      (two (step refl (inr refl, inl (lt refl)) refl tt) (two tt (two tt (two tt tt)))))))))))));
  object_histories = two (three (lt refl, refl, le refl, le refl, (λ e. absurd (cc), λ e. absurd (cc))) refl
      (three (lt refl) refl (three (lt refl, (λ e. absurd (cc), λ e. absurd (cc))) refl (three (lt refl, (λ e. refl, λ e. refl)) refl tt)))) tt;
  placed = (refl, tt);
  calls = two (
      two (right refl refl refl (refl, tt) (refl, tt) (refl, tt) (set_anew 0 1 refl (record { known = refl; good_value = lt refl; good_interval = lt refl })
      (armed_by 1 100, refl, refl, stays refl refl refl refl refl refl)) (refl, ((refl, (refl, refl, λ e. refl)), tt))
      (1, le refl, le refl, point_passes _ _ _ _ _ refl, record { armed = refl; running = refl; moving = refl }))
      (two (right refl refl refl (refl, tt) (refl, tt) (refl, tt) refl (refl, tt) tt)
      (two (right refl refl refl (refl, tt) (refl, tt) (refl, tt)
      (record { one_reading = refl; claimed = refl; done = refl; contexts = (refl, tt); bodies = ((inl (1, true, refl), refl), tt) }, lt refl)
      (refl, (tt, tt)) (done_by accepted_witness contexts.Hard 1 0 8 refl refl (refl, tt) (λ clock. (refl, tt))))
      (two (right refl refl refl (refl, tt) (refl, tt) (refl, tt) refl (refl, tt) tt)
      (two (right refl refl refl (refl, tt) (refl, tt) (refl, tt) (record {
        arm = armings.Generation 4;
        ns = 140;
        start = Entered 0 4 rearming_start ∷ [];
        stamp = 2;
        timely = le refl;
        turn = begins refl;
        arms = (armed_by 4 140, refl, refl, stays refl refl refl refl refl refl);
        done = refl;
      }) (refl, ((refl, (refl, refl, λ e. refl)), tt)) tt)
      (two (right refl refl refl (refl, tt) (refl, tt) (refl, tt)
      (record { arm = armings.None; ns = 0; start = []; stamp = 3; timely = le refl; turn = begins refl; arms = refl; done = refl }) (refl, (tt, tt)) tt)
      (two (right refl refl refl (refl, tt) (refl, tt) (refl, tt) refl (refl, tt) (refl, refl)) tt))))))
      ) tt;
})
