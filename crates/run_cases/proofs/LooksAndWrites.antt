-- Records that fit, of a lane that looks at a timer and of writes of the clock beside another lane: a witness for each, and what makes it fit.
use Rattle.std.proofs.Common.{false, [], ◌∷◌, refl, inl, inr}
use Rattle.ktime.specs.declared.mode.Mode.TheVariants as modes
use Rattle.ktime.specs.declared.write.Write.TheVariants as writes
use Rattle.seq_timer.specs.declared.context.Context.TheVariants as contexts
use Rattle.seq_timer.specs.Systems.{after_entry, changed}
use Rattle.run_history.specs.Actions.{Entered, Wrote}
use Rattle.run_history.specs.Witnesses.{CountersList, TimersList, Witness}
use Rattle.run_history.specs.Fits.{Fits}
use Rattle.run_cases.specs.Fitting.{awaited_record, awaited_script, nothing_record, nothing_script, started_record, started_script}
use Rattle.run_cases.specs.Lines.{case_start_entry, start}
use Rattle.run_cases.proofs.Calls.{right}
use Rattle.run_cases.proofs.Witnesses.{armed_by, witness_along, did, done_by, fired, stays, ran, step, two}
use Rattle.run_cases.proofs.Small.{fits_by}
use Rattle.run_cases.proofs.Tests.{le, lt}

-- ---- a lane looks at a timer and then writes the clock, beside another lane's expiry run, which claims the timer by that write

-- its witness
abbrev awaited_witness : Witness
awaited_witness = witness_along awaited_script awaited_record (TimersList 0 ∷ CountersList 0 ∷ TimersList 0 ∷ TimersList 0 ∷ [])
    ((did 0 (Entered 0 1 (start modes.Rel 10 10) ∷ []) 0 1 ∷ ran 0 1 (fired 2 1 [] 3 false ∷ []) 2 4 ∷ [])
    ∷ (did 0 [] 1 1 ∷ did 0 (Wrote 1 (writes.Advance 20) ∷ []) 1 2 ∷ []) ∷ [])

-- law: it fits
pub awaited_fits : Fits awaited_script awaited_record
unfolding after_entry changed
awaited_fits = fits_by awaited_witness (record {
  version = refl;
  passed = refl;
  writes = (record { counted = lt refl; timely = le refl }, record { mono = refl; real = refl; boot = refl; changes = refl }, tt);
  all = (refl, tt);
  bases = (refl, tt);
  clock = refl;
  objects = (refl, tt);
  history = two (step refl (inr refl, inl (lt refl)) refl tt) (two tt
      (two (step refl (refl, refl, refl, refl, le refl) refl (refl, refl)) (two (step refl refl refl tt) tt)));
  object_histories = (refl, tt);
  placed = (refl, (refl, tt));
  calls = two (
      two (right refl refl refl (refl, tt) (refl, tt) (refl, tt) (armed_by 1 10, refl, refl, refl, refl, stays refl refl refl refl refl refl) (refl, tt) tt)
      (two (right refl refl refl (refl, tt) (refl, tt) (refl, tt)
      (record { one_reading = refl; claimed = refl; done = refl; contexts = (refl, tt); bodies = ((refl, refl), tt) }, lt refl)
      (refl, tt) (done_by awaited_witness contexts.Hard 1 0 4 refl refl (refl, tt) (λ clock. (refl, tt)))) tt)
      ) (two (
      two (right refl refl refl (refl, tt) (refl, tt) (refl, tt) refl (refl, tt) (record { stamp = refl; holds = refl }))
      (two (right refl refl refl (refl, tt) (refl, tt) (refl, tt) refl (refl, tt) tt) tt)
      ) tt);
})

-- ---- a lane looks at a timer and then writes the clock, beside another lane's start of it, which comes first

-- its witness
abbrev started_witness : Witness
started_witness = witness_along started_script started_record (TimersList 0 ∷ CountersList 0 ∷ [])
    ((did 0 (Entered 0 1 (start modes.Rel 10 10) ∷ []) 0 1 ∷ []) ∷ (did 0 [] 1 1 ∷ did 0 (Wrote 1 (writes.Advance 20) ∷ []) 1 2 ∷ []) ∷ [])

-- law: it fits
pub started_fits : Fits started_script started_record
unfolding after_entry changed
started_fits = fits_by started_witness (record {
  version = refl;
  passed = refl;
  writes = (record { counted = lt refl; timely = le refl }, record { mono = refl; real = refl; boot = refl; changes = refl }, tt);
  all = (refl, tt);
  bases = (refl, tt);
  clock = refl;
  objects = (refl, tt);
  history = two (step refl (inr refl, inl (lt refl)) refl tt) (two tt tt);
  object_histories = (refl, tt);
  placed = (refl, (refl, tt));
  calls = two (
      two (right refl refl refl (refl, tt) (refl, tt) (refl, tt) (armed_by 1 10, refl, refl, refl, refl, stays refl refl refl refl refl refl) (refl, tt) tt) tt
      ) (two (
      two (right refl refl refl (refl, tt) (refl, tt) (refl, tt) refl (refl, tt) (record { stamp = refl; holds = refl }))
      (two (right refl refl refl (refl, tt) (refl, tt) (refl, tt) refl (refl, tt) tt) tt)
      ) tt);
})

-- ---- a lane looks at a timer and then has nothing to expire, beside another lane that writes the clock and then starts the timer

-- its witness
abbrev nothing_witness : Witness
nothing_witness = witness_along nothing_script nothing_record (CountersList 0 ∷ TimersList 0 ∷ [])
    ((did 0 (Wrote 1 (writes.Advance 10) ∷ []) 0 1 ∷ did 1 (Entered 0 1 (case_start_entry modes.Abs 5 1 0 0 5 false) ∷ []) 1 2 ∷ [])
    ∷ (did 0 [] 0 0 ∷ ran 0 0 [] 0 0 ∷ []) ∷ [])

-- law: it fits
pub nothing_fits : Fits nothing_script nothing_record
unfolding after_entry changed
nothing_fits = fits_by nothing_witness (record {
  version = refl;
  passed = refl;
  writes = (record { counted = lt refl; timely = le refl }, record { mono = refl; real = refl; boot = refl; changes = refl }, tt);
  all = (refl, tt);
  bases = (refl, tt);
  clock = refl;
  objects = (refl, tt);
  history = two tt (two (step refl (inr refl, inl (lt refl)) refl tt) tt);
  object_histories = (refl, tt);
  placed = (refl, (refl, tt));
  calls = two (
      two (right refl refl refl (refl, tt) (refl, tt) (refl, tt) refl (refl, tt) tt)
      (two (right refl refl refl (refl, tt) (refl, tt) (refl, tt) (armed_by 1 5, refl, refl, refl, refl, stays refl refl refl refl refl refl) (refl, tt) tt) tt)
      ) (two (
      two (right refl refl refl (refl, tt) (refl, tt) (refl, tt) refl (refl, tt) (record { stamp = refl; holds = refl }))
      (two (right refl refl refl (refl, tt) (refl, tt) (refl, tt)
      (record { one_reading = refl; claimed = refl; done = refl; contexts = tt; bodies = tt }, lt refl) (refl, tt)
      (done_by nothing_witness contexts.Hard 0 0 0 refl refl (refl, tt) (λ clock. (refl, tt)))) tt)
      ) tt);
})
