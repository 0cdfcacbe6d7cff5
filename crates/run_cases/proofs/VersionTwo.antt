-- Records of version 2 that fit, of timers with slack and of both contexts: a witness for each, and what makes it fit.
use Rattle.std.proofs.Common.{false, [], ◌∷◌, refl, inl, inr}
use Rattle.ktime.specs.declared.clock_id.ClockId.{ClockId}
use Rattle.ktime.specs.declared.clock_id.ClockId.TheVariants as clocks
use Rattle.ktime.specs.declared.mode.Mode.TheVariants as modes
use Rattle.seq_timer.specs.declared.context.Context.TheVariants as contexts
use Rattle.seq_timer.specs.Systems.{after_entry, changed}
use Rattle.seq_timer.specs.Tables.{IsStopped, in_context, is_kept_on, is_smaller}
use Rattle.run_history.specs.Histories.{reading_at}
use Rattle.run_history.specs.Actions.{Entered}
use Rattle.run_history.specs.Witnesses.{Witness, timer_along}
use Rattle.run_history.specs.Fits.{Fits}
use Rattle.run_cases.specs.Fitting.{early_record, early_script, waiting_record, waiting_script, contexts_record, contexts_script}
use Rattle.run_cases.specs.Lines.{slack_entry, start}
use Rattle.run_cases.proofs.Calls.{right}
use Rattle.run_cases.proofs.Witnesses.{armed_as, armed_by, witness_by, did, done_by, fired, none_then, stays, stopped_by, ran, step, two}
use Rattle.run_cases.proofs.Small.{fits_by}
use Rattle.run_cases.proofs.Tests.{le, lt}

-- ---- a timer with slack expires when its soft expiry is reached and its hard one isn't

-- its witness
abbrev early_witness : Witness
early_witness = witness_by early_script early_record (0 ∷ 0 ∷ 0 ∷ [])
    ((did 0 (Entered 0 1 (slack_entry 0 100) ∷ []) 0 1 ∷ ran 0 0 (fired 2 1 [] 3 false ∷ []) 1 3 ∷ []) ∷ [])

-- law: it fits
pub early_fits : Fits early_script early_record
unfolding after_entry changed
early_fits = fits_by early_witness (record {
  version = refl;
  passed = refl;
  writes = tt;
  all = (refl, tt);
  bases = (refl, tt);
  clock = refl;
  objects = (refl, tt);
  history = two (step refl (inr refl, inl (lt refl)) refl tt)
      (two (step refl (refl, refl, refl, refl, le refl) refl (refl, refl)) (two (step refl refl refl tt) tt));
  object_histories = (refl, tt);
  placed = (refl, tt);
  calls = two (
      two (right refl refl refl (refl, tt) (refl, tt) (refl, tt)
      (armed_as 1 0 0 100, refl, refl, refl, refl, stays refl refl refl refl refl refl) (refl, tt) tt)
      (two (right refl refl refl (refl, tt) (refl, tt) (refl, tt)
      (record { one_reading = refl; claimed = refl; done = refl; contexts = (refl, tt); bodies = ((refl, refl), tt) }, lt refl)
      (refl, tt) (done_by early_witness contexts.Hard 0 0 3 refl refl (refl, tt) (λ clock. (refl, tt)))) tt)
      ) tt;
})

-- ---- a run is done and claimed nothing, though a soft expiry is reached: that of the timer with the earliest hard expiry isn't

-- its witness
abbrev waiting_witness : Witness
waiting_witness = witness_by waiting_script waiting_record (0 ∷ 1 ∷ []) ((did 0 (Entered 0 1 (slack_entry 0 100) ∷ []) 0 1
    ∷ did 0 (Entered 1 1 (start modes.Abs 50 50) ∷ []) 1 2 ∷ ran 0 0 [] 2 2 ∷ []) ∷ [])

-- the second timer leads the one clock on which timers are kept, and has a soft expiry that isn't reached
waiting_stopped : (clock : ClockId) → IsStopped (in_context contexts.Hard (timer_along waiting_witness 2)) 0 (reading_at [] 0) clock
unfolding after_entry changed
waiting_stopped clocks.Monotonic = inr (
  1,
  record {
    kept = refl;
    smaller = none_then waiting_witness contexts.Hard 2 (is_smaller 0 clocks.Monotonic 50) refl refl (refl, (refl, tt));
  },
  lt refl,
)
waiting_stopped clocks.Realtime = inl (none_then waiting_witness contexts.Hard 2 (is_kept_on 0 clocks.Realtime) refl refl (refl, (refl, tt)))
waiting_stopped clocks.Boottime = inl (none_then waiting_witness contexts.Hard 2 (is_kept_on 0 clocks.Boottime) refl refl (refl, (refl, tt)))

-- law: it fits
pub waiting_fits : Fits waiting_script waiting_record
unfolding after_entry changed
waiting_fits = fits_by waiting_witness (record {
  version = refl;
  passed = refl;
  writes = tt;
  all = (refl, (refl, tt));
  bases = (refl, tt);
  clock = refl;
  objects = (refl, (refl, tt));
  history = two (step refl (inr refl, inl (lt refl)) refl tt) (two (step refl (inr refl, inl (lt refl)) refl tt) tt);
  object_histories = (refl, (refl, tt));
  placed = (refl, tt);
  calls = two (
      two (right refl refl refl (refl, (refl, tt)) (refl, (refl, tt)) (refl, (refl, tt))
      (armed_as 1 0 0 100, refl, refl, refl, refl, stays refl refl refl refl refl refl) (refl, tt) tt)
      (two (right refl refl refl (refl, (refl, tt)) (refl, (refl, tt)) (refl, (refl, tt))
      (armed_by 1 50, refl, refl, refl, refl, stays refl refl refl refl refl refl) (refl, tt) tt)
      (two (right refl refl refl (refl, (refl, tt)) (refl, (refl, tt)) (refl, (refl, tt))
      (record { one_reading = refl; claimed = refl; done = refl; contexts = tt; bodies = tt }, lt refl)
      (refl, tt) (stopped_by waiting_witness contexts.Hard 0 0 2 refl refl (refl, (refl, tt)) waiting_stopped)) tt))
      ) tt;
})

-- ---- a hard and a soft expiry run on one base, each of which fires its own timer

-- its witness
abbrev contexts_witness : Witness
contexts_witness = witness_by contexts_script contexts_record (0 ∷ 1 ∷ 0 ∷ 0 ∷ 1 ∷ 1 ∷ []) ((did 0 (Entered 0 1 (start modes.Abs 0 0) ∷ []) 0 1
    ∷ did 0 (Entered 1 1 (start modes.Abs 0 0) ∷ []) 1 2 ∷ ran 0 0 (fired 2 1 [] 3 false ∷ []) 2 4
    ∷ ran 0 0 (record (fired 2 1 [] 3 false) { timer = 1 } ∷ []) 4 6 ∷ []) ∷ [])

-- law: it fits
pub contexts_fit : Fits contexts_script contexts_record
unfolding after_entry changed
contexts_fit = fits_by contexts_witness (record {
  version = refl;
  passed = refl;
  writes = tt;
  all = (refl, (refl, tt));
  bases = (refl, tt);
  clock = refl;
  objects = (refl, (refl, tt));
  history = two (step refl (inr refl, inl (lt refl)) refl tt) (two (step refl (inr refl, inl (lt refl)) refl tt)
      (two (step refl (refl, refl, refl, refl, le refl) refl (refl, refl))
      (two (step refl refl refl tt) (two (step refl (refl, refl, refl, refl, le refl) refl (refl, refl)) (two (step refl refl refl tt) tt)))));
  object_histories = (refl, (refl, tt));
  placed = (refl, tt);
  calls = two (
      two (right refl refl refl (refl, (refl, tt)) (refl, (refl, tt)) (refl, (refl, tt))
      (armed_by 1 0, refl, refl, refl, refl, stays refl refl refl refl refl refl) (refl, tt) tt)
      (two (right refl refl refl (refl, (refl, tt)) (refl, (refl, tt)) (refl, (refl, tt))
      (armed_by 1 0, refl, refl, refl, refl, stays refl refl refl refl refl refl) (refl, tt) tt)
      (two (right refl refl refl (refl, (refl, tt)) (refl, (refl, tt)) (refl, (refl, tt))
      (record { one_reading = refl; claimed = refl; done = refl; contexts = (refl, tt); bodies = ((refl, refl), tt) }, lt refl)
      (refl, tt) (done_by contexts_witness contexts.Hard 0 0 4 refl refl (refl, (refl, tt)) (λ clock. (refl, (refl, tt)))))
      (two (right refl refl refl (refl, (refl, tt)) (refl, (refl, tt)) (refl, (refl, tt))
      (record { one_reading = refl; claimed = refl; done = refl; contexts = (refl, tt); bodies = ((refl, refl), tt) }, lt refl)
      (refl, tt) (done_by contexts_witness contexts.Soft 0 0 6 refl refl (refl, (refl, tt)) (λ clock. (refl, (refl, tt))))) tt)))
      ) tt;
})
