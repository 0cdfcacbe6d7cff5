-- Records that fit, of signals that are sent and taken beside other lanes: a witness for each, and what makes it fit.
use Rattle.std.proofs.Common.{false, [], ◌∷◌, refl, inl, inr}
use Rattle.ktime.specs.declared.write.Write.TheVariants as writes
use Rattle.ktime.specs.Times.{passed}
use Rattle.seq_timer.specs.declared.context.Context.TheVariants as contexts
use Rattle.seq_timer.specs.Systems.{IsSystemHistory, after_entry, changed}
use Rattle.run_history.specs.Actions.{Entered, Signalled, Wrote}
use Rattle.run_history.specs.Fits.{Fits}
use Rattle.run_history.specs.Objects.{IsLegalObject}
use Rattle.run_history.specs.Witnesses.{CountersList, TimersList, Witness, entries_in}
use Rattle.script_text.specs.Declarations.{declareds_of, kind_of, terms_of}
use Rattle.run_cases.specs.BesideRuns.{early_wait_record, early_wait_script, set_again_record, set_again_script, two_runs_record, two_runs_script, two_waits_record, two_waits_script}
use Rattle.run_cases.specs.Lines.{accepted_entry, at, counted_entry, set_entry_of, set_start}
use Rattle.run_cases.proofs.Calls.{right}
use Rattle.run_cases.proofs.SignalsFitting.{accepts, counted_on, line_of, second_of}
use Rattle.run_cases.proofs.Small.{fits_by}
use Rattle.run_cases.proofs.Tests.{le, lt, point_passes}
use Rattle.run_cases.proofs.Witnesses.{Along, armed_by, did, done_by, fired, ran, set_anew, stays, step, three, turn_of, two, witness_queued}

-- ---- a lane looks at a queued timer before it expires, and then finds no signal

-- its witness
abbrev early_wait_witness : Witness
early_wait_witness = witness_queued early_wait_script early_wait_record (line_of 0 2 0 ∷ []) []
    (CountersList 1 ∷ TimersList 0 ∷ CountersList 1 ∷ CountersList 0 ∷ TimersList 0 ∷ CountersList 1 ∷ CountersList 2 ∷ CountersList 1 ∷ TimersList 0 ∷ [])
    ((did 0 (turn_of 0 0 (Entered 0 1 (set_start 100 0 false) ∷ []) (set_entry_of 100 0 1 0)) 0 3
    ∷ did 0 (Wrote 1 (writes.Advance 100) ∷ []) 3 4 ∷ ran 0 1 (counted_on 2 1 0 ∷ []) 4 9 ∷ [])
    ∷ (did 1 [] 4 4 ∷ did 1 [] 4 4 ∷ []) ∷ [])

-- law: it fits
pub early_wait_fits : Fits early_wait_script early_wait_record
unfolding after_entry changed passed
early_wait_fits = fits_by early_wait_witness (record {
  version = refl;
  passed = refl;
  writes = (record { counted = lt refl; timely = le refl }, record { mono = refl; real = refl; boot = refl; changes = refl }, tt);
  all = (refl, tt);
  bases = (refl, tt);
  clock = refl;
  objects = (refl, tt);
  history = two tt (two (step refl (inr refl, inl (lt refl)) refl tt) (two tt (two tt (two (step refl (refl, refl, refl, refl, le refl) refl (refl, refl))
      (two tt
      (two tt (two tt (two (step refl refl refl tt) tt))))))));
  object_histories = two (three (lt refl, refl, le refl, le refl, (λ e. absurd (cc), λ e. absurd (cc))) refl (three (lt refl) refl tt)) tt;
  placed = (refl, (refl, tt));
  calls = two (two (right refl refl refl (refl, tt) (refl, tt) (refl, tt)
      (set_anew 0 1 refl (record { known = refl; good_value = lt refl; good_interval = lt refl })
      (armed_by 1 100, refl, refl, stays refl refl refl refl refl refl)) (refl, ((refl, (refl, refl, λ e. refl)), tt))
      (1, le refl, le refl, point_passes _ _ _ _ _ refl, record { armed = refl; running = refl; moving = refl }))
      (two (right refl refl refl (refl, tt) (refl, tt) (refl, tt) refl (refl, tt) tt)
      (two (right refl refl refl (refl, tt) (refl, tt) (refl, tt)
      (record { one_reading = refl; claimed = refl; done = refl; contexts = (refl, tt); bodies = ((inr (inl (1, 1, refl)), refl), tt) }, lt refl)
      (refl, (tt, tt)) (done_by early_wait_witness contexts.Hard 1 0 9 refl refl (refl, tt) (λ clock. (refl, tt))))
      tt))) (two (two (right refl refl refl (refl, tt) (refl, tt) (refl, tt) refl (refl, tt) (refl, refl))
      (two (right refl refl refl (refl, tt) (refl, tt) (refl, tt) refl (refl, tt) refl)
      tt)) tt);
})

-- ---- the signals of two lanes' runs are taken in the order of the expiries

-- its witness
abbrev two_runs_witness : Witness
two_runs_witness = witness_queued two_runs_script two_runs_record (line_of 0 3 0 ∷ line_of 1 1 1 ∷ []) (line_of 0 4 0 ∷ line_of 0 5 1 ∷ [])
    (CountersList 1 ∷ TimersList 0 ∷ CountersList 1 ∷ CountersList 2 ∷ TimersList 1 ∷ CountersList 2 ∷ CountersList 0
    ∷ TimersList 0 ∷ CountersList 1 ∷ CountersList 3 ∷ CountersList 1 ∷ TimersList 0
    ∷ TimersList 1 ∷ CountersList 2 ∷ CountersList 3 ∷ CountersList 2 ∷ TimersList 1
    ∷ CountersList 4 ∷ CountersList 1 ∷ CountersList 1 ∷ CountersList 4 ∷ CountersList 2 ∷ CountersList 2 ∷ [])
    ((did 0 (turn_of 0 0 (Entered 0 1 (set_start 100 0 false) ∷ []) (set_entry_of 100 0 1 0)) 0 3
    ∷ did 0 (turn_of 1 0 (Entered 1 1 (set_start 100 0 false) ∷ []) (set_entry_of 100 0 1 0)) 3 6
    ∷ did 0 (Wrote 1 (writes.Advance 100) ∷ []) 6 7 ∷ ran 0 1 (counted_on 3 1 0 ∷ []) 7 12
    ∷ did 1 (Signalled 4 1 (second_of 0) ∷ turn_of 0 2 [] (accepted_entry 1)) 17 20
    ∷ did 1 (Signalled 4 2 (second_of 1) ∷ turn_of 1 2 [] (accepted_entry 1)) 20 23 ∷ [])
    ∷ (did 1 [] 12 12 ∷ ran 0 1 (counted_on 3 2 1 ∷ []) 12 17 ∷ []) ∷ [])

-- two queued timers are set, and expire in turn
two_expire : IsSystemHistory two_runs_script.bases (declareds_of two_runs_script) (terms_of two_runs_script) (entries_in two_runs_witness)
unfolding after_entry changed passed
two_expire = two tt (two (step refl (inr refl, inl (lt refl)) refl tt) (two tt (two tt (two (step refl (inr refl, inl (lt refl)) refl tt) (two tt (two tt (two
    (step refl (refl, refl, refl, refl, le refl) refl (refl, refl)) (two tt (two tt (two tt (two (step refl refl refl tt) (two (step refl (
      refl,
      refl,
      refl,
      refl,
      le refl,
    ) refl (refl, refl)) (two tt (two tt (two tt (two (step refl refl refl tt) (two tt (two tt (two tt (two tt (two tt (two tt
    tt))))))))))))))))))))))

-- and the signal of each is accepted
two_accept : Along (λ i. IsLegalObject two_runs_script two_runs_record i (kind_of two_runs_script i)) 0 two_runs_script.timers
unfolding after_entry changed passed
two_accept = two (three (lt refl, refl, le refl, le refl, (λ e. absurd (cc), λ e. absurd (cc))) refl
    (three (lt refl) refl (three (lt refl, (λ e. refl, λ e. refl)) refl tt)))
    (two (three (lt refl, refl, le refl, le refl, (λ e. absurd (cc), λ e. absurd (cc))) refl
    (three (lt refl) refl (three (lt refl, (λ e. refl, λ e. refl)) refl tt))) tt)

-- law: it fits
pub two_runs_fit : Fits two_runs_script two_runs_record
unfolding after_entry changed passed
two_runs_fit = fits_by two_runs_witness (record {
  version = refl;
  passed = refl;
  writes = (record { counted = lt refl; timely = le refl }, record { mono = refl; real = refl; boot = refl; changes = refl }, tt);
  all = (refl, (refl, tt));
  bases = (refl, tt);
  clock = refl;
  objects = (refl, (refl, tt));
  history = two_expire;
  object_histories = two_accept;
  placed = (refl, (refl, tt));
  calls = two (two (right refl refl refl (refl, (refl, tt)) (refl, (refl, tt)) (refl, (refl, tt))
      (set_anew 0 1 refl (record { known = refl; good_value = lt refl; good_interval = lt refl })
      (armed_by 1 100, refl, refl, stays refl refl refl refl refl refl)) (refl, ((refl, (refl, refl, λ e. refl)), tt))
      (1, le refl, le refl, point_passes _ _ _ _ _ refl, record { armed = refl; running = refl; moving = refl }))
      (two (right refl refl refl (refl, (refl, tt)) (refl, (refl, tt)) (refl, (refl, tt))
      (set_anew 0 1 refl (record { known = refl; good_value = lt refl; good_interval = lt refl })
      (armed_by 1 100, refl, refl, stays refl refl refl refl refl refl)) (refl, ((refl, (refl, refl, λ e. refl)), tt))
      (4, le refl, le refl, point_passes _ _ _ _ _ refl, record { armed = refl; running = refl; moving = refl }))
      (two (right refl refl refl (refl, (refl, tt)) (refl, (refl, tt)) (refl, (refl, tt)) refl (refl, tt) tt)
      (two (right refl refl refl (refl, (refl, tt)) (refl, (refl, tt)) (refl, (refl, tt))
      (record { one_reading = refl; claimed = refl; done = refl; contexts = (refl, tt); bodies = ((inr (inl (1, 1, refl)), refl), tt) }, refl)
      (refl, (tt, tt)) tt)
      (two (right refl refl refl (refl, (refl, tt)) (refl, (refl, tt)) (refl, (refl, tt))
      ((1, _, refl, accepts 2 19 refl refl), tt) (refl, (tt, tt)) refl)
      (two (right refl refl refl (refl, (refl, tt)) (refl, (refl, tt)) (refl, (refl, tt))
      ((2, _, refl, accepts 2 22 refl refl), tt) (refl, (tt, tt)) refl)
      tt)))))) (two (two (right refl refl refl (refl, (refl, tt)) (refl, (refl, tt)) (refl, (refl, tt)) refl (refl, tt) (refl, refl))
      (two (right refl refl refl (refl, (refl, tt)) (refl, (refl, tt)) (refl, (refl, tt))
      (record { one_reading = refl; claimed = refl; done = refl; contexts = (refl, tt); bodies = ((inr (inl (1, 2, refl)), refl), tt) }, lt refl)
      (refl, (tt, tt)) (done_by two_runs_witness contexts.Hard 1 0 17 refl refl (refl, (refl, tt)) (λ clock. (refl, (refl, tt)))))
      tt)) tt);
})

-- ---- two lanes take two signals

-- its witness
abbrev two_waits_witness : Witness
two_waits_witness = witness_queued two_waits_script two_waits_record (line_of 0 3 0 ∷ line_of 0 4 1 ∷ []) (line_of 0 6 0 ∷ line_of 1 0 1 ∷ [])
    (CountersList 1 ∷ TimersList 0 ∷ CountersList 1 ∷ CountersList 2 ∷ TimersList 1 ∷ CountersList 2 ∷ CountersList 0
    ∷ TimersList 0 ∷ CountersList 1 ∷ CountersList 3 ∷ CountersList 1 ∷ TimersList 0
    ∷ TimersList 1 ∷ CountersList 2 ∷ CountersList 3 ∷ CountersList 2 ∷ TimersList 1
    ∷ CountersList 4 ∷ CountersList 1 ∷ CountersList 1 ∷ CountersList 4 ∷ CountersList 2 ∷ CountersList 2 ∷ [])
    ((did 0 (turn_of 0 0 (Entered 0 1 (set_start 100 0 false) ∷ []) (set_entry_of 100 0 1 0)) 0 3
    ∷ did 0 (turn_of 1 0 (Entered 1 1 (set_start 100 0 false) ∷ []) (set_entry_of 100 0 1 0)) 3 6
    ∷ did 0 (Wrote 1 (writes.Advance 100) ∷ []) 6 7 ∷ ran 0 1 (counted_on 3 1 0 ∷ []) 7 12 ∷ ran 0 1 (counted_on 3 2 1 ∷ []) 12 17
    ∷ did 1 [] 17 17 ∷ did 1 (Signalled 4 1 (second_of 0) ∷ turn_of 0 2 [] (accepted_entry 1)) 17 20 ∷ [])
    ∷ (did 1 (Signalled 4 2 (second_of 1) ∷ turn_of 1 2 [] (accepted_entry 1)) 20 23 ∷ []) ∷ [])

-- law: it fits
pub two_waits_fit : Fits two_waits_script two_waits_record
unfolding after_entry changed passed
two_waits_fit = fits_by two_waits_witness (record {
  version = refl;
  passed = refl;
  writes = (record { counted = lt refl; timely = le refl }, record { mono = refl; real = refl; boot = refl; changes = refl }, tt);
  all = (refl, (refl, tt));
  bases = (refl, tt);
  clock = refl;
  objects = (refl, (refl, tt));
  history = two_expire;
  object_histories = two_accept;
  placed = (refl, (refl, tt));
  calls = two (two (right refl refl refl (refl, (refl, tt)) (refl, (refl, tt)) (refl, (refl, tt))
      (set_anew 0 1 refl (record { known = refl; good_value = lt refl; good_interval = lt refl })
      (armed_by 1 100, refl, refl, stays refl refl refl refl refl refl)) (refl, ((refl, (refl, refl, λ e. refl)), tt))
      (1, le refl, le refl, point_passes _ _ _ _ _ refl, record { armed = refl; running = refl; moving = refl }))
      (two (right refl refl refl (refl, (refl, tt)) (refl, (refl, tt)) (refl, (refl, tt))
      (set_anew 0 1 refl (record { known = refl; good_value = lt refl; good_interval = lt refl })
      (armed_by 1 100, refl, refl, stays refl refl refl refl refl refl)) (refl, ((refl, (refl, refl, λ e. refl)), tt))
      (4, le refl, le refl, point_passes _ _ _ _ _ refl, record { armed = refl; running = refl; moving = refl }))
      (two (right refl refl refl (refl, (refl, tt)) (refl, (refl, tt)) (refl, (refl, tt)) refl (refl, tt) tt)
      (two (right refl refl refl (refl, (refl, tt)) (refl, (refl, tt)) (refl, (refl, tt))
      (record { one_reading = refl; claimed = refl; done = refl; contexts = (refl, tt); bodies = ((inr (inl (1, 1, refl)), refl), tt) }, refl)
      (refl, (tt, tt)) tt)
      (two (right refl refl refl (refl, (refl, tt)) (refl, (refl, tt)) (refl, (refl, tt))
      (record { one_reading = refl; claimed = refl; done = refl; contexts = (refl, tt); bodies = ((inr (inl (1, 2, refl)), refl), tt) }, lt refl)
      (refl, (tt, tt)) (done_by two_waits_witness contexts.Hard 1 0 17 refl refl (refl, (refl, tt)) (λ clock. (refl, (refl, tt)))))
      (two (right refl refl refl (refl, (refl, tt)) (refl, (refl, tt)) (refl, (refl, tt)) refl (refl, tt) (refl, refl))
      (two (right refl refl refl (refl, (refl, tt)) (refl, (refl, tt)) (refl, (refl, tt))
      ((1, _, refl, accepts 2 19 refl refl), tt) (refl, (tt, tt)) refl)
      tt))))))) (two (two (right refl refl refl (refl, (refl, tt)) (refl, (refl, tt)) (refl, (refl, tt))
      ((2, _, refl, accepts 2 22 refl refl), tt) (refl, (tt, tt)) refl)
      tt) tt);
})

-- ---- both signals of a timer that is set again are taken

-- its witness
abbrev set_again_witness : Witness
set_again_witness = witness_queued set_again_script set_again_record
    (line_of 0 2 0 ∷ record { label = at 1 1; signal = record { timer = 0; number = 4 } } ∷ [])
    (line_of 0 3 0 ∷ record { label = at 0 4; signal = record { timer = 0; number = 4 } } ∷ [])
    (CountersList 1 ∷ TimersList 0 ∷ CountersList 1 ∷ CountersList 0 ∷ TimersList 0 ∷ CountersList 1 ∷ CountersList 2 ∷ CountersList 1 ∷ TimersList 0
    ∷ CountersList 1 ∷ TimersList 0 ∷ CountersList 1 ∷ TimersList 0 ∷ CountersList 1 ∷ CountersList 2 ∷ CountersList 1 ∷ TimersList 0
    ∷ CountersList 3 ∷ CountersList 3 ∷ CountersList 1 ∷ CountersList 1 ∷ [])
    ((did 0 (turn_of 0 0 (Entered 0 1 (set_start 100 0 false) ∷ []) (set_entry_of 100 0 1 0)) 0 3
    ∷ did 0 (Wrote 1 (writes.Advance 100) ∷ []) 3 4 ∷ ran 0 1 (counted_on 2 1 0 ∷ []) 4 9 ∷ did 1 (Signalled 3 1 (second_of 0) ∷ []) 17 18
    ∷ did 1 (Signalled 3 2 (record { timer = 0; number = 4 }) ∷ turn_of 0 4 [] (accepted_entry 1)) 18 21 ∷ [])
    ∷ (did 1 (turn_of 0 2 (Entered 0 4 (set_start 100 1 false) ∷ []) (set_entry_of 100 1 4 0)) 9 12
    ∷ ran 0 1 (fired 5 4 (turn_of 0 3 (Signalled 2 2 (record { timer = 0; number = 4 }) ∷ []) (counted_entry 4 1)) 6 false ∷ []) 12 17 ∷ []) ∷ [])

-- law: it fits
pub set_again_fits : Fits set_again_script set_again_record
unfolding after_entry changed passed
set_again_fits = fits_by set_again_witness (record {
  version = refl;
  passed = refl;
  writes = (record { counted = lt refl; timely = le refl }, record { mono = refl; real = refl; boot = refl; changes = refl }, tt);
  all = (refl, tt);
  bases = (refl, tt);
  clock = refl;
  objects = (refl, tt);
  history = two tt (two (step refl (inr refl, inl (lt refl)) refl tt) (two tt (two tt (two (step refl (refl, refl, refl, refl, le refl) refl (refl, refl))
      (two tt
      (two tt (two tt (two (step refl refl refl tt) (two tt (two (step refl (inr refl, inl (lt refl)) refl tt) (two tt (two (step refl (
        refl,
        refl,
        refl,
        refl,
        le refl,
      ) refl (refl, refl)) (two tt (two tt (two tt (two (step refl refl refl tt) (two tt (two tt (two tt (two tt tt))))))))))))))))))));
  object_histories = two (three (lt refl, refl, le refl, le refl, (λ e. absurd (cc), λ e. absurd (cc))) refl (three (lt refl) refl
      (three (lt refl, refl, le refl, le refl, (λ e. absurd (cc), λ e. absurd (cc))) refl (three (lt refl) refl (three (lt refl, (λ e. refl, λ e. refl)) refl tt))))) tt;
  placed = (refl, (refl, tt));
  calls = two (two (right refl refl refl (refl, tt) (refl, tt) (refl, tt)
      (set_anew 0 1 refl (record { known = refl; good_value = lt refl; good_interval = lt refl })
      (armed_by 1 100, refl, refl, stays refl refl refl refl refl refl)) (refl, ((refl, (refl, refl, λ e. refl)), tt))
      (1, le refl, le refl, point_passes _ _ _ _ _ refl, record { armed = refl; running = refl; moving = refl }))
      (two (right refl refl refl (refl, tt) (refl, tt) (refl, tt) refl (refl, tt) tt)
      (two (right refl refl refl (refl, tt) (refl, tt) (refl, tt)
      (record { one_reading = refl; claimed = refl; done = refl; contexts = (refl, tt); bodies = ((inr (inl (1, 1, refl)), refl), tt) }, lt refl)
      (refl, (tt, tt)) (done_by set_again_witness contexts.Hard 1 0 9 refl refl (refl, tt) (λ clock. (refl, tt))))
      (two (right refl refl refl (refl, tt) (refl, tt) (refl, tt) ((1, [], refl, refl), tt) (refl, tt)
      (record { stamp = 4; had = refl; sent = le refl; room = lt refl; stale = refl }))
      (two (right refl refl refl (refl, tt) (refl, tt) (refl, tt)
      ((2, _, refl, accepts 4 20 refl refl), tt) (refl, (tt, tt)) refl)
      tt))))) (two (two (right refl refl refl (refl, tt) (refl, tt) (refl, tt)
      (set_anew 2 4 refl (record { known = refl; good_value = lt refl; good_interval = lt refl })
      (armed_by 4 100, refl, refl, stays refl refl refl refl refl refl)) (refl, ((refl, (refl, refl, λ e. refl)), tt))
      (10, le refl, le refl, point_passes _ _ _ _ _ refl, record { armed = refl; running = refl; moving = refl }))
      (two (right refl refl refl (refl, tt) (refl, tt) (refl, tt)
      (record { one_reading = refl; claimed = refl; done = refl; contexts = (refl, tt); bodies = ((inr (inl (3, 2, refl)), refl), tt) }, lt refl)
      (refl, (tt, tt)) (done_by set_again_witness contexts.Hard 1 0 17 refl refl (refl, tt) (λ clock. (refl, tt))))
      tt)) tt);
})
