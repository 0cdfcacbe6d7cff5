-- Records that fit, of signals of queued timers: a witness for each, and what makes it fit.
use Rattle.std.proofs.Common.{◌≡◌, ◌+◌, ℕ, nat_le, nat_lt, true, false, [], ◌∷◌, None, refl, inl, inr}
use Rattle.ktime.specs.declared.write.Write.TheVariants as writes
use Rattle.ktime.specs.Times.{passed}
use Rattle.seq_timer.specs.declared.context.Context.TheVariants as contexts
use Rattle.seq_timer.specs.Systems.{after_entry, changed}
use Rattle.record_text.specs.declared.record.Armed.TheVariants as armings
use Rattle.record_text.specs.declared.record.AcceptReply.TheVariants as acceptances
use Rattle.record_text.specs.declared.record.ObjectEntry.TheVariants as object_entries
use Rattle.script_text.specs.declared.script.Kind.{Kind}
use Rattle.signal_queue.specs.declared.signal.Signal.{Signal}
use Rattle.run_history.specs.Actions.{Entered, Signalled, Wrote}
use Rattle.run_history.specs.Fits.{Fits}
use Rattle.run_history.specs.ObjectCalls.{MakesRearming}
use Rattle.run_history.specs.Signals.{SignalLine}
use Rattle.run_history.specs.Starts.{Sight}
use Rattle.run_history.specs.Witnesses.{CountersList, Fired, TimersList, Witness}
use Rattle.run_cases.specs.Fitting.{disarming_entry, filled_record, filled_script, signals_record, signals_script, spent_record, spent_script}
use Rattle.run_cases.specs.Lines.{accepted_entry, at, counted_entry, set_entry_of, set_start}
use Rattle.run_cases.proofs.Calls.{right}
use Rattle.run_cases.proofs.Small.{fits_by}
use Rattle.run_cases.proofs.Tests.{le, lt, point_passes}
use Rattle.run_cases.proofs.Witnesses.{begins, set_anew, armed_by, did, done_by, fired, ran, stays, step, three, turn_of, two, witness_queued}

-- the signal of a timer's second entry, and its line of a call of a lane
abbrev pub second_of : ℕ → Signal
second_of timer = record { timer = timer; number = 2 }

abbrev pub line_of : ℕ → ℕ → ℕ → SignalLine
line_of lane call timer = record { label = at lane call; signal = second_of timer }

-- the callback of a queued timer whose expiry counted, and which was the timer's second entry: its push, which raised this counter, has this number
abbrev pub counted_on : ℕ → ℕ → ℕ → Fired
counted_on pushes number timer =
    record (fired 2 1 (turn_of timer 1 (Signalled pushes number (second_of timer) ∷ []) (counted_entry 1 1)) 3 false) { timer = timer }

-- ---- two queued timers expire in one run, and the one whose signal waits first is set anew

-- its witness
abbrev signals_witness : Witness
signals_witness = witness_queued signals_script signals_record (line_of 0 3 1 ∷ line_of 0 3 0 ∷ []) (line_of 0 5 1 ∷ line_of 0 6 0 ∷ [])
    (CountersList 1 ∷ TimersList 0 ∷ CountersList 1 ∷ CountersList 2 ∷ TimersList 1 ∷ CountersList 2 ∷ CountersList 0
    ∷ TimersList 1 ∷ CountersList 2 ∷ CountersList 3 ∷ CountersList 2 ∷ TimersList 1
    ∷ TimersList 0 ∷ CountersList 1 ∷ CountersList 3 ∷ CountersList 1 ∷ TimersList 0
    ∷ CountersList 2 ∷ CountersList 2 ∷ CountersList 4 ∷ CountersList 4 ∷ CountersList 1 ∷ CountersList 1 ∷ [])
    ((did 0 (turn_of 0 0 (Entered 0 1 (set_start 200 0 false) ∷ []) (set_entry_of 200 0 1 0)) 0 3
    ∷ did 0 (turn_of 1 0 (Entered 1 1 (set_start 100 0 false) ∷ []) (set_entry_of 100 0 1 0)) 3 6
    ∷ did 0 (Wrote 1 (writes.Advance 200) ∷ []) 6 7
    ∷ ran 0 1 (counted_on 3 1 1 ∷ counted_on 3 2 0 ∷ []) 7 17
    ∷ did 1 (turn_of 1 2 [] disarming_entry) 17 19
    ∷ did 1 (Signalled 4 1 (second_of 1) ∷ []) 19 20
    ∷ did 1 (Signalled 4 2 (second_of 0) ∷ turn_of 0 2 [] (accepted_entry 1)) 20 23
    ∷ did 1 [] 23 23 ∷ []) ∷ [])

-- a wait that has taken a signal accepts it: its turn has begun behind so many entries at this moment
abbrev pub accepts : {sight : Sight} {limit timer reading : ℕ} {kind : Kind} (stamp begun : ℕ) → nat_le sight.first begun ≡ true
    → nat_lt (stamp + stamp) (sight.turns begun timer) ≡ true
    → MakesRearming sight limit kind timer reading (λ arm. object_entries.Accept reading arm (acceptances.Accepted 0))
    (turn_of timer stamp [] (accepted_entry reading))
accepts stamp begun from turn = record {
  arm = armings.None;
  ns = 0;
  start = [];
  stamp = stamp;
  timely = le refl;
  turn = record { begun = begun; from = le from; turn = lt turn };
  arms = refl;
  done = refl;
}

-- law: it fits
pub signals_fit : Fits signals_script signals_record
unfolding after_entry changed passed
signals_fit = fits_by signals_witness (record {
  version = refl;
  passed = refl;
  writes = (record { counted = lt refl; timely = le refl }, record { mono = refl; real = refl; boot = refl; changes = refl }, tt);
  all = (refl, (refl, tt));
  bases = (refl, tt);
  clock = refl;
  objects = (refl, (refl, tt));
  history = two tt (two (step refl (inr refl, inl (lt refl)) refl tt) (two tt (two tt (two (step refl (inr refl, inl (lt refl)) refl tt) (two tt (two tt (two
      (step refl (refl, refl, refl, refl, le refl) refl (refl, refl)) (two tt (two tt (two tt (two (step refl refl refl tt) (two (step refl (
        refl,
        refl,
        refl,
        refl,
        le refl,
      ) refl (refl, refl)) (two tt (two tt (two tt (two (step refl refl refl tt) (two tt (two tt (two tt (two tt (two tt (two tt
      tt))))))))))))))))))))));
  object_histories = (
    three (lt refl, refl, le refl, le refl, (λ e. absurd (cc), λ e. absurd (cc))) refl (three (lt refl) refl (three (lt refl, (λ e. refl, λ e. refl)) refl tt)),
    (
      three (lt refl, refl, le refl, le refl, (λ e. absurd (cc), λ e. absurd (cc))) refl
          (three (lt refl) refl (three (lt refl, refl, le refl, le refl, (λ e. refl, λ e. refl)) refl tt)),
      tt,
    ),
  );
  placed = (refl, tt);
  calls = two (
      two (right refl refl refl (refl, (refl, tt)) (refl, (refl, tt)) (refl, (refl, tt))
      (set_anew 0 1 refl (record { known = refl; good_value = lt refl; good_interval = lt refl })
      (armed_by 1 200, refl, refl, stays refl refl refl refl refl refl))
      (refl, ((refl, (refl, refl, λ e. refl)), tt))
      (1, le refl, le refl, point_passes _ _ _ _ _ refl, record { armed = refl; running = refl; moving = refl }))
      (two (right refl refl refl (refl, (refl, tt)) (refl, (refl, tt)) (refl, (refl, tt))
      (set_anew 0 1 refl (record { known = refl; good_value = lt refl; good_interval = lt refl })
      (armed_by 1 100, refl, refl, stays refl refl refl refl refl refl))
      (refl, ((refl, (refl, refl, λ e. refl)), tt))
      (4, le refl, le refl, point_passes _ _ _ _ _ refl, record { armed = refl; running = refl; moving = refl }))
      (two (right refl refl refl (refl, (refl, tt)) (refl, (refl, tt)) (refl, (refl, tt)) refl (refl, tt) tt)
      (two (right refl refl refl (refl, (refl, tt)) (refl, (refl, tt)) (refl, (refl, tt)) (
        record {
          one_reading = refl;
          claimed = refl;
          done = refl;
          contexts = (refl, (refl, tt));
          bodies = ((inr (inl (1, 1, refl)), refl), ((inr (inl (1, 2, refl)), refl), tt));
        },
        lt refl,
      ) (refl, (tt, (tt, tt))) (done_by signals_witness contexts.Hard 1 0 17 refl refl (refl, (refl, tt)) (λ clock. (refl, (refl, tt)))))
      (two (right refl refl refl (refl, (refl, tt)) (refl, (refl, tt)) (refl, (refl, tt)) (
        record { cancel = None; arm = armings.None; start = []; stamp = 2; turn = begins refl; arms = refl; done = refl },
        record { known = refl; good_value = lt refl; good_interval = lt refl },
      ) (refl, (tt, tt)) (18, le refl, le refl, point_passes _ _ _ _ _ refl, record { armed = refl; running = refl; moving = refl }))
      (two (right refl refl refl (refl, (refl, tt)) (refl, (refl, tt)) (refl, (refl, tt)) ((1, [], refl, refl), tt) (refl, tt)
      (record { stamp = 3; had = refl; sent = le refl; room = lt refl; stale = refl }))
      (two (right refl refl refl (refl, (refl, tt)) (refl, (refl, tt)) (refl, (refl, tt))
      ((2, _, refl, accepts 2 22 refl refl), tt) (refl, (tt, tt)) refl)
      (two (right refl refl refl (refl, (refl, tt)) (refl, (refl, tt)) (refl, (refl, tt)) refl (refl, tt) refl) tt)))))))
      ) tt;
})

-- ---- a queued timer's history is full when its signal is taken

-- its witness
abbrev spent_witness : Witness
spent_witness = witness_queued spent_script spent_record (line_of 0 2 0 ∷ []) (line_of 0 3 0 ∷ [])
    (CountersList 1 ∷ TimersList 0 ∷ CountersList 1 ∷ CountersList 0 ∷ TimersList 0 ∷ CountersList 1 ∷ CountersList 2 ∷ CountersList 1 ∷ TimersList 0
    ∷ CountersList 3 ∷ [])
    ((did 0 (turn_of 0 0 (Entered 0 1 (set_start 100 0 false) ∷ []) (set_entry_of 100 0 1 0)) 0 3
    ∷ did 0 (Wrote 1 (writes.Advance 100) ∷ []) 3 4
    ∷ ran 0 1 (counted_on 2 1 0 ∷ []) 4 9
    ∷ did 1 (Signalled 3 1 (second_of 0) ∷ []) 9 10 ∷ []) ∷ [])

-- law: it fits
pub spent_fits : Fits spent_script spent_record
unfolding after_entry changed passed
spent_fits = fits_by spent_witness (record {
  version = refl;
  passed = refl;
  writes = (record { counted = lt refl; timely = le refl }, record { mono = refl; real = refl; boot = refl; changes = refl }, tt);
  all = (refl, tt);
  bases = (refl, tt);
  clock = refl;
  objects = (refl, tt);
  history = two tt (two (step refl (inr refl, inl (lt refl)) refl tt) (two tt (two tt (two (step refl (refl, refl, refl, refl, le refl) refl (refl, refl))
      (two tt
      (two tt (two tt (two (step refl refl refl tt) (two tt tt)))))))));
  object_histories = two (three (lt refl, refl, le refl, le refl, (λ e. absurd (cc), λ e. absurd (cc))) refl (three (lt refl) refl tt)) tt;
  placed = (refl, tt);
  calls = two (
      two (right refl refl refl (refl, tt) (refl, tt) (refl, tt) (set_anew 0 1 refl (record { known = refl; good_value = lt refl; good_interval = lt refl })
      (armed_by 1 100, refl, refl, stays refl refl refl refl refl refl)) (refl, ((refl, (refl, refl, λ e. refl)), tt))
      (1, le refl, le refl, point_passes _ _ _ _ _ refl, record { armed = refl; running = refl; moving = refl }))
      (two (right refl refl refl (refl, tt) (refl, tt) (refl, tt) refl (refl, tt) tt)
      (two (right refl refl refl (refl, tt) (refl, tt) (refl, tt)
      (record { one_reading = refl; claimed = refl; done = refl; contexts = (refl, tt); bodies = ((inr (inl (1, 1, refl)), refl), tt) }, lt refl)
      (refl, (tt, tt)) (done_by spent_witness contexts.Hard 1 0 9 refl refl (refl, tt) (λ clock. (refl, tt))))
      (two (right refl refl refl (refl, tt) (refl, tt) (refl, tt) ((1, [], refl, refl), tt) (refl, tt) (2, (refl, le refl), le refl)) tt)))
      ) tt;
})

-- ---- a queued timer's history gets full as its signal goes stale

-- its witness
abbrev filled_witness : Witness
filled_witness = witness_queued filled_script filled_record (line_of 0 2 0 ∷ []) (line_of 1 0 0 ∷ [])
    (CountersList 1 ∷ TimersList 0 ∷ CountersList 1 ∷ CountersList 0 ∷ TimersList 0 ∷ CountersList 1 ∷ CountersList 2 ∷ CountersList 1 ∷ TimersList 0
    ∷ CountersList 1 ∷ CountersList 1 ∷ CountersList 3 ∷ [])
    ((did 0 (turn_of 0 0 (Entered 0 1 (set_start 100 0 false) ∷ []) (set_entry_of 100 0 1 0)) 0 3
    ∷ did 0 (Wrote 1 (writes.Advance 100) ∷ []) 3 4
    ∷ ran 0 1 (counted_on 2 1 0 ∷ []) 4 9
    ∷ did 1 (turn_of 0 2 [] disarming_entry) 9 11 ∷ [])
    ∷ (did 1 (Signalled 3 1 (second_of 0) ∷ []) 11 12 ∷ []) ∷ [])

-- law: it fits
pub filled_fits : Fits filled_script filled_record
unfolding after_entry changed passed
filled_fits = fits_by filled_witness (record {
  version = refl;
  passed = refl;
  writes = (record { counted = lt refl; timely = le refl }, record { mono = refl; real = refl; boot = refl; changes = refl }, tt);
  all = (refl, tt);
  bases = (refl, tt);
  clock = refl;
  objects = (refl, tt);
  history = two tt (two (step refl (inr refl, inl (lt refl)) refl tt) (two tt (two tt (two (step refl (refl, refl, refl, refl, le refl) refl (refl, refl))
      (two tt
      (two tt (two tt (two (step refl refl refl tt) (two tt (two tt (two tt tt)))))))))));
  object_histories = two (three (lt refl, refl, le refl, le refl, (λ e. absurd (cc), λ e. absurd (cc))) refl (three (lt refl) refl
      (three (lt refl, refl, le refl, le refl, (λ e. refl, λ e. refl)) refl tt))) tt;
  placed = (refl, (refl, tt));
  calls = two (
      two (right refl refl refl (refl, tt) (refl, tt) (refl, tt) (set_anew 0 1 refl (record { known = refl; good_value = lt refl; good_interval = lt refl })
      (armed_by 1 100, refl, refl, stays refl refl refl refl refl refl)) (refl, ((refl, (refl, refl, λ e. refl)), tt))
      (1, le refl, le refl, point_passes _ _ _ _ _ refl, record { armed = refl; running = refl; moving = refl }))
      (two (right refl refl refl (refl, tt) (refl, tt) (refl, tt) refl (refl, tt) tt)
      (two (right refl refl refl (refl, tt) (refl, tt) (refl, tt)
      (record { one_reading = refl; claimed = refl; done = refl; contexts = (refl, tt); bodies = ((inr (inl (1, 1, refl)), refl), tt) }, lt refl)
      (refl, (tt, tt)) (done_by filled_witness contexts.Hard 1 0 9 refl refl (refl, tt) (λ clock. (refl, tt))))
      (two (right refl refl refl (refl, tt) (refl, tt) (refl, tt) (
        record { cancel = None; arm = armings.None; start = []; stamp = 2; turn = begins refl; arms = refl; done = refl },
        record { known = refl; good_value = lt refl; good_interval = lt refl },
      ) (refl, (tt, tt)) (10, le refl, le refl, point_passes _ _ _ _ _ refl, record { armed = refl; running = refl; moving = refl })) tt)))
      ) (two (
      two (right refl refl refl (refl, tt) (refl, tt) (refl, tt) ((1, [], refl, refl), tt) (refl, tt) (3, (refl, le refl), le refl)) tt
      ) tt);
})
