-- Records that fit, of two lanes beside each other that call and look at objects: a witness for each, and what makes it fit.
use Rattle.std.proofs.Common.{ℕ, true, false, List, [], ◌∷◌, None, Some, refl, inl, inr, nat_lt, ◌+◌, ◌≡◌}
use Rattle.ktime.specs.declared.write.Write.TheVariants as writes
use Rattle.ktime.specs.Times.{passed}
use Rattle.ktime.specs.declared.clock_id.ClockId.TheVariants as clocks
use Rattle.ktime.specs.declared.mode.Mode.TheVariants as modes
use Rattle.seq_timer.specs.declared.context.Context.TheVariants as contexts
use Rattle.seq_timer.specs.Systems.{after_entry, changed}
use Rattle.record_text.specs.declared.record.AcceptReply.TheVariants as acceptances
use Rattle.record_text.specs.declared.record.Armed.{Armed}
use Rattle.record_text.specs.declared.record.Armed.TheVariants as armings
use Rattle.record_text.specs.declared.record.ObjectEntry.TheVariants as object_entries
use Rattle.record_text.specs.declared.record.ObjectEntry.{ObjectEntry}
use Rattle.record_text.specs.declared.record.ReadReply.TheVariants as reads
use Rattle.record_text.specs.declared.record.SettimeReply.TheVariants as settings
use Rattle.script_text.specs.declared.script.Kind.{Kind}
use Rattle.record_text.specs.declared.record.Answer.{Answer}
use Rattle.record_text.specs.declared.record.Answer.TheVariants as answers
use Rattle.script_text.specs.declared.script.Call.TheVariants as calls
use Rattle.script_text.specs.declared.script.Kind.TheVariants as kinds
use Rattle.script_text.specs.declared.script.LaneCall.{LaneCall}
use Rattle.run_history.specs.Starts.{Sight}
use Rattle.run_history.specs.Actions.{Entered, Skipped, Wrote}
use Rattle.run_history.specs.Fits.{Fits}
use Rattle.run_history.specs.ObjectCalls.{AreValidFor, MakesAnew, MakesRearming}
use Rattle.run_history.specs.Witnesses.{CountersList, TimersList, Trace, Witness}
use Rattle.run_cases.specs.Fitting.{accepts_record, accepts_script, armed_record, armed_script, cancelable_entry, canceled_entry, canceled_record, canceled_script, disarmed_entry, nothing_accepted, real_start, seen_record, seen_script, set_record, set_script, skipped_record, skipped_script, two_expiries_record, two_expiries_script, unreadable_record, unreadable_script}
use Rattle.run_cases.specs.Lines.{at, by, case_object_line, case_script, line, object_record, set_entry_of, set_start, settime_to}
use Rattle.run_cases.proofs.Calls.{IsRight, right}
use Rattle.run_cases.proofs.Small.{fits_by}
use Rattle.run_cases.proofs.Tests.{le, lt, point_passes}
use Rattle.run_cases.proofs.Witnesses.{begins, set_anew, armed_by, did, done_by, fired, ran, stays, step, three, turn_of, two, witness_along}

-- ---- calls that make an entry of an object

-- one that starts no timer
none_armed : {sight : Sight} {limit timer reading : ℕ} {kind : Kind} {entry : Armed → ObjectEntry} (stamp : ℕ)
    → nat_lt (stamp + stamp) (sight.turns (sight.first + 1) timer) ≡ true
    → MakesRearming sight limit kind timer reading entry (turn_of timer stamp [] (entry armings.None))
none_armed stamp begun =
    record { arm = armings.None; ns = 0; start = []; stamp = stamp; timely = le refl; turn = begins begun; arms = refl; done = refl }

-- a settime that disarms an object, and was the first
disarmed : {sight : Sight} {limit timer : ℕ} → nat_lt 0 (sight.turns (sight.first + 1) timer) ≡ true
    → MakesAnew sight limit (kinds.Fd 0) timer (Some (record { mode = modes.Rel; ns = 0 })) 0 (λ arm. object_entries.Settime 0 0 0 0 arm (settings.Old 0 0))
    (turn_of timer 0 [] disarmed_entry)
    × AreValidFor (kinds.Fd 0) 0 (record { sec = 0; nsec = 0 }) (record { sec = 0; nsec = 0 })
disarmed begun = (
  record { cancel = None; arm = armings.None; start = []; stamp = 0; turn = begins begun; arms = refl; done = refl },
  record { known = refl; good_value = lt refl; good_interval = lt refl },
)

-- ---- a lane looks at a timer, and then whether its descriptor is readable, beside another lane's expiry run

-- its witness
abbrev unreadable_witness : Witness
unreadable_witness = witness_along unreadable_script unreadable_record
    (CountersList 0 ∷ CountersList 1 ∷ TimersList 0 ∷ CountersList 1 ∷ TimersList 0 ∷ CountersList 1 ∷ CountersList 1 ∷ TimersList 0 ∷ [])
    ((did 0 (Wrote 1 (writes.Advance 10) ∷ []) 0 1 ∷ did 1 (turn_of 0 0 (Entered 0 1 (set_start 5 1 false) ∷ []) (set_entry_of 5 1 1 0)) 1 4
    ∷ ran 0 1 (fired 2 1 (turn_of 0 1 [] (object_entries.Trigger 1 1 true)) 3 false ∷ []) 4 8 ∷ []) ∷ (did 1 [] 4 4 ∷ did 1 [] 4 4 ∷ []) ∷ [])

-- law: it fits
pub unreadable_fits : Fits unreadable_script unreadable_record
unfolding after_entry changed passed
unreadable_fits = fits_by unreadable_witness (record {
  version = refl;
  passed = refl;
  writes = (record { counted = lt refl; timely = le refl }, record { mono = refl; real = refl; boot = refl; changes = refl }, tt);
  all = (refl, tt);
  bases = (refl, tt);
  clock = refl;
  objects = (refl, tt);
  history = two tt (two tt (two (step refl (inr refl, inl (lt refl)) refl tt) (two tt
      (two (step refl (refl, refl, refl, refl, le refl) refl (refl, refl)) (two tt (two tt (two (step refl refl refl tt) tt)))))));
  object_histories = two (three (lt refl, refl, le refl, le refl, (λ e. absurd (cc), λ e. absurd (cc))) refl
      (three (lt refl) refl tt)) tt;
  placed = (refl, (refl, tt));
  calls = two (
      two (right refl refl refl (refl, tt) (refl, tt) (refl, tt) refl (refl, tt) tt)
      (two (right refl refl refl (refl, tt) (refl, tt) (refl, tt) (set_anew 0 1 refl (record { known = refl; good_value = lt refl; good_interval = lt refl })
      (armed_by 1 5, refl, refl, stays refl refl refl refl refl refl)) (refl, ((refl, (refl, refl, λ e. refl)), tt))
      (2, le refl, le refl, point_passes _ _ _ _ _ refl, record { armed = refl; running = refl; moving = refl }))
      (two (right refl refl refl (refl, tt) (refl, tt) (refl, tt)
      (record { one_reading = refl; claimed = refl; done = refl; contexts = (refl, tt); bodies = ((inl (1, true, refl), refl), tt) }, lt refl)
      (refl, (tt, tt)) (done_by unreadable_witness contexts.Hard 1 0 8 refl refl (refl, tt) (λ clock. (refl, tt)))) tt))
      ) (two (
      two (right refl refl refl (refl, tt) (refl, tt) (refl, tt) refl (refl, tt) (record { stamp = refl; holds = refl }))
      (two (right refl refl refl (refl, tt) (refl, tt) (refl, tt) (refl, refl) (refl, tt) (refl, refl)) tt)
      ) tt);
})

-- ---- of two lanes each disarms a descriptor, and looks whether the other is readable

-- its witness
abbrev seen_witness : Witness
seen_witness = witness_along seen_script seen_record (CountersList 1 ∷ CountersList 1 ∷ CountersList 2 ∷ CountersList 2 ∷ [])
    ((did 0 (turn_of 0 0 [] disarmed_entry) 0 2 ∷ did 0 [] 2 2 ∷ []) ∷ (did 0 (turn_of 1 0 [] disarmed_entry) 2 4 ∷ did 0 [] 4 4 ∷ []) ∷ [])

-- law: it fits
pub seen_fits : Fits seen_script seen_record
unfolding after_entry changed passed
seen_fits = fits_by seen_witness (record {
  version = refl;
  passed = refl;
  writes = tt;
  all = (refl, (refl, tt));
  bases = (refl, tt);
  clock = refl;
  objects = (refl, (refl, tt));
  history = two tt (two tt (two tt (two tt tt)));
  object_histories = two (three (lt refl, refl, le refl, le refl, (λ e. refl, λ e. refl)) refl tt)
      (two (three (lt refl, refl, le refl, le refl, (λ e. refl, λ e. refl)) refl tt) tt);
  placed = (refl, (refl, tt));
  calls = two (
      two (right refl refl refl (refl, (refl, tt)) (refl, (refl, tt)) (refl, (refl, tt)) (disarmed refl)
      (refl, (tt, tt)) (1, le refl, le refl, point_passes _ _ _ _ _ refl, record { armed = refl; running = refl; moving = refl }))
      (two (right refl refl refl (refl, (refl, tt)) (refl, (refl, tt)) (refl, (refl, tt)) (refl, refl) (refl, tt) (refl, refl)) tt)
      ) (two (
      two (right refl refl refl (refl, (refl, tt)) (refl, (refl, tt)) (refl, (refl, tt)) (disarmed refl)
      (refl, (tt, tt)) (3, le refl, le refl, point_passes _ _ _ _ _ refl, record { armed = refl; running = refl; moving = refl }))
      (two (right refl refl refl (refl, (refl, tt)) (refl, (refl, tt)) (refl, (refl, tt)) (refl, refl) (refl, tt) (refl, refl)) tt)
      ) tt);
})

-- ---- two lanes accept signals of two POSIX timers, and there is none

-- its witness
abbrev accepts_witness : Witness
accepts_witness = witness_along accepts_script accepts_record
    (CountersList 1 ∷ CountersList 1 ∷ CountersList 2 ∷ CountersList 2 ∷ CountersList 2 ∷ CountersList 2 ∷ CountersList 1 ∷ CountersList 1 ∷ [])
    ((did 0 (turn_of 0 0 [] nothing_accepted) 0 2 ∷ did 0 (turn_of 1 0 [] nothing_accepted) 2 4 ∷ [])
    ∷ (did 0 (turn_of 1 1 [] nothing_accepted) 4 6 ∷ did 0 (turn_of 0 1 [] nothing_accepted) 6 8 ∷ []) ∷ [])

-- law: it fits
pub accepts_fit : Fits accepts_script accepts_record
unfolding after_entry changed passed
accepts_fit = fits_by accepts_witness (record {
  version = refl;
  passed = refl;
  writes = tt;
  all = (refl, (refl, tt));
  bases = (refl, tt);
  clock = refl;
  objects = (refl, (refl, tt));
  history = two tt (two tt (two tt (two tt (two tt (two tt (two tt (two tt tt)))))));
  object_histories = two (three (lt refl, (λ e. refl, λ e. refl)) refl (three (lt refl, (λ e. refl, λ e. refl)) refl tt))
      (two (three (lt refl, (λ e. refl, λ e. refl)) refl (three (lt refl, (λ e. refl, λ e. refl)) refl tt)) tt);
  placed = (refl, (refl, tt));
  calls = two (
      two (right refl refl refl (refl, (refl, tt)) (refl, (refl, tt)) (refl, (refl, tt))
      (none_armed 0 refl) (refl, (tt, tt)) tt)
      (two (right refl refl refl (refl, (refl, tt)) (refl, (refl, tt)) (refl, (refl, tt))
      (none_armed 0 refl) (refl, (tt, tt)) tt) tt)
      ) (two (
      two (right refl refl refl (refl, (refl, tt)) (refl, (refl, tt)) (refl, (refl, tt))
      (none_armed 1 refl) (refl, (tt, tt)) tt)
      (two (right refl refl refl (refl, (refl, tt)) (refl, (refl, tt)) (refl, (refl, tt))
      (none_armed 1 refl) (refl, (tt, tt)) tt) tt)
      ) tt);
})

-- ---- a lane looks at a timer and then accepts, which makes its object full, beside another lane's expiry run, whose expiry is skipped

-- its witness
abbrev skipped_witness : Witness
skipped_witness = witness_along skipped_script skipped_record
    (CountersList 0 ∷ CountersList 1 ∷ TimersList 0 ∷ CountersList 1 ∷ CountersList 1 ∷ CountersList 1 ∷ TimersList 0 ∷ TimersList 0 ∷ [])
    ((did 0 (Wrote 1 (writes.Advance 10) ∷ []) 0 1 ∷ did 1 (turn_of 0 0 (Entered 0 1 (set_start 5 1 false) ∷ []) (set_entry_of 5 1 1 0)) 1 4
    ∷ ran 0 1 (fired 2 1 (Skipped 0 2 1 ∷ []) 3 false ∷ []) 6 8 ∷ [])
    ∷ (did 1 [] 4 4 ∷ did 1 (turn_of 0 1 [] (object_entries.Accept 1 armings.None acceptances.NoSignal)) 4 6 ∷ []) ∷ [])

-- law: it fits
pub skipped_fits : Fits skipped_script skipped_record
unfolding after_entry changed passed
skipped_fits = fits_by skipped_witness (record {
  version = refl;
  passed = refl;
  writes = (record { counted = lt refl; timely = le refl }, record { mono = refl; real = refl; boot = refl; changes = refl }, tt);
  all = (refl, tt);
  bases = (refl, tt);
  clock = refl;
  objects = (refl, tt);
  history = two tt (two tt (two (step refl (inr refl, inl (lt refl)) refl tt) (two tt (two tt (two tt
      (two (step refl (refl, refl, refl, refl, le refl) refl (refl, refl)) (two (step refl refl refl tt) tt)))))));
  object_histories = two (three (lt refl, refl, le refl, le refl, (λ e. absurd (cc), λ e. absurd (cc))) refl
      (three (lt refl, (λ e. refl, λ e. refl)) refl tt)) tt;
  placed = (refl, (refl, tt));
  calls = two (
      two (right refl refl refl (refl, tt) (refl, tt) (refl, tt) refl (refl, tt) tt)
      (two (right refl refl refl (refl, tt) (refl, tt) (refl, tt) (set_anew 0 1 refl (record { known = refl; good_value = lt refl; good_interval = lt refl })
      (armed_by 1 5, refl, refl, stays refl refl refl refl refl refl)) (refl, ((refl, (refl, refl, λ e. refl)), tt))
      (2, le refl, le refl, point_passes _ _ _ _ _ refl, record { armed = refl; running = refl; moving = refl }))
      (two (right refl refl refl (refl, tt) (refl, tt) (refl, tt)
      (record { one_reading = refl; claimed = refl; done = refl; contexts = (refl, tt); bodies = ((inr (2, refl), refl), tt) }, lt refl)
      (refl, ((refl, le refl), tt)) (done_by skipped_witness contexts.Hard 1 0 8 refl refl (refl, tt) (λ clock. (refl, tt)))) tt))
      ) (two (
      two (right refl refl refl (refl, tt) (refl, tt) (refl, tt) refl (refl, tt) (record { stamp = refl; holds = refl }))
      (two (right refl refl refl (refl, tt) (refl, tt) (refl, tt)
      (none_armed 1 refl) (refl, (tt, tt)) tt) tt)
      ) tt);
})

-- ---- a lane looks at a timer and reads its descriptor, beside another lane that sets the descriptor twice, each time with an expiry

-- its witness
abbrev two_expiries_witness : Witness
two_expiries_witness = witness_along two_expiries_script two_expiries_record
    (CountersList 0 ∷ CountersList 1 ∷ TimersList 0 ∷ CountersList 1 ∷ TimersList 0 ∷ CountersList 1 ∷ CountersList 1 ∷ TimersList 0
    ∷ CountersList 1 ∷ TimersList 0 ∷ CountersList 1 ∷ TimersList 0 ∷ CountersList 1 ∷ CountersList 1 ∷ CountersList 1 ∷ CountersList 1 ∷ TimersList 0 ∷ [])
    ((did 0 (Wrote 1 (writes.Advance 10) ∷ []) 0 1 ∷ did 1 (turn_of 0 0 (Entered 0 1 (set_start 5 1 false) ∷ []) (set_entry_of 5 1 1 0)) 1 4
    ∷ ran 0 1 (fired 2 1 (turn_of 0 1 [] (object_entries.Trigger 1 1 true)) 3 false ∷ []) 4 8
    ∷ did 1 (turn_of 0 2 (Entered 0 4 (set_start 6 1 false) ∷ []) (set_entry_of 6 1 4 0)) 8 11
    ∷ ran 0 1 (fired 5 4 (turn_of 0 4 [] (object_entries.Trigger 4 1 true)) 6 false ∷ []) 11 17 ∷ [])
    ∷ (did 1 [] 12 12 ∷ did 1 (turn_of 0 3 [] (object_entries.Read 1 armings.None reads.Again)) 12 14 ∷ []) ∷ [])

-- law: it fits
pub two_expiries_fit : Fits two_expiries_script two_expiries_record
unfolding after_entry changed passed
two_expiries_fit = fits_by two_expiries_witness (record {
  version = refl;
  passed = refl;
  writes = (record { counted = lt refl; timely = le refl }, record { mono = refl; real = refl; boot = refl; changes = refl }, tt);
  all = (refl, tt);
  bases = (refl, tt);
  clock = refl;
  objects = (refl, tt);
  history = two tt (two tt (two (step refl (inr refl, inl (lt refl)) refl tt) (two tt
      (two (step refl (refl, refl, refl, refl, le refl) refl (refl, refl)) (two tt (two tt (two (step refl refl refl tt)
      (two tt (two (step refl (inr refl, inl (lt refl)) refl tt) (two tt
      (two (step refl (refl, refl, refl, refl, le refl) refl (refl, refl)) (two tt (two tt (two tt (two tt (two (step refl refl refl tt) tt))))))))))))))));
  object_histories = two (three (lt refl, refl, le refl, le refl, (λ e. absurd (cc), λ e. absurd (cc))) refl (three (lt refl) refl
      (three (lt refl, refl, le refl, le refl, (λ e. absurd (cc), λ e. absurd (cc))) refl
      (three (lt refl, (λ e. refl, λ e. refl)) refl (three (lt refl) refl tt))))) tt;
  placed = (refl, (refl, tt));
  calls = two (
      two (right refl refl refl (refl, tt) (refl, tt) (refl, tt) refl (refl, tt) tt)
      (two (right refl refl refl (refl, tt) (refl, tt) (refl, tt) (set_anew 0 1 refl (record { known = refl; good_value = lt refl; good_interval = lt refl })
      (armed_by 1 5, refl, refl, stays refl refl refl refl refl refl)) (refl, ((refl, (refl, refl, λ e. refl)), tt))
      (2, le refl, le refl, point_passes _ _ _ _ _ refl, record { armed = refl; running = refl; moving = refl }))
      (two (right refl refl refl (refl, tt) (refl, tt) (refl, tt)
      (record { one_reading = refl; claimed = refl; done = refl; contexts = (refl, tt); bodies = ((inl (1, true, refl), refl), tt) }, lt refl)
      (refl, (tt, tt)) (done_by two_expiries_witness contexts.Hard 1 0 8 refl refl (refl, tt) (λ clock. (refl, tt))))
      (two (right refl refl refl (refl, tt) (refl, tt) (refl, tt) (set_anew 2 4 refl (record { known = refl; good_value = lt refl; good_interval = lt refl })
      (armed_by 4 6, refl, refl, stays refl refl refl refl refl refl)) (refl, ((refl, (refl, refl, λ e. refl)), tt))
      (9, le refl, le refl, point_passes _ _ _ _ _ refl, record { armed = refl; running = refl; moving = refl }))
      (two (right refl refl refl (refl, tt) (refl, tt) (refl, tt)
      (record { one_reading = refl; claimed = refl; done = refl; contexts = (refl, tt); bodies = ((inl (4, true, refl), refl), tt) }, lt refl)
      (refl, (tt, tt)) (done_by two_expiries_witness contexts.Hard 1 0 17 refl refl (refl, tt) (λ clock. (refl, tt)))) tt))))
      ) (two (
      two (right refl refl refl (refl, tt) (refl, tt) (refl, tt) refl (refl, tt) (record { stamp = refl; holds = refl }))
      (two (right refl refl refl (refl, tt) (refl, tt) (refl, tt) (none_armed 3 refl, le refl) (refl, (tt, tt)) tt) tt)
      ) tt);
})

-- ---- a lane looks at a descriptor and then sets the clock, which cancels another lane's read

-- its witness
abbrev canceled_witness : Witness
canceled_witness = witness_along canceled_script canceled_record
    (CountersList 1 ∷ TimersList 0 ∷ CountersList 1 ∷ CountersList 0 ∷ CountersList 1 ∷ CountersList 1 ∷ [])
    ((did 0 (turn_of 0 0 (Entered 0 1 real_start ∷ []) cancelable_entry) 0 3 ∷ did 1 (turn_of 0 1 [] canceled_entry) 4 6 ∷ [])
    ∷ (did 0 [] 3 3 ∷ did 0 (Wrote 1 (writes.Set 100) ∷ []) 3 4 ∷ []) ∷ [])

-- law: it fits
pub canceled_fits : Fits canceled_script canceled_record
unfolding after_entry changed passed
canceled_fits = fits_by canceled_witness (record {
  version = refl;
  passed = refl;
  writes = (record { counted = lt refl; timely = le refl }, record { mono = refl; real = refl; boot = refl; changes = refl }, tt);
  all = (refl, tt);
  bases = (refl, tt);
  clock = refl;
  objects = (refl, tt);
  history = two tt (two (step refl (inr refl, inl (lt refl)) refl tt) (two tt (two tt (two tt (two tt tt)))));
  object_histories = two (three (lt refl, refl, le refl, le refl, (λ e. absurd (cc), λ e. absurd (cc))) refl
      (three (lt refl, (λ e. refl, λ e. refl)) refl tt)) tt;
  placed = (refl, (refl, tt));
  calls = two (
      two (right refl refl refl (refl, tt) (refl, tt) (refl, tt) (set_anew 0 1 refl (record { known = refl; good_value = lt refl; good_interval = lt refl })
      (record (armed_by 1 50) { placement = record { base = 0; clock = clocks.Realtime; soft = 50; expires = 50 } }, refl, refl, stays refl refl refl refl refl refl)) (refl, ((refl, (refl, refl, λ e. refl)), tt))
      (1, le refl, le refl, point_passes _ _ _ _ _ refl, record { armed = refl; running = refl; moving = refl }))
      (two (right refl refl refl (refl, tt) (refl, tt) (refl, tt)
      (none_armed 1 refl, le refl) (refl, (tt, tt)) tt) tt)
      ) (two (
      two (right refl refl refl (refl, tt) (refl, tt) (refl, tt) (refl, refl) (refl, tt) (refl, refl))
      (two (right refl refl refl (refl, tt) (refl, tt) (refl, tt) refl (refl, tt) tt) tt)
      ) tt);
})

-- ---- a lane sets a POSIX timer, and another one looks

-- the witness, by the looks, what they were told, and when they were
abbrev set_beside : List LaneCall → List Answer → List Trace → Witness
set_beside looks told times = witness_along (case_script 1 2 (kinds.Posix 0 ∷ []) ((by 0 (settime_to 50) ∷ looks) ∷ []))
    (object_record [] ((line 0 0 (set_start 50 0 false) ∷ []) ∷ []) ((case_object_line 0 0 (set_entry_of 50 0 1 0) ∷ []) ∷ [])
    ((answers.Old 0 0 ∷ []) ∷ told ∷ [])) (CountersList 1 ∷ TimersList 0 ∷ CountersList 1 ∷ [])
    ((did 0 (turn_of 0 0 (Entered 0 1 (set_start 50 0 false) ∷ []) (set_entry_of 50 0 1 0)) 0 3 ∷ []) ∷ times ∷ [])

-- the settime is right, whatever the looks
set_right : (looks : List LaneCall) (told : List Answer) (times : List Trace) → IsRight (set_beside looks told times) (at 0 0) (settime_to 50) (answers.Old 0 0)
unfolding after_entry changed passed
set_right looks told times =
    right refl refl refl (refl, tt) (refl, tt) (refl, tt) (set_anew 0 1 refl (record { known = refl; good_value = lt refl; good_interval = lt refl })
    (armed_by 1 50, refl, refl, stays refl refl refl refl refl refl)) (refl, ((refl, (refl, refl, λ e. refl)), tt))
    (1, le refl, le refl, point_passes _ _ _ _ _ refl, record { armed = refl; running = refl; moving = refl })

-- ---- a lane looks how an object is set, and then at its timer, beside another lane's settime

-- its witness
abbrev armed_witness : Witness
armed_witness = set_beside (by 1 (calls.Gettime 0) ∷ by 1 (calls.Peek 0) ∷ []) (answers.LeftAt 50 0 0 1 ∷ answers.Peek 1 0 true false false ∷ [])
    (did 0 [] 3 3 ∷ did 0 [] 3 3 ∷ [])

-- law: it fits
pub armed_fits : Fits armed_script armed_record
unfolding after_entry changed passed
armed_fits = fits_by armed_witness (record {
  version = refl;
  passed = refl;
  writes = tt;
  all = (refl, tt);
  bases = (refl, tt);
  clock = refl;
  objects = (refl, tt);
  history = two tt (two (step refl (inr refl, inl (lt refl)) refl tt) (two tt tt));
  object_histories = two (three (lt refl, refl, le refl, le refl, (λ e. absurd (cc), λ e. absurd (cc))) refl tt) tt;
  placed = (refl, (refl, tt));
  calls = two (
      two (set_right _ _ _) tt
      ) (two (
      two (right refl refl refl (refl, tt) (refl, tt) (refl, tt) (refl, (tt, refl)) (refl, tt) (refl, refl))
      (two (right refl refl refl (refl, tt) (refl, tt) (refl, tt) refl (refl, tt) (record { stamp = refl; holds = refl })) tt)
      ) tt);
})

-- ---- a lane looks at a timer, and then how its object is set, beside another lane's settime

-- its witness
abbrev set_witness : Witness
set_witness = set_beside (by 1 (calls.Peek 0) ∷ by 1 (calls.Gettime 0) ∷ []) (answers.Peek 1 0 true false false ∷ answers.LeftAt 50 0 0 1 ∷ [])
    (did 0 [] 3 3 ∷ did 0 [] 3 3 ∷ [])

-- law: it fits
pub set_fits : Fits set_script set_record
unfolding after_entry changed passed
set_fits = fits_by set_witness (record {
  version = refl;
  passed = refl;
  writes = tt;
  all = (refl, tt);
  bases = (refl, tt);
  clock = refl;
  objects = (refl, tt);
  history = two tt (two (step refl (inr refl, inl (lt refl)) refl tt) (two tt tt));
  object_histories = two (three (lt refl, refl, le refl, le refl, (λ e. absurd (cc), λ e. absurd (cc))) refl tt) tt;
  placed = (refl, (refl, tt));
  calls = two (
      two (set_right _ _ _) tt
      ) (two (
      two (right refl refl refl (refl, tt) (refl, tt) (refl, tt) refl (refl, tt) (record { stamp = refl; holds = refl }))
      (two (right refl refl refl (refl, tt) (refl, tt) (refl, tt) (refl, (tt, refl)) (refl, tt) (refl, refl)) tt)
      ) tt);
})
