-- Records of sleepers: a witness for each that fits, and what is wrong with the others.
use Rattle.std.proofs.Common.{◌≡◌, ℕ, true, false, None, Some, [], ◌∷◌, refl, inl, inr, nat_lt, ◌+◌}
use Rattle.ktime.specs.declared.write.Write.TheVariants as writes
use Rattle.ktime.specs.Times.{passed}
use Rattle.ktime.specs.declared.mode.Mode.TheVariants as modes
use Rattle.seq_timer.specs.declared.context.Context.TheVariants as contexts
use Rattle.seq_timer.specs.Systems.{after_entry, changed}
use Rattle.record_text.specs.declared.record.Armed.TheVariants as armings
use Rattle.record_text.specs.declared.record.InterruptReply.{InterruptReply}
use Rattle.record_text.specs.declared.record.InterruptReply.TheVariants as ended
use Rattle.record_text.specs.declared.record.ObjectEntry.TheVariants as object_entries
use Rattle.record_text.specs.declared.record.SleepReply.TheVariants as sleeps
use Rattle.script_text.specs.declared.script.Kind.TheVariants as kinds
use Rattle.timer_setting.specs.declared.answers.InterruptAnswer.TheVariants as interrupts
use Rattle.timer_setting.specs.declared.object_call.ObjectReply.TheVariants as replies
use Rattle.sleeper.specs.declared.answers.SleptAnswer.TheVariants as looks
use Rattle.run_history.specs.Starts.{Sight}
use Rattle.run_history.specs.Actions.{Entered, Wrote}
use Rattle.run_history.specs.Fits.{Fits}
use Rattle.run_history.specs.ObjectCalls.{MakesAnew}
use Rattle.run_history.specs.Witnesses.{CountersList, TimersList, Witness}
use Rattle.run_cases.specs.Fitting.{asleep_entry, interrupted_record, interrupted_script, second_start, woken_record, woken_script}
use Rattle.run_cases.specs.Lines.{cancel_entry, start}
use Rattle.run_cases.specs.Wrong.{early_sleep_record, early_sleep_script, time_left_record}
use Rattle.run_cases.proofs.Calls.{right}
use Rattle.run_cases.proofs.Small.{fits_by}
use Rattle.run_cases.proofs.Tests.{le, lt, point_passes}
use Rattle.run_cases.proofs.Witnesses.{begins, armed_anew, armed_by, did, done_by, fired, ran, stays, step, three, turn_of, two, witness_along}

-- ---- calls on a sleeper that start no timer

-- an interrupt, which cancelled this, if anything
interrupts_by : {sight : Sight} {limit reading : ℕ} (stamp number generation : ℕ) → nat_lt (stamp + stamp) (sight.turns (sight.first + 1) 0) ≡ true
    → (reply : InterruptReply) → MakesAnew sight limit (kinds.Sleeper 0) 0 None reading (λ arm. object_entries.Interrupt reading reply)
    (turn_of 0 stamp (Entered 0 number (cancel_entry generation) ∷ []) (object_entries.Interrupt reading reply))
interrupts_by stamp number generation begun reply =
    record { cancel = Some (number, generation); arm = armings.None; start = []; stamp = stamp; turn = begins begun; arms = (refl, refl); done = refl }

-- ---- a sleep's time comes, which is looked at, and told by an interrupt

-- its witness
abbrev woken_witness : Witness
woken_witness = witness_along woken_script woken_record
    (CountersList 1 ∷ TimersList 0 ∷ CountersList 1 ∷ CountersList 0 ∷ TimersList 0 ∷ CountersList 1 ∷ CountersList 1 ∷ TimersList 0
    ∷ CountersList 1 ∷ CountersList 1 ∷ [])
    ((did 0 (turn_of 0 0 (Entered 0 1 (start modes.Rel 10 10) ∷ []) asleep_entry) 0 3 ∷ did 0 (Wrote 1 (writes.Advance 10) ∷ []) 3 4
    ∷ ran 0 1 (fired 2 1 (turn_of 0 1 [] (object_entries.Trigger 1 1 true)) 3 false ∷ []) 4 8 ∷ did 1 [] 8 8
    ∷ did 1 (turn_of 0 2 [] (object_entries.Interrupt 1 ended.Slept)) 8 10 ∷ []) ∷ [])

-- law: it fits
pub woken_fits : Fits woken_script woken_record
unfolding after_entry changed passed
woken_fits = fits_by woken_witness (record {
  version = refl;
  passed = refl;
  writes = (record { counted = lt refl; timely = le refl }, record { mono = refl; real = refl; boot = refl; changes = refl }, tt);
  all = (refl, tt);
  bases = (refl, tt);
  clock = refl;
  objects = (refl, tt);
  history = two tt (two (step refl (inr refl, inl (lt refl)) refl tt) (two tt (two tt
      (two (step refl (refl, refl, refl, refl, le refl) refl (refl, refl)) (two tt (two tt (two (step refl refl refl tt) (two tt (two tt tt)))))))));
  object_histories = two (three (lt refl, refl, le refl, refl, (λ e. absurd (cc), λ e. absurd (cc))) refl
      (three (lt refl) refl (three (lt refl, refl) refl tt))) tt;
  placed = (refl, tt);
  calls = two (
      two (right refl refl refl (refl, tt) (refl, tt) (refl, tt) (
        armed_anew (λ arm. object_entries.Sleep 0 10 0 arm sleeps.Asleep) 0 1 refl
            (armed_by 1 10, refl, refl, stays refl refl refl refl refl refl),
        (refl, refl),
      )
      (refl, ((refl, (refl, refl, λ e. refl)), tt))
      (1, le refl, le refl, point_passes _ _ _ _ _ refl, record { armed = refl; running = refl; moving = refl }))
      (two (right refl refl refl (refl, tt) (refl, tt) (refl, tt) refl (refl, tt) tt)
      (two (right refl refl refl (refl, tt) (refl, tt) (refl, tt)
      (record { one_reading = refl; claimed = refl; done = refl; contexts = (refl, tt); bodies = ((inl (1, true, refl), refl), tt) }, lt refl)
      (refl, (tt, tt)) (done_by woken_witness contexts.Hard 1 0 8 refl refl (refl, tt) (λ clock. (refl, tt))))
      (two (right refl refl refl (refl, tt) (refl, tt) (refl, tt) refl (refl, tt) (refl, refl))
      (two (right refl refl refl (refl, tt) (refl, tt) (refl, tt)
      (record { cancel = None; arm = armings.None; start = []; stamp = 2; turn = begins refl; arms = (refl, refl); done = refl }) (refl, (tt, tt))
      (9, le refl, le refl, point_passes _ _ _ _ _ refl, record { armed = refl; running = refl; moving = refl })) tt))))
      ) tt;
})

-- ---- a sleep for so long is interrupted, and tells the time left; one up to a time is, and tells none; one up to a time that has come isn't begun

-- its witness
abbrev interrupted_witness : Witness
interrupted_witness = witness_along interrupted_script interrupted_record
    (CountersList 1 ∷ TimersList 0 ∷ CountersList 1 ∷ CountersList 0 ∷ CountersList 1 ∷ TimersList 0 ∷ CountersList 1
    ∷ CountersList 1 ∷ TimersList 0 ∷ CountersList 1 ∷ CountersList 1 ∷ TimersList 0 ∷ CountersList 1 ∷ CountersList 1 ∷ CountersList 1 ∷ [])
    ((did 0 (turn_of 0 0 (Entered 0 1 (start modes.Rel 100 100) ∷ []) (object_entries.Sleep 0 100 0 (armings.Generation 1) sleeps.Asleep)) 0 3
    ∷ did 0 (Wrote 1 (writes.Advance 30) ∷ []) 3 4
    ∷ did 1 (turn_of 0 1 (Entered 0 2 (cancel_entry 1) ∷ []) (object_entries.Interrupt 1 (ended.Left 70))) 4 7
    ∷ did 1 (turn_of 0 2 (Entered 0 3 second_start ∷ []) (object_entries.Sleep 1 100 1 (armings.Generation 3) sleeps.Asleep)) 7 10
    ∷ did 1 (turn_of 0 3 (Entered 0 4 (cancel_entry 3) ∷ []) (object_entries.Interrupt 1 ended.Interrupted)) 10 13
    ∷ did 1 (turn_of 0 4 [] (object_entries.Sleep 1 30 1 armings.None sleeps.Slept)) 13 15 ∷ []) ∷ [])

-- law: it fits
pub interrupted_fits : Fits interrupted_script interrupted_record
unfolding after_entry changed passed
interrupted_fits = fits_by interrupted_witness (record {
  version = refl;
  passed = refl;
  writes = (record { counted = lt refl; timely = le refl }, record { mono = refl; real = refl; boot = refl; changes = refl }, tt);
  all = (refl, tt);
  bases = (refl, tt);
  clock = refl;
  objects = (refl, tt);
  history = two tt (two (step refl (inr refl, inl (lt refl)) refl tt) (two tt (two tt (two tt (two (step refl (refl, refl, refl) refl tt) (two tt
      (two tt (two (step refl (inr refl, inl (lt refl)) refl tt) (two tt (two tt (two (step refl (refl, refl, refl) refl tt)
      (two tt (two tt (two tt tt))))))))))))));
  object_histories = two (three (lt refl, refl, le refl, refl, (λ e. absurd (cc), λ e. absurd (cc))) refl
      (three (lt refl, refl) refl
      (three (lt refl, refl, le refl, refl, (λ e. absurd (cc), λ e. absurd (cc))) refl
      (three (lt refl, refl) refl
      (three (lt refl, refl, le refl, refl, (λ e. refl, λ e. refl)) refl tt))))) tt;
  placed = (refl, tt);
  calls = two (
      two (right refl refl refl (refl, tt) (refl, tt) (refl, tt) (
        armed_anew (λ arm. object_entries.Sleep 0 100 0 arm sleeps.Asleep) 0 1 refl
            (armed_by 1 100, refl, refl, stays refl refl refl refl refl refl),
        (refl, refl),
      )
      (refl, ((refl, (refl, refl, λ e. refl)), tt))
      (1, le refl, le refl, point_passes _ _ _ _ _ refl, record { armed = refl; running = refl; moving = refl }))
      (two (right refl refl refl (refl, tt) (refl, tt) (refl, tt) refl (refl, tt) tt)
      (two (right refl refl refl (refl, tt) (refl, tt) (refl, tt) (interrupts_by 1 2 1 refl (ended.Left 70)) (refl, (tt, tt)) tt)
      (two (right refl refl refl (refl, tt) (refl, tt) (refl, tt) (
        armed_anew (λ arm. object_entries.Sleep 1 100 1 arm sleeps.Asleep) 2 3 refl
            (armed_by 3 100, refl, refl, stays refl refl refl refl refl refl),
        (refl, refl),
      )
      (refl, ((refl, (refl, refl, λ e. refl)), tt))
      (8, le refl, le refl, point_passes _ _ _ _ _ refl, record { armed = refl; running = refl; moving = refl }))
      (two (right refl refl refl (refl, tt) (refl, tt) (refl, tt) (interrupts_by 3 4 3 refl ended.Interrupted) (refl, (tt, tt)) tt)
      (two (right refl refl refl (refl, tt) (refl, tt) (refl, tt)
      (record { cancel = None; arm = armings.None; start = []; stamp = 4; turn = begins refl; arms = refl; done = refl }, (refl, refl)) (refl, (tt, tt))
      (14, le refl, le refl, point_passes _ _ _ _ _ refl, record { armed = refl; running = refl; moving = refl })) tt)))))
      ) tt;
})

-- ---- a sleep up to a time tells the time left

left-interrupted : {ns : ℕ} → replies.Interrupt (interrupts.Left ns) ≡ replies.Interrupt interrupts.Interrupted → ⊥
left-interrupted e = absurd cc

-- law: it does not fit
pub time_left_doesnt_fit : Fits interrupted_script time_left_record → ⊥
time_left_doesnt_fit fits = left-interrupted (fits.3.object_histories 0).2.2.2.1

-- ---- a sleep is over before its time

sleeping-slept : looks.Sleeping ≡ looks.Slept → ⊥
sleeping-slept e = absurd cc

-- law: it does not fit
pub early_sleep_doesnt_fit : Fits early_sleep_script early_sleep_record → ⊥
early_sleep_doesnt_fit fits = sleeping-slept (fits.3.calls 0).2.1.0.holds.1
