-- The record in which 64 signals wait and the 65th finds no room fits: its witness, and what computes of it.
use Rattle.std.proofs.Common.{◌≡◌, ◌+◌, ℕ, zero, suc, Bool, true, false, ◌&&◌, not, is_some, nat_eq, nat_le, nat_lt, List, [], ◌∷◌, ◌++◌, Option, Some, None, length, map, take, drop, get_or, refl}
use Rattle.std.specs.List.{list_all, range_with_len}
use Rattle.ktime.specs.declared.clock_id.ClockId.{ClockId}
use Rattle.ktime.specs.declared.clock_id.ClockId.TheVariants as clocks
use Rattle.ktime.specs.declared.write.Write.TheVariants as writes
use Rattle.record_text.specs.declared.record.Label.{Label}
use Rattle.record_text.specs.declared.record.ObjectEntry.TheVariants as object_entries
use Rattle.seq_timer.specs.declared.event.Restarted.TheVariants as restarts
use Rattle.seq_timer.specs.Steps.{Timer}
use Rattle.seq_timer.specs.Systems.{after_entry, changed}
use Rattle.script_text.specs.Declarations.{kind_of}
use Rattle.signal_queue.specs.declared.signal.Signal.{Signal}
use Rattle.run_history.specs.Actions.{Action, Entered, Signalled, Wrote, own}
use Rattle.run_history.specs.Histories.{clock_labels}
use Rattle.run_history.specs.Objects.{ArmedAs, object_armed_after}
use Rattle.run_history.specs.Order.{made_by, round_of}
use Rattle.run_history.specs.Signals.{SignalLine, pops_at, pushes_at}
use Rattle.run_history.specs.Witnesses.{Fired, Move, OfRise, OfTimer, Shown, Trace, Witness, entries_in, labels, standing_along, timer_along, turns_along, writes_along}
use Rattle.run_cases.specs.FullQueue.{full_queue_record, full_queue_script}
use Rattle.run_cases.specs.Lines.{at, claim_entry, counted_entry, finish_entry, set_entry_of, set_start}
use Rattle.run_cases.proofs.Tests.{is_point}
use Rattle.run_cases.proofs.Witnesses.{did, queue_of, ran, turn_of}
use Rattle.run_cases.proofs.Tests.{is_heard}

-- ---- the witness: c is the call, and before it the timer had a entries, its object b, the queue p pushes, and the order m moves

-- a call's moves: what each shows, and how many lines of its list stand before it
abbrev pub moves_of : Label → List (ℕ × Shown) → List Move
moves_of c xs = map (λ x. record { before = x.0; label = c; shown = x.1 }) xs

-- those of a settime, behind so many entries of the timer and of its object
abbrev pub set_moves : ℕ → ℕ → List (ℕ × Shown)
set_moves a b = (b + b, OfRise 1) ∷ (a, OfTimer 0 (set_start 100 1 false)) ∷ (b + b + 1, OfRise 1) ∷ []

-- those of an expiry, behind so many pushes
abbrev pub sent_moves : ℕ → ℕ → ℕ → List (ℕ × Shown)
sent_moves a b p =
    (a, OfTimer 0 (claim_entry 0 1 a)) ∷ (b + b, OfRise 1) ∷ (p, OfRise 2) ∷ (b + b + 1, OfRise 1) ∷ (a + 1, OfTimer 0 (finish_entry false a)) ∷ []

-- and of one that finds no room
abbrev pub full_moves : ℕ → ℕ → List (ℕ × Shown)
full_moves a b = (a, OfTimer 0 (claim_entry 0 1 a)) ∷ (b + b, OfRise 1) ∷ (b + b + 1, OfRise 1) ∷ (a + 1, OfTimer 0 (finish_entry false a)) ∷ []

-- and of the call that takes a signal
abbrev pub taken_moves : List (ℕ × Shown)
taken_moves = (0, OfRise 3) ∷ []

-- so many times, and once without room; then a signal is taken
abbrev pub moves_from : ℕ → ℕ → ℕ → ℕ → ℕ → List Move
moves_from zero c a b p = moves_of (at 0 c) (set_moves a b) ++ moves_of (at 0 (c + 1)) (full_moves (a + 1) (b + 1))
    ++ moves_of (at 0 (c + 1 + 1)) taken_moves
moves_from (suc n) c a b p = moves_of (at 0 c) (set_moves a b) ++ moves_of (at 0 (c + 1)) (sent_moves (a + 1) (b + 1) p)
    ++ moves_from n (c + 1 + 1) (a + 1 + 1 + 1) (b + 1 + 1) (p + 1)

-- the signal of an expiry behind so many entries of the object, and its line
abbrev pub signal_behind : ℕ → Signal
signal_behind b = record { timer = 0; number = b + 1 }

abbrev pub pushes_from : ℕ → ℕ → ℕ → List SignalLine
pushes_from zero c b = []
pushes_from (suc n) c b = record { label = at 0 (c + 1); signal = signal_behind (b + 1) } ∷ pushes_from n (c + 1 + 1) (b + 1 + 1)

-- of the signals one is taken
abbrev pub pops : List SignalLine
pops = record { label = at 0 131; signal = signal_behind 1 } ∷ []

-- what a settime did, from this moment on
abbrev pub set_trace : ℕ → ℕ → ℕ → Trace
set_trace a b m = did 1 (turn_of 0 b (Entered 0 (a + 1) (set_start 100 1 false) ∷ []) (set_entry_of 100 1 (a + 1) 0)) m (m + 1 + 1 + 1)

-- the callback of an expiry, with this in its turn of the object
abbrev pub expired_by : ℕ → List Action → Fired
expired_by a body =
    record { timer = 0; claim = a + 1; generation = a; body = body; finish = a + 1 + 1; restart = false; restarted = restarts.No }

-- and an expiry, which counted, or found no room
abbrev pub sent_trace : ℕ → ℕ → ℕ → ℕ → Trace
sent_trace a b p m = ran 0 1 (expired_by a (turn_of 0 b (Signalled 2 (p + 1) (signal_behind b) ∷ []) (counted_entry a 1)) ∷ []) m (m + 1 + 1 + 1 + 1 + 1)

abbrev pub full_trace : ℕ → ℕ → ℕ → Trace
full_trace a b m = ran 0 1 (expired_by a (turn_of 0 b [] (object_entries.Overflow a 1)) ∷ []) m (m + 1 + 1 + 1 + 1)

-- and who took a signal
abbrev pub taken_trace : Trace
taken_trace = did 1 (Signalled 3 1 (signal_behind 1) ∷ []) 520 521

abbrev pub traces_from : ℕ → ℕ → ℕ → ℕ → ℕ → List Trace
traces_from zero a b p m = set_trace a b m ∷ full_trace (a + 1) (b + 1) (m + 1 + 1 + 1) ∷ taken_trace ∷ []
traces_from (suc n) a b p m = set_trace a b m ∷ sent_trace (a + 1) (b + 1) p (m + 1 + 1 + 1)
    ∷ traces_from n (a + 1 + 1 + 1) (b + 1 + 1) (p + 1) (m + 1 + 1 + 1 + 1 + 1 + 1 + 1 + 1)

-- what all calls did
abbrev pub all_traces : List Trace
all_traces = did 0 (Wrote 1 (writes.Advance 100) ∷ []) 0 1 ∷ traces_from 64 0 0 0 1

-- the witness
abbrev pub full_witness : Witness
full_witness = record {
  script = full_queue_script;
  run = full_queue_record;
  moves = record { before = 0; label = at 0 0; shown = OfRise 0 } ∷ moves_from 64 1 0 0 0;
  signals = queue_of full_queue_script (pushes_from 64 1 0) pops;
  traces = λ c. get_or all_traces c.call (did 0 [] 0 0);
}

-- ---- what computes

-- the label is that of a call of lane 0 which is no later than this one, or no earlier
abbrev pub is_early : ℕ → Label → Bool
is_early c x = nat_eq x.lane 0 && nat_le x.call c

abbrev pub is_late : ℕ → Label → Bool
is_late c x = nat_eq x.lane 0 && (nat_le c x.call && nat_lt x.call 132)

-- none of these comes behind a later call's
abbrev pub are_rising : List Label → Bool
are_rising [] = true
are_rising (x ∷ xs) = (is_late 0 x && list_all (is_late x.call) xs) && are_rising xs

-- the number is one that a call of lane 0 may have seen, having made so many entries
abbrev pub is_place : ℕ → ℕ → ℕ → Bool
is_place c made n =
    (nat_le n (length (labels full_witness)) && list_all (is_early c) (take n (labels full_witness)))
    && (list_all (is_late c) (drop n (labels full_witness)) && nat_eq (made_by (at 0 c) (take n (labels full_witness))) made)

-- an object is armed as its timer is: by this generation, for the same time of the monotonic clock
abbrev pub is_monotonic : ClockId → Bool
is_monotonic clocks.Monotonic = true
is_monotonic clock = false

abbrev pub is_armed_like : Option ArmedAs → ℕ → Timer → Bool
is_armed_like None generation timer = false
is_armed_like (Some a) generation timer =
    (nat_eq a.generation generation && nat_eq a.expires timer.expires) && (is_monotonic a.clock && is_monotonic timer.clock)

-- the timer rests
abbrev pub is_idle : Timer → Bool
is_idle t = not (is_some t.armed) && (not (is_some t.running) && not t.moving)

-- a call of lane 0 begins at this moment, has read the clock behind its one write, and has its own pushes and pops
abbrev pub is_called : ℕ → ℕ → Bool
is_called c m = (is_place c 0 m && nat_eq (writes_along full_witness m) 1)
    && ((is_heard full_witness (at 0 c) && is_point full_queue_script (at 0 c) 0 1 (clock_labels full_queue_record))
    && nat_eq (length (own (λ line. line.label) (λ line. line.write) (at 0 c) 1 full_queue_record.clock)) 0)

-- a settime's moments, and what it saw at them: its turn had begun, and the timer rested; then the timer was armed, and the object as it
abbrev pub is_set : ℕ → ℕ → ℕ → ℕ → Bool
is_set c a b m =
    (is_place c 1 (m + 1) && (is_place c 2 (m + 1 + 1) && is_place c 3 (m + 1 + 1 + 1)))
    && ((nat_le (a + 1) 1000 && (nat_lt (b + b) (turns_along full_witness (m + 1) 0) && is_idle (timer_along full_witness (m + 1) 0)))
    && ((not (is_some (standing_along full_witness (m + 1) 0).heir) && nat_lt (timer_along full_witness (m + 1) 0).stamp (a + 1))
    && (nat_eq (timer_along full_witness (m + 1 + 1) 0).stamp (a + 1)
    && is_armed_like (object_armed_after full_queue_script full_queue_record 0 (b + 1) (kind_of full_queue_script 0)) (a + 1)
    (timer_along full_witness (m + 1 + 1) 0))))

-- an expiry's moments, where it counts
abbrev pub is_sent : ℕ → ℕ → Bool
is_sent c m = is_place c 3 (m + 1 + 1 + 1) && is_place c 5 (m + 1 + 1 + 1 + 1 + 1)

-- and where it finds no room, with 64 signals that wait
abbrev pub is_full : ℕ → ℕ → Bool
is_full c m = (is_place c 2 (m + 1 + 1) && is_place c 4 (m + 1 + 1 + 1 + 1))
    && nat_eq (pushes_at full_queue_script (entries_in full_witness) (m + 1 + 1)) (pops_at full_queue_script (entries_in full_witness) (m + 1 + 1) + 64)

-- all of these
abbrev pub are_computed : ℕ → ℕ → ℕ → ℕ → ℕ → Bool
are_computed zero c a b m = (is_called c m && is_set c a b m) && (is_called (c + 1) (m + 1 + 1 + 1) && is_full (c + 1) (m + 1 + 1 + 1))
are_computed (suc n) c a b m = ((is_called c m && is_set c a b m) && (is_called (c + 1) (m + 1 + 1 + 1) && is_sent (c + 1) (m + 1 + 1 + 1)))
    && are_computed n (c + 1 + 1) (a + 1 + 1 + 1) (b + 1 + 1) (m + 1 + 1 + 1 + 1 + 1 + 1 + 1 + 1)

-- these compute
pub rising : are_rising (labels full_witness) ≡ true
rising = refl

pub rounds : list_all (λ i. nat_eq (round_of full_queue_script (at 0 i)) 0) (range_with_len 0 132) ≡ true
rounds = refl

pub computed : are_computed 64 1 0 0 1 ≡ true
unfolding after_entry changed
computed = refl
