-- The one queue of signals that a script's queued timers share. A record doesn't print it: its pushes and its pops each raise a counter of their own, behind
-- those of the clock and of the objects.
use Rattle.std.specs.Prelude.{ℕ, ◌≡◌, ◌≤◌, ◌<◌, ◌+◌, suc, List, [], ◌++◌, length, map, take}
use Rattle.record_text.specs.declared.record.Label.{Label}
use Rattle.script_text.specs.declared.script.Kind.{Kind}
use Rattle.script_text.specs.declared.script.Kind.TheVariants as kinds
use Rattle.script_text.specs.declared.script.Script.{Script}
use Rattle.seq_timer.specs.Systems.{rises_of}
use Rattle.seq_timer.specs.declared.system.SystemEntry.{SystemEntry}
use Rattle.signal_queue.specs.declared.signal.Signal.{Signal}

-- how many signals may wait
abbrev pub most_signals : ℕ
most_signals = 64

-- an object of this kind sends its signals to the queue
abbrev pub SendsSignals : Kind → Type 0
SendsSignals (kinds.Queued base) = Unit
SendsSignals kind = ⊥

-- the counter of pushes, and that of pops
abbrev pub push_counter : Script → ℕ
push_counter s = length s.timers + 1

abbrev pub pop_counter : Script → ℕ
pop_counter s = length s.timers + 2

-- a push or a pop: the call that made it, and the signal
pub record SignalLine : Type 0 where
  pub label : Label
  pub signal : Signal

-- the signals along a list
abbrev pub signals_in : List SignalLine → List Signal
signals_in lines = map (λ line. line.signal) lines

-- how many signals were pushed, and popped, behind so many moves of an order
abbrev pub pushes_at : Script → List SystemEntry → ℕ → ℕ
pushes_at s order n = rises_of (push_counter s) (take n order)

abbrev pub pops_at : Script → List SystemEntry → ℕ → ℕ
pops_at s order n = rises_of (pop_counter s) (take n order)

-- By each counter's rises, which have these signals: signals are popped in the order in which they were pushed; at no moment were more popped than pushed, and
-- at none did more wait than have room.
pub record AreSignals (s : Script) (signals : ℕ → List SignalLine) (order : List SystemEntry) : Type 0 where
  -- an object's counter has none
  pub others : (i : ℕ) → i < length s.timers → signals (suc i) ≡ []
  pub waiting : List Signal
  pub in_turn : signals_in (signals (push_counter s)) ≡ signals_in (signals (pop_counter s)) ++ waiting
  pub pushed_first : (n : ℕ) → pops_at s order n ≤ pushes_at s order n
  pub room : (n : ℕ) → pushes_at s order n ≤ pops_at s order n + most_signals
