-- What all lanes leave together at the end of a run: of each call what its lane kept, all notes, and what the last passes have seen.
use Rattle.std.specs.List.{AllByRecursion}
use Rattle.std.specs.Prelude.{ℕ, zero, suc, ◌≡◌, ◌+◌, ◌≤◌, ◌<◌, List, [], get_or, length, map}
use Rattle.pass_names.specs.Counts.{count}
use Rattle.pass_names.specs.Passes.{is_place}
use Rattle.clock_cell.specs.Views.{writes}
use Rattle.ktime.specs.Clocks.{last_stamp}
use Rattle.lane_notes.specs.Notes.{NotesOf}
use Rattle.record_text.specs.declared.record.Label.{Label}
use Rattle.record_text.specs.declared.record.RunRecord.{RunRecord}
use Rattle.run_history.specs.Promises.{HasLog}
use Rattle.run_history.specs.Runs.{CallLog, Ending, IsJoined, RoundStarts, witness_of, clock_spans, moves_spans}
use Rattle.run_history.specs.Signals.{SignalLine}
use Rattle.ordered_signals.specs.Places.{pops_seen, pops_told, pushes_seen, pushes_told}
use Rattle.run_history.specs.Rounds.{IsLedger, label_at}
use Rattle.run_history.specs.Fits.{FitsLane, unseen}
use Rattle.run_history.specs.Order.{calls_of, IsLabel}
use Rattle.script_text.specs.Scripts.{IsInRange}
use Rattle.script_text.specs.declared.script.Script.{Script}
use Rattle.record_text.specs.declared.record.Answer.{Answer}
use Rattle.seq_timer.specs.Systems.{rises_of}
use Rattle.timer_objects.specs.Known.{seen_of}
use Rattle.timer_objects.specs.Turns.{turns_told}
use Rattle.lane_notes.proofs.Kept.{AreTurnsOf, turn_place, Follows, IsNoteSeen, NoteKind, StandAt, Tallies, TellLog, label_of, list_of, own_notes}
use Rattle.lane_notes.specs.Worlds.{AreLast, ArePassesOf, IsWhole, IsWorldOf, WorldOf}
use Rattle.lane_notes.specs.declared.lane.WorldPass.{WorldPass}

-- ---- sums

-- the sum of the first so many values of a function
abbrev pub sum_below : ℕ → (ℕ → ℕ) → ℕ
sum_below zero f = 0
sum_below (suc n) f = f 0 + sum_below n (λ j. f (suc j))

-- how often a place is that of a push or a pop of this call
abbrev pub turns_at : ℕ → CallLog → ℕ
turns_at k log = count (is_place 0 k) (map turn_place log.turns)

-- and of all calls of the script
abbrev pub all_turns_at : Script → (Label → CallLog) → ℕ → ℕ
all_turns_at s logs k = sum_below s.lanes (λ lane. sum_below (length (calls_of s lane)) (λ call. turns_at k (logs (label_at lane call))))

-- ---- what is left

-- All notes with what lanes kept of their calls: each note is of a call of the script and of something that the last passes have seen, and the places
-- that these passes have made are those of the notes.
pub record AreLeft (s : Script) (q : WorldPass) (notes : NotesOf) (logs : Label → CallLog) : Type 0 where
  pub tell : (c : Label) → TellLog (logs c) (own_notes c notes)
  pub stand : (c : Label) → StandAt q (logs c)
  pub seen : (k : NoteKind) → AllByRecursion (λ n. IsLabel s (label_of k n) × IsNoteSeen k q (logs (label_of k n)) n) (list_of k notes)
  pub few : length notes.writes < last_stamp
  pub places : Tallies (length s.timers) q notes
  -- the pushes and pops of each call stand in what the last pass of the queue has seen, and the places that it has made are theirs
  pub turned : (c : Label) → AreTurnsOf s q (logs c)
  pub unturned : (c : Label) → (IsLabel s c → ⊥) → (logs c).turns ≡ []
  pub turn_places : (k : ℕ) → count (is_place 0 k) q.signals.knows.pass.mine ≡ all_turns_at s logs k

-- these are the last passes of the script's world, and what they know is true
pub record AreLastPasses (s : Script) (x : WorldOf) (q : WorldPass) : Type 0 where
  pub range : IsInRange s
  pub world : IsWorldOf s x
  pub whole : IsWhole x
  pub passes : ArePassesOf x q
  pub last : AreLast q

-- and the clock was settled, and the queue and each object looked at
pub record AreLastOf (s : Script) (x : WorldOf) (q : WorldPass) : Type 0 where
  pub of : AreLastPasses s x q
  -- of the counter for the clock's writes the timers' pass was told of just as many rises as the clock took writes
  pub told : rises_of 0 q.timers.known.seen ≡ length (writes q.clock.knows)
  -- and of those for objects' turns of no more than two for each entry of the object
  pub no_more : (i : ℕ) → i < length s.timers → turns_told i q.timers.known ≤ length (seen_of q.objects i) + length (seen_of q.objects i)
  -- and of the queue's of no more pushes and pops than it made
  pub pushes : pushes_told x.timers.about q.timers.known.seen ≤ pushes_seen q.signals.knows
  pub pops : pops_told x.timers.about q.timers.known.seen ≤ pops_seen q.signals.knows

-- ---- the run

-- a run with this record, and these signals of the queue's counters: the order of all entries is as the last passes have seen it
abbrev pub ending_of : RunRecord → WorldPass → (ℕ → List SignalLine) → (Label → CallLog) → RoundStarts → Ending
ending_of r q signals logs starts = record { run = r; order = q.timers.known.seen; signals = signals; logs = logs; starts = starts }

-- where calls stand by rounds, and what lanes promise, whatever the record
pub record AreByRounds (s : Script) (q : WorldPass) (logs : Label → CallLog) (starts : RoundStarts) (answers : List (List Answer)) : Type 0 where
  pub moves : (r : RunRecord) (signals : ℕ → List SignalLine) → IsLedger s (moves_spans (ending_of r q signals logs starts))
  pub clock : (r : RunRecord) (signals : ℕ → List SignalLine) → IsLedger s (clock_spans (ending_of r q signals logs starts))
  pub moves_most : (c : Label) → IsLabel s c → (logs c).moves.1 ≤ length q.timers.known.seen
  pub clock_most : (c : Label) → IsLabel s c → (logs c).clock.1 ≤ length (writes q.clock.knows)
  pub lanes : length answers ≡ s.lanes
  pub calls : (e : Ending) → Follows q e → ((c : Label) → HasLog e c (logs c)) → IsJoined s e → (lane : ℕ)
      → FitsLane (witness_of s e) lane 0 unseen (calls_of s lane) (get_or answers lane [])
