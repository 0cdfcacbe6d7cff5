-- What a lane promises while it runs: each of its calls fits in every run that it can still end in.
use Rattle.std.specs.List.{AllByRecursion}
use Rattle.std.specs.List.Sorted.{IsPermutation}
use Rattle.std.specs.Prelude.{ℕ, ◌≡◌, ◌≤◌, ◌<◌, List, ◌∷◌, ◌++◌, map}
use Rattle.ktime.specs.declared.write.Write.{Write}
use Rattle.seq_timer.specs.declared.system.SystemEntry.{SystemEntry}
use Rattle.record_text.specs.declared.record.Answer.{Answer}
use Rattle.record_text.specs.declared.record.Label.{Label}
use Rattle.run_history.specs.Actions.{looked, made, own, own_looks, own_skips, signalled, skipped, wrote}
use Rattle.run_history.specs.Histories.{lines_of_timer}
use Rattle.run_history.specs.Objects.{lines_of_object}
use Rattle.run_history.specs.Order.{CallInRound, NeverFall}
use Rattle.script_text.specs.declared.script.Call.{Call}
use Rattle.script_text.specs.declared.script.Script.{Script}
use Rattle.run_history.specs.Witnesses.{Witness}
use Rattle.run_history.specs.Fits.{FitsCall, FitsInTurn, FitsLane, Seen, unseen}
use Rattle.run_history.specs.Receipts.{receipt}
use Rattle.run_history.specs.Rounds.{label_at}
use Rattle.run_history.specs.Runs.{CallLog, witness_of, Ending, IsJoined}
use Rattle.run_history.specs.Traces.{all_entered}

-- What a lane kept of a call is right in itself: the call made its entries in its span, up to its last moment; the receipts are of them; its reading is
-- one of those that it had seen, before its own writes; and the numbers that it saw never fall.
pub record IsRightLog (log : CallLog) (before after : Seen) : Type 0 where
  pub forward : log.moves.0 ≤ log.trace.last
  pub last : log.trace.last ≤ log.moves.1
  pub inside : AllByRecursion (λ x. (log.moves.0 ≤ x.place) × (x.place < log.trace.last)) log.notes
  pub entered : map receipt log.notes ≡ all_entered log.trace.actions
  pub reading : (log.clock.0 ≤ log.trace.at) × (log.trace.at ≤ log.clock.1)
  pub writes : AllByRecursion (λ x. log.trace.at < x.0) (wrote log.trace.actions)
  pub clock_steps : NeverFall before.clock (log.trace.at ∷ map (λ x. x.0) (wrote log.trace.actions)) after.clock
  pub move_steps : (before.moves ≤ log.moves.0) × (log.moves.1 ≤ after.moves)

-- the run has of a call what its lane kept of it; the record, and the queue's lists, have under its label what the call did, but for timers' and bases'
-- entries; the refused expiries under one entry have no order among themselves
pub record HasLog (e : Ending) (c : Label) (log : CallLog) : Type 0 where
  pub kept : e.logs c ≡ log
  pub clock : own (λ line. line.label) (λ line. line.write) c 1 e.run.clock ≡ wrote log.trace.actions
  pub looks : (t : ℕ) → own_looks c 1 (lines_of_timer e.run t) ≡ looked t log.trace.actions
  pub objects : (i : ℕ) → own (λ line. line.label) (λ line. line.entry) c 1 (lines_of_object e.run i) ≡ made i log.trace.actions
  pub skips : (i : ℕ) → IsPermutation (own_skips c 1 (lines_of_object e.run i)) (skipped i log.trace.actions)
  pub signals : (k : ℕ) → own (λ line. line.label) (λ line. line.signal) c 1 (e.signals k) ≡ signalled k log.trace.actions

-- the run goes on from what a pass of the timers' table has seen
abbrev pub RunGoesOn : List SystemEntry → Ending → Type 0
RunGoesOn seen e = (later : List SystemEntry) × (e.order ≡ seen ++ later)

-- the run goes on from the writes that a pass of the clock's table has seen
abbrev pub GoesOnClock : List Write → Ending → Type 0
GoesOnClock writes e = (later : List Write) × (map (λ line. line.write) e.run.clock ≡ writes ++ later)

-- A call fits in every run that the lane can still end in, and that has what the lane kept of the call. Which runs these are is what the lane has seen of
-- each table: that the run goes on from it.
abbrev pub IsPromised : Script → ℕ → ℕ → CallLog → (Ending → Type 0) → Call → Answer → Seen → Seen → Type 0
IsPromised s lane index log Follows call answer before after =
    (e : Ending) → Follows e → HasLog e (label_at lane index) log → IsJoined s e → FitsCall (witness_of s e) (label_at lane index) call answer before after

-- the same of the call with its reading
abbrev pub IsPromisedInTurn : Script → ℕ → ℕ → CallLog → (Ending → Type 0) → Call → Answer → Seen → Seen → Type 0
IsPromisedInTurn s lane index log Follows call answer before after =
    (e : Ending) → Follows e → HasLog e (label_at lane index) log → IsJoined s e → FitsInTurn (witness_of s e) (label_at lane index) call answer before after

-- a fit of the calls that are left makes a fit of all
abbrev pub IsSoFar : Witness → ℕ → ℕ → Seen → List CallInRound → List CallInRound → List Answer → Type 0
IsSoFar w lane index now all rest given = (more : List Answer) → FitsLane w lane index now rest more → FitsLane w lane 0 unseen all (given ++ more)
