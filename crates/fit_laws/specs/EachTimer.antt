-- What a record that fits says of each timer by itself, with no order of all timers' entries: its list is a history of such a timer, and what calls did
-- there and were told of it was so after numbers of its own entries.
use Rattle.std.specs.Prelude.{ℕ, ◌≡◌, ◌+◌, ◌≤◌, true, false, Some, List, ◌∷◌, ◌++◌, length}
use Rattle.std.specs.List.{AllByRecursion, slice_get}
use Rattle.seq_timer.specs.declared.observation.Observation.{Observation}
use Rattle.seq_timer.specs.declared.observation.Observation.TheVariants as observations
use Rattle.seq_timer.specs.Histories.{HoldsAt, IsLegal}
use Rattle.ktime.specs.declared.clock_id.ClockId.{ClockId}
use Rattle.seq_timer.specs.declared.context.Context.{Context}
use Rattle.seq_timer.specs.Tables.{IsNextDue, IsStopped, IsUnused, in_context, is_armed_on, runs_on, seen_in}
use Rattle.record_text.specs.declared.record.Answer.{Answer}
use Rattle.record_text.specs.declared.record.Answer.TheVariants as answers
use Rattle.record_text.specs.declared.record.CallbackReply.{CallbackReply}
use Rattle.seq_timer.specs.declared.event.EventBy.TheVariants as events
use Rattle.seq_timer.specs.declared.event.Reply.{Reply}
use Rattle.record_text.specs.declared.record.Label.{Label}
use Rattle.record_text.specs.declared.record.RunRecord.{RunRecord}
use Rattle.script_text.specs.declared.script.Call.{Call}
use Rattle.script_text.specs.declared.script.Call.TheVariants as calls
use Rattle.script_text.specs.declared.script.Script.{Script}
use Rattle.run_history.specs.Starts.{Sight}
use Rattle.run_history.specs.Actions.{Action, Entered, entered, Looked, looked, own, own_looks}
use Rattle.run_history.specs.Told.{observed}
use Rattle.run_history.specs.Histories.{answers_of, clock_labels, history_of, lines_of_timer, reading_at, timer_after, timer_labels}
use Rattle.script_text.specs.Declarations.{declared_of, terms_of}
use Rattle.run_history.specs.Order.{CallInRound, calls_of, IsInOrder, IsLabel, IsPoint}
use Rattle.run_history.specs.Calls.{Does}
use Rattle.run_history.specs.Deeds.{AllKeepExpiries}
use Rattle.run_history.specs.Witnesses.{Evacuation, Fired}

-- a number of a timer's entries is one that the call, having done so much, may have seen
abbrev pub IsOwnPoint : Script → RunRecord → Label → List Action → ℕ → ℕ → Type 0
IsOwnPoint s r c before t n = IsPoint s c (length (entered t before)) n (timer_labels r t)

-- what a call, having done so much, was told of a timer was so after this number of its entries
pub record WasSo (s : Script) (r : RunRecord) (c : Label) (before : List Action) (t number : ℕ) (observation : Observation) : Type 0 where
  pub point : IsOwnPoint s r c before t number
  pub holds : HoldsAt (declared_of s t) (terms_of s) (history_of r t) number observation

-- a start was refused: the timer's history was full, and the timer was not on the move between bases
abbrev pub WasRefused : Script → RunRecord → Label → List Action → ℕ → ℕ → Type 0
WasRefused s r c before t stamp = WasSo s r c before t stamp observations.Spent × ((timer_after s r t stamp).moving ≡ false)

-- a claim took the timer that was the next to expire on its base, where no function ran: after numbers of entries of each timer
pub record TookNextDue (s : Script) (r : RunRecord) (c : Label) (before : List Action) (base reading t number : ℕ) : Type 0 where
  pub seen : ℕ → ℕ
  pub points : (u : ℕ) → IsOwnPoint s r c before u (seen u)
  pub claimed : seen t + 1 ≡ number
  pub free : (u : ℕ) → runs_on base (seen_in (declared_of s t).context (timer_after s r u (seen u))) ≡ false
  pub next : IsNextDue (in_context (declared_of s t).context (λ u. timer_after s r u (seen u))) base (reading_at r.clock reading) t

-- no function of a context ran on a base, and the base was stopped for each clock of the context: after numbers of entries of each timer
pub record WasDone (s : Script) (r : RunRecord) (c : Label) (actions : List Action) (context : Context) (base reading : ℕ) : Type 0 where
  pub seen : ℕ → ℕ
  pub points : (u : ℕ) → IsOwnPoint s r c actions u (seen u)
  pub free : (u : ℕ) → runs_on base (seen_in context (timer_after s r u (seen u))) ≡ false
  pub stopped : (clock : ClockId) → IsStopped (in_context context (λ u. timer_after s r u (seen u))) base (reading_at r.clock reading) clock

-- no timer was armed on a base and no function ran there: after numbers of entries of each timer
pub record WasUnused (s : Script) (r : RunRecord) (c : Label) (actions : List Action) (base : ℕ) : Type 0 where
  pub seen : ℕ → ℕ
  pub points : (u : ℕ) → IsOwnPoint s r c actions u (seen u)
  pub unused : IsUnused (λ u. timer_after s r u (seen u)) base

-- a timer was armed on a base, and had so many entries that it wasn't moved off it any more
pub record WasFullOn (s : Script) (r : RunRecord) (c : Label) (actions : List Action) (base t stamp : ℕ) : Type 0 where
  pub point : IsOwnPoint s r c actions t stamp
  pub armed : is_armed_on base (timer_after s r t stamp) ≡ true
  pub full : (terms_of s).limit + (terms_of s).reach ≤ stamp

-- what an answer tells of timers was so, when the call had done all that it did
abbrev pub WasTold : Script → RunRecord → Label → ℕ → List Action → Call → Answer → Type 0
WasTold s r c at actions (calls.Start t request) (answers.Spent stamp) = WasRefused s r c actions t stamp
WasTold s r c at actions (calls.Cancel t) (answers.Running generation stamp) = WasSo s r c actions t stamp (observations.Running generation)
WasTold s r c at actions (calls.Cancel t) (answers.Idle stamp) = WasSo s r c actions t stamp observations.Idle
WasTold s r c at actions (calls.Peek t) (answers.Peek stamp base enqueued running moving) =
    WasSo s r c actions t stamp
    (observations.Peek (record { stamp = stamp; base = base; enqueued = enqueued; running = running; moving = moving }))
WasTold s r c at actions (calls.Expire context base budget) (answers.Done shown timers) = WasDone s r c actions context base at
WasTold s r c at actions (calls.Expire context base budget) (answers.Busy shown timers t generation) =
    ((declared_of s t).context ≡ context)
    × ((stamp : ℕ) × WasSo s r c actions t stamp (observations.Running generation) × ((timer_after s r t stamp).base ≡ base))
WasTold s r c at actions (calls.Settime t flags value interval) (answers.Unarmed stamp) = WasRefused s r c actions t stamp
WasTold s r c at actions (calls.Sleep t flags time) (answers.Unarmed stamp) = WasRefused s r c actions t stamp
WasTold s r c at actions (calls.Offline base heir budget) (answers.Offline moved stamp) = WasUnused s r c actions base
WasTold s r c at actions (calls.Offline base heir budget) (answers.OfflineBusy moved t generation) =
    (stamp : ℕ) × WasSo s r c actions t stamp (observations.Running generation) × ((timer_after s r t stamp).base ≡ base)
WasTold s r c at actions (calls.Offline base heir budget) (answers.OfflineSpent moved t stamp) = WasFullOn s r c actions base t stamp
WasTold s r c at actions call answer = Unit

-- one call with its answer: what it did is what the record shows of each timer, and what it was told in it and by it was so
pub record FitsTimers (s : Script) (r : RunRecord) (c : Label) (call : Call) (answer : Answer) : Type 0 where
  pub at : ℕ
  pub fired : List Fired
  pub moved : List Evacuation
  pub actions : List Action
  -- whether a base was off line isn't a matter of the timers alone
  pub sight : Sight
  pub does : Does sight s at call answer fired moved actions
  pub keeps : AllKeepExpiries s r call moved
  pub reading : IsPoint s c 0 at (clock_labels r)
  pub entered : (t : ℕ) → own (λ line. line.label) (λ line. line.entry) c 1 (lines_of_timer r t) ≡ entered t actions
  pub looked : (t : ℕ) → own_looks c 1 (lines_of_timer r t) ≡ looked t actions
  pub looks : (before rest : List Action) (t number : ℕ) (look : CallbackReply) → actions ≡ before ++ Looked t number look ∷ rest
      → WasSo s r c before t number (observed look)
  pub claims : (before rest : List Action) (t number base reading : ℕ) (reply : Reply)
      → actions ≡ before ++ Entered t number (record { event = events.Claim base reading; reply = reply }) ∷ rest
      → TookNextDue s r c before base reading t number
  pub told : WasTold s r c at actions call answer

-- each timer's list by itself, and each call by such lists
pub record HasTimers (s : Script) (r : RunRecord) : Type 0 where
  -- each timer's lines are a history that a timer gives, on its declared clock and with the script's limit
  pub histories : (t : ℕ) → IsLegal (declared_of s t) (terms_of s) (history_of r t)
  -- they bear the labels of calls; along each list rounds follow one another, and a lane's calls keep their order
  pub labels : (t : ℕ) → AllByRecursion (IsLabel s) (timer_labels r t)
  pub order : (t : ℕ) → IsInOrder s (timer_labels r t)
  -- each lane has as many answers as calls, and each of them is right of each timer
  pub answered : (lane : ℕ) → length (answers_of r lane) ≡ length (calls_of s lane)
  pub calls : (lane index : ℕ) (p : CallInRound) (answer : Answer) → slice_get (calls_of s lane) index ≡ Some p
      → slice_get (answers_of r lane) index ≡ Some answer → FitsTimers s r (record { lane = lane; call = index }) p.call answer
