-- Calls on timers but for expiry runs: those that make no entry, the cancel, the write of the clock and the start.
use Rattle.std.proofs.Common.{◌≡◌, ◌≤◌, ℕ, List, [], ◌∷◌, arith, refl, sym, subst}
use Rattle.std.specs.List.{AllByRecursion}
use Rattle.ktime.specs.declared.write.Write.{Write}
use Rattle.record_text.specs.declared.record.Answer.TheVariants as answers
use Rattle.record_text.specs.declared.record.Answer.{Answer}
use Rattle.seq_timer.specs.declared.event.EventBy.TheVariants as events
use Rattle.seq_timer.specs.declared.event.Reply.TheVariants as replies
use Rattle.record_text.specs.declared.record.Label.{Label}
use Rattle.run_history.specs.Actions.{Action, Entered, Wrote}
use Rattle.run_history.specs.Starts.{Arming, arming_actions, IsArming, was_armed_before}
use Rattle.script_text.specs.declared.script.StartRequest.{StartRequest}
use Rattle.script_text.specs.declared.script.Call.TheVariants as calls
use Rattle.script_text.specs.declared.script.Call.{Call}
use Rattle.run_history.specs.Calls.{Does, AnswerHolds}
use Rattle.run_history.specs.Deeds.{AllMoved}
use Rattle.run_history.specs.Truths.{AreTrue, sight_of}
use Rattle.run_history.specs.Witnesses.{Evacuation, Witness, Trace}
use Rattle.run_history.specs.Fits.{FitsCall, Seen}
use Rattle.run_history.specs.Receipts.{PlacedEntry}
use Rattle.run_history.specs.Rounds.{Spans}
use Rattle.run_history.proofs.Kept.{call_made, call_made_whole, IsKept}
use Rattle.run_history.proofs.Known.{no_notes}
use Rattle.run_history.proofs.Plain.{plain_arms, plain_true}

-- what a call did that ran no callbacks
abbrev pub plain : ℕ → ℕ → ℕ → List Action → Trace
plain at first last actions = record { at = at; fired = []; moved = []; actions = actions; first = first; last = last }

-- what is asked of the timers that a call moved is so where it moved none
pub none_moved : (IsSo : ℕ → Evacuation → Type 0) (call : Call) → AllMoved IsSo call []
none_moved IsSo (calls.Offline base heir budget) = tt
none_moved IsSo call = tt

-- a call that makes no entry, of a timer, an object or the clock: what it was told held at one moment
pub quiet_made : {w : Witness} {moves : Spans} {c : Label} {at last : ℕ} {notes : List PlacedEntry} {call : Call} {answer : Answer} {before after : Seen}
    → IsKept w moves c (plain at last last []) notes call answer before after
    → Does (sight_of w last last) w.script at call answer [] [] [] → AnswerHolds w last last c at [] call answer → FitsCall w c call answer before after
quiet_made {w = w} {last = last} {notes = notes} {call = call} kept does seen =
    call_made kept kept.forward (omega arith)
    (subst (AllByRecursion (λ x. last ≤ x.place)) (sym (no_notes notes kept.entered)) tt) does
    (none_moved _ call, none_moved _ call) (omega arith) seen

-- a cancel that cancelled
pub cancelled_made : {w : Witness} {moves : Spans} {c : Label} {at first last : ℕ} {notes : List PlacedEntry} {before after : Seen}
    (timer number generation : ℕ)
    → IsKept w moves c (plain at first last (Entered timer number (record { event = events.Cancel; reply = replies.Cancel generation }) ∷ [])) notes
    (calls.Cancel timer) (answers.Cancelled generation) before after
    → first ≡ moves.first c → FitsCall w c (calls.Cancel timer) (answers.Cancelled generation) before after
cancelled_made {first = first} timer number generation kept starts =
    call_made_whole kept starts (number, refl) (tt, tt) (first, omega arith, tt, omega (arith, starts, kept.forward)) tt

-- a write of the clock that it took
pub wrote_made : {w : Witness} {moves : Spans} {c : Label} {at first last : ℕ} {notes : List PlacedEntry} {before after : Seen} (stamp : ℕ)
    (write : Write)
    → IsKept w moves c (plain at first last (Wrote stamp write ∷ [])) notes (calls.Clock write) (answers.Clock stamp) before after
    → moves.first c ≤ first → first ≤ last → AllByRecursion (λ x. first ≤ x.place) notes
    → FitsCall w c (calls.Clock write) (answers.Clock stamp) before after
wrote_made {first = first} stamp write kept low high behind =
    call_made kept low high behind refl (tt, tt) (first, omega arith, tt, high) tt

-- a start's entries tell nothing that must be looked up
pub start_true : (w : Witness) (c : Label) (from to timer reading : ℕ) (request : StartRequest) (before : List Action) (a : Arming) → from ≤ to
    → AreTrue w c from before (arming_actions timer request reading a) to
start_true w c from to timer reading request before a order =
    plain_true w c from to before (arming_actions timer request reading a) (plain_arms timer reading request a) order

-- a start that was made
pub started_made : {w : Witness} {moves : Spans} {c : Label} {at first last : ℕ} {notes : List PlacedEntry} {before after : Seen} (timer : ℕ)
    (request : StartRequest)
    (a : Arming)
    → IsKept w moves c (plain at first last (arming_actions timer request at a)) notes (calls.Start timer request)
    (answers.Started a.number a.placement.base (was_armed_before a.outs a.was_armed)) before after
    → first ≡ moves.first c → IsArming (sight_of w first last) timer w.script.limit request.base a
    → FitsCall w c (calls.Start timer request) (answers.Started a.number a.placement.base (was_armed_before a.outs a.was_armed)) before after
started_made {w = w} {c = c} {at = at} {first = first} {last = last} timer request a kept starts arms =
    call_made_whole kept starts (a, refl, refl, refl, refl, arms) (tt, tt)
    (start_true w c first last timer at request [] a (omega (arith, starts, kept.forward))) tt
