-- Calls that take a base off line, or bring it on line again.
use Rattle.std.proofs.Common.{◌≡◌, ℕ, List, [], ◌∷◌, ◌++◌, arith, refl}
use Rattle.std.specs.List.{AllByRecursion}
use Rattle.std.specs.Prelude.{flat_map}
use Rattle.seq_timer.specs.declared.standing.BaseEvent.TheVariants as shifts
use Rattle.record_text.specs.declared.record.Answer.TheVariants as answers
use Rattle.record_text.specs.declared.record.Answer.{Answer}
use Rattle.record_text.specs.declared.record.Label.{Label}
use Rattle.script_text.specs.declared.script.Call.TheVariants as calls
use Rattle.run_history.specs.Actions.{Action, Shifted}
use Rattle.run_history.specs.Calls.{Does, AnswerHolds}
use Rattle.run_history.specs.Deeds.{AllKeepExpiries, AllMoved, evacuates}
use Rattle.run_history.specs.Truths.{LeftInTurn, sight_of}
use Rattle.run_history.specs.Fits.{FitsCall, Seen}
use Rattle.run_history.specs.Receipts.{PlacedEntry}
use Rattle.run_history.specs.Rounds.{Spans}
use Rattle.run_history.specs.Witnesses.{Evacuation, Trace, Witness}
use Rattle.run_history.proofs.Kept.{call_made_whole, IsKept}
use Rattle.run_history.proofs.OthersMade.{plain}
use Rattle.run_history.proofs.Plain.{IsPlain, plain_true}

plain_evacuations : (heir reading : ℕ) (moved : List Evacuation) (end : List Action) → AllByRecursion IsPlain end
    → AllByRecursion IsPlain (flat_map (evacuates heir reading) moved ++ end)
plain_evacuations heir reading [] end all = all
plain_evacuations heir reading (e ∷ moved) end all = (tt, (tt, plain_evacuations heir reading moved end all))

-- what a call did that moved these timers to the heir, and ended so
abbrev pub evacuating : ℕ → ℕ → ℕ → ℕ → List Evacuation → List Action → Trace
evacuating at first last heir moved end =
    record { at = at; fired = []; moved = moved; actions = flat_map (evacuates heir at) moved ++ end; first = first; last = last }

-- the entry that ends it, where the base went off line
abbrev pub shift_by : ℕ → ℕ → Answer → List Action
shift_by base heir (answers.Offline count stamp) = Shifted base stamp (shifts.Offline heir) ∷ []
shift_by base heir answer = []

-- law: a call that took a base off line, or was refused while it moved timers, fits
pub offline_made : {w : Witness} {moves : Spans} {c : Label} {at first last : ℕ} {notes : List PlacedEntry} {before after : Seen} (base heir budget : ℕ)
    (moved : List Evacuation) (answer : Answer)
    → IsKept w moves c (evacuating at first last heir moved (shift_by base heir answer)) notes (calls.Offline base heir budget) answer before after
    → first ≡ moves.first c
    → Does (sight_of w first last) w.script at (calls.Offline base heir budget) answer [] moved (flat_map
    (evacuates heir at) moved ++ shift_by base heir answer)
    → AllKeepExpiries w.script w.run (calls.Offline base heir budget) moved × AllMoved (LeftInTurn w first last) (calls.Offline base heir budget) moved
    → AnswerHolds w first last c at (flat_map (evacuates heir at) moved ++ shift_by base heir answer) (calls.Offline base heir budget) answer
    → FitsCall w c (calls.Offline base heir budget) answer before after
offline_made {w = w} {c = c} {at = at} {first = first} {last = last} base heir budget moved answer kept starts does keeps holds =
    call_made_whole kept starts does keeps
    (plain_true w c first last [] (flat_map (evacuates heir at) moved ++ shift_by base heir answer)
    (plain_evacuations heir at moved (shift_by base heir answer) (plain_shift answer)) (omega (arith, starts, kept.forward))) holds
  where
    plain_shift : (answer : Answer) → AllByRecursion IsPlain (shift_by base heir answer)
    plain_shift (answers.Offline count stamp) = (tt, tt)
    plain_shift answer = tt

-- law: so does one that brought a base on line again
pub online_made : {w : Witness} {moves : Spans} {c : Label} {at first last : ℕ} {notes : List PlacedEntry} {before after : Seen} (base stamp : ℕ)
    → IsKept w moves c (plain at first last (Shifted base stamp shifts.Online ∷ [])) notes (calls.Online base) (answers.Online stamp) before after
    → first ≡ moves.first c → FitsCall w c (calls.Online base) (answers.Online stamp) before after
online_made {first = first} base stamp kept starts =
    call_made_whole kept starts refl (tt, tt) (first, omega arith, tt, omega (arith, starts, kept.forward)) tt
