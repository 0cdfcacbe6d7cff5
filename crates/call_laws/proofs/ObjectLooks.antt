-- A look at an object, as its lane keeps it.
use Rattle.call_laws.proofs.Parts.{part_seen}
use Rattle.timer_objects.specs.Known.{seen_of}
use Rattle.std.proofs.Common.{◌≡◌, ℕ, Some, List, [], length, sym, ap, ◌∙◌, subst}
use Rattle.std.proofs.lemmas.Option.{same_Some}
use Rattle.counted_row.specs.Views.{StateAfter}
use Rattle.posix_timer.specs.States.{PosixTimer}
use Rattle.timer_objects.specs.Calls.{LooksAtObject, posix_in}
use Rattle.timer_objects.specs.declared.log.ObjectReceipt.{ObjectReceipt}
use Rattle.base_row.specs.declared.log.Receipt.{Receipt}
use Rattle.timer_objects.specs.Meaning.{object_meaning}
use Rattle.timer_objects.specs.declared.object.Object.TheVariants as objects
use Rattle.timer_objects.specs.declared.object.Object.{Object}
use Rattle.record_text.specs.declared.record.Answer.{Answer}
use Rattle.script_text.specs.Declarations.{base_of, kind_of}
use Rattle.run_history.specs.Objects.{fd_after, posix_after, posix_at, queued_after, sleeper_after}
use Rattle.posix_timer.specs.declared.queued_state.QueuedState.{QueuedState}
use Rattle.sleeper.specs.States.{Sleeper}
use Rattle.script_text.specs.declared.script.Call.{Call}
use Rattle.script_text.specs.declared.script.Kind.TheVariants as kinds
use Rattle.script_text.specs.declared.script.Script.{Script}
use Rattle.run_history.specs.Truths.{HadEntries}
use Rattle.run_history.specs.Runs.{witness_of, Ending}
use Rattle.call_laws.proofs.ObjectTurns.{entries_had}
use Rattle.lane_notes.specs.Called.{lane_caller, LaneOf, LeavesSignals, with_done}
use Rattle.lane_notes.proofs.Kept.{Follows, IsNextCall, KeepsCall}
use Rattle.lane_notes.specs.Worlds.{WorldOf}
use Rattle.call_laws.proofs.CallKept.{LooksAtClock}
use Rattle.lane_notes.proofs.ObjectSeen.{object_after, object_seen}
use Rattle.call_laws.proofs.Sights.{DoesNothing, IsToldSo, keeps_sight, LooksOnly, notes_alone}
use Rattle.script_text.specs.declared.script.Kind.{Kind}
use Rattle.record_text.specs.declared.record.RunRecord.{RunRecord}
use Rattle.timer_fd.specs.States.{Descriptor}

module _ {s : Script} {x : WorldOf} {l : LaneOf} (m : LaneOf) {call : Call} (next : IsNextCall s x l call) (a : Answer) {i : ℕ} {object : Object} {stamp : ℕ}
    {log : List Receipt} {object_log : List ObjectReceipt}
    (looks : LooksAtObject (lane_caller l.pass [] []) (lane_caller m.pass log object_log) i object stamp)
    (clock : LooksAtClock l.pass m.pass) (signals : LeavesSignals l.pass m.pass) (notes : m.notes ≡ with_done l.notes l.label log object_log) where
  -- law: a lane keeps a call that looked at an object, where its answer holds of the object as the record has it after so many entries
  pub keeps_look : DoesNothing s m call a → ((e : Ending) → Follows m.pass e
      → HadEntries (witness_of s e) i stamp (length m.pass.timers.known.seen) → object ≡ object_after s e.run i stamp (kind_of s i)
      → IsToldSo s l m call a e)
      → KeepsCall s l call a m
  keeps_look does seen =
      let only : LooksOnly s l m = record {
        part = part_seen looks.timers.seen looks.timers.mine looks.reads.pass.seen looks.reads.pass.mine looks.reads.opening;
        clock = clock;
        signals = signals;
        notes = notes_alone l m looks.log looks.object_log notes;
      } in
      let at = subst (λ made. StateAfter object_meaning made i (seen_of m.pass.objects i) looks.reads.state) next.objects looks.reads.at in
      keeps_sight next a only does (λ e follows joined has. seen e follows (entries_had i stamp m.pass.timers.known joined follows.timers looks.told)
      (looks.state ∙ object_seen s x next.world i (seen_of m.pass.objects i) looks.reads.state at e (follows.objects i)
      ∙ ap (λ n. object_after s e.run i n (kind_of s i)) (sym looks.stamp)))

-- law: a queued timer that was looked at, a POSIX timer, whether its signals are queued or not, a descriptor, or a sleeper, is what the record has of that kind
pub queued_looked : (s : Script) (r : RunRecord) (i n : ℕ) (k : Kind) {t : QueuedState} → objects.Queued t ≡ object_after s r i n k
    → t ≡ queued_after s r i (base_of k) n
queued_looked s r i n (kinds.Queued base) is = cc
queued_looked s r i n k is = absurd (cc)

pub posix_found : (s : Script) (r : RunRecord) (i n : ℕ) (k : Kind) {object : Object} {t : PosixTimer} → object ≡ object_after s r i n k
    → posix_in object ≡ Some t → t ≡ posix_at s r i k n
posix_found s r i n (kinds.Posix base) {t = t} is has = same_Some t (posix_after s r i base n) (sym has ∙ ap posix_in is)
posix_found s r i n (kinds.Queued base) {t = t} is has = same_Some t (queued_after s r i base n).timer (sym has ∙ ap posix_in is)
posix_found s r i n k is has = let none = sym has ∙ ap posix_in is in absurd cc

pub fd_looked : (s : Script) (r : RunRecord) (i n : ℕ) (k : Kind) {t : Descriptor} → objects.Fd t ≡ object_after s r i n k → t ≡ fd_after s r i (base_of k) n
fd_looked s r i n (kinds.Fd base) is = cc
fd_looked s r i n k is = absurd (cc)

pub sleeper_looked : (s : Script) (r : RunRecord) (i n : ℕ) (k : Kind) {t : Sleeper} → objects.Sleeper t ≡ object_after s r i n k
    → t ≡ sleeper_after s r i (base_of k) n
sleeper_looked s r i n (kinds.Sleeper base) is = cc
sleeper_looked s r i n k is = absurd (cc)
