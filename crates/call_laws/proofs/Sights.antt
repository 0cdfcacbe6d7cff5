-- Calls on objects that make no entry: a lane keeps a call that looked at timers and objects only, and one that found its object's history full.
use Rattle.call_laws.proofs.Parts.{part_alone, part_as}
use Rattle.std.proofs.Common.{◌≡◌, ◌≤◌, ℕ, List, [], length, refl, sym, ap, ◌∙◌, subst}
use Rattle.clock_cell.specs.Views.{writes}
use Rattle.pass_names.specs.Passes.{Begins}
use Rattle.base_row.specs.Logs.{receipts_of}
use Rattle.base_row.specs.declared.log.Receipt.{Receipt}
use Rattle.seq_timer.specs.Histories as seq
use Rattle.timer_objects.specs.Calls.{Caller, FindsHistoryFull}
use Rattle.timer_objects.specs.declared.log.ObjectReceipt.{ObjectReceipt}
use Rattle.record_text.specs.declared.record.Answer.{Answer}
use Rattle.script_text.specs.declared.script.Call.{Call}
use Rattle.script_text.specs.declared.script.Script.{Script}
use Rattle.run_history.specs.Calls.{Does, AnswerHolds}
use Rattle.run_history.specs.Truths.{Saw, SawFull, sight_of}
use Rattle.run_history.specs.Witnesses.{Trace}
use Rattle.run_history.specs.Promises.{HasLog}
use Rattle.run_history.specs.Runs.{witness_of, Ending, IsJoined}
use Rattle.call_laws.proofs.ObjectTurns.{entries_had}
use Rattle.run_history.proofs.OthersMade.{plain, quiet_made}
use Rattle.lane_notes.proofs.Kept.{signals_of}
use Rattle.call_laws.proofs.Signals.{turns_alone}
use Rattle.lane_notes.specs.Called.{lane_caller, LaneOf, LeavesSignals, with_done}
use Rattle.lane_notes.proofs.Kept.{Follows, IsNextCall, KeepsCall, log_of}
use Rattle.lane_notes.proofs.SeenMore.{begins_same}
use Rattle.lane_notes.specs.Worlds.{WorldOf}
use Rattle.call_laws.proofs.CallKept.{clock_left, FitsOn, LooksAtClock, same_objects}
use Rattle.lane_notes.proofs.PartLists.{no_notes-joins}
use Rattle.call_laws.proofs.PartKept.{keeps_part}
use Rattle.call_laws.proofs.Parts.{part_seen, IsPart}
use Rattle.hr_timers.specs.Known.{MadeAt, timer_then}
use Rattle.seq_timer.specs.declared.observation.Observation.TheVariants as observations
use Rattle.seq_timer.specs.declared.observation.Peek.{Peek}
use Rattle.seq_timer.specs.declared.system.SystemEntry.{SystemEntry}
use Rattle.record_text.specs.declared.record.ClockLine.{ClockLine}
use Rattle.run_history.specs.Actions.{made}
use Rattle.run_history.specs.Promises.{GoesOnClock}
use Rattle.run_history.specs.Receipts.{PlacedEntry}
use Rattle.lane_notes.specs.Called.{LooksAtTimer}
use Rattle.call_laws.proofs.Entering.{looks_made}
use Rattle.run_history.proofs.Stamped.{HaveReadings}
use Rattle.call_laws.proofs.CallKept.{opened_timers}
use Rattle.call_laws.proofs.Parts.{part_at}
use Rattle.call_laws.proofs.Noted.{HasWholeTurns, entered_on, entered_turns, with_done-joins}
use Rattle.call_laws.proofs.Stays.{saw_quiet}
use Rattle.lane_notes.specs.Notes.{no_notes}

-- ---- what such a call saw

-- a call that looked at timers, objects and the clock, and noted nothing
pub record LooksOnly (s : Script) (l m : LaneOf) : Type 0 where
  pub part : IsPart s (λ c. Unit) l.label l.pass.timers.known l.pass.objects m.pass.timers.known m.pass.objects [] [] no_notes
  pub clock : LooksAtClock l.pass m.pass
  pub signals : LeavesSignals l.pass m.pass
  pub notes : m.notes ≡ l.notes

-- law: a call that left objects alone, and made nothing of timers and the clock
pub looks_alone : {s : Script} {l m : LaneOf} → Begins l.pass.timers.known.seen m.pass.timers.known.seen
    → m.pass.timers.known.mine ≡ l.pass.timers.known.mine → m.pass.objects ≡ l.pass.objects → LooksAtClock l.pass m.pass → LeavesSignals l.pass m.pass
    → m.notes ≡ l.notes → LooksOnly s l m
looks_alone {l = l} {m = m} timers mine same clock signals notes = record {
  part = part_seen timers mine (same_objects l.pass m.pass same) (ap (λ o. o.knows.pass.mine) same) (ap (λ o. o.knows.opening) same);
  clock = clock;
  signals = signals;
  notes = notes;
}

-- law: a call that made no entry of a timer only looked, where it left objects alone
pub looks_at : {s : Script} {l m : LaneOf} {t : ℕ} {at : List SystemEntry} → MadeAt l.pass.timers.known m.pass.timers.known t at []
    → m.pass.objects ≡ l.pass.objects → LooksAtClock l.pass m.pass → LeavesSignals l.pass m.pass → m.notes ≡ l.notes → LooksOnly s l m
looks_at made = let looks = looks_made made in looks_alone looks.0 looks.1

-- law: receipts of none leave the notes as they were
pub notes_alone : (l m : LaneOf) {log : List Receipt} {object_log : List ObjectReceipt} → log ≡ [] → object_log ≡ []
    → m.notes ≡ with_done l.notes l.label log object_log → m.notes ≡ l.notes
notes_alone l m {object_log = object_log} none no_objects notes =
    notes ∙ ap (λ rs. with_done l.notes l.label rs object_log) none ∙ ap (λ rs. with_done l.notes l.label [] rs) no_objects
    ∙ with_done-joins l.notes l.label [] [] ∙ sym (no_notes-joins l.notes)

-- ---- the call

-- the moments of a call that did nothing
abbrev pub looking : LaneOf → Trace
looking m = plain (length (writes m.pass.clock.knows)) (length m.pass.timers.known.seen) (length m.pass.timers.known.seen) []

-- law: a lane keeps a call that only looked, where it fits in every run that goes on from what it saw
pub keeps_looking : {s : Script} {x : WorldOf} {l m : LaneOf} {call : Call} (next : IsNextCall s x l call) (a : Answer)
    → LooksOnly s l m → FitsOn s l m call a [] (looking m) [] → KeepsCall s l call a m
keeps_looking {l = l} {m = m} next a only =
    keeps_part next m a (looking m) only.part (λ e goes. tt) only.clock (only.notes ∙ no_notes-joins l.notes) refl refl refl
    (turns_alone l.pass m.pass [] only.signals refl)

-- what its answer tells of is so, when it ends
abbrev pub IsToldSo : Script → LaneOf → LaneOf → Call → Answer → Ending → Type 0
IsToldSo s l m call a e =
    let last = length m.pass.timers.known.seen in AnswerHolds (witness_of s e) last last l.label (length (writes m.pass.clock.knows)) [] call a

-- it is to do nothing
abbrev pub DoesNothing : Script → LaneOf → Call → Answer → Type 0
DoesNothing s m call a =
    (e : Ending) → let last = length m.pass.timers.known.seen in
    Does (sight_of (witness_of s e) last last) s (length (writes m.pass.clock.knows)) call a [] [] []

-- law: the same where it is so in every such run
pub keeps_sight : {s : Script} {x : WorldOf} {l m : LaneOf} {call : Call} (next : IsNextCall s x l call) (a : Answer)
    → LooksOnly s l m → DoesNothing s m call a
    → ((e : Ending) → Follows m.pass e → IsJoined s e → HasLog e l.label (log_of l.pass m.pass [] (looking m) []) → IsToldSo s l m call a e)
    → KeepsCall s l call a m
keeps_sight next a only does seen =
    keeps_looking next a only (λ e follows joined has kept low. quiet_made kept (does e) (seen e follows joined has))

-- law: a lane keeps a call on an object that found its history full
pub keeps_full : {s : Script} {x : WorldOf} {l m : LaneOf} {call : Call} {log : List Receipt} {object_log : List ObjectReceipt}
    (next : IsNextCall s x l call) (a : Answer) (i n : ℕ)
    → FindsHistoryFull x.objects (lane_caller l.pass [] []) (lane_caller m.pass log object_log) i n
    → LooksAtClock l.pass m.pass → LeavesSignals l.pass m.pass → m.notes ≡ with_done l.notes l.label log object_log
    → DoesNothing s m call a → ((e : Ending) → SawFull (witness_of s e) i n (length m.pass.timers.known.seen) → IsToldSo s l m call a e)
    → KeepsCall s l call a m
keeps_full {s = s} {l = l} {m = m} {call = call} next a i n full clock signals notes does seen =
    let only : LooksOnly s l m = record {
      part = part_seen full.looks.seen full.looks.mine full.reads.pass.seen full.reads.pass.mine full.reads.opening;
      clock = clock;
      signals = signals;
      notes = notes_alone l m full.log full.object_log notes;
    } in
    keeps_sight next a only does (λ e follows joined has.
    seen e (entries_had i n m.pass.timers.known joined follows.timers full.told, subst (λ k. k ≤ n) next.world.limit full.full))

-- law: a lane keeps a call on an object after which nothing of timers, objects and logs is other than before
pub keeps_same : {s : Script} {x : WorldOf} {l m : LaneOf} {call : Call} {log : List Receipt} {object_log : List ObjectReceipt}
    (next : IsNextCall s x l call) (a : Answer) → lane_caller m.pass log object_log ≡ lane_caller l.pass [] []
    → LooksAtClock l.pass m.pass → LeavesSignals l.pass m.pass → m.notes ≡ with_done l.notes l.label log object_log → DoesNothing s m call a
    → ((e : Ending) → IsToldSo s l m call a e) → KeepsCall s l call a m
keeps_same {l = l} {m = m} next a same clock signals notes does seen =
    keeps_sight next a (looks_alone (begins_same (ap (λ (c : Caller). c.timers.seen) same)) (ap (λ (c : Caller). c.timers.mine) same)
    (ap (λ (c : Caller). c.objects) same) clock signals
    (notes_alone l m (ap (λ (c : Caller). c.log) same) (ap (λ (c : Caller). c.object_log) same) notes)) does (λ e follows joined has. seen e)

-- law: a lane keeps a call that made entries of a timer at a moment and nothing else, where it fits in every run that goes on from there
pub keeps_entered : {s : Script} {x : WorldOf} {l : LaneOf} {call : Call} (IsSo : List ClockLine → Type 0) {timer : ℕ} {at : List SystemEntry}
    {es : List seq.Entry} (next : IsNextCall s x l call) (m : LaneOf) (a : Answer) (t : Trace) → MadeAt l.pass.timers.known m.pass.timers.known timer at es
    → ((clock : List ClockLine) → IsSo clock → HaveReadings clock es) → ((e : Ending) → GoesOnClock (writes m.pass.clock.knows) e → IsSo e.run.clock)
    → LooksAtClock l.pass m.pass → m.pass.objects ≡ l.pass.objects → LeavesSignals l.pass m.pass
    → m.notes ≡ with_done l.notes l.label (receipts_of timer (timer_then x.timers.about at timer).stamp es) []
    → t.actions ≡ entered_on timer (timer_then x.timers.about at timer).stamp es → t.last ≡ length m.pass.timers.known.seen
    → t.at ≡ length (writes m.pass.clock.knows) → ((notes : List PlacedEntry) → FitsOn s l m call a notes t [])
    → KeepsCall s l call a m
keeps_entered {s = s} {x = x} {l = l} IsSo {timer = timer} {at = moment} {es = es} next m a t made reads so clock objects signals joins are last at fits =
    let part = part_at {s = s} {IsSo = IsSo} {label = l.label} x.timers.about {p = l.pass.objects} (opened_timers next) made reads in
    let none = entered_turns timer (timer_then x.timers.about moment timer).stamp es in
    keeps_part next m a t (part_as (sym are) (part_alone objects part.1)) so clock
    (joins ∙ with_done-joins l.notes l.label (receipts_of timer (timer_then x.timers.about moment timer).stamp es) []) last at
    (subst HasWholeTurns (sym are) (none.0 ∙ sym none.1))
    (turns_alone l.pass m.pass t.actions signals (ap signals_of are ∙ none.2)) (fits part.0)

-- ---- looks at timers

-- law: a lane keeps a look at a timer, where its answer tells no more than what was seen
pub keeps_seen : {s : Script} {x : WorldOf} {l m : LaneOf} {call : Call} {timer : ℕ} {seen : Peek} (next : IsNextCall s x l call) (a : Answer)
    → LooksAtTimer x l m timer seen → DoesNothing s m call a
    → ((e : Ending) → Saw (witness_of s e) timer seen.stamp (observations.Peek seen) (length m.pass.timers.known.seen) → IsToldSo s l m call a e)
    → KeepsCall s l call a m
keeps_seen {seen = seen} next a c does tells =
    keeps_sight next a (looks_at c.peeks.made c.objects (clock_left c.clock) c.signals c.notes) does (λ e follows joined has.
    tells e (saw_quiet next.world.timers joined follows.timers c.peeks.made seen.stamp (observations.Peek seen) (ap (λ p. p.stamp) c.peeks.fits) c.peeks.fits))
