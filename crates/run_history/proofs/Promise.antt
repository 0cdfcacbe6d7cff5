-- What a lane promises while it runs: a call by its log, and what its passes had seen.
use Rattle.std.proofs.Common.{take, ap, ◌≡◌, ◌<◌, ◌≤◌, ℕ, List, ◌++◌, length, sym, ◌∙◌, subst}
use Rattle.std.specs.List.{AllByRecursion}
use Rattle.std.proofs.lemmas.List.{take-append-le, take-map}
use Rattle.ktime.specs.Clocks.{at_stamp, clock_after}
use Rattle.ktime.specs.declared.write.Write.{Write}
use Rattle.seq_timer.specs.declared.system.SystemEntry.{SystemEntry}
use Rattle.record_text.specs.declared.record.Answer.{Answer}
use Rattle.record_text.specs.declared.record.ClockLine.{ClockLine}
use Rattle.record_text.specs.declared.record.Label.{Label}
use Rattle.run_history.specs.Histories.{reading_at}
use Rattle.run_history.specs.Order.{IsLabel}
use Rattle.script_text.specs.declared.script.Call.{Call}
use Rattle.script_text.specs.declared.script.Script.{Script}
use Rattle.run_history.specs.Witnesses.{entries_in}
use Rattle.run_history.specs.Fits.{Seen}
use Rattle.run_history.specs.Promises.{RunGoesOn, GoesOnClock, HasLog, IsRightLog}
use Rattle.run_history.specs.Receipts.{AreAll}
use Rattle.run_history.specs.Runs.{CallLog, clock_spans, witness_of, Ending, IsJoined, moves_spans}
use Rattle.run_history.proofs.Kept.{IsKept}
use Rattle.run_history.proofs.Points.{reading_from}

-- ---- one call, by its log

module _ {s : Script} {e : Ending} {c : Label} {log : CallLog} (joined : IsJoined s e) (is : IsLabel s c) (has : HasLog e c log) where
  -- law: then the call is as the lemmas of calls ask
  pub kept_from : {call : Call} {answer : Answer} {before after : Seen} → IsRightLog log before after
      → IsKept (witness_of s e) (moves_spans e) c log.trace log.notes call answer before after
  kept_from {before = before} {after = after} logged =
      let of : (P : CallLog → Type 0) → P log → P (e.logs c) = λ P. subst P (sym has.kept) in record {
        trace = ap (λ (l : CallLog). l.trace) has.kept;
        laid = joined.moves_laid;
        is = is;
        forward = of (λ l. l.moves.0 ≤ log.trace.last) logged.forward;
        last = of (λ l. log.trace.last ≤ l.moves.1) logged.last;
        all = subst (λ (l : CallLog). AreAll c (witness_of s e).moves l.notes) has.kept (joined.all c);
        inside = of (λ l. AllByRecursion (λ x. (l.moves.0 ≤ x.place) × (x.place < log.trace.last)) log.notes) logged.inside;
        entered = logged.entered;
        clock = has.clock;
        looks = has.looks;
        objects = has.objects;
        skips = has.skips;
        reading = reading_from (witness_of s e) c (clock_spans e) log.trace.actions log.trace.at joined.clock_laid is
            (of (λ l. l.clock.0 ≤ log.trace.at) logged.reading.0) (of (λ l. log.trace.at ≤ l.clock.1) logged.reading.1) has.clock logged.writes;
        clock_steps = logged.clock_steps;
        move_steps = (of (λ l. before.moves ≤ l.moves.0) logged.move_steps.0, of (λ l. l.moves.1 ≤ after.moves) logged.move_steps.1);
        signals = has.signals;
      }

-- ---- what its passes had seen

-- the entries along the record's lines begin with what a pass of the timers' table had seen
pub seen_first : {s : Script} {e : Ending} (seen : List SystemEntry) → IsJoined s e → (on : RunGoesOn seen e) → entries_in (witness_of s e) ≡ seen ++ on.0
seen_first seen joined on = joined.entries ∙ on.1

-- a reading that a stamp names is the one after so many of the writes that a pass of the clock's table had seen
pub reading_seen : (e : Ending) (writes : List Write) (n : ℕ) → GoesOnClock writes e → n ≤ length writes
    → reading_at e.run.clock n ≡ clock_after (at_stamp 0) (take n writes)
reading_seen e writes n on le =
    ap (clock_after (at_stamp 0)) (sym (take-map (λ (line : ClockLine). line.write) n e.run.clock) ∙ ap (take n) on.1 ∙ take-append-le n writes on.0 le)
