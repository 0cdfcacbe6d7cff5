-- Expiry runs, as their lanes keep them.
use Rattle.call_laws.proofs.Stays.{stays}
use Rattle.std.proofs.Common.{None, Some, false}
use Rattle.ktime.specs.Readings.{ClockReading}
use Rattle.call_laws.proofs.Noted.{with_done-joins}
use Rattle.call_laws.proofs.Parts.{part_looks}
use Rattle.std.proofs.Common.{◌≡◌, ◌≤◌, ℕ, List, [], ◌∷◌, ◌++◌, length, map, arith, refl, sym, ◌∙◌, subst}
use Rattle.pass_names.specs.SharedHistory.{LooksOn}
use Rattle.seq_timer.specs.Halves.{running_on}
use Rattle.seq_timer.specs.Systems.{System, next_on, system_after}
use Rattle.seq_timer.specs.declared.context.Context.{Context}
use Rattle.seq_timer.specs.Tables.{IsStopped, in_context, runs_on, seen_in}
use Rattle.seq_timer.specs.declared.system.SystemEntry.{SystemEntry}
use Rattle.hr_timers.specs.Known.{KnownOfTimers}
use Rattle.hr_timers.specs.declared.expiry.ExpireAnswer.{ExpireAnswer}
use Rattle.hr_timers.specs.declared.expiry.ExpireAnswer.TheVariants as expiries
use Rattle.hr_timers.specs.Expiring.{Expires, Turns}
use Rattle.base_row.specs.declared.log.Receipt.{Receipt}
use Rattle.timer_objects.specs.QueuedFirings.{queued_firing}
use Rattle.signal_queue.specs.Rules.{turns}
use Rattle.signal_queue.specs.declared.view.QueueView.{QueueView}
use Rattle.timer_objects.specs.Known.{ObjectsPass}
use Rattle.timer_objects.specs.declared.log.ObjectReceipt.{ObjectReceipt}
use Rattle.record_text.specs.declared.record.Answer.TheVariants as answers
use Rattle.record_text.specs.declared.record.Answer.{Answer}
use Rattle.record_text.specs.declared.record.Label.{Label}
use Rattle.run_history.specs.Histories.{reading_at}
use Rattle.script_text.specs.declared.script.Call.TheVariants as calls
use Rattle.script_text.specs.declared.script.Script.{Script}
use Rattle.run_history.specs.Witnesses as witnesses
use Rattle.run_history.specs.Witnesses.{Witness, Fired}
use Rattle.run_history.specs.Fits.{FitsCall}
use Rattle.run_history.specs.Receipts.{PlacedEntry}
use Rattle.run_history.specs.Runs.{witness_of, Ending, IsJoined, moves_spans}
use Rattle.run_history.proofs.Expires.{expire_busy, expire_done, expire_more, expiring, HaveRun}
use Rattle.run_history.proofs.Kept.{IsKept}
use Rattle.lane_notes.specs.Called.{CallsExpire, claimed_in, expire_told, LaneOf}
use Rattle.lane_notes.proofs.Kept.{Follows, IsNextCall, KeepsCall, seen_by}
use Rattle.lane_notes.proofs.SeenMore.{goes_before}
use Rattle.lane_notes.specs.Worlds.{WorldOf}
use Rattle.pass_names.proofs.Passes.{begins_length}
use Rattle.call_laws.proofs.CallKept.{clock_left, reading_goes_on}
use Rattle.call_laws.proofs.PartKept.{keeps_part}
use Rattle.call_laws.proofs.Fired.{RunKept, turns_kept}

-- ---- a run that looked on

-- callbacks ran to a later number too
have_later : (w : Witness) (order : List SystemEntry) (context : Context) (base at from : ℕ) (fs : List Fired) (notes : List PlacedEntry) (to to' : ℕ)
    → to ≤ to' → HaveRun w order context base at from fs notes to → HaveRun w order context base at from fs notes to'
have_later w order context base at from [] notes to to' le run = (run.0, omega (arith, run.1, le))
have_later w order context base at from (f ∷ fs) notes to to' le run =
    (run.0, run.1, run.2, run.3, have_later w order context base at run.0 fs run.2 to to' le run.4)

-- law: callbacks ran, and behind them their pass only looked
run_later : {s : Script} {label : Label} {context : Context} {base : ℕ} {reading : ClockReading} {n : ℕ} {v : KnownOfTimers} {p : ObjectsPass} {u : QueueView}
    {w : KnownOfTimers} {q : ObjectsPass} {u' : QueueView} {w' : KnownOfTimers} {log callback_log : List Receipt} {object_log : List ObjectReceipt}
    → RunKept s label context base reading n v p u w q u' log callback_log object_log → LooksOn w w'
    → RunKept s label context base reading n v p u w' q u' log callback_log object_log
run_later {s = s} {label = label} {context = context} {base = base} {reading = reading} {v = v} {p = p} {u = u} {w = w} {q = q} {u' = u'} {w' = w'} {log = log} {callback_log = callback_log}
    {object_log = object_log} run looks =
    record {
      fired = run.fired;
      many = run.many;
      notes = run.notes;
      claimed = run.claimed;
      part = part_looks run.part looks.seen looks.mine;
      whole = run.whole;
      turned = run.turned;
      turns = run.turns;
      have = λ e joined goes.
          have_later (witness_of s e) e.order context base reading.stamp (length v.seen) run.fired run.notes (length w.seen) (length w'.seen)
          (begins_length looks.seen) (run.have e joined (goes_before looks.seen goes));
    }

-- ---- the call

module _ {s : Script} {x : WorldOf} {l m : LaneOf} {a : Answer} {context : Context} {base budget : ℕ} (next : IsNextCall s x l (calls.Expire context base budget))
    (c : CallsExpire x l m a context base budget) where
  -- so many callbacks, to what the pass then knows
  abbrev Run : ℕ → KnownOfTimers → Type 0
  Run n w = RunKept s l.label context base c.reading n l.pass.timers.known l.pass.objects l.pass.signals.knows w
      m.pass.objects m.pass.signals.knows c.log c.callback_log c.object_log

  -- a lane keeps the call, where its callbacks make it fit in every run that goes on from there
  keeps_run : {n : ℕ} (told : List ℕ → Answer) (run : Run n m.pass.timers.known)
      → ((e : Ending) → Follows m.pass e → IsJoined s e
      → IsKept (witness_of s e) (moves_spans e) l.label
      (expiring base c.reading.stamp (length l.pass.timers.known.seen) (length m.pass.timers.known.seen) run.fired) run.notes
      (calls.Expire context base budget)
      (told (map (λ f. f.timer) run.fired)) (seen_by l.pass) (seen_by m.pass) → length l.pass.timers.known.seen ≡ (moves_spans e).first l.label
      → HaveRun (witness_of s e) e.order context base c.reading.stamp (length l.pass.timers.known.seen) run.fired run.notes
      (length m.pass.timers.known.seen)
      → FitsCall (witness_of s e) l.label (calls.Expire context base budget) (told (map (λ f. f.timer) run.fired)) (seen_by l.pass) (seen_by m.pass))
      → KeepsCall s l (calls.Expire context base budget) (told (claimed_in c.log)) m
  keeps_run told run fits =
      rw run.claimed (keeps_part next m (told (map (λ f. f.timer) run.fired))
      (expiring base c.reading.stamp (length l.pass.timers.known.seen) (length m.pass.timers.known.seen) run.fired) run.part
      (reading_goes_on l.pass m.pass c.reading c.reads)
      (clock_left c.reads.same) (c.notes ∙ with_done-joins l.notes l.label (c.log ++ c.callback_log) c.object_log) refl c.reads.count run.whole
      run.turns (λ e follows joined has kept low. fits e follows joined kept low (run.have e joined follows.timers)))

  -- the callbacks
  callbacks_kept : (n : ℕ) (w : KnownOfTimers)
      → Turns queued_firing x.timers.about context base c.reading n l.pass.timers.known c.runs.before [] w c.runs.after c.log
      → Run n w
  callbacks_kept n w turns =
      let r = c.runs in
      let run = turns_kept s x next.world next.whole.queue next.range.limit.0 l.label context base c.reading n
      r.before r.after l.pass.timers.known w c.log r.objects r.callbacks r.fresh.0 r.fresh.1 turns in
      rw (← r.pass.0, ← r.pass.1, ← r.back.0, ← r.back.1, ← r.logs.0, ← r.logs.1) run.0

  -- what held of all timers and bases by the reading, after what the lane has then seen, holds in the run
  held : (e : Ending) → Follows m.pass e → IsJoined s e → (P : System → ClockReading → Type 0)
      → P (system_after x.timers.about.timers m.pass.timers.known.seen) c.reading
      → P (witnesses.system_along (witness_of s e) (length m.pass.timers.known.seen)) (reading_at e.run.clock c.reading.stamp)
  held e follows joined P now = subst (P _) (sym (reading_goes_on l.pass m.pass c.reading c.reads e follows.clock))
      (stays next.world.timers joined m.pass.timers.known.seen follows.timers (λ u. P u c.reading) now)

  -- by its answer
  answer_kept : (answer : ExpireAnswer)
      → Expires queued_firing x.timers.about context base c.reading budget l.pass.timers.known c.runs.before [] m.pass.timers.known c.runs.after c.log answer
      → KeepsCall s l (calls.Expire context base budget) (expire_told c.reading.stamp (claimed_in c.log) answer) m
  answer_kept (expiries.More n) run =
      let ran = callbacks_kept n m.pass.timers.known run.1 in
      keeps_run (λ ts. answers.More c.reading.stamp ts) ran (λ e follows joined kept low have. expire_more e.order kept low have (ran.many
      ∙ run.0))
  answer_kept (expiries.Done n) run =
      let ran = run_later (callbacks_kept n run.1.0 run.1.1) run.1.2.0 in
      let none = run.1.2.1 in
      keeps_run (λ ts. answers.Done c.reading.stamp ts) ran
      (λ e follows joined kept low have. expire_done e.order kept low have (omega (arith, ran.many, run.0)) (record {
        free = λ t. held e follows joined (λ u r. runs_on base (seen_in context (u.timers t)) ≡ false) (none.idle t);
        first = held e follows joined (λ u r. next_on context (u.bases base) r ≡ None) none.first;
        stopped = λ clock. held e follows joined (λ u r. IsStopped (in_context context u.timers) base r clock) (none.none clock);
      }))
  answer_kept (expiries.BaseBusy n t g) run =
      let ran = run_later (callbacks_kept n run.1.0 run.1.1) run.1.2.0 in
      keeps_run (λ ts. answers.Busy c.reading.stamp ts t g) ran
      (λ e follows joined kept low have. expire_busy e.order kept low have (omega (arith, ran.many, run.0))
      (held e follows joined (λ u r. running_on base (seen_in context (u.timers t)) ≡ Some g) run.1.2.1))

  -- law: a lane keeps an expiry run
  pub keeps_expire : KeepsCall s l (calls.Expire context base budget) a m
  keeps_expire = subst (λ a. KeepsCall s l (calls.Expire context base budget) a m) (sym c.told) (answer_kept c.answer c.runs.expires)
