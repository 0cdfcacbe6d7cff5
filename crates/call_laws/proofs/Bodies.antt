-- The callbacks of timers by themselves, behind the claims that they are run for.
use Rattle.call_laws.proofs.Parts.{part_alone}
use Rattle.call_laws.proofs.Stays.{saw_quiet, timer_stays}
use Rattle.pass_names.proofs.Passes.{begins_trans}
use Rattle.call_laws.proofs.Parts.{part_none}
use Rattle.pass_names.specs.Passes.{Begins}
use Rattle.std.proofs.Common.{◌++◌}
use Rattle.std.proofs.Common.{◌≡◌, ◌≤◌, ◌<◌, ℕ, ◌+◌, length, inl, inr, IsSome, Some, List, [], ◌∷◌, arith, le_refl, refl, sym, ap, ◌∙◌, subst}
use Rattle.std.proofs.lemmas.List.{append-nil}
use Rattle.ktime.specs.Readings.{ClockReading}
use Rattle.seq_timer.specs.declared.context.Context.{Context}
use Rattle.ktime.specs.declared.mode.Mode.TheVariants as modes
use Rattle.seq_timer.specs.Histories as seq
use Rattle.seq_timer.specs.Histories.{Holds}
use Rattle.seq_timer.specs.Steps.{Timer, moved_by}
use Rattle.seq_timer.specs.Systems.{openings}
use Rattle.seq_timer.specs.declared.event.EventBy.TheVariants as events
use Rattle.seq_timer.specs.Events.{Asked, Event}
use Rattle.seq_timer.specs.declared.observation.Observation.TheVariants as observations
use Rattle.seq_timer.specs.declared.observation.Observation.{Observation}
use Rattle.seq_timer.specs.declared.system.SystemEntry.{SystemEntry}
use Rattle.seq_timer.specs.Calls.{asked_for, entries_along}
use Rattle.seq_timer.specs.declared.answer.ForwardAnswer.{ForwardAnswer}
use Rattle.seq_timer.specs.declared.answer.ForwardAnswer.TheVariants as forwards
use Rattle.base_row.specs.declared.view.Opening.{Opening}
use Rattle.hr_timers.specs.Calls.{Forwards, StartsTimer}
use Rattle.hr_timers.specs.Known.{KnownOfTimers, MadeAt, timer_then}
use Rattle.hr_timers.specs.Ways.{IsSentBy, asking, start_on}
use Rattle.hr_timers.specs.declared.answer.StartAnswer.{StartAnswer}
use Rattle.hr_timers.specs.declared.answer.StartAnswer.TheVariants as starts
use Rattle.hr_timers.specs.declared.numbers.ClaimNumbers.{ClaimNumbers}
use Rattle.hr_timers.specs.Handlers.{asks}
use Rattle.hr_timers.specs.declared.handler.Restart.{Restart}
use Rattle.timer_objects.specs.Callbacks.{forward_noted, IsUnsent, look_receipt, RunsCallback, start_noted}
use Rattle.base_row.specs.Logs.{receipts_of}
use Rattle.record_text.specs.declared.record.CallbackReply.TheVariants as replies
use Rattle.record_text.specs.declared.record.CallbackReply.{CallbackReply}
use Rattle.record_text.specs.declared.record.ClockLine.{ClockLine}
use Rattle.record_text.specs.declared.record.Label.{Label}
use Rattle.seq_timer.specs.declared.event.Restarted.{Restarted}
use Rattle.script_text.specs.Declarations.{declareds_of, terms_of, kind_of}
use Rattle.run_history.specs.Actions.{Action, Entered, Looked, made}
use Rattle.run_history.specs.Told.{IsArmedBelowLimit, observed}
use Rattle.script_text.specs.declared.script.Callback.TheVariants as callbacks
use Rattle.script_text.specs.declared.script.Callback.{Callback}
use Rattle.script_text.specs.declared.script.Kind.TheVariants as kinds
use Rattle.script_text.specs.declared.script.Script.{Script}
use Rattle.lane_notes.specs.Entries.{look_noted}
use Rattle.run_history.specs.Deeds.{IsBody}
use Rattle.run_history.specs.Truths.{sight_of}
use Rattle.run_history.specs.Receipts.{count_owned}
use Rattle.run_history.specs.Promises.{RunGoesOn}
use Rattle.run_history.specs.Runs.{witness_of, Ending, IsJoined}
use Rattle.run_history.specs.Witnesses.{TimersList}
use Rattle.lane_notes.proofs.SeenMore.{begins_same, count_begins, goes_before}
use Rattle.lane_notes.specs.Worlds.{callback_of, opening_for}
use Rattle.call_laws.proofs.Entering.{enters_none, stamp_counts}
use Rattle.run_history.proofs.Stamped.{HasReading, entry_stamped}
use Rattle.call_laws.proofs.Parts.{BodyKept, ClockHas, IsClaimed, fired_of, part_at, part_claimed, part_looked}
use Rattle.timer_objects.specs.QueuedFirings.{QueuedFiring}
use Rattle.call_laws.proofs.Signals.{turns_none}
use Rattle.call_laws.proofs.Entering.{looks_made}
use Rattle.call_laws.proofs.SeenOff.{sent_seen}
use Rattle.call_laws.proofs.Starts.{arming_of, is_arming, limit_within}

-- ---- timers by themselves

module _ (s : Script) (o : Opening) (is : o ≡ opening_for s) (some : 1 ≤ s.limit)
    (label : Label) (c : ClaimNumbers) (reading : ClockReading) {base : ℕ} {k v : KnownOfTimers}
    (claim : IsClaimed s base c reading k v) (restart : Restart) (w : KnownOfTimers) (h h' : QueuedFiring)
    (same : h'.objects_pass.now ≡ h.objects_pass.now) (same_log : h'.object_log.receipts ≡ h.object_log.receipts)
    (same_signals : h'.signal_pass.now ≡ h.signal_pass.now) where
  on : o.timers ≡ openings (declareds_of s) (terms_of s)
  on = ap (λ (x : Opening). x.timers) is

  -- the function's actions are those of the timer's callback
  abbrev Does : List Action → Type 0
  Does body = (e : Ending) → IsJoined s e → RunGoesOn w.seen e → (finish : ℕ) (restarted : Restarted)
      → IsBody (sight_of (witness_of s e) (length v.seen) (length w.seen)) s (kind_of s c.timer) reading.stamp
      (fired_of c body finish (asks restart) restarted)

  -- a callback that looked at its timer and made no entry
  looked_kept : {at : List SystemEntry} {number : ℕ} (event : Event) (observation : Observation) (reply : CallbackReply) → MadeAt v w c.timer at []
      → look_noted observation ≡ Some reply → observed reply ≡ observation
      → h'.log.receipts ≡ h.log.receipts ++ look_receipt c number event observation ∷ [] → number ≡ (timer_then o at c.timer).stamp
      → Holds (timer_then o at c.timer) observation → IsArmedBelowLimit s.limit number reply → Does (Looked c.timer number reply ∷ [])
      → BodyKept s label claim restart w h h'
  looked_kept {at = at} {number = number} event observation reply made noted observes logs stamp holds below does =
      let counted : number ≡ count_owned (TimersList c.timer) at = stamp ∙ stamp_counts o (declareds_of s) (terms_of s) at c.timer on in
      let looks = looks_made made in
      record {
        body = Looked c.timer number reply ∷ [];
        notes = [];
        more = look_receipt c number event observation ∷ [];
        object_more = [];
        adds = (logs, same_log ∙ sym (append-nil h.object_log.receipts));
        enters = enters_none looks.0 looks.1;
        whole = refl;
        part = part_alone same (part_looked claim number event observation reply looks.0 looks.1 noted
            (omega (arith, counted, (count_begins (TimersList c.timer) made.from))) (omega (arith, counted, (count_begins (TimersList c.timer) made.seen))));
        turned = [];
        turns = turns_none (ap (λ u. u.knows) same_signals);
        ran = λ e joined goes finish restarted.
            (does e joined goes finish restarted, (rw observes (saw_quiet is joined goes made number observation stamp holds), below));
      }

  -- a callback that made an entry of its timer
  entered_kept : {at : List SystemEntry} {e : seq.Entry} → MadeAt v w c.timer at (e ∷ [])
      → ((clock : List ClockLine) → ClockHas reading clock → HasReading clock e.event)
      → h'.log.receipts ≡ h.log.receipts ++ receipts_of c.timer (timer_then o at c.timer).stamp (e ∷ [])
      → Does (Entered c.timer ((timer_then o at c.timer).stamp + 1) (entry_stamped e) ∷ []) → BodyKept s label claim restart w h h'
  entered_kept {at = at} {e = e} made reads logs does =
      let its = part_at {IsSo = ClockHas reading} {label = label} o {p = h.objects_pass.now} on made (λ clock has. (reads clock has, tt)) in
      record {
        body = Entered c.timer ((timer_then o at c.timer).stamp + 1) (entry_stamped e) ∷ [];
        notes = its.0;
        more = receipts_of c.timer (timer_then o at c.timer).stamp (e ∷ []);
        object_more = [];
        adds = (logs, same_log ∙ sym (append-nil h.object_log.receipts));
        enters = its.1.enters;
        whole = refl;
        part = part_alone same (part_claimed claim (receipts_of c.timer (timer_then o at c.timer).stamp (e ∷ [])) [] its.1);
        turned = [];
        turns = turns_none (ap (λ u. u.knows) same_signals);
        ran = λ e joined goes finish restarted. (does e joined goes finish restarted, tt);
      }

  -- law: the actions of the callback of a timer by itself, as its timer declares it
  pub callback_kept : (y : Context) (callback : Callback) → kind_of s c.timer ≡ kinds.Raw y callback
      → RunsCallback o v w c reading h.log.receipts h'.log.receipts (callback_of (kinds.Raw y callback)) restart
      → BodyKept s label claim restart w h h'
  callback_kept y callbacks.Once kind run =
      record {
        body = [];
        notes = [];
        more = [];
        object_more = [];
        adds = (run.1 ∙ sym (append-nil h.log.receipts), same_log ∙ sym (append-nil h.object_log.receipts));
        enters = enters_none looks.0 looks.1;
        whole = refl;
        part = part_alone same (part_claimed claim [] [] (part_none looks.0 looks.1));
        turned = [];
        turns = turns_none (ap (λ u. u.knows) same_signals);
        ran = λ e joined goes finish restarted. (rw kind (refl, ap asks run.2), tt);
      }
    where
      looks : Begins v.seen w.seen × (w.mine ≡ v.mine)
      looks = (begins_same (ap (λ k. k.seen) run.0), ap (λ k. k.mine) run.0)
  callback_kept y (callbacks.Every interval) kind run = forwards_kept run.0.answer run.0.forwards run.0.receipts
    where
      forwards_kept : (answer : ForwardAnswer) (f : Forwards o v w c reading interval answer)
          → h'.log.receipts ≡ h.log.receipts ++ forward_noted c (timer_then o f.at c.timer) reading interval answer → BodyKept s label claim restart w h h'
      forwards_kept (forwards.Spent n) f logs =
          looked_kept (events.Forward reading interval) observations.Spent replies.Spent f.made refl refl logs f.fits.1 f.fits.0 tt
          (λ e joined goes finish restarted. rw kind (inr (inr (n, refl)), ap asks run.1))
      forwards_kept (forwards.Armed g n) f logs =
          looked_kept (events.Forward reading interval) (observations.Armed g) (replies.Armed g) f.made refl refl logs f.fits.2
          (subst IsSome (sym f.runs) refl, f.fits.1)
          (let most = limit_within s o is some f.at c.timer in omega (arith, f.fits.0, f.fits.2, most))
          (λ e joined goes finish restarted. rw kind (inr (inl (n, g, refl)), ap asks run.1))
      forwards_kept (forwards.Forwarded number moved) f logs =
          let u = timer_then o f.at c.timer in
          entered_kept f.made (λ clock has. ap (λ r. events.Forward r interval) has) logs
          (λ e joined goes finish restarted. rw kind (inl (u.stamp + 1, moved_by u reading interval, refl), ap asks run.1))
  callback_kept y callbacks.Cancels kind run =
      looked_kept events.Cancel (observations.Running c.generation) (replies.Running c.generation) run.0.cancels.made refl refl run.0.receipt
      run.0.cancels.fits.1 run.0.cancels.fits.0 tt (λ e joined goes finish restarted. rw kind ((run.0.stamp, refl), ap asks run.1))
  callback_kept y (callbacks.Starts ns asked) kind run = begins_kept run.0.answer run.0.starts run.0.runs run.0.unsent run.0.receipts
    where
      asks_for : Asked
      asks_for = asked_for modes.Rel ns 0 asked reading

      begins_kept : (answer : StartAnswer) → (f : StartsTimer o v w c.timer asks_for answer) → (timer_then o f.at c.timer).running ≡ Some c.generation
          → IsUnsent f.sent answer → h'.log.receipts ≡ h.log.receipts ++ start_noted c (timer_then o f.at c.timer) asks_for answer
          → BodyKept s label claim restart w h h'
      begins_kept (starts.Spent n) f runs unsent logs =
          looked_kept (events.Start asks_for) observations.Spent replies.Spent f.made refl refl logs f.fits.2 f.fits.1 tt
          (λ e joined goes finish restarted. rw kind (inr (n, refl), ap asks run.1))
      begins_kept (starts.Started was generation last outs placed) f runs unsent logs =
          let u = timer_then o f.at c.timer in
          let fits = f.fits.2 in
          let same_last : f.last ≡ last = cc in
          let made : MadeAt v w c.timer f.at (entries_along u (events.Start (asking asks_for last) ∷ [])) =
          subst (λ b. MadeAt v w c.timer f.at (entries_along u (start_on asks_for [] b))) same_last
          (subst (λ bs. MadeAt v w c.timer f.at (entries_along u (start_on asks_for bs f.last))) unsent f.made) in
          let way : IsSentBy o w.seen c.timer v.seen u.stamp asked [] last =
          subst (λ b. IsSentBy o w.seen c.timer v.seen u.stamp asked [] b) same_last
          (subst (λ bs. IsSentBy o w.seen c.timer v.seen u.stamp asked bs f.last) unsent f.on_way) in
          let few : u.stamp < s.limit = omega (arith, f.fits.1, (limit_within s o is some f.at c.timer)) in
          entered_kept made (λ clock has. ap (λ r. events.Start (asked_for modes.Rel ns 0 last r)) has) logs
          (λ e joined goes finish restarted.
          let sight = sight_of (witness_of s e) (length v.seen) (length w.seen) in
          let seen = begins_trans f.made.from f.made.seen in rw kind (
            inl (
              arming_of u asks_for [] last,
              refl,
              record {
                begun = length v.seen;
                from = le_refl (length v.seen);
                claimed = omega (
                  arith,
                  claim.within,
                  stamp_counts o (declareds_of s) (terms_of s) v.seen c.timer on,
                  ap (λ (y : Timer). y.stamp) (timer_stays is joined v.seen (goes_before seen goes) c.timer),
                );
                arming = is_arming sight c.timer s.limit asked u asks_for [] last few
                    (sent_seen s o is e joined v.seen w.seen goes c.timer u asked [] last way);
              },
            ),
            ap asks run.1,
          ))
