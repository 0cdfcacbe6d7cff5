-- What the claim of an object's timer does: a trigger of the object, which made an entry of it or was refused.
use Rattle.call_laws.proofs.Noted.{HasWholeTurns, notes_of, same_notes}
use Rattle.call_laws.proofs.Parts.{IsPart}
use Rattle.std.proofs.Common.{◌≡◌, ◌≤◌, ℕ, suc, ◌+◌, Bool, true, false, if◌then◌else◌, List, [], ◌∷◌, ◌++◌, length, arith, refl, sym, ap, ◌∙◌, subst, inl, inr}
use Rattle.std.proofs.Math.Logic.{⊎_elim}
use Rattle.std.proofs.lemmas.List.{append-nil}
use Rattle.ktime.specs.Readings.{ClockReading}
use Rattle.timer_setting.specs.Phases.{is_expiry_of}
use Rattle.timer_setting.specs.declared.trigger_answer.TriggerAnswer.TheVariants as triggers
use Rattle.timer_setting.specs.declared.object_call.ObjectCall.TheVariants as object_calls
use Rattle.timer_setting.specs.declared.object_call.ObjectReply.TheVariants as replies
use Rattle.hr_timers.specs.Known.{KnownOfTimers}
use Rattle.hr_timers.specs.declared.numbers.ClaimNumbers.{ClaimNumbers}
use Rattle.hr_timers.specs.Handlers.{asks}
use Rattle.hr_timers.specs.declared.handler.Restart.TheVariants as wishes
use Rattle.hr_timers.specs.declared.handler.Restart.{Restart}
use Rattle.timer_objects.specs.Known.{ObjectsOf, ObjectsPass, seen_of}
use Rattle.timer_objects.specs.Steps.{object_answer, ObjectAllows, object_timer}
use Rattle.timer_objects.proofs.AsKind.{objects_are_a_kind}
use Rattle.timer_objects.specs.Triggers.{EntersTrigger, trigger_refused, SkipsTrigger, Triggers}
use Rattle.timer_objects.specs.declared.log.ObjectReceipt.{ObjectReceipt}
use Rattle.timer_objects.specs.declared.object.Object.{Object}
use Rattle.timer_setting.specs.declared.object_call.ObjectCall.{ObjectCall}
use Rattle.timer_setting.specs.declared.object_call.ObjectReply.{ObjectReply}
use Rattle.record_text.specs.declared.record.Label.{Label}
use Rattle.record_text.specs.declared.record.ObjectEntry.TheVariants as object_entries
use Rattle.run_history.specs.Starts.{Sight}
use Rattle.run_history.specs.Actions.{Began, Made, Signalled, Skipped}
use Rattle.run_history.specs.Histories.{reading_at}
use Rattle.script_text.specs.Declarations.{kind_of}
use Rattle.script_text.specs.declared.script.Script.{Script}
use Rattle.run_history.specs.Deeds.{IsBody, IsQueuedTrigger, IsTrigger}
use Rattle.run_history.specs.Witnesses.{Fired}
use Rattle.run_history.specs.Witnesses.{TimersList}
use Rattle.lane_notes.specs.Runs.{ObjectMove}
use Rattle.lane_notes.proofs.SeenMore.{count_begins}
use Rattle.call_laws.proofs.ObjectTurns.{enters_entry, enters_turn, entries_had}
use Rattle.timer_objects.specs.QueuedFirings.{QueuedFiring}
use Rattle.timer_objects.specs.Signals.{FiresQueued, IsPushedBy, object_sends, Overflows, Sends}
use Rattle.timer_objects.specs.declared.object.Kind.TheVariants as over
use Rattle.timer_objects.specs.declared.object.Object.TheVariants as objects
use Rattle.timer_objects.specs.Known.{decl_at}
use Rattle.timer_objects.specs.Steps.{kind_over}
use Rattle.signal_queue.specs.declared.signal.Signal.{Signal}
use Rattle.signal_queue.specs.declared.signal.Turn.{Turn}
use Rattle.signal_queue.specs.declared.signal.Turn.TheVariants.{Pushed}
use Rattle.signal_queue.specs.declared.view.QueueView.{QueueView}
use Rattle.ordered_clock.specs.Moments.{RisesAt}
use Rattle.ordered_signals.specs.Places.{pushes_seen}
use Rattle.run_history.specs.Receipts.{PlacedEntry}
use Rattle.run_history.specs.Signals.{SendsSignals, most_signals, push_counter}
use Rattle.run_history.specs.Witnesses.{OfRise}
use Rattle.run_history.proofs.Known.{made_goes_on, made_wider}
use Rattle.lane_notes.specs.Notes.{no_notes}
use Rattle.lane_notes.specs.Worlds.{IsWorldOf, WorldOf}
use Rattle.lane_notes.proofs.Kept.{signals_of}
use Rattle.lane_notes.proofs.SeenMore.{goes_before}
use Rattle.script_text.specs.declared.script.Kind.TheVariants as kinds
use Rattle.call_laws.proofs.Signals.{TurnsPart, counter_of_pushes, has_ring, push_numbered, stood, turns_looked, turns_none, turns_one, waits}
use Rattle.pass_names.proofs.Passes.{begins_length, begins_trans}
use Rattle.run_history.specs.Promises as promises
use Rattle.run_history.specs.Runs.{Ending, IsJoined, witness_of}
use Rattle.run_history.specs.Truths.{sight_of}
use Rattle.run_history.specs.Actions.{Action}
use Rattle.run_history.proofs.Expires.{ReplyHolds}
use Rattle.seq_timer.specs.declared.event.Restarted.{Restarted}
use Rattle.record_text.specs.declared.record.ObjectEntry.{ObjectEntry}
use Rattle.call_laws.proofs.Entering.{EntersOne, enters_none, enters_risen}
use Rattle.lane_notes.proofs.PartLists.{rises_none}
use Rattle.call_laws.proofs.Parts.{BodyKept, fired_of, ClockHas, IsClaimed, IsNotedAs, noted_at, objects_grow, part_began, part_claimed, part_made, part_none, part_signalled, part_then}

-- ---- the note of a trigger

-- a trigger that made an entry: whether it counted, and the record's entry of it
pub record TriggerNoted (object : Object) (call : ObjectCall) (reply : ObjectReply) (generation : ℕ) (reading : ClockReading) : Type 0 where
  pub counted : Bool
  pub is : is_expiry_of (object_timer object).phase generation reading ≡ counted
  pub noted : IsNotedAs (λ clock. reading_at clock reading.stamp ≡ reading) call reply (object_entries.Trigger generation reading.stamp counted)

-- law: a trigger of an object that made an entry is noted
object_triggered : (x : Object) (generation : ℕ) (reading : ClockReading) → ObjectAllows x (object_calls.Trigger generation reading)
    → TriggerNoted x (object_calls.Trigger generation reading) (object_answer x (object_calls.Trigger generation reading)) generation reading
object_triggered x generation reading allows =
    let call : ClockReading → ObjectCall = λ r. object_calls.Trigger generation r in
    subst (λ r. TriggerNoted x (call reading) r generation reading) (sym (objects_are_a_kind.triggered x generation reading allows))
    (elim (is_expiry_of (object_timer x).phase generation reading) as (λ b. is_expiry_of (object_timer x).phase generation reading ≡ b
    → TriggerNoted x (call reading) (replies.Trigger (if b then triggers.Counted else triggers.Stale)) generation reading) [
      | true ↦ λ is. record { counted = true; is = is; noted = noted_at reading call _ _ refl refl (λ clock. refl) }
      | false ↦ λ is. record { counted = false; is = is; noted = noted_at reading call _ _ refl refl (λ clock. refl) }
    ] refl)

-- an object that sends signals does so where its expiry counts
sends_as : (x : Object) (generation : ℕ) (reading : ClockReading) → kind_over x ≡ over.Queued
    → object_sends x generation reading ≡ is_expiry_of (object_timer x).phase generation reading
sends_as (objects.Queued t) generation reading kind = refl
sends_as x generation reading kind = absurd (cc)

-- an overflow is noted
overflowed : (x : Object) (generation : ℕ) (reading : ClockReading) → kind_over x ≡ over.Queued
    → IsNotedAs (λ clock. reading_at clock reading.stamp ≡ reading) (object_calls.Overflow generation reading)
    (object_answer x (object_calls.Overflow generation reading)) (object_entries.Overflow generation reading.stamp)
overflowed (objects.Queued t) generation reading kind = noted_at reading (λ r. object_calls.Overflow generation r) _ _ refl refl (λ clock. refl)
overflowed x generation reading kind = absurd (cc)

-- ---- the trigger

module _ (s : Script) (x : ObjectsOf) (limit : x.limit ≡ s.limit) (some : 1 ≤ s.limit) (label : Label) (c : ClaimNumbers)
    (reading : ClockReading) {base : ℕ} {k v : KnownOfTimers} (claim : IsClaimed s base c reading k v) (restart : Restart) (w : KnownOfTimers)
    (h h' : QueuedFiring) (same_log : h'.log.receipts ≡ h.log.receipts) (stops : restart ≡ wishes.Stop) where
  abbrev call : ObjectCall
  call = object_calls.Trigger c.generation reading

  abbrev p : ObjectsPass
  p = h.objects_pass.now

  abbrev q : ObjectsPass
  q = h'.objects_pass.now

  -- what the function did is what its timer declares, and what it was told holds
  abbrev RanSo : List PlacedEntry → List Action → Type 0
  RanSo notes body = (e : Ending) → IsJoined s e → promises.RunGoesOn w.seen e → (finish : ℕ) (restarted : Restarted)
      → IsBody (sight_of (witness_of s e) (length v.seen) (length w.seen)) s (kind_of s c.timer) reading.stamp
      (fired_of c body finish (asks restart) restarted)
      × ReplyHolds (witness_of s e) e.order (length v.seen) (length w.seen) notes body

  -- the pushes that it made
  abbrev Turned : List Action → List (ℕ × Turn) → Type 0
  Turned body turned = TurnsPart s h.signal_pass.now.knows h'.signal_pass.now.knows (signals_of body) turned

  -- a turn of the object with one entry, and what it did between
  abbrev turn_with : ℕ → List Action → ObjectEntry → List Action
  turn_with many ds entry = Began c.timer many ∷ ds ++ Made c.timer (many + 1) entry ∷ []

  module _ {made : ObjectCall} (t : EntersTrigger x p q h.object_log.receipts h'.object_log.receipts v w c.timer made) where
    abbrev many : ℕ
    many = length t.commits.adds.before

    -- the receipts of the turn's beginning and of the entry
    abbrev opens : EntersOne s (ClockHas reading) v t.begun (many + many + 1, OfRise (suc c.timer))
    opens = enters_turn t.turn s (ClockHas reading)

    abbrev closes : EntersOne s (ClockHas reading) t.worked w (many + 1 + (many + 1), OfRise (suc c.timer))
    closes = enters_entry t.turn s (ClockHas reading)

    -- a trigger that made an entry
    entered_body : (entry : ObjectEntry) → IsNotedAs (ClockHas reading) made (object_answer t.commits.state made) entry → {ds : List Action}
        {notes : List PlacedEntry} → IsPart s (ClockHas reading) label t.begun p t.worked p ds notes no_notes → HasWholeTurns (turn_with many ds entry)
        → {turned : List (ℕ × Turn)} → Turned (turn_with many ds entry) turned
        → RanSo (opens.0 ∷ notes ++ closes.0 ∷ []) (turn_with many ds entry) → BodyKept s label claim restart w h h'
    entered_body entry noted {ds} {notes} work whole {turned} are ran =
        let step : ObjectMove = record { call = made; reply = object_answer t.commits.state made } in
        let r : ObjectReceipt = record { object = c.timer; number = many + 1; call = step.call; reply = step.reply } in
        let part : IsPart s (ClockHas reading) label v p w q (turn_with many ds entry) (opens.0 ∷ notes ++ closes.0 ∷ []) (notes_of label [] (r ∷ [])) =
        part_then (part_began c.timer many opens) (part_then work (part_made {step = step} t.commits.adds t.commits.opening noted closes)) in
        record {
          body = turn_with many ds entry;
          notes = opens.0 ∷ notes ++ closes.0 ∷ [];
          more = [];
          object_more = r ∷ [];
          adds = (same_log ∙ sym (append-nil h.log.receipts), t.receipt);
          enters = part.enters;
          whole = whole;
          part = part_claimed claim [] (r ∷ []) part;
          turned = turned;
          turns = are;
          ran = ran;
        }

    -- one in whose turn timers were only looked at
    quiet_body : (entry : ObjectEntry) → IsNotedAs (ClockHas reading) made (object_answer t.commits.state made) entry
        → TurnsPart s h.signal_pass.now.knows h'.signal_pass.now.knows [] [] → RanSo (opens.0 ∷ closes.0 ∷ []) (turn_with many [] entry)
        → BodyKept s label claim restart w h h'
    quiet_body entry noted are ran = entered_body entry noted {ds = []} (part_none t.looks.seen t.looks.mine) refl are ran

  -- a trigger that a full history refused
  refused_body : SkipsTrigger x p q h.object_log.receipts h'.object_log.receipts v w c.timer call → h'.signal_pass.now.knows ≡ h.signal_pass.now.knows
      → ((sight : Sight) (f : Fired) (number : ℕ) → f.body ≡ Skipped f.timer number f.generation ∷ [] → f.restart ≡ false
      → IsBody sight s (kind_of s c.timer) reading.stamp f)
      → BodyKept s label claim restart w h h'
  refused_body t same_signals is_body =
      let many = length (seen_of q c.timer) in
      let r : ObjectReceipt = record { object = c.timer; number = many; call = call; reply = trigger_refused many } in
      let body = Skipped c.timer many c.generation ∷ [] in
      let grows = objects_grow p q t.reads.pass.seen in
      let part : IsPart s (ClockHas reading) label v p w q body [] (notes_of label [] (r ∷ [])) = record {
        enters = enters_none t.looks.seen t.looks.mine;
        are = refl;
        told = same_notes refl;
        goes_on = t.reads.pass.seen;
        opening = t.reads.opening;
        mine = t.reads.pass.mine ∙ sym (append-nil p.knows.pass.mine);
        each = ((omega (arith, t.full, limit, some), omega arith), tt);
        looks_rise = λ u. let le = count_begins (TimersList u) t.looks.seen in rises_none (omega (arith, le));
        rise = λ i. let le = grows i in rises_none (omega (arith, le));
      } in
      record {
        body = body;
        notes = [];
        more = [];
        object_more = r ∷ [];
        adds = (same_log ∙ sym (append-nil h.log.receipts), t.receipt);
        enters = part.enters;
        whole = refl;
        part = part_claimed claim [] (r ∷ []) part;
        turned = [];
        turns = turns_none same_signals;
        ran = λ e joined goes finish rearmed. (
          is_body _ (fired_of c body finish (asks restart) rearmed) many refl (ap asks stops),
          (entries_had c.timer many w joined goes t.told, omega (arith, t.full, limit)),
        );
      }

  -- law: what the claim of an object's timer does that sends no signals
  pub trigger_kept : ((sight : Sight) (f : Fired) → IsTrigger reading.stamp f → IsBody sight s (kind_of s c.timer) reading.stamp f)
      → h'.signal_pass.now ≡ h.signal_pass.now → Triggers x p q h.object_log.receipts h'.object_log.receipts v w c call → BodyKept s label claim restart w h h'
  trigger_kept is_body same triggers =
      let same_view : h'.signal_pass.now.knows ≡ h.signal_pass.now.knows = ap (λ u. u.knows) same in
      ⊎_elim
      (λ t.
      let n = object_triggered t.commits.state c.generation reading t.may in
      let many = length t.commits.adds.before in
      let entry = object_entries.Trigger c.generation reading.stamp n.counted in
      quiet_body t entry n.noted (turns_none same_view) (λ e joined goes finish rearmed.
      (is_body _ (fired_of c (turn_with many [] entry) finish (asks restart) rearmed) (inl (many, n.counted, refl), ap asks stops), tt)))
      (λ t. refused_body t same_view (λ sight f number is stopped. is_body sight f (inr (number, is), stopped))) triggers

  -- ---- a queued timer's

  module _ {world : WorldOf} (is : IsWorldOf s world) (asked : ℕ) (kind : kind_of s c.timer ≡ kinds.Queued asked)
      (declared : (decl_at x c.timer).kind ≡ over.Queued) (room : h.signal_pass.now.knows.room ≡ most_signals) where
    abbrev signals : QueueView
    signals = h.signal_pass.now.knows

    abbrev signals' : QueueView
    signals' = h'.signal_pass.now.knows

    is_queued : (sight : Sight) (f : Fired) → IsQueuedTrigger (push_counter s) reading.stamp f → IsBody sight s (kind_of s c.timer) reading.stamp f
    is_queued sight f is = subst (λ k. IsBody sight s k reading.stamp f) (sym kind) is

    -- the expiry that was entered, where it counts: its signal was sent
    sent_kept : (t : EntersTrigger x p q h.object_log.receipts h'.object_log.receipts v w c.timer call) (counted : Bool)
        → IsNotedAs (ClockHas reading) call (object_answer t.commits.state call) (object_entries.Trigger c.generation reading.stamp counted)
        → IsPushedBy world.timers.about t.begun t.worked counted signals signals'
        (record { timer = c.timer; number = length t.commits.adds.before + 1 }) → BodyKept s label claim restart w h h'
    sent_kept t true noted sent =
        let many = length t.commits.adds.before in
        let entry = object_entries.Trigger c.generation reading.stamp true in
        let signal : Signal = record { timer = c.timer; number = many + 1 } in
        let k = push_counter s in
        let number = pushes_seen signals' in
        let stands = subst (λ n. RisesAt n t.begun.seen t.worked.seen number) (counter_of_pushes is) (sent.3 (has_ring is room)) in
        let one : EntersOne s (ClockHas reading) t.begun t.worked (number, OfRise k) = enters_risen k number t.looks stands in
        let turned = turns_one (Pushed signal) sent.0 (subst SendsSignals (sym kind) tt) in
        entered_body t entry noted (part_signalled k number signal one) refl
        (subst (λ y. TurnsPart s signals signals' (y ∷ []) ((length sent.0.before, Pushed signal) ∷ [])) (push_numbered s signals signals' signal sent.0) turned)
        (λ e joined goes finish rearmed. (
          is_queued _ (fired_of c (turn_with many (Signalled k number signal ∷ []) entry) finish (asks restart) rearmed)
              (inr (inl (many, number, refl)), ap asks stops),
          tt,
        ))
    sent_kept t false noted same =
        let many = length t.commits.adds.before in
        let entry = object_entries.Trigger c.generation reading.stamp false in
        quiet_body t entry noted (turns_none same) (λ e joined goes finish rearmed.
        (is_queued _ (fired_of c (turn_with many [] entry) finish (asks restart) rearmed) (inl (many, refl), ap asks stops), tt))

    sends_kept : Sends world.timers.about x p q h.object_log.receipts h'.object_log.receipts v w signals signals' c.timer c.generation reading
        → BodyKept s label claim restart w h h'
    sends_kept its =
        let t = its.enters in
        let n = object_triggered t.commits.state c.generation reading t.may in
        sent_kept t n.counted n.noted (subst (λ b. IsPushedBy world.timers.about t.begun t.worked b signals signals'
        (record { timer = c.timer; number = length t.commits.adds.before + 1 }))
        (sends_as t.commits.state c.generation reading (sym t.declared.kind ∙ declared) ∙ n.is) its.sent)

    -- no room was found at a moment of the turn
    overflows_kept : Overflows world.timers.about x p q h.object_log.receipts h'.object_log.receipts v w signals signals' c.timer c.generation reading
        → BodyKept s label claim restart w h h'
    overflows_kept its =
        let t = its.enters in
        let many = length t.commits.adds.before in
        let entry = object_entries.Overflow c.generation reading.stamp in
        let stands = its.full.2 (has_ring is room) in
        let begun = opens t in
        let ended = closes t in
        quiet_body t entry (overflowed t.commits.state c.generation reading (sym t.declared.kind ∙ declared)) (turns_looked its.full.0.looks)
        (λ e joined goes finish rearmed.
        let worked = goes_before ended.1.seen goes in
        let at = goes_before stands.seen worked in
        let upto = goes_before (begins_trans stands.from stands.seen) worked in (
          is_queued _ (fired_of c (turn_with many [] entry) finish (asks restart) rearmed) (inr (inr (inl (many, refl))), ap asks stops),
          record {
            at = length stands.at;
            begun = begun.0;
            made = ended.0;
            is = refl;
            first = made_goes_on e.order t.begun.seen upto.0 (length v.seen) (length stands.at) (begun.0 ∷ []) upto.1
                (made_wider t.begun.seen (length v.seen) (length v.seen) (length t.begun.seen) (length stands.at) (begun.0 ∷ []) (omega arith)
                (begins_length stands.from) begun.1.made);
            last = made_goes_on e.order w.seen goes.0 (length stands.at) (length w.seen) (ended.0 ∷ []) goes.1
                (made_wider w.seen (length stands.at) (length t.worked.seen) (length w.seen) (length w.seen) (ended.0 ∷ []) (begins_length stands.seen)
                (omega arith) ended.1.made);
            waiting = stood is most_signals stands (waits signals' its.full.1 (its.full.0.full ∙ room)) joined at;
          },
        ))

    -- law: what the claim of a queued timer does
    pub queued_kept : FiresQueued world.timers.about x p q h.object_log.receipts h'.object_log.receipts v w signals signals' c.timer c.generation reading
        → BodyKept s label claim restart w h h'
    queued_kept fires =
        ⊎_elim sends_kept
        (λ more. ⊎_elim overflows_kept
        (λ its. refused_body its.skips its.none (λ sight f number is stopped. is_queued sight f (inr (inr (inr (number, is))), stopped))) more) fires
