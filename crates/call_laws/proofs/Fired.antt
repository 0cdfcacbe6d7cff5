-- The callbacks of an expiry run: one with its claim and its finish, and all of them one behind the other.
use Rattle.std.proofs.lemmas.List.Sorted.{IsPermutation-middle}
use Rattle.hr_timers.proofs.Moments.{declared_kept}
use Rattle.call_laws.proofs.Entering.{EntersOne}
use Rattle.call_laws.proofs.Noted.{HasWholeTurns, notes_of, one_noted, whole_turns-append, same-trans, same_notes, SameNotes}
use Rattle.call_laws.proofs.Parts.{part_entry, part_noted, part_then}
use Rattle.lane_notes.specs.Notes.{both_noted}
use Rattle.lane_notes.specs.Objects.{object_note, skip_note}
use Rattle.lane_notes.proofs.PartLists.{notes_same}
use Rattle.std.proofs.lemmas.List.Sorted.{IsPermutation-sym, IsPermutation-trans}
use Rattle.std.proofs.Common.{◌≡◌, ◌≤◌, ℕ, ◌+◌, unwrap_or, List, [], ◌∷◌, ◌++◌, length, length-append, map, get_or, arith, refl, sym, ap, ◌∙◌, subst, zero, suc, Option}
use Rattle.std.specs.List.Sorted.{IsPermutation}
use Rattle.std.proofs.lemmas.List.{append_assoc, append-nil, map-append}
use Rattle.std.proofs.lemmas.List.Sorted.{IsPermutation-cons, IsPermutation-to_front, IsPermutation-append_right}
use Rattle.ktime.specs.Readings.{ClockReading}
use Rattle.seq_timer.specs.declared.context.Context.{Context}
use Rattle.seq_timer.specs.declared.context.Declared.{Declared}
use Rattle.seq_timer.specs.declared.context.Terms.{Terms}
use Rattle.seq_timer.specs.declared.system.SystemEntry.{SystemEntry}
use Rattle.seq_timer.specs.Tables.{no_declared, timer_at}
use Rattle.seq_timer.specs.Steps.{Timer, reply_to, restarted_by}
use Rattle.seq_timer.specs.Systems.{entries_of, openings}
use Rattle.base_row.specs.declared.view.Opening.{Opening}
use Rattle.hr_timers.specs.Calls.{ClaimsNextDue}
use Rattle.hr_timers.specs.Known.{KnownOfTimers, timer_then}
use Rattle.hr_timers.specs.declared.numbers.ClaimNumbers.{ClaimNumbers}
use Rattle.hr_timers.specs.Expiring.{claim_receipt, finish_receipt, Turn, Turns}
use Rattle.hr_timers.specs.Handlers.{asks}
use Rattle.hr_timers.specs.declared.handler.Restart.{Restart}
use Rattle.base_row.specs.declared.log.Receipt.{Receipt}
use Rattle.timer_objects.specs.Callbacks.{RunsCallback}
use Rattle.timer_objects.specs.QueuedFirings.{FiresAll, FiresKind, QueuedFiring, queued_firing}
use Rattle.timer_objects.specs.Signals.{IsSignalPass}
use Rattle.signal_queue.specs.declared.signal.Turn as signal_turn
use Rattle.signal_queue.specs.declared.view.QueueView.{QueueView}
use Rattle.run_history.specs.Signals.{most_signals}
use Rattle.lane_notes.proofs.Kept.{signals_of}
use Rattle.call_laws.proofs.Signals.{signals_of-append, TurnsPart, turns_none, turns_then}
use Rattle.timer_objects.specs.Known.{decl_at, ObjectsPass}
use Rattle.timer_objects.specs.declared.log.ObjectReceipt.{ObjectReceipt}
use Rattle.record_text.specs.declared.record.Label.{Label}
use Rattle.script_text.specs.Declarations.{declared_of, declareds_of, terms_of, kind_of}
use Rattle.run_history.specs.Actions.{Entered}
use Rattle.run_history.specs.Objects.{present}
use Rattle.script_text.specs.declared.script.Kind.{Kind}
use Rattle.script_text.specs.declared.script.Script.{Script}
use Rattle.lane_notes.specs.Entries.{entry_notes, look_notes, entry_note, look_note}
use Rattle.run_history.specs.Deeds.{fires}
use Rattle.run_history.specs.Truths.{sight_of}
use Rattle.run_history.specs.Witnesses.{Fired, OfTimer, TimersList}
use Rattle.run_history.specs.Receipts.{PlacedEntry}
use Rattle.run_history.specs.Runs.{witness_of, Ending, IsJoined}
use Rattle.run_history.proofs.Expires.{claim_of, finish_of, HaveRun, run_push}
use Rattle.run_history.proofs.Known.{made_goes_on}
use Rattle.run_history.proofs.Reached.{body_wider, sight_wider}
use Rattle.lane_notes.specs.Called.{claimed_in}
use Rattle.lane_notes.proofs.SeenMore.{count_begins, goes_before, begins_same}
use Rattle.lane_notes.specs.Worlds.{callback_of, HasQueue, IsWorldOf, WorldOf}
use Rattle.lane_notes.proofs.Declared.{declared_callback, declared_over, over_of, room_known}
use Rattle.pass_names.proofs.Passes.{begins_length}
use Rattle.call_laws.proofs.Triggered.{queued_kept, trigger_kept}
use Rattle.std.specs.Prelude.{flat_map}
use Rattle.std.proofs.lemmas.List.Concat.{flat_map-append}
use Rattle.call_laws.proofs.Claimed.{claimed_in-append}
use Rattle.call_laws.proofs.Bodies.{callback_kept}
use Rattle.call_laws.proofs.Parts.{BodyKept, fired_of, ClockHas, IsClaimed, IsPart, part_none}
use Rattle.lane_notes.proofs.PartLists.{notes-append}
use Rattle.call_laws.proofs.Entering.{enters_once, stamp_counts}
use Rattle.seq_timer.specs.declared.event.Restarted.{Restarted}
use Rattle.seq_timer.specs.declared.event.Reply.TheVariants as replies
use Rattle.seq_timer.specs.declared.event.EventBy.TheVariants as events
use Rattle.timer_objects.specs.declared.callback.Callback.TheVariants as runs
use Rattle.script_text.specs.declared.script.Kind.TheVariants as kinds
use Rattle.run_history.specs.Promises as promises
use Rattle.run_history.proofs.Expires as expires

-- ---- lists

-- two items around a list, and both before it
woven : {A : Type 0} (l m b : List A) (c f : A) → IsPermutation ((l ++ c ∷ f ∷ []) ++ (m ++ b)) ((l ++ m) ++ (c ∷ b ++ f ∷ []))
woven l m b c f = rw (append_assoc l (c ∷ f ∷ []) (m ++ b), append_assoc l m (c ∷ b ++ f ∷ [])) (IsPermutation-append_right l _ _
    (IsPermutation-trans _ (c ∷ ((m ++ b) ++ f ∷ [])) _ (IsPermutation-cons c _ _ (IsPermutation-sym _ _ (IsPermutation-to_front (m ++ b) f)))
    (rw (append_assoc m b (f ∷ [])) (IsPermutation-sym _ _ (IsPermutation-middle m c (b ++ f ∷ []))))))

-- the notes of four logs
four : {R N : Type 0} (note : R → Option N) (a b c d : List R) → present (map note ((a ++ b) ++ (c ++ d)))
    ≡ (present (map note a) ++ present (map note b)) ++ (present (map note c) ++ present (map note d))
four note a b c d = rw (notes-append note (a ++ b) (c ++ d), notes-append note a b, notes-append note c d) refl

-- ---- the callbacks so far

-- callbacks of an expiry run from its beginning on: their actions, as a part of the call, and that they ran in every run that goes on from there
pub record RunKept (s : Script) (label : Label) (context : Context) (base : ℕ) (reading : ClockReading) (n : ℕ) (k : KnownOfTimers) (p : ObjectsPass)
    (u : QueueView) (k' : KnownOfTimers) (p' : ObjectsPass) (u' : QueueView) (log callback_log : List Receipt) (object_log : List ObjectReceipt) : Type 0 where
  pub fired : List Fired
  pub many : length fired ≡ n
  pub notes : List PlacedEntry
  pub claimed : claimed_in log ≡ map (λ f. f.timer) fired
  pub part : IsPart s (ClockHas reading) label k p k' p' (flat_map (fires base reading.stamp) fired) notes (notes_of label (log ++ callback_log) object_log)
  pub whole : HasWholeTurns (flat_map (fires base reading.stamp) fired)
  pub turned : List (ℕ × signal_turn.Turn)
  pub turns : TurnsPart s u u' (signals_of (flat_map (fires base reading.stamp) fired)) turned
  pub have : (e : Ending) → IsJoined s e → promises.RunGoesOn k'.seen e
      → HaveRun (witness_of s e) e.order context base reading.stamp (length k.seen) fired notes (length k'.seen)

-- as what a timer was opened
declared-opened : (list : List Declared) (terms : Terms) (t : ℕ) → (timer_at (openings list terms) t).declared ≡ get_or list t no_declared
declared-opened [] terms t = refl
declared-opened (d ∷ list) terms zero = refl
declared-opened (d ∷ list) terms (suc t) = declared-opened list terms t

-- ---- one callback behind them

module _ (s : Script) (x : WorldOf) (is : IsWorldOf s x) (queue : HasQueue x.objects) (some : 1 ≤ s.limit) (label : Label) (context : Context) (base : ℕ)
    (reading : ClockReading) where
  abbrev o : Opening
  o = x.timers.about

  on : o.timers ≡ openings (declareds_of s) (terms_of s)
  on = ap (λ (y : Opening). y.timers) is.timers

  -- a timer is declared as the script says, at all times
  declared_seen : (at : List SystemEntry) (t : ℕ) → (timer_then o at t).declared ≡ declared_of s t
  declared_seen at t =
      declared_kept o at t ∙ ap (λ (ts : List Timer). (timer_at ts t).declared) on ∙ declared-opened (declareds_of s) (terms_of s) t

  -- a claim
  claim_made : {k v : KnownOfTimers} {c : ClaimNumbers} → ClaimsNextDue o k v context base reading c → IsClaimed s base c reading k v
  claim_made {c = c} claims =
      let event = events.Claim base reading in
      let one = enters_once s (ClockHas reading) o on claims.made (λ clock has. ap (events.Claim base) has) claims.number in
      let own = length-append (entries_of c.timer claims.at) (record { event = event; reply = reply_to (timer_then o claims.at c.timer) event } ∷ []) in
      record {
        entered = (
          one.0,
          one.1,
          one.2 ∙ ap (λ g. (c.number, OfTimer c.timer (record { event = events.Claim base reading.stamp; reply = replies.Claim (unwrap_or g 0) })))
              claims.armed,
        );
        there = claims.there;
        some = omega (arith, claims.number);
        more = omega (arith, (count_begins (TimersList c.timer) claims.made.from), ap length claims.made.own, own);
        within = omega (arith, claims.number, stamp_counts o (declareds_of s) (terms_of s) claims.at c.timer on, ap length claims.made.own, own);
      }

  -- the function of a claim, by the handler's meaning
  fires_kept : (h h' : QueuedFiring) {k v : KnownOfTimers} (w : KnownOfTimers) {c : ClaimNumbers} (claim : IsClaimed s base c reading k v) (restart : Restart)
      → h.objects.now ≡ x.objects → h.callbacks.now ≡ x.callbacks → FiresAll o h h' v w c reading restart → BodyKept s label claim restart w h h'
  fires_kept h h' {v = v} w {c = c} claim restart objects handlers fires = by_kind (kind_of s c.timer) refl
    where
      over : (kind : Kind) → kind_of s c.timer ≡ kind → (decl_at h.objects.now c.timer).kind ≡ over_of kind
      over kind same = ap (λ y. (decl_at y c.timer).kind) objects ∙ declared_over s x c.timer is ∙ ap over_of same

      by_over : (kind : Kind) → kind_of s c.timer ≡ kind → FiresKind o h h' v w c reading restart (over_of kind)
      by_over kind same = subst (λ d. FiresKind o h h' v w c reading restart d) (over kind same) fires.fires

      limit : h.objects.now.limit ≡ s.limit
      limit = ap (λ y. y.limit) objects ∙ is.limit

      room : h.signal_pass.now.knows.room ≡ most_signals
      room = room_known x.objects h.signal_pass.now queue (subst (λ y. IsSignalPass y h.signal_pass.now) objects h.signals)

      by_kind : (kind : Kind) → kind_of s c.timer ≡ kind → BodyKept s label claim restart w h h'
      by_kind (kinds.Raw y callback) same =
          let run = by_over (kinds.Raw y callback) same in
          let its : get_or h.callbacks.now c.timer runs.Once ≡ callback_of (kinds.Raw y callback) =
          ap (λ cs. get_or cs c.timer runs.Once) (handlers ∙ is.callbacks) ∙ declared_callback s.timers c.timer ∙ ap callback_of same in
          callback_kept s o is.timers some label c reading claim restart w h h' run.1 run.2 run.3 y callback same
          (subst (λ cb. RunsCallback o v w c reading h.log.receipts h'.log.receipts cb restart) its run.0)
      by_kind (kinds.Posix asked) same =
          let run = by_over (kinds.Posix asked) same in
          trigger_kept s h.objects.now limit some label c reading claim restart w h h' run.2 run.3 (λ sight f its. rw same its) run.4 run.0
      by_kind (kinds.Fd asked) same =
          let run = by_over (kinds.Fd asked) same in
          trigger_kept s h.objects.now limit some label c reading claim restart w h h' run.2 run.3 (λ sight f its. rw same its) run.4 run.0
      by_kind (kinds.Queued asked) same =
          let run = by_over (kinds.Queued asked) same in
          queued_kept s h.objects.now limit some label c reading claim restart w h h' run.2 run.3 is asked same (over (kinds.Queued asked) same) room run.0
      by_kind (kinds.Sleeper asked) same =
          let run = by_over (kinds.Sleeper asked) same in
          trigger_kept s h.objects.now limit some label c reading claim restart w h h' run.2 run.3 (λ sight f its. rw same its) run.4 run.0

  -- a callback ran, with its claim and its finish, in every run that goes on from there
  turn_ran : {k v w k' : KnownOfTimers} {c : ClaimNumbers} {restart : Restart} {h h' : QueuedFiring} (claim : IsClaimed s base c reading k v)
      (b : BodyKept s label claim restart w h h') (number : ℕ) (restarted : Restarted)
      (own : (declared_of s c.timer).context ≡ context)
      (finish : EntersOne s (ClockHas reading) w k'
      (number, OfTimer c.timer (record { event = events.Finish (asks restart); reply = replies.Finish c.generation restarted })))
      → (e : Ending) → IsJoined s e → promises.RunGoesOn k'.seen e
      → (ran : expires.Ran (witness_of s e) e.order context base reading.stamp (fired_of c b.body number
      (asks restart) restarted) (length k.seen)
      (length k'.seen)) × (claim.entered.0 ∷ b.notes ++ finish.0 ∷ [] ≡ expires.notes_of ran)
  turn_ran {k = k} {v = v} {w = w} {k' = k'} {c = c} {restart = restart} claim b number restarted own finish e joined goes =
      let acted = goes_before finish.1.seen goes in
      let ran = b.ran e joined acted number restarted in
      let claimed = goes_before b.enters.seen acted in (
        record {
          claimed = length v.seen;
          acted = length w.seen;
          claim = claim.entered.0;
          body = b.notes;
          finish = finish.0;
          rise = begins_length claim.entered.1.seen;
          goes_on = begins_length b.enters.seen;
          ends = begins_length finish.1.seen;
          claim_made = made_goes_on e.order v.seen claimed.0 (length k.seen) (length v.seen) (claim.entered.0 ∷ []) claimed.1 claim.entered.1.made;
          claim_is = claim.entered.2;
          body_made = made_goes_on e.order w.seen acted.0 (length v.seen) (length w.seen) b.notes acted.1 b.enters.made;
          body_is = let all = b.part.are in cc;
          finish_made = made_goes_on e.order k'.seen goes.0 (length w.seen) (length k'.seen) (finish.0 ∷ []) goes.1 finish.1.made;
          finish_is = finish.2;
          own = own;
          kind = body_wider (sight_of (witness_of s e) (length v.seen) (length w.seen)) (sight_of (witness_of s e) (length k.seen) (length k'.seen))
              (sight_wider (witness_of s e) (begins_length claim.entered.1.seen) (begins_length finish.1.seen)) s (kind_of s c.timer) reading.stamp
              (fired_of c b.body number (asks restart) restarted) ran.0;
          holds = ran.1;
        },
        refl,
      )

  -- one more callback behind those that ran
  run_more : {n : ℕ} {k : KnownOfTimers} {p : ObjectsPass} {u : QueueView} {k1 : KnownOfTimers} (h : QueuedFiring) {k' : KnownOfTimers}
      (h' : QueuedFiring) {log log' : List Receipt}
      → h.objects.now ≡ x.objects → h.callbacks.now ≡ x.callbacks
      → RunKept s label context base reading n k p u k1 h.objects_pass.now h.signal_pass.now.knows log h.log.receipts h.object_log.receipts
      → Turn queued_firing o context base reading k1 h log k' h' log'
      → RunKept s label context base reading (suc n) k p u k' h'.objects_pass.now h'.signal_pass.now.knows log' h'.log.receipts h'.object_log.receipts
  run_more {k = k} {p = p} {u = u} {k1 = k1} h {k' = k'} h' {log = log} {log' = log'} objects handlers run turn =
      let c = turn.claim in
      let ran = turn.ran in
      let restart = asks ran.restart in
      let claim : IsClaimed s base c reading k1 turn.claimed = claim_made turn.claims in
      let b = fires_kept h h' ran.done claim ran.restart objects handlers ran.did in
      let t = timer_then o ran.finishes.at c.timer in
      let restarted = restarted_by t restart in
      let f = fired_of c b.body (t.stamp + 1) restart restarted in
      let own : (declared_of s c.timer).context ≡ context =
      sym (ap (λ (d : Declared). d.context) (declared_seen turn.claims.at c.timer)) ∙ turn.claims.context in
      let one = enters_once s (ClockHas reading) o {number = t.stamp + 1} on ran.finishes.made (λ clock has. refl) refl in
      let finish : EntersOne s (ClockHas reading) ran.done k' (t.stamp + 1, OfTimer c.timer (finish_of f)) = (
        one.0,
        one.1,
        one.2 ∙ ap (λ g. (
          t.stamp + 1,
          OfTimer c.timer (record {
            event = events.Finish restart;
            reply = replies.Finish
                (unwrap_or g 0) restarted;
          }),
        )) ran.finishes.runs,
      ) in
      let first = claim_receipt reading c in
      let p1 = h.objects_pass.now in
      let p' = h'.objects_pass.now in
      let at = reading.stamp in
      let done = flat_map (fires base at) run.fired in
      let one = fires base at f in
      let claiming = Entered f.timer f.claim (claim_of base at f) ∷ [] in
      let finishing = Entered f.timer f.finish (finish_of f) ∷ [] in
      let notes = claim.entered.0 ∷ b.notes ++ finish.0 ∷ [] in
      let part : IsPart s (ClockHas reading) label k1 p1 k' p' one notes
      (both_noted (notes_of label (first ∷ b.more) b.object_more) (one_noted label (Entered c.timer f.finish (finish_of f)))) =
      part_then b.part (part_entry _ _ _ finish) in
      let all : flat_map (fires base at) (run.fired ++ f ∷ []) ≡ done ++ one = rw (flat_map-append (fires base at) run.fired (f ∷ []), append-nil one) refl in
      let cb = h.log.receipts in
      let more = first ∷ (finish_receipt c ran.restart t) ∷ [] in
      let looks = look_notes label in
      let order : SameNotes (notes_of label ((log ++ more) ++ (cb ++ b.more)) (h.object_log.receipts ++ b.object_more))
      (both_noted (notes_of label (log ++ cb) h.object_log.receipts) _) = record {
        entries = rw (four (entry_note label) log more cb b.more, notes-append (entry_note label) log cb)
            (woven (entry_notes label log) (entry_notes label cb) (entry_notes label b.more) _ _);
        others = notes_same _ _ refl (four (look_note label) log more cb b.more ∙ ap (λ xs. xs ++ (looks cb ++ looks b.more)) (append-nil (looks log))
            ∙ sym (append_assoc (looks log) (looks cb) (looks b.more)) ∙ ap (λ xs. xs ++ looks b.more) (sym (notes-append (look_note label) log cb))
            ∙ ap (λ xs. looks (log ++ cb) ++ xs) (sym (append-nil (looks b.more))))
            (both (object_note label) h.object_log.receipts b.object_more) (both (skip_note label) h.object_log.receipts b.object_more) refl refl;
      } in
      let logs : notes_of label (log' ++ h'.log.receipts) h'.object_log.receipts
      ≡ notes_of label ((log ++ more) ++ (cb ++ b.more)) (h.object_log.receipts ++ b.object_more) =
      ap (λ rs. notes_of label (rs ++ h'.log.receipts) h'.object_log.receipts) turn.receipts
      ∙ ap (λ rs. notes_of label ((log ++ more) ++ rs) h'.object_log.receipts) b.adds.0
      ∙ ap (notes_of label ((log ++ more) ++ (cb ++ b.more))) b.adds.1 in
      record {
        fired = run.fired ++ f ∷ [];
        many = omega (arith, run.many, length-append run.fired (f ∷ []));
        notes = run.notes ++ notes;
        claimed = rw (turn.receipts, claimed_in-append log more, run.claimed) (sym (map-append (λ (g : Fired). g.timer) run.fired (f ∷ [])));
        part = rw all (part_noted (same-trans (same_notes logs) order) (part_then run.part part));
        whole = rw all (whole_turns-append done one run.whole (whole_turns-append b.body finishing b.whole refl));
        turned = run.turned ++ b.turned;
        turns = rw all (subst (λ ts. TurnsPart s u h'.signal_pass.now.knows ts (run.turned ++ b.turned)) (sym (signals_of-append done one
            ∙ ap (λ ts. signals_of done ++ ts) (signals_of-append b.body finishing ∙ append-nil (signals_of b.body)))) (turns_then run.turns b.turns));
        have = λ e joined goes.
            let one_run = turn_ran claim b (t.stamp + 1) restarted own finish e joined goes in
            rw one_run.1 (run_push (witness_of s e) e.order context base at (length k.seen) run.fired run.notes (length k1.seen) f (length k'.seen)
            (run.have e joined (goes_before part.enters.seen goes)) one_run.0);
      }
    where
      both : {R N : Type 0} (note : R → Option N) (xs ys : List R)
          → present (map note (xs ++ ys)) ≡ present (map note xs) ++ (present (map note ys) ++ [])
      both note xs ys = notes-append note xs ys ∙ ap (λ zs. present (map note xs) ++ zs) (sym (append-nil (present (map note ys))))

  -- law: so many turns, from empty logs on
  pub turns_kept : (n : ℕ) (h h' : QueuedFiring) (k k' : KnownOfTimers) (log' : List Receipt) → h.objects.now ≡ x.objects → h.callbacks.now ≡ x.callbacks
      → h.log.receipts ≡ [] → h.object_log.receipts ≡ [] → Turns queued_firing o context base reading n k h [] k' h' log'
      → RunKept s label context base reading n k h.objects_pass.now h.signal_pass.now.knows k' h'.objects_pass.now h'.signal_pass.now.knows log' h'.log.receipts
      h'.object_log.receipts
      × (h'.objects.now ≡ x.objects) × (h'.callbacks.now ≡ x.callbacks)
  turns_kept zero h h' k k' log' objects handlers fresh fresh_objects turns =
      let seen = h.signal_pass.now.knows in
      let none : RunKept s label context base reading 0 k h.objects_pass.now seen k h.objects_pass.now seen [] [] [] = record {
        fired = [];
        many = refl;
        notes = [];
        claimed = refl;
        part = part_none (begins_same refl) refl;
        whole = refl;
        turned = [];
        turns = turns_none refl;
        have = λ e joined goes. (refl, omega arith);
      } in (
        rw (turns.0, turns.1, turns.2, fresh, fresh_objects) none,
        ap (λ (g : QueuedFiring). g.objects.now) turns.1 ∙ objects,
        ap (λ (g : QueuedFiring). g.callbacks.now) turns.1 ∙ handlers,
      )
  turns_kept (suc n) h h' k k' log' objects handlers fresh fresh_objects turns =
      let h1 = turns.1 in
      let before = turns_kept n h h1 k turns.0 turns.2 objects handlers fresh fresh_objects turns.3 in
      let loan = turns.4.ran.did.loan in (
        run_more h1 h' before.1 before.2 before.0 turns.4,
        loan.objects ∙ before.1,
        loan.callbacks ∙ before.2,
      )
