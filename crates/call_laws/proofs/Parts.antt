-- Parts of a call, one behind the other: their actions, with their receipts and notes.
use Rattle.call_laws.proofs.Noted.{same-trans}
use Rattle.std.proofs.Common.{Bool, ◌≡◌, ◌≤◌, ◌<◌, ℕ, suc, ◌+◌, Some, List, [], ◌∷◌, ◌++◌, length, map, arith, refl, sym, ap, ◌∙◌, subst, None, length-append}
use Rattle.std.specs.List.{AllByRecursion, slice_get}
use Rattle.std.proofs.lemmas.List.{append_assoc, append-nil, map-append}
use Rattle.pass_names.specs.Passes.{Begins, GoesOn, Adds}
use Rattle.base_row.specs.declared.log.Receipt.{Receipt}
use Rattle.hr_timers.specs.Known.{KnownOfTimers, MadeAt, timer_then}
use Rattle.seq_timer.specs.Histories as seq
use Rattle.seq_timer.specs.Systems.{openings}
use Rattle.seq_timer.specs.declared.standing.BaseEvent.{BaseEvent}
use Rattle.seq_timer.specs.declared.system.SystemEntry.{SystemEntry}
use Rattle.base_row.specs.Logs.{receipts_of}
use Rattle.base_row.specs.declared.view.Opening.{Opening}
use Rattle.timer_objects.specs.Known.{ObjectsPass, seen_of}
use Rattle.timer_objects.specs.declared.log.ObjectReceipt.{ObjectReceipt}
use Rattle.record_text.specs.declared.record.ClockLine.{ClockLine}
use Rattle.record_text.specs.declared.record.Label.{Label}
use Rattle.run_history.specs.Actions.{Action, Began, Entered, looked, Looked, Made, made}
use Rattle.run_history.specs.Histories.{reading_at}
use Rattle.ktime.specs.Readings.{ClockReading}
use Rattle.lane_notes.specs.Objects.{object_entry_noted, skip_generation}
use Rattle.lane_notes.specs.declared.notes.ObjectNote.{ObjectNote}
use Rattle.run_history.specs.Receipts.{count_owned, PlacedEntry, receipt}
use Rattle.run_history.specs.Traces.{all_entered}
use Rattle.run_history.proofs.Actions.{all_entered-append, made-append}
use Rattle.run_history.proofs.Lists.{at_seam}
use Rattle.lane_notes.specs.Runs.{ObjectMove, ShowsObjectCall}
use Rattle.lane_notes.proofs.SeenMore.{begins_same, count_begins}
use Rattle.call_laws.proofs.Entering.{enters-append, enters_at, enters_none, EntersNotes, EntersOne}
use Rattle.call_laws.proofs.Noted.{HasWholeTurns, entered_all, entered_noted, entered_on, entered_only, noted_by, noted_by-append, notes_of, notes_of-append, one_noted, same-both, same_notes, SameNotes}
use Rattle.lane_notes.specs.Notes.{both_noted, no_notes, NotesOf}
use Rattle.script_text.specs.Declarations.{declareds_of, terms_of}
use Rattle.run_history.specs.Actions.{Shifted, Signalled, Skipped, Wrote}
use Rattle.run_history.specs.Witnesses.{OfBase, OfRise}
use Rattle.lane_notes.proofs.PartLists.{no_notes-joins}
use Rattle.lane_notes.proofs.SeenMore.{stands_on}
use Rattle.run_history.proofs.Stamped.{HaveReadings}
use Rattle.pass_names.proofs.Passes.{begins_length, begins_trans}
use Rattle.record_text.specs.declared.record.ObjectEntry.{ObjectEntry}
use Rattle.timer_setting.specs.declared.object_call.ObjectCall.{ObjectCall}
use Rattle.timer_setting.specs.declared.object_call.ObjectReply.{ObjectReply}
use Rattle.lane_notes.proofs.PartLists.{each_joined, looked-append, one_rises, rises_on, RisesTo}
use Rattle.seq_timer.specs.Events.{Event}
use Rattle.seq_timer.specs.declared.observation.Observation.{Observation}
use Rattle.hr_timers.specs.declared.numbers.ClaimNumbers.{ClaimNumbers}
use Rattle.hr_timers.specs.Expiring.{claim_receipt}
use Rattle.hr_timers.specs.Handlers.{asks}
use Rattle.hr_timers.specs.declared.handler.Restart.{Restart}
use Rattle.timer_objects.specs.Callbacks.{look_receipt}
use Rattle.timer_objects.specs.QueuedFirings.{QueuedFiring}
use Rattle.signal_queue.specs.declared.signal.Signal.{Signal}
use Rattle.signal_queue.specs.declared.signal.Turn.{Turn}
use Rattle.lane_notes.proofs.Kept.{signals_of}
use Rattle.call_laws.proofs.Signals.{TurnsPart}
use Rattle.record_text.specs.declared.record.CallbackReply.{CallbackReply}
use Rattle.record_text.specs.declared.record.Entry.{Entry}
use Rattle.seq_timer.specs.declared.event.Restarted.{Restarted}
use Rattle.seq_timer.specs.declared.event.EventBy.TheVariants as events
use Rattle.seq_timer.specs.declared.event.Reply.TheVariants as replies
use Rattle.script_text.specs.Declarations.{kind_of}
use Rattle.script_text.specs.declared.script.Script.{Script}
use Rattle.lane_notes.specs.Entries.{look_noted}
use Rattle.run_history.specs.Deeds.{IsBody}
use Rattle.run_history.specs.Truths.{sight_of}
use Rattle.run_history.specs.Witnesses.{Fired, OfTimer, Shown, TimersList}
use Rattle.run_history.specs.Promises as promises
use Rattle.run_history.specs.Runs.{witness_of, Ending, IsJoined}
use Rattle.run_history.proofs.Expires.{ReplyHolds}
use Rattle.lane_notes.proofs.PartLists.{rises_none}

-- ---- entries of objects

-- the entry of an object stands in what was seen of it, behind what was seen before, and a clock that is so shows it
pub record IsMadeIn (IsSo : List ClockLine → Type 0) (p q : ObjectsPass) (i number : ℕ) (entry : ObjectEntry) : Type 0 where
  pub before : ℕ
  pub is : before + 1 ≡ number
  pub behind : length (seen_of p i) ≤ before
  pub step : ObjectMove
  pub there : slice_get (seen_of q i) before ≡ Some step
  pub shows : (clock : List ClockLine) → IsSo clock → ShowsObjectCall clock step.call step.reply entry

-- a call on an object and its reply are noted as this entry, which a record shows whose clock is so
pub record IsNotedAs (IsSo : List ClockLine → Type 0) (call : ObjectCall) (reply : ObjectReply) (entry : ObjectEntry) : Type 0 where
  pub noted : object_entry_noted call reply ≡ Some entry
  pub no_skip : skip_generation call reply ≡ None
  pub shows : (clock : List ClockLine) → IsSo clock → ShowsObjectCall clock call reply entry

-- law: so is a call at a reading that the record's clock has
pub noted_at : (reading : ClockReading) (call : ClockReading → ObjectCall) (reply : ObjectReply) (entry : ObjectEntry)
    → object_entry_noted (call reading) reply ≡ Some entry → skip_generation (call reading) reply ≡ None
    → ((clock : List ClockLine) → ShowsObjectCall clock (call (reading_at clock reading.stamp)) reply entry)
    → IsNotedAs (λ clock. reading_at clock reading.stamp ≡ reading) (call reading) reply entry
noted_at reading call reply entry noted no_skip shows =
    record { noted = noted; no_skip = no_skip; shows = λ clock has. subst (λ r. ShowsObjectCall clock (call r) reply entry) has (shows clock) }

-- ---- parts

-- what an action did stands in what was seen; parts make no write
abbrev pub IsActionSeen : (List ClockLine → Type 0) → ObjectsPass → KnownOfTimers → ObjectsPass → Action → Type 0
IsActionSeen IsSo p w q (Looked t number reply) = (0 < number) × (number ≤ count_owned (TimersList t) w.seen)
IsActionSeen IsSo p w q (Made i number entry) = IsMadeIn IsSo p q i number entry
IsActionSeen IsSo p w q (Skipped i number generation) = (0 < number) × (number ≤ length (seen_of q i))
IsActionSeen IsSo p w q (Wrote number write) = ⊥
IsActionSeen IsSo p w q d = Unit

-- the place of a note of an object
abbrev pub object_place : ObjectNote → ℕ × ℕ
object_place n = (n.object, n.number)

-- A part of a call, by its passes before and after it: its actions, with the receipts of its entries of timers and bases, and the notes that it added.
pub record IsPart (s : Script) (IsSo : List ClockLine → Type 0) (label : Label) (v : KnownOfTimers) (p : ObjectsPass) (w : KnownOfTimers) (q : ObjectsPass)
    (actions : List Action) (notes : List PlacedEntry) (added : NotesOf) : Type 0 where
  pub enters : EntersNotes s IsSo v w notes
  pub are : map receipt notes ≡ all_entered actions
  pub told : SameNotes added (noted_by label actions)
  pub goes_on : GoesOn p.knows.pass.seen q.knows.pass.seen
  pub opening : q.knows.opening ≡ p.knows.opening
  pub mine : q.knows.pass.mine ≡ p.knows.pass.mine ++ map object_place (noted_by label actions).objects
  pub each : AllByRecursion (IsActionSeen IsSo p w q) actions
  pub looks_rise : (t : ℕ) → RisesTo (count_owned (TimersList t) v.seen + 1) (looked t actions) (count_owned (TimersList t) w.seen + 1)
  pub rise : (i : ℕ) → RisesTo (length (seen_of p i) + 1) (made i actions) (length (seen_of q i) + 1)

-- what passes of objects have seen goes on
pub objects_grow : (p q : ObjectsPass) → GoesOn p.knows.pass.seen q.knows.pass.seen → (i : ℕ) → length (seen_of p i) ≤ length (seen_of q i)
objects_grow p q goes_on i = begins_length (goes_on.each i)

-- numbers of none rise between two numbers of entries
none_between : {X : Type 0} {low high : ℕ} → low ≤ high → RisesTo {X = X} (low + 1) [] (high + 1)
none_between le = rises_none (omega (arith, le))

-- what was done stands there when more was seen, and behind less
done_in : (IsSo : List ClockLine → Type 0) (o p q r : ObjectsPass) (u w : KnownOfTimers) → GoesOn o.knows.pass.seen p.knows.pass.seen
    → GoesOn q.knows.pass.seen r.knows.pass.seen → Begins u.seen w.seen → (d : Action) → IsActionSeen IsSo p u q d → IsActionSeen IsSo o w r d
done_in IsSo o p q r u w less more seen (Looked t number reply) is =
    let le = count_begins (TimersList t) seen in (is.0, omega (arith, is.1, le))
done_in IsSo o p q r u w less more seen (Made i number entry) is =
    let le = objects_grow o p less i in record {
      before = is.before;
      is = is.is;
      behind = omega (arith, le, is.behind);
      step = is.step;
      there = stands_on is.before (more.each i) is.there;
      shows = is.shows;
    }
done_in IsSo o p q r u w less more seen (Skipped i number generation) is =
    let le = objects_grow q r more i in (is.0, omega (arith, is.1, le))
done_in IsSo o p q r u w less more seen d is = is

module _ {s : Script} {IsSo : List ClockLine → Type 0} {label : Label} where
  -- law: a part in which timers and objects were looked at and nothing was done
  pub part_seen : {v : KnownOfTimers} {p : ObjectsPass} {w : KnownOfTimers} {q : ObjectsPass} → Begins v.seen w.seen → w.mine ≡ v.mine
      → GoesOn p.knows.pass.seen q.knows.pass.seen → q.knows.pass.mine ≡ p.knows.pass.mine → q.knows.opening ≡ p.knows.opening
      → IsPart s IsSo label v p w q [] [] no_notes
  part_seen {p = p} {q = q} seen mine goes_on object_mine opening = record {
    enters = enters_none seen mine;
    are = refl;
    told = same_notes refl;
    goes_on = goes_on;
    opening = opening;
    mine = object_mine ∙ sym (append-nil p.knows.pass.mine);
    each = tt;
    looks_rise = λ t. none_between (count_begins (TimersList t) seen);
    rise = λ i. none_between (objects_grow p q goes_on i);
  }

  -- law: the same where objects were left alone
  pub part_none : {v : KnownOfTimers} {p : ObjectsPass} {w : KnownOfTimers} → Begins v.seen w.seen → w.mine ≡ v.mine
      → IsPart s IsSo label v p w p [] [] no_notes
  part_none seen mine = part_seen seen mine (record { each = λ i. begins_same refl }) refl refl

  -- a part that made entries of timers and bases or began turns, and nothing else
  timers_only : {v : KnownOfTimers} {p : ObjectsPass} {w : KnownOfTimers} {ds : List Action} {notes : List PlacedEntry} {added : NotesOf}
      → EntersNotes s IsSo v w notes → map receipt notes ≡ all_entered ds → added ≡ noted_by label ds → (noted_by label ds).objects ≡ []
      → AllByRecursion (IsActionSeen IsSo p w p) ds → ((i : ℕ) → (looked i ds ≡ []) × (made i ds ≡ []))
      → IsPart s IsSo label v p w p ds notes added
  timers_only {p = p} enters are told none each only = record {
    enters = enters;
    are = are;
    told = same_notes told;
    goes_on = record { each = λ i. begins_same refl };
    opening = refl;
    mine = sym (append-nil p.knows.pass.mine) ∙ ap (λ ns. p.knows.pass.mine ++ map object_place ns) (sym none);
    each = each;
    looks_rise = λ i. rw (only i).0 (none_between (count_begins (TimersList i) enters.seen));
    rise = λ i. rw (only i).1 (none_between (omega arith));
  }

  -- law: the entries that a call made of a timer at a moment, with a receipt of each
  pub part_at : (o : Opening) {v : KnownOfTimers} {p : ObjectsPass} {w : KnownOfTimers} {t : ℕ} {at : List SystemEntry} {es : List seq.Entry}
      → o.timers ≡ openings (declareds_of s) (terms_of s) → MadeAt v w t at es → ((clock : List ClockLine) → IsSo clock → HaveReadings clock es)
      → let k = (timer_then o at t).stamp in
      (notes : List PlacedEntry) × IsPart s IsSo label v p w p (entered_on t k es) notes (notes_of label (receipts_of t k es) [])
  part_at o {p = p} {w = w} {t = t} {at = at} {es = es} is made reads =
      let k = (timer_then o at t).stamp in
      let its = enters_at s IsSo o is made reads in
      let told = entered_noted label t k es in (
        its.0,
        timers_only its.1 (its.2 ∙ entered_all t k es) told (ap (λ (n : NotesOf). n.objects) (sym told)) (all_done k es)
            (λ i. entered_only t k i es),
      )
    where
      all_done : (k : ℕ) (es : List seq.Entry) → AllByRecursion (IsActionSeen IsSo p w p) (entered_on t k es)
      all_done k [] = tt
      all_done k (e ∷ es) = (tt, all_done (k + 1) es)

  -- law: one entry of a timer, by its receipt
  pub part_entry : {v : KnownOfTimers} {p : ObjectsPass} {w : KnownOfTimers} (t number : ℕ) (entry : Entry)
      (one : EntersOne s IsSo v w (number, OfTimer t entry))
      → IsPart s IsSo label v p w p (Entered t number entry ∷ []) (one.0 ∷ []) (one_noted label (Entered t number entry))
  part_entry t number entry one = timers_only one.1 (ap (λ (x : ℕ × Shown). x ∷ []) one.2) refl refl (tt, tt) (λ i. (refl, refl))

  -- law: one of a base
  pub part_shift : {v : KnownOfTimers} {p : ObjectsPass} {w : KnownOfTimers} (b number : ℕ) (event : BaseEvent)
      (one : EntersOne s IsSo v w (number, OfBase b event))
      → IsPart s IsSo label v p w p (Shifted b number event ∷ []) (one.0 ∷ []) (one_noted label (Shifted b number event))
  part_shift b number event one = timers_only one.1 (ap (λ (x : ℕ × Shown). x ∷ []) one.2) refl refl (tt, tt) (λ i. (refl, refl))

  -- law: the beginning of a turn of an object
  pub part_began : {v : KnownOfTimers} {p : ObjectsPass} {w : KnownOfTimers} (i stamp : ℕ)
      (one : EntersOne s IsSo v w (stamp + stamp + 1, OfRise (suc i)))
      → IsPart s IsSo label v p w p (Began i stamp ∷ []) (one.0 ∷ []) no_notes
  part_began i stamp one = timers_only one.1 (ap (λ (x : ℕ × Shown). x ∷ []) one.2) refl refl (tt, tt) (λ i. (refl, refl))

  -- law: a push or a pop
  pub part_signalled : {v : KnownOfTimers} {p : ObjectsPass} {w : KnownOfTimers} (k number : ℕ) (signal : Signal)
      (one : EntersOne s IsSo v w (number, OfRise k)) → IsPart s IsSo label v p w p (Signalled k number signal ∷ []) (one.0 ∷ []) no_notes
  part_signalled k number signal one = timers_only one.1 (ap (λ (x : ℕ × Shown). x ∷ []) one.2) refl refl (tt, tt) (λ i. (refl, refl))

  -- law: an entry of an object, which ends its turn
  pub part_made : {v w : KnownOfTimers} {p q : ObjectsPass} {id : ℕ} {step : ObjectMove} {entry : ObjectEntry}
      (adds : Adds p.knows.pass q.knows.pass id (step ∷ [])) → q.knows.opening ≡ p.knows.opening → IsNotedAs IsSo step.call step.reply entry
      → let number = length adds.before + 1 in (one : EntersOne s IsSo v w (number + number, OfRise (suc id)))
      → IsPart s IsSo label v p w q (Made id number entry ∷ []) (one.0 ∷ [])
      (notes_of label [] (record { object = id; number = number; call = step.call; reply = step.reply } ∷ []))
  part_made {p = p} {q = q} {id = id} {step = step} {entry = entry} adds opening as_noted one =
      let many = length adds.before in
      let now : length (seen_of q id) ≡ many + 1 = omega (arith, ap length adds.last, length-append adds.before (step ∷ [])) in
      let behind = begins_length adds.begins in
      let grows = objects_grow p q adds.seen in
      record {
        enters = one.1;
        are = ap (λ (r : ℕ × Shown). r ∷ []) one.2;
        told = same_notes (rw (as_noted.noted, as_noted.no_skip) refl);
        goes_on = adds.seen;
        opening = opening;
        mine = adds.mine;
        each = (
          record { before = many; is = refl; behind = behind; step = step; there = rw adds.last (at_seam adds.before [] step); shows = as_noted.shows },
          tt,
        );
        looks_rise = λ t. none_between (count_begins (TimersList t) one.1.seen);
        rise = one_rises id (many + 1) entry (λ i. length (seen_of p i) + 1) (λ i. length (seen_of q i) + 1) (omega (arith, behind)) (omega (arith, now))
            (λ i. let le = grows i in omega (arith, le));
      }

  -- law: a part behind another makes one part
  pub part_then : {u : KnownOfTimers} {o : ObjectsPass} {v : KnownOfTimers} {p : ObjectsPass} {w : KnownOfTimers} {q : ObjectsPass} {ds es : List Action}
      {xs ys : List PlacedEntry} {a b : NotesOf} → IsPart s IsSo label u o v p ds xs a → IsPart s IsSo label v p w q es ys b
      → IsPart s IsSo label u o w q (ds ++ es) (xs ++ ys) (both_noted a b)
  part_then {o = o} {v = v} {p = p} {w = w} {q = q} {ds = ds} {es = es} {xs = xs} {ys = ys} one two = record {
    enters = enters-append one.enters two.enters;
    are = rw (map-append receipt xs ys, one.are, two.are) (sym (all_entered-append ds es));
    told = rw (noted_by-append label ds es) (same-both one.told two.told);
    goes_on = record { each = λ i. begins_trans (one.goes_on.each i) (two.goes_on.each i) };
    opening = two.opening ∙ one.opening;
    mine = two.mine ∙ rw (one.mine, noted_by-append label ds es, map-append object_place, append_assoc) refl;
    each = each_joined ds es (done_in IsSo o o p q v w (record { each = λ i. begins_same refl }) two.goes_on two.enters.seen)
        (done_in IsSo o p q q w w one.goes_on (record { each = λ i. begins_same refl }) (begins_same refl)) one.each two.each;
    looks_rise = λ t. rw (looked-append t ds es) (rises_on (one.looks_rise t) (two.looks_rise t));
    rise = λ i. rw (made-append i ds es) (rises_on (one.rise i) (two.rise i));
  }

  -- law: a part of actions, of objects and of notes that are the same, these but for the order of entries of timers
  pub part_as : {v : KnownOfTimers} {p : ObjectsPass} {w : KnownOfTimers} {q : ObjectsPass} {ds es : List Action} {xs : List PlacedEntry} {a : NotesOf}
      → ds ≡ es → IsPart s IsSo label v p w q ds xs a → IsPart s IsSo label v p w q es xs a
  part_as {v} {p} {w} {q} {xs = xs} {a = a} same = subst (λ ds. IsPart s IsSo label v p w q ds xs a) same

  pub part_alone : {v : KnownOfTimers} {p : ObjectsPass} {w : KnownOfTimers} {q : ObjectsPass} {ds : List Action} {xs : List PlacedEntry} {a : NotesOf}
      → q ≡ p → IsPart s IsSo label v p w p ds xs a → IsPart s IsSo label v p w q ds xs a
  part_alone {v} {p} {w} {ds = ds} {xs = xs} {a = a} same = subst (λ q. IsPart s IsSo label v p w q ds xs a) (sym same)

  pub part_noted : {v : KnownOfTimers} {p : ObjectsPass} {w : KnownOfTimers} {q : ObjectsPass} {ds : List Action} {xs : List PlacedEntry} {a b : NotesOf}
      → SameNotes b a → IsPart s IsSo label v p w q ds xs a → IsPart s IsSo label v p w q ds xs b
  part_noted same part = record {
    enters = part.enters;
    are = part.are;
    told = same-trans same part.told;
    goes_on = part.goes_on;
    opening = part.opening;
    mine = part.mine;
    each = part.each;
    looks_rise = part.looks_rise;
    rise = part.rise;
  }

  -- law: so do their receipts
  pub part_logged : {u : KnownOfTimers} {o : ObjectsPass} {v : KnownOfTimers} {p : ObjectsPass} {w : KnownOfTimers} {q : ObjectsPass} {ds es : List Action}
      {xs ys : List PlacedEntry} (log more : List Receipt) (object_log object_more : List ObjectReceipt)
      → IsPart s IsSo label u o v p ds xs (notes_of label log object_log) → IsPart s IsSo label v p w q es ys (notes_of label more object_more)
      → IsPart s IsSo label u o w q (ds ++ es) (xs ++ ys) (notes_of label (log ++ more) (object_log ++ object_more))
  part_logged log more object_log object_more one two =
      rw (notes_of-append label log more object_log object_more) (part_then one two)

  -- law: a part behind which a pass only looked at timers
  pub part_looks : {v : KnownOfTimers} {p : ObjectsPass} {w : KnownOfTimers} {q : ObjectsPass} {w' : KnownOfTimers} {ds : List Action}
      {xs : List PlacedEntry} {a : NotesOf} → IsPart s IsSo label v p w q ds xs a → Begins w.seen w'.seen → w'.mine ≡ w.mine
      → IsPart s IsSo label v p w' q ds xs a
  part_looks {w' = w'} {ds = ds} {xs = xs} {a = a} part seen mine =
      rw (append-nil ds, append-nil xs, ← no_notes-joins a) at (part_then part (part_none {w = w'} seen mine))

-- ---- the function of a claim

-- a record's clock has this reading
abbrev pub ClockHas : ClockReading → List ClockLine → Type 0
ClockHas reading clock = reading_at clock reading.stamp ≡ reading

-- the record's callback of a claim, by its function's actions and what came of the finish
abbrev pub fired_of : ClaimNumbers → List Action → ℕ → Bool → Restarted → Fired
fired_of c body finish restart restarted =
    record { timer = c.timer; claim = c.number; generation = c.generation; body = body; finish = finish; restart = restart; restarted = restarted }

-- the record's entry of a claim, by a reading with this stamp
abbrev pub claim_in : ℕ → ℕ → ClaimNumbers → Entry
claim_in base stamp c = record { event = events.Claim base stamp; reply = replies.Claim c.generation }

-- a pass has made a claim, and seen it
pub record IsClaimed (s : Script) (base : ℕ) (c : ClaimNumbers) (reading : ClockReading) (k v : KnownOfTimers) : Type 0 where
  pub entered : EntersOne s (ClockHas reading) k v (c.number, OfTimer c.timer (claim_in base reading.stamp c))
  pub there : c.base ≡ base
  pub some : 0 < c.number
  pub more : count_owned (TimersList c.timer) k.seen < count_owned (TimersList c.timer) v.seen
  pub within : c.number ≤ count_owned (TimersList c.timer) v.seen

-- What a claim's function did: with the claim it is a part of the call, so that its look stands behind an entry of the part. And what it promises of
-- every run that goes on from there.
pub record BodyKept (s : Script) (label : Label) {base : ℕ} {c : ClaimNumbers} {reading : ClockReading} {k v : KnownOfTimers}
    (claim : IsClaimed s base c reading k v) (restart : Restart) (w : KnownOfTimers) (h h' : QueuedFiring) : Type 0 where
  pub body : List Action
  pub notes : List PlacedEntry
  pub more : List Receipt
  pub object_more : List ObjectReceipt
  pub adds : (h'.log.receipts ≡ h.log.receipts ++ more) × (h'.object_log.receipts ≡ h.object_log.receipts ++ object_more)
  pub enters : EntersNotes s (ClockHas reading) v w notes
  pub whole : HasWholeTurns body
  pub part : IsPart s (ClockHas reading) label k h.objects_pass.now w h'.objects_pass.now
      (Entered c.timer c.number (claim_in base reading.stamp c) ∷ body) (claim.entered.0 ∷ notes) (notes_of label (claim_receipt reading c ∷ more) object_more)
  pub turned : List (ℕ × Turn)
  pub turns : TurnsPart s h.signal_pass.now.knows h'.signal_pass.now.knows (signals_of body) turned
  pub ran : (e : Ending) → IsJoined s e → promises.RunGoesOn w.seen e → (finish : ℕ) (restarted : Restarted)
      → IsBody (sight_of (witness_of s e) (length v.seen) (length w.seen)) s (kind_of s c.timer) reading.stamp
      (fired_of c body finish (asks restart) restarted)
      × ReplyHolds (witness_of s e) e.order (length v.seen) (length w.seen) notes body

module _ {s : Script} {label : Label} {base : ℕ} {c : ClaimNumbers} {reading : ClockReading} {k v w : KnownOfTimers} {p : ObjectsPass}
    (claim : IsClaimed s base c reading k v) where
  -- law: a claim, and behind it a part that its function made
  pub part_claimed : {q : ObjectsPass} {body : List Action} {notes : List PlacedEntry} (more : List Receipt) (object_more : List ObjectReceipt)
      → IsPart s (ClockHas reading) label v p w q body notes (notes_of label more object_more)
      → IsPart s (ClockHas reading) label k p w q (Entered c.timer c.number (claim_in base reading.stamp c) ∷ body) (claim.entered.0 ∷ notes)
      (notes_of label (claim_receipt reading c ∷ more) object_more)
  part_claimed more object_more part =
      part_logged (claim_receipt reading c ∷ []) more [] object_more (subst (IsPart s (ClockHas reading) label k p v p _ _)
      (ap (λ b. one_noted label (Entered c.timer c.number (claim_in b reading.stamp c))) (sym claim.there)) (part_entry _ _ _ claim.entered)) part

  -- law: a claim, and behind it a look at its timer
  pub part_looked : (number : ℕ) (event : Event) (observation : Observation) (reply : CallbackReply) → Begins v.seen w.seen → w.mine ≡ v.mine
      → look_noted observation ≡ Some reply → count_owned (TimersList c.timer) v.seen ≤ number → number ≤ count_owned (TimersList c.timer) w.seen
      → IsPart s (ClockHas reading) label k p w p (Entered c.timer c.number (claim_in base reading.stamp c) ∷ Looked c.timer number reply ∷ [])
      (claim.entered.0 ∷ []) (notes_of label (claim_receipt reading c ∷ look_receipt c number event observation ∷ []) [])
  part_looked number event observation reply seen mine noted low high =
      let claimed = part_claimed [] [] (part_none seen mine) in
      record {
        enters = claimed.enters;
        are = claimed.are;
        told = same_notes (rw (claim.there, noted) refl);
        goes_on = claimed.goes_on;
        opening = refl;
        mine = claimed.mine;
        each = (tt, ((omega (arith, claim.more, low), high), tt));
        looks_rise = one_rises c.timer number reply (λ t. count_owned (TimersList t) k.seen + 1) (λ t. count_owned (TimersList t) w.seen + 1)
            (omega (arith, claim.more, low)) (omega (arith, high)) (λ t. let le = count_begins (TimersList t) claimed.enters.seen in omega (arith, le));
        rise = claimed.rise;
      }
