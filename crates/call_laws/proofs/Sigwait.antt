-- The call that takes the next signal, as its lane keeps it.
use Rattle.std.proofs.Common.{get_or, ◌⊎◌, true, false, suc, None, ◌+◌, ◌≡◌, ◌≤◌, ◌<◌, ℕ, Some, List, [], ◌∷◌, length, map, arith, refl, sym, ap, ◌∙◌, subst}
use Rattle.std.specs.List.{slice_get}
use Rattle.std.proofs.Math.Logic.{⊎_elim}
use Rattle.std.proofs.lemmas.Bool.{cases_lt, eq-eqb}
use Rattle.std.proofs.lemmas.List.{get_or_past, length-map}
use Rattle.counted_row.specs.Views.{StateAfter}
use Rattle.pass_names.specs.Passes.{Begins}
use Rattle.pass_names.proofs.Passes.{begins_length, begins_refl}
use Rattle.clock_cell.specs.Views.{writes}
use Rattle.posix_timer.specs.Queued.{is_fresh}
use Rattle.posix_timer.specs.declared.queued_state.QueuedState.{QueuedState}
use Rattle.base_row.specs.Rings.{taken_counter}
use Rattle.hr_timers.specs.Known.{KnownOfTimers}
use Rattle.ordered_clock.specs.Moments.{RisesAt}
use Rattle.ordered_signals.specs.Places.{HasSignalRing, pops_seen, signal_ring}
use Rattle.pass_names.specs.SharedHistory.{LooksOn}
use Rattle.signal_queue.specs.declared.signal.Signal.{Signal}
use Rattle.signal_queue.specs.declared.signal.Turn.TheVariants.{Popped}
use Rattle.signal_queue.specs.Calls.{FindsEmpty, TakesTurn}
use Rattle.timer_setting.specs.declared.answers.AcceptAnswer.TheVariants as accept_answers
use Rattle.timer_setting.specs.declared.object_call.ObjectCall.TheVariants as object_calls
use Rattle.timer_setting.specs.declared.object_call.ObjectReply.TheVariants as replies
use Rattle.timer_objects.specs.Calls.{Caller, FindsHistoryFull}
use Rattle.timer_objects.specs.Known.{seen_of}
use Rattle.timer_objects.specs.Meaning.{object_meaning, opened_objects}
use Rattle.timer_objects.specs.Signals as signals
use Rattle.timer_objects.specs.Signals.{AcceptsSignal, FindsStale, TakesNext, TakesSignal, TriesQueue}
use Rattle.timer_objects.specs.declared.object.Kind.TheVariants as over
use Rattle.timer_objects.specs.declared.object.Object.TheVariants as objects
use Rattle.timer_objects.specs.declared.object.Object.{Object}
use Rattle.timer_objects.specs.declared.signals.NextSignal.{NextSignal}
use Rattle.timer_objects.specs.declared.signals.NextSignal.TheVariants as nexts
use Rattle.record_text.specs.declared.record.AcceptReply.TheVariants as acceptances
use Rattle.record_text.specs.declared.record.Answer.TheVariants as answers
use Rattle.record_text.specs.declared.record.Answer.{Answer}
use Rattle.record_text.specs.declared.record.ObjectEntry.TheVariants as object_entries
use Rattle.script_text.specs.Declarations.{base_of, kind_of}
use Rattle.script_text.specs.declared.script.Call.TheVariants as calls
use Rattle.script_text.specs.declared.script.Callback.TheVariants as callbacks
use Rattle.script_text.specs.declared.script.Declaration.{Declaration}
use Rattle.script_text.specs.declared.script.Kind.{Kind}
use Rattle.script_text.specs.declared.script.Kind.TheVariants as kinds
use Rattle.script_text.specs.declared.script.Script.{Script}
use Rattle.seq_timer.specs.declared.context.Context.TheVariants as contexts
use Rattle.run_history.specs.Histories.{reading_at}
use Rattle.run_history.specs.Objects.{queued_after}
use Rattle.run_history.specs.Actions.{Action, Signalled, also, own, signalled}
use Rattle.run_history.specs.Calls.{AnswerHolds, Does}
use Rattle.run_history.specs.Order.{is_label}
use Rattle.run_history.specs.Promises.{HasLog}
use Rattle.run_history.specs.Runs.{CallLog, Ending, IsJoined, witness_of}
use Rattle.run_history.specs.Signals.{SendsSignals, SignalLine, pop_counter, push_counter, signals_in}
use Rattle.run_history.specs.Truths.{sight_of}
use Rattle.run_history.specs.Witnesses.{OfRise}
use Rattle.run_history.proofs.Lists.{all_at, at_left, map_get}
use Rattle.run_history.proofs.ObjectsMade.{popped_made, rearming_actions, signal_made}
use Rattle.run_history.proofs.OthersMade.{plain, quiet_made}
use Rattle.record_text.specs.declared.record.Armed.{Armed}
use Rattle.record_text.specs.declared.record.ClockLine.{ClockLine}
use Rattle.record_text.specs.declared.record.Label.{Label}
use Rattle.record_text.specs.declared.record.ObjectEntry.{ObjectEntry}
use Rattle.run_history.proofs.Known.{behind_all}
use Rattle.lane_notes.specs.Called.{ReadsClock}
use Rattle.lane_notes.specs.Notes.{both_noted}
use Rattle.lane_notes.specs.Objects.{arm_noted}
use Rattle.lane_notes.proofs.Kept.{Follows, signals_of}
use Rattle.lane_notes.specs.Called.{CallsSigwait, lane_caller, LaneOf, next_told}
use Rattle.lane_notes.specs.Runs.{ObjectMove}
use Rattle.lane_notes.specs.Worlds.{decl_of, WorldOf}
use Rattle.lane_notes.proofs.Declared.{declared_over, over_of, room_known}
use Rattle.lane_notes.proofs.Kept.{FollowsObject, IsNextCall, KeepsCall}
use Rattle.lane_notes.proofs.ObjectSeen.{object_seen}
use Rattle.lane_notes.proofs.PartLists.{no_notes-joins}
use Rattle.lane_notes.proofs.SeenMore.{begins_same, follows_object, goes_before}
use Rattle.lane_notes.specs.Notes.{no_notes}
use Rattle.call_laws.proofs.CallKept.{clock_left, reading_goes_on}
use Rattle.call_laws.proofs.Entering.{EntersOne, enters_risen}
use Rattle.call_laws.proofs.Noted.{no_signals, whole_turn, with_done-joins}
use Rattle.call_laws.proofs.ObjectLooks.{queued_looked}
use Rattle.call_laws.proofs.ObjectMade.{receipts}
use Rattle.call_laws.proofs.ObjectTurns.{entries_had}
use Rattle.call_laws.proofs.PartKept.{keeps_part, keeps_part_to}
use Rattle.call_laws.proofs.Parts.{ClockHas, IsPart, part_seen, part_signalled, part_then}
use Rattle.call_laws.proofs.RearmedCalls.{arm_back, part, rearmed, rearming_part}
use Rattle.call_laws.proofs.Sights.{notes_alone}
use Rattle.call_laws.proofs.Signals.{TurnsPart, counter_of_pops, has_ring, pop_numbered, stood, turns_looked, turns_one, waits}

-- what a label's rises of a counter have stands along its list
own_there : (c : Label) (k : ℕ) (xs : List SignalLine) (n : ℕ) (y : Signal) (rest : List (ℕ × Signal))
    → own (λ line. line.label) (λ line. line.signal) c k xs ≡ (n, y) ∷ rest → (i : ℕ) × (slice_get (signals_in xs) i ≡ Some y)
own_there c k [] n y rest is = absurd (cc)
own_there c k (x ∷ xs) n y rest is =
    elim (is_label c x.label) as (λ b. also b (k, x.signal) (own (λ line. line.label) (λ line. line.signal) c (k + 1) xs) ≡ (n, y) ∷ rest
    → (i : ℕ) × (slice_get (signals_in (x ∷ xs)) i ≡ Some y)) [
      | true ↦ λ this. (0, ap (λ (zs : List (ℕ × Signal)). Some (get_or zs 0 (n, y)).1) this)
      | false ↦ λ later. let r = own_there c (k + 1) xs n y rest later in (suc r.0, r.1)
    ] is

-- ---- which timers are queued

-- law: the objects of a script's world send their signals to the queue that the script declares so
queued_kind : (k : Kind) → over_of k ≡ over.Queued → SendsSignals k
queued_kind (kinds.Queued base) is = tt
queued_kind k is = absurd (cc)

queued_over : (k : Kind) → SendsSignals k → over_of k ≡ over.Queued
queued_over (kinds.Queued base) is = refl
queued_over k is = absurd is

declared_queued : (s : Script) (i : ℕ) → SendsSignals (kind_of s i) → i < length s.timers
declared_queued s i is =
    ⊎_elim (λ less. less)
    (λ (past : length s.timers ≤ i).
    let none : kind_of s i ≡ kinds.Raw contexts.Hard callbacks.Once =
    get_or_past (map (λ d. d.kind) s.timers) i _ (omega (arith, past, length-map s.timers (λ (d : Declaration). d.kind))) in
    absurd (subst SendsSignals none is))
    (cases_lt i (length s.timers))

module _ {s : Script} {x : WorldOf} {l : LaneOf} (next : IsNextCall s x l calls.Sigwait) where
  kind_there : (timer : ℕ) → signals.IsQueued x.objects timer → SendsSignals (kind_of s timer)
  kind_there timer is = queued_kind (kind_of s timer) (sym (declared_over s x timer next.world) ∙ is.kind)

  object_there : (timer : ℕ) → SendsSignals (kind_of s timer) → signals.IsQueued x.objects timer
  object_there timer is = record {
    within = omega (arith, declared_queued s timer is, ap length next.world.decls, length-map s.timers decl_of);
    kind = declared_over s x timer next.world ∙ queued_over (kind_of s timer) is;
  }

  -- a queued timer that was looked at behind these entries of it is the record's
  queued_is : (e : Ending) (timer : ℕ) (seen : List ObjectMove) (object : Object) (t : QueuedState)
      → StateAfter object_meaning (opened_objects x.objects.decls x.objects.limit) timer seen object → FollowsObject e timer seen
      → object ≡ objects.Queued t → t ≡ queued_after s e.run timer (base_of (kind_of s timer)) (length seen)
  queued_is e timer seen object t at follows is =
      queued_looked s e.run timer (length seen) (kind_of s timer) (sym is ∙ object_seen s x next.world timer seen object at e follows)

  -- what a call popped off the queue was a queued timer's signal
  popped_queued : {e : Ending} {log : CallLog} → IsJoined s e → HasLog e l.label log → (number : ℕ) (signal : Signal) (ds : List Action)
      → log.trace.actions ≡ Signalled (pop_counter s) number signal ∷ ds → SendsSignals (kind_of s signal.timer)
  popped_queued {e} joined has number signal ds is =
      let own = has.signals (pop_counter s) ∙ ap (signalled (pop_counter s)) is
      ∙ ap (λ b. also b (number, signal) (signalled (pop_counter s) ds)) (eq-eqb (pop_counter s) (pop_counter s) refl) in
      let popped = own_there l.label 1 (e.signals (pop_counter s)) number signal _ own in
      let pushed = ap (λ ts. slice_get ts popped.0) joined.signals.legal.in_turn
      ∙ at_left (signals_in (e.signals (pop_counter s))) joined.signals.legal.waiting popped.0 signal popped.1 in
      let line = map_get (λ (y : SignalLine). y.signal) (e.signals (push_counter s)) popped.0 signal pushed in
      subst (λ (g : Signal). SendsSignals (kind_of s g.timer)) line.2
      (all_at (λ (y : SignalLine). SendsSignals (kind_of s y.signal.timer)) (e.signals (push_counter s)) popped.0 line.0 joined.signals.of line.1)

-- ---- the call

module _ {s : Script} {x : WorldOf} {l m : LaneOf} {a : Answer} (next : IsNextCall s x l calls.Sigwait) (c : CallsSigwait x l m a) where
  abbrev last : ℕ
  last = length m.pass.timers.known.seen

  ring : HasSignalRing x.timers.about.rings l.pass.signals.knows.room
  ring = has_ring next.world (room_known x.objects l.pass.signals next.whole.queue c.of)

  -- behind what its pass of the timers knew then, the call only looked at timers and objects
  record LooksBy (u : KnownOfTimers) : Type 0 where
    pub timers : Begins u.seen m.pass.timers.known.seen
    pub timers_mine : m.pass.timers.known.mine ≡ u.mine
    pub objects : (i : ℕ) → Begins (seen_of l.pass.objects i) (seen_of m.pass.objects i)
    pub objects_mine : m.pass.objects.knows.pass.mine ≡ l.pass.objects.knows.pass.mine
    pub opening : m.pass.objects.knows.opening ≡ l.pass.objects.knows.opening
    pub log : c.log ≡ []
    pub object_log : c.object_log ≡ []

  looked_part : {u : KnownOfTimers} → LooksBy u
      → IsPart s (λ k. Unit) l.label u l.pass.objects m.pass.timers.known m.pass.objects [] [] no_notes
  looked_part by = part_seen by.timers by.timers_mine (record { each = by.objects }) by.objects_mine by.opening

  looked_notes : {u : KnownOfTimers} → LooksBy u → m.notes ≡ both_noted l.notes no_notes
  looked_notes by = notes_alone l m by.log by.object_log c.notes ∙ no_notes-joins l.notes

  -- it came to be so: as it was, but for the timers
  looks_same : {u : KnownOfTimers} → lane_caller m.pass c.log c.object_log ≡ record (lane_caller l.pass [] []) { timers = m.pass.timers.known }
      → Begins u.seen m.pass.timers.known.seen → m.pass.timers.known.mine ≡ u.mine → LooksBy u
  looks_same same seen mine = record {
    timers = seen;
    timers_mine = mine;
    objects = λ i. begins_same (ap (λ (k : Caller). seen_of k.objects i) same);
    objects_mine = ap (λ (k : Caller). k.objects.knows.pass.mine) same;
    opening = ap (λ (k : Caller). k.objects.knows.opening) same;
    log = ap (λ (k : Caller). k.log) same;
    object_log = ap (λ (k : Caller). k.object_log) same;
  }

  -- none waited, at a moment of the call
  keeps_empty : FindsEmpty l.pass.signals.knows m.pass.signals.knows
      → TriesQueue x.timers.about (lane_caller l.pass [] []) (lane_caller m.pass c.log c.object_log) l.pass.signals.knows m.pass.signals.knows None
      → KeepsCall s l calls.Sigwait answers.NoneQueued m
  keeps_empty found tries =
      let stands = tries.stands ring in
      let by = looks_same tries.same tries.looks.seen tries.looks.mine in
      keeps_part_to next m answers.NoneQueued (plain (length (writes m.pass.clock.knows)) (length stands.at) (length stands.at) []) (looked_part by) (λ e goes. tt)
      (clock_left c.reads.same) (looked_notes by) (begins_length stands.from) (begins_length stands.seen) tt refl refl (turns_looked found.looks)
      (λ e follows joined has kept low.
      quiet_made kept refl (stood next.world 0 stands (waits m.pass.signals.knows c.knows (ap length found.none)) joined (goes_before stands.seen follows.timers)))

  -- ---- a signal was taken

  module _ (timer number : ℕ) (pops : TakesTurn l.pass.signals.knows m.pass.signals.knows (Popped (record { timer = timer; number = number })))
      (u : KnownOfTimers) (looks : LooksOn l.pass.timers.known u)
      (stands : RisesAt (taken_counter x.timers.about signal_ring) l.pass.timers.known.seen u.seen (pops_seen m.pass.signals.knows)) where
    abbrev signal : Signal
    signal = record { timer = timer; number = number }

    abbrev at_timers : Caller
    at_timers = record (lane_caller l.pass [] []) { timers = u }

    -- the pop is the first that the call did
    abbrev pop : Action
    pop = Signalled (pop_counter s) (pops_seen m.pass.signals.knows) signal

    one : {IsSo : List ClockLine → Type 0} → EntersOne s IsSo l.pass.timers.known u (pops_seen m.pass.signals.knows, OfRise (pop_counter s))
    one = enters_risen (pop_counter s) (pops_seen m.pass.signals.knows) looks
        (subst (λ k. RisesAt k l.pass.timers.known.seen u.seen (pops_seen m.pass.signals.knows)) (counter_of_pops next.world) stands)

    turned : (ds : List Action) → signals_of ds ≡ []
        → TurnsPart s l.pass.signals.knows m.pass.signals.knows (signals_of (pop ∷ ds)) ((length pops.before, Popped signal) ∷ [])
    turned ds none =
        subst (λ ts. TurnsPart s l.pass.signals.knows m.pass.signals.knows ts ((length pops.before, Popped signal) ∷ []))
        (ap (λ y. y ∷ []) (pop_numbered s l.pass.signals.knows m.pass.signals.knows signal pops) ∙ ap (λ ys. (pop_counter s, (pops_seen m.pass.signals.knows, signal)) ∷ ys) (sym none))
        (turns_one (Popped signal) pops tt)

    -- a call that did nothing more is kept, where its answer holds
    keeps_popped : LooksBy u → (b : Answer)
        → ((e : Ending) → Follows m.pass e → IsJoined s e → SendsSignals (kind_of s timer)
        → Does (sight_of (witness_of s e) (length l.pass.timers.known.seen) last) s (length (writes m.pass.clock.knows)) calls.Sigwait b [] [] (pop ∷ [])
        × AnswerHolds (witness_of s e) (length l.pass.timers.known.seen) last l.label (length (writes m.pass.clock.knows)) (pop ∷ []) calls.Sigwait b)
        → KeepsCall s l calls.Sigwait b m
    keeps_popped by b tells =
        let first = length l.pass.timers.known.seen in
        keeps_part next m b (plain (length (writes m.pass.clock.knows)) first last (pop ∷ []))
        (part_then (part_signalled (pop_counter s) (pops_seen m.pass.signals.knows) signal one) (looked_part by)) (λ e goes. tt)
        (clock_left c.reads.same) (looked_notes by) refl refl refl (turned [] refl) (λ e follows joined has kept low.
        let its = tells e follows joined (popped_queued next joined has (pops_seen m.pass.signals.knows) signal [] refl) in
        popped_made timer number (pops_seen m.pass.signals.knows) kept (omega (arith, low)) (omega (arith, begins_length looks.seen, begins_length by.timers))
        (one.1.made.rise.0, tt) its.0 its.1)

    -- its timer's history was full
    keeps_spent : {n : ℕ} → FindsHistoryFull x.objects at_timers (lane_caller m.pass c.log c.object_log) timer n → number ≤ n
        → KeepsCall s l calls.Sigwait (answers.SpentSignal timer number) m
    keeps_spent {n} full sent =
        let by : LooksBy u = record {
          timers = full.looks.seen;
          timers_mine = full.looks.mine;
          objects = λ i. full.reads.pass.seen.each i;
          objects_mine = full.reads.pass.mine;
          opening = full.reads.opening;
          log = full.log;
          object_log = full.object_log;
        } in
        keeps_popped by (answers.SpentSignal timer number) (λ e follows joined queued. (
          ((pops_seen m.pass.signals.knows, [], refl, refl), queued),
          (n, (entries_had timer n m.pass.timers.known joined follows.timers full.told, omega (arith, full.full, next.world.limit)), sent),
        ))

    -- the signal wasn't pending
    keeps_stale : FindsStale x.objects at_timers (lane_caller m.pass c.log c.object_log) timer number
        → KeepsCall s l calls.Sigwait (answers.StaleSignal timer number) m
    keeps_stale stale =
        let looks = stale.looks in
        let by : LooksBy u = record {
          timers = looks.timers.seen;
          timers_mine = looks.timers.mine;
          objects = λ i. looks.reads.pass.seen.each i;
          objects_mine = looks.reads.pass.mine;
          opening = looks.reads.opening;
          log = looks.log;
          object_log = looks.object_log;
        } in
        let at = subst (λ cells. StateAfter object_meaning cells timer (seen_of m.pass.objects timer) looks.reads.state) next.objects looks.reads.at in
        keeps_popped by (answers.StaleSignal timer number) (λ e follows joined queued. (
          ((pops_seen m.pass.signals.knows, [], refl, refl), queued),
          record {
            stamp = stale.stamp;
            had = entries_had timer stale.stamp m.pass.timers.known joined follows.timers looks.told;
            sent = stale.sent;
            room = subst (λ limit. stale.stamp < limit) next.world.limit stale.room;
            stale = ap (λ u. is_fresh u number)
                (sym (queued_is next e timer (seen_of m.pass.objects timer) looks.reads.state stale.state at (follows.objects timer) (sym looks.state)
                ∙ ap (queued_after s e.run timer (base_of (kind_of s timer))) (sym looks.stamp))) ∙ stale.stale;
          },
        ))

    -- it was of no queued timer, which no run has
    keeps_foreign : (signals.IsQueued x.objects timer → ⊥) → lane_caller m.pass c.log c.object_log ≡ at_timers
        → KeepsCall s l calls.Sigwait (answers.StaleSignal timer number) m
    keeps_foreign not same =
        let timers = ap (λ (k : Caller). k.timers) same in
        let by = looks_same (same ∙ ap (λ v. record (lane_caller l.pass [] []) { timers = v }) (sym timers)) (begins_same (ap (λ (v : KnownOfTimers). v.seen) timers))
        (ap (λ (v : KnownOfTimers). v.mine) timers) in
        keeps_popped by (answers.StaleSignal timer number) (λ e follows joined queued. absurd (not (object_there next timer queued)))

    -- ---- it was accepted

    -- the lane once it had taken the signal
    abbrev taken : LaneOf
    taken = record l { pass = record l.pass { timers = record l.pass.timers { known = u } } }

    next_taken : IsNextCall s x taken calls.Sigwait
    next_taken = record {
      world = next.world;
      range = next.range;
      whole = next.whole;
      objects = next.objects;
      at = next.at;
      there = next.there;
      is = next.is;
    }

    reads_taken : ReadsClock taken.pass m.pass c.reading
    reads_taken = record { same = c.reads.same; shows = c.reads.shows; count = c.reads.count }

    keeps_signal : (overrun : ℕ)
        → AcceptsSignal x.objects x.timers.about at_timers (lane_caller m.pass c.log c.object_log) timer number overrun c.reading
        → KeepsCall s l calls.Sigwait (answers.Signal timer number overrun) m
    keeps_signal overrun its =
        let commits = its.made.enters.commits in
        let stamp = length commits.adds.before in
        let at = subst (λ cells. StateAfter object_meaning cells timer commits.adds.before commits.state) next.objects commits.at in
        let entry : Armed → ObjectEntry = λ arm. object_entries.Accept c.reading.stamp arm (acceptances.Accepted overrun) in
        let does = (part m next_taken reads_taken c.notes its.made entry).does in
        let turn = rearming_actions timer does.start stamp (entry (arm_noted its.made.arm)) in
        let accepted = rearming_part m next_taken reads_taken c.notes its.made entry refl refl
        (λ clock. ap (λ k. record {
          call = object_calls.Accept (reading_at clock c.reading.stamp) k;
          reply = replies.Accept (accept_answers.Accepted overrun);
        }) (arm_back its.made.arm)) in
        let this : EntersOne s (ClockHas c.reading) l.pass.timers.known u (pops_seen m.pass.signals.knows, OfRise (pop_counter s)) = one in
        let place = this.0.place in
        let before : place < length u.seen = this.1.made.below.0 in
        keeps_part next m (answers.Signal timer number overrun) (plain c.reading.stamp place last (pop ∷ turn))
        (part_then (part_signalled (pop_counter s) (pops_seen m.pass.signals.knows) signal this) accepted)
        (reading_goes_on l.pass m.pass c.reading c.reads) (clock_left c.reads.same)
        (c.notes ∙ with_done-joins l.notes l.label c.log c.object_log) refl c.reads.count
        (whole_turn timer stamp (entry (arm_noted its.made.arm)) does.start does.no_turns)
        (turned turn (no_signals timer stamp (entry (arm_noted its.made.arm)) does.start does.no_turns)) (λ e follows joined has kept low.
        let queued = popped_queued next joined has (pops_seen m.pass.signals.knows) signal turn refl in
        let r = rearmed m next_taken reads_taken c.notes its.made entry follows joined in
        let behind = accepted.enters.made.rise.0 in
        signal_made number (pops_seen m.pass.signals.knows) overrun kept (omega (arith, low, this.1.made.rise.0)) (record {
          ns = r.ns;
          timely = r.timely;
          turn = record { begun = r.turn.begun; from = omega (arith, r.turn.from, before, behind); turn = r.turn.turn };
          arms = r.arms;
          ends = r.ends;
          between = omega (arith, r.between, before, behind);
          high = r.high;
          behind = (
            omega arith,
            behind_all place (length u.seen)
                (receipts m next_taken its.made.enters its.made.turn does (begins_refl its.made.begun.seen)) (omega (arith, before)) accepted.enters.made.rise,
          );
          stops = record {
            early = this.0 ∷ r.stops.early;
            late = r.stops.late;
            split = ap (λ ys. this.0 ∷ ys) r.stops.split;
            are = (λ i. this.2 i ∷ r.stops.are i);
            below = (omega (arith, r.between, before, behind), r.stops.below);
            behind = r.stops.behind;
          };
          holds = r.holds;
        }) queued
        (ap (λ t. is_fresh t number) (sym (queued_is next e timer commits.adds.before commits.state its.state at
        (follows_object (record { rest = _; whole = commits.adds.last }) (follows.objects timer)) its.found)) ∙ its.fresh))

    -- by what it came to
    by_signal : (n : NextSignal) → signals.IsForeign x.objects at_timers (lane_caller m.pass c.log c.object_log) timer number n
        ⊎ (signals.IsQueued x.objects timer × TakesSignal x.objects x.timers.about at_timers (lane_caller m.pass c.log c.object_log) timer number c.reading n)
        → KeepsCall s l calls.Sigwait (next_told n) m
    by_signal nexts.NoneQueued takes = ⊎_elim (λ foreign. absurd (cc)) (λ its. absurd its.1) takes
    by_signal (nexts.Accepted i k overrun) takes =
        ⊎_elim (λ foreign. absurd (cc))
        (λ its.
        subst (λ n. KeepsCall s l calls.Sigwait (answers.Signal n k overrun) m) (sym its.1.0)
        (subst (λ n. KeepsCall s l calls.Sigwait (answers.Signal timer n overrun) m) (sym its.1.1) (keeps_signal overrun its.1.2)))
        takes
    by_signal (nexts.Spent i k n) takes =
        ⊎_elim (λ foreign. absurd (cc))
        (λ its.
        subst (λ j. KeepsCall s l calls.Sigwait (answers.SpentSignal j k) m) (sym its.1.0)
        (subst (λ j. KeepsCall s l calls.Sigwait (answers.SpentSignal timer j) m) (sym its.1.1) (keeps_spent its.1.2 its.1.3)))
        takes
    by_signal (nexts.Stale i k) takes =
        ⊎_elim
        (λ foreign.
        let of : i ≡ timer = cc in
        let nth : k ≡ number = cc in
        subst (λ j. KeepsCall s l calls.Sigwait (answers.StaleSignal j k) m) (sym of)
        (subst (λ j. KeepsCall s l calls.Sigwait (answers.StaleSignal timer j) m) (sym nth) (keeps_foreign foreign.0 foreign.2)))
        (λ its.
        subst (λ j. KeepsCall s l calls.Sigwait (answers.StaleSignal j k) m) (sym its.1.0)
        (subst (λ j. KeepsCall s l calls.Sigwait (answers.StaleSignal timer j) m) (sym its.1.1) (keeps_stale its.1.2)))
        takes

  -- a try of the queue took one
  behind : (n : NextSignal) → ((timer : ℕ) × (number : ℕ) × signals.TakesOldest l.pass.signals.knows m.pass.signals.knows timer number
      × (tried : Caller) × TriesQueue x.timers.about (lane_caller l.pass [] []) tried l.pass.signals.knows m.pass.signals.knows
      (Some (record { timer = timer; number = number }))
      × (signals.IsForeign x.objects tried (lane_caller m.pass c.log c.object_log) timer number n
      ⊎ (signals.IsQueued x.objects timer × TakesSignal x.objects x.timers.about tried (lane_caller m.pass c.log c.object_log) timer number c.reading n)))
      → KeepsCall s l calls.Sigwait (next_told n) m
  behind n takes =
      let timer = takes.0 in
      let number = takes.1 in
      let tries = takes.4 in
      let u = takes.3.timers in
      by_signal timer number takes.2.pops u tries.looks (tries.stands ring) n
      (subst (λ y. signals.IsForeign x.objects y (lane_caller m.pass c.log c.object_log) timer number n
      ⊎ (signals.IsQueued x.objects timer × TakesSignal x.objects x.timers.about y (lane_caller m.pass c.log c.object_log) timer number c.reading n))
      tries.same takes.5)

  -- law: by what the next signal is
  taken_next : (n : NextSignal) → TakesNext x.objects x.timers.about (lane_caller l.pass [] [])
      (lane_caller m.pass c.log c.object_log) l.pass.signals.knows m.pass.signals.knows c.reading n → KeepsCall s l calls.Sigwait (next_told n) m
  taken_next nexts.NoneQueued takes = keeps_empty takes.0 takes.1
  taken_next (nexts.Accepted i k overrun) takes = behind (nexts.Accepted i k overrun) takes
  taken_next (nexts.Spent i k n) takes = behind (nexts.Spent i k n) takes
  taken_next (nexts.Stale i k) takes = behind (nexts.Stale i k) takes

  -- law: a lane keeps the call
  pub keeps_sigwait : KeepsCall s l calls.Sigwait a m
  keeps_sigwait = subst (λ b. KeepsCall s l calls.Sigwait b m) (sym c.told) (taken_next c.next c.takes)
