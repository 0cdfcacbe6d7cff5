-- Calls that take a base off line or bring it on line again, as their lanes keep them.
use Rattle.run_history.specs.Actions.{Action}
use Rattle.call_laws.proofs.Sights.{DoesNothing, IsToldSo}
use Rattle.call_laws.proofs.Evacuated.{MovedAll}
use Rattle.base_row.specs.declared.view.Opening.{Opening}
use Rattle.lane_notes.specs.Notes.{NotesOf}
use Rattle.call_laws.proofs.Parts.{part_alone, part_as}
use Rattle.call_laws.proofs.CallKept.{many_there}
use Rattle.call_laws.proofs.Entering.{enters_shift}
use Rattle.call_laws.proofs.Noted.{HasWholeTurns, notes_of, one_noted, whole_turns-append, with_done-joins, with_shift-joins}
use Rattle.call_laws.proofs.Parts.{part_shift}
use Rattle.call_laws.proofs.Sights.{keeps_sight}
use Rattle.call_laws.proofs.Stays.{standing_stays, timer_stays}
use Rattle.lane_notes.specs.Notes.{both_noted}
use Rattle.lane_notes.proofs.PartLists.{both_noted-assoc}
use Rattle.std.proofs.Common.{◌≡◌, ◌≤◌, ◌<◌, ℕ, ◌+◌, nat_lt, List, [], ◌∷◌, ◌++◌, length, arith, refl, sym, ap, ◌∙◌, subst, inl, inr, ⊎_elim}
use Rattle.std.specs.Prelude.{IsSome, flat_map}
use Rattle.std.proofs.lemmas.Bool.{ltb-true}
use Rattle.ktime.specs.Readings.{ClockReading}
use Rattle.clock_cell.specs.Views.{writes}
use Rattle.pass_names.specs.SharedHistory.{LooksOn}
use Rattle.pass_names.proofs.Passes.{begins_length}
use Rattle.seq_timer.specs.Halves.{running_on}
use Rattle.seq_timer.specs.Standings.{first_standing, last_standing, standing_after_all}
use Rattle.seq_timer.specs.Steps.{Timer}
use Rattle.seq_timer.specs.Systems.{first_system, shifts_of}
use Rattle.seq_timer.specs.Tables.{is_armed_on, no_declared, no_timer, runs_on, seen_in, timer_at}
use Rattle.seq_timer.specs.declared.context.Context.TheVariants as contexts
use Rattle.seq_timer.specs.declared.standing.BaseEvent.TheVariants as shifts
use Rattle.seq_timer.specs.declared.standing.Standing.{Standing}
use Rattle.seq_timer.specs.declared.system.SystemEntry.{SystemEntry}
use Rattle.seq_timer.proofs.Systems.{after_entries-shifts_of}
use Rattle.base_row.specs.Logs.{LogOf, kept}
use Rattle.base_row.specs.declared.log.Receipt.{Receipt}
use Rattle.hr_timers.specs.Known.{timer_then}
use Rattle.hr_timers.specs.Moves.{GoesOffline, OfflineFits, OnlineFits, OnlyLooks, ShiftsBase}
use Rattle.hr_timers.specs.Ways.{standing_then}
use Rattle.hr_timers.specs.declared.answer.OfflineAnswer.{OfflineAnswer}
use Rattle.hr_timers.specs.declared.answer.OfflineAnswer.TheVariants as offs
use Rattle.hr_timers.specs.declared.answer.OnlineAnswer.{OnlineAnswer}
use Rattle.hr_timers.specs.declared.answer.OnlineAnswer.TheVariants as ons
use Rattle.record_text.specs.declared.record.Answer.{Answer}
use Rattle.record_text.specs.declared.record.Answer.TheVariants as answers
use Rattle.script_text.specs.Declarations.{declareds_of, terms_of}
use Rattle.script_text.specs.declared.script.Call.{Call}
use Rattle.script_text.specs.declared.script.Call.TheVariants as calls
use Rattle.script_text.specs.declared.script.Script.{Script}
use Rattle.run_history.specs.Actions.{Shifted}
use Rattle.run_history.specs.Receipts.{PlacedEntry}
use Rattle.run_history.specs.Calls.{Does, AnswerHolds}
use Rattle.run_history.specs.Deeds.{evacuates}
use Rattle.run_history.specs.Truths.{MayGo, RanNone, sight_of}
use Rattle.run_history.specs.Runs.{Ending, IsJoined, witness_of}
use Rattle.run_history.specs.Promises.{RunGoesOn}
use Rattle.run_history.specs.Witnesses.{Evacuation, Trace, standing_along, timer_along}
use Rattle.run_history.proofs.OffLineMade.{evacuating, offline_made, online_made, shift_by}
use Rattle.run_history.proofs.OthersMade.{plain}
use Rattle.lane_notes.proofs.Kept.{signals_of}
use Rattle.call_laws.proofs.Signals.{signals_of-append, turns_alone}
use Rattle.lane_notes.specs.Called.{CallsOffline, CallsOnline, LaneOf, LeavesSignals, ReadsClock, offline_told, online_told, with_done, with_offline_told, with_online_told}
use Rattle.lane_notes.specs.Worlds.{WorldOf}
use Rattle.call_laws.proofs.CallKept.{LooksAtClock, clock_left, opened_timers, reading_goes_on}
use Rattle.call_laws.proofs.Evacuated.{all_moved, armed_there, front_seen, left_wider}
use Rattle.lane_notes.proofs.Kept.{Follows, IsNextCall, KeepsCall}
use Rattle.call_laws.proofs.PartKept.{keeps_part}
use Rattle.call_laws.proofs.Parts.{ClockHas, IsPart, part_none, part_then}
use Rattle.call_laws.proofs.Sights.{looks_alone, notes_alone}
use Rattle.std.proofs.lemmas.List.{get_or-map}
use Rattle.seq_timer.specs.Steps.{opening}
use Rattle.seq_timer.specs.declared.context.Terms.{Terms}
use Rattle.std.proofs.Common.{false}
use Rattle.std.proofs.lemmas.Bool.Decides.{nat_tests}
use Rattle.lane_notes.specs.Called.{with_shift}
use Rattle.lane_notes.proofs.SeenMore.{goes_before}
use Rattle.lane_notes.proofs.PartLists.{no_notes-joins}

-- ---- what a call saw of bases and timers

module _ {s : Script} {x : WorldOf} {l : LaneOf} {call : Call} (next : IsNextCall s x l call) (m : LaneOf) where
  abbrev seen : List SystemEntry
  seen = m.pass.timers.known.seen

  module _ (e : Ending) (follows : Follows m.pass e) (joined : IsJoined s e) where
    -- each timer is, when the call ends, as the call had seen it then
    timer_last : (t : ℕ) → timer_along (witness_of s e) (length seen) t ≡ timer_then x.timers.about seen t
    timer_last t = timer_stays next.world.timers joined seen follows.timers t

    runs_none : (base : ℕ) → ((u : ℕ) → runs_on base (timer_then x.timers.about seen u) ≡ false) → RanNone (witness_of s e) base (length seen)
    runs_none base none = λ u. ap (runs_on base) (timer_last u) ∙ none u

  -- law: a lane keeps a call that only looked, and saw nothing more of bases, by how these stood before
  keeps_standing : (a : Answer) (looks : LooksOn l.pass.timers.known m.pass.timers.known)
      → ((b : ℕ) → shifts_of b seen ≡ shifts_of b l.pass.timers.known.seen) → m.pass.objects ≡ l.pass.objects → LooksAtClock l.pass m.pass
      → LeavesSignals l.pass m.pass → m.notes ≡ l.notes → DoesNothing s m call a → ((e : Ending)
      → ((b : ℕ) → standing_along (witness_of s e) (length seen) b ≡ standing_then x.timers.about l.pass.timers.known.seen b) → IsToldSo s l m call a e)
      → KeepsCall s l call a m
  keeps_standing a looks same objects clock signals notes does told =
      keeps_sight next a (looks_alone looks.seen looks.mine objects clock signals notes) does (λ e follows joined has.
      told e (λ b. standing_stays next.world.timers joined seen follows.timers b
      ∙ after_entries-shifts_of (first_system x.timers.about.timers) b seen ∙ ap (standing_after_all first_standing) (same b)
      ∙ sym (after_entries-shifts_of (first_system x.timers.about.timers) b l.pass.timers.known.seen)))

-- ---- timers that were moved

module _ {s : Script} {x : WorldOf} {l : LaneOf} (m : LaneOf) {base heir budget : ℕ} (next : IsNextCall s x l (calls.Offline base heir budget))
    (reading : ClockReading) (reads : ReadsClock l.pass m.pass reading) (objects : m.pass.objects ≡ l.pass.objects)
    (signals : LeavesSignals l.pass m.pass) {answer : OfflineAnswer}
    {fresh log : LogOf Receipt} (empty : fresh.receipts ≡ [])
    (g : GoesOffline kept x.timers.about base heir reading l.pass.timers.known m.pass.timers.known budget answer fresh log) where
  -- the timers, and the entries of their moves
  abbrev off : MovedAll next base heir reading l.pass.objects g.begins g.evacuates.mid g.evacuates.timers fresh g.evacuates.between
  off = all_moved next base heir reading l.pass.objects g.evacuates.timers fresh g.evacuates.between g.evacuates.moves

  abbrev moves : List Action
  moves = flat_map (evacuates heir reading.stamp) off.moved

  -- what the record shows of the call
  abbrev trace_of : Answer → Trace
  trace_of a =
      evacuating reading.stamp (length l.pass.timers.known.seen) (length m.pass.timers.known.seen) heir off.moved (shift_by base heir a)

  -- what it did is what its answer says
  abbrev DoesSo : Answer → Type 0
  DoesSo a = length off.moved ≡ length g.evacuates.timers → (e : Ending) → let w = witness_of s e in
      Does (sight_of w (length l.pass.timers.known.seen) (length m.pass.timers.known.seen)) s reading.stamp (calls.Offline base heir budget) a []
      off.moved (trace_of a).actions

  -- the base might go off line when the call began
  abbrev Might : Ending → Type 0
  Might e = MayGo (witness_of s e) base heir (length l.pass.timers.known.seen)

  -- law: it might, in every run that goes on from there
  might : (e : Ending) → IsJoined s e → RunGoesOn l.pass.timers.known.seen e → Might e
  might e joined goes =
      let then : (b : ℕ) → standing_along (witness_of s e) (length l.pass.timers.known.seen) b ≡ standing_then x.timers.about l.pass.timers.known.seen b =
      standing_stays next.world.timers joined l.pass.timers.known.seen goes in
      record {
        online = ap (λ (y : Standing). y.heir) (then base) ∙ g.may.online;
        heir_online = ap (λ (y : Standing). y.heir) (then heir) ∙ g.may.heir_online;
        room = subst (λ (y : Standing). y.stamp < last_standing) (sym (then base)) g.may.stamp;
      }

  -- and what its answer tells holds when it ends, or held when it began
  abbrev HoldsSo : Answer → Type 0
  HoldsSo a = (e : Ending) → Follows m.pass e → IsJoined s e → Might e → AnswerHolds (witness_of s e) (length l.pass.timers.known.seen)
      (length m.pass.timers.known.seen) l.label reading.stamp (trace_of a).actions (calls.Offline base heir budget) a

  -- a log that nothing more went to has the receipts of the moves
  logged : {log' : LogOf Receipt} → log' ≡ g.evacuates.between
      → with_done l.notes l.label log'.receipts [] ≡ both_noted l.notes (notes_of l.label off.log [])
  logged same =
      ap (λ (k : LogOf Receipt). with_done l.notes l.label k.receipts []) same
      ∙ ap (λ rs. with_done l.notes l.label rs []) (off.adds ∙ ap (λ rs. rs ++ off.log) empty) ∙ with_done-joins l.notes l.label off.log []

  -- what the call did is no turn of an object
  moves_turns : (moved : List Evacuation) → HasWholeTurns (flat_map (evacuates heir reading.stamp) moved)
  moves_turns [] = refl
  moves_turns (e ∷ moved) = moves_turns moved

  shift_turns : (a : Answer) → HasWholeTurns (shift_by base heir a)
  shift_turns (answers.Offline count stamp) = refl
  shift_turns a = refl

  -- and pushes and pops no signals
  moves_signals : (moved : List Evacuation) → signals_of (flat_map (evacuates heir reading.stamp) moved) ≡ []
  moves_signals [] = refl
  moves_signals (e ∷ moved) = moves_signals moved

  shift_signals : (a : Answer) → signals_of (shift_by base heir a) ≡ []
  shift_signals (answers.Offline count stamp) = refl
  shift_signals a = refl

  -- law: the call ended with this part behind the moves
  ended : (a : Answer) {ends : List Action} {notes : List PlacedEntry} {added : NotesOf}
      → IsPart s (ClockHas reading) l.label g.evacuates.mid l.pass.objects m.pass.timers.known l.pass.objects ends notes added → shift_by base heir a ≡ ends
      → m.notes ≡ both_noted l.notes (both_noted (notes_of l.label off.log []) added) → DoesSo a → HoldsSo a
      → KeepsCall s l (calls.Offline base heir budget) a m
  ended a last are joins does holds =
      keeps_part next m a (trace_of a) (part_as (ap (λ es. moves ++ es) (sym are))
      (part_alone objects (part_then (part_none {w = g.begins} g.looks.seen g.looks.mine) (part_then off.part last))))
      (reading_goes_on l.pass m.pass reading reads) (clock_left reads.same) joins refl reads.count
      (whole_turns-append moves (shift_by base heir a) (moves_turns off.moved) (shift_turns a))
      (turns_alone l.pass m.pass (trace_of a).actions signals (signals_of-append moves (shift_by base heir a)
      ∙ (λ i. moves_signals off.moved i ++ shift_signals a i))) (λ e follows joined has kept low.
      let goes = goes_before last.enters.seen follows.timers in
      offline_made base heir budget off.moved a kept low (does off.many e) (
        off.keeps e joined goes,
        left_wider (witness_of s e) base
            (begins_length g.looks.seen) (begins_length last.enters.seen) off.moved (off.turns e joined goes),
      ) (holds e follows joined (might e joined (goes_before g.looks.seen (goes_before off.part.enters.seen goes)))))

  -- law: without an entry of the base
  pub ended_by_look : (a : Answer) → shift_by base heir a ≡ [] → LooksOn g.evacuates.mid m.pass.timers.known → log ≡ g.evacuates.between
      → m.notes ≡ with_done l.notes l.label log.receipts [] → DoesSo a → HoldsSo a → KeepsCall s l (calls.Offline base heir budget) a m
  ended_by_look a none looks same notes =
      ended a (part_none looks.seen looks.mine) none
      (notes ∙ logged same ∙ ap (both_noted l.notes) (no_notes-joins (notes_of l.label off.log [])))

  -- law: or with one, by which the base went off line
  pub ended_by_shift : (number stamp : ℕ) → ShiftsBase x.timers.about g.evacuates.mid m.pass.timers.known base (shifts.Offline heir)
      → stamp ≡ length (shifts_of base g.evacuates.mid.seen) + 1 → log ≡ g.evacuates.between
      → m.notes ≡ with_shift (with_done l.notes l.label log.receipts []) l.label base stamp (shifts.Offline heir) → DoesSo (answers.Offline number stamp)
      → HoldsSo (answers.Offline number stamp) → KeepsCall s l (calls.Offline base heir budget) (answers.Offline number stamp) m
  ended_by_shift number stamp shift counted same notes =
      ended (answers.Offline number stamp) (part_shift _ _ _ (enters_shift (many_there next) shift counted)) refl
      (notes ∙ ap (λ ns. with_shift ns l.label base stamp (shifts.Offline heir)) (logged same)
      ∙ with_shift-joins (both_noted l.notes (notes_of l.label off.log [])) l.label base stamp (shifts.Offline heir)
      ∙ both_noted-assoc l.notes (notes_of l.label off.log []) (one_noted l.label (Shifted base stamp (shifts.Offline heir))))

-- ---- off line

-- how many more may be moved
none_more : (budget count : ℕ) → nat_lt count budget ≡ false → budget ≤ count
none_more budget count none = grind (arith, nat_tests)

-- law: a lane keeps a call that takes a base off line
pub keeps_offline : {s : Script} {x : WorldOf} {l m : LaneOf} {a : Answer} {base heir budget : ℕ} → IsNextCall s x l (calls.Offline base heir budget)
    → CallsOffline x l m a base heir budget → KeepsCall s l (calls.Offline base heir budget) a m
keeps_offline {s = s} {x = x} {l = l} {m = m} {base = base} {heir = heir} {budget = budget} next c =
    subst (λ a. KeepsCall s l (calls.Offline base heir budget) a m) (sym c.told) (by_answer c.answer c.takes c.notes)
  where
    o : Opening
    o = x.timers.about

    quiet : (a : Answer) → OnlyLooks l.pass.timers.known m.pass.timers.known c.fresh c.log
        → m.notes ≡ with_done l.notes l.label c.log.receipts []
        → DoesNothing s m (calls.Offline base heir budget) a → ((e : Ending)
        → ((b : ℕ) → standing_along (witness_of s e) (length m.pass.timers.known.seen) b ≡ standing_then o l.pass.timers.known.seen b)
        → IsToldSo s l m (calls.Offline base heir budget) a e) → KeepsCall s l (calls.Offline base heir budget) a m
    quiet a only notes =
        keeps_standing next m a only.looks (only.keeps c.first) c.objects (clock_left c.reads.same) c.signals
        (notes_alone l m (ap (λ (k : LogOf Receipt). k.receipts) only.sink ∙ c.empty) refl notes)

    by_answer : (answer : OfflineAnswer) → OfflineFits kept o base heir c.reading l.pass.timers.known m.pass.timers.known budget answer c.fresh c.log
        → m.notes ≡ with_offline_told (with_done l.notes l.label c.log.receipts []) l.label base heir answer
        → KeepsCall s l (calls.Offline base heir budget) (offline_told answer) m
    by_answer (offs.AlreadyOffline n) fits notes = quiet (answers.Already n) fits.0 notes (λ e. refl)
        (λ e now. (ap (λ (y : Standing). y.stamp) (now base) ∙ sym fits.2, subst (λ (y : Standing). IsSome y.heir) (sym (now base)) fits.1))
    by_answer (offs.HeirOffline n) fits notes = quiet (answers.HeirOffline n) fits.0 notes (λ e. refl)
        (λ e now. (
          ap (λ (y : Standing). y.stamp) (now heir) ∙ sym fits.3,
          subst (λ (y : Standing). IsSome y.heir) (sym (now heir)) fits.2,
          ap (λ (y : Standing). y.heir) (now base) ∙ fits.1,
        ))
    by_answer (offs.BaseSpent n) fits notes = quiet (answers.BaseSpent n) fits.0 notes (λ e. refl)
        (λ e now. (
          ap (λ (y : Standing). y.stamp) (now base) ∙ sym fits.4,
          ap (λ (y : Standing). y.heir) (now base) ∙ fits.1,
          fits.3,
          ap (λ (y : Standing). y.heir) (now heir) ∙ fits.2,
        ))
    by_answer (offs.Busy n t g) fits notes =
        let end = fits.evacuates.last in
        ended_by_look m next c.reading c.reads c.objects c.signals c.empty fits (answers.OfflineBusy n t g) refl end.1.0.looks end.1.0.sink notes
        (λ many e. (record { counted = omega (arith, end.0, many); done = refl }, omega (arith, end.0, fits.evacuates.few)))
        (λ e follows joined may. (
          may,
          (
            ap (running_on base) (timer_last next m e follows joined t) ∙ end.1.1,
            ⊎_elim
                (λ hard. inl (ap (λ u. running_on base (seen_in contexts.Hard u)) (timer_last next m e follows joined t) ∙ hard))
                (λ soft. inr (λ u. ap (λ z. runs_on base (seen_in contexts.Hard z)) (timer_last next m e follows joined u) ∙ soft.0 u))
                end.1.2,
          ),
        ))
    by_answer (offs.More n) fits notes =
        let end = fits.evacuates.last in
        ended_by_look m next c.reading c.reads c.objects c.signals c.empty fits (answers.OfflineMore n) refl end.1.1.0.looks end.1.1.0.sink notes
        (λ many e. (
          record { counted = omega (arith, end.0, many); done = refl },
          omega (arith, end.0, fits.evacuates.few, none_more budget (length fits.evacuates.timers) end.1.1.2),
        ))
        (λ e follows joined may. (
          may,
          runs_none next m e follows joined base end.1.1.1,
          (end.1.0, ap (is_armed_on base) (timer_last next m e follows joined end.1.0) ∙ end.1.1.3),
        ))
    by_answer (offs.Spent n t stamp) fits notes =
        let end = fits.evacuates.last in
        ended_by_look m next c.reading c.reads c.objects c.signals c.empty fits (answers.OfflineSpent n t stamp) refl end.1.0.looks end.1.0.sink notes
        (λ many e. (
          record { counted = omega (arith, end.0, many); done = refl },
          omega (arith, end.0, ltb-true (length fits.evacuates.timers) budget end.1.2),
        ))
        (λ e follows joined may.
        let terms = ap (λ (u : Timer). u.terms) (ap (λ ts. timer_at ts t) (opened_timers next)
        ∙ get_or-map (λ d. opening d (terms_of s)) (declareds_of s) t no_declared no_timer
        (armed_there next e joined m.pass.timers.known.seen follows.timers base t end.1.3)) in (
          may,
          runs_none next m e follows joined base end.1.1,
          record {
            front = front_seen next e joined m.pass.timers.known.seen follows.timers base t end.1.6;
            armed = ap (is_armed_on base) (timer_last next m e follows joined t) ∙ end.1.3;
            stamp = ap (λ (u : Timer). u.stamp) (timer_last next m e follows joined t) ∙ sym end.1.4;
            full = subst (λ (y : Terms). y.limit + y.reach ≤ stamp) terms end.1.5;
          },
        ))
    by_answer (offs.Offline n stamp) fits notes =
        let end = fits.evacuates.last in
        ended_by_shift m next c.reading c.reads c.objects c.signals c.empty fits n stamp end.1.0 end.1.1 end.1.3 notes
        (λ many e. (record { counted = omega (arith, end.0, many); done = refl }, omega (arith, end.0, fits.evacuates.few)))
        (λ e follows joined may. (
          may,
          record {
            unarmed = λ t. ap (is_armed_on base) (timer_last next m e follows joined t) ∙ end.1.2.unarmed t;
            idle = λ t. ap (runs_on base) (timer_last next m e follows joined t) ∙ end.1.2.idle t;
          },
        ))

-- ---- on line again

-- law: a lane keeps a call that brings a base on line again
pub keeps_online : {s : Script} {x : WorldOf} {l m : LaneOf} {a : Answer} {base : ℕ} → IsNextCall s x l (calls.Online base) → CallsOnline x l m a base
    → KeepsCall s l (calls.Online base) a m
keeps_online {s = s} {x = x} {l = l} {m = m} {base = base} next c =
    subst (λ a. KeepsCall s l (calls.Online base) a m) (sym c.told) (by_answer c.answer c.takes c.notes)
  where
    by_answer : (answer : OnlineAnswer) → OnlineFits x.timers.about l.pass.timers.known m.pass.timers.known base answer
        → m.notes ≡ with_online_told l.notes l.label base answer → KeepsCall s l (calls.Online base) (online_told answer) m
    by_answer (ons.AlreadyOnline n) fits notes =
        keeps_standing next m (answers.Already n) fits.0 (fits.1 c.first) c.objects (clock_left c.clock) c.signals notes (λ e. refl)
        (λ e now. (ap (λ (y : Standing). y.stamp) (now base) ∙ sym fits.3, ap (λ (y : Standing). y.heir) (now base) ∙ fits.2))
    by_answer (ons.Online n) fits notes =
        keeps_part next m (answers.Online n)
        (plain (length (writes m.pass.clock.knows)) (length l.pass.timers.known.seen) (length m.pass.timers.known.seen) (Shifted base n shifts.Online ∷ []))
        (part_alone {IsSo = λ c. Unit} c.objects (part_shift _ _ _ (enters_shift (many_there next) fits.0 fits.1))) (λ e goes. tt) (clock_left c.clock)
        (notes ∙ with_shift-joins l.notes l.label base n shifts.Online) refl refl refl
        (turns_alone l.pass m.pass (Shifted base n shifts.Online ∷ []) c.signals refl)
        (λ e follows joined has kept low. online_made base n kept low)
