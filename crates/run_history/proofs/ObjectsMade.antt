-- Calls on objects that make an entry: from where the call's turn of the object begins to its entry of it.
use Rattle.std.proofs.Common.{true, false, ◌≡◌, ◌≤◌, ℕ, ◌+◌, List, [], ◌∷◌, ◌++◌, Option, Some, None, arith, refl, sym, subst}
use Rattle.std.specs.List.{AllByRecursion}
use Rattle.ktime.specs.Times.{last_time}
use Rattle.ktime.specs.declared.mode.Mode.TheVariants as modes
use Rattle.ktime.specs.declared.mode.Mode.{Mode}
use Rattle.ktime.specs.declared.timespec.TimeSpec.{TimeSpec}
use Rattle.seq_timer.specs.Histories.{Holds}
use Rattle.seq_timer.specs.declared.observation.Observation.TheVariants as observations
use Rattle.timer_fd.specs.Steps.{count_length}
use Rattle.record_text.specs.Replies.{answer_of_accept, answer_of_interrupt, answer_of_read, answer_of_settime, answer_of_sleep}
use Rattle.record_text.specs.declared.record.AcceptReply.TheVariants as acceptances
use Rattle.record_text.specs.declared.record.AcceptReply.{AcceptReply}
use Rattle.record_text.specs.declared.record.Answer.TheVariants as answers
use Rattle.record_text.specs.declared.record.Answer.{Answer}
use Rattle.record_text.specs.declared.record.Armed.TheVariants as armings
use Rattle.record_text.specs.declared.record.Armed.{Armed}
use Rattle.record_text.specs.declared.record.Label.{Label}
use Rattle.record_text.specs.declared.record.ObjectEntry.TheVariants as object_entries
use Rattle.record_text.specs.declared.record.ObjectEntry.{ObjectEntry}
use Rattle.record_text.specs.declared.record.ReadReply.TheVariants as reads
use Rattle.record_text.specs.declared.record.ReadReply.{ReadReply}
use Rattle.record_text.specs.declared.record.SettimeReply.TheVariants as settings
use Rattle.record_text.specs.declared.record.SettimeReply.{SettimeReply}
use Rattle.record_text.specs.declared.record.SleepReply.TheVariants as sleeps
use Rattle.record_text.specs.declared.record.SleepReply.{SleepReply}
use Rattle.record_text.specs.declared.record.InterruptReply.TheVariants as interrupts
use Rattle.record_text.specs.declared.record.InterruptReply.{InterruptReply}
use Rattle.timer_setting.specs.Arguments.{mode_by}
use Rattle.timer_setting.specs.declared.arming.Wanted.{Wanted}
use Rattle.run_history.specs.Actions.{Action, Began, Made, Signalled}
use Rattle.run_history.specs.ObjectCalls.{AreValidFor, Arms, ArmsAs, HasBegun, cancels, IsProperSleep, MakesAnew, MakesRearming, nanoseconds_of}
use Rattle.script_text.specs.Declarations.{base_of, kind_of, without_slack}
use Rattle.run_history.specs.Starts.{SentTo, arming_actions, Sight}
use Rattle.script_text.specs.declared.script.Call.TheVariants as calls
use Rattle.script_text.specs.declared.script.Call.{Call}
use Rattle.script_text.specs.declared.script.Kind.TheVariants as kinds
use Rattle.run_history.specs.Calls.{AnswerHolds, Does, IsFd}
use Rattle.run_history.specs.Truths.{AreTrue, DisarmedFirst, IsMoment, IsTrueEntry, IsTrueStart, RefusedBefore, SawRefusal, WasIdle, sight_of}
use Rattle.run_history.specs.Witnesses.{Witness, timer_along}
use Rattle.run_history.specs.Fits.{FitsCall, Seen}
use Rattle.run_history.specs.Receipts.{PlacedEntry}
use Rattle.run_history.specs.Rounds.{Spans}
use Rattle.run_history.specs.Objects.{queued_after}
use Rattle.run_history.specs.Signals.{SendsSignals, pop_counter}
use Rattle.posix_timer.specs.Queued.{is_fresh}
use Rattle.run_history.proofs.Kept.{call_made, IsKept, moment_of, Stops}
use Rattle.run_history.proofs.OthersMade.{none_moved, plain}
use Rattle.script_text.proofs.Lists.{All-append}
use Rattle.std.proofs.lemmas.List.{append_assoc}
use Rattle.run_history.proofs.Plain.{IsPlain, plain_arms, plain_then}

-- ---- entries of its timer, and then the object's

plain_start : (sight : Sight) (limit timer ns reading base : ℕ) (mode : Mode) (arm : Armed) (start : List Action)
    → Arms sight limit timer mode ns reading base arm start → AllByRecursion IsPlain start
plain_start sight limit timer ns reading base mode armings.None start is = subst (AllByRecursion IsPlain) (sym is) tt
plain_start sight limit timer ns reading base mode (armings.Generation generation) start is =
    subst (AllByRecursion IsPlain) (sym is.1) (plain_arms timer reading (without_slack mode ns base) is.0)
plain_start sight limit timer ns reading base mode armings.Unarmed start is = subst (AllByRecursion IsPlain) (sym is) tt

plain_both : (timer : ℕ) (cancel : Option (ℕ × ℕ)) (start : List Action) → AllByRecursion IsPlain start → AllByRecursion IsPlain (cancels timer cancel ++ start)
plain_both timer None start plain = plain
plain_both timer (Some c) start plain = (tt, plain)

-- ---- a settime, a sleep, an interrupt

-- a start that such a call wants, or none, is no turn of an object
plain_anew : (sight : Sight) (limit timer at base : ℕ) (wanted : Option Wanted) (arm : Armed) (start : List Action)
    → ArmsAs sight limit timer wanted at base arm start → AllByRecursion IsPlain start
plain_anew sight limit timer at base None arm start is = subst (AllByRecursion IsPlain) (sym is.1) tt
plain_anew sight limit timer at base (Some wanted) arm start is = plain_start sight limit timer wanted.ns at base wanted.mode arm start is

-- how such a call disarmed its timer: it cancelled it, or it was idle where the call had begun its turn
abbrev pub FoundIdle : Witness → ℕ → Option (ℕ × ℕ) → ℕ → Type 0
FoundIdle w timer None begun = Holds (timer_along w begun timer) observations.Idle
FoundIdle w timer (Some cancel) begun = Unit

-- what such a call of a reading that makes an entry knows at its end, between a moment before its turn and its last
pub record IsAnew (w : Witness) (c : Label) (notes : List PlacedEntry) (at begin last timer : ℕ) (wanted : Option Wanted) (cancel : Option (ℕ × ℕ))
    (arm : Armed) (start : List Action) (stamp : ℕ) : Type 0 where
  pub turn : HasBegun (sight_of w begin last) timer stamp
  pub arms : ArmsAs (sight_of w turn.begun last) w.script.limit timer wanted at (base_of (kind_of w.script timer)) arm start
  -- where its turn had begun, and where it had made its entries of the timer, which it had found idle or cancelled; the object's was yet to come
  pub begun : ℕ
  pub ends : ℕ
  pub from : begin ≤ begun
  pub between : begun ≤ ends
  pub high : ends ≤ last
  pub behind : AllByRecursion (λ x. begin ≤ x.place) notes
  pub begins : Stops c notes (Began timer stamp ∷ []) begun
  pub stops : Stops c notes (Began timer stamp ∷ cancels timer cancel ++ start) ends
  pub idle : FoundIdle w timer cancel begun
  -- what the object's entry tells of the start holds there
  pub holds : IsTrueStart w timer (stamp + 1) true arm ends

-- what such a call did, behind so many entries of the object
abbrev pub anew_actions : ℕ → Option (ℕ × ℕ) → List Action → ℕ → ObjectEntry → List Action
anew_actions timer cancel start stamp entry = Began timer stamp ∷ cancels timer cancel ++ start ++ Made timer (stamp + 1) entry ∷ []

disarmed : (sight : Sight) (limit : ℕ) (w : Witness) (c : Label) (timer at base begin begun last : ℕ) (wanted : Option Wanted)
    (cancel : Option (ℕ × ℕ)) (arm : Armed) (start : List Action) (stamp : ℕ) (entry : ObjectEntry) → ArmsAs sight limit timer wanted at base arm start
    → FoundIdle w timer cancel begun → begin ≤ begun → begun ≤ last → IsMoment w c (Began timer stamp ∷ []) begun
    → DisarmedFirst w c begin last timer (anew_actions timer cancel start stamp entry)
disarmed sight limit w c timer at base begin begun last wanted (Some cancel) arm start stamp entry arms idle from to point = tt
disarmed sight limit w c timer at base begin begun last wanted None arm start stamp entry arms idle from to point = by_wanted wanted arms
  where
    this : List Action
    this = Made timer (stamp + 1) entry ∷ []

    was : WasIdle w c begin last timer (Began timer stamp ∷ [])
    was = (begun, from, to, point, idle)

    none : start ≡ [] → DisarmedFirst w c begin last timer (Began timer stamp ∷ start ++ this)
    none is = subst (λ ds. DisarmedFirst w c begin last timer (Began timer stamp ∷ ds ++ this)) (sym is) was

    by_start : (mode : Mode) (ns : ℕ) (arm : Armed) → Arms sight limit timer mode ns at base arm start
        → DisarmedFirst w c begin last timer (Began timer stamp ∷ start ++ this)
    by_start mode ns armings.None is = none is
    by_start mode ns armings.Unarmed is = none is
    by_start mode ns (armings.Generation generation) is =
        subst (λ ds. DisarmedFirst w c begin last timer (Began timer stamp ∷ ds ++ this)) (sym is.1) (go is.0.outs)
      where
        go : (outs : List SentTo) → DisarmedFirst w c begin last timer
            (Began timer stamp ∷ arming_actions timer (without_slack mode ns base) at (record is.0 { outs = outs }) ++ this)
        go [] = was
        go (out ∷ outs) = was

    by_wanted : (wanted : Option Wanted) → ArmsAs sight limit timer wanted at base arm start
        → DisarmedFirst w c begin last timer (Began timer stamp ∷ start ++ this)
    by_wanted None is = none is.1
    by_wanted (Some wanted) is = by_start wanted.mode wanted.ns arm is

module _ {w : Witness} {moves : Spans} {c : Label} {at begin last timer : ℕ} {wanted : Option Wanted} {cancel : Option (ℕ × ℕ)} {arm : Armed}
    {start : List Action} {stamp : ℕ} {notes : List PlacedEntry} {call : Call} {answer : Answer} {before after : Seen} (entry : Armed → ObjectEntry)
    (kept : IsKept w moves c (plain at begin last (anew_actions timer cancel start stamp (entry arm))) notes call answer before after)
    (low : moves.first c ≤ begin) (anew : IsAnew w c notes at begin last timer wanted cancel arm start stamp) where
  abbrev turn : List Action
  turn = Began timer stamp ∷ cancels timer cancel ++ start

  point : IsMoment w c turn anew.ends
  point = moment_of kept turn anew.ends (omega (arith, low, anew.from, anew.between)) anew.high anew.stops

  -- such a call had disarmed its timer by any moment behind its turn's beginning
  disarmed_by : (to : ℕ) → anew.begun ≤ to → DisarmedFirst w c begin to timer (anew_actions timer cancel start stamp (entry arm))
  disarmed_by to behind =
      disarmed (sight_of w anew.turn.begun last) w.script.limit w c timer
      at (base_of (kind_of w.script timer)) begin anew.begun to wanted cancel arm start stamp
      (entry arm) anew.arms anew.idle anew.from behind
      (moment_of kept (Began timer stamp ∷ []) anew.begun (omega (arith, low, anew.from)) (omega (arith, anew.between, anew.high)) anew.begins)

  -- it disarmed it first
  first : DisarmedFirst w c begin last timer (anew_actions timer cancel start stamp (entry arm))
  first = disarmed_by last (omega (arith, anew.between, anew.high))

  -- its start was refused behind that, just before the object's entry
  refused_before : (full : ℕ) → SawRefusal w timer full anew.ends
      → RefusedBefore w c begin last (anew_actions timer cancel start stamp (entry arm)) timer full
  refused_before full saw = record {
    early = turn;
    number = stamp + 1;
    entry = entry arm;
    done = refl;
    moment = anew.ends;
    from = omega (arith, anew.from, anew.between);
    to = anew.high;
    disarmed = disarmed_by anew.ends anew.between;
    point = point;
    refused = saw;
  }

  anew_made : (IsTrueStart w timer (stamp + 1) true arm anew.ends → IsTrueEntry w timer (stamp + 1) (entry arm) anew.ends)
      → (MakesAnew (sight_of w begin last) w.script.limit (kind_of w.script timer) timer wanted at entry (anew_actions timer cancel start stamp (entry arm))
      → Does (sight_of w begin last) w.script at call answer [] [] (anew_actions timer cancel start stamp (entry arm)))
      → AnswerHolds w begin last c at (anew_actions timer cancel start stamp (entry arm)) call answer → FitsCall w c call answer before after
  anew_made holds does seen =
      let upto : begin ≤ anew.ends = omega (arith, anew.from, anew.between) in
      call_made kept low (omega (arith, upto, anew.high)) anew.behind
      (does (record { cancel = cancel; arm = arm; start = start; stamp = stamp; turn = anew.turn; arms = anew.arms; done = refl }))
      (none_moved _ call, none_moved _ call)
      (plain_then w c begin anew.ends last [] turn (Made timer (stamp + 1) (entry arm)) (
        tt,
        plain_both timer cancel start
            (plain_anew (sight_of w anew.turn.begun last) w.script.limit timer at (base_of (kind_of w.script timer)) wanted arm start anew.arms),
      ) upto anew.high (point, holds anew.holds))
      seen

-- where its start was refused, the timer's history was full when the call had made its entries of the timer
abbrev pub RefusedBy : Witness → ℕ → SettimeReply → ℕ → Type 0
RefusedBy w timer (settings.Old left old) last = Unit
RefusedBy w timer settings.Canceled last = Unit
RefusedBy w timer (settings.Unarmed stamp) last = SawRefusal w timer stamp last

-- the same of a sleep
abbrev pub UnsleptBy : Witness → ℕ → SleepReply → ℕ → Type 0
UnsleptBy w timer sleeps.Slept last = Unit
UnsleptBy w timer sleeps.Asleep last = Unit
UnsleptBy w timer (sleeps.Unarmed stamp) last = SawRefusal w timer stamp last

-- the start that a call with these flags and this time may make
abbrev pub start_of : ℕ → TimeSpec → Option Wanted
start_of flags time = Some (record { mode = mode_by flags; ns = nanoseconds_of time })

module _ {w : Witness} {moves : Spans} {c : Label} {at begin last timer : ℕ} {cancel : Option (ℕ × ℕ)} {arm : Armed} {start : List Action} {stamp : ℕ}
    {notes : List PlacedEntry} {before after : Seen} where
  -- law: a settime that makes an entry fits
  pub settime_made : {flags : ℕ} {value interval : TimeSpec} (reply : SettimeReply)
      → IsKept w moves c (plain at begin last (anew_actions timer cancel start stamp
      (object_entries.Settime flags (nanoseconds_of value) (nanoseconds_of interval) at arm reply))) notes
      (calls.Settime timer flags value interval) (answer_of_settime reply) before after
      → moves.first c ≤ begin → (anew : IsAnew w c notes at begin last timer (start_of flags value) cancel arm start stamp)
      → AreValidFor (kind_of w.script timer) flags value interval → RefusedBy w timer reply anew.ends
      → FitsCall w c (calls.Settime timer flags value interval) (answer_of_settime reply) before after
  settime_made {flags = flags} {value = value} {interval = interval} (settings.Old left old) kept low anew taken refused =
      let entry : Armed → ObjectEntry = λ arm. object_entries.Settime flags (nanoseconds_of value) (nanoseconds_of interval) at arm (settings.Old left old) in
      anew_made entry kept low anew (λ is. is) (λ makes. (makes, taken)) (first entry kept low anew)
  settime_made {flags = flags} {value = value} {interval = interval} settings.Canceled kept low anew taken refused =
      let entry : Armed → ObjectEntry = λ arm. object_entries.Settime flags (nanoseconds_of value) (nanoseconds_of interval) at arm settings.Canceled in
      anew_made entry kept low anew (λ is. is) (λ makes. (makes, taken)) (first entry kept low anew)
  settime_made {flags = flags} {value = value} {interval = interval} (settings.Unarmed full) kept low anew taken refused =
      let entry : Armed → ObjectEntry = λ arm. object_entries.Settime flags (nanoseconds_of value) (nanoseconds_of interval) at arm (settings.Unarmed full) in
      anew_made entry kept low anew (λ is. is) (λ makes. (makes, taken)) (refused_before entry kept low anew full refused)

  -- law: a sleep that makes an entry fits
  pub sleep_made : {flags : ℕ} {time : TimeSpec} (reply : SleepReply)
      → IsKept w moves c (plain at begin last (anew_actions timer cancel start stamp (object_entries.Sleep flags
      (nanoseconds_of time) at arm reply))) notes
      (calls.Sleep timer flags time) (answer_of_sleep reply) before after
      → moves.first c ≤ begin → (anew : IsAnew w c notes at begin last timer (start_of flags time) cancel arm start stamp)
      → IsProperSleep flags time → UnsleptBy w timer reply anew.ends
      → FitsCall w c (calls.Sleep timer flags time) (answer_of_sleep reply) before after
  sleep_made {flags = flags} {time = time} sleeps.Slept kept low anew taken refused =
      let entry : Armed → ObjectEntry = λ arm. object_entries.Sleep flags (nanoseconds_of time) at arm sleeps.Slept in
      anew_made entry kept low anew (λ is. is) (λ makes. (makes, taken)) (first entry kept low anew)
  sleep_made {flags = flags} {time = time} sleeps.Asleep kept low anew taken refused =
      let entry : Armed → ObjectEntry = λ arm. object_entries.Sleep flags (nanoseconds_of time) at arm sleeps.Asleep in
      anew_made entry kept low anew (λ is. is) (λ makes. (makes, taken)) (first entry kept low anew)
  sleep_made {flags = flags} {time = time} (sleeps.Unarmed full) kept low anew taken refused =
      let entry : Armed → ObjectEntry = λ arm. object_entries.Sleep flags (nanoseconds_of time) at arm (sleeps.Unarmed full) in
      anew_made entry kept low anew (λ is. is) (λ makes. (makes, taken)) (refused_before entry kept low anew full refused)

  -- law: an interrupt that makes an entry fits
  pub interrupt_made : (reply : InterruptReply)
      → IsKept w moves c (plain at begin last (anew_actions timer cancel start stamp (object_entries.Interrupt at reply))) notes
      (calls.Interrupt timer) (answer_of_interrupt reply) before after
      → moves.first c ≤ begin → IsAnew w c notes at begin last timer None cancel arm start stamp
      → FitsCall w c (calls.Interrupt timer) (answer_of_interrupt reply) before after
  interrupt_made interrupts.Slept kept low anew =
      let entry : Armed → ObjectEntry = λ arm. object_entries.Interrupt at interrupts.Slept in
      anew_made entry kept low anew (λ is. tt) (λ makes. makes) (first entry kept low anew)
  interrupt_made (interrupts.Left ns) kept low anew =
      let entry : Armed → ObjectEntry = λ arm. object_entries.Interrupt at (interrupts.Left ns) in
      anew_made entry kept low anew (λ is. tt) (λ makes. makes) (first entry kept low anew)
  interrupt_made interrupts.Interrupted kept low anew =
      let entry : Armed → ObjectEntry = λ arm. object_entries.Interrupt at interrupts.Interrupted in
      anew_made entry kept low anew (λ is. tt) (λ makes. makes) (first entry kept low anew)

-- ---- an acceptance, a read, a descriptor's gettime

-- What such a call of a reading knows at its end, between a moment before its turn and its last, where it had done so much before. There are three cases: it
-- wanted no start, its start was made, or its start was refused.
pub record IsRearmed (w : Witness) (c : Label) (notes : List PlacedEntry) (at begin last timer : ℕ) (done : List Action) (arm : Armed) (start : List Action)
    (stamp : ℕ) : Type 0 where
  pub ns : ℕ
  pub timely : ns ≤ last_time
  pub turn : HasBegun (sight_of w begin last) timer stamp
  pub arms : Arms (sight_of w turn.begun last) w.script.limit timer modes.Keep ns at (base_of (kind_of w.script timer)) arm start
  -- where it had made its entries of the timer; the object's was yet to come
  pub ends : ℕ
  pub between : begin ≤ ends
  pub high : ends ≤ last
  pub behind : AllByRecursion (λ x. begin ≤ x.place) notes
  pub stops : Stops c notes (done ++ Began timer stamp ∷ start) ends
  pub holds : IsTrueStart w timer (stamp + 1) false arm ends

-- what such a call did, behind so many entries of the object
abbrev pub rearming_actions : ℕ → List Action → ℕ → ObjectEntry → List Action
rearming_actions timer start stamp entry = Began timer stamp ∷ start ++ Made timer (stamp + 1) entry ∷ []

module _ {w : Witness} {moves : Spans} {c : Label} {at begin last timer : ℕ} {arm : Armed} {start : List Action} {stamp : ℕ} {notes : List PlacedEntry}
    {call : Call} {answer : Answer} {before after : Seen} (popped : List Action) (plain_pops : AllByRecursion IsPlain popped) (entry : Armed → ObjectEntry)
    (kept : IsKept w moves c (plain at begin last (popped ++ rearming_actions timer start stamp (entry arm))) notes call answer before after)
    (low : moves.first c ≤ begin) (rearmed : IsRearmed w c notes at begin last timer popped arm start stamp) where
  abbrev its : List Action
  its = popped ++ rearming_actions timer start stamp (entry arm)

  rearming_made : (IsTrueStart w timer (stamp + 1) false arm rearmed.ends → IsTrueEntry w timer (stamp + 1) (entry arm) rearmed.ends)
      → (MakesRearming (sight_of w begin last) w.script.limit (kind_of w.script timer) timer at entry (rearming_actions timer start stamp (entry arm))
      → Does (sight_of w begin last) w.script at call answer [] [] its)
      → AnswerHolds w begin last c at its call answer → FitsCall w c call answer before after
  rearming_made holds does seen =
      let turn = popped ++ Began timer stamp ∷ start in
      call_made kept low (omega (arith, rearmed.between, rearmed.high)) rearmed.behind
      (does (record {
        arm = arm;
        ns = rearmed.ns;
        start = start;
        stamp = stamp;
        timely = rearmed.timely;
        turn = rearmed.turn;
        arms = rearmed.arms;
        done = refl;
      }))
      (none_moved _ call, none_moved _ call)
      (subst (λ ds. AreTrue w c begin [] ds last) (append_assoc popped (Began timer stamp ∷ start) (Made timer (stamp + 1) (entry arm) ∷ []))
      (plain_then w c begin rearmed.ends last [] turn (Made timer (stamp + 1) (entry arm))
      (All-append IsPlain popped (Began timer stamp ∷ start) plain_pops (
        tt,
        plain_start (sight_of w rearmed.turn.begun last) w.script.limit timer rearmed.ns
            at (base_of (kind_of w.script timer)) modes.Keep arm start rearmed.arms,
      )) rearmed.between rearmed.high (
        moment_of kept turn rearmed.ends (omega (arith, low, rearmed.between)) rearmed.high rearmed.stops,
        holds rearmed.holds,
      )))
      seen

-- law: a call for the next signal that popped one fits, and did nothing more: it wasn't pending, or its timer's history was full
pub popped_made : {w : Witness} {moves : Spans} {c : Label} {at begin last : ℕ} {notes : List PlacedEntry} {answer : Answer} {before after : Seen}
    (timer number pops : ℕ)
    → IsKept w moves c (plain at begin last (Signalled (pop_counter w.script) pops (record { timer = timer; number = number }) ∷ [])) notes calls.Sigwait answer
    before after → moves.first c ≤ begin → begin ≤ last → AllByRecursion (λ x. begin ≤ x.place) notes
    → Does (sight_of w begin last) w.script at calls.Sigwait answer [] []
    (Signalled (pop_counter w.script) pops (record { timer = timer; number = number }) ∷ [])
    → AnswerHolds w begin last c at (Signalled (pop_counter w.script) pops (record { timer = timer; number = number }) ∷ []) calls.Sigwait answer
    → FitsCall w c calls.Sigwait answer before after
popped_made {begin = begin} timer number pops kept low high behind does holds = call_made kept low high behind does (tt, tt) (begin, omega arith, tt, high) holds

module _ {w : Witness} {moves : Spans} {c : Label} {at begin last timer : ℕ} {arm : Armed} {start : List Action} {stamp : ℕ} {notes : List PlacedEntry}
    {before after : Seen} where
  -- law: an acceptance that makes an entry fits
  pub accept_made : (reply : AcceptReply)
      → IsKept w moves c (plain at begin last (rearming_actions timer start stamp (object_entries.Accept at arm reply))) notes (calls.Accept timer)
      (answer_of_accept reply) before after
      → moves.first c ≤ begin → IsRearmed w c notes at begin last timer [] arm start stamp
      → FitsCall w c (calls.Accept timer) (answer_of_accept reply) before after
  accept_made (acceptances.Accepted overrun) kept low rearmed =
      rearming_made [] tt (λ arm. object_entries.Accept at arm (acceptances.Accepted overrun)) kept low rearmed (λ is. is) (λ makes. makes) tt
  accept_made acceptances.NoSignal kept low rearmed =
      rearming_made [] tt (λ arm. object_entries.Accept at arm acceptances.NoSignal) kept low rearmed (λ is. is) (λ makes. makes) tt

  -- law: an acceptance of the next signal fits, which was pending once it was popped
  pub signal_made : (number pops overrun : ℕ)
      → IsKept w moves c (plain at begin last (Signalled (pop_counter w.script) pops (record { timer = timer; number = number })
      ∷ rearming_actions timer start stamp (object_entries.Accept at arm (acceptances.Accepted overrun))))
      notes calls.Sigwait (answers.Signal timer number overrun) before after
      → moves.first c ≤ begin
      → IsRearmed w c notes at begin last timer (Signalled (pop_counter w.script) pops (record { timer = timer; number = number }) ∷ []) arm start stamp
      → SendsSignals (kind_of w.script timer) → is_fresh (queued_after w.script w.run timer (base_of (kind_of w.script timer)) stamp) number ≡ true
      → FitsCall w c calls.Sigwait (answers.Signal timer number overrun) before after
  signal_made number pops overrun kept low rearmed queued fresh =
      rearming_made (Signalled (pop_counter w.script) pops (record { timer = timer; number = number }) ∷ []) (tt, tt)
      (λ arm. object_entries.Accept at arm (acceptances.Accepted overrun)) kept low rearmed (λ is. is) (λ makes. ((pops, _, refl, makes), queued)) fresh

  -- law: a read that makes an entry fits
  pub read_made : (len : ℕ) (reply : ReadReply)
      → IsKept w moves c (plain at begin last (rearming_actions timer start stamp (object_entries.Read at arm reply))) notes (calls.Read timer len)
      (answer_of_read reply) before after
      → moves.first c ≤ begin → IsRearmed w c notes at begin last timer [] arm start stamp → count_length ≤ len
      → FitsCall w c (calls.Read timer len) (answer_of_read reply) before after
  read_made len (reads.Count total) kept low rearmed room =
      rearming_made [] tt (λ arm. object_entries.Read at arm (reads.Count total)) kept low rearmed (λ is. is) (λ makes. (makes, room)) tt
  read_made len reads.Again kept low rearmed room =
      rearming_made [] tt (λ arm. object_entries.Read at arm reads.Again) kept low rearmed (λ is. is) (λ makes. (makes, room)) tt
  read_made len reads.Canceled kept low rearmed room =
      rearming_made [] tt (λ arm. object_entries.Read at arm reads.Canceled) kept low rearmed (λ is. is) (λ makes. (makes, room)) tt

  -- law: a gettime of a descriptor that makes an entry fits
  pub gettime_made : (base left interval : ℕ)
      → IsKept w moves c (plain at begin last (rearming_actions timer start stamp (object_entries.Gettime at arm left interval))) notes
      (calls.Gettime timer) (answers.Left left interval) before after
      → moves.first c ≤ begin → IsRearmed w c notes at begin last timer [] arm start stamp → kind_of w.script timer ≡ kinds.Fd base
      → FitsCall w c (calls.Gettime timer) (answers.Left left interval) before after
  gettime_made base left interval kept low rearmed kind =
      rearming_made [] tt (λ arm. object_entries.Gettime at arm left interval) kept low rearmed (λ is. is)
      (λ makes. (makes, subst IsFd (sym kind) tt)) tt
