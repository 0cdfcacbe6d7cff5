-- What a call on an object does to the object's timer, as parts of the call: its disarming, a start, the receipts of both, and the timer after them.
use Rattle.call_laws.proofs.Starts.{entries_so, told_so}
use Rattle.call_laws.proofs.Noted.{HasNoTurns, entered_on, entered_turns, notes_of}
use Rattle.call_laws.proofs.Parts.{ClockHas, part_logged}
use Rattle.std.proofs.Common.{Bool, true, false, if◌then◌else◌, ◌⊎◌, inl, inr, ◌≡◌, ◌<◌, ℕ, ◌+◌, Some, List, [], ◌++◌, length, arith, refl, sym, ap, ◌∙◌, subst}
use Rattle.std.proofs.lemmas.List.{append-nil}
use Rattle.ktime.specs.Readings.{ClockReading}
use Rattle.ktime.specs.declared.mode.Mode.{Mode}
use Rattle.seq_timer.specs.Histories as histories
use Rattle.seq_timer.specs.Histories.{Holds}
use Rattle.seq_timer.specs.Steps.{Timer}
use Rattle.seq_timer.specs.declared.observation.Observation.TheVariants as observations
use Rattle.seq_timer.specs.declared.system.SystemEntry.{SystemEntry}
use Rattle.seq_timer.specs.Calls.{asked_for, entries_along, step_all}
use Rattle.base_row.specs.declared.log.Receipt.{Receipt}
use Rattle.hr_timers.specs.Calls.{start_entries, StartsTimer}
use Rattle.hr_timers.specs.Known.{KnownOfTimers, MadeAt, timer_then}
use Rattle.hr_timers.specs.Ways.{start_on}
use Rattle.hr_timers.specs.declared.answer.StartAnswer.TheVariants as starts
use Rattle.hr_timers.specs.declared.answer.StartAnswer.{StartAnswer}
use Rattle.hr_timers.proofs.Moments.{along, timer_after}
use Rattle.timer_setting.specs.declared.arming.Arm.TheVariants as arms
use Rattle.timer_setting.specs.declared.arming.Arm.{Arm}
use Rattle.timer_setting.specs.declared.arming.Wanted.{Wanted}
use Rattle.base_row.specs.Logs.{receipts_of}
use Rattle.timer_objects.specs.Arming.{arm_of, Starts}
use Rattle.record_text.specs.declared.record.ClockLine.{ClockLine}
use Rattle.run_history.specs.Actions.{Action}
use Rattle.run_history.specs.Told.{IsArmedLike}
use Rattle.script_text.specs.Declarations.{kind_of, without_slack}
use Rattle.run_history.specs.ObjectCalls.{ArmsAs}
use Rattle.record_text.specs.declared.record.Armed.TheVariants as armings
use Rattle.run_history.specs.Objects.{object_armed_after}
use Rattle.run_history.specs.Starts.{arming_actions, Sight}
use Rattle.script_text.specs.declared.script.Script.{Script}
use Rattle.lane_notes.specs.Objects.{arm_noted}
use Rattle.run_history.specs.Witnesses.{Witness}
use Rattle.run_history.specs.Receipts.{PlacedEntry}
use Rattle.run_history.specs.Promises.{RunGoesOn}
use Rattle.run_history.specs.Runs.{witness_of, Ending, IsJoined}
use Rattle.run_history.specs.Truths.{IsTrueStart, sight_of}
use Rattle.run_history.proofs.Reached.{arming_wider, sight_wider}
use Rattle.lane_notes.proofs.Kept.{IsNextCall}
use Rattle.lane_notes.proofs.SeenMore.{begins_same}
use Rattle.run_history.proofs.Stamped.{HaveReadings}
use Rattle.call_laws.proofs.Parts.{IsPart, part_at, part_none}
use Rattle.call_laws.proofs.Entering.{looks_made}
use Rattle.call_laws.proofs.SeenOff.{sent_seen}
use Rattle.call_laws.proofs.Starts.{arming_of, is_arming, limit_within, start_reads}
use Rattle.pass_names.proofs.Passes.{begins_length}
use Rattle.std.proofs.Common.{Option, None}
use Rattle.seq_timer.specs.Histories.{IsIdle}
use Rattle.seq_timer.specs.declared.answer.CancelAnswer.TheVariants as cancelled
use Rattle.seq_timer.specs.declared.answer.CancelAnswer.{CancelAnswer}
use Rattle.hr_timers.specs.Calls.{cancel_entries, Cancels}
use Rattle.run_history.specs.ObjectCalls.{cancels}
use Rattle.run_history.specs.Objects.{ArmedAs}
use Rattle.script_text.specs.declared.script.Call.{Call}
use Rattle.run_history.specs.Witnesses as witnesses
use Rattle.lane_notes.specs.Called.{LaneOf}
use Rattle.lane_notes.specs.Worlds.{WorldOf}
use Rattle.call_laws.proofs.CallKept.{opened_timers}
use Rattle.pass_names.specs.Passes.{Begins}
use Rattle.std.proofs.Common.{if◌then◌else◌}
use Rattle.std.proofs.Common.{true}
use Rattle.timer_objects.specs.Arming.{ArmsFor}

-- ---- entries of a timer

-- what a part of a call did to timers alone: its notes, and that they are a part
abbrev pub TimersPart : Script → LaneOf → ClockReading → KnownOfTimers → KnownOfTimers → List Action → List Receipt → Type 0
TimersPart s l reading v w actions log =
    (notes : List PlacedEntry) × IsPart s (ClockHas reading) l.label v l.pass.objects w l.pass.objects actions notes (notes_of l.label log [])

-- what became of a start, by the timer where it ended
abbrev pub IsArmedSo : Arm → Timer → Type 0
IsArmedSo arms.NotAsked s = Unit
IsArmedSo (arms.Armed generation) s = s.stamp ≡ generation
IsArmedSo (arms.Unarmed stamp) s = (s.stamp ≡ stamp) × Holds s observations.Spent × (s.moving ≡ false)

-- it was started so, or not at all, in every run that goes on from there
abbrev pub ArmsIn : Script → KnownOfTimers → KnownOfTimers → ℕ → Option Wanted → ℕ → ClockReading → Arm → List Action → Type 0
ArmsIn s begin w t wanted base reading arm start =
    (e : Ending) → IsJoined s e → RunGoesOn w.seen e
    → ArmsAs (sight_of (witness_of s e) (length begin.seen) (length w.seen)) s.limit t wanted reading.stamp base (arm_noted arm) start

-- no start was made
none_made : (sight : Sight) (limit t stamp base : ℕ) (wanted : Option Wanted) → ArmsAs sight limit t wanted stamp base armings.None []
none_made sight limit t stamp base None = (refl, refl)
none_made sight limit t stamp base (Some wanted) = refl

-- a call wants this start at most: that one, or none
abbrev pub WantsAtMost : Option Wanted → Option Wanted → Type 0
WantsAtMost wanted may = (wanted ≡ None) ⊎ (wanted ≡ may)

-- law: so where a condition keeps it from wanting one
pub wants_unless : (b : Bool) (wanted : Wanted) → WantsAtMost (if b then None else Some wanted) (Some wanted)
wants_unless true wanted = inl refl
wants_unless false wanted = inr refl

-- what a call did to its object's timer, from where it had found it on: perhaps a cancel, and perhaps a start, with what became of it
pub record TimerPart (s : Script) (x : WorldOf) (l : LaneOf) (t : ℕ) (begin w : KnownOfTimers) (wanted : Option Wanted) (base : ℕ) (reading : ClockReading) (arm : Arm)
    (cancel : Option (ℕ × ℕ)) (log : List Receipt) : Type 0 where
  pub seen : Begins l.pass.timers.known.seen begin.seen
  pub mine : begin.mine ≡ l.pass.timers.known.mine
  pub start : List Action
  pub no_turns : HasNoTurns start
  pub arms : ArmsIn s begin w t wanted base reading arm start
  pub part : TimersPart s l reading begin w (cancels t cancel ++ start) log
  pub armed : IsArmedSo arm (timer_then x.timers.about w.seen t)

module _ {s : Script} {x : WorldOf} {l : LaneOf} {call : Call} (next : IsNextCall s x l call) (t : ℕ) (reading : ClockReading) {v w : KnownOfTimers} where
  -- the entries that the call made of its timer at a moment, with a receipt of each
  part_of : {at : List SystemEntry} {es : List histories.Entry} {actions : List Action} → MadeAt v w t at es
      → ((clock : List ClockLine) → ClockHas reading clock → HaveReadings clock es) → actions ≡ entered_on t (timer_then x.timers.about at t).stamp es
      → TimersPart s l reading v w actions (receipts_of t (timer_then x.timers.about at t).stamp es)
  part_of {at = at} {es = es} made reads are =
      subst (λ ds. TimersPart s l reading v w ds (receipts_of t (timer_then x.timers.about at t).stamp es)) (sym are)
      (part_at x.timers.about (opened_timers next) made reads)

  -- law: the disarming of a timer is a part of its call: the cancel of its timer, or a look at an idle one
  pub disarmed_part : {log : List Receipt} (answer : CancelAnswer) (c : Cancels x.timers.about v w t answer) → ((g n : ℕ) → answer ≡ cancelled.Running g n → ⊥)
      → log ≡ receipts_of t (timer_then x.timers.about c.at t).stamp (cancel_entries answer)
      → (cancel : Option (ℕ × ℕ)) × TimersPart s l reading v w (cancels t cancel) log × (cancel ≡ None → IsIdle (timer_then x.timers.about c.at t))
  disarmed_part (cancelled.Idle n) c ended adds =
      let looks = looks_made c.made in
      (None, subst (TimersPart s l reading v w []) (sym adds) ([], part_none looks.0 looks.1), λ none. c.fits.0)
  disarmed_part (cancelled.Running g n) c ended adds = absurd (ended g n refl)
  disarmed_part (cancelled.Cancelled g n) c ended adds =
      let number = (timer_then x.timers.about c.at t).stamp + 1 in (
        Some (number, g),
        subst (TimersPart s l reading v w (cancels t (Some (number, g)))) (sym adds) (part_of c.made (λ clock has. (refl, tt)) refl),
        λ none. let no : Some (number, g) ≡ None = none in absurd (cc),
      )

-- a start, or none, behind what the call had done to the timer by then
module _ {s : Script} {x : WorldOf} {l : LaneOf} {call : Call} (next : IsNextCall s x l call) (t : ℕ) (reading : ClockReading) {begin v w : KnownOfTimers}
    {cancel : Option (ℕ × ℕ)} (done : List Receipt) {log : List Receipt} (seen : Begins l.pass.timers.known.seen begin.seen)
    (mine : begin.mine ≡ l.pass.timers.known.mine) (before : TimersPart s l reading begin v (cancels t cancel) done) {base : ℕ} where
  started : {wanted : Option Wanted} {arm : Arm} (start : List Action) (more : List Receipt) → HasNoTurns start → log ≡ done ++ more
      → ArmsIn s begin w t wanted base reading arm start → TimersPart s l reading v w start more
      → IsArmedSo arm (timer_then x.timers.about w.seen t) → TimerPart s x l t begin w wanted base reading arm cancel log
  started start more none adds arms part armed =
      let both = subst (TimersPart s l reading begin w (cancels t cancel ++ start)) (sym adds)
      (before.0 ++ part.0, part_logged done more [] [] before.1 part.1) in
      record { seen = seen; mine = mine; start = start; no_turns = none; arms = arms; part = both; armed = armed }

  -- law: no start
  pub start_none : (wanted : Option Wanted) → w ≡ v → log ≡ done → TimerPart s x l t begin w wanted base reading arms.NotAsked cancel log
  start_none wanted alone same =
      started [] [] (refl, refl, refl) (same ∙ sym (append-nil done)) (λ e joined goes. none_made _ _ _ _ _ wanted) ([], part_none (begins_same (ap (λ k. k.seen) alone)) (ap (λ k. k.mine) alone)) tt

  start_by : (mode : Mode) (ns : ℕ) (a : StartAnswer) (c : StartsTimer x.timers.about v w t (asked_for mode ns 0 base reading) a)
      → log ≡ done ++ receipts_of t (timer_then x.timers.about c.at t).stamp (start_entries (timer_then x.timers.about c.at t) (asked_for mode ns 0 base reading) c.sent c.last a)
      → TimerPart s x l t begin w (Some (record { mode = mode; ns = ns })) base reading (arm_of a) cancel log
  start_by mode ns (starts.Spent n) c adds =
      let looks = looks_made c.made in
      started [] [] (refl, refl, refl) adds (λ e joined goes. refl) ([], part_none looks.0 looks.1)
      (subst (IsArmedSo (arms.Unarmed n)) (sym (timer_after x.timers.about v w t c.at [] c.made)) (sym c.fits.2, c.fits.1, c.fits.0))
  start_by mode ns (starts.Started was generation last outs placed) c adds =
      let o = x.timers.about in
      let u = timer_then o c.at t in
      let request = without_slack mode ns base in
      let asked = asked_for mode ns 0 base reading in
      let events = start_on asked c.sent c.last in
      let arming = arming_of u asked c.sent c.last in
      let told = told_so t request reading u c.sent c.last (starts.Started was generation last outs placed) c.fits.2 in
      let number : generation ≡ arming.number = cc in
      let fits = c.fits.2 in
      let stamp : (step_all u events).stamp ≡ generation = cc in
      let few : u.stamp < s.limit = omega (arith, c.fits.1, (limit_within s o next.world.timers next.range.limit.0 c.at t)) in
      let entered = entries_so t request reading u c.sent c.last in
      started (arming_actions t request reading.stamp arming) _ (subst HasNoTurns (sym entered)
      (entered_turns t (timer_then o c.at t).stamp (entries_along u events))) adds (λ e joined goes.
      let later = sight_of (witness_of s e) (length v.seen) (length w.seen) in
      let sight = sight_of (witness_of s e) (length begin.seen) (length w.seen) in (
        arming,
        refl,
        number,
        arming_wider later sight (sight_wider (witness_of s e) (begins_length before.1.enters.seen) (omega arith))
            (is_arming later t s.limit base u asked c.sent c.last few (sent_seen s o next.world.timers e joined v.seen w.seen goes t u base c.sent c.last c.on_way)),
      ))
      (part_of next t reading c.made (λ clock has. start_reads t request reading u c.sent c.last clock has) entered)
      (ap (λ (y : Timer). y.stamp) (timer_after o v w t c.at (entries_along u events) c.made ∙ along u events) ∙ stamp)

  -- law: a start that was wanted
  pub start_part : {wanted : Wanted} {arm : Arm} → Starts x.timers.about v w t wanted base reading arm done log
      → TimerPart s x l t begin w (Some wanted) base reading arm cancel log
  start_part {wanted = wanted} c =
      subst (λ b. TimerPart s x l t begin w (Some wanted) base reading b cancel log) (sym c.outcome)
      (start_by wanted.mode wanted.ns c.answer c.starts c.receipts)

  -- law: the start that a call wants, which may want this one at most
  pub start_at_most : {wanted may : Option Wanted} {arm : Arm} → WantsAtMost wanted may → ArmsFor x.timers.about v w t wanted base reading arm done log
      → TimerPart s x l t begin w may base reading arm cancel log
  start_at_most {may = may} {arm = arm} (inl none) for = none_started may (subst (λ o. ArmsFor x.timers.about v w t o base reading arm done log) none for)
    where
      none_started : (may : Option Wanted) {arm : Arm} → ArmsFor x.timers.about v w t None base reading arm done log
          → TimerPart s x l t begin w may base reading arm cancel log
      none_started may none = subst (λ y. TimerPart s x l t begin w may base reading y cancel log) (sym none.0) (start_none may none.1 none.2)
  start_at_most {may = may} {arm = arm} (inr same) for = by_wanted may (subst (λ o. ArmsFor x.timers.about v w t o base reading arm done log) same for)
    where
      by_wanted : (may : Option Wanted) {arm : Arm} → ArmsFor x.timers.about v w t may base reading arm done log
          → TimerPart s x l t begin w may base reading arm cancel log
      by_wanted None none = subst (λ y. TimerPart s x l t begin w None base reading y cancel log) (sym none.0) (start_none None none.1 none.2)
      by_wanted (Some wanted) start = start_part start

-- ---- in the run

-- an object's phase bears a start that was made, as the timer has it
abbrev pub IsLike : Bool → Arm → Option ArmedAs → Timer → Type 0
IsLike on_clock (arms.Armed generation) armed s = IsArmedLike on_clock armed generation s
IsLike on_clock arm armed s = Unit

-- law: what an object's entry tells of its timer's start is true
pub start_true : (w : Witness) (i number n : ℕ) (on_clock : Bool) (arm : Arm) → IsArmedSo arm (witnesses.timer_along w n i)
    → IsLike on_clock arm (object_armed_after w.script w.run i number (kind_of w.script i)) (witnesses.timer_along w n i)
    → IsTrueStart w i number on_clock (arm_noted arm) n
start_true w i number n on_clock arms.NotAsked armed like = tt
start_true w i number n on_clock (arms.Armed generation) armed like = (armed, like)
start_true w i number n on_clock (arms.Unarmed stamp) armed like = (record { stamp = refl; holds = armed.1 }, armed.2)
