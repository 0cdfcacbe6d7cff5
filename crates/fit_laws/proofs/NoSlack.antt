-- A record that fits a script without slack has none: no start asks for slack, so each timer's soft expiry is its expiry at all times.
use Rattle.std.proofs.Common.{◌≡◌, ◌<◌, ℕ, ◌+◌, ◌*◌, zero, suc, nat_eq, Bool, true, false, List, [], ◌∷◌, ◌++◌, Option, Some, None, map, arith, refl, sym, ap, ◌∙◌, subst}
use Rattle.std.specs.List.{AllByRecursion, slice_get}
use Rattle.std.proofs.lemmas.Option.{same_Some}
use Rattle.std.specs.Prelude.{filter, flat_map, if◌then◌else◌, unwrap_or}
use Rattle.std.proofs.Math.Logic.{⊎_elim}
use Rattle.ktime.specs.Readings.{ClockReading}
use Rattle.ktime.specs.Times.{effective_clock, passed, sat, step_of}
use Rattle.ktime.specs.declared.clock_id.ClockId.{ClockId}
use Rattle.ktime.specs.declared.mode.Mode.{Mode}
use Rattle.ktime.specs.declared.mode.Mode.TheVariants as modes
use Rattle.seq_timer.specs.declared.context.Context.{Context}
use Rattle.seq_timer.specs.Events.{Event, map_reading}
use Rattle.seq_timer.specs.declared.event.EventBy.{EventBy}
use Rattle.seq_timer.specs.declared.event.EventBy.TheVariants as events
use Rattle.seq_timer.specs.Histories as histories
use Rattle.seq_timer.specs.Steps.{Timer, after, expiry_from, now_of, opening, reply_to}
use Rattle.record_text.specs.Numbers.{AsksNoSlack, HasNoSlack, HaveNoSlack, ShowsNoSlack}
use Rattle.record_text.specs.declared.record.Answer.{Answer}
use Rattle.record_text.specs.declared.record.Answer.TheVariants as answers
use Rattle.record_text.specs.declared.record.ClockLine.{ClockLine}
use Rattle.record_text.specs.declared.record.Entry.{Entry}
use Rattle.record_text.specs.declared.record.Label.{Label}
use Rattle.record_text.specs.declared.record.ObjectEntry.{ObjectEntry}
use Rattle.record_text.specs.declared.record.RunRecord.{RunRecord}
use Rattle.timer_setting.specs.declared.arming.Wanted.{Wanted}
use Rattle.record_text.specs.declared.record.TimerLine.{TimerLine}
use Rattle.record_text.specs.declared.record.Armed.{Armed}
use Rattle.record_text.specs.declared.record.Armed.TheVariants as armings
use Rattle.run_history.specs.Actions.{Action, Began, Entered, Looked, Made, Shifted, Signalled, Skipped, Wrote, also, entered, own}
use Rattle.run_history.specs.Histories.{answers_of, history_from, history_of, lines_of_timer, reading_at}
use Rattle.script_text.specs.Declarations.{declared_of, terms_of, kind_of, asked_slack, without_slack}
use Rattle.run_history.specs.ObjectCalls.{Arms, ArmsAs, MakesAnew, MakesRearming, cancels}
use Rattle.run_history.specs.Order.{CallInRound, IsLabel, calls_from, calls_of, is_label}
use Rattle.script_text.specs.Scripts.{IsInRange, all_calls}
use Rattle.script_text.specs.VersionOne.{IsHardCall}
use Rattle.script_text.proofs.Lists.{All-append}
use Rattle.script_text.proofs.VersionOne.{version_one_is_hard}
use Rattle.record_text.proofs.Lists.{All-back, All-front}
use Rattle.record_text.specs.declared.version.Version.TheVariants as versions
use Rattle.run_history.specs.Starts.{Arming, SentTo, arming_actions, from_moment, moves, Sight}
use Rattle.script_text.specs.declared.script.Call.{Call}
use Rattle.script_text.specs.declared.script.Call.TheVariants as calls
use Rattle.script_text.specs.declared.script.Callback.TheVariants as callbacks
use Rattle.script_text.specs.declared.script.Kind.{Kind}
use Rattle.script_text.specs.declared.script.Kind.TheVariants as kinds
use Rattle.script_text.specs.declared.script.LaneCall.{LaneCall}
use Rattle.script_text.specs.declared.script.Round.{Round}
use Rattle.script_text.specs.declared.script.Script.{Script}
use Rattle.script_text.specs.declared.script.StartRequest.{StartRequest}
use Rattle.run_history.specs.Calls.{call_row}
use Rattle.run_history.specs.Deeds.{Anew, Cancels, Deed, Did, Evacuates, IsBody, IsExpiryRun, IsTrigger, Never, Nothing, Pops, Rearms, Runs, Shifts, Starts, Where, Writes, fires}
use Rattle.run_history.specs.Witnesses.{Evacuation, Fired}
use Rattle.fit_laws.specs.EachTimer.{FitsTimers, HasTimers}
use Rattle.run_history.specs.Fits.{Fits}
use Rattle.fit_laws.proofs.EachTimer.{fits_for_each_timer}
use Rattle.run_history.proofs.Labels.{label_itself}
use Rattle.run_history.proofs.Lists.{all_lists, item_at}

-- ---- histories

no_slack : (mode : Mode) (ns : ℕ) (clock : ClockId) (reading : ClockReading) → expiry_from mode ns clock reading ≡ sat (expiry_from mode ns clock reading + 0)
no_slack modes.Abs ns clock reading = omega arith
no_slack modes.Keep ns clock reading = omega arith
no_slack modes.Rel ns clock reading = omega arith

-- one step: the reply tells one expiry, and the timer has one after it
one_step : (t : Timer) (e : Event) → t.soft ≡ t.expires → AsksNoSlack e → ShowsNoSlack (reply_to t e) × ((after t e).soft ≡ (after t e).expires)
one_step t (events.Start asked) one none =
    let clock = effective_clock t.declared.clock asked.mode t.clock in
    let same = no_slack asked.mode asked.ns clock asked.reading ∙ ap (λ n. sat (expiry_from asked.mode asked.ns clock asked.reading + n)) (sym none) in
    (same, same)
one_step t (events.Forward reading interval) one none =
    let same = ap (λ n. sat (n + passed t.expires (now_of t reading) interval * step_of interval)) one in (same, same)
one_step t e one none = (tt, one)

one_along : (t : Timer) (es : List histories.Entry) → t.soft ≡ t.expires → histories.AreSteps t es
    → AllByRecursion (λ (e : histories.Entry). AsksNoSlack e.event) es → AllByRecursion (λ (e : histories.Entry). ShowsNoSlack e.reply) es
one_along t [] one steps none = tt
one_along t (e ∷ es) one steps none =
    let step = one_step t e.event one none.0 in
    (subst ShowsNoSlack (sym steps.1) step.0, one_along (after t e.event) es step.1 steps.2 none.1)

-- ---- lines

-- an entry asks for no slack
abbrev AsksNone : Entry → Type 0
AsksNone e = AsksNoSlack e.event

named_none : (name : ℕ → ClockReading) (e : EventBy ℕ) → AsksNoSlack e → AsksNoSlack (map_reading name e)
named_none name (events.Start asked) none = none
named_none name e none = tt

lines_none : (clock : List ClockLine) (lines : List TimerLine) → AllByRecursion (λ (l : TimerLine). AsksNone l.entry) lines
    → AllByRecursion (λ (e : histories.Entry). AsksNoSlack e.event) (history_from clock lines)
lines_none clock [] none = tt
lines_none clock (l ∷ lines) none = (named_none (reading_at clock) l.entry.event none.0, lines_none clock lines none.1)

lines_one : (clock : List ClockLine) (lines : List TimerLine) → AllByRecursion (λ (l : TimerLine). AsksNone l.entry) lines
    → AllByRecursion (λ (e : histories.Entry). ShowsNoSlack e.reply) (history_from clock lines) → HaveNoSlack lines
lines_one clock [] none one = tt
lines_one clock (l ∷ lines) none one = ((none.0, one.0), lines_one clock lines none.1 one.1)

-- ---- what calls did

-- an action enters nothing with slack
abbrev ActsNone : Action → Type 0
ActsNone (Entered timer number entry) = AsksNone entry
ActsNone other = Unit {0}

abbrev AllNone : List Action → Type 0
AllNone ds = AllByRecursion ActsNone ds

none-append : (ds es : List Action) → AllNone ds → AllNone es → AllNone (ds ++ es)
none-append [] es one two = two
none-append (d ∷ ds) es one two = (one.0, none-append ds es one.1 two)

also_none : (b : Bool) (x : ℕ × Entry) (xs : List (ℕ × Entry)) → AsksNone x.1 → AllByRecursion (λ (x : ℕ × Entry). AsksNone x.1) xs
    → AllByRecursion (λ (x : ℕ × Entry). AsksNone x.1) (also b x xs)
also_none true x xs one rest = (one, rest)
also_none false x xs one rest = rest

entered_none : (t : ℕ) (ds : List Action) → AllNone ds → AllByRecursion (λ (x : ℕ × Entry). AsksNone x.1) (entered t ds)
entered_none t [] none = tt
entered_none t (Wrote number write ∷ ds) none = entered_none t ds none.1
entered_none t (Entered timer number entry ∷ ds) none = also_none (nat_eq timer t) (number, entry) (entered t ds) none.0 (entered_none t ds none.1)
entered_none t (Looked timer number reply ∷ ds) none = entered_none t ds none.1
entered_none t (Began i stamp ∷ ds) none = entered_none t ds none.1
entered_none t (Made i number entry ∷ ds) none = entered_none t ds none.1
entered_none t (Skipped i number generation ∷ ds) none = entered_none t ds none.1
entered_none t (Shifted base number event ∷ ds) none = entered_none t ds none.1
entered_none t (Signalled counter number signal ∷ ds) none = entered_none t ds none.1

moves_none : (timer : ℕ) (outs : List SentTo) → AllNone (moves timer outs)
moves_none timer [] = tt
moves_none timer (out ∷ outs) = (tt, moves_none timer outs)

start_none : (timer reading : ℕ) (request : StartRequest) (a : Arming) → asked_slack request ≡ 0 → AllNone (arming_actions timer request reading a)
start_none timer reading request a none = none-append (moves timer a.outs) _ (moves_none timer a.outs) (none, tt)

nothing_none : (actions : List Action) → actions ≡ [] → AllNone actions
nothing_none actions is = subst AllNone (sym is) tt

-- a call asks for no slack; one that takes a base off line asks for the slack of the timers that it moves
abbrev pub CallAsksNone : Call → Type 0
CallAsksNone (calls.Start timer request) = asked_slack request ≡ 0
CallAsksNone (calls.Offline base heir budget) = ⊥
CallAsksNone other = Unit {0}

-- so what a call did asks for none
abbrev DeedAsksNone : Deed → Type 0
DeedAsksNone (Starts timer request generation on was_armed) = asked_slack request ≡ 0
DeedAsksNone (Evacuates heir count end IsCount) = ⊥
DeedAsksNone (Pops signal did) = DeedAsksNone did
DeedAsksNone (Where did IsSo) = DeedAsksNone did
DeedAsksNone did = Unit {0}

-- (each call has a clause with an answer, since the last clause is tried at each answer of those calls alone that have one)
row_none : (s : Script) (reading : ℕ) (call : Call) (answer : Answer) → CallAsksNone call → DeedAsksNone (call_row s reading call answer).did
row_none s reading (calls.Start timer request) (answers.Started generation on was_armed) none = none
row_none s reading (calls.Offline base heir budget) answer none = absurd none
row_none s reading call (answers.Idle stamp) none = tt
row_none s reading call answer none = tt

-- what the calls of a script did, by what they saw of bases off line
module _ (sight : Sight) (s : Script) where
  arms_none : (timer ns reading base : ℕ) (mode : Mode) (arm : Armed) (start : List Action) → Arms sight s.limit timer mode ns reading base arm start
      → AllNone start
  arms_none timer ns reading base mode armings.None start is = subst AllNone (sym is) tt
  arms_none timer ns reading base mode (armings.Generation generation) start is =
      subst AllNone (sym is.1) (start_none timer reading (without_slack mode ns base) is.0 refl)
  arms_none timer ns reading base mode armings.Unarmed start is = subst AllNone (sym is) tt

  as_none : (timer : ℕ) (wanted : Option Wanted) (reading base : ℕ) (arm : Armed) (start : List Action)
      → ArmsAs sight s.limit timer wanted reading base arm start → AllNone start
  as_none timer None reading base arm start is = subst AllNone (sym is.1) tt
  as_none timer (Some wanted) reading base arm start is = arms_none timer wanted.ns reading base wanted.mode arm start is

module _ (sight : Sight) (s : Script) where
  anew_made_none : {kind : Kind} {timer : ℕ} {wanted : Option Wanted} {reading : ℕ} {entry : Armed → ObjectEntry} {actions : List Action}
      → MakesAnew sight s.limit kind timer wanted reading entry actions → AllNone actions
  anew_made_none {timer = timer} {wanted = wanted} makes =
      subst AllNone (sym makes.done) (
        tt,
        none-append (cancels timer makes.cancel ++ makes.start) _
            (none-append (cancels timer makes.cancel) makes.start (cancelled makes.cancel)
            (as_none (from_moment sight makes.turn.begun) s _ wanted _ _ makes.arm makes.start makes.arms)) (tt, tt),
      )
    where
      cancelled : (cancel : Option (ℕ × ℕ)) → AllNone (cancels timer cancel)
      cancelled None = tt
      cancelled (Some c) = (tt, tt)

  rearming_made_none : {kind : Kind} {timer reading : ℕ} {entry : Armed → ObjectEntry} {actions : List Action}
      → MakesRearming sight s.limit kind timer reading entry actions
      → AllNone actions
  rearming_made_none makes =
      subst AllNone (sym makes.done) (
        tt,
        none-append makes.start _
            (arms_none (from_moment sight makes.turn.begun) s _ _ _ _ _ makes.arm makes.start makes.arms) (tt, tt),
      )

  -- an expiry of an object's timer starts nothing
  trigger_none : (reading : ℕ) (f : Fired) → IsTrigger reading f → AllNone f.body
  trigger_none reading f is =
      ⊎_elim (λ trigger. subst AllNone (sym trigger.2) (tt, (tt, tt))) (λ skipped. subst AllNone (sym skipped.1) (tt, tt)) is.0

  -- a callback that starts its timer asks for no slack
  body_none : (kind : Kind) (reading : ℕ) (f : Fired) → IsBody sight s kind reading f → AllNone f.body
  body_none (kinds.Raw context callbacks.Once) reading f is = nothing_none f.body is.0
  body_none (kinds.Raw context (callbacks.Every interval)) reading f is =
      ⊎_elim (λ forward. subst AllNone (sym forward.2) (tt, tt))
      (λ looked. ⊎_elim (λ armed. subst AllNone (sym armed.2) (tt, tt)) (λ spent. subst AllNone (sym spent.1) (tt, tt)) looked) is.0
  body_none (kinds.Raw context callbacks.Cancels) reading f is = subst AllNone (sym is.0.1) (tt, tt)
  body_none (kinds.Raw context (callbacks.Starts ns base)) reading f is =
      ⊎_elim (λ a. subst AllNone (sym a.1) (start_none f.timer reading (without_slack modes.Rel ns base) a.0 refl))
      (λ spent. subst AllNone (sym spent.1) (tt, tt)) is.0
  body_none (kinds.Posix base) reading f is = trigger_none reading f is
  body_none (kinds.Fd base) reading f is = trigger_none reading f is
  body_none (kinds.Queued base) reading f is =
      ⊎_elim (λ told. subst AllNone (sym told.1) (tt, (tt, tt)))
      (λ other. ⊎_elim (λ sent. subst AllNone (sym sent.2) (tt, (tt, (tt, tt))))
      (λ rest. ⊎_elim (λ full. subst AllNone (sym full.1) (tt, (tt, tt))) (λ skipped. subst AllNone (sym skipped.1) (tt, tt)) rest) other) is.0
  body_none (kinds.Sleeper base) reading f is = trigger_none reading f is

  fired_none : (base reading : ℕ) (fired : List Fired) → AllByRecursion (λ f. IsBody sight s (kind_of s f.timer) reading f) fired
      → AllNone (flat_map (fires base reading) fired)
  fired_none base reading [] bodies = tt
  fired_none base reading (f ∷ fired) bodies =
      none-append (fires base reading f) _ (tt, none-append f.body _ (body_none (kind_of s f.timer) reading f bodies.0) (tt, tt))
      (fired_none base reading fired bodies.1)

  run_none : {context : Context} {reading base : ℕ} {fired : List Fired} {shown : ℕ} {timers : List ℕ} {actions : List Action}
      → IsExpiryRun sight s context reading base fired shown timers actions → AllNone actions
  run_none {reading = reading} {base = base} {fired = fired} run = subst AllNone (sym run.done) (fired_none base reading fired run.bodies)

  did_none : (reading : ℕ) (did : Deed) (fired : List Fired) (moved : List Evacuation) (actions : List Action) → DeedAsksNone did
      → Did sight s reading did fired moved actions → AllNone actions
  did_none reading Never fired moved actions none did = absurd did
  did_none reading Nothing fired moved actions none did = nothing_none actions did
  did_none reading (Starts timer request generation on was_armed) fired moved actions none did =
      subst AllNone (sym did.1) (start_none timer reading request did.0 none)
  did_none reading (Cancels timer generation) fired moved actions none did = subst AllNone (sym did.1) (tt, tt)
  did_none reading (Writes stamp write) fired moved actions none did = subst AllNone (sym did) (tt, tt)
  did_none reading (Runs context base shown timers IsCount) fired moved actions none did = run_none did.0
  did_none reading (Anew timer wanted entry) fired moved actions none did = anew_made_none did
  did_none reading (Rearms timer entry) fired moved actions none did = rearming_made_none did
  did_none reading (Evacuates heir count end IsCount) fired moved actions none did = absurd none
  did_none reading (Shifts base stamp event) fired moved actions none did = subst AllNone (sym did) (tt, tt)
  did_none reading (Pops signal rest) fired moved actions none did =
      subst AllNone (sym did.2) (tt, did_none reading rest fired moved did.1 none did.3)
  did_none reading (Where rest IsSo) fired moved actions none did = did_none reading rest fired moved actions none did.0

-- ---- the record

-- where all lines of each label ask for none, and each line bears such a label, all do
each_none : (Is : Label → Type 0) (number : ℕ) (lines : List TimerLine)
    → ((c : Label) → Is c → AllByRecursion (λ (x : ℕ × Entry). AsksNone x.1) (own (λ l. l.label) (λ l. l.entry) c number lines))
    → AllByRecursion Is (map (λ (l : TimerLine). l.label) lines) → AllByRecursion (λ (l : TimerLine). AsksNone l.entry) lines
each_none Is number [] own_none labels = tt
each_none Is number (l ∷ lines) own_none labels = (
  (subst (λ b. AllByRecursion (λ (x : ℕ × Entry). AsksNone x.1) (also b (number, l.entry) (own (λ l. l.label) (λ l. l.entry) l.label (number + 1) lines)))
      (label_itself l.label) (own_none l.label labels.0)).0,
  each_none Is (number + 1) lines (λ c is. behind c (is_label c l.label) (own_none c is)) labels.1,
)
  where
    behind : (c : Label) (b : Bool) → AllByRecursion (λ (x : ℕ × Entry). AsksNone x.1) (also b (number, l.entry) (own (λ l. l.label) (λ l. l.entry) c
        (number + 1) lines))
        → AllByRecursion (λ (x : ℕ × Entry). AsksNone x.1) (own (λ l. l.label) (λ l. l.entry) c (number + 1) lines)
    behind c true all = all.1
    behind c false all = all

-- each call of a script asks for no slack
abbrev pub NoneAsked : Script → Type 0
NoneAsked s = (lane index : ℕ) (p : CallInRound) → slice_get (calls_of s lane) index ≡ Some p → CallAsksNone p.call

timer_none : (s : Script) (r : RunRecord) → HasTimers s r → NoneAsked s → (t : ℕ) → HaveNoSlack (lines_of_timer r t)
timer_none s r has none t =
    let lines = lines_of_timer r t in
    let asks : AllByRecursion (λ (l : TimerLine). AsksNone l.entry) lines =
    each_none (IsLabel s) 1 lines (λ c is. own_of c is) (has.labels t) in
    lines_one r.clock lines asks (one_along (opening (declared_of s t) (terms_of s)) (history_of r t) refl (has.histories t) (lines_none r.clock lines asks))
  where
    own_of : (c : Label) → IsLabel s c → AllByRecursion (λ (x : ℕ × Entry). AsksNone x.1) (own (λ l. l.label) (λ l. l.entry) c 1 (lines_of_timer r t))
    own_of c is =
        let p = item_at (calls_of s c.lane) c.call is in
        let a = item_at (answers_of r c.lane) c.call (subst (λ n. c.call < n) (sym (has.answered c.lane)) is) in
        let fits : FitsTimers s r c p.0.call a.0 = has.calls c.lane c.call p.0 a.0 p.1 a.1 in
        subst (λ xs. AllByRecursion (λ (x : ℕ × Entry). AsksNone x.1) xs) (sym (fits.entered t))
        (entered_none t fits.actions (did_none fits.sight s fits.at (call_row s fits.at p.0.call a.0).did fits.fired fits.moved fits.actions
        (row_none s fits.at p.0.call a.0 (none c.lane c.call p.0 p.1)) fits.does))

-- law: the record of a script whose calls ask for no slack has none
pub none_recorded : (s : Script) (r : RunRecord) → HasTimers s r → NoneAsked s → HasNoSlack r
none_recorded s r has none = all_lists HaveNoSlack r.timers (λ t. timer_none s r has none t)

-- ---- scripts of version 1

hard_none : (call : Call) → IsHardCall call → CallAsksNone call
hard_none (calls.Start timer request) hard = ap (λ slack. unwrap_or slack 0) hard
hard_none (calls.Offline base heir budget) hard = absurd hard
hard_none call hard = tt

-- these calls, in a round
abbrev in_round : ℕ → List LaneCall → List CallInRound
in_round round cs = map (λ (c : LaneCall). record { round = round; call = c.call }) cs

-- the calls of one lane among those of a round
lane_none : (lane round : ℕ) (cs : List LaneCall) → AllByRecursion (λ (c : LaneCall). IsHardCall c.call) cs
    → AllByRecursion (λ (p : CallInRound). CallAsksNone p.call)
    (in_round round (filter (λ (c : LaneCall). nat_eq c.lane lane) cs))
lane_none lane round [] hard = tt
lane_none lane round (c ∷ cs) hard = kept (nat_eq c.lane lane) (lane_none lane round cs hard.1)
  where
    kept : (b : Bool) → AllByRecursion (λ (p : CallInRound). CallAsksNone p.call) (in_round round (filter (λ (c : LaneCall). nat_eq c.lane lane) cs))
        → AllByRecursion (λ (p : CallInRound). CallAsksNone p.call)
        (in_round round (if b then c ∷ filter (λ (c : LaneCall). nat_eq c.lane lane) cs else filter (λ (c : LaneCall). nat_eq c.lane lane) cs))
    kept true rest = (hard_none c.call hard.0, rest)
    kept false rest = rest

rounds_none : (lane round : ℕ) (rs : List Round) → AllByRecursion (λ (c : LaneCall). IsHardCall c.call) (all_calls rs)
    → AllByRecursion (λ (p : CallInRound). CallAsksNone p.call) (calls_from lane round rs)
rounds_none lane round [] hard = tt
rounds_none lane round (r ∷ rs) hard =
    All-append (λ (p : CallInRound). CallAsksNone p.call) _ (calls_from lane (round + 1) rs)
    (lane_none lane round r.calls (All-front _ r.calls (all_calls rs) hard)) (rounds_none lane (round + 1) rs (All-back _ r.calls (all_calls rs) hard))

at_none : (ps : List CallInRound) (i : ℕ) (p : CallInRound) → AllByRecursion (λ (p : CallInRound). CallAsksNone p.call) ps → slice_get ps i ≡ Some p
    → CallAsksNone p.call
at_none [] i p all at = absurd cc
at_none (q ∷ ps) zero p all at = subst (λ (p : CallInRound). CallAsksNone p.call) (same_Some q p at) all.0
at_none (q ∷ ps) (suc i) p all at = at_none ps i p all.1 at

-- law: a record that fits a script of version 1 has no slack
pub version_one_recorded : (s : Script) (r : RunRecord) → IsInRange s → s.version ≡ versions.One → Fits s r → HasNoSlack r
version_one_recorded s r range one fits =
    none_recorded s r (fits_for_each_timer s r fits)
    (λ lane index p at. at_none (calls_of s lane) index p (rounds_none lane 0 s.rounds (version_one_is_hard s range one).calls) at)
