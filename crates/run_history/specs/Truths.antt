-- What a call was told held at one moment of the one order, a moment at which it had done just so much.
use Rattle.std.specs.Prelude.{ℕ, ◌≡◌, ◌≤◌, ◌<◌, ◌+◌, ◌⊎◌, None, Bool, true, false, Some, List, [], ◌∷◌, ◌++◌, length}
use Rattle.seq_timer.specs.declared.observation.Observation.{Observation}
use Rattle.seq_timer.specs.declared.observation.Observation.TheVariants as observations
use Rattle.seq_timer.specs.Histories.{Holds}
use Rattle.record_text.specs.declared.record.Label.{Label}
use Rattle.seq_timer.specs.declared.event.EventBy.{EventBy}
use Rattle.seq_timer.specs.declared.event.EventBy.TheVariants as events
use Rattle.record_text.specs.declared.record.Armed.{Armed}
use Rattle.record_text.specs.declared.record.Armed.TheVariants as armings
use Rattle.record_text.specs.declared.record.ObjectEntry.{ObjectEntry}
use Rattle.record_text.specs.declared.record.ObjectEntry.TheVariants as object_entries
use Rattle.script_text.specs.Declarations.{kind_of, terms_of}
use Rattle.run_history.specs.Order.{IsPoint}
use Rattle.run_history.specs.Signals.{most_signals, pops_at, pushes_at}
use Rattle.run_history.specs.Histories.{reading_at}
use Rattle.run_history.specs.Objects.{object_armed_after, queued_after}
use Rattle.posix_timer.specs.Queued.{is_fresh}
use Rattle.run_history.specs.Actions.{Action, Began, Entered, Looked, Made, Shifted, Signalled, Skipped, Wrote}
use Rattle.run_history.specs.Told.{IsArmedBelowLimit, IsArmedLike, observed}
use Rattle.ktime.specs.declared.clock_id.ClockId.{ClockId}
use Rattle.seq_timer.specs.Contents.{front_of}
use Rattle.seq_timer.specs.declared.context.Context.{Context}
use Rattle.seq_timer.specs.declared.context.Context.TheVariants as contexts
use Rattle.seq_timer.specs.Halves.{running_on}
use Rattle.seq_timer.specs.Systems.{next_on}
use Rattle.seq_timer.specs.Standings.{last_standing}
use Rattle.seq_timer.specs.Tables.{IsStopped, in_context, is_armed_on, runs_on}
use Rattle.run_history.specs.Starts.{Sight}
use Rattle.run_history.specs.Traces.{all_entered}
use Rattle.run_history.specs.Witnesses.{Witness, entries_in, labels, standing_along, system_along, timer_along, turns_along}
use Rattle.run_history.specs.Witnesses.{Evacuation}

-- a number of moves of the order is one at which the call has done so much, and that it may have seen
abbrev pub IsMoment : Witness → Label → List Action → ℕ → Type 0
IsMoment w c before n = IsPoint w.script c (length (all_entered before)) n (labels w)

-- at this moment the timer had so many entries, and the observation of it held
pub record Saw (w : Witness) (timer number : ℕ) (observation : Observation) (n : ℕ) : Type 0 where
  pub stamp : (timer_along w n timer).stamp ≡ number
  pub holds : Holds (timer_along w n timer) observation

-- what is seen of the run between two moments
abbrev pub sight_of : Witness → ℕ → ℕ → Sight
sight_of w first last = record {
  heir = λ n base. (standing_along w n base).heir;
  stamp = λ n timer. (timer_along w n timer).stamp;
  turns = λ n object. turns_along w n object;
  first = first;
  last = last;
}

-- at this moment no function ran on the base
abbrev pub RanNone : Witness → ℕ → ℕ → Type 0
RanNone w base n = (t : ℕ) → runs_on base (timer_along w n t) ≡ false

-- at this moment this function ran on the base: that of the hard context, or of the soft one while none of the hard one ran there
abbrev pub RanFirst : Witness → ℕ → ℕ → ℕ → ℕ → Type 0
RanFirst w base timer generation n =
    (running_on base (timer_along w n timer) ≡ Some generation)
    × ((running_on base (in_context contexts.Hard (timer_along w n) timer) ≡ Some generation)
    ⊎ ((t : ℕ) → runs_on base (in_context contexts.Hard (timer_along w n) t) ≡ false))

-- at this moment the timer was the next to be moved off the base: the first of the first queue that wasn't empty, the hard context's before the soft one's
abbrev pub WasNextOff : Witness → ℕ → ℕ → ℕ → Type 0
WasNextOff w base timer n = (expires : ℕ) × (front_of ((system_along w n).bases base).content ≡ Some (expires, timer))

-- A timer that was moved off a base was the next one there, while no function ran on the base, at the place of its own Out, between these two moments: where
-- the next move is the first of the two by which it was moved.
pub record LeftInTurn (w : Witness) (first last base : ℕ) (e : Evacuation) : Type 0 where
  pub at : ℕ
  pub from : first ≤ at
  pub to : at ≤ last
  pub stamp : (timer_along w at e.timer).stamp ≡ e.before
  pub next : (timer_along w (at + 1) e.timer).stamp ≡ e.before + 1
  pub idle : RanNone w base at
  pub front : WasNextOff w base e.timer at

-- a start was refused: the timer's history was full, and the timer was not on the move between bases
abbrev pub SawRefusal : Witness → ℕ → ℕ → ℕ → Type 0
SawRefusal w timer stamp n = Saw w timer stamp observations.Spent n × ((timer_along w n timer).moving ≡ false)

-- at this moment the object had so many entries, and no call had its turn
abbrev pub HadEntries : Witness → ℕ → ℕ → ℕ → Type 0
HadEntries w i stamp n = turns_along w n i ≡ stamp + stamp

-- at this moment the object's history was full, with so many entries
abbrev pub SawFull : Witness → ℕ → ℕ → ℕ → Type 0
SawFull w i stamp n = HadEntries w i stamp n × (w.script.limit ≤ stamp)

-- Nothing is asked here: nothing is told but what a call did, or what it was asked. Of that `Does` and the moves' history speak.
abbrev pub NothingTold : Type 0
NothingTold = Unit

-- what is asked where an event is a claim
abbrev pub OfClaim : EventBy ℕ → Type 0 → Type 0
OfClaim (events.Claim base reading) P = P
OfClaim event P = Unit

-- what is asked where an event is no cancel
abbrev pub ButOfCancel : EventBy ℕ → Type 0 → Type 0
ButOfCancel events.Cancel P = Unit
ButOfCancel event P = P

-- between these two moments there was one at which the call had only begun its turn, and the timer was idle
abbrev pub WasIdle : Witness → Label → ℕ → ℕ → ℕ → List Action → Type 0
WasIdle w c first last timer begun = (n : ℕ) × (first ≤ n) × (n ≤ last) × IsMoment w c begun n × Holds (timer_along w n timer) observations.Idle

-- a call that arms its timer anew disarmed it first: when it had begun its turn it cancelled it, or the timer was idle
abbrev pub DisarmedFirst : Witness → Label → ℕ → ℕ → ℕ → List Action → Type 0
DisarmedFirst w c first last timer (Began i stamp ∷ Entered t number entry ∷ actions) =
    ButOfCancel entry.event (WasIdle w c first last timer (Began i stamp ∷ []))
DisarmedFirst w c first last timer (Began i stamp ∷ actions) = WasIdle w c first last timer (Began i stamp ∷ [])
DisarmedFirst w c first last timer actions = ⊥

-- A start was refused at a moment between these two at which the call had made all but its last entry, which is its object's. It was refused of the timer as
-- the call had disarmed it: it had cancelled it by then, or had found it idle.
pub record RefusedBefore (w : Witness) (c : Label) (first last : ℕ) (actions : List Action) (timer stamp : ℕ) : Type 0 where
  pub early : List Action
  pub number : ℕ
  pub entry : ObjectEntry
  pub done : actions ≡ early ++ Made timer number entry ∷ []
  pub moment : ℕ
  pub from : first ≤ moment
  pub to : moment ≤ last
  pub disarmed : DisarmedFirst w c first moment timer actions
  pub point : IsMoment w c early moment
  pub refused : SawRefusal w timer stamp moment

-- what an entry of an object tells of its timer's start is true
abbrev pub IsTrueStart : Witness → ℕ → ℕ → Bool → Armed → ℕ → Type 0
IsTrueStart w i number on_clock armings.None n = NothingTold
IsTrueStart w i number on_clock (armings.Generation generation) n =
    ((timer_along w n i).stamp ≡ generation)
    × IsArmedLike on_clock (object_armed_after w.script w.run i number (kind_of w.script i)) generation (timer_along w n i)
IsTrueStart w i number on_clock armings.Unarmed n = SawRefusal w i (timer_along w n i).stamp n

-- at this moment just so many signals waited
abbrev pub SawWaiting : Witness → ℕ → ℕ → Type 0
SawWaiting w many n = pushes_at w.script (entries_in w) n ≡ pops_at w.script (entries_in w) n + many

-- the same, of each entry of an object
abbrev pub IsTrueEntry : Witness → ℕ → ℕ → ObjectEntry → ℕ → Type 0
IsTrueEntry w i number (object_entries.Settime flags value interval reading arm reply) n = IsTrueStart w i number true arm n
IsTrueEntry w i number (object_entries.Trigger generation reading counted) n = NothingTold
IsTrueEntry w i number (object_entries.Overflow generation reading) n = SawWaiting w most_signals n
IsTrueEntry w i number (object_entries.Accept reading arm reply) n = IsTrueStart w i number false arm n
IsTrueEntry w i number (object_entries.Read reading arm reply) n = IsTrueStart w i number false arm n
IsTrueEntry w i number (object_entries.Gettime reading arm left interval) n = IsTrueStart w i number false arm n
IsTrueEntry w i number (object_entries.Sleep flags time reading arm reply) n = IsTrueStart w i number true arm n
IsTrueEntry w i number (object_entries.Interrupt reading reply) n = NothingTold

-- what a thing that a call did tells of a timer or an object is true, at a moment after what the call did before it
abbrev pub IsTrue : Witness → Label → List Action → Action → ℕ → Type 0
IsTrue w c before (Entered timer number entry) n = OfClaim entry.event (IsMoment w c before n)
IsTrue w c before (Looked timer number look) n = IsMoment w c before n × Saw w timer number (observed look) n × IsArmedBelowLimit w.script.limit number look
IsTrue w c before (Began i stamp) n = NothingTold
IsTrue w c before (Made i number entry) n = IsMoment w c before n × IsTrueEntry w i number entry n
IsTrue w c before (Skipped i number generation) n = IsMoment w c before n × SawFull w i number n
IsTrue w c before (Shifted base number event) n = NothingTold
IsTrue w c before (Signalled counter number signal) n = NothingTold
IsTrue w c before (Wrote number write) n = NothingTold

-- each thing that a call did tells the truth, at moments that never go back, from one moment to another
abbrev pub AreTrue : Witness → Label → ℕ → List Action → List Action → ℕ → Type 0
AreTrue w c from before [] last = from ≤ last
AreTrue w c from before (d ∷ ds) last = (n : ℕ) × (from ≤ n) × IsTrue w c before d n × AreTrue w c n (before ++ d ∷ []) ds last

-- no function of a context ran on the base, no timer of that context was next to expire there, and the base was stopped for each clock
pub record IsDone (w : Witness) (context : Context) (reading base n : ℕ) : Type 0 where
  pub free : (t : ℕ) → runs_on base (in_context context (timer_along w n) t) ≡ false
  pub first : next_on context ((system_along w n).bases base) (reading_at w.run.clock reading) ≡ None
  pub stopped : (clock : ClockId) → IsStopped (in_context context (timer_along w n)) base (reading_at w.run.clock reading) clock

-- a timer is the next to be moved off a base, and has so many entries that it isn't moved any more
pub record SawFullOn (w : Witness) (base timer number n : ℕ) : Type 0 where
  pub front : WasNextOff w base timer n
  pub armed : is_armed_on base (timer_along w n timer) ≡ true
  pub stamp : (timer_along w n timer).stamp ≡ number
  pub full : (terms_of w.script).limit + (terms_of w.script).reach ≤ number

-- a base has so many entries
abbrev pub StandsAt : Witness → ℕ → ℕ → ℕ → Type 0
StandsAt w base stamp n = (standing_along w n base).stamp ≡ stamp

-- at this moment the base might go off line with this heir: both were on line, and the base's history had room
pub record MayGo (w : Witness) (base heir n : ℕ) : Type 0 where
  pub online : (standing_along w n base).heir ≡ None
  pub heir_online : (standing_along w n heir).heir ≡ None
  pub room : (standing_along w n base).stamp < last_standing

-- ---- the next signal

-- at this moment the entry that sent the signal of this number was one of the timer's, whose history had room, and the signal wasn't pending
pub record SawStale (w : Witness) (timer base number n : ℕ) : Type 0 where
  pub stamp : ℕ
  pub had : HadEntries w timer stamp n
  pub sent : number ≤ stamp
  pub room : stamp < w.script.limit
  pub stale : is_fresh (queued_after w.script w.run timer base stamp) number ≡ false

-- a call whose turn of the timer began behind so many entries, once it had taken a signal, found the signal of this number pending
abbrev pub WasFresh : Witness → ℕ → ℕ → ℕ → List Action → Type 0
WasFresh w timer base number (Signalled counter k signal ∷ Began i stamp ∷ actions) = is_fresh (queued_after w.script w.run timer base stamp) number ≡ true
WasFresh w timer base number actions = ⊥
