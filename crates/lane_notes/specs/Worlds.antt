-- A script's world, and what passes of it know.
use Rattle.std.specs.Prelude.{ℕ, ◌≡◌, ◌≤◌, ◌<◌, ◌+◌, ◌^◌, List, [], ◌∷◌, length, map, Some}
use Rattle.ktime.specs.declared.clock_id.ClockId.{ClockId}
use Rattle.atomic_table.specs.Seated.{TableId}
use Rattle.pass_names.specs.Names.{AnswersFor, IsLast}
use Rattle.pass_names.specs.SharedHistory.{child_known, first_known, splitter_known}
use Rattle.counted_row.specs.Views.{first_view, new_view, split_view}
use Rattle.clock_cell.specs.Views.{IsPassOfClock, KnowsClock, first_clock_view, new_clock_view, split_clock_view}
use Rattle.base_row.specs.Calls as rows
use Rattle.base_row.specs.declared.view.Opening.{Opening}
use Rattle.hr_timers.specs.Known.{IsPassOf}
use Rattle.timer_objects.specs.declared.callback.Callback.{Callback}
use Rattle.timer_objects.specs.declared.callback.Callback.TheVariants as runs
use Rattle.timer_objects.specs.declared.object.Decl.{Decl}
use Rattle.timer_objects.specs.declared.object.Kind.TheVariants as over
use Rattle.timer_objects.specs.Callbacks.{bases_of}
use Rattle.timer_objects.specs.Meaning.{opened_objects}
use Rattle.timer_objects.specs.Known.{IsObjectsPass, ObjectsOf, Suits}
use Rattle.timer_objects.specs.Signals.{IsSignalPass}
use Rattle.signal_queue.specs.Views.{KnowsQueue, QueueOf, first_queue_view, new_queue_view, split_queue_view}
use Rattle.run_history.specs.Signals.{most_signals}
use Rattle.script_text.specs.Declarations.{declareds_of, terms_of}
use Rattle.script_text.specs.declared.script.Callback.TheVariants as callbacks
use Rattle.script_text.specs.declared.script.Declaration.{Declaration}
use Rattle.script_text.specs.declared.script.Kind.{Kind}
use Rattle.script_text.specs.declared.script.Kind.TheVariants as kinds
use Rattle.script_text.specs.declared.script.Script.{Script}
use Rattle.lane_notes.specs.declared.lane.WorldPass.{WorldPass}

-- the timers, objects and clock that lanes share, and the callbacks of the timers
pub record WorldOf : Type 0 where
  pub timers : rows.BaseRowOf
  pub objects : ObjectsOf
  pub clock : TableId
  pub callbacks : List Callback

-- ---- of a script

-- the callback of a timer by itself; that of an object's timer isn't run
abbrev pub callback_of : Kind → Callback
callback_of (kinds.Raw context callbacks.Once) = runs.Once
callback_of (kinds.Raw context (callbacks.Every interval)) = runs.Every interval
callback_of (kinds.Raw context callbacks.Cancels) = runs.Cancels
callback_of (kinds.Raw context (callbacks.Starts ns base)) = runs.Starts ns base
callback_of (kinds.Posix base) = runs.Once
callback_of (kinds.Fd base) = runs.Once
callback_of (kinds.Queued base) = runs.Once
callback_of (kinds.Sleeper base) = runs.Once

-- what stands over a timer of this kind and clock
abbrev pub decl_as : Kind → ClockId → Decl
decl_as (kinds.Raw context callback) clock = record { kind = over.Raw; clock = clock; base = 0 }
decl_as (kinds.Posix base) clock = record { kind = over.Posix; clock = clock; base = base }
decl_as (kinds.Fd base) clock = record { kind = over.Fd; clock = clock; base = base }
decl_as (kinds.Queued base) clock = record { kind = over.Queued; clock = clock; base = base }
decl_as (kinds.Sleeper base) clock = record { kind = over.Sleeper; clock = clock; base = base }

abbrev pub decl_of : Declaration → Decl
decl_of d = decl_as d.kind d.clock

-- what the timers of a script begin with: its bases, the timers as it declares them, a counter for the clock's writes and one for each object's turns, and a
-- ring for the pushes and pops of signals
abbrev pub opening_for : Script → Opening
opening_for s = rows.opening_ringed s.bases (declareds_of s) (terms_of s) (length s.timers + 1) (most_signals ∷ [])

-- the objects have a queue of signals, with room for as many as a script's may wait
pub record HasQueue (x : ObjectsOf) : Type 0 where
  pub queue : QueueOf
  pub has : x.queue ≡ Some queue
  pub room : queue.room ≡ most_signals

-- the world is this script's: its timers on their clocks and bases, with its limit, what stands over each, and a queue of signals
pub record IsWorldOf (s : Script) (x : WorldOf) : Type 0 where
  pub timers : x.timers.about ≡ opening_for s
  pub decls : x.objects.decls ≡ map decl_of s.timers
  pub limit : x.objects.limit ≡ s.limit
  pub callbacks : x.callbacks ≡ map (λ d. callback_of d.kind) s.timers
  pub queue : HasQueue x.objects

-- the parts of a world fit together: an object for each timer, on its clock and one of the bases, and a callback for each
pub record IsWhole (x : WorldOf) : Type 0 where
  pub suits : Suits x.objects x.timers.about
  pub callbacks : length x.callbacks ≡ length x.objects.decls
  pub bases : bases_of x.callbacks ≤ x.timers.about.bases
  pub few : x.timers.about.bases ≤ 64
  -- the timers have a counter for the clock's writes, and a ring for the signals
  pub counts : 0 < x.timers.about.counters
  pub ring : x.timers.about.rings ≡ most_signals ∷ []
  pub small : length x.objects.decls < 2 ^ 32
  pub queue : HasQueue x.objects

-- ---- passes

-- they are passes of this world, what they know is true, and that of the clock has looked since it was told anything
pub record ArePassesOf (x : WorldOf) (p : WorldPass) : Type 0 where
  pub timers : IsPassOf x.timers p.timers
  pub objects : IsObjectsPass x.objects p.objects
  pub clock : IsPassOfClock x.clock p.clock
  pub known : KnowsClock p.clock.knows
  pub heard : p.clock.knows.heard ≡ []
  pub signals : IsSignalPass x.objects p.signals
  pub queue : KnowsQueue p.signals.knows

-- the passes that a world is made with
pub record AreFirst (x : WorldOf) (p : WorldPass) : Type 0 where
  pub timers : p.timers.known ≡ first_known
  pub objects : p.objects.knows ≡ first_view (opened_objects x.objects.decls x.objects.limit)
  pub clock : p.clock.knows ≡ first_clock_view
  pub signals : p.signals.knows.pass ≡ first_queue_view.pass

-- each is the last of its kind, and has no claims
pub record AreLast (p : WorldPass) : Type 0 where
  pub timers : IsLast p.timers.known.id
  pub objects : IsLast p.objects.knows.pass.id
  pub clock : IsLast p.clock.knows.pass.id
  pub signals : IsLast p.signals.knows.pass.id
  pub unclaimed : p.timers.known.claims ≡ []

-- each of the passes answers for that of its kind among the others
pub record AnswerFor (p q : WorldPass) : Type 0 where
  pub timers : AnswersFor p.timers.known.id q.timers.known.id
  pub objects : AnswersFor p.objects.knows.pass.id q.objects.knows.pass.id
  pub clock : AnswersFor p.clock.knows.pass.id q.clock.knows.pass.id
  pub signals : AnswersFor p.signals.knows.pass.id q.signals.knows.pass.id

-- the passes' names, and the claims on timers, are as they were
pub record KeepPasses (p q : WorldPass) : Type 0 where
  pub timers : q.timers.known.id ≡ p.timers.known.id
  pub claims : q.timers.known.claims ≡ p.timers.known.claims
  pub objects : q.objects.knows.pass.id ≡ p.objects.knows.pass.id
  pub clock : q.clock.knows.pass.id ≡ p.clock.knows.pass.id
  pub signals : q.signals.knows.pass.id ≡ p.signals.knows.pass.id

-- a pass of each kind was split off
pub record SplitsPass (p q new : WorldPass) : Type 0 where
  pub timers : q.timers.known ≡ splitter_known p.timers.known
  pub timers_new : new.timers.known ≡ child_known p.timers.known
  pub objects : q.objects.knows ≡ split_view p.objects.knows
  pub objects_new : new.objects.knows ≡ new_view p.objects.knows
  pub clock : q.clock.knows ≡ split_clock_view p.clock.knows
  pub clock_new : new.clock.knows ≡ new_clock_view p.clock.knows
  pub signals : q.signals.knows ≡ split_queue_view p.signals.knows
  pub signals_new : new.signals.knows ≡ new_queue_view p.signals.knows

-- ---- calls

-- the first lane's pass of timers is the first one, which takes bases off line and on line again
abbrev pub LeadsByName : ℕ → WorldPass → Type 0
LeadsByName lane p = lane ≡ 0 → p.timers.known.id.name ≡ []
