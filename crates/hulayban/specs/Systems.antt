-- Systems, and what a thread's handle of one knows.
use Rattle.std.specs.Prelude.{ℕ, ◌≡◌, ◌≤◌, ◌<◌, ◌+◌, List, [], ◌∷◌, length, map, Some, IsSome}
use Rattle.std.specs.List.{AllByRecursion}
use Rattle.atomic_table.specs.Seated.{TableId}
use Rattle.ktime.specs.declared.clock_id.ClockId.{ClockId}
use Rattle.pass_names.specs.declared.PassId.{PassId}
use Rattle.pass_names.specs.Names.{IsLast, after_retire, after_split, child_of}
use Rattle.pass_names.specs.Passes.{Retires}
use Rattle.pass_names.specs.SharedHistory.{TakesIn, child_known, first_known, splitter_known}
use Rattle.seq_timer.specs.declared.context.Context.TheVariants as contexts
use Rattle.seq_timer.specs.declared.context.Declared.{Declared}
use Rattle.seq_timer.specs.declared.context.Terms.{Terms}
use Rattle.seq_timer.specs.declared.system.SystemEntry.{SystemEntry}
use Rattle.seq_timer.specs.Steps.{HasRoom}
use Rattle.base_row.specs.Calls as rows
use Rattle.hr_timers.specs.Known.{IsPassOf, PassOf}
use Rattle.clock_cell.specs.Views.{IsPassOfClock, KnowsClock, PassOfClock, first_clock_view, new_clock_view, split_clock_view}
use Rattle.counted_row.specs.Views.{first_view, new_view, split_view}
use Rattle.ordered_signals.specs.Places.{HasSignalRing}
use Rattle.signal_queue.specs.Views.{PassOfQueue, QueueOf, first_queue_view, new_queue_view, split_queue_view}
use Rattle.timer_setting.specs.Settimes.{most_object_entries}
use Rattle.timer_objects.specs.declared.callback.Callback.{Callback}
use Rattle.timer_objects.specs.declared.callback.Callback.TheVariants as callbacks
use Rattle.timer_objects.specs.declared.object.Decl.{Decl}
use Rattle.timer_objects.specs.declared.object.Kind.{Kind}
use Rattle.timer_objects.specs.Known.{IsObjectsPass, ObjectsOf, ObjectsPass, Suits}
use Rattle.timer_objects.specs.Meaning.{opened_objects}
use Rattle.timer_objects.specs.Signals.{IsSignalPass}
use Rattle.hulayban.specs.declared.declaration.Declaration.{Declaration}

-- timers, objects with their queue of signals, and a clock
pub record SystemOf : Type 0 where
  pub timers : rows.BaseRowOf
  pub objects : ObjectsOf
  pub clock : TableId

-- what a handle has seen and made of each
pub record HandleOf : Type 0 where
  pub timers : PassOf
  pub objects : ObjectsPass
  pub clock : PassOfClock
  pub signals : PassOfQueue

-- the one history of timers, bases, turns of objects, writes of the clock, and pushes and pops of signals, as far as a handle has seen it
abbrev pub history : HandleOf → List SystemEntry
history h = h.timers.known.seen

-- the name that its passes have
abbrev pub handle_name : HandleOf → PassId
handle_name h = h.timers.known.id

-- ---- declarations

-- a declaration of the hard context
abbrev pub declares : Kind → ClockId → ℕ → Declaration
declares kind clock base = record { clock = clock; context = contexts.Hard; kind = kind; base = base }

-- what timers are told of it
abbrev pub declared_as_timer : Declaration → Declared
declared_as_timer d = record { clock = d.clock; context = d.context }

-- what objects are told of it
abbrev pub declared_as_object : Declaration → Decl
declared_as_object d = record { kind = d.kind; clock = d.clock; base = d.base }

-- a callback that isn't run
abbrev pub callback_unused : Declaration → Callback
callback_unused d = callbacks.Once

-- so many bases and these timers can be made, on these terms
pub record CanMake (bases : ℕ) (ds : List Declaration) (terms : Terms) : Type 0 where
  pub some : 0 < bases
  pub few : bases ≤ 64
  pub many : length ds ≤ 65536
  pub limit : 0 < terms.limit
  pub room : HasRoom terms
  pub entries : terms.limit ≤ most_object_entries
  pub each : AllByRecursion (λ d. d.base < bases) ds

-- the system was made of these
pub record IsSystemOf (bases : ℕ) (ds : List Declaration) (terms : Terms) (x : SystemOf) : Type 0 where
  pub timers : x.timers.about ≡ rows.opening_ringed bases (map declared_as_timer ds) terms (length ds + 1) (64 ∷ [])
  pub decls : x.objects.decls ≡ map declared_as_object ds
  pub limit : x.objects.limit ≡ terms.limit
  pub queued : IsSome x.objects.queue
  pub signals : (q : QueueOf) → x.objects.queue ≡ Some q → q.room ≡ 64

-- the timers have a ring for the queue of signals
abbrev pub HasRingOfQueue : SystemOf → Type 0
HasRingOfQueue x = (q : QueueOf) → x.objects.queue ≡ Some q → HasSignalRing x.timers.about.rings q.room

-- the parts of a system fit together
pub record IsSystemWhole (x : SystemOf) : Type 0 where
  pub suits : Suits x.objects x.timers.about
  pub few : x.timers.about.bases ≤ 64
  pub ring : HasRingOfQueue x

-- ---- handles

-- A handle of this system: what it knows is true, and its passes have one name. The timers have a ring for the queue, so its pushes and pops of signals have
-- places in the one history.
pub record IsHandleOf (x : SystemOf) (h : HandleOf) : Type 0 where
  pub timers : IsPassOf x.timers h.timers
  pub unclaimed : h.timers.known.claims ≡ []
  pub objects : IsObjectsPass x.objects h.objects
  pub objects_name : h.objects.knows.pass.id ≡ h.timers.known.id
  pub clock : IsPassOfClock x.clock h.clock
  pub clock_name : h.clock.knows.pass.id ≡ h.timers.known.id
  pub known : KnowsClock h.clock.knows
  pub heard : h.clock.knows.heard ≡ []
  pub signals : IsSignalPass x.objects h.signals
  pub signals_name : h.signals.knows.pass.id ≡ h.timers.known.id
  pub ring : HasRingOfQueue x

-- the only handle of a system
pub record IsOnly (x : SystemOf) (h : HandleOf) : Type 0 where
  pub is : IsHandleOf x h
  pub last : IsLast (handle_name h)

-- the first handle before its first call: it has seen and made nothing, the clock is at its start, and 64 signals have room in the queue
pub record IsFirstHandle (ds : List Declaration) (terms : Terms) (h : HandleOf) : Type 0 where
  pub timers : h.timers.known ≡ first_known
  pub objects : h.objects.knows ≡ first_view (opened_objects (map declared_as_object ds) terms.limit)
  pub clock : h.clock.knows ≡ first_clock_view
  pub signals : h.signals.knows.pass ≡ first_queue_view.pass
  pub room : h.signals.knows.room ≡ 64

-- a call has left the handle one of this system, and its name
pub record KeepsHandle (x : SystemOf) (old new : HandleOf) : Type 0 where
  pub is : IsHandleOf x new
  pub name : handle_name new ≡ handle_name old

-- a handle was split off, and has seen as much
pub record SplitsHandle (x : SystemOf) (old new split : HandleOf) : Type 0 where
  pub is : IsHandleOf x new
  pub other : IsHandleOf x split
  pub name : handle_name new ≡ after_split (handle_name old)
  pub child : handle_name split ≡ child_of (handle_name old)
  pub timers : (new.timers.known ≡ splitter_known old.timers.known) × (split.timers.known ≡ child_known old.timers.known)
  pub objects : (new.objects.knows ≡ split_view old.objects.knows) × (split.objects.knows ≡ new_view old.objects.knows)
  pub clock : (new.clock.knows ≡ split_clock_view old.clock.knows) × (split.clock.knows ≡ new_clock_view old.clock.knows)
  pub signals : (new.signals.knows ≡ split_queue_view old.signals.knows) × (split.signals.knows ≡ new_queue_view old.signals.knows)

-- a handle has taken in another, and has seen and made all that either had
pub record RetiresHandle (x : SystemOf) (old other new : HandleOf) : Type 0 where
  pub is : IsHandleOf x new
  pub name : handle_name new ≡ after_retire (handle_name old) (handle_name other)
  pub timers : TakesIn old.timers.known other.timers.known new.timers.known
  pub objects : Retires old.objects.knows.pass other.objects.knows.pass new.objects.knows.pass
  pub clock : Retires old.clock.knows.pass other.clock.knows.pass new.clock.knows.pass
  pub signals : Retires old.signals.knows.pass other.signals.knows.pass new.signals.knows.pass
