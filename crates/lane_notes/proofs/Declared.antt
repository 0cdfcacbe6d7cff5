-- What a script's timers are declared as: the objects over them, their bases and their callbacks; and how many signals may wait.
use Rattle.std.proofs.Common.{◌≡◌, ℕ, List, map, get_or, refl, ap, ◌∙◌, sym}
use Rattle.std.proofs.lemmas.Option.{same_Some}
use Rattle.run_history.specs.Signals.{most_signals}
use Rattle.signal_queue.specs.Views.{PassOfQueue, QueueOf}
use Rattle.timer_objects.specs.Signals.{IsSignalPass}
use Rattle.ktime.specs.declared.clock_id.ClockId.{ClockId}
use Rattle.ktime.specs.declared.clock_id.ClockId.TheVariants as clocks
use Rattle.timer_objects.specs.Known.{decl_at, ObjectsOf}
use Rattle.timer_objects.specs.declared.callback.Callback.TheVariants as runs
use Rattle.timer_objects.specs.declared.object.Decl.{Decl}
use Rattle.timer_objects.specs.declared.object.Kind as object_kind
use Rattle.timer_objects.specs.declared.object.Kind.TheVariants as over
use Rattle.seq_timer.specs.declared.context.Context.TheVariants as contexts
use Rattle.script_text.specs.Declarations.{clock_of, base_of, kind_of}
use Rattle.script_text.specs.declared.script.Callback.TheVariants as callbacks
use Rattle.script_text.specs.declared.script.Declaration.{Declaration}
use Rattle.script_text.specs.declared.script.Kind.{Kind}
use Rattle.script_text.specs.declared.script.Kind.TheVariants as kinds
use Rattle.script_text.specs.declared.script.Script.{Script}
use Rattle.lane_notes.specs.Worlds.{callback_of, decl_as, decl_of, HasQueue, IsWorldOf, WorldOf}
use Rattle.std.proofs.Math.ListN.{get_or-map}

-- the kind of object over a timer of this kind
abbrev pub over_of : Kind → object_kind.Kind
over_of (kinds.Raw context callback) = over.Raw
over_of (kinds.Posix base) = over.Posix
over_of (kinds.Fd base) = over.Fd
over_of (kinds.Queued base) = over.Queued
over_of (kinds.Sleeper base) = over.Sleeper

decl_as-parts : (k : Kind) (clock : ClockId) → ((decl_as k clock).kind ≡ over_of k) × ((decl_as k clock).base ≡ base_of k)
decl_as-parts (kinds.Raw context callback) clock = (refl, refl)
decl_as-parts k clock = (refl, refl)

-- what stands over a timer that isn't declared
abbrev pub no_decl : Decl
no_decl = decl_as (kinds.Raw contexts.Hard callbacks.Once) clocks.Monotonic

-- a timer that isn't declared
abbrev none : Declaration
none = record { clock = clocks.Monotonic; kind = kinds.Raw contexts.Hard callbacks.Once }

-- law: the objects of a script's world are declared by their kinds and clocks
pub declared_in : (s : Script) (x : WorldOf) (i : ℕ) → IsWorldOf s x → decl_at x.objects i ≡ decl_as (kind_of s i) (clock_of s i)
declared_in s x i world =
    ap (λ (ds : List Decl). get_or ds i no_decl) world.decls ∙ get_or-map decl_of s.timers i none
    ∙ ap (λ k. decl_as k (get_or s.timers i none).clock) (sym (get_or-map (λ d. d.kind) s.timers i none))
    ∙ ap (decl_as (kind_of s i)) (sym (get_or-map (λ d. d.clock) s.timers i none))

module _ (s : Script) (x : WorldOf) (i : ℕ) (is : IsWorldOf s x) where
  -- law: the kind of object that is declared over a timer
  pub declared_over : (decl_at x.objects i).kind ≡ over_of (kind_of s i)
  declared_over = ap (λ (d : Decl). d.kind) (declared_in s x i is) ∙ (decl_as-parts (kind_of s i) (clock_of s i)).0

  -- law: the base that an object's timer is declared on
  pub declared_base : (decl_at x.objects i).base ≡ base_of (kind_of s i)
  declared_base = ap (λ (d : Decl). d.base) (declared_in s x i is) ∙ (decl_as-parts (kind_of s i) (clock_of s i)).1

-- law: the callback of a timer is that of its declaration
pub declared_callback : (ds : List Declaration) (i : ℕ) → get_or (map (λ d. callback_of d.kind) ds) i runs.Once
    ≡ callback_of (get_or (map (λ d. d.kind) ds) i (kinds.Raw contexts.Hard callbacks.Once))
declared_callback ds i = get_or-map (λ d. callback_of d.kind) ds i none ∙ ap callback_of (sym (get_or-map (λ d. d.kind) ds i none))

-- law: a pass of the objects' queue knows how many signals may wait
pub room_known : (x : ObjectsOf) (p : PassOfQueue) → HasQueue x → IsSignalPass x p → p.knows.room ≡ most_signals
room_known x p queue is = ap (λ (y : QueueOf). y.room) (same_Some _ queue.queue (sym is ∙ queue.has)) ∙ queue.room
