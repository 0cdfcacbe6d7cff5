-- What names the system and the handle of a thread, and what a lane asks of a system.
use Rattle.std.specs.Prelude.{ℕ, ◌≡◌, ◌<◌, ◌≤◌, length, [], None}
use Rattle.atomic_table.specs.Seated.{TableId}
use Rattle.pass_names.specs.declared.PassId.{PassId}
use Rattle.timer_objects.specs.declared.object.Kind.{Kind}
use Rattle.timer_objects.specs.declared.object.Kind.TheVariants as kinds
use Rattle.timer_objects.specs.Known.{decl_at}
use Rattle.hulayban.specs.Systems.{HandleOf, IsHandleOf, SystemOf, handle_name}

-- a table that there isn't
abbrev pub no_table : TableId
no_table = record { words = 0; slots = 0; views_name = 0; atom = 0; block = 0; offset = 0; slot_names = [] }

-- a system that there isn't
abbrev pub no_system : SystemOf
no_system = record {
  timers = record { id = no_table; about = record { bases = 0; timers = []; counters = 0; rings = [] } };
  objects = record { id = no_table; decls = []; limit = 0; queue = None };
  clock = no_table;
}

-- a handle of this system, with this name
pub record IsHandleAt (x : SystemOf) (name : PassId) (h : HandleOf) : Type 0 where
  pub is : IsHandleOf x h
  pub named : handle_name h ≡ name

-- There is this timer, with an object of this kind over it, and this base; and no more timers than there may be.
pub record HasObject (x : SystemOf) (id : ℕ) (kind : Kind) (base : ℕ) : Type 0 where
  pub within : id < length x.objects.decls
  pub is : (decl_at x.objects id).kind ≡ kind
  pub there : base < x.timers.about.bases
  pub timer : id < length x.timers.about.timers
  pub many : length x.timers.about.timers ≤ 65536

-- a timer by itself
abbrev pub HasTimer : SystemOf → ℕ → ℕ → Type 0
HasTimer x id base = HasObject x id kinds.Raw base

-- a descriptor
abbrev pub HasFd : SystemOf → ℕ → ℕ → Type 0
HasFd x id base = HasObject x id kinds.Fd base
