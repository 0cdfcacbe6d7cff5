-- What a caller of objects knows of them.
use Rattle.std.specs.Prelude.{ℕ, ◌≡◌, ◌+◌, ◌<◌, List, [], ◌∷◌, length, get_or, Option, Some, None}
use Rattle.atomic_table.specs.Seated.{TableId}
use Rattle.ktime.specs.declared.clock_id.ClockId.TheVariants as clocks
use Rattle.pass_names.specs.Passes.{Adds, Begins, GoesOn, entries}
use Rattle.seq_timer.specs.Tables.{timer_at}
use Rattle.base_row.specs.declared.view.Opening.{Opening}
use Rattle.hr_timers.specs.Ways.{most_to_start}
use Rattle.signal_queue.specs.Views.{QueueOf}
use Rattle.counted_row.specs.declared.view.Entry.{Entry}
use Rattle.counted_row.specs.declared.view.Locked.{Locked}
use Rattle.counted_row.specs.Views.{IsPassOfRow, Knows, PassOfRow, RowOf, committed}
use Rattle.timer_objects.specs.declared.log.ObjectReceipt.{ObjectReceipt}
use Rattle.timer_objects.specs.declared.object.Object.{Object}
use Rattle.timer_setting.specs.declared.object_call.ObjectCall.{ObjectCall}
use Rattle.timer_objects.specs.declared.object.Decl.{Decl}
use Rattle.timer_objects.specs.declared.object.Kind.TheVariants as kinds
use Rattle.timer_setting.specs.declared.object_call.ObjectReply.{ObjectReply}
use Rattle.timer_objects.specs.Steps.{IsObjectOf, ObjectAllows, object_answer}
use Rattle.timer_objects.specs.Meaning.{object_meaning, opened_objects}

-- objects, and what they were made of
pub record ObjectsOf : Type 0 where
  pub id : TableId
  pub decls : List Decl
  pub limit : ℕ
  -- the queue of signals that they were made with
  pub queue : Option QueueOf

-- the row that they stand in
abbrev pub row_of : ObjectsOf → RowOf Object
row_of x = record { id = x.id; made = opened_objects x.decls x.limit }

-- a pass of objects, and what it knows
abbrev pub ObjectsPass : Type 0
ObjectsPass = PassOfRow Object ObjectCall ObjectReply

-- a pass of these objects that holds none, and what it knows is true
pub record IsObjectsPass (x : ObjectsOf) (p : ObjectsPass) : Type 0 where
  pub row : IsPassOfRow (row_of x) p
  pub idle : p.knows.held ≡ None
  pub unclaimed : p.knows.claims ≡ []
  pub knows : Knows object_meaning p.knows

-- the history of an object, as far as a pass has seen it
abbrev pub seen_of : ObjectsPass → ℕ → List (Entry ObjectCall ObjectReply)
seen_of p i = entries i p.knows.pass.seen

-- the declaration of an object
abbrev pub decl_at : ObjectsOf → ℕ → Decl
decl_at x i = get_or x.decls i (record { kind = kinds.Raw; clock = clocks.Monotonic; base = 0 })

-- a held value is that of its object, with as many entries as the history has
abbrev pub HoldsObject : ObjectsOf → Locked Object → Type 0
HoldsObject x h = IsObjectOf (decl_at x h.index) x.limit h.stamp h.state

-- a pass that holds an object may make this call on it
pub record MayEnterCall (x : ObjectsOf) (p : ObjectsPass) (h : Locked Object) (id : ℕ) (call : ObjectCall) : Type 0 where
  pub row : IsPassOfRow (row_of x) p
  pub unclaimed : p.knows.claims ≡ []
  pub held : p.knows.held ≡ Some h
  pub index : h.index ≡ id
  pub holds : HoldsObject x h
  pub may : ObjectAllows h.state call

-- a pass has made this call on the object that it held, and holds none
pub record EntersObjectCall (p q : ObjectsPass) (h : Locked Object) (call : ObjectCall) (answer : ObjectReply) : Type 0 where
  pub row : q.row ≡ p.row
  pub knows : q.knows ≡ committed object_meaning h call p.knows
  pub adds : Adds p.knows.pass q.knows.pass h.index (record { call = call; reply = answer } ∷ [])
  pub reply : answer ≡ object_answer h.state call
  pub count : length (seen_of q h.index) ≡ h.stamp + 1
  pub may : ObjectAllows h.state call

-- the receipt of a call on a held object
abbrev pub receipt_of : Locked Object → ObjectCall → ObjectReceipt
receipt_of h call = record { object = h.index; number = h.stamp + 1; call = call; reply = object_answer h.state call }

-- There are as many timers as objects, each declared on its object's clock, and each object's base is one of theirs. The timers have a counter for each
-- object, behind the clock's.
pub record Suits (x : ObjectsOf) (o : Opening) : Type 0 where
  pub many : length o.timers ≡ length x.decls
  pub clocks : (i : ℕ) → i < length x.decls → (timer_at o.timers i).declared.clock ≡ (decl_at x i).clock
  pub bases : (i : ℕ) → i < length x.decls → (decl_at x i).base < o.bases
  pub counters : length x.decls < o.counters

-- the pass's name is as it was, and what it has seen and made goes on
pub record KeepsObjectsPass (p q : ObjectsPass) : Type 0 where
  pub id : q.knows.pass.id ≡ p.knows.pass.id
  pub seen : GoesOn p.knows.pass.seen q.knows.pass.seen
  pub mine : Begins p.knows.pass.mine q.knows.pass.mine

-- a call on an object notes at most so many receipts of its timer's entries: of a cancel and of a start on the object's base
abbrev pub most_noted : ObjectsOf → Opening → ℕ → ℕ
most_noted x o id = 1 + most_to_start (timer_at o.timers id).terms (decl_at x id).base
