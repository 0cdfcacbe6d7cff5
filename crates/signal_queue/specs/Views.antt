-- What a pass of a queue knows, and how calls change it.
use Rattle.std.specs.Prelude.{◌≡◌, ℕ, nat_lt, if◌then◌else◌, Bool, true, false, ◌||◌, List, [], ◌∷◌, ◌++◌, length, All}
use Rattle.atomic_table.specs.Seated.{TableId}
use Rattle.pass_names.specs.Names.{IsLast, after_retire, gone_pass_id}
use Rattle.pass_names.specs.Passes.{Begins, HasEach, first_pass, splitter, split_off}
use Rattle.signal_queue.specs.declared.signal.Turn.{Turn}
use Rattle.signal_queue.specs.declared.view.QueueView.{QueueView}
use Rattle.signal_queue.specs.Rules.{turns}
use Rattle.signal_queue.specs.Turns.{AreTurns}

-- a queue, and how many signals may wait
pub record QueueOf : Type 0 where
  pub id : TableId
  pub room : ℕ

-- an end of a queue that is lent, by which so many signals were pushed, or popped
pub record EndOfQueue : Type 0 where
  pub queue : QueueOf
  pub count : ℕ

-- a pass of a queue, and what it knows
pub record PassOfQueue : Type 0 where
  pub queue : TableId
  pub knows : QueueView

-- the pass is one of this queue
pub record IsPassOfQueue (q : QueueOf) (p : PassOfQueue) : Type 0 where
  pub queue : p.queue ≡ q.id
  pub room : p.knows.room ≡ q.room

-- What is known of what a pass knows: it has seen one history, which is legal with the queue's room; and the last pass has each turn of it among its own, once.
pub record KnowsQueue (v : QueueView) : Type 0 where
  pub one : v.pass.seen ≡ turns v ∷ []
  pub legal : AreTurns v.room [] (turns v)
  pub all_entries : IsLast v.pass.id → HasEach v.pass.seen v.pass.mine

-- what a pass is like between calls: it has no end, and what it was told of begins what it has seen
pub record IsRestingQueueView (v : QueueView) : Type 0 where
  pub live : v.pass.id.live ≡ true
  pub known : KnowsQueue v
  pub heard : All (λ ts. Begins ts (turns v)) v.heard
  pub no_push : v.pushes ≡ false
  pub no_pop : v.pops ≡ false

-- the longer one of two lists
abbrev pub longer_turns : List Turn → List Turn → List Turn
longer_turns xs ys = if nat_lt (length xs) (length ys) then ys else xs

-- ---- passes

-- the first pass, which has both ends at first
abbrev pub first_queue_view : QueueView
first_queue_view = record { pass = first_pass 1; heard = []; room = 0; pushes = true; pops = true; made = 0 }

-- after a pass was split off
abbrev pub split_queue_view : QueueView → QueueView
split_queue_view v = record v { pass = splitter v.pass }

-- the pass that was split off
abbrev pub new_queue_view : QueueView → QueueView
new_queue_view v = record { pass = split_off v.pass; heard = v.heard; room = v.room; pushes = false; pops = false; made = 0 }

-- what two passes have seen and were told of
abbrev pub heard_by_both : QueueView → QueueView → List (List Turn)
heard_by_both v w = turns v ∷ turns w ∷ v.heard ++ w.heard

-- a pass that has taken in another
abbrev pub joined_queue_view : QueueView → QueueView → QueueView
joined_queue_view v w = record {
  pass = record { id = after_retire v.pass.id w.pass.id; seen = longer_turns (turns v) (turns w) ∷ []; mine = v.pass.mine ++ w.pass.mine };
  heard = heard_by_both v w;
  room = v.room;
  pushes = false;
  pops = false;
  made = 0;
}

-- what is left of a pass that was taken in, or of an end that was lent
abbrev pub gone_queue_view : QueueView
gone_queue_view = record { pass = record { id = gone_pass_id; seen = []; mine = [] }; heard = []; room = 0; pushes = false; pops = false; made = 0 }

-- ---- ends: views without a name, which pass on who may push and who may pop

-- a pass to which an end was lent
abbrev pub lent_queue_view : QueueView → QueueView → QueueView
lent_queue_view v w = record v {
  pass = record v.pass { seen = longer_turns (turns v) (turns w) ∷ [] };
  heard = heard_by_both v w;
  pushes = v.pushes || w.pushes;
  pops = v.pops || w.pops;
  made = w.made;
}

-- a pass that has given back what it was lent
abbrev pub rid_queue_view : QueueView → QueueView
rid_queue_view v = record v { pushes = false; pops = false }

-- the end that it has given back
abbrev pub end_queue_view : QueueView → QueueView
end_queue_view v = record v { pass = record { id = gone_pass_id; seen = turns v ∷ []; mine = [] }; heard = [] }

-- the first pass after it has learned how many signals may wait, and has given up the end for pops
abbrev pub opened_view : ℕ → QueueView → QueueView
opened_view room v = record v { room = room; pops = false }

-- that end
abbrev pub opened_end : ℕ → QueueView → QueueView
opened_end room v = record {
  pass = record { id = gone_pass_id; seen = turns v ∷ []; mine = [] };
  heard = [];
  room = room;
  pushes = false;
  pops = v.pops;
  made = v.made;
}

-- an end that isn't lent, for pushes or for pops, by which so many were made
pub record IsEndView (most : ℕ) (pushing popping : Bool) (count : ℕ) (v : QueueView) : Type 0 where
  pub off : v.pass.id ≡ gone_pass_id
  pub none : v.pass.mine ≡ []
  pub told : v.heard ≡ []
  pub room : v.room ≡ most
  pub pushes : v.pushes ≡ pushing
  pub pops : v.pops ≡ popping
  pub made : v.made ≡ count
