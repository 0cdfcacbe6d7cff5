-- The rule of a queue: what its signals, its passes and its ends have to do with one history.
use Rattle.std.specs.Prelude.{◌≡◌, ◌≤◌, ℕ, true, false, List, [], ◌∷◌, length, map, All}
use mathlib.Core.Option.{some}
use lib.ListN.{get_elem?}
use Rattle.pass_names.specs.declared.PassId.{PassId}
use Rattle.pass_names.specs.Counts.{one_if, total, count}
use Rattle.pass_names.specs.Names.{IsPassTree}
use Rattle.pass_names.specs.Passes.{Begins, entries, GoesOn, within, is_place}
use Rattle.signal_queue.specs.declared.signal.Signal.{Signal}
use Rattle.signal_queue.specs.declared.signal.Turn.{Turn}
use Rattle.signal_queue.specs.declared.view.QueueView.{QueueView}
use Rattle.signal_queue.specs.Turns.{AreTurns, popped, pushed, waiting_after}

-- a pass's name and the names that it answers for
abbrev pub queue_pass_id : QueueView → PassId
queue_pass_id v = v.pass.id

-- how many places of this kind a pass has of its own
abbrev pub queue_places : ℕ → ℕ → QueueView → ℕ
queue_places i k v = count (is_place i k) v.pass.mine

-- one for who may push, and one for who may pop
abbrev pub pushers : QueueView → ℕ
pushers v = one_if v.pushes

abbrev pub poppers : QueueView → ℕ
poppers v = one_if v.pops

-- the turns that a pass has seen
abbrev pub turns : QueueView → List Turn
turns v = entries 0 v.pass.seen

-- so many signals wait at most, after what a pass has seen
abbrev pub IsWithin : QueueView → Type 0
IsWithin v = length (waiting_after [] (turns v)) ≤ v.room

-- what a pass or an end knows is true of the queue's history
pub record QueueAgrees (log : List Turn) (v : QueueView) : Type 0 where
  pub seen : GoesOn v.pass.seen (log ∷ [])
  pub heard : All (λ ts. Begins ts log) v.heard
  -- of a pass that is gone nothing is left
  pub gone : v.pass.id.live ≡ false → v.pass.mine ≡ []
  -- who may push has seen all pushes, and who may pop all pops
  pub pushes : v.pushes ≡ true → (pushed log ≡ pushed (turns v)) × IsWithin v
  pub pops : v.pops ≡ true → popped log ≡ popped (turns v)
  -- and how many there were
  pub pushes_made : v.pushes ≡ true → v.made ≡ length (pushed log)
  pub pops_made : v.pops ≡ true → v.made ≡ length (popped log)

-- a pass has seen the whole history
pub record HasSeenAll (log : List Turn) (v : QueueView) : Type 0 where
  pub live : v.pass.id.live ≡ true
  pub all : turns v ≡ log

-- There is one history, which all passes have seen beginnings of, and the signals in the ring are those that wait after it.
pub record QueueInvariant (items : List Signal) (views : List QueueView) : Type 0 where
  pub log : List Turn
  pub room : ℕ
  pub shows : items ≡ waiting_after [] log
  pub legal : AreTurns room [] log
  -- each pass that isn't gone knows how many signals may wait
  pub rooms : (j : ℕ) (v : QueueView) → get_elem? views j ≡ some v → v.pass.id.live ≡ true → v.room ≡ room
  pub each_view : (j : ℕ) (v : QueueView) → get_elem? views j ≡ some v → QueueAgrees log v
  pub tree : IsPassTree (map queue_pass_id views)
  -- each turn is one pass's own, once
  pub tally : (i k : ℕ) → total (queue_places i k) views ≡ one_if (within k (length (entries i (log ∷ []))))
  -- one may push, and one may pop
  pub one_pusher : total pushers views ≡ 1
  pub one_popper : total poppers views ≡ 1
  pub all_seen : (j : ℕ) × (v : QueueView) × (get_elem? views j ≡ some v) × HasSeenAll log v
