-- Trees that stand in one store of nodes.
use Rattle.std.specs.Prelude.{ℕ, ◌+◌, ◌<◌, ◌≤◌, ◌≡◌, List, [], ◌∷◌, length, map, slice_index_or}
use Rattle.timer_tree.specs.Trees.{last_id, queue_at, times}
use Rattle.timer_tree.specs.Contexts.{IsStored, AreUnranked}
use Rattle.timer_tree.specs.declared.node.Node.{Node}
use Rattle.timer_tree.specs.declared.shared.Root.{Root}

abbrev pub no_root : Root
no_root = record { root = 0; first = 0; last = 0 }

-- the queues of trees with these roots
abbrev pub queues_of : List Node → List Root → List (List (ℕ × ℕ))
queues_of xs rs = map (λ r. queue_at xs r.root) rs

-- how often a timer stands in several queues
abbrev pub times_all : ℕ → List (List (ℕ × ℕ)) → ℕ
times_all k [] = 0
times_all k (q ∷ qs) = times k q + times_all k qs

-- the store has each of the trees, no timer stands twice in them, and each timer that stands in none has the rank 0
pub record AreStored (xs : List Node) (rs : List Root) : Type 0 where
  pub each : (i : ℕ) → i < length rs → let r = slice_index_or rs i no_root in IsStored xs r.root r.first (queue_at xs r.root)
  pub ends : (i : ℕ) → i < length rs → let r = slice_index_or rs i no_root in r.last ≡ last_id (queue_at xs r.root)
  pub once : (k : ℕ) → times_all k (queues_of xs rs) ≤ 1
  pub free : AreUnranked xs (λ k. times_all k (queues_of xs rs))
