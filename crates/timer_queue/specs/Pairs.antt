-- A timer queue as a list of pairs: the expiry in nanoseconds, and the timer's number.
use Rattle.std.specs.Prelude.{ℕ, ◌≤◌, ◌<◌, ◌+◌, List, [], ◌∷◌, map, filter, get_or, set, Option, Some, None, Bool, not, nat_eq, nat_lt, if◌then◌else◌}
use Rattle.std.specs.List.{list_any, IsDistinct, AllByRecursion}

-- the queue with one more pair: before the first pair that expires later, else last
abbrev pub put : ℕ → ℕ → List (ℕ × ℕ) → List (ℕ × ℕ)
put expires id [] = (expires, id) ∷ []
put expires id (p ∷ ps) = if nat_lt expires p.0 then (expires, id) ∷ p ∷ ps else p ∷ put expires id ps

-- whether a timer is in the queue
abbrev pub has_id : ℕ → List (ℕ × ℕ) → Bool
has_id id ps = list_any (λ p. nat_eq p.1 id) ps

-- the queue without a timer
abbrev pub without : ℕ → List (ℕ × ℕ) → List (ℕ × ℕ)
without id ps = filter (λ p. not (nat_eq p.1 id)) ps

-- the pair that is due first, if there is one
abbrev pub first_of : List (ℕ × ℕ) → Option (ℕ × ℕ)
first_of [] = None
first_of (p ∷ ps) = Some p

-- the expiry of a timer that is in the queue
abbrev pub expiry_of : ℕ → List (ℕ × ℕ) → Option ℕ
expiry_of id [] = None
expiry_of id (p ∷ ps) = if nat_eq p.1 id then Some p.0 else expiry_of id ps

-- how many pairs stand before the first that expires later
abbrev pub place_of : ℕ → List (ℕ × ℕ) → ℕ
place_of expires [] = 0
place_of expires (p ∷ ps) = if nat_lt expires p.0 then 0 else place_of expires ps + 1

-- expiries never fall along the list
abbrev pub IsByExpiry : List (ℕ × ℕ) → Type 0
IsByExpiry [] = Unit
IsByExpiry (p ∷ ps) = AllByRecursion (λ q. p.0 ≤ q.0) ps × IsByExpiry ps

-- each timer stands once, its number is below the room, and expiries never fall
pub record IsQueue (room : ℕ) (ps : List (ℕ × ℕ)) : Type 0 where
  pub once : IsDistinct nat_eq (map (λ p. p.1) ps)
  pub below : AllByRecursion (λ p. p.1 < room) ps
  pub by_expiry : IsByExpiry ps

-- ---- several queues, each by its number

-- whether a timer is in one of them
abbrev pub has_any : ℕ → List (List (ℕ × ℕ)) → Bool
has_any id queues = list_any (λ queue. has_id id queue) queues

-- the queues with one more pair in that of this number
abbrev pub put_among : (queue expires id : ℕ) → List (List (ℕ × ℕ)) → List (List (ℕ × ℕ))
put_among queue expires id queues = set queues queue (put expires id (get_or queues queue []))

-- the queues with a timer taken out of that of this number
abbrev pub without_among : (queue id : ℕ) → List (List (ℕ × ℕ)) → List (List (ℕ × ℕ))
without_among queue id queues = set queues queue (without id (get_or queues queue []))
