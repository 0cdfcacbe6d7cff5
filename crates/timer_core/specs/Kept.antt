-- All timers and bases, how they change with the events of one timer, and that they agree.
use Rattle.std.specs.Prelude.{ℕ, ◌≡◌, ◌≤◌, ◌<◌, false, true, None, List, [], ◌∷◌, length, get_or, set, replicate}
use Rattle.seq_timer.specs.declared.context.Declared.{Declared}
use Rattle.seq_timer.specs.declared.context.Terms.{Terms}
use Rattle.seq_timer.specs.Steps.{Timer, Needs, after}
use Rattle.seq_timer.specs.Events.{Event}
use Rattle.seq_timer.specs.Effects.{NeedsOfBases, effect}
use Rattle.seq_timer.specs.Tables.{timer_at}
use Rattle.seq_timer.specs.Bases.{BaseState, base_after, empty_base}
use Rattle.seq_timer.specs.Contents.{Content, IsContentOf, running_in}
use Rattle.seq_timer.specs.Systems.{openings}
use Rattle.seq_timer.specs.Calls.{step_all}

-- the timers and the bases, each by its number
pub record Kept : Type 0 where
  pub timers : List Timer
  pub bases : List BaseState

-- the base of this number
abbrev pub base_at : Kept → ℕ → BaseState
base_at k base = get_or k.bases base (empty_base 0)

-- what the base of this number has
abbrev pub content_at : Kept → ℕ → Content
content_at k base = (base_at k base).content

-- the timer of this number
abbrev pub timer_in : Kept → ℕ → Timer
timer_in k id = timer_at k.timers id

-- the timer has reached its limit on entries
abbrev pub IsSpent : Timer → Type 0
IsSpent t = t.terms.limit ≤ t.stamp

-- the timer is below its limit on entries
abbrev pub IsBelowLimit : Timer → Type 0
IsBelowLimit t = t.stamp < t.terms.limit

-- so many bases, and timers of which nothing has happened yet, declared so and on these terms
abbrev pub opened : ℕ → List Declared → Terms → Kept
opened bases declareds terms = record { timers = openings declareds terms; bases = replicate bases (empty_base (length declareds)) }

-- ---- events of one timer

-- all that is kept, after an event of a timer: the timer steps, and so does the base that it is on before
abbrev pub after_event : Kept → ℕ → Event → Kept
after_event k id e = record {
  timers = set k.timers id (after (timer_in k id) e);
  bases = set k.bases (timer_in k id).base (base_after id (timer_in k id) e (base_at k (timer_in k id).base));
}

-- all that is kept, after events of a timer in turn
abbrev pub after_events : Kept → ℕ → List Event → Kept
after_events k id [] = k
after_events k id (e ∷ es) = after_events (after_event k id e) id es

-- no function of a timer's context runs on the base that the timer is on
abbrev pub IsBaseFree : Kept → ℕ → Type 0
IsBaseFree k id = running_in (timer_in k id).declared.context (content_at k (timer_in k id).base) ≡ None

-- what an event needs beyond what its timer needs: a timer is sent to one of the bases, and a claim finds no function of its context running on its own
abbrev pub Permits : Kept → ℕ → Event → Type 0
Permits k id e = NeedsOfBases (λ reading. IsBaseFree k id) (length k.bases) (effect (timer_in k id) e).function (effect (timer_in k id) e).sent

-- each event's needs hold, in turn
abbrev pub AreAllowed : Timer → List Event → Type 0
AreAllowed t [] = Unit
AreAllowed t (e ∷ es) = Needs t e × AreAllowed (after t e) es

-- there are as many timers and bases as before
pub record IsSameSize (old new : Kept) : Type 0 where
  pub timers : length new.timers ≡ length old.timers
  pub bases : length new.bases ≡ length old.bases

-- these events step this timer, and the bases that it is on; all other timers stay
pub record Makes (old : Kept) (id : ℕ) (events : List Event) (new : Kept) : Type 0 where
  pub within : id < length old.timers
  pub allowed : AreAllowed (timer_in old id) events
  pub kept : new ≡ after_events old id events
  pub timers : new.timers ≡ set old.timers id (step_all (timer_in old id) events)
  pub timer : timer_in new id ≡ step_all (timer_in old id) events
  pub others : (other : ℕ) → (other ≡ id → ⊥) → timer_in new other ≡ timer_in old other

-- ---- that all agree

-- each base agrees with the timers, its queues have room for all of them, and a timer on the move is neither armed nor running
pub record Agrees (k : Kept) : Type 0 where
  pub contents : (base : ℕ) → IsContentOf (timer_in k) base (content_at k base)
  pub rooms : (base : ℕ) → base < length k.bases → (base_at k base).room ≡ length k.timers
  pub placed : (id : ℕ) → (timer_in k id).base < length k.bases
  pub apart : (id : ℕ) → (timer_in k id).moving ≡ true → ((timer_in k id).armed ≡ None) × ((timer_in k id).running ≡ None)
  pub few_bases : length k.bases ≤ 64
  pub few_timers : length k.timers ≤ 4294967295

-- the same, and no timer is on the move
pub record IsConsistent (k : Kept) : Type 0 where
  pub agrees : Agrees k
  pub still : (id : ℕ) → (timer_in k id).moving ≡ false
