-- What a push and a pop come to.
use Rattle.std.specs.Prelude.{◌≡◌, ℕ, ◌+◌, true, List, [], ◌∷◌, length, All, Option, Some, None}
use mathlib.Core.Option.{some}
use lib.ListN.{get_elem?}
use Rattle.crossbeam_queue.specs.Fifo.{Held}
use Rattle.pass_names.specs.Passes.{Adds, Begins, Looks}
use Rattle.signal_queue.specs.declared.signal.Signal.{Signal}
use Rattle.signal_queue.specs.declared.signal.Turn.{Turn}
use Rattle.signal_queue.specs.declared.signal.Turn.TheVariants.{Popped, Pushed}
use Rattle.signal_queue.specs.declared.signals.Push.{Push}
use Rattle.signal_queue.specs.declared.signals.Push.TheVariants.{Queued, Full}
use Rattle.signal_queue.specs.declared.view.QueueView.{QueueView}
use Rattle.signal_queue.specs.Rules.{IsWithin, QueueInvariant, turns}
use Rattle.signal_queue.specs.Turns.{popped, pushed, waiting_after}
use Rattle.signal_queue.specs.Views.{KnowsQueue}

-- ---- what callers are told

-- the turn stands last in what the pass has then seen, and its place is the pass's own
abbrev pub TakesTurn : QueueView → QueueView → Turn → Type 0
TakesTurn old new t = Adds old.pass new.pass 0 (t ∷ [])

-- no turn was made, and after all that was then seen so many signals wait
pub record FindsFull (most : ℕ) (old new : QueueView) : Type 0 where
  pub looks : Looks old.pass new.pass
  pub full : length (waiting_after [] (turns new)) ≡ most

-- no turn was made, and after all that was then seen none waits
pub record FindsEmpty (old new : QueueView) : Type 0 where
  pub looks : Looks old.pass new.pass
  pub none : waiting_after [] (turns new) ≡ []

-- Queued: the signal was put last, and there was room for it. Full: as many wait as there is room for.
abbrev pub PushesSignal : ℕ → QueueView → QueueView → Signal → Push → Type 0
PushesSignal room old new s Queued = TakesTurn old new (Pushed s) × IsWithin new
PushesSignal room old new s (Full most) = (most ≡ room) × FindsFull most old new

-- the oldest signal was taken off, or none waits
abbrev pub PopsSignal : QueueView → QueueView → Option Signal → Type 0
PopsSignal old new (Some s) = TakesTurn old new (Popped s)
PopsSignal old new None = FindsEmpty old new

-- how many signals a push has put, and a pop has taken
abbrev pub count_put : Push → ℕ
count_put Queued = 1
count_put (Full most) = 0

abbrev pub count_taken : Option Signal → ℕ
count_taken (Some s) = 1
count_taken None = 0

-- A call by an end left one by which so many more were made; the pass has seen all pushes that there were until then.
pub record CountsPushes (old made : ℕ) (new : QueueView) (count : ℕ) : Type 0 where
  pub more : count ≡ old + made
  pub all : length (pushed (turns new)) ≡ count

-- The same of pops.
pub record CountsPops (old made : ℕ) (new : QueueView) (count : ℕ) : Type 0 where
  pub more : count ≡ old + made
  pub all : length (popped (turns new)) ≡ count

-- ---- what the ring tells a pass that has an end

-- at a moment of the call the rule held of these signals, and of this view among others
abbrev pub RuleHeld : QueueView → List Signal → Type 0
RuleHeld v items = (views : List QueueView) × (id : ℕ) × QueueInvariant items views × (get_elem? views id ≡ some v)

-- the turn was made after all that the pass was told of, and it has then seen the whole history
pub record MakesTurn (t : Turn) (old new : QueueView) : Type 0 where
  pub adds : Adds old.pass new.pass 0 (t ∷ [])
  pub live : new.pass.id.live ≡ true
  pub known : KnowsQueue new
  pub heard : All (λ ts. Begins ts adds.before) old.heard
  pub none : new.heard ≡ []
  pub room : new.room ≡ old.room
  pub same_push : new.pushes ≡ old.pushes
  pub same_pop : new.pops ≡ old.pops
  pub within : new.pushes ≡ true → IsWithin new
  pub one_more : new.made ≡ old.made + 1
  pub pushes_made : new.pushes ≡ true → new.made ≡ length (pushed (turns new))
  pub pops_made : new.pops ≡ true → new.made ≡ length (popped (turns new))

-- Queued: the signal was put last. Full: the view stays, and as many signals as there is room for were shown.
abbrev pub PushesLent : ℕ → QueueView → QueueView → Signal → Push → Type 0
PushesLent room old new s Queued = MakesTurn (Pushed s) old new
PushesLent room old new s (Full most) = (most ≡ room) × (new ≡ old) × Held room (RuleHeld old)

-- the oldest one was taken off; or the view stays, and no signals were shown
abbrev pub PopsLent : QueueView → QueueView → Option Signal → Type 0
PopsLent old new (Some s) = MakesTurn (Popped s) old new
PopsLent old new None = (new ≡ old) × Held 0 (RuleHeld old)
