-- TracedTimers as the histories behind a trace have them.
use Rattle.std.specs.Prelude.{ℕ, ◌≡◌, ◌≢◌, ◌&&◌, ◌||◌, Bool, true, false, nat_eq, nat_lt, is_some, Option, Some, List, [], ◌∷◌}
use Rattle.std.specs.Option.{option_or}
use Rattle.seq_timer.specs.declared.context.Context.{Context}
use Rattle.seq_timer.specs.declared.context.Context.TheVariants as contexts
use Rattle.seq_timer.specs.Events.{Event}
use Rattle.seq_timer.specs.Steps.{Timer, Needs, after}
use Rattle.seq_timer.specs.Tables.{is_kept_on, runs_on}

-- A timer of the model, whether its clock was told, its context where lines have told it, and the number of the event that armed it, where it takes part
-- in the order of its queue. And what the lines behind tell, or those before have shown: whether its context is told when it expires next, and whether the
-- expiry was shown with which its function began.
pub record Traced : Type 0 where
  pub timer : Timer
  pub clocked : Bool
  pub told : Option Context
  pub order : Option ℕ
  pub tells : Bool
  pub shown : Bool

-- each timer by its address
abbrev pub TracedTimers : Type 0
TracedTimers = ℕ → Traced

-- this timer alone changes
abbrev pub Spares : ℕ → TracedTimers → TracedTimers → Type 0
Spares t w w' = (u : ℕ) → u ≢ t → w' u ≡ w u

-- a timer goes by these steps of the step table, in turn
abbrev pub Goes : Timer → List Event → Timer → Type 0
Goes old [] new = new ≡ old
Goes old (e ∷ es) new = Needs old e × Goes (after old e) es new

-- a timer has its turn before another one: its expiry is earlier, or the same and it was armed first
abbrev pub is_ahead : ℕ → ℕ → ℕ → ℕ → Bool
is_ahead expires order other_expires other_order = nat_lt expires other_expires || (nat_eq expires other_expires && nat_lt order other_order)

-- It is a timer's turn on a processor, by a line that tells this context. At most one function runs there, in the soft context, and this one begins in the
-- hard one; where that function ran when the recording began, and no line has told this timer's context, this one's isn't asked. And of the timers of
-- its clock and context that wait there it is the first. Only timers are compared whose clock the trace has told and whose start it has shown, which rested
-- then, and of which a line tells the context by the time when they expire.
pub record IsNextThere (w : TracedTimers) (line : Option Context) (processor t : ℕ) : Type 0 where
  pub alone : (u v : ℕ) → runs_on processor (w u).timer ≡ true → runs_on processor (w v).timer ≡ true → u ≡ v
  pub inside : (u : ℕ) → runs_on processor (w u).timer ≡ true → (w u).timer.declared.context ≡ contexts.Soft
  pub within : (u : ℕ) → runs_on processor (w u).timer ≡ true → (w u).shown || is_some line ≡ true → (w t).timer.declared.context ≡ contexts.Hard
  pub first : (u m n : ℕ) → u ≢ t → is_some line ≡ true → (w u).tells ≡ true → (w t).order ≡ Some m → (w u).order ≡ Some n
      → (w u).timer.declared.context ≡ (w t).timer.declared.context → is_kept_on processor (w t).timer.clock (w u).timer ≡ true
      → is_ahead (w t).timer.expires m (w u).timer.expires n ≡ true

-- A return on a processor, by a line that tells this context: of the functions that ran there when the recording began, at most one is left, in the
-- other context. Where the line tells none, nothing is asked.
pub record LeavesOne (w : TracedTimers) (line : Option Context) (processor t : ℕ) : Type 0 where
  pub other : (u : ℕ) → is_some line ≡ true → u ≢ t → (w u).shown ≡ false → (w u).timer.declared.context ≡ (w t).timer.declared.context
      → runs_on processor (w u).timer ≡ false
  pub alone : (u v : ℕ) → is_some line ≡ true → u ≢ t → v ≢ t → (w u).shown ≡ false → (w v).shown ≡ false
      → runs_on processor (w u).timer ≡ true → runs_on processor (w v).timer ≡ true → u ≡ v

-- the context that a line tells: by its flags, or else by what lines before it have told of its timer
abbrev pub context_at : Option Context → Option Context → Option Context
context_at flags told = option_or flags told
