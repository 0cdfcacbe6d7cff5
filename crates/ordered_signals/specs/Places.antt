-- Where pushes and pops of a queue of signals stand among the entries of timers. Ring 0 of the timers repeats their numbers: the k-th rise of its count of
-- what was put in is the place of the k-th push, and the k-th rise of its count of what was taken off that of the k-th pop.
use Rattle.std.specs.Prelude.{ℕ, ◌≡◌, ◌≢◌, ◌+◌, ◌<◌, ◌⊎◌, List, length, slice_index, Option, Some, None}
use Rattle.base_row.specs.Rings.{put_counter, put_in, taken_counter, taken_off}
use Rattle.base_row.specs.declared.view.Opening.{Opening}
use Rattle.hr_timers.specs.Known.{KnownOfTimers}
use Rattle.ordered_clock.specs.Moments.{RisesAt}
use Rattle.pass_names.specs.Passes.{Begins}
use Rattle.seq_timer.specs.declared.system.SystemEntry.{SystemEntry}
use Rattle.signal_queue.specs.Rules.{turns}
use Rattle.signal_queue.specs.Turns.{popped, pushed}
use Rattle.signal_queue.specs.declared.signal.Signal.{Signal}
use Rattle.signal_queue.specs.declared.signals.Push.{Push}
use Rattle.signal_queue.specs.declared.signals.Push.TheVariants.{Queued, Full}
use Rattle.signal_queue.specs.declared.view.QueueView.{QueueView}

-- the timers' ring that repeats the pushes and pops of the queue
abbrev pub signal_ring : ℕ
signal_ring = 0

-- rings of so much room each have that one, with as much room as the queue
pub record HasSignalRing (rings : List ℕ) (room : ℕ) : Type 0 where
  pub within : signal_ring < length rings
  pub same : slice_index rings signal_ring ≡ room

-- how many signals a pass knows to be pushed, and popped, by its part of the queue's history
abbrev pub pushes_seen : QueueView → ℕ
pushes_seen s = length (pushed (turns s))

abbrev pub pops_seen : QueueView → ℕ
pops_seen s = length (popped (turns s))

module _ (o : Opening) where
  -- of how many pushes, and pops, the timers are told, by what is seen of them
  abbrev pub pushes_told : List SystemEntry → ℕ
  pushes_told seen = put_in o signal_ring seen

  abbrev pub pops_told : List SystemEntry → ℕ
  pops_told seen = taken_off o signal_ring seen

  -- At a moment between what was seen before and what is seen after, so many signals were pushed, and so many popped.
  pub record RingStandsAt (old new : List SystemEntry) (put taken : ℕ) : Type 0 where
    pub at : List SystemEntry
    pub from : Begins old at
    pub seen : Begins at new
    pub pushes : pushes_told at ≡ put
    pub pops : pops_told at ≡ taken

  -- Where a push stands by which the queue's pass has come to know this much: a signal that was put has its place between what was seen before and after; one
  -- that found no room found it at a moment between them, when there were just these pushes and pops.
  abbrev pub PushStands : KnownOfTimers → KnownOfTimers → QueueView → Push → Type 0
  PushStands v w t Queued = RisesAt (put_counter o signal_ring) v.seen w.seen (pushes_seen t)
  PushStands v w t (Full most) = RingStandsAt v.seen w.seen (pushes_seen t) (pops_seen t)

  -- Where a pop stands: one that took a signal has its place, and one that found none its moment.
  abbrev pub PopStands : KnownOfTimers → KnownOfTimers → QueueView → Option Signal → Type 0
  PopStands v w t (Some s) = RisesAt (taken_counter o signal_ring) v.seen w.seen (pops_seen t)
  PopStands v w t None = RingStandsAt v.seen w.seen (pushes_seen t) (pops_seen t)

  -- ---- why a turn has to be made again: the timers are told otherwise than whoever has the end knows

  -- the timers aren't told of just the pushes that were made, or of more pops than leave the queue full
  abbrev pub PushesDiffer : ℕ → ℕ → List SystemEntry → Type 0
  PushesDiffer room count seen = (pushes_told seen ≢ count) ⊎ (count < pops_told seen + room)

  -- the timers aren't told of just the pops that were made, or of more pushes than these
  abbrev pub PopsDiffer : ℕ → List SystemEntry → Type 0
  PopsDiffer count seen = (pops_told seen ≢ count) ⊎ (count < pushes_told seen)
