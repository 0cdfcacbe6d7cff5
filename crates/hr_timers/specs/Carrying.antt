-- Moving a timer by calls that wait for nobody: between two of them a pass carries the timer from base to base.
use Rattle.std.specs.Prelude.{ℕ, ◌≡◌, ◌+◌, ◌≤◌, ◌<◌, Bool, true, false, List, [], ◌∷◌, Some, is_some}
use Rattle.pass_names.specs.Passes.{Begins}
use Rattle.pass_names.specs.SharedHistory as shared
use Rattle.seq_timer.specs.Calls.{moves_first}
use Rattle.seq_timer.specs.Events.{Asked}
use Rattle.seq_timer.specs.Histories as seq
use Rattle.seq_timer.specs.Steps.{Timer, after, placement_of}
use Rattle.seq_timer.specs.Systems.{entries_of}
use Rattle.seq_timer.specs.declared.event.EventBy.TheVariants as events
use Rattle.seq_timer.specs.declared.system.SystemEntry.{SystemEntry}
use Rattle.base_row.specs.declared.view.Opening.{Opening}
use Rattle.base_row.specs.Calls as rows
use Rattle.hr_timers.specs.Calls.{LooksAt, entry_by}
use Rattle.hr_timers.specs.Carriers.{CarrierOf, IsCarrierOf, IsCarrying}
use Rattle.hr_timers.specs.Known.{IsAtRest, IsPassOf, KnownOfTimers, LocksGoOn, MadeAt, PassOf, timer_then}
use Rattle.hr_timers.specs.Once.{IsContended, MissFits, SaysFirst}
use Rattle.hr_timers.specs.Ways.{Finds, asking, bits_of, standing_then}
use Rattle.hr_timers.specs.declared.answer.StartAnswer.{StartAnswer}
use Rattle.hr_timers.specs.declared.answer.StartAnswer.TheVariants as starts
use Rattle.hr_timers.specs.declared.carrying.ArriveAnswer.{ArriveAnswer}
use Rattle.hr_timers.specs.declared.carrying.ArriveAnswer.TheVariants as arrives
use Rattle.hr_timers.specs.declared.moving_once.Arriving.{Arriving}
use Rattle.hr_timers.specs.declared.moving_once.Arriving.TheVariants as arrivings
use Rattle.hr_timers.specs.declared.once_answer.Landed.{Landed}
use Rattle.hr_timers.specs.declared.once_answer.Unsent.{Unsent}
use Rattle.hr_timers.specs.declared.once_answer.Unsent.TheVariants as unsents

-- ---- try_send

-- a timer whose function wasn't running was sent off its base to the one that was found on line for the one that is asked for
pub record SendsOff (o : Opening) (v w : KnownOfTimers) (t asked : ℕ) (s : Timer) (was_armed : Bool) : Type 0 where
  pub at : List SystemEntry
  pub found : Finds o w.seen t v.seen (timer_then o at t).stamp asked s.base
  pub made : MadeAt v w t at (entry_by (timer_then o at t) (events.Out s.base) ∷ [])
  pub below : (timer_then o at t).stamp < (timer_then o at t).terms.limit
  pub still : (timer_then o at t).moving ≡ false
  pub moves : moves_first (timer_then o at t) s.base ≡ true
  pub becomes : s ≡ after (timer_then o at t) (events.Out s.base)
  pub armed : was_armed ≡ is_some (timer_then o at t).armed
  pub claims : w.claims ≡ v.claims

-- at a moment of a call that made no entry the timer had reached its limit, at this stamp
pub record WasSpent (o : Opening) (v w : KnownOfTimers) (t n : ℕ) : Type 0 where
  pub at : List SystemEntry
  pub looks : LooksAt v w at
  pub limit : (timer_then o at t).terms.limit ≤ (timer_then o at t).stamp
  pub stamp : n ≡ (timer_then o at t).stamp

-- at a moment of a call that made no entry the timer was on this base, and stays there if it is started on the one that was found on line for the one that
-- is asked for
pub record NeedsNoMove (o : Opening) (v w : KnownOfTimers) (t asked b : ℕ) : Type 0 where
  pub at : List SystemEntry
  pub looks : LooksAt v w at
  pub base : (timer_then o at t).base ≡ b
  pub to : ℕ
  pub found : Finds o w.seen t v.seen (timer_then o at t).stamp asked to
  pub stays : moves_first (timer_then o at t) to ≡ false

-- why a timer wasn't sent
abbrev pub UnsentFits : Opening → PassOf → PassOf → ℕ → ℕ → Unsent → Type 0
UnsentFits o p q t asked (unsents.Missed m) = MissFits o p q t m
UnsentFits o p q t asked (unsents.Spent n) = WasSpent o p.known q.known t n
UnsentFits o p q t asked (unsents.Stays b) = NeedsNoMove o p.known q.known t asked b

-- the same under the lock of the timer's base
abbrev pub HeldUnsentFits : Opening → KnownOfTimers → KnownOfTimers → ℕ → ℕ → Unsent → Type 0
HeldUnsentFits o v w t asked (unsents.Missed m) = ⊥
HeldUnsentFits o v w t asked (unsents.Spent n) = WasSpent o v w t n
HeldUnsentFits o v w t asked (unsents.Stays b) = NeedsNoMove o v w t asked b

-- ---- try_arrive

-- these entries were added of the carried timer, behind all that its pass had seen of it
abbrev pub AddsCarried : KnownOfTimers → KnownOfTimers → ℕ → List seq.Entry → Type 0
AddsCarried v w t es = shared.ExtendsBy entries_of v w t es

-- a carried timer was started on the base that it was sent to, for which the request asks, and what is told of it
pub record Lands (o : Opening) (v w : KnownOfTimers) (t : ℕ) (s : Timer) (asked : Asked) (l : Landed) : Type 0 where
  pub adds : AddsCarried v w t (entry_by s (events.Start asked) ∷ [])
  pub base : l.base ≡ s.base
  pub generation : l.generation ≡ s.stamp + 1
  pub placement : l.placement ≡ placement_of (after s (events.Start asked))
  pub first : SaysFirst o w.seen t l.first
  pub claims : w.claims ≡ v.claims

-- a carried timer was sent on, from a base that was off line to its heir, and is so now
pub record SendsOn (o : Opening) (v w : KnownOfTimers) (t : ℕ) (s now : Timer) : Type 0 where
  pub adds : AddsCarried v w t (entry_by s (events.Out now.base) ∷ [])
  pub becomes : now ≡ after s (events.Out now.base)
  pub down : now.base < s.base
  pub at : List SystemEntry
  pub from : Begins v.seen at
  pub seen : Begins at w.seen
  pub heir : (standing_then o at s.base).heir ≡ Some now.base
  pub claims : w.claims ≡ v.claims

-- nothing happened to a carried timer: another pass took the lock of the base that it goes to
pub record StillCarries (p q : PassOf) (t : ℕ) (s : Timer) : Type 0 where
  pub contended : IsContended p q s.base
  pub own : entries_of t q.known.seen ≡ entries_of t p.known.seen

-- what one try at an arrival did: it started the timer on the base that it goes to, sent it on from there, or did nothing
abbrev pub ArriveFits : Opening → PassOf → PassOf → ℕ → Timer → Asked → Arriving → Type 0
ArriveFits o p q t s asked (arrivings.Landed l) = Lands o p.known q.known t s asked l
ArriveFits o p q t s asked (arrivings.SentOn now) = SendsOn o p.known q.known t s now
ArriveFits o p q t s asked arrivings.Contended = StillCarries p q t s

-- how its pass stands then: it rests, or carries the timer, which is so
abbrev pub ArriveStands : rows.BaseRowOf → rows.BasePassOf → ℕ → Timer → Arriving → Type 0
ArriveStands r p t s (arrivings.Landed l) = IsAtRest r p
ArriveStands r p t s (arrivings.SentOn now) = IsCarrying r p t now
ArriveStands r p t s arrivings.Contended = IsCarrying r p t s

-- the carrier of the same timer, after a try that didn't land it
pub record CarriesOn (timers : rows.BaseRowOf) (c d : CarrierOf) : Type 0 where
  pub carrier : IsCarrierOf timers d
  pub timer : d.timer ≡ c.timer
  pub armed : d.was_armed ≡ c.was_armed
  pub locks : LocksGoOn c.pass d.pass

-- what a try at an arrival answers
abbrev pub ArrivalFits : rows.BaseRowOf → CarrierOf → Asked → ArriveAnswer → Type 0
ArrivalFits timers c asked (arrives.Arrived p l) =
    IsPassOf timers p × Lands timers.about c.pass.known p.known c.timer c.state (asking asked c.state.base) l × LocksGoOn c.pass p
ArrivalFits timers c asked (arrives.SentOn d) = CarriesOn timers c d × SendsOn timers.about c.pass.known d.pass.known c.timer c.state d.state
ArrivalFits timers c asked (arrives.Contended d) = CarriesOn timers c d × (d.state ≡ c.state) × StillCarries c.pass d.pass c.timer c.state

-- what a start answers that has sent the timer to this base and no further
abbrev pub landed_as : Bool → Landed → StartAnswer
landed_as was_armed l = starts.Started was_armed l.generation l.base (bits_of (l.base ∷ [])) l.placement
