-- What calls say that try each lock once and wait for nobody: what the calls that wait say, or why they did nothing.
use Rattle.std.specs.Prelude.{ℕ, ◌≡◌, ◌≢◌, ◌-◌, ◌^◌, ◌≤◌, ◌<◌, ◌⊎◌, Bool, true, false, List, length, slice_index, Some, IsSome, MatchBool}
use Rattle.ktime.specs.declared.clock_id.ClockId.{ClockId}
use Rattle.pass_names.specs.SharedHistory.{LooksOn}
use Rattle.seq_timer.specs.Calls.{moves_first}
use Rattle.seq_timer.specs.Contents.{Content, front_on}
use Rattle.seq_timer.specs.Events.{Asked}
use Rattle.seq_timer.specs.Steps.{Timer}
use Rattle.seq_timer.specs.Systems.{system_after}
use Rattle.seq_timer.specs.Tables.{IsLeading, in_context, is_kept_on}
use Rattle.seq_timer.specs.declared.context.Context.{Context}
use Rattle.seq_timer.specs.declared.system.SystemEntry.{SystemEntry}
use Rattle.base_row.specs.declared.view.Opening.{Opening}
use Rattle.hr_timers.specs.Calls.{LooksAt, StartsTimer, WasMoved, WasMoving, WasOn}
use Rattle.hr_timers.specs.Known.{HasMissed, KnownOfTimers, PassOf, timer_then}
use Rattle.hr_timers.specs.Ways.{Finds, standing_then}
use Rattle.hr_timers.specs.declared.answer.StartAnswer.{StartAnswer}
use Rattle.hr_timers.specs.declared.answer.StartAnswer.TheVariants as starts
use Rattle.hr_timers.specs.declared.once_answer.HereAnswer.{HereAnswer}
use Rattle.hr_timers.specs.declared.once_answer.HereAnswer.TheVariants as heres
use Rattle.hr_timers.specs.declared.once_answer.Miss.{Miss}
use Rattle.hr_timers.specs.declared.once_answer.Miss.TheVariants as misses
use Rattle.hr_timers.specs.declared.once_answer.NextAnswer.{NextAnswer}
use Rattle.hr_timers.specs.declared.once_answer.NextAnswer.TheVariants as nexts

-- ---- why a call did nothing

-- another pass took the base's lock in between, or it is taken no more: the pass has seen more and taken no lock, and nothing else has changed
pub record IsContended (p q : PassOf) (b : ℕ) : Type 0 where
  pub looks : LooksOn p.known q.known
  pub missed : HasMissed p q b
  pub takes : q.takes ≡ p.takes

-- why one try didn't get the lock of its timer's base
abbrev pub MissFits : Opening → PassOf → PassOf → ℕ → Miss → Type 0
MissFits o p q t (misses.Contended b) = IsContended p q b × WasOn o p.known q.known t b
MissFits o p q t (misses.Moving b) = WasMoving o p.known q.known t b
MissFits o p q t (misses.Moved a b) = WasMoved o p.known q.known t a b

-- the same under the lock of the base that the timer's word has named
abbrev pub HeldMissFits : Opening → PassOf → PassOf → ℕ → ℕ → Miss → Type 0
HeldMissFits o p q t base (misses.Contended b) = ⊥
HeldMissFits o p q t base (misses.Moving b) = WasMoving o p.known q.known t b
HeldMissFits o p q t base (misses.Moved a b) = (a ≡ base) × (a ≢ b) × WasOn o p.known q.known t b

-- what the last pass may be told: that the base's lock has been taken 2 ^ 63 - 1 times, and is taken no more
abbrev pub IsLastMiss : List ℕ → Miss → Type 0
IsLastMiss met (misses.Contended b) = 2 ^ 64 - 2 ≤ slice_index met b
IsLastMiss met (misses.Moving b) = ⊥
IsLastMiss met (misses.Moved a b) = ⊥

-- ---- the first timer of a queue

-- the first pair of the timer's queue in a base's content is the timer's
abbrev pub LeadsQueueIn : Content → Timer → ℕ → Type 0
LeadsQueueIn c s t = (expires : ℕ) × (front_on s.declared.context s.clock c ≡ Some (expires, t))

-- the timer is the first of its queue on its base after these entries, due or not
abbrev pub LeadsQueue : Opening → List SystemEntry → ℕ → Type 0
LeadsQueue o x t = LeadsQueueIn ((system_after o.timers x).bases (timer_then o x t).base).content (timer_then o x t) t

-- whether it is
abbrev pub SaysFirst : Opening → List SystemEntry → ℕ → Bool → Type 0
SaysFirst o x t first = MatchBool first (LeadsQueue o x t) (LeadsQueue o x t → ⊥)

-- a start says so of its timer, by all that its pass has then seen; a refused one says no
abbrev pub FirstFits : Opening → List SystemEntry → ℕ → StartAnswer → Bool → Type 0
FirstFits o x t (starts.Started was_armed generation asked outs placement) first = SaysFirst o x t first
FirstFits o x t (starts.Spent n) first = first ≡ false

-- ---- try_start

-- at a moment of a call that made no entry the timer was on this base, and a start moves it: to the base that was found on line for the one that is asked
-- for, or off this one, which was off line
pub record NeedsMove (o : Opening) (v w : KnownOfTimers) (t asked b : ℕ) : Type 0 where
  pub at : List SystemEntry
  pub looks : LooksAt v w at
  pub base : (timer_then o at t).base ≡ b
  pub moves : ((to : ℕ) × Finds o w.seen t v.seen (timer_then o at t).stamp asked to × (moves_first (timer_then o at t) to ≡ true))
      ⊎ IsSome (standing_then o at b).heir

-- what a start answers that neither waits nor moves its timer
abbrev pub HereFits : Opening → PassOf → PassOf → ℕ → Asked → HereAnswer → Type 0
HereFits o p q t asked (heres.Tried a first) = StartsTimer o p.known q.known t asked a × FirstFits o q.known.seen t a first
HereFits o p q t asked (heres.Elsewhere b) = NeedsMove o p.known q.known t asked.base b
HereFits o p q t asked (heres.Missed m) = MissFits o p q t m

-- the same under the lock of the timer's base
abbrev pub HeldHereFits : Opening → KnownOfTimers → KnownOfTimers → ℕ → Asked → HereAnswer → Type 0
HeldHereFits o v w t asked (heres.Tried a first) = StartsTimer o v w t asked a × FirstFits o w.seen t a first
HeldHereFits o v w t asked (heres.Elsewhere b) = NeedsMove o v w t asked.base b
HeldHereFits o v w t asked (heres.Missed m) = ⊥

-- ---- try_next

-- the timer leads the context's queue for the clock on the base, by all that the pass has then seen, and has this expiry
pub record LeadsOn (o : Opening) (w : KnownOfTimers) (x : Context) (base : ℕ) (clock : ClockId) (t expires : ℕ) : Type 0 where
  pub first : front_on x clock ((system_after o.timers w.seen).bases base).content ≡ Some (expires, t)
  pub leads : IsLeading (in_context x (timer_then o w.seen)) base clock t
  pub within : t < length o.timers
  pub context : (timer_then o w.seen t).declared.context ≡ x
  pub expires_at : expires ≡ (timer_then o w.seen t).expires

abbrev pub NextFits : Opening → PassOf → PassOf → Context → ℕ → ClockId → NextAnswer → Type 0
NextFits o p q x base clock (nexts.First t expires) = LooksOn p.known q.known × LeadsOn o q.known x base clock t expires
NextFits o p q x base clock nexts.NoneArmed =
    LooksOn p.known q.known × ((t : ℕ) → is_kept_on base clock (in_context x (timer_then o q.known.seen) t) ≡ false)
NextFits o p q x base clock nexts.Contended = IsContended p q base
