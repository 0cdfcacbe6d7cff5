-- What two passes of timers have in common after one call, where one may have seen more of what others did; and the moment of each call.
use Rattle.std.specs.Prelude.{ℕ, ◌≡◌, Bool, true, false, List}
use Rattle.pass_names.specs.Passes.{Begins}
use Rattle.ktime.specs.Readings.{ClockReading}
use Rattle.seq_timer.specs.Events.{Asked}
use Rattle.seq_timer.specs.Systems.{entries_of}
use Rattle.seq_timer.specs.declared.context.Context.{Context}
use Rattle.seq_timer.specs.declared.system.SystemEntry.{SystemEntry}
use Rattle.base_row.specs.declared.view.Opening.{Opening}
use Rattle.hr_timers.specs.declared.answer.ClaimAnswer.{ClaimAnswer}
use Rattle.hr_timers.specs.declared.answer.ClaimAnswer.TheVariants as claimings
use Rattle.hr_timers.specs.declared.answer.NowAnswer.{NowAnswer}
use Rattle.hr_timers.specs.declared.answer.NowAnswer.TheVariants as nows
use Rattle.hr_timers.specs.declared.answer.StartAnswer.{StartAnswer}
use Rattle.hr_timers.specs.declared.answer.StartAnswer.TheVariants as starts
use Rattle.hr_timers.specs.Calls.{ClaimFits, NowFits, StartsTimer}
use Rattle.hr_timers.specs.Known.{KnownOfTimers, PassOf}
use Rattle.hr_timers.specs.Ways.{standing_then}

-- two passes have one name, the same places of their own and the same claims
pub record SameOwn (w w' : KnownOfTimers) : Type 0 where
  pub mine : w.mine ≡ w'.mine
  pub id : w.id ≡ w'.id
  pub claims : w.claims ≡ w'.claims

-- and they have seen the same entries of a timer
pub record SameOutcome (w w' : KnownOfTimers) (t : ℕ) : Type 0 where
  pub own : SameOwn w w'
  pub entries : entries_of t w.seen ≡ entries_of t w'.seen

-- between these two moments no base went off line or on line
abbrev pub BasesStay : Opening → List SystemEntry → List SystemEntry → Type 0
BasesStay o low high = (x : List SystemEntry) (base : ℕ) → Begins low x → Begins x high → (standing_then o x base).heir ≡ (standing_then o low base).heir

-- the moment of a start, the bases that it was sent to, and the one that it asked for last
pub record StartMoment : Type 0 where
  pub at : List SystemEntry
  pub sent : List ℕ
  pub last : ℕ

abbrev pub start_moment : (o : Opening) (v w : KnownOfTimers) (t : ℕ) (asked : Asked) (a : StartAnswer) → StartsTimer o v w t asked a → StartMoment
start_moment o v w t asked a s = record { at = s.at; sent = s.sent; last = s.last }

-- what a start answers, without the base that it asked for last
abbrev pub unasked : StartAnswer → StartAnswer
unasked (starts.Started was_armed generation asked outs placement) = starts.Started was_armed generation 0 outs placement
unasked (starts.Spent n) = starts.Spent n

-- the moment of a claim; that of a call which claims nothing is when it has seen all that it sees
abbrev pub claim_moment : (o : Opening) (v w : KnownOfTimers) (x : Context) (base : ℕ) (reading : ClockReading) (a : ClaimAnswer)
    → ClaimFits o v w x base reading a → List SystemEntry
claim_moment o v w x base reading (claimings.Claimed c) f = f.at
claim_moment o v w x base reading claimings.NoneDue f = w.seen
claim_moment o v w x base reading (claimings.BaseBusy t g) f = w.seen

-- the two moments of a cancel that waits for nobody: of all answers but Moved they are one
pub record NowMoment : Type 0 where
  pub at : List SystemEntry
  pub later : List SystemEntry

abbrev pub now_moment : (o : Opening) (p q : PassOf) (t : ℕ) (a : NowAnswer) → NowFits o p q t a → NowMoment
now_moment o p q t (nows.Tried a) f = record { at = f.at; later = f.at }
now_moment o p q t (nows.Contended b) f = record { at = f.1.at; later = f.1.at }
now_moment o p q t (nows.Moving b) f = record { at = f.at; later = f.at }
now_moment o p q t (nows.Moved a b) f = record { at = f.at; later = f.later }

-- whether it tells that another pass came between
abbrev pub is_contended : NowAnswer → Bool
is_contended (nows.Contended b) = true
is_contended a = false
