-- The moments of the moves by which a base is taken off line.
use Rattle.std.specs.Prelude.{ℕ, List, [], ◌∷◌}
use Rattle.ktime.specs.Readings.{ClockReading}
use Rattle.seq_timer.specs.declared.system.SystemEntry.{SystemEntry}
use Rattle.base_row.specs.declared.log.Receipt.{Receipt}
use Rattle.base_row.specs.declared.view.Opening.{Opening}
use Rattle.hr_timers.specs.declared.answer.OfflineAnswer.{OfflineAnswer}
use Rattle.hr_timers.specs.declared.answer.OfflineAnswer.TheVariants as offs
use Rattle.hr_timers.specs.Known.{KnownOfTimers}
use Rattle.hr_timers.specs.Moves.{AreMoved, GoesOffline, OfflineFits, TakesOffline}

module _ {A : Type 0} (put : A → Receipt → A) (o : Opening) (base heir : ℕ) (reading : ClockReading) where
  -- the moment of each move
  abbrev pub moves_at : (v : KnownOfTimers) (ts : List ℕ) (w : KnownOfTimers) (s r : A) → AreMoved put o base heir reading v ts w s r
      → List (List SystemEntry)
  moves_at v [] w s r m = []
  moves_at v (t ∷ ts) w s r m = m.2.at ∷ moves_at m.0 ts w m.1 r m.3

  abbrev pub goes_at : (v w : KnownOfTimers) (budget : ℕ) (a : OfflineAnswer) (s r : A) → GoesOffline put o base heir reading v w budget a s r
      → List (List SystemEntry)
  goes_at v w budget a s r g = moves_at g.begins g.evacuates.timers g.evacuates.mid s g.evacuates.between g.evacuates.moves

  -- a call that is refused at once moves none
  abbrev pub offline_at : (v w : KnownOfTimers) (budget : ℕ) (a : OfflineAnswer) (s r : A) → OfflineFits put o base heir reading v w budget a s r
      → List (List SystemEntry)
  offline_at v w budget (offs.AlreadyOffline n) s r f = []
  offline_at v w budget (offs.HeirOffline n) s r f = []
  offline_at v w budget (offs.BaseSpent n) s r f = []
  offline_at v w budget (offs.Busy n t g) s r f = goes_at v w budget (offs.Busy n t g) s r f
  offline_at v w budget (offs.Offline n stamp) s r f = goes_at v w budget (offs.Offline n stamp) s r f
  offline_at v w budget (offs.More n) s r f = goes_at v w budget (offs.More n) s r f
  offline_at v w budget (offs.Spent n t stamp) s r f = goes_at v w budget (offs.Spent n t stamp) s r f

-- the same of a call without a sink
abbrev pub plain_offline_at : (o : Opening) (base heir : ℕ) (reading : ClockReading) (v w : KnownOfTimers) (budget : ℕ) (a : OfflineAnswer)
    → TakesOffline o base heir reading v w budget a → List (List SystemEntry)
plain_offline_at o base heir reading v w budget a f = offline_at {A = Unit {0}} (λ s receipt. s) o base heir reading v w budget a tt tt f
