-- What calls on an object do to its timer.
use Rattle.std.proofs.Common.{refl, sym, ap, subst, IsSome, ◌≡◌, ◌+◌, ◌∙◌, ℕ, []}
use Rattle.ktime.specs.Readings.{ClockReading}
use Rattle.timer_setting.specs.declared.arming.Wanted.{Wanted}
use Rattle.std.proofs.lemmas.List.{append-nil}
use Rattle.pass_names.specs.SharedHistory.{LooksOn}
use Rattle.pass_names.proofs.Passes.{begins_trans}
use Rattle.base_row.specs.Plays.{RisesFrom}
use Rattle.seq_timer.specs.Steps.{Timer}
use Rattle.seq_timer.specs.declared.answer.CancelAnswer.{CancelAnswer}
use Rattle.seq_timer.specs.declared.answer.CancelAnswer.TheVariants as cancels
use Rattle.base_row.specs.declared.view.Opening.{Opening}
use Rattle.hr_timers.specs.declared.answer.StartAnswer.{StartAnswer}
use Rattle.hr_timers.specs.Known.{KnownOfTimers}
use Rattle.hr_timers.specs.Calls.{Cancels}
use Rattle.hr_timers.proofs.Moments.{timer_after}
use Rattle.base_row.specs.declared.log.Receipt.{Receipt}
use Rattle.base_row.specs.Logs.{LogOf, kept}
use Rattle.base_row.proofs.Logging.{all_kept}
use Rattle.hr_timers.specs.Logged.{CancelsBehind, RisesUnlessRunning, StartsLogged}
use Rattle.timer_objects.specs.Arming.{DisarmsInTurn, Starts, arm_of, asked_by}
use Rattle.timer_objects.specs.Turns.{BeginsTurn, turns_counter}
use Rattle.timer_objects.specs.Waiting.{IsHindered}

-- a timer whose function is running can't be disarmed, and the pass has only looked
pub running_hinders : (o : Opening) (v w : KnownOfTimers) (t g n : ℕ) → Cancels o v w t (cancels.Running g n) → IsHindered o w t
running_hinders o v w t g n c = subst IsSome (sym (ap (λ (u : Timer). u.running) (timer_after o v w t c.at [] c.made) ∙ c.fits.0)) refl

-- one whose function wasn't running was disarmed, in a turn that began
pub disarms_by : (o : Opening) (v w : KnownOfTimers) (t n counter : ℕ) (a : CancelAnswer) (log log' : LogOf Receipt) → counter ≡ turns_counter t
    → CancelsBehind kept o counter (n + n) v w t a log log' → ((g m : ℕ) → a ≡ cancels.Running g m → ⊥)
    → DisarmsInTurn o v w t n log.receipts log'.receipts
disarms_by o v w t n counter a log log' is c ended = record {
  begun = c.risen;
  begins = begins a c.rises ended;
  disarms = record {
    answer = a;
    cancelled = c.cancels.cancels;
    ended = ended;
    receipts = ap (λ (l : LogOf Receipt). l.receipts) c.cancels.logged ∙ all_kept log _;
  };
}
  where
    begun : LooksOn v c.risen × RisesFrom counter (n + n) v.seen c.risen.seen → BeginsTurn t n v c.risen
    begun rises = record { looks = rises.0; rises = subst (λ k. RisesFrom k (n + n) v.seen c.risen.seen) is rises.1 }

    begins : (a : CancelAnswer) → RisesUnlessRunning a counter (n + n) v c.risen → ((g m : ℕ) → a ≡ cancels.Running g m → ⊥) → BeginsTurn t n v c.risen
    begins (cancels.Idle m) rises ended = begun rises
    begins (cancels.Cancelled g m) rises ended = begun rises
    begins (cancels.Running g m) rises ended = absurd (ended g m refl)

-- a cancel that found the function running made nothing
pub running_looks : (o : Opening) (v w : KnownOfTimers) (t counter from g m : ℕ) (log log' : LogOf Receipt)
    → CancelsBehind kept o counter from v w t (cancels.Running g m) log log' → LooksOn v w × (log' ≡ log)
running_looks o v w t counter from g m log log' c =
    let made = c.cancels.cancels.made in
    let same = c.rises in (
      subst (λ (k : KnownOfTimers). LooksOn k w) same (record {
        seen = begins_trans made.from made.seen;
        mine = made.mine ∙ append-nil c.risen.mine;
        id = made.id;
        claims = c.cancels.cancels.claims;
      }),
      c.cancels.logged,
    )

-- a start that was answered so was made, with the receipts of its entries
pub starts_of : (o : Opening) (v w : KnownOfTimers) (t base : ℕ) (wanted : Wanted) (reading : ClockReading) (log log' : LogOf Receipt) (a : StartAnswer)
    → StartsLogged kept o v w t (asked_by wanted base reading) a log log'
    → Starts o v w t wanted base reading (arm_of a) log.receipts log'.receipts
starts_of o v w t base wanted reading log log' a l = record {
  answer = a;
  starts = l.starts;
  outcome = refl;
  receipts = ap (λ (k : LogOf Receipt). k.receipts) l.logged ∙ all_kept log _;
}
