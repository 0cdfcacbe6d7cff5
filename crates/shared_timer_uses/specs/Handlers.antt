-- What the handlers' functions do.
use Rattle.std.specs.Prelude.{ℕ, ◌≡◌, [], ◌∷◌, List, Option, Some, None}
use Rattle.ktime.specs.Readings.{ClockReading}
use Rattle.seq_timer.specs.declared.event.EventBy.TheVariants as events
use Rattle.seq_timer.specs.declared.event.Reply.TheVariants as replies
use Rattle.seq_timer.specs.declared.system.SystemEntry.{SystemEntry}
use Rattle.hr_timers.specs.declared.numbers.ClaimNumbers.{ClaimNumbers}
use Rattle.hr_timers.specs.Known.{KnownOfTimers, MadeAt}
use Rattle.hr_timers.specs.declared.handler.Restart.{Restart}
use Rattle.hr_timers.specs.declared.handler.Restart.TheVariants as restarts
use Rattle.hr_timers.specs.Handlers.{Meaning}
use Rattle.shared_timer_uses.specs.declared.once.OneShot.{OneShot}
use Rattle.shared_timer_uses.specs.declared.periodic.Periodic.{Periodic}
use Rattle.shared_timer_uses.specs.declared.periodic.Tick.{Tick}

-- it notes the timer, calls none, and asks for no restart
abbrev pub one_shot : Meaning OneShot
one_shot = record {
  did = λ o h h' k k' c reading restart. (h'.ran ≡ Some c.timer) × (k' ≡ k) × (restart ≡ restarts.Stop);
  ready = λ h. 18446744073709551616;
  timers = λ h. 65536;
  bases = λ h. 0;
  counters = λ h. 0;
}

-- it has forwarded its timer, and asks for a restart; or it has done neither
abbrev pub ForwardsBy : ℕ → Option Tick → KnownOfTimers → KnownOfTimers → ClaimNumbers → ClockReading → Restart → Type 0
ForwardsBy interval None k k' c reading restart = restart ≡ restarts.Stop
ForwardsBy interval (Some tick) k k' c reading restart = (restart ≡ restarts.Again) × (tick.timer ≡ c.timer)
    × ((at : List SystemEntry)
    × MadeAt k k' c.timer at (record { event = events.Forward reading interval; reply = replies.Forward tick.moved } ∷ []))

abbrev pub periodic : Meaning Periodic
periodic = record {
  did = λ o h h' k k' c reading restart. (h'.interval ≡ h.interval) × ForwardsBy h.interval h'.tick k k' c reading restart;
  ready = λ h. 18446744073709551616;
  timers = λ h. 65536;
  bases = λ h. 0;
  counters = λ h. 0;
}
