-- Rows of timers as callers make them.
use Rattle.std.specs.Prelude.{◌≡◌, ◌<◌, ℕ, length}
use Rattle.seq_timer.specs.Tables.{timer_at}
use Rattle.base_row.specs.declared.view.Opening.{Opening}

-- no timer has a reach, so no base goes off line
abbrev pub HasNoReach : Opening → Type 0
HasNoReach o = (t : ℕ) → t < length o.timers → (timer_at o.timers t).terms.reach ≡ 0
