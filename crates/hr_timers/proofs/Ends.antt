-- A history that a pass has seen has at most so many entries of a timer.
use Rattle.std.proofs.Common.{ℕ, ◌≤◌, ◌<◌, ◌^◌, ◌&&◌, ◌||◌, List, length, is_some, arith, ap}
use Rattle.seq_timer.specs.declared.system.SystemEntry.{SystemEntry}
use Rattle.std.proofs.lemmas.Bool.Decides.{nat_tests}
use Rattle.seq_timer.specs.Steps.{Timer, most_entries}
use Rattle.seq_timer.specs.Tables.{timer_at}
use Rattle.seq_timer.specs.Systems.{AreSystemSteps, IsFresh, entries_of, first_system}
use Rattle.seq_timer.proofs.Agreement.{parts}
use Rattle.seq_timer.proofs.Effects.{HasLeft}
use Rattle.seq_timer.proofs.Limits.{few_entries, small_entries}
use Rattle.base_row.specs.declared.view.Opening.{Opening}
use Rattle.base_row.specs.Calls.{AreFresh}
use Rattle.hr_timers.specs.Known.{timer_then}
use Rattle.hr_timers.proofs.Moments.{stamp_then}

fresh_left : (t : Timer) → IsFresh t → HasLeft t
fresh_left t fresh = record {
  few = grind (arith, nat_tests, fresh.armed, fresh.running, fresh.still, fresh.stamp);
  apart = ap (λ m. m && (is_some t.armed || is_some t.running)) fresh.still;
}

module _ (o : Opening) (fresh : AreFresh o.timers) (x : List SystemEntry) (all : AreSystemSteps o.bases (length o.timers) (first_system o.timers) x)
    (t : ℕ) where
  pub ends_few : (timer_then o x t).stamp ≤ most_entries (timer_at o.timers t).terms
  ends_few = omega (
    arith,
    stamp_then o x t,
    few_entries (timer_at o.timers t) (entries_of t x)
        (parts o.bases (length o.timers) (first_system o.timers) x all t) (fresh_left (timer_at o.timers t) (fresh.each t)),
  )

  pub ends_small : (timer_then o x t).stamp < 2 ^ 48
  ends_small = small_entries (timer_at o.timers t).terms (timer_then o x t).stamp (fresh.room t) ends_few
