-- A timer at the moments of a call, and after the entries that the call made.
use Rattle.std.proofs.Common.{◌≡◌, ℕ, ◌+◌, ◌≤◌, List, [], ◌∷◌, ◌++◌, length, refl, ap, sym, ◌∙◌, arith, length-append}
use Rattle.pass_names.specs.Passes.{Begins}
use Rattle.seq_timer.specs.Events.{Event}
use Rattle.seq_timer.specs.declared.system.SystemEntry.{SystemEntry}
use Rattle.seq_timer.specs.Histories as seq
use Rattle.seq_timer.specs.Steps.{Timer, after}
use Rattle.seq_timer.specs.Systems.{entries_of, first_system}
use Rattle.seq_timer.specs.Tables.{timer_at}
use Rattle.seq_timer.proofs.Contents.{declared-after_all}
use Rattle.seq_timer.proofs.Limits.{stamp-after_all}
use Rattle.seq_timer.proofs.Systems.{after_entries-entries_of}
use Rattle.seq_timer.specs.Calls.{step_all, entries_along}
use Rattle.base_row.specs.declared.view.Opening.{Opening}
use Rattle.base_row.proofs.Begun.{entries_of-begins}
use Rattle.hr_timers.specs.Known.{KnownOfTimers, MadeAt, timer_then}

after_all-append : (t : Timer) (xs ys : List seq.Entry) → seq.after_all t (xs ++ ys) ≡ seq.after_all (seq.after_all t xs) ys
after_all-append t [] ys = refl
after_all-append t (x ∷ xs) ys = after_all-append (after t x.event) xs ys

pub timer_own : (o : Opening) (x : List SystemEntry) (t : ℕ) → timer_then o x t ≡ seq.after_all (timer_at o.timers t) (entries_of t x)
timer_own o x t = after_entries-entries_of (first_system o.timers) t x

-- the timer is then as the call's entries have left it
pub timer_after : (o : Opening) (v w : KnownOfTimers) (t : ℕ) (x : List SystemEntry) (es : List seq.Entry) → MadeAt v w t x es
    → timer_then o w.seen t ≡ seq.after_all (timer_then o x t) es
timer_after o v w t x es made =
    timer_own o w.seen t ∙ (ap (seq.after_all (timer_at o.timers t)) made.own ∙ (after_all-append (timer_at o.timers t) (entries_of t x) es
    ∙ ap (λ (s : Timer). seq.after_all s es) (sym (timer_own o x t))))

pub along : (t : Timer) (es : List Event) → seq.after_all t (entries_along t es) ≡ step_all t es
along t [] = refl
along t (e ∷ es) = along (after t e) es

-- its stamp has grown by their number
pub stamp_made : (o : Opening) (v w : KnownOfTimers) (t : ℕ) (x : List SystemEntry) (es : List seq.Entry) → MadeAt v w t x es
    → (timer_then o w.seen t).stamp ≡ (timer_then o x t).stamp + length es
stamp_made o v w t x es made = ap (λ (s : Timer). s.stamp) (timer_after o v w t x es made) ∙ stamp-after_all (timer_then o x t) es

-- it is the number of the timer's entries, behind that which it began with
pub stamp_then : (o : Opening) (x : List SystemEntry) (t : ℕ) → (timer_then o x t).stamp ≡ (timer_at o.timers t).stamp + length (entries_of t x)
stamp_then o x t = ap (λ (s : Timer). s.stamp) (timer_own o x t) ∙ stamp-after_all (timer_at o.timers t) (entries_of t x)

-- so it never falls
pub stamp_rises : (o : Opening) (x y : List SystemEntry) (t : ℕ) → Begins x y → (timer_then o x t).stamp ≤ (timer_then o y t).stamp
stamp_rises o x y t begins =
    let own = entries_of-begins t x y begins in
    omega (arith, stamp_then o x t, stamp_then o y t, ap length own.whole, length-append (entries_of t x) own.rest)

-- a timer keeps the clock that it was declared on
pub declared_kept : (o : Opening) (x : List SystemEntry) (t : ℕ) → (timer_then o x t).declared ≡ (timer_at o.timers t).declared
declared_kept o x t = ap (λ (s : Timer). s.declared) (timer_own o x t) ∙ declared-after_all (timer_at o.timers t) (entries_of t x)
