-- What was seen of a history is itself a history, and of each timer the beginning of its own.
use Rattle.std.proofs.Common.{◌≡◌, ℕ, List, ap, sym, ◌∙◌, subst, arith}
use Rattle.pass_names.specs.Passes.{Begins}
use Rattle.pass_names.proofs.Passes.{begins_whole}
use Rattle.seq_timer.specs.declared.system.SystemEntry.{SystemEntry}
use Rattle.seq_timer.specs.Steps.{Timer}
use Rattle.seq_timer.specs.Systems.{System, AreSystemSteps, after_entries, entries_of}
use Rattle.seq_timer.proofs.Limits.{stamp-after_all}
use Rattle.seq_timer.proofs.Systems.{after_entries-entries_of, entries_of-append, steps_part}

pub steps_begins : (bases count : ℕ) (w : System) (part log : List SystemEntry) → Begins part log → AreSystemSteps bases count w log
    → AreSystemSteps bases count w part
steps_begins bases count w part log b all = steps_part bases count w part b.rest (subst (λ l. AreSystemSteps bases count w l) b.whole all)

pub entries_of-begins : (t : ℕ) (part log : List SystemEntry) → Begins part log → Begins (entries_of t part) (entries_of t log)
entries_of-begins t part log b = record { rest = entries_of t b.rest; whole = ap (entries_of t) b.whole ∙ entries_of-append t part b.rest }

-- a timer that is the same after a longer history has no entry more
pub same_own : (w : System) (t : ℕ) (part log : List SystemEntry) → Begins part log
    → (after_entries w log).timers t ≡ (after_entries w part).timers t → entries_of t log ≡ entries_of t part
same_own w t part log b same =
    sym (begins_whole (entries_of-begins t part log b)
    (omega (
      arith,
      ap (λ (x : Timer). x.stamp) (sym (after_entries-entries_of w t log)
          ∙ (same ∙ after_entries-entries_of w t part)),
      stamp-after_all (w.timers t) (entries_of t log),
      stamp-after_all (w.timers t) (entries_of t part),
    )))
