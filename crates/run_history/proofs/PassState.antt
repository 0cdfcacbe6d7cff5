-- All timers and bases as a pass of the timers' table had seen them are so in the run.
use Rattle.std.proofs.Common.{◌≡◌, List, ◌++◌, length, take, ap, ◌∙◌}
use Rattle.std.proofs.Math.Seq.{take-append_seam}
use Rattle.seq_timer.specs.Systems.{system_of}
use Rattle.seq_timer.specs.declared.system.SystemEntry.{SystemEntry}
use Rattle.script_text.specs.Declarations.{declareds_of, terms_of}
use Rattle.run_history.specs.Witnesses.{Witness, entries_in, system_along}

module _ (w : Witness) (seen later : List SystemEntry) (is : entries_in w ≡ seen ++ later) where
  -- all timers and bases after what was seen are those after so many entries of the order
  pub system_seen : system_along w (length seen) ≡ system_of (declareds_of w.script) (terms_of w.script) seen
  system_seen = ap (λ xs. system_of (declareds_of w.script) (terms_of w.script) xs) (ap (take (length seen)) is ∙ take-append_seam seen later)
