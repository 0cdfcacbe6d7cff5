-- What an answer to one line is, and the events of lines in two parts.
use Rattle.std.proofs.Common.{◌≡◌, ◌++◌, ◌∷◌, [], ℕ, Option, Some, None, Result, Ok, Err, List, refl}
use Rattle.std.specs.Prelude.{option_map}
use Rattle.trace_text.specs.declared.event.KernelEvent.{KernelEvent}
use Rattle.trace_text.specs.declared.unreadable.Unreadable.{Unreadable}
use Rattle.trace_check.specs.declared.misfit.Misfit.{Misfit}
use Rattle.trace_check.specs.Knowledge.{Knowledge, misfit}
use Rattle.trace_read.specs.declared.verdict.Verdict.{Verdict}
use Rattle.trace_read.specs.declared.verdict.Verdict.TheVariants as verdicts
use Rattle.trace_read.specs.Lines.{line_verdict}
use Rattle.trace_read.specs.Readers.{IsOfLine, IsTallied}
use Rattle.trace_read.specs.declared.tally.Tally.{Tally}
use Rattle.trace_read.specs.Tallies.{onto_past}

refused_of_line : (n : ℕ) (o : Option Misfit) (v : Verdict) → option_map (λ cause. verdicts.Refused n cause) o ≡ Some v → IsOfLine v
refused_of_line n (Some cause) (verdicts.Refused line what) is = tt
refused_of_line n (Some cause) (verdicts.Unreadable line what) is = tt
refused_of_line n (Some cause) (verdicts.Fits events) is = absurd cc
refused_of_line n (Some cause) verdicts.NoEvents is = absurd cc
refused_of_line n None v is = absurd cc

-- an answer to a line is of a line
pub of_line : (n : ℕ) (k : Knowledge) (r : Result (Option KernelEvent) Unreadable) (v : Verdict) → line_verdict n k r ≡ Some v → IsOfLine v
of_line n k (Ok (Some event)) v is = refused_of_line n (misfit k event) v is
of_line n k (Ok None) v is = absurd cc
of_line n k (Err what) (verdicts.Refused line cause) is = tt
of_line n k (Err what) (verdicts.Unreadable line cause) is = tt
of_line n k (Err what) (verdicts.Fits events) is = absurd cc
of_line n k (Err what) verdicts.NoEvents is = absurd cc

-- events in two parts are put before the past one part behind the other
pub onto_both : (past es fs : List KernelEvent) → onto_past past (es ++ fs) ≡ onto_past (onto_past past es) fs
onto_both past [] fs = refl
onto_both past (e ∷ es) fs = onto_both (e ∷ past) es fs

-- an answer that is of a line says nothing of numbers
pub tallied_of_line : (v : Verdict) (t : Tally) (past : List KernelEvent) → IsOfLine v → IsTallied v t past
tallied_of_line (verdicts.Fits events) t past of = absurd of
tallied_of_line verdicts.NoEvents t past of = absurd of
tallied_of_line (verdicts.Refused line cause) t past of = tt
tallied_of_line (verdicts.Unreadable line what) t past of = tt
