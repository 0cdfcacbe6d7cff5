-- Lemmas on the script that is made from a number, and on the summary of its record.
use Rattle.std.proofs.Common.{◌≡◌, ℕ, List, Ok, Err, subst}
use Rattle.record_text.specs.declared.record.RunRecord.{RunRecord}
use Rattle.run_history.specs.Fits.{Fits}
use Rattle.script_text.specs.Generator.{generated}
use Rattle.script_text.specs.Refusals.{Gives}
use Rattle.script_text.specs.Summary.{summary_of}
use Rattle.script_text.specs.declared.refusal.ParseError.TheVariants as errors
use Rattle.script_text.specs.declared.refusal.Refused.{Refused}
use Rattle.script_text.specs.declared.script.Script.{Script}
use Rattle.hrt_top.specs.Engine.{IsSummaryText}

-- what reads as a script isn't refused
pub not_refused : (r : Refused) (s : Script) → Gives (Err (errors.Refused r)) (Ok s) → ⊥
not_refused r s e = absurd cc

-- the script that is found is the one that the bytes read as
pub found_is : (found s : Script) → Gives (Ok found) (Ok s) → found ≡ s
found_is found s e = cc

-- the summary of a record that fits the script that was made
pub summed : (seed lanes calls : ℕ) (found : Script) (run : RunRecord) (text : List ℕ) → Gives (Ok found) (Ok (generated seed lanes calls))
    → Fits found run → text ≡ summary_of run → IsSummaryText seed lanes calls text
summed seed lanes calls found run text is fits spelled = record {
  run = run;
  fits = subst (λ s. Fits s run) (found_is found (generated seed lanes calls) is) fits;
  spelled = spelled;
}
