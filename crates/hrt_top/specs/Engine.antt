-- What the program answers to the bytes of a script, and to a number from which a script is made.
use Rattle.std.specs.Prelude.{◌≡◌, ◌⊎◌, ℕ, List}
use Rattle.script_text.specs.declared.refusal.Refused.{Refused}
use Rattle.script_text.specs.declared.script.Script.{Script}
use Rattle.record_text.specs.declared.record.RunRecord.{RunRecord}
use Rattle.run_history.specs.Fits.{Fits}
use Rattle.script_text.specs.Refusals.{IsRefused, refusal_text}
use Rattle.script_text.specs.Scripts.{Reads}
use Rattle.record_text.specs.Numbers.{HasMachineNumbers}
use Rattle.record_text.specs.Text.{text_of}
use Rattle.script_text.specs.Generator.{generated}
use Rattle.script_text.specs.Summary.{summary_of}
use Rattle.hrt_top.specs.declared.engine.Answer.{Answer}
use Rattle.hrt_top.specs.declared.engine.Answer.TheVariants.{Record, Refusal}

-- the bytes are a script
unfoldable pub IsScript : List ℕ → Type 0
IsScript bytes = (s : Script) × Reads bytes s

-- The text is that of a record that fits the script that these bytes read as. Each number of the record is one that a program can hold. No other record
-- that fits the script and has such numbers has this text (`the_text_of_a_record_that_fits_determines_it`).
pub record IsRecordText (bytes text : List ℕ) : Type 0 where
  pub script : Script
  pub reads : Reads bytes script
  pub run : RunRecord
  pub fits : Fits script run
  pub numbers : HasMachineNumbers run
  pub spelled : text ≡ text_of run

-- the text is the line that tells why these bytes are refused, which are no script
pub record IsRefusalText (bytes text : List ℕ) : Type 0 where
  pub refused : Refused
  pub cause : IsRefused bytes refused
  pub unread : IsScript bytes → ⊥
  pub spelled : text ≡ refusal_text refused

-- the text that answers these bytes
abbrev pub IsAnswerText : List ℕ → List ℕ → Type 0
IsAnswerText bytes text = IsRecordText bytes text ⊎ IsRefusalText bytes text

-- a record for a script, and else the refusal
abbrev pub Answers : List ℕ → Answer → Type 0
Answers bytes (Record text) = IsRecordText bytes text.items
Answers bytes (Refusal text) = IsRefusalText bytes text.items

-- the text is the summary of a record that fits the script that this seed makes
pub record IsSummaryText (seed lanes calls : ℕ) (text : List ℕ) : Type 0 where
  pub run : RunRecord
  pub fits : Fits (generated seed lanes calls) run
  pub spelled : text ≡ summary_of run
