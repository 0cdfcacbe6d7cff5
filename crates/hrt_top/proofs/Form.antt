-- Lemmas on the scripts that the program accepts.
use Rattle.std.proofs.Common.{◌≤◌, ℕ, List, length}
use Rattle.hrt_top.specs.Engine.{IsRecordText, IsScript}
use Rattle.hrt_top.specs.Transfer.{most_bytes}

-- a script is never longer than what is read of a source
pub IsScript-short : (bytes : List ℕ) → IsScript bytes → length bytes ≤ most_bytes
unfolding IsScript
IsScript-short bytes form = form.1.few

-- bytes that a record answers are a script
pub is_script : (bytes text : List ℕ) → IsRecordText bytes text → IsScript bytes
unfolding IsScript
is_script bytes text answer = (answer.script, answer.reads)
