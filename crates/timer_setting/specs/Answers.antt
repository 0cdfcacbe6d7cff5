-- What can be said of an answer.
use Rattle.std.specs.Prelude.{ℕ, List, Option, Some, None}
use Rattle.std.specs.Int.{to_le_bytes, w64}
use Rattle.timer_setting.specs.declared.answers.ReadAnswer.{ReadAnswer}
use Rattle.timer_setting.specs.declared.answers.ReadAnswer.TheVariants as reads

-- the bytes that a read puts into its buffer
abbrev pub bytes_of : ReadAnswer → Option (List ℕ)
bytes_of (reads.Count total) = Some (to_le_bytes w64 total)
bytes_of reads.ShortBuffer = None
bytes_of (reads.Spent stamp) = None
bytes_of reads.Canceled = None
bytes_of reads.Again = None
