-- What the words of the command line ask for.
use Rattle.std.specs.Prelude.{List, [], ◌∷◌, String, string_bytes, bytes_eq, codes, Option, Some, None, if◌then◌else◌}
use Rattle.std.specs.Global.{Global}
use Rattle.trace_top.specs.declared.command.Asked.{Asked}
use Rattle.trace_top.specs.declared.command.Asked.TheVariants as asks

-- the program's name alone, or with the word `--summary`
abbrev pub asked_of_words : List (String Global) → Option Asked
asked_of_words (name ∷ []) = Some asks.Line
asked_of_words (name ∷ word ∷ []) = if bytes_eq (string_bytes word) (codes "--summary") then Some asks.Summary else None
asked_of_words words = None
