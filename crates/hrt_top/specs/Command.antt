-- The words of the command line: which they are, and what they ask for.
use Rattle.std.specs.Prelude.{◌≡◌, ◌≤◌, ◌⊎◌, ℕ, ◌==◌, ◌&&◌, nat_le, true, List, [], ◌∷◌, ◌++◌, map, String, Vec, string_bytes, bytes_eq, codes, Some, None, Ok, Err, if◌then◌else◌, option_and_then, length}
use Rattle.std.specs.Fmt.{decimal}
use Rattle.std.specs.Global.{Global}
use Rattle.std.specs.List.{AllByRecursion}
use Rattle.std.specs.IoError.{error_kind}
use Rattle.std.specs.Vec.Iter.{into_iter_items}
use Rattle.std.specs.declared.option.Option.{Option}
use Rattle.std.specs.declared.result.Result.{Result}
use Rattle.std.specs.declared.vec.IntoIter.{IntoIter}
use Rattle.std.specs.declared.io.Error.{Error}
use Rattle.std.specs.declared.io.ErrorKind.{ErrorKind}
use Rattle.std.specs.declared.io.ErrorKind.TheVariants as kinds
use Rattle.clap.specs.declared.builder.action.ArgAction.TheVariants.{Set}
use Rattle.clap.specs.Words.{App, Row, Rule, Text, fault_of, first_of, new_app, new_rule, subcommand_of, with_rule, with_subcommand}
use Rattle.script_text.specs.Reading.{number_in}
use Rattle.hrt_top.specs.declared.command.Request.{Request}
use Rattle.hrt_top.specs.declared.command.Request.TheVariants.{Run, Make}
use Rattle.hrt_top.specs.declared.status.Status.{Status}
use Rattle.hrt_top.specs.declared.status.Status.TheVariants as statuses

-- ---- the command

-- an option `--name` that must be given, once, with one value
abbrev pub required_option : Text → Rule
required_option name = record (new_rule name) { long = Some name; action = Some Set; required = true }

-- `hrt run`, or `hrt gen` with the options `--seed`, `--lanes` and `--calls`
abbrev pub program : App
program =
    let run = new_app (codes "run") in
    let make = with_rule (with_rule (with_rule (new_app (codes "gen")) (required_option (codes "seed"))) (required_option (codes "lanes")))
    (required_option (codes "calls")) in
    let hrt = new_app (codes "hrt") in
    with_subcommand (with_subcommand (record hrt { top = record hrt.top { subcommand_required = true } }) run.top) make.top

-- ---- what is asked for

-- the number of an option, where it is one within these bounds
abbrev pub option_number : Text → ℕ → ℕ → List Row → Option ℕ
option_number name least most rows =
    option_and_then (λ n. if nat_le least n && nat_le n most then Some n else None) (option_and_then number_in (first_of name rows))

-- the script that the options of `gen` ask for, where each is in its range
abbrev pub make_of : List Row → Option Request
make_of rows =
    option_and_then (λ seed. option_and_then (λ lanes. option_and_then (λ calls. Some (Make seed lanes calls)) (option_number (codes "calls") 0 4096 rows))
    (option_number (codes "lanes") 1 8 rows)) (option_number (codes "seed") 0 2147483647 rows)

-- what a subcommand with its options asks for
abbrev pub asked_of : Option (Text × List Row) → Option Request
asked_of None = None
asked_of (Some found) =
    if bytes_eq found.0 (codes "run") then Some Run
    else if bytes_eq found.0 (codes "gen") then make_of found.1
    else None

-- what words ask for, the program's name first: nothing where they don't fit the command
abbrev pub asked_by_texts : List Text → Option Request
asked_by_texts words = if length (fault_of program words) == 0 then asked_of (subcommand_of program words) else None

unfoldable pub request_in : List (String Global) → Option Request
request_in words = asked_by_texts (map string_bytes words)

-- the numbers of a script that is asked for are in their ranges
abbrev pub AsksInRange : Option Request → Type 0
AsksInRange (Some (Make seed lanes calls)) = (seed ≤ 2147483647) × ((1 ≤ lanes) × ((lanes ≤ 8) × (calls ≤ 4096)))
AsksInRange other = Unit

-- ---- the words of `gen`

-- the options of `gen`
pub data OptionName : Type 0 where
  Seed : OptionName
  Lanes : OptionName
  Calls : OptionName

abbrev pub name_text : OptionName → Text
name_text Seed = codes "seed"
name_text Lanes = codes "lanes"
name_text Calls = codes "calls"

-- two words for each pair: `--name`, and the number in decimal
abbrev pub option_words : List (OptionName × ℕ) → List Text
option_words [] = []
option_words (p ∷ ps) = (codes "--" ++ name_text p.0) ∷ decimal p.1 ∷ option_words ps

-- an option that is in none of these pairs
abbrev pub Lacks : OptionName → List (OptionName × ℕ) → Type 0
Lacks name ps = AllByRecursion (λ p. name ≡ p.0 → ⊥) ps

-- these three in any order
abbrev pub InAnyOrder : {X : Type 0} → X → X → X → List X → Type 0
InAnyOrder a b c xs =
    (xs ≡ a ∷ b ∷ c ∷ []) ⊎ ((xs ≡ a ∷ c ∷ b ∷ []) ⊎ ((xs ≡ b ∷ a ∷ c ∷ []) ⊎ ((xs ≡ b ∷ c ∷ a ∷ []) ⊎ ((xs ≡ c ∷ a ∷ b ∷ []) ⊎ (xs ≡ c ∷ b ∷ a ∷ [])))))

-- ---- where the words come from

-- the status where the process's arguments can't be read: out of memory, or one that isn't UTF-8
abbrev pub unread_status : ErrorKind → Status
unread_status kinds.OutOfMemory = statuses.OutOfMemory
unread_status kind = statuses.Usage

-- the words are the process's arguments; where they can't be read, or there is no memory to keep them, there is a status
abbrev pub AreWords : Result (IntoIter (String Global) Global) Error → Result (Vec (String Global) Global) Status → Type 0
AreWords (Ok args) (Ok words) = words.items ≡ into_iter_items args
AreWords (Ok args) (Err status) = status ≡ statuses.OutOfMemory
AreWords (Err fault) (Ok words) = ⊥
AreWords (Err fault) (Err status) = status ≡ unread_status (error_kind fault)
