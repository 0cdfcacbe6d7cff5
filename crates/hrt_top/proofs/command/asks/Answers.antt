use Rattle.std.proofs.Common.{◌≡◌, [], List, true, map, subst, ◌∙◌, string_bytes, inl, inr}
use Rattle.clap.specs.Words.{HasKind, Text, fault_of, is_simple, is_simple_and_free, subcommand_of, subcommand_rows_of}
use Rattle.hrt_top.specs.Command.{program}
use Rattle.hrt_top.proofs.Asking.{asks_by_matches, asks_nothing, program_is_free, program_is_simple}
use Rattle.hrt_top.proofs.command.asks.Goals as goal

pub returns-in-Ok-clause-asked : goal.returns-in-Ok-clause-asked
returns-in-Ok-clause-asked c =
    let words : List Text = map string_bytes c.args.words.now in
    let is = c.in_ok-command.ensures in
    let none : fault_of program words ≡ [] = subst (λ a. is_simple_and_free a ≡ true → fault_of a words ≡ []) is c.in-Ok.ensures.kinds program_is_free in
    let met : subcommand_rows_of c.in-Ok.matches ≡ subcommand_of program words =
    subst (λ a. is_simple a ≡ true → subcommand_rows_of c.in-Ok.matches ≡ subcommand_of a words) is
    (λ simple. (c.in-Ok.ensures.matches simple).1) program_is_simple in
    c.asked_of.ensures.asked ∙ asks_by_matches c.args.words.now (subcommand_rows_of c.in-Ok.matches) none met

pub returns-clause-asked : goal.returns-clause-asked
returns-clause-asked c =
    let words : List Text = map string_bytes c.args.words.now in
    let kinds : HasKind (fault_of program words) c.in-Err.error =
    subst (λ a. is_simple_and_free a ≡ true → HasKind (fault_of a words) c.in-Err.error) c.in_ok-command.ensures c.in-Err.ensures.kinds program_is_free in
    elim kinds [
      | inl spent ↦ absurd (c.in_default.not-OutOfMemory (c.kind.ensures ∙ spent))
      | inr among ↦ asks_nothing c.args.words.now _ among
    ]
