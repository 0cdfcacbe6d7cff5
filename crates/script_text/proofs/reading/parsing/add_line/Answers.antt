use Rattle.std.proofs.Common.{sym, ◌∙◌, subst}
use Rattle.script_text.specs.Drafts.{IsWithinLimits}
use Rattle.script_text.proofs.Checks.{accepts, short_numbers}
use Rattle.script_text.proofs.Room.{room_kept}
use Rattle.script_text.proofs.reading.parsing.add_line.Goals as goal

pub add-requires-clause-short : goal.add-requires-clause-short
add-requires-clause-short c =
    short_numbers c.args.draft.now c.requires _ _ (accepts c.args.draft.now c.read_line.new.line (sym c.check_line.ensures ∙ c.in_default-check_line.is)).values

pub returns-clause-room : goal.returns-clause-room
returns-clause-room c =
    subst (λ d. IsWithinLimits d) (sym c.in_ok-add.ensures)
    (room_kept c.args.draft.now c.read_line.new.line (sym c.check_line.ensures ∙ c.in_default-check_line.is) c.requires)
