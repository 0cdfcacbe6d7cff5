use Rattle.std.proofs.Common.{rules, ap, ◌∙◌}
use Rattle.clock_cell.specs.Words.{cell_words}
use Rattle.clock_cell.proofs.Looking.{enters}
use Rattle.clock_cell.proofs.steps.enter.Goals as goal

pub compare_exchange_as-requires : goal.compare_exchange_as-requires
compare_exchange_as-requires g c = (
  search rules,
  (
    search rules,
    (
      search rules,
      rw
          (c.cell_words.ensures, c.cell_words-2.ensures ∙ ap cell_words c.requires.after, c.requires.asked)
          (enters _ _ c.requires.live c.args.seen.now c.args.write c.requires.accepted),
    ),
  ),
)
