use Rattle.std.proofs.Common.{rules, ap, ◌∙◌}
use Rattle.clock_cell.specs.Words.{cell_words}
use Rattle.clock_cell.proofs.Opening.{opens}
use Rattle.clock_cell.proofs.shared.SharedClock.make.Goals as goal

pub ruled-requires : goal.ruled-requires
ruled-requires c = (search rules, (search rules, rw (c.cell_words.ensures ∙ ap cell_words (c.reading-opening.ensures ∙ c.new.ensures)) opens))
