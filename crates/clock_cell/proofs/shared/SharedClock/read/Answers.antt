use Rattle.std.proofs.Common.{ap, ◌∙◌}
use Rattle.clock_cell.specs.Words.{reading_in}
use Rattle.ktime.proofs.Writes.{shown_by, stamp_after}
use Rattle.clock_cell.proofs.shared.SharedClock.read.Goals as goal

pub reading_in-requires : goal.reading_in-requires
reading_in-requires g c =
    let sees = c.look.ensures.looked.sees in
    (shown_by _ _ (ap reading_in sees.shows) sees.rests.legal).timely

pub returns-clause-count : goal.returns-clause-count
returns-clause-count g c =
    let sees = c.look.ensures.looked.sees in
    ap (λ r. r.stamp) (c.reading_in.ensures ∙ ap reading_in sees.shows) ∙ stamp_after _
