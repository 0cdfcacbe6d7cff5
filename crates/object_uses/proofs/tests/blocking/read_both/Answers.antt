use Rattle.object_uses.proofs.Sides.{retires_answers, retires_keeps}
use Rattle.object_uses.proofs.tests.blocking.read_both.Goals as goal

pub retire-requires-clause-answers : goal.retire-requires-clause-answers
retire-requires-clause-answers g c =
    let told = c.read_at_once-told.ensures in
    let split = c.split-other.ensures in
    retires_answers _ _ _ _ _ split.splitter split.new told.same told.keeps

pub returns : goal.returns
returns g c =
    let told = c.read_at_once-told.ensures in
    let split = c.split-other.ensures in
    record { keeps = retires_keeps _ _ _ _ _ split.splitter split.new told.same told.keeps _ c.retire.ensures }
