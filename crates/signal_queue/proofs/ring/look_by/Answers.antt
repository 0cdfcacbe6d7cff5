use Rattle.signal_queue.proofs.Turned.{looked_by}
use Rattle.signal_queue.proofs.ring.look_by.Goals as goal

pub learn_as-requires-clause-rule : goal.learn_as-requires-clause-rule
learn_as-requires-clause-rule c = λ items views inv at. (views, c.lend.new.seat.id, inv, at)

pub returns-clause-rests : goal.returns-clause-rests
returns-clause-rests c =
    let told = c.learn_as.ensures in
    (looked_by c.requires.rests c.requires.end _ _ _ c.lend.ensures.lent told.queue.1 c.give_back-seat.ensures.rid told.rule.1).0

pub returns-clause-looks : goal.returns-clause-looks
returns-clause-looks c =
    let told = c.learn_as.ensures in
    (looked_by c.requires.rests c.requires.end _ _ _ c.lend.ensures.lent told.queue.1 c.give_back-seat.ensures.rid told.rule.1).1

pub returns-clause-pushes : goal.returns-clause-pushes
returns-clause-pushes c =
    let told = c.learn_as.ensures in
    (looked_by c.requires.rests c.requires.end _ _ _ c.lend.ensures.lent told.queue.1 c.give_back-seat.ensures.rid told.rule.1).2

pub returns-clause-pops : goal.returns-clause-pops
returns-clause-pops c =
    let told = c.learn_as.ensures in
    (looked_by c.requires.rests c.requires.end _ _ _ c.lend.ensures.lent told.queue.1 c.give_back-seat.ensures.rid told.rule.1).3
