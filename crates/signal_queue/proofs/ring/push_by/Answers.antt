use Rattle.std.proofs.Common.{sym, ◌∙◌}
use Rattle.signal_queue.proofs.Turned.{pushed_by, pushes_counted, pushes_id}
use Rattle.signal_queue.proofs.ring.push_by.Goals as goal

pub returns-clause-rests : goal.returns-clause-rests
returns-clause-rests g c =
    let end = c.requires.end in
    (pushed_by c.requires.rests end _ _ _ _ _ _ c.lend.ensures.lent c.give_back-seat.ensures.rid end.pushes c.requires.room c.push_lent-answer.ensures.pushes).1

pub returns-clause-pushes : goal.returns-clause-pushes
returns-clause-pushes g c =
    let end = c.requires.end in
    (pushed_by c.requires.rests end _ _ _ _ _ _ c.lend.ensures.lent c.give_back-seat.ensures.rid end.pushes c.requires.room c.push_lent-answer.ensures.pushes).0

pub returns-clause-id : goal.returns-clause-id
returns-clause-id g c =
    let end = c.requires.end in
    pushes_id _ _ _ _ _
    (pushed_by c.requires.rests end _ _ _ _ _ _ c.lend.ensures.lent c.give_back-seat.ensures.rid end.pushes c.requires.room c.push_lent-answer.ensures.pushes).0

pub returns-clause-counts : goal.returns-clause-counts
returns-clause-counts g c =
    let end = c.requires.end in
    let counted = pushes_counted c.requires.rests end _ _ _ _ _ _ c.lend.ensures.lent c.give_back-seat.ensures.rid end.pushes c.push_lent-answer.ensures.pushes in
    record { more = c.count_of_pushes-count.ensures; all = counted.1 ∙ sym c.count_of_pushes-count.ensures }
