use Rattle.std.proofs.Common.{sym, ◌∙◌}
use Rattle.signal_queue.proofs.Turned.{popped_by, pops_counted, pops_id}
use Rattle.signal_queue.proofs.ring.pop_by.Goals as goal

pub returns-clause-rests : goal.returns-clause-rests
returns-clause-rests g c =
    let end = c.requires.end in
    (popped_by c.requires.rests end _ _ _ _ c.lend.ensures.lent c.give_back-seat.ensures.rid end.pops c.pop_lent-answer.ensures.pops).1

pub returns-clause-pops : goal.returns-clause-pops
returns-clause-pops g c =
    let end = c.requires.end in
    (popped_by c.requires.rests end _ _ _ _ c.lend.ensures.lent c.give_back-seat.ensures.rid end.pops c.pop_lent-answer.ensures.pops).0

pub returns-clause-id : goal.returns-clause-id
returns-clause-id g c =
    let end = c.requires.end in
    pops_id _ _ _ (popped_by c.requires.rests end _ _ _ _ c.lend.ensures.lent c.give_back-seat.ensures.rid end.pops c.pop_lent-answer.ensures.pops).0

pub returns-clause-counts : goal.returns-clause-counts
returns-clause-counts g c =
    let end = c.requires.end in
    let counted = pops_counted c.requires.rests end _ _ _ _ c.lend.ensures.lent c.give_back-seat.ensures.rid end.pops c.pop_lent-answer.ensures.pops in
    record { more = c.count_of_pops-count.ensures; all = counted.1 ∙ sym c.count_of_pops-count.ensures }
