use Rattle.std.proofs.Common.{sym, subst}
use Rattle.seq_timer.specs.Bases.{BaseState, IsAbsent}
use Rattle.seq_timer.proofs.Bases.{dequeued-absent}
use Rattle.seq_timer.proofs.base.Base.requeue.Goals as goal

pub enqueue-requires-clause-absent : goal.enqueue-requires-clause-absent
enqueue-requires-clause-absent g c = subst (λ (b : BaseState). IsAbsent c.args.id b.content) (sym c.dequeue.ensures)
    (dequeued-absent c.args.id c.args.context c.args.self.now c.requires.queued.other)
