use Rattle.std.proofs.Common.{sym, subst, ap, ◌∙◌}
use Rattle.seq_timer.specs.Bases.{BaseState, IsAbsent, in_half}
use Rattle.seq_timer.specs.Halves.{enqueued}
use Rattle.seq_timer.proofs.Bases.{absent_six, enqueued_six}
use Rattle.seq_timer.proofs.base.Base.enqueue.Goals as goal

pub add-requires-clause-absent : goal.add-requires-clause-absent
add-requires-clause-absent g c = absent_six c.args.id (g.Q.Six.SixQueues.queues c.self.inside.queues) c.self.inside.hard c.self.inside.soft c.self.invariant
    (subst (λ (b : BaseState). IsAbsent c.args.id b.content) (sym c.self.view_is) c.requires.absent)

pub returns : goal.returns
returns g c =
    let x = c.args.context in
    let content = enqueued_six c.args.expires c.args.id x c.args.clock c.queue_index.result (g.Q.Six.SixQueues.queues c.self.inside.queues)
    (g.Q.Six.SixQueues.queues c.add.new.self) c.self.inside.hard c.self.inside.soft c.self.invariant c.queue_index.ensures.number c.add.ensures.queues in
    (λ i. record { content = content i; room = c.add.ensures.bound i }) ∙ ap (in_half x (enqueued c.args.clock c.args.expires c.args.id)) c.self.view_is
