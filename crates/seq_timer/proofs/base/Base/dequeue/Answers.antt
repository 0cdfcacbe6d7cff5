use Rattle.std.proofs.Common.{sym, subst, ap, ◌∙◌}
use Rattle.seq_timer.specs.Bases.{BaseState, IsQueuedIn, in_half}
use Rattle.seq_timer.specs.Contents.{half_of, with_half}
use Rattle.seq_timer.specs.Halves.{Half, dequeued}
use Rattle.seq_timer.proofs.Queues.{dequeued-unarmed}
use Rattle.seq_timer.proofs.Bases.{dequeued_six, in_half-same}
use Rattle.seq_timer.proofs.base.Base.dequeue.Goals as goal

pub returns-then-is_none : goal.returns-then-is_none
returns-then-is_none g c =
    let x = c.args.context in
    let b : BaseState = c.args.self.now in
    sym (in_half-same x b) ∙ ap (λ (h : Half). record b { content = with_half x h b.content })
    (dequeued-unarmed c.args.id c.args.armed c.args.clock (half_of x b.content) c.requires.queued c.if-is_none.ensures)

pub returns : goal.returns
returns g c =
    let x = c.args.context in
    let queued = subst (λ (b : BaseState). IsQueuedIn c.args.id c.args.armed c.args.clock (half_of x b.content)) (sym c.self.view_is) c.requires.queued in
    let content = dequeued_six c.args.id x c.args.armed c.args.clock c.queue_index.result (g.Q.Six.SixQueues.queues c.self.inside.queues)
    (g.Q.Six.SixQueues.queues c.erase.new.self) c.self.inside.hard c.self.inside.soft c.self.invariant c.queue_index.ensures.number
    c.erase.ensures.queues queued in
    (λ i. record { content = content i; room = c.erase.ensures.bound i }) ∙ ap (in_half x (dequeued c.args.id)) c.self.view_is
