use Rattle.trace_check.proofs.Padding.{tells_after_put}
use Rattle.trace_check.proofs.places.note_claim.Goals as goal

pub returns : goal.returns
returns c = λ claims tells.
    let taken = c.take_queue-queue in
    tells_after_put c.put_queue.result c.args.queues.now taken.new.queues c.put_queue.new.queues c.args.claim claims c.queue_number-q.result taken.result c.note.new.self
    c.queue_number-q.ensures tells taken.ensures.taken taken.ensures.others c.in_ok-note.ensures c.put_queue.ensures.put c.put_queue.ensures.others
