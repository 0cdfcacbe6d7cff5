use Rattle.std.proofs.Common.{ap, ◌∙◌}
use Rattle.pass_names.proofs.Names.{answers_split}
use Rattle.signal_queue.specs.declared.view.QueueView.{QueueView}
use Rattle.hr_timers.specs.Known.{KnownOfTimers}
use Rattle.shared_timer_uses.proofs.tests.of_ordered_signals.hand_over.Goals as goal

pub retire-requires-clause-answers : goal.retire-requires-clause-answers
retire-requires-clause-answers g c =
    let told = c.send_and_take-in_order.ensures in
    let split = c.split-other.ensures in
    answers_split c.args.pass.now.known.id _ _ (told.id.0 ∙ ap (λ (k : KnownOfTimers). k.id) split.splitter)
    (told.id.1 ∙ ap (λ (k : KnownOfTimers). k.id) split.new)

pub join-requires-clause-answers : goal.join-requires-clause-answers
join-requires-clause-answers g c =
    let told = c.send_and_take-in_order.ensures in
    let split = c.split-other_queue.ensures in
    answers_split c.args.queue.now.knows.pass.id _ _ (told.queue_id.0 ∙ ap (λ (k : QueueView). k.pass.id) split.splitter)
    (told.queue_id.1 ∙ ap (λ (k : QueueView). k.pass.id) split.new)
