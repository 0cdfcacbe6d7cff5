use Rattle.std.proofs.Common.{ap}
use Rattle.pass_names.proofs.Names.{answers_split}
use Rattle.signal_queue.proofs.Splitting.{splits}
use Rattle.signal_queue.proofs.signals.Signals.split.Goals as goal

pub another-requires-clause-rule : goal.another-requires-clause-rule
another-requires-clause-rule c = splits _ _ c.pass.invariant.0.live

pub returns-clause-answers : goal.returns-clause-answers
returns-clause-answers c =
    let told = c.another.ensures.rule in
    answers_split _ _ _ (ap (λ v. v.pass.id) told.0) (ap (λ v. v.pass.id) told.1)
