use Rattle.std.proofs.Common.{ap, ◌∙◌}
use Rattle.pass_names.proofs.Names.{answers_split}
use Rattle.hr_timers.specs.Known.{KnownOfTimers}
use Rattle.object_uses.proofs.tests.stand.Stand.set_beside.Goals as goal

pub retire-requires-clause-answers : goal.retire-requires-clause-answers
retire-requires-clause-answers g c =
    let told = c.run_and_set-told.ensures in
    let split = c.split-other.ensures in
    answers_split c.self.inside.pass.known.id _ _ (told.runner.keeps.id ∙ ap (λ (k : KnownOfTimers). k.id) split.splitter)
    (told.keeps.id ∙ ap (λ (k : KnownOfTimers). k.id) split.new)
