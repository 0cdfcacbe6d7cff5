use Rattle.std.proofs.Common.{ap, ◌∙◌}
use Rattle.pass_names.proofs.Names.{answers_split}
use Rattle.counted_row.specs.declared.view.View.{View}
use Rattle.hr_timers.specs.Known.{KnownOfTimers}
use Rattle.object_uses.proofs.tests.stand.Stand.set_by_another.Goals as goal

pub hear_all-requires-clause-answers : goal.hear_all-requires-clause-answers
hear_all-requires-clause-answers g c =
    let split = c.split-objects_other.ensures in
    answers_split c.self.inside.objects_pass.knows.pass.id _ _ (ap (λ (v : View _ _ _). v.pass.id) split.splitter)
    (c.set_timer-answer.ensures.keeps.goes_on.id ∙ ap (λ (v : View _ _ _). v.pass.id) split.new)

pub retire-requires-clause-answers : goal.retire-requires-clause-answers
retire-requires-clause-answers g c =
    let split = c.split-other.ensures in
    answers_split c.self.inside.pass.known.id _ _ (ap (λ (k : KnownOfTimers). k.id) split.splitter)
    (c.set_timer-answer.ensures.keeps.keeps.id ∙ ap (λ (k : KnownOfTimers). k.id) split.new)
