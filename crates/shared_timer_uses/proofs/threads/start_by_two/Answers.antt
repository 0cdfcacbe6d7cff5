use Rattle.std.proofs.Common.{ap, ◌∙◌}
use Rattle.pass_names.specs.Counts.{count}
use Rattle.pass_names.specs.Passes.{is_place}
use Rattle.pass_names.proofs.Passes.{count_joined}
use Rattle.pass_names.proofs.Names.{answers_split}
use Rattle.hr_timers.specs.Known.{KnownOfTimers}
use Rattle.shared_timer_uses.proofs.threads.start_by_two.Goals as goal

pub retire-requires-clause-answers : goal.retire-requires-clause-answers
retire-requires-clause-answers g c =
    let made = c.start_both-made.ensures.made in
    let split = c.split-other.ensures in
    answers_split c.args.main.now.known.id _ _ (made.0.keeps.id ∙ ap (λ (k : KnownOfTimers). k.id) split.splitter)
    (made.1.keeps.id ∙ ap (λ (k : KnownOfTimers). k.id) split.new)

pub returns-clause-elsewhere : goal.returns-clause-elsewhere
returns-clause-elsewhere g c = λ i k apart.
    let made = c.start_both-made.ensures.made in
    count_joined i k _ _ _ _ c.retire.ensures.retires.mine
    (made.0.elsewhere i k apart ∙ ap (λ (v : KnownOfTimers). count (is_place i k) v.mine) c.split-other.ensures.splitter)
    (made.1.elsewhere i k apart ∙ ap (λ (v : KnownOfTimers). count (is_place i k) v.mine) c.split-other.ensures.new)
