use Rattle.std.proofs.Common.{ap, ◌∙◌}
use Rattle.pass_names.specs.Counts.{count}
use Rattle.pass_names.specs.Passes.{is_place}
use Rattle.pass_names.proofs.Passes.{count_joined}
use Rattle.table_uses.proofs.rows.threads.count_by_two.Goals as goal

pub returns-clause-elsewhere : goal.returns-clause-elsewhere
returns-clause-elsewhere g c = λ i k apart.
    let made = c.count_both-made.ensures.made in
    count_joined i k _ _ _ _ c.join.ensures.retires.mine
    (made.0.elsewhere i k apart ∙ ap (λ v. count (is_place i k) v.pass.mine) c.split-other.ensures.splitter)
    (made.1.elsewhere i k apart ∙ ap (λ v. count (is_place i k) v.pass.mine) c.split-other.ensures.new)
