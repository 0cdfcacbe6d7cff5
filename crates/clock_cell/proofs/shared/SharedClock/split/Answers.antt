use Rattle.std.proofs.Common.{rules, ap}
use Rattle.pass_names.proofs.Names.{answers_split}
use Rattle.clock_cell.proofs.Splitting.{splits}
use Rattle.clock_cell.proofs.shared.SharedClock.split.Goals as goal

pub split_pass-requires : goal.split_pass-requires
split_pass-requires c = (search rules, (search rules, (search rules, splits _ _ c.pass.invariant.live)))

pub returns-clause-answers : goal.returns-clause-answers
returns-clause-answers c =
    let heard = c.split_pass.ensures in
    answers_split _ _ _ (ap (λ v. v.pass.id) heard.kept.1) (ap (λ v. v.pass.id) heard.given.1)
