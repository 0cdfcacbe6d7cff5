use Rattle.std.proofs.Common.{ap, ◌∙◌}
use Rattle.ktime.specs.declared.write.Write.{Write}
use Rattle.pass_names.specs.declared.Pass.{Pass}
use Rattle.pass_names.specs.Passes.{Looks, Retires}
use Rattle.pass_names.proofs.Passes.{goes_trans}
use Rattle.clock_cell.specs.declared.view.ClockView.{ClockView}
use Rattle.clock_cell.specs.Views.{writes}
use Rattle.clock_cell.proofs.Longer.{of_one}
use Rattle.clock_cell.proofs.shared.SharedClock.take_in.Goals as goal

retires_looks : (p o q r : Pass Write) → Retires p o q → Looks q r → Retires p o r
retires_looks p o q r retires looks = record {
  seen = goes_trans retires.seen looks.seen;
  heard = goes_trans retires.heard looks.seen;
  mine = looks.mine ∙ retires.mine;
  id = looks.id ∙ retires.id;
}

pub returns-clause-retires : goal.returns-clause-retires
returns-clause-retires g c =
    let read = c.read.ensures in
    let heard = of_one c.args.main.now.knows c.args.other.knows c.join.new.main.knows c.read.new.pass.knows
    (ap (λ (v : ClockView). v.heard) c.join.ensures.joined) read.heard in
    retires_looks _ _ _ _ (c.join.ensures.retires (record { all = writes c.read.new.pass.knows; first = heard.0; second = heard.1 })) read.looks
