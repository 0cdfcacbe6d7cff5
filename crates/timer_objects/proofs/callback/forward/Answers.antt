use Rattle.std.proofs.Common.{ap}
use Rattle.base_row.specs.declared.log.Receipt.{Receipt}
use Rattle.base_row.specs.Logs.{LogOf}
use Rattle.timer_objects.proofs.callback.forward.Goals as goal

pub returns-in-Forwarded-clause-runs : goal.returns-in-Forwarded-clause-runs
returns-in-Forwarded-clause-runs g c =
    let told = c.in-Forwarded.ensures.forwards in
    record { answer = _; forwards = told.forwards; receipts = ap (λ (l : LogOf Receipt). l.receipts) told.logged }
