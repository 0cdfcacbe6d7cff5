use Rattle.std.proofs.Common.{sym, subst}
use Rattle.base_row.specs.declared.view.Opening.{Opening}
use Rattle.hr_timers.specs.Known.{IsEvacuable}
use Rattle.hr_timers.proofs.Shifts.{evacuable_on}
use Rattle.hr_timers.proofs.timers.Timers.make_evacuable.Goals as goal

pub returns-clause-evacuable : goal.returns-clause-evacuable
returns-clause-evacuable c = subst (λ (o : Opening). IsEvacuable o) (sym c.in_ok-made.ensures.about)
    (evacuable_on c.args.bases c.args.timers.now (record { limit = c.args.max_events; reach = c.args.reach }) c.requires.limit.1)
