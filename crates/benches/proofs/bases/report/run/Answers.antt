use Rattle.std.proofs.Common.{ap, sym, subst}
use Rattle.seq_timer.specs.declared.context.Terms.{Terms}
use Rattle.base_row.specs.declared.view.Opening.{Opening}
use Rattle.benches.specs.Rows.{HasNoReach}
use Rattle.benches.proofs.Near.{near_on}
use Rattle.benches.proofs.bases.report.run.Goals as goal

pub fill-requires-clause-near : goal.fill-requires-clause-near
fill-requires-clause-near g c = subst (λ (o : Opening). HasNoReach o) (sym c.in_ok-row.ensures.about)
    (near_on 2 c.limited.result _ (ap (λ (k : Terms). k.reach) c.limited.ensures))
