use Rattle.std.proofs.Common.{ap, subst, ◌∙◌}
use Rattle.base_row.specs.Calls as rows
use Rattle.hr_timers.specs.Known.{KnowsTimers, PassOf}
use Rattle.hr_timers.proofs.True.{true_of}
use Rattle.hr_timers.proofs.timers.Timers.check.Goals as goal

pub returns : goal.returns
returns c = record {
  row = c.requires.row;
  opening = c.requires.opening;
  knows = subst (λ (p : PassOf). KnowsTimers c.args.self.now.about p.known) c.pass.view_is
      (true_of c.args.self.now.about c.pass.inside.inner.knows
      (subst (λ (r : rows.BaseRowOf). rows.AreFresh r.about.timers) c.self.view_is c.fresh.ensures.fresh)
      (ap (λ (p : PassOf). p.opening) c.pass.view_is ∙ c.requires.opening) c.pass.invariant.carry c.known.ensures);
}
