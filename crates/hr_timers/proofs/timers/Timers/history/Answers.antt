use Rattle.std.proofs.Common.{subst}
use Rattle.base_row.specs.Calls as rows
use Rattle.hr_timers.proofs.Bounded.{bounded_then, history_of, one_then, soft_then}
use Rattle.hr_timers.proofs.timers.Timers.history.Goals as goal

abbrev fresh : goal.returns-clause-history
fresh c = history_of c.args.self.now.about c.args.pass.now.known.seen
    (subst (λ (r : rows.BaseRowOf). rows.AreFresh r.about.timers) c.self.view_is c.fresh.ensures.fresh) c.requires.pass.knows.history

pub returns-clause-history : goal.returns-clause-history
returns-clause-history c = fresh c

pub returns-clause-bounded : goal.returns-clause-bounded
returns-clause-bounded c t = bounded_then c.args.self.now.about c.args.pass.now.known.seen
    (subst (λ (r : rows.BaseRowOf). rows.AreFresh r.about.timers) c.self.view_is c.fresh.ensures.fresh) c.requires.pass.knows.history t

pub returns-clause-soft : goal.returns-clause-soft
returns-clause-soft c t = soft_then c.args.self.now.about c.args.pass.now.known.seen (fresh c) t

pub returns-clause-alone : goal.returns-clause-alone
returns-clause-alone c base t u = one_then c.args.self.now.about c.args.pass.now.known.seen (fresh c) base t u
