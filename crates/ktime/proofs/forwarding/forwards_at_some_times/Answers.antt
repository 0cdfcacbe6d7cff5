use Rattle.std.proofs.Common.{refl}
use Rattle.ktime.specs.Times.{passed}
use Rattle.ktime.proofs.forwarding.forwards_at_some_times.Goals as goal

pub returns-clause-early : goal.returns-clause-early
unfolding passed
returns-clause-early c = (refl, refl)

pub returns-clause-reached : goal.returns-clause-reached
unfolding passed
returns-clause-reached c = (refl, refl)

pub returns-clause-late : goal.returns-clause-late
unfolding passed
returns-clause-late c = (refl, refl)

pub returns-clause-between : goal.returns-clause-between
unfolding passed
returns-clause-between c = (refl, refl)

pub returns-clause-no_interval : goal.returns-clause-no_interval
unfolding passed
returns-clause-no_interval c = (refl, refl)
