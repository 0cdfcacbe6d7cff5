use Rattle.base_row.proofs.Calling.{looks_freed, looks_locks, looks_sees, looks_waits}
use Rattle.base_row.proofs.laws.locks_and_loads_only_look.Goals as goal

pub returns-clause-locks : goal.returns-clause-locks
returns-clause-locks c base v w h l = looks_locks base v w h l

pub returns-clause-waits : goal.returns-clause-waits
returns-clause-waits c base v w l = looks_waits base v w l

pub returns-clause-frees : goal.returns-clause-frees
returns-clause-frees c o h v w l = looks_freed o h v w l

pub returns-clause-loads : goal.returns-clause-loads
returns-clause-loads c v w l = looks_sees v w l
