use Rattle.counted_row.proofs.Calls.{commits_after}
use Rattle.table_uses.proofs.rows.gate.enter_soon.Goals as goal

pub returns-in-Some-clause-turn : goal.returns-in-Some-clause-turn
returns-in-Some-clause-turn g c = let turn = c.in-Some.ensures.turn in (commits_after c.loop.invariant.sees turn.0, turn.1)
