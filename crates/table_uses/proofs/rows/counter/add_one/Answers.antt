use Rattle.counted_row.proofs.Calls.{commits_of}
use Rattle.table_uses.proofs.Counting.{made_one}
use Rattle.table_uses.proofs.rows.counter.add_one.Goals as goal

pub returns-then-state-lt18446744073709551615-clause-made : goal.returns-then-state-lt18446744073709551615-clause-made
returns-then-state-lt18446744073709551615-clause-made g c =
    let locked = c.lock-held.ensures in
    let made = c.commit.ensures in
    made_one (commits_of locked.locks locked.row made.row made.adds made.knows made.known)
