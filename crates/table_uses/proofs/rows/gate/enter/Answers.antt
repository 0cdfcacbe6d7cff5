use Rattle.std.proofs.Common.{◌+◌, [], ◌∷◌}
use Rattle.counted_row.proofs.Calls.{commits_of}
use Rattle.table_uses.proofs.Gating.{has_last}
use Rattle.table_uses.proofs.rows.gate.enter.Goals as goal

pub returns-else-stamp-gt-LAST_STAMP-clause-turn : goal.returns-else-stamp-gt-LAST_STAMP-clause-turn
returns-else-stamp-gt-LAST_STAMP-clause-turn g c =
    let locked = c.lock-held.ensures in
    let made = c.commit-number.ensures in
    (commits_of locked.locks locked.row made.row made.adds made.knows made.known, made.reply)

pub returns-else-stamp-gt-LAST_STAMP-clause-claim : goal.returns-else-stamp-gt-LAST_STAMP-clause-claim
returns-else-stamp-gt-LAST_STAMP-clause-claim g c =
    let locked = c.lock-held.ensures in
    let made = c.commit-number.ensures in
    let turn = commits_of locked.locks locked.row made.row made.adds made.knows made.known in
    rw (made.reply, turn.claims) (has_last c.args.index ((turn.state.entries + 1) ∷ []) c.args.pass.now.knows.claims)
