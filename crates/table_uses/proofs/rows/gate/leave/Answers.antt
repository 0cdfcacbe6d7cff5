use Rattle.std.proofs.Common.{[], ◌∷◌, sym, subst}
use Rattle.counted_row.specs.Views.{HasClaim}
use Rattle.counted_row.proofs.Calls.{commits_of}
use Rattle.table_uses.proofs.Gating.{held_claim}
use Rattle.table_uses.proofs.rows.gate.leave.Goals as goal

pub commit-requires-clause-may : goal.commit-requires-clause-may
commit-requires-clause-may g c =
    (held_claim c.args.pass.now c.lock-held.new.pass c.args.index c.args.number c.lock-held.result c.lock-held.ensures.locks c.requires.claim).0

pub commit-requires-clause-claim : goal.commit-requires-clause-claim
commit-requires-clause-claim g c =
    let locks = c.lock-held.ensures.locks in
    let claim = held_claim c.args.pass.now c.lock-held.new.pass c.args.index c.args.number c.lock-held.result locks c.requires.claim in
    subst (λ cs. HasClaim c.lock-held.result.index (c.lock-held.result.state.entries ∷ []) cs) (sym locks.claims)
    (subst (λ i. HasClaim i (c.lock-held.result.state.entries ∷ []) c.args.pass.now.knows.claims) (sym locks.index)
    (subst (λ n. HasClaim c.args.index (n ∷ []) c.args.pass.now.knows.claims) claim.1 c.requires.claim))

pub returns-clause-turn : goal.returns-clause-turn
returns-clause-turn g c =
    let locked = c.lock-held.ensures in
    let made = c.commit.ensures in (
      commits_of locked.locks locked.row made.row made.adds made.knows made.known,
      (held_claim c.args.pass.now c.lock-held.new.pass c.args.index c.args.number c.lock-held.result locked.locks c.requires.claim).1,
    )
