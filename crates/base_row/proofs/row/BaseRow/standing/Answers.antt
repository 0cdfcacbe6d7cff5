use Rattle.std.proofs.Common.{ap, sym, subst}
use Rattle.seq_timer.specs.declared.standing.Standing.{Standing}
use Rattle.seq_timer.specs.Standings.{IsStanding}
use Rattle.base_row.proofs.Holding.{knows_about}
use Rattle.base_row.proofs.Placed.{TellsOff, standing_held, tells_off}
use Rattle.base_row.proofs.row.BaseRow.standing.Goals as goal

pub returns-clause-fits : goal.returns-clause-fits
returns-clause-fits c =
    let o = c.args.self.now.about in
    let v = c.args.pass.now.knows in
    subst (λ s. IsStanding c.args.held.now.base s) (sym c.standing.ensures)
    (standing_held o v c.args.held.now (knows_about o v c.requires.row.about c.known.ensures) c.requires.held)

told : (c : goal.After-standing) → TellsOff c.args.self.now.about c.args.pass.now.knows c.args.held.now c.standing.result.heir
told c =
    let o = c.args.self.now.about in
    let v = c.args.pass.now.knows in
    tells_off o v c.fresh.ensures.fresh (knows_about o v c.requires.row.about c.known.ensures) c.args.held.now c.requires.held c.standing.result.heir
    (ap (λ (s : Standing). s.heir) c.standing.ensures)

pub returns-clause-unused : goal.returns-clause-unused
returns-clause-unused c = (told c).unused

pub returns-clause-reach : goal.returns-clause-reach
returns-clause-reach c = (told c).reach
