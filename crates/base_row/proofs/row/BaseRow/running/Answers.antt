use Rattle.std.proofs.Common.{ap, ◌∙◌}
use Rattle.seq_timer.specs.Contents.{running_in}
use Rattle.seq_timer.specs.Systems.{BaseContent}
use Rattle.base_row.specs.declared.view.HeldContent.{HeldContent}
use Rattle.base_row.proofs.Holding.{knows_about}
use Rattle.base_row.proofs.Placed.{TellsRunning, tells_running}
use Rattle.base_row.proofs.row.BaseRow.running.Goals as goal

pub returns-clause-running : goal.returns-clause-running
returns-clause-running c = c.running.ensures ∙ ap (λ (h : HeldContent BaseContent). running_in c.args.context h.content.content) c.held.view_is

told : (c : goal.After-running) → TellsRunning c.args.self.now.about c.args.pass.now.knows c.args.held.now c.args.context c.running.result
told c =
    let o = c.args.self.now.about in
    let v = c.args.pass.now.knows in
    tells_running o v c.fresh.ensures.fresh (knows_about o v c.requires.row.about c.known.ensures) c.args.held.now c.requires.held c.args.context
    c.running.result (returns-clause-running c)

pub returns-clause-busy : goal.returns-clause-busy
returns-clause-busy c = (told c).busy

pub returns-clause-idle : goal.returns-clause-idle
returns-clause-idle c = (told c).idle
