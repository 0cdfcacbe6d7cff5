use Rattle.std.proofs.Common.{List, sym, subst}
use Rattle.seq_timer.specs.Steps.{Timer}
use Rattle.seq_timer.specs.Systems.{openings}
use Rattle.seq_timer.specs.Bases.{BaseState}
use Rattle.timer_core.specs.Kept.{IsConsistent}
use Rattle.timer_core.proofs.Opened.{consistent-opened}
use Rattle.timer_core.proofs.timers.Core.make_full.Goals as goal

pub invariant_of-result : goal.invariant_of-result
invariant_of-result g c =
    subst (λ (timers : List Timer). IsConsistent (record { timers = timers; bases = c.in_ok-bases.bases.items })) (sym c.in_ok-timers.ensures.timers)
    (subst (λ (bases : List BaseState). IsConsistent
    (record { timers = openings c.args.timers.now c.limited.result; bases = bases })) (sym c.in_ok-bases.ensures)
    (consistent-opened c.args.bases c.args.timers.now c.limited.result c.requires.bases.0 c.requires.bases.1 c.requires.timers))
