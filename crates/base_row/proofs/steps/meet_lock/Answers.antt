use Rattle.base_row.specs.Places.{lock_at}
use Rattle.std.proofs.Common.{◌<◌, ap, subst, arith}
use mathlib.Core.Option.{none}
use Rattle.atomic_table.specs.Table.{step, Allows}
use Rattle.base_row.specs.declared.view.Opening.{Opening}
use Rattle.base_row.specs.Rules.{HasOneHistory}
use Rattle.base_row.specs.Plays.{Met, MeetsOwn}
use Rattle.base_row.proofs.Looking.{meets}
use Rattle.base_row.proofs.steps.meet_lock.Goals as goal

pub load-requires : goal.load-requires
load-requires c =
    let seat = c.args.seat.now in
    let slots = c.args.cells.now.table_id.slots in
    let may = c.requires.may in
    let inside : c.args.base < seat.me.0.opening.bases = omega (arith, may.within, ap (λ (o : Opening). o.bases) may.about) in (
      may.same,
      may.inside,
      rw (may.at) (subst (λ (o : Opening). Allows (HasOneHistory o) slots seat.id seat.me (lock_at c.args.base) (λ n. n)
          (MeetsOwn (step slots (lock_at c.args.base) 0 0 none) seat.me)) may.about
          (meets seat.me.0.opening slots seat.id seat.me.0 seat.me.1 may.live c.args.base inside may.idle)),
    )

pub returns-clause-met : goal.returns-clause-met
returns-clause-met c =
    subst (λ (o : Opening). Met o c.args.base c.args.seat.now.me c.load.result c.load.new.seat.me) c.requires.may.about
    (c.load.ensures.2 c.args.base c.requires.may.at)
