use Rattle.base_row.specs.declared.view.Opening.{Opening}
use Rattle.std.proofs.Common.{subst}
use mathlib.Core.Option.{none}
use Rattle.atomic_table.specs.Table.{step, Allows}
use Rattle.base_row.specs.Rules.{HasOneHistory}
use Rattle.base_row.specs.Plays.{LooksOwn}
use Rattle.base_row.proofs.Looking.{looks}
use Rattle.base_row.proofs.steps.look.Goals as goal

pub load-requires : goal.load-requires
load-requires c =
    let seat = c.args.seat.now in
    let slots = c.args.cells.now.table_id.slots in
    let word = c.args.word in
    let told = subst (λ (o : Opening). Allows (HasOneHistory o) slots seat.id seat.me word (λ n. n) (LooksOwn (step slots word 0 0 none) seat.me))
    c.requires.about (looks seat.me.0.opening slots seat.id seat.me.0 seat.me.1 c.requires.live word) in
    (c.requires.same, c.requires.word, told)
