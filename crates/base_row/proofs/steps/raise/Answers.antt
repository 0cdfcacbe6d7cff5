use Rattle.base_row.specs.Places.{counter_at}
use Rattle.base_row.specs.Rings.{counters_in, MayRiseTo}
use Rattle.std.proofs.Common.{◌<◌, subst, sym}
use Rattle.std.specs.Prelude.{max}
use mathlib.Core.Option.{none}
use Rattle.atomic_table.specs.Table.{step, Allows}
use Rattle.base_row.specs.declared.view.Opening.{Opening}
use Rattle.base_row.specs.Rules.{HasOneHistory}
use Rattle.base_row.specs.Plays.{RaisedCounter, RaisesOwn}
use Rattle.base_row.proofs.Rising.{raises}
use Rattle.base_row.proofs.steps.raise.Goals as goal

pub fetch_max-requires : goal.fetch_max-requires
fetch_max-requires c =
    let seat = c.args.seat.now in
    let slots = c.args.cells.now.table_id.slots in
    let word = c.requires.word in
    let inside : c.args.counter < counters_in seat.me.0.opening = subst (λ o. c.args.counter < counters_in o) (sym c.requires.about) word.0 in
    let may = subst (λ o. MayRiseTo o c.args.counter c.args.to seat.me.0.seen) (sym c.requires.about) c.requires.may in (
      c.requires.same,
      word.2,
      rw (word.1) (subst (λ (o : Opening). Allows (HasOneHistory o) slots seat.id seat.me (counter_at c.args.counter) (λ n. max n c.args.to)
          (RaisesOwn (step slots (counter_at c.args.counter) c.args.to 0 none) seat.me)) c.requires.about
          (raises seat.me.0.opening slots seat.id seat.me.0 seat.me.1 c.requires.live c.args.counter inside c.args.to may)),
    )

pub returns-clause-raised : goal.returns-clause-raised
returns-clause-raised c =
    let inside : c.args.counter < counters_in c.args.seat.now.me.0.opening =
    subst (λ o. c.args.counter < counters_in o) (sym c.requires.about) c.requires.word.0 in
    subst (λ (o : Opening). RaisedCounter o c.args.counter c.args.to c.args.seat.now.me c.fetch_max.new.seat.me) c.requires.about
    (c.fetch_max.ensures.2 c.args.counter c.requires.word.1 inside)
