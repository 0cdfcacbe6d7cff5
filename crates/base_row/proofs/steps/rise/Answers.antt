use Rattle.base_row.specs.Places.{counter_at}
use Rattle.base_row.specs.Rings.{counters_in}
use Rattle.std.proofs.Common.{eqb, refl, ap, ◌+◌, ◌<◌, arith, subst}
use mathlib.Core.Option.{none}
use prog.Atomic.{either}
use Rattle.atomic_table.specs.Table.{step, Allows}
use Rattle.base_row.specs.declared.view.Opening.{Opening}
use Rattle.base_row.specs.Rules.{HasOneHistory}
use Rattle.base_row.specs.Plays.{RoseCounter, RisesOwn}
use Rattle.base_row.proofs.Ringing.{rises_freely}
use Rattle.base_row.proofs.Rising.{rises_by}
use Rattle.base_row.proofs.steps.rise.Goals as goal

pub compare_exchange-requires : goal.compare_exchange-requires
compare_exchange-requires c =
    let seat = c.args.seat.now in
    let slots = c.args.cells.now.table_id.slots in
    let word = c.requires.word in
    let from = c.args.from in
    let free : c.args.counter < seat.me.0.opening.counters = omega (arith, word.0, ap (λ (o : Opening). o.counters) c.requires.about) in (
      c.requires.same,
      word.2,
      rw (word.1) (subst (λ (o : Opening). Allows (HasOneHistory o) slots seat.id seat.me (counter_at c.args.counter)
          (λ n. either (eqb n from) (from + 1) n) (RisesOwn (step slots (counter_at c.args.counter) from (from + 1) none) seat.me)) c.requires.about
          (rises_by seat.me.0.opening slots seat.id seat.me.0 seat.me.1 c.requires.live c.args.counter (omega (arith, free)) from
          (rises_freely seat.me.0.opening c.args.counter (from + 1) seat.me.0.seen free))),
    )

pub returns-clause-rose : goal.returns-clause-rose
returns-clause-rose c =
    let inside : c.args.counter < counters_in c.args.seat.now.me.0.opening =
    omega (arith, c.requires.word.0, ap (λ (o : Opening). o.counters) c.requires.about) in (
      c.compare_exchange.result,
      subst (λ (o : Opening). RoseCounter o c.args.counter c.args.from c.args.seat.now.me c.compare_exchange.result
          c.compare_exchange.new.seat.me) c.requires.about (c.compare_exchange.ensures.2 c.args.counter c.requires.word.1 inside),
      refl,
    )
