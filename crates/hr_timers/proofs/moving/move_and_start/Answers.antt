use Rattle.std.proofs.Common.{refl, arith, ◌+◌, ap, sym, ◌∙◌}
use Rattle.hr_timers.specs.declared.moving.Arrival.{Arrival}
use Rattle.hr_timers.proofs.Arriving.{starts_moved}
use Rattle.hr_timers.proofs.Keeping.{bits_fit}
use Rattle.hr_timers.proofs.moving.move_and_start.Goals as goal

pub overflow_add-result : goal.overflow_add-result
overflow_add-result g c =
    let r = c.bring-arrival.ensures.arrives in
    omega (
      arith,
      bits_fit c.args.asked.now.base c.one_bit.result c.bring-arrival.result.outs r.outs (omega (arith, c.requires.to.0, c.requires.to.1)) r.falls
          c.one_bit.ensures (ap (λ (a : Arrival). a.outs) r.told),
    )

pub returns-clause-starts : goal.returns-clause-starts
returns-clause-starts g c =
    let told = c.send-state.ensures in
    starts_moved g.S.ReceiptSink.pushed c.args.row.now.about c.args.pass.now.knows c.send-state.new.pass.knows c.bring-arrival.new.pass.knows c.args.timer
    c.args.asked.now c.args.asked.now.base c.bring-arrival.result _ c.args.sink.now c.send-state.new.sink c.bring-arrival.new.sink
    (sym told.state ∙ told.after) told.adds told.logged c.bring-arrival.ensures.arrives
    (λ i. record c.bring-arrival.result { outs = c.one_bit.ensures i + c.bring-arrival.result.outs }) refl
