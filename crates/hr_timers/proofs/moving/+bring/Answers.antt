use Rattle.std.proofs.Common.{arith, ◌+◌, ◌<◌, ap, sym, subst, ◌∙◌}
use Rattle.seq_timer.specs.Steps.{Timer, after}
use Rattle.seq_timer.specs.declared.event.EventBy.TheVariants.{Out}
use Rattle.hr_timers.specs.Ways.{most_to_arrive}
use Rattle.seq_timer.specs.declared.standing.Standing.{Standing}
use Rattle.base_row.specs.Calls.{base_seen}
use Rattle.base_row.proofs.Calling.{seen_same}
use Rattle.hr_timers.specs.declared.moving.Arrival.{Arrival}
use Rattle.hr_timers.proofs.Arriving.{arrive_less, arrive_some, arrives_before, arrives_here, arrives_on, reach_of}
use Rattle.hr_timers.proofs.Keeping.{bits_fit}
use Rattle.hr_timers.proofs.Standing.{knows_in}
use Rattle.hr_timers.proofs.moving.+bring.Goals as goal

pub settle-requires-clause-state : goal.settle-requires-clause-state
settle-requires-clause-state g t c = c.requires.state
    ∙ sym (seen_same c.args.row.now.about c.args.pass.now.knows c.lock-held.new.pass.knows c.args.timer
    (c.lock-held.ensures.steady.carried c.args.timer c.requires.carries.1))

pub settle-requires-clause-room : goal.settle-requires-clause-room
settle-requires-clause-room g t c = omega (arith, arrive_some c.args.state.now.terms c.args.asked.now.base, c.requires.room)

pub send_on-sent-requires-clause-state : goal.send_on-sent-requires-clause-state
send_on-sent-requires-clause-state g t c = c.requires.state
    ∙ sym (seen_same c.args.row.now.about c.args.pass.now.knows c.lock-held.new.pass.knows c.args.timer
    (c.lock-held.ensures.steady.carried c.args.timer c.requires.carries.1))

pub send_on-sent-requires-clause-room : goal.send_on-sent-requires-clause-room
send_on-sent-requires-clause-room g t c = omega (arith, arrive_some c.args.state.now.terms c.args.asked.now.base, c.requires.room)

pub send_on-sent-requires-clause-down : goal.send_on-sent-requires-clause-down
send_on-sent-requires-clause-down g t c = (
  c.standing-standing.ensures.fits.heir c.in-Some.heir c.in-Some.is,
  reach_of c.args.row.now.about c.args.pass.now.knows c.args.timer c.args.state.now c.standing-standing.result.heir c.in-Some.heir c.requires.state
      c.in-Some.is c.standing-standing.ensures.reach c.requires.within.0,
)

pub send_on-sent-requires-clause-off : goal.send_on-sent-requires-clause-off
send_on-sent-requires-clause-off g t c = ap (λ (s : Standing). s.heir) (sym c.standing-standing.ensures.seen) ∙ c.in-Some.is

pub bring-arrival-requires : goal.bring-arrival-requires
bring-arrival-requires g t c κs within =
    let heir = c.in-Some.heir in
    let down = subst (λ b. heir < b) c.lock-held.ensures.at (c.standing-standing.ensures.fits.heir heir c.in-Some.is) in
    let reach = reach_of c.args.row.now.about c.args.pass.now.knows c.args.timer c.args.state.now c.standing-standing.result.heir heir c.requires.state
    c.in-Some.is c.standing-standing.ensures.reach c.requires.within.0 in
    let same = c.send_on-sent.ensures.after ∙ ap (λ (x : Timer). after x (Out heir)) (seen_same c.args.row.now.about c.args.pass.now.knows
    c.lock-held.new.pass.knows c.args.timer (c.lock-held.ensures.steady.carried c.args.timer c.requires.carries.1) ∙ sym c.requires.state) in (
      omega (arith, down, c.decreases),
      (
        within.0,
        (
          within.1,
          (
            c.send_on-sent.ensures.row,
            (
              (c.requires.within.0, omega (arith, down, c.requires.within.1), c.requires.within.2),
              (
                c.send_on-sent.ensures.carries,
                (
                  c.send_on-sent.ensures.state,
                  (
                    (ap (λ (x : Timer). x.moving) same, ap (λ (x : Timer). x.base) same, ap (λ (x : Timer). x.running) same ∙ c.requires.moving.2),
                    omega (
                      arith,
                      arrive_less c.args.state.now.terms heir c.args.asked.now.base down reach,
                      ap (λ (x : Timer). most_to_arrive x.terms heir) same,
                      c.requires.room,
                      c.send_on-sent.ensures.room,
                    ),
                  ),
                ),
              ),
            ),
          ),
        ),
      ),
    )

pub returns-in-Some-clause-room : goal.returns-in-Some-clause-room
returns-in-Some-clause-room g t c =
    let heir = c.in-Some.heir in
    let down = subst (λ b. heir < b) c.lock-held.ensures.at (c.standing-standing.ensures.fits.heir heir c.in-Some.is) in
    let reach = reach_of c.args.row.now.about c.args.pass.now.knows c.args.timer c.args.state.now c.standing-standing.result.heir heir c.requires.state
    c.in-Some.is c.standing-standing.ensures.reach c.requires.within.0 in
    let same = c.send_on-sent.ensures.after ∙ ap (λ (x : Timer). after x (Out heir)) (seen_same c.args.row.now.about c.args.pass.now.knows
    c.lock-held.new.pass.knows c.args.timer (c.lock-held.ensures.steady.carried c.args.timer c.requires.carries.1) ∙ sym c.requires.state) in
    omega (
      arith,
      arrive_less c.args.state.now.terms heir c.args.asked.now.base down reach,
      ap (λ (x : Timer). most_to_arrive x.terms heir) same,
      c.bring-arrival.ensures.room,
      c.send_on-sent.ensures.room,
    )

pub returns-in-None-clause-arrives : goal.returns-in-None-clause-arrives
returns-in-None-clause-arrives g t c =
    let o = c.args.row.now.about in
    arrives_before g.S.ReceiptSink.pushed o c.args.pass.now.knows c.lock-held.new.pass.knows c.settle.new.pass.knows c.args.timer c.args.asked.now
    c.settle.result c.args.sink.now c.settle.new.sink c.lock-held.ensures.looks (c.lock-held.ensures.steady.carried c.args.timer c.requires.carries.1)
    (arrives_here g.S.ReceiptSink.pushed o c.lock-held.new.pass.knows c.settle.new.pass.knows c.args.timer c.args.asked.now c.settle.result
    c.args.sink.now c.settle.new.sink c.settle.ensures.told c.settle.ensures.adds c.settle.ensures.logged)

pub returns-in-Some-clause-arrives : goal.returns-in-Some-clause-arrives
returns-in-Some-clause-arrives g t c =
    let o = c.args.row.now.about in
    let v = c.lock-held.new.pass.knows in
    let x = c.bring-arrival.new.pass.knows in
    let heir = c.in-Some.heir in
    let at = c.lock-held.ensures.at in
    let told = c.send_on-sent.ensures in
    arrives_before g.S.ReceiptSink.pushed o c.args.pass.now.knows v x c.args.timer c.args.asked.now
    _ c.args.sink.now c.bring-arrival.new.sink c.lock-held.ensures.looks (c.lock-held.ensures.steady.carried c.args.timer c.requires.carries.1)
    (arrives_on g.S.ReceiptSink.pushed o v c.send_on-sent.new.pass.knows x c.args.timer c.args.asked.now heir c.bring-arrival.result _
    c.args.sink.now c.send_on-sent.new.sink c.bring-arrival.new.sink (sym told.state ∙ told.after) told.adds told.logged c.bring-arrival.ensures.arrives
    (λ i. record c.bring-arrival.result { outs = c.one_bit.ensures i + c.bring-arrival.result.outs })
    (knows_in o v c.lock-held.ensures.row.about c.known.ensures).allowed
    (subst (λ b. heir < b) at (c.standing-standing.ensures.fits.heir heir c.in-Some.is))
    (ap (λ q. (base_seen o v q).standing.heir) (sym at) ∙ (ap (λ (s : Standing). s.heir) (sym c.standing-standing.ensures.seen) ∙ c.in-Some.is)))

pub overflow_add-result : goal.overflow_add-result
overflow_add-result g t c =
    let r = c.bring-arrival.ensures.arrives in
    let heir = c.in-Some.heir in
    omega (
      arith,
      bits_fit heir c.one_bit.result c.bring-arrival.result.outs r.outs
          (omega (arith, c.standing-standing.ensures.fits.heir heir c.in-Some.is, c.lock-held.ensures.at, c.requires.within.1, c.requires.within.2))
          r.falls c.one_bit.ensures (ap (λ (a : Arrival). a.outs) r.told),
    )
