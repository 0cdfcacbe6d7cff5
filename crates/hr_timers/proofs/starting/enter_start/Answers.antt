use Rattle.std.proofs.Common.{ap, sym, ◌∙◌}
use Rattle.seq_timer.specs.declared.standing.Standing.{Standing}
use Rattle.base_row.specs.Calls.{base_seen}
use Rattle.hr_timers.proofs.Arriving.{starts_heir, starts_here}
use Rattle.hr_timers.proofs.Standing.{knows_in}
use Rattle.hr_timers.proofs.starting.enter_start.Goals as goal

pub returns-in-None-2-clause-starts : goal.returns-in-None-2-clause-starts
returns-in-None-2-clause-starts g c = starts_here g.S.ReceiptSink.pushed c.args.row.now.about c.args.pass.now.knows c.stay.new.pass.knows c.args.timer
    c.args.asked.now c.stay.result c.args.sink.now c.stay.new.sink c.stay.ensures.told c.stay.ensures.adds c.stay.ensures.logged

pub returns-in-Some-clause-starts : goal.returns-in-Some-clause-starts
returns-in-Some-clause-starts g c =
    let o = c.args.row.now.about in
    let v = c.args.pass.now.knows in
    starts_heir g.S.ReceiptSink.pushed o v c.move_and_start.new.pass.knows c.args.timer c.args.asked.now c.in-Some.heir c.move_and_start.result
    c.args.sink.now c.move_and_start.new.sink (knows_in o v c.requires.holds.holds.row.about c.known.ensures).allowed
    (ap (λ q. (base_seen o v q).standing.heir) (sym c.if-base-asked.true ∙ c.base.ensures)
    ∙ (ap (λ (s : Standing). s.heir) (sym c.standing-standing.ensures.seen) ∙ c.in-Some.is)) c.move_and_start.ensures.starts
