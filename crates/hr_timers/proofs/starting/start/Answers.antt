use Rattle.std.proofs.Common.{arith, ap}
use Rattle.seq_timer.specs.declared.context.Terms.{Terms}
use Rattle.seq_timer.specs.Tables.{timer_at}
use Rattle.hr_timers.specs.Ways.{most_to_start}
use Rattle.hr_timers.proofs.Arriving.{arrive_least}
use Rattle.hr_timers.proofs.Keeping.{terms_kept}
use Rattle.hr_timers.proofs.Logging.{room_to_start, starts_before}
use Rattle.hr_timers.proofs.Making.{looks_trans}
use Rattle.hr_timers.proofs.Standing.{knows_in}
use Rattle.hr_timers.proofs.Ways.{way_ends}
use Rattle.hr_timers.proofs.starting.start.Goals as goal

pub start_held-requires-clause-room : goal.start_held-requires-clause-room
start_held-requires-clause-room g c =
    let o = c.args.row.now.about in
    let u = c.args.pass.now.knows in
    let v = c.lock_timer-held.new.pass.knows in
    let told = c.lock_timer-held.ensures in
    room_to_start o u v c.args.timer _ c.args.asked.now.base c.chase-base.result c.fresh.ensures.fresh
    (knows_in o v told.holds.holds.row.about c.known.ensures) c.requires.timer
    (looks_trans u c.chase-base.new.pass.knows v c.chase-base.ensures.sees told.looks) c.chase-base.ensures.low c.requires.room

pub returns-clause-starts : goal.returns-clause-starts
returns-clause-starts g c =
    let o = c.args.row.now.about in
    let u = c.args.pass.now.knows in
    let v = c.chase-base.new.pass.knows in
    let w = c.lock_timer-held.new.pass.knows in
    let way = c.chase-base.ensures.way in
    let second = c.lock_timer-held.ensures.looks in
    starts_before g.S.ReceiptSink.pushed o u w _ c.args.timer c.args.asked.now c.chase-base.result way.0 v.seen c.start_held.result c.args.sink.now
    c.start_held.new.sink (looks_trans u v w c.chase-base.ensures.sees second) way.1 second.seen
    (c.start_held.ensures.starts v.seen second.seen (way_ends o u.seen c.args.asked.now.base way.0 c.chase-base.result v.seen way.1))

pub returns-clause-room : goal.returns-clause-room
returns-clause-room g c =
    let o = c.args.row.now.about in
    let w = c.lock_timer-held.new.pass.knows in
    omega (
      arith,
      c.start_held.ensures.room,
      ap (λ (k : Terms). most_to_start k c.chase-base.result) (terms_kept o w c.args.timer),
      arrive_least (timer_at o.timers c.args.timer).terms c.chase-base.result c.args.asked.now.base c.chase-base.ensures.low,
    )
