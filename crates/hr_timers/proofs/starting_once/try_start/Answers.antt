use Rattle.std.proofs.Common.{subst}
use Rattle.base_row.specs.Calls.{known_of}
use Rattle.hr_timers.specs.Moves.{known_from}
use Rattle.hr_timers.specs.Once.{HeldHereFits}
use Rattle.hr_timers.specs.Ways.{asking}
use Rattle.hr_timers.specs.declared.once_answer.HereAnswer.{HereAnswer}
use Rattle.hr_timers.proofs.Making.{looks_trans}
use Rattle.hr_timers.proofs.Trying.{here_before, miss_before}
use Rattle.hr_timers.proofs.Ways.{way_ends}
use Rattle.hr_timers.proofs.starting_once.try_start.Goals as goal

started : (c : goal.After-start_here) → HeldHereFits c.args.row.now.about (known_from c.hold_once.new.pass.knows c.chase-base.new.pass.knows.seen)
    (known_of c.start_here.new.pass.knows) c.args.timer (asking c.args.asked.now c.chase-base.result) c.start_here.result
started c =
    let way = c.chase-base.ensures.way in
    let v = c.chase-base.new.pass.knows in
    c.start_here.ensures.starts v.seen c.hold_once.ensures.looks.seen
    (way_ends c.args.row.now.about c.args.pass.now.knows.seen c.args.asked.now.base way.0 c.chase-base.result v.seen way.1)

pub returns-in-Ok-clause-starts : goal.returns-in-Ok-clause-starts
returns-in-Ok-clause-starts c =
    let v = c.chase-base.new.pass.knows in
    let w = c.hold_once.new.pass.knows in
    let way = c.chase-base.ensures.way in
    let second = c.hold_once.ensures.looks in
    here_before c.args.row.now.about c.args.pass.now c.hold_once.new.pass c.start_here.new.pass c.args.timer c.args.asked.now c.chase-base.result way.0
    v.seen c.start_here.result (looks_trans c.args.pass.now.knows v w c.chase-base.ensures.sees second) way.1 second.seen (started c)

pub returns-in-Ok-clause-alone : goal.returns-in-Ok-clause-alone
returns-in-Ok-clause-alone c = λ last b is.
    absurd (subst (λ (a : HereAnswer). HeldHereFits c.args.row.now.about (known_from c.hold_once.new.pass.knows c.chase-base.new.pass.knows.seen)
    (known_of c.start_here.new.pass.knows) c.args.timer (asking c.args.asked.now c.chase-base.result) a) is (started c))

pub returns-in-Err-clause-starts : goal.returns-in-Err-clause-starts
returns-in-Err-clause-starts c = miss_before c.args.row.now.about c.args.pass.now c.chase-base.new.pass c.hold_once.new.pass c.args.timer c.in-Err.miss
    c.chase-base.ensures.sees c.chase-base.ensures.locks.0 c.chase-base.ensures.locks.1 c.in-Err.ensures.holds.1
