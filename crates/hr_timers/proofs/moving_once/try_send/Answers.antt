use Rattle.std.proofs.Common.{subst}
use Rattle.std.specs.Prelude.{MatchResult, Result}
use Rattle.base_row.specs.Calls.{known_of}
use Rattle.hr_timers.specs.Carrying.{HeldUnsentFits, SendsOff}
use Rattle.hr_timers.specs.Moves.{known_from}
use Rattle.hr_timers.specs.declared.moving_once.Sent.{Sent}
use Rattle.hr_timers.specs.declared.once_answer.Unsent.{Unsent}
use Rattle.hr_timers.proofs.Making.{looks_trans}
use Rattle.hr_timers.proofs.Trying.{miss_before, sent_before}
use Rattle.hr_timers.proofs.Ways.{way_ends}
use Rattle.hr_timers.proofs.moving_once.try_send.Goals as goal

-- what was done under the lock, by its answer
abbrev Did : goal.After-send_held → Result Sent Unsent → Type 0
Did c r =
    MatchResult r
    (λ s. SendsOff c.args.row.now.about (known_from c.hold_once.new.pass.knows c.chase-to.new.pass.knows.seen) (known_of c.send_held.new.pass.knows)
    c.args.timer c.chase-to.result s.state s.was_armed)
    (λ u. HeldUnsentFits c.args.row.now.about (known_from c.hold_once.new.pass.knows c.chase-to.new.pass.knows.seen) (known_of c.send_held.new.pass.knows)
    c.args.timer c.chase-to.result u)

did : (c : goal.After-send_held) → Did c c.send_held.result
did c =
    let way = c.chase-to.ensures.way in
    let v = c.chase-to.new.pass.knows in
    c.send_held.ensures.sends v.seen c.hold_once.ensures.looks.seen
    (way_ends c.args.row.now.about c.args.pass.now.knows.seen c.args.asked way.0 c.chase-to.result v.seen way.1)

pub returns-in-Ok-clause-sends : goal.returns-in-Ok-clause-sends
returns-in-Ok-clause-sends c =
    let v = c.chase-to.new.pass.knows in
    let way = c.chase-to.ensures.way in
    let second = c.hold_once.ensures.looks in
    sent_before c.args.row.now.about c.args.pass.now c.hold_once.new.pass c.send_held.new.pass c.args.timer c.args.asked c.chase-to.result way.0 v.seen
    (looks_trans c.args.pass.now.knows v c.hold_once.new.pass.knows c.chase-to.ensures.sees second) way.1 second.seen c.args.row.now c.send_held.result
    c.send_held.ensures.stands (did c)

pub returns-in-Ok-clause-alone : goal.returns-in-Ok-clause-alone
returns-in-Ok-clause-alone c = λ last b is. absurd (subst (λ (r : Result Sent Unsent). Did c r) is (did c))

pub returns-in-Err-clause-sends : goal.returns-in-Err-clause-sends
returns-in-Err-clause-sends c = (
  c.in-Err.ensures.holds.0,
  miss_before c.args.row.now.about c.args.pass.now c.chase-to.new.pass c.hold_once.new.pass c.args.timer c.in-Err.miss c.chase-to.ensures.sees
      c.chase-to.ensures.locks.0 c.chase-to.ensures.locks.1 c.in-Err.ensures.holds.1,
)
