use Rattle.std.proofs.Common.{rules, subst}
use Rattle.hr_timers.specs.Known.{pass_of}
use Rattle.hr_timers.specs.Calls.{NowFits}
use Rattle.hr_timers.specs.declared.answer.NowAnswer.{NowAnswer}
use Rattle.hr_timers.proofs.Last.{not_moved, not_moving}
use Rattle.hr_timers.proofs.timers.Timers.cancel_now.Goals as goal

pub returns-clause-moving : goal.returns-clause-moving
returns-clause-moving c = λ last b is.
    let q = pass_of c.cancel_now-answer.new.pass in
    not_moving c.args.self.now.about c.args.pass.now q c.args.timer b c.requires.pass.knows c.check.ensures.knows last c.requires.timer
    (subst (λ (r : NowAnswer). NowFits c.args.self.now.about c.args.pass.now q c.args.timer r) is (search rules))

pub returns-clause-moved : goal.returns-clause-moved
returns-clause-moved c = λ last a b is.
    let q = pass_of c.cancel_now-answer.new.pass in
    not_moved c.args.self.now.about c.args.pass.now q c.args.timer a b c.requires.pass.knows c.check.ensures.knows last c.requires.timer
    (subst (λ (r : NowAnswer). NowFits c.args.self.now.about c.args.pass.now q c.args.timer r) is (search rules))
