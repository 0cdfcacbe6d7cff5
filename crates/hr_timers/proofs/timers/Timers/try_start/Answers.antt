use Rattle.std.proofs.Common.{ap, rules, subst, sym, ◌∙◌}
use Rattle.pass_names.specs.Names.{IsLast}
use Rattle.hr_timers.specs.Known.{PassOf, pass_of}
use Rattle.hr_timers.specs.Once.{HereFits}
use Rattle.hr_timers.specs.declared.once_answer.HereAnswer.{HereAnswer}
use Rattle.hr_timers.specs.declared.once_answer.HereAnswer.TheVariants as heres
use Rattle.hr_timers.proofs.Trying.{last_miss}
use Rattle.hr_timers.proofs.timers.Timers.try_start.Goals as goal

pub returns-clause-alone : goal.returns-clause-alone
returns-clause-alone c = λ last m is.
    let o = c.args.self.now.about in
    let q = pass_of c.try_start-answer.new.pass in
    last_miss o c.args.pass.now q c.args.timer m c.requires.pass.knows c.check.ensures.knows last c.requires.timer
    (subst (λ (a : HereAnswer). HereFits o c.args.pass.now q c.args.timer c.args.asked.now a) is (search rules))
    (λ b e. c.try_start-answer.ensures.alone (subst (λ (p : PassOf). IsLast p.known.id) (sym c.pass.view_is) last) b (is ∙ ap heres.Missed e))
