use Rattle.std.proofs.Common.{ap, rules, subst, sym, ◌∙◌}
use Rattle.std.specs.Prelude.{Err}
use Rattle.pass_names.specs.Names.{IsLast}
use Rattle.hr_timers.specs.Carrying.{UnsentFits}
use Rattle.hr_timers.specs.Known.{PassOf, pass_of}
use Rattle.hr_timers.specs.declared.once_answer.Unsent.{Unsent}
use Rattle.hr_timers.specs.declared.once_answer.Unsent.TheVariants as unsents
use Rattle.hr_timers.proofs.Trying.{last_miss}
use Rattle.hr_timers.proofs.timers.Timers.try_send.Goals as goal

pub returns-in-Err-clause-alone : goal.returns-in-Err-clause-alone
returns-in-Err-clause-alone c = λ last m is.
    let o = c.args.self.now.about in
    let q = pass_of c.try_send.new.pass in
    last_miss o c.args.pass q c.args.timer m c.requires.pass.knows c.check.ensures.knows last c.requires.timer
    (subst (λ (u : Unsent). UnsentFits o c.args.pass q c.args.timer c.args.base u) is (search rules))
    (λ b e. c.try_send.ensures.alone (subst (λ (p : PassOf). IsLast p.known.id) (sym c.pass.view_is) last) b
    (c.in-Err.is ∙ ap (λ (u : Unsent). Err u) (is ∙ ap unsents.Missed e)))
