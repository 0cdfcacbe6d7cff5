use Rattle.std.proofs.Common.{◌<◌, ap, sym, subst, ◌∙◌}
use Rattle.seq_timer.specs.declared.event.EventBy.TheVariants.{Out}
use Rattle.seq_timer.specs.Steps.{Timer}
use Rattle.seq_timer.specs.Systems.{BaseContent, entries_of}
use Rattle.base_row.specs.declared.view.BaseView.{BaseView}
use Rattle.base_row.specs.Calls.{known_of}
use Rattle.base_row.proofs.Calling.{extends_appended, looks_freed, seen_same}
use Rattle.pass_names.proofs.SharedHistory.{extends_looks}
use Rattle.hr_timers.proofs.Keeping.{may_send_on}
use Rattle.hr_timers.proofs.moving.send_on.Goals as goal

pub out_again_logged-sent-requires-clause-may : goal.out_again_logged-sent-requires-clause-may
out_again_logged-sent-requires-clause-may g c =
    let is = sym c.requires.state in
    may_send_on c.args.row.now.about c.args.pass.now.knows c.args.held c.args.timer c.args.to c.requires.within.0 c.requires.carries.0
    c.requires.carries.1 (ap (λ (t : Timer). t.moving) is ∙ c.requires.moving.0) (ap (λ (t : Timer). t.base) is ∙ c.requires.moving.1)
    (ap (λ (t : Timer). t.running) is ∙ c.requires.moving.2) c.requires.down.0 c.requires.within.1 c.requires.within.2
    (subst (λ (t : Timer). 0 < t.terms.reach) c.requires.state c.requires.down.1) c.requires.off

pub returns-clause-state : goal.returns-clause-state
returns-clause-state g c =
    let o = c.args.row.now.about in
    let carry = ap (λ (v : BaseView BaseContent). v.carry) c.out_again_logged-sent.ensures.adds.rest in
    c.out_again_logged-sent.ensures.state
    ∙ sym (seen_same o c.out_again_logged-sent.new.pass.knows c.unlock_base.new.pass.knows c.args.timer
    (c.unlock_base.ensures.free.steady.carried c.args.timer carry))

pub returns-clause-adds : goal.returns-clause-adds
returns-clause-adds g c =
    let o = c.args.row.now.about in
    let v = c.args.pass.now.knows in
    let w = c.out_again_logged-sent.new.pass.knows in
    let x = c.unlock_base.new.pass.knows in
    let carry = ap (λ (y : BaseView BaseContent). y.carry) c.out_again_logged-sent.ensures.adds.rest in
    extends_looks entries_of (known_of v) (known_of w) (known_of x) c.args.timer _
    (extends_appended o c.fresh.ensures.fresh c.args.held c.args.timer (Out c.args.to) v w c.out_again_logged-sent.ensures.adds)
    (looks_freed o c.out_again_logged-sent.new.held w x c.unlock_base.ensures.free) (c.unlock_base.ensures.free.steady.carried c.args.timer carry)
