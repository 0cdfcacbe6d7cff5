use Rattle.std.proofs.Common.{ap, subst, ◌∙◌}
use Rattle.std.specs.Prelude.{MatchBool}
use Rattle.seq_timer.specs.Steps.{Timer}
use Rattle.base_row.specs.Calls.{base_seen, timer_seen}
use Rattle.base_row.proofs.Calling.{seen_same}
use Rattle.hr_timers.specs.Once.{LeadsQueueIn}
use Rattle.hr_timers.proofs.Trying.{says_first}
use Rattle.hr_timers.proofs.once_lock.leave_first.Goals as goal

pub returns-clause-first : goal.returns-clause-first
returns-clause-first c =
    let o = c.args.row.now.about in
    let v = c.args.pass.now.knows in
    let w = c.unlock_base.new.pass.knows in
    let t = c.args.timer in
    let here = c.args.held.content.content in
    let free = c.unlock_base.ensures.free in
    let on = c.requires.holds.on in
    says_first o w.seen t (timer_seen o v t) c.args.held.content c.is_first-first.result
    (seen_same o v w t (free.own t c.requires.holds.within on)) (ap (λ b. base_seen o w b) on.at ∙ free.content)
    (subst (λ (y : Timer). MatchBool c.is_first-first.result (LeadsQueueIn here y t) (LeadsQueueIn here y t → ⊥)) c.state_of.ensures c.is_first-first.ensures)
