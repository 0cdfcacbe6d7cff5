use Rattle.std.proofs.Common.{◌<◌, ℕ, ap, length, sym, subst, ◌∙◌}
use Rattle.std.specs.Prelude.{IfSome}
use Rattle.seq_timer.specs.Tables.{timer_at}
use Rattle.seq_timer.specs.declared.standing.Standing.{Standing}
use Rattle.base_row.proofs.Holding.{knows_about}
use Rattle.benches.proofs.Near.{on_line}
use Rattle.seq_timer.specs.Events.{Event}
use Rattle.seq_timer.specs.Steps.{Timer}
use Rattle.seq_timer.specs.Systems.{BaseContent}
use Rattle.base_row.specs.declared.view.BaseView.{BaseView}
use Rattle.base_row.specs.Calls.{MayAppend}
use Rattle.base_row.proofs.Calling.{may_start, seen_same}
use Rattle.benches.specs.WorkingBases.{asked}
use Rattle.benches.proofs.bases.filling.bring.Goals as goal

-- what was seen of the timer stays as the base is locked
pub arrive-requires-clause-state : goal.arrive-requires-clause-state
arrive-requires-clause-state g c =
    let locks = c.lock_base-held.ensures.locks in
    let same = locks.steady.carried c.args.timer c.requires.carries.1 in
    c.requires.state ∙ sym (seen_same c.args.row.now.about c.args.pass.now.knows c.lock_base-held.new.pass.knows c.args.timer same)

pub arrive-requires-clause-may : goal.arrive-requires-clause-may
arrive-requires-clause-may g c =
    let o = c.args.row.now.about in
    let w = c.lock_base-held.new.pass.knows in
    let h = c.lock_base-held.result in
    let locks = c.lock_base-held.ensures.locks in
    let same = sym (arrive-requires-clause-state g c) in
    let base = ap (λ (t : Timer). t.base) same in
    let carries = ap (λ (v : BaseView BaseContent). v.carry) locks.rest ∙ c.requires.carries.1 in
    let moves = ap (λ (t : Timer). t.moving) same ∙ c.requires.moving in
    let here = c.base-to.ensures ∙ sym base in
    let there = base ∙ (sym c.base-to.ensures ∙ sym locks.at) in
    let online = on_line o c.args.timer h.content.standing.heir c.requires.near c.requires.within.0
    (subst (λ (s : Standing). IfSome s.heir (λ q. (t : ℕ) → t < length o.timers → 0 < (timer_at o.timers t).terms.reach)) c.standing.ensures.held c.standing.ensures.reach) in
    let whole = knows_about o w c.lock_base-held.ensures.row.about c.known.ensures in
    let may = may_start o w h c.args.timer (asked c.base-to.result c.args.ns) online (whole.held h (ap (λ (v : BaseView BaseContent). v.held) locks.rest)).1.0 c.requires.within.0 (ap (λ (v : BaseView BaseContent). v.held) locks.rest)
    carries moves here there in
    subst (λ (e : Event). MayAppend o w h c.args.timer e) (sym c.start_event.ensures) may
