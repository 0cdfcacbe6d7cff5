use Rattle.std.proofs.Common.{◌≡◌, ◌<◌, ap, sym, subst, ◌∙◌, rules}
use Rattle.std.specs.Prelude.{IsNone}
use Rattle.seq_timer.specs.Steps.{Timer}
use Rattle.base_row.specs.Calls.{timer_seen}
use Rattle.benches.proofs.Near.{may_leave}
use Rattle.seq_timer.specs.Systems.{BaseContent, IsOn}
use Rattle.base_row.specs.declared.view.BaseView.{BaseView}
use Rattle.base_row.proofs.Calling.{seen_same}
use Rattle.benches.proofs.bases.filling.send.Goals as goal

-- what was seen of the timer stays as the base is let go
pub bring-requires-clause-state : goal.bring-requires-clause-state
bring-requires-clause-state g c =
    let sent = c.out-moving in
    let same = c.unlock_base-2.ensures.free.steady.carried c.args.timer (ap (λ (v : BaseView BaseContent). v.carry) sent.ensures.adds.rest) in
    sent.ensures.state ∙ sym (seen_same c.args.row.now.about sent.new.pass.knows c.unlock_base-2.new.pass.knows c.args.timer same)

-- the timer rests on base 0, which is held
pub out-moving-requires-clause-may : goal.out-moving-requires-clause-may
out-moving-requires-clause-may g c =
    let o = c.args.row.now.about in
    let v = c.lock_base-held.new.pass.knows in
    let h = c.lock_base-held.result in
    let locks = c.lock_base-held.ensures.locks in
    let found = c.state-state.result.now in
    let here : IsOn h.base found = record { at = search rules; still = search rules } in
    let same : timer_seen o v c.args.timer ≡ found = search rules in
    may_leave o v h c.args.timer c.args.to c.requires.near c.requires.within.0 (ap (λ (x : BaseView BaseContent). x.held) locks.rest)
    (ap (λ (x : BaseView BaseContent). x.carry) locks.rest ∙ c.requires.ready.rests.carry)
    (subst (λ (x : Timer). IsOn h.base x) (sym same) here) (subst (λ (x : Timer). IsNone x.running) (sym same) (search rules))
    (subst (λ (x : Timer). c.args.to ≡ x.base → ⊥) (sym same) (λ e. search rules)) c.requires.within.2
    (subst (λ (x : Timer). x.stamp < x.terms.limit) (sym same) (search rules))
