use Rattle.std.proofs.Common.{[], ◌∷◌, ap, sym, subst, ◌∙◌}
use Rattle.pass_names.proofs.SharedHistory.{looks_extends}
use Rattle.seq_timer.specs.declared.event.EventBy.TheVariants.{Start}
use Rattle.seq_timer.specs.declared.standing.Standing.{Standing}
use Rattle.seq_timer.specs.Steps.{Timer}
use Rattle.seq_timer.specs.Systems.{BaseContent, entries_of}
use Rattle.base_row.specs.Calls.{base_seen, known_of}
use Rattle.base_row.proofs.Calling.{seen_same}
use Rattle.hr_timers.specs.Calls.{entry_by}
use Rattle.base_row.specs.Logs.{all_pushed, receipts_of}
use Rattle.hr_timers.specs.Known.{AddsBehind, timer_then}
use Rattle.hr_timers.proofs.Making.{looks_on}
use Rattle.hr_timers.proofs.Shifts.{standing_kept}
use Rattle.hr_timers.proofs.Standing.{knows_in}
use Rattle.hr_timers.proofs.evacuating.arrive_first.Goals as goal

pub settle-requires-clause-state : goal.settle-requires-clause-state
settle-requires-clause-state g c = c.requires.state
    ∙ sym (seen_same c.args.row.now.about c.args.pass.now.knows c.lock-held.new.pass.knows c.args.timer
    (c.lock-held.ensures.steady.carried c.args.timer c.requires.carries.1))

pub settle-requires-clause-online : goal.settle-requires-clause-online
settle-requires-clause-online g c =
    let o = c.args.row.now.about in
    let v = c.args.pass.now.knows in
    let w = c.lock-held.new.pass.knows in
    let h = c.lock-held.result in
    let b = c.args.asked.now.base in
    ap (λ (x : BaseContent). x.standing.heir) ((knows_in o w c.lock-held.ensures.row.about c.known.ensures).held h c.lock-held.ensures.held).1.0
    ∙ (ap (λ q. (base_seen o w q).standing.heir) c.lock-held.ensures.at
    ∙ (ap (λ (s : Standing). s.heir) (standing_kept o v w b (c.lock-held.ensures.steady.shifts c.requires.first b)) ∙ c.requires.online))

pub returns-clause-adds : goal.returns-clause-adds
returns-clause-adds g c =
    let v = c.args.pass.now.knows in
    let w = c.lock-held.new.pass.knows in
    let x = c.settle.new.pass.knows in
    let steady = c.lock-held.ensures.steady.carried c.args.timer c.requires.carries.1 in
    let same = seen_same c.args.row.now.about v w c.args.timer steady ∙ sym c.requires.state in
    subst (λ (t : Timer). AddsBehind v x c.args.timer (entry_by t (Start c.args.asked.now) ∷ [])) same
    (looks_extends entries_of (known_of v) (known_of w) (known_of x) c.args.timer _ (looks_on v w c.lock-held.ensures.looks) steady c.settle.ensures.adds)

pub returns-clause-logged : goal.returns-clause-logged
returns-clause-logged g c =
    let o = c.args.row.now.about in
    let v = c.args.pass.now.knows in
    let w = c.lock-held.new.pass.knows in
    let steady = c.lock-held.ensures.steady.carried c.args.timer c.requires.carries.1 in
    let seen = seen_same o v w c.args.timer steady in
    let event = Start c.args.asked.now in
    c.settle.ensures.logged
    ∙ (λ i. all_pushed g.S.ReceiptSink.pushed c.args.sink.now (receipts_of c.args.timer (seen i).stamp (entry_by (seen i) event ∷ [])))
    ∙ (λ i. all_pushed g.S.ReceiptSink.pushed c.args.sink.now
    (receipts_of c.args.timer (timer_then o v.seen c.args.timer).stamp (entry_by (sym c.requires.state i) event ∷ [])))
