use Rattle.std.proofs.Common.{◌-◌, [], ◌∷◌, ap, sym, subst, ◌∙◌}
use Rattle.ktime.specs.declared.mode.Mode.TheVariants.{Keep}
use Rattle.seq_timer.specs.Calls.{asked_for}
use Rattle.seq_timer.specs.Events.{Asked}
use Rattle.seq_timer.specs.Steps.{Timer, Needs, after}
use Rattle.seq_timer.specs.declared.event.EventBy.TheVariants.{Out, Start}
use Rattle.seq_timer.specs.declared.standing.Standing.{Standing}
use Rattle.base_row.specs.Calls.{base_seen}
use Rattle.pass_names.proofs.Passes.{begins_trans}
use Rattle.hr_timers.specs.Calls.{entry_by}
use Rattle.hr_timers.specs.Known.{AddsBehind}
use Rattle.hr_timers.specs.Logged.{IsLogged}
use Rattle.hr_timers.proofs.Arriving.{logged_more}
use Rattle.hr_timers.proofs.Making.{adds_both}
use Rattle.hr_timers.proofs.Shifts.{standing_kept}
use Rattle.hr_timers.proofs.evacuating.move_one.Goals as goal

pub send-moved-requires-clause-needs : goal.send-moved-requires-clause-needs
send-moved-requires-clause-needs g c = subst (λ (t : Timer). Needs t (Out c.args.heir)) c.requires.state c.requires.needs

pub arrive_first-requires-clause-online : goal.arrive_first-requires-clause-online
arrive_first-requires-clause-online g c =
    ap (λ (a : Asked). (base_seen c.args.row.now.about c.send-moved.new.pass.knows a.base).standing.heir) c.moving_on-asked.ensures
    ∙ (ap (λ (s : Standing). s.heir) (standing_kept c.args.row.now.about c.args.pass.now.knows c.send-moved.new.pass.knows c.args.heir
    (c.send-moved.ensures.keeps c.requires.first c.args.heir)) ∙ c.requires.online)

pub returns-clause-adds : goal.returns-clause-adds
returns-clause-adds g c =
    let v = c.args.pass.now.knows in
    let w = c.send-moved.new.pass.knows in
    let x = c.arrive_first.new.pass.knows in
    let state = c.args.state.now in
    let start = Start (asked_for Keep state.soft (state.expires - state.soft) c.args.heir c.args.reading) in
    adds_both v w x c.args.timer (entry_by state (Out c.args.heir) ∷ []) (entry_by (after state (Out c.args.heir)) start ∷ [])
    (subst (λ (t : Timer). AddsBehind v w c.args.timer (entry_by t (Out c.args.heir) ∷ [])) (sym c.requires.state) c.send-moved.ensures.adds)
    (subst (λ (t : Timer). AddsBehind w x c.args.timer (entry_by t start ∷ [])) (c.send-moved.ensures.after
    ∙ ap (λ (t : Timer). after t (Out c.args.heir)) (sym c.requires.state))
    (subst (λ (a : Asked). AddsBehind w x c.args.timer (entry_by c.send-moved.result (Start a) ∷ [])) c.moving_on-asked.ensures c.arrive_first.ensures.adds))

pub returns-clause-logged : goal.returns-clause-logged
returns-clause-logged g c =
    let put = g.S.ReceiptSink.pushed in
    let o = c.args.row.now.about in
    let v = c.args.pass.now.knows in
    let w = c.send-moved.new.pass.knows in
    let state = c.args.state.now in
    let s = c.args.sink.now in
    let s' = c.send-moved.new.sink in
    let s'' = c.arrive_first.new.sink in
    let start = Start (asked_for Keep state.soft (state.expires - state.soft) c.args.heir c.args.reading) in
    logged_more put o c.args.timer v.seen w.seen (entry_by state (Out c.args.heir)) (entry_by (after state (Out c.args.heir)) start ∷ []) s s' s''
    (ap (λ (t : Timer). t.stamp) (sym c.send-moved.ensures.state ∙ c.send-moved.ensures.after))
    (subst (λ (t : Timer). IsLogged put o c.args.timer v.seen (entry_by t (Out c.args.heir) ∷ []) s s') (sym c.requires.state) c.send-moved.ensures.logged)
    (subst (λ (t : Timer). IsLogged put o c.args.timer w.seen (entry_by t start ∷ []) s' s'') (c.send-moved.ensures.after
    ∙ ap (λ (t : Timer). after t (Out c.args.heir)) (sym c.requires.state))
    (subst (λ (a : Asked). IsLogged put o c.args.timer w.seen (entry_by c.send-moved.result (Start a) ∷ []) s' s'') c.moving_on-asked.ensures
    c.arrive_first.ensures.logged))

pub returns-clause-place : goal.returns-clause-place
returns-clause-place g c =
    let place = c.send-moved.ensures.place in
    record {
      at = place.at;
      from = place.from;
      own = place.own;
      next = (place.next.0, place.next.1, begins_trans place.next.2 c.arrive_first.ensures.adds.seen);
      base = place.base;
    }
