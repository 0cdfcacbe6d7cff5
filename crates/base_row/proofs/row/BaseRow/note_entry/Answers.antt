use Rattle.std.proofs.Common.{◌≡◌, arith, ap, sym, subst, ◌∙◌}
use Rattle.std.specs.Prelude.{Some, unwrap_or}
use Rattle.seq_timer.specs.Steps.{Timer, after}
use Rattle.seq_timer.specs.Systems.{BaseContent, BeginsInTurn, changed}
use Rattle.seq_timer.proofs.Effects.{by_effect, placed_by}
use Rattle.base_row.specs.declared.log.Noted.TheVariants as noteds
use Rattle.base_row.specs.declared.view.Opening.{Opening}
use Rattle.base_row.specs.declared.view.BaseView.{BaseView}
use Rattle.base_row.specs.Rules.{number_of, base_seen, timer_seen, opening_in}
use Rattle.base_row.specs.Calls.{BasePassOf, BaseRowOf, Appended, stepped}
use Rattle.base_row.proofs.Placed.{placed_seen}
use Rattle.base_row.proofs.Holding.{Rested, knows_about, rested}
use Rattle.base_row.proofs.row.BaseRow.note_entry.Given.{Over}
use Rattle.base_row.proofs.row.BaseRow.note_entry.Goals as goal

-- what the table was made of
abbrev about : (g : Over) (c : goal.After-note g) → Opening
about g c = let key = c.self.inside.table.shared.key in opening_in key

-- what the entry has made of the seat
made : (g : Over) (c : goal.After-note g) → Rested (about g c) c.requires.may.0
    (changed c.args.timer (timer_seen (about g c) c.pass.inside.seat.me.0 c.args.timer) c.args.event.now c.requires.may.0.content)
    (Appended (about g c) c.requires.may.0 c.args.timer c.args.event.now c.pass.inside.seat.me.0 c.enter.new.seat.me.0) c.enter.new.seat.me
made g c =
    let h = c.requires.may.0 in
    let held = ap (λ (p : BasePassOf). p.knows.held) c.pass.view_is ∙ c.requires.may.1.may.held in
    rested (about g c) h c.args.timer c.args.event.now c.pass.inside.seat.me c.enter.new.seat.me
    (ap (λ (p : BasePassOf). p.knows.opening) c.pass.view_is ∙ (c.requires.row.about ∙ sym (ap (λ (r : BaseRowOf). r.about) c.self.view_is)))
    c.pass.invariant held (c.enter.ensures.entered h held)

pub invariant_of-pass : goal.invariant_of-pass
invariant_of-pass g c = (made g c).resting

pub returns-clause-row : goal.returns-clause-row
returns-clause-row g c = record {
  row = c.enter.ensures.same ∙ (ap (λ (p : BasePassOf). p.row) c.pass.view_is ∙ c.requires.row.row);
  about = (made g c).about ∙ ap (λ (x : BaseRowOf). x.about) c.self.view_is;
}

pub returns-clause-adds : goal.returns-clause-adds
returns-clause-adds g c = λ h held.
    let same : c.requires.may.0 ≡ h = ap (λ o. unwrap_or o h) (sym c.requires.may.1.may.held ∙ held) in
    subst (λ (x : BaseRowOf). Appended x.about h c.args.timer c.args.event.now c.args.pass.now.knows c.enter.new.seat.me.0) c.self.view_is
    (subst (λ (p : BasePassOf). Appended (about g c) h c.args.timer c.args.event.now p.knows c.enter.new.seat.me.0) c.pass.view_is
    (subst (λ x. Appended (about g c) x c.args.timer c.args.event.now c.pass.inside.seat.me.0 c.enter.new.seat.me.0) same (made g c).adds))

pub returns-clause-held : goal.returns-clause-held
returns-clause-held g c =
    (made g c).held ∙ (ap (λ (x : BaseRowOf). Some (stepped x.about c.pass.inside.seat.me.0 c.requires.may.0 c.args.timer c.args.event.now)) c.self.view_is
    ∙ (ap (λ (p : BasePassOf). Some (stepped c.args.self.now.about p.knows c.requires.may.0 c.args.timer c.args.event.now)) c.pass.view_is
    ∙ ap Some (sym c.requires.may.2)))

pub number_of-number-requires : goal.number_of-number-requires
number_of-number-requires g c =
    let o = c.args.self.now.about in
    let v = c.args.pass.now.knows in
    let may = c.requires.may.1 in
    let t = timer_seen o v c.args.timer in
    let seen = placed_seen o v c.fresh.ensures.fresh (knows_about o v c.requires.row.about c.known.ensures) c.fresh.ensures.some c.args.timer in
    let here = placed_by (BeginsInTurn (base_seen o v t.base) c.args.timer t) o.bases t c.args.event.now
    may.may.allowed.needs may.may.allowed.base.needs seen in
    record { base = omega (arith, c.fresh.ensures.few, here, ap (λ (x : Timer). x.base) (c.state-state.ensures ∙ c.requires.left)) }

pub enter-requires-clause-stamp : goal.enter-requires-clause-stamp
enter-requires-clause-stamp g c =
    c.number_of-number.ensures ∙ (ap number_of (c.state-state.ensures ∙ c.requires.left)
    ∙ (ap (λ (p : BasePassOf). number_of (after (timer_seen c.args.self.now.about p.knows c.args.timer) c.args.event.now)) (sym c.pass.view_is)
    ∙ ap (λ (x : BaseRowOf). number_of (after (timer_seen x.about c.pass.inside.seat.me.0 c.args.timer) c.args.event.now)) (sym c.self.view_is)))

pub returns-clause-logged : goal.returns-clause-logged
returns-clause-logged g c =
    let o = c.args.self.now.about in
    let v = c.args.pass.now.knows in
    let stamp = c.stamp.ensures ∙ (ap (λ (x : Timer). x.stamp) (c.state-state.ensures ∙ c.requires.left) ∙ (by_effect (timer_seen o v c.args.timer) c.args.event.now).stamp) in
    c.note.ensures.takes ∙ (λ i. g.S.ReceiptSink.pushed c.args.sink.now (record {
      timer = c.args.timer;
      number = stamp i;
      event = c.args.event.now;
      reply = noteds.Entry (c.requires.reply i);
    }))

pub returns-clause-carry : goal.returns-clause-carry
returns-clause-carry g c = ap (λ (v : BaseView BaseContent). v.carry) (returns-clause-adds g c c.requires.may.0 c.requires.may.1.may.held).rest
