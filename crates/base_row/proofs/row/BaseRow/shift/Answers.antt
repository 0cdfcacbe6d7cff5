use Rattle.std.proofs.Common.{◌+◌, ◌<◌, length, ap, sym, ◌∙◌, subst, arith}
use Rattle.std.specs.Prelude.{Some}
use Rattle.seq_timer.specs.declared.standing.Standing.{Standing}
use Rattle.seq_timer.specs.Standings.{standing_after}
use Rattle.seq_timer.specs.Systems.{BaseContent, shifted}
use Rattle.base_row.specs.declared.view.HeldContent.{HeldContent}
use Rattle.base_row.specs.declared.view.Opening.{Opening}
use Rattle.base_row.specs.Places.{word_at}
use Rattle.base_row.specs.Rules.{base_place, standing_number, opening_in}
use Rattle.base_row.specs.Plays.{MayEnterShift}
use Rattle.base_row.specs.Calls.{BasePassOf, BaseRowOf, Shifted}
use Rattle.base_row.proofs.Holding.{Rested, knows_about, rested_shift}
use Rattle.base_row.proofs.Placed.{shift_room, standing_held}
use Rattle.base_row.proofs.Shifting.{stamp_after}
use Rattle.base_row.proofs.row.BaseRow.shift.Goals as goal

-- the base's stamp has room
pub after-now-requires : goal.after-now-requires
after-now-requires c =
    let o = c.args.self.now.about in
    let v = c.args.pass.now.knows in
    let h = c.args.held.now in
    record {
      few = subst (λ (s : Standing). s.stamp < 65535) (sym c.standing.ensures) (shift_room h.base h.content.standing c.args.event c.requires.may.may
          (standing_held o v h (knows_about o v c.requires.row.about c.known.ensures) c.requires.may.held));
    }

pub pack_standing-number-requires : goal.pack_standing-number-requires
pack_standing-number-requires c =
    let o = c.args.self.now.about in
    let v = c.args.pass.now.knows in
    let h = c.args.held.now in
    let room = shift_room h.base h.content.standing c.args.event c.requires.may.may
    (standing_held o v h (knows_about o v c.requires.row.about c.known.ensures) c.requires.may.held) in
    record {
      few = omega (
        arith,
        room,
        ap (λ (s : Standing). s.stamp) (c.after-now.ensures ∙ ap (λ s. standing_after s c.args.event) c.standing.ensures),
        stamp_after h.content.standing c.args.event,
      );
    }

pub base_index-word-requires : goal.base_index-word-requires
base_index-word-requires c =
    let o = c.args.self.now.about in
    let v = c.args.pass.now.knows in
    let h = c.args.held.now in
    subst (λ b. b < o.bases) (sym (c.base.ensures ∙ ap (λ (x : HeldContent BaseContent). x.base) c.shift.ensures))
    ((knows_about o v c.requires.row.about c.known.ensures).held h c.requires.may.held).0

abbrev about : goal.After-enter_shift → Opening
about c = let key = c.self.inside.table.shared.key in opening_in key

made : (c : goal.After-enter_shift) → Rested (about c) c.args.held.now (shifted c.args.event c.args.held.now.content)
    (Shifted (about c) c.args.held.now c.args.event c.pass.inside.seat.me.0 c.enter_shift.new.seat.me.0) c.enter_shift.new.seat.me
made c =
    let held = ap (λ (p : BasePassOf). p.knows.held) c.pass.view_is ∙ c.requires.may.held in
    rested_shift (about c) c.args.held.now c.args.event c.pass.inside.seat.me c.enter_shift.new.seat.me
    (ap (λ (p : BasePassOf). p.knows.opening) c.pass.view_is ∙ (c.requires.row.about ∙ sym (ap (λ (r : BaseRowOf). r.about) c.self.view_is)))
    c.pass.invariant held (c.enter_shift.ensures.shifted c.args.held.now held)

pub enter_shift-requires-clause-may : goal.enter_shift-requires-clause-may
enter_shift-requires-clause-may c =
    let key = c.self.inside.table.shared.key in
    let at = c.base.ensures ∙ ap (λ (x : HeldContent BaseContent). x.base) c.shift.ensures in (
      c.args.held.now,
      subst (λ (p : BasePassOf). MayEnterShift p.knows c.args.held.now c.args.event) (sym c.pass.view_is) c.requires.may,
      c.base_index-word.ensures.place
          ∙ (ap (λ (x : BaseRowOf). word_at x.about.bases (base_place (length x.about.timers) c.base.result)) (sym c.self.view_is)
          ∙ ap (λ b. word_at key.bases (base_place (length key.timers.value.items) b)) at),
      omega (
        arith,
        c.base_index-word.ensures.inside,
        ap (λ (x : BaseRowOf). word_at x.about.bases (length x.about.timers + x.about.bases)) c.self.view_is,
        c.self.invariant.0,
      ),
      c.pack_standing-number.ensures ∙ ap standing_number (c.after-now.ensures ∙ ap (λ s. standing_after s c.args.event) c.standing.ensures),
    )

pub invariant_of-pass : goal.invariant_of-pass
invariant_of-pass c = (made c).resting

pub returns-clause-row : goal.returns-clause-row
returns-clause-row c = record {
  row = c.enter_shift.ensures.same ∙ (ap (λ (p : BasePassOf). p.row) c.pass.view_is ∙ c.requires.row.row);
  about = (made c).about ∙ ap (λ (x : BaseRowOf). x.about) c.self.view_is;
}

pub returns-clause-held : goal.returns-clause-held
returns-clause-held c = (made c).held ∙ ap Some (sym c.shift.ensures)

pub returns-clause-shifts : goal.returns-clause-shifts
returns-clause-shifts c =
    subst (λ (x : BaseRowOf). Shifted x.about c.args.held.now c.args.event c.args.pass.now.knows c.enter_shift.new.seat.me.0) c.self.view_is
    (subst (λ (p : BasePassOf). Shifted (about c) c.args.held.now c.args.event p.knows c.enter_shift.new.seat.me.0) c.pass.view_is (made c).adds)
