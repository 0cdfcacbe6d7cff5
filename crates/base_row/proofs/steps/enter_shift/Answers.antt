use Rattle.base_row.specs.Rules.{opening_in}
use Rattle.std.proofs.Common.{subst}
use Rattle.base_row.specs.declared.view.Opening.{Opening}
use Rattle.base_row.specs.Plays.{EnteredShift}
use Rattle.base_row.proofs.Shifting.{shifts_by}
use Rattle.base_row.proofs.steps.enter_shift.Goals as goal

pub store-requires : goal.store-requires
store-requires g c =
    let seat = c.args.seat.now in
    let key = c.args.cells.now.key in
    let may = c.requires.may in (
      c.requires.same,
      may.3,
      rw (may.2, may.4, c.requires.asked)
          (shifts_by (opening_in key) seat.id seat.me.0 may.0 c.args.event.now c.requires.about c.requires.live
          may.1 c.args.cells.now.table_id.slots seat.me.1),
    )

pub returns-clause-shifted : goal.returns-clause-shifted
returns-clause-shifted g c = λ h e.
    let seat = c.args.seat.now in
    let key = c.args.cells.now.key in
    let told = c.store.ensures.2 h e in
    subst (λ x. EnteredShift (opening_in key) h x seat.me c.store.new.seat.me) c.requires.asked
    (subst (λ (o : Opening). EnteredShift o h g.K.BaseEventPick.event seat.me c.store.new.seat.me) c.requires.about told)
