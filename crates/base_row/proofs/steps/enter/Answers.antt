use Rattle.base_row.specs.Rules.{opening_in}
use Rattle.base_row.specs.Places.{word_at}
use Rattle.std.proofs.Common.{ap, sym, subst, ◌∙◌}
use Rattle.base_row.specs.declared.view.Opening.{Opening}
use Rattle.base_row.specs.Plays.{EntersAs}
use Rattle.base_row.proofs.Entering.{enters_by}
use Rattle.base_row.proofs.steps.enter.Goals as goal

pub store-requires : goal.store-requires
store-requires g c =
    let seat = c.args.seat.now in
    let key = c.args.cells.now.key in (
      c.requires.same,
      c.requires.word.1,
      rw (c.requires.word.0, c.requires.stamp, c.requires.asked)
          (enters_by (opening_in key) seat.id seat.me.0 c.requires.may.0 c.args.timer c.args.event.now
          c.requires.about c.requires.live c.requires.may.1 c.requires.own c.args.cells.now.table_id.slots seat.me.1),
    )

pub returns-clause-entered : goal.returns-clause-entered
returns-clause-entered g c = λ h e.
    let seat = c.args.seat.now in
    let key = c.args.cells.now.key in
    let told = c.store.ensures.2 h c.args.timer e (c.requires.word.0 ∙ ap (λ (o : Opening). word_at o.bases c.args.timer) (sym c.requires.about)) in
    subst (λ x. EntersAs (opening_in key) h c.args.timer x seat.me c.store.new.seat.me) c.requires.asked
    (subst (λ (o : Opening). EntersAs o h c.args.timer g.K.EventPick.event seat.me c.store.new.seat.me) c.requires.about told)
