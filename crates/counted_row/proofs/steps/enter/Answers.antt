use Rattle.std.proofs.Common.{◌≡◌, [], ◌∷◌, ap, sym, subst, ◌∙◌}
use Rattle.pass_names.specs.Passes.{Adds}
use Rattle.atomic_table.specs.Table.{rest}
use Rattle.counted_row.specs.Views.{committed}
use Rattle.counted_row.proofs.Committing.{enters}
use Rattle.counted_row.proofs.steps.enter.Goals as goal

pub store-requires : goal.store-requires
store-requires g c =
    let seat = c.args.seat.now in
    let ready = c.requires.ready.1 in (
      c.requires.same,
      c.requires.word.1,
      rw (c.requires.word.0, ready.slots)
          (enters g.O.Object.meaning c.counts.ensures.counts c.args.cells.now.key.value.items c.args.cells.now.table_id.slots seat.id seat.me.0
          (record { index = c.args.index; stamp = c.args.stamp; state = c.requires.ready.0 }) c.args.call.now
          (λ call. g.row.O-Call.coded.code call ≡ g.K.CallPick.code)
          (sym c.requires.asked) c.requires.known.0 c.requires.known.1 ready.held ready.may ready.permits c.requires.short),
    )

pub returns-clause-entered : goal.returns-clause-entered
returns-clause-entered g c = λ h e.
    let told = c.store.ensures.2 h e in
    let same = g.row.O-Call.coded.inj told.call c.args.call.now (told.asked ∙ c.requires.asked) in
    told.after ∙ ap (λ call. (committed g.O.Object.meaning h call c.args.seat.now.me.0, rest c.args.seat.now.me.1)) same

pub returns-clause-knows : goal.returns-clause-knows
returns-clause-knows g c = (c.store.ensures.2 (record { index = c.args.index; stamp = c.args.stamp; state = c.requires.ready.0 }) c.requires.ready.1.held).knows

pub returns-clause-adds : goal.returns-clause-adds
returns-clause-adds g c = λ h e.
    let told = c.store.ensures.2 h e in
    let same = g.row.O-Call.coded.inj told.call c.args.call.now (told.asked ∙ c.requires.asked) in
    subst (λ call. Adds c.args.seat.now.me.0.pass c.store.new.seat.me.0.pass h.index
    (record { call = call; reply = g.O.Object.meaning.reply h.state call } ∷ [])) same told.adds

pub returns-clause-count : goal.returns-clause-count
returns-clause-count g c = λ h e. (c.store.ensures.2 h e).count
