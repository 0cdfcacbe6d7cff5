use Rattle.std.proofs.Common.{◌∙◌, ap, sym, subst, arith}
use Rattle.pass_names.proofs.Names.{answers_split}
use Rattle.counted_row.specs.Views.{Knows}
use Rattle.counted_row.proofs.Knowing.{knows_split, knows_new}
use Rattle.counted_row.proofs.Splitting.{splits}
use Rattle.counted_row.proofs.row.Row.split.Goals as goal

pub split_seat-requires : goal.split_seat-requires
split_seat-requires g c =
    let seat = c.check.new.seat in
    let same = c.check.ensures.same in
    let shared = c.self.inside.table.shared in (
      same.0 ∙ (ap (λ p. p.row) c.pass.view_is ∙ (c.requires.row.row ∙ ap (λ r. r.id) (sym c.self.view_is))),
      omega (arith, c.self.invariant.0),
      splits g.O.Object.meaning shared.key.value.items seat.id seat.me.0 (ap (λ m. m.0.pass.id.live) same.1 ∙ c.pass.invariant.live),
    )

pub returns-clause-answers : goal.returns-clause-answers
returns-clause-answers g c =
    let told = c.split_seat.ensures in
    answers_split c.check.new.seat.me.0.pass.id _ _ (ap (λ m. m.0.pass.id) told.2) (ap (λ m. m.0.pass.id) told.4)

pub returns-clause-known : goal.returns-clause-known
returns-clause-known g c =
    let told = c.split_seat.ensures in
    let m = g.O.Object.meaning in
    let knows = subst (λ me. Knows m me.0) (sym c.check.ensures.same.1) c.check.ensures.knows in
    let view = c.check.new.seat.me.0 in
    (subst (λ me. Knows m me.0) (sym told.2) (knows_split m view knows), subst (λ me. Knows m me.0) (sym told.4) (knows_new m view knows))
