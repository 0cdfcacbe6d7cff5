use Rattle.std.proofs.Common.{◌∙◌, [], ◌∷◌, None, ap, arith, refl, subst, sym}
use Rattle.atomic_table.specs.Table.{Splits, step}
use mathlib.Core.Option.{none}
use Rattle.handoff.specs.declared.rule.Part.TheVariants.{First, Alone, Idle, Ready}
use Rattle.handoff.specs.Handoffs.{BeginsGiving, IsHandoff, knows}
use Rattle.handoff.proofs.Steps.{begins, is_fresh, may_step, parts}
use Rattle.handoff.proofs.handoff.Handoff.make.Goals as goal

pub store-requires : goal.store-requires
store-requires g c =
    let can = g.T.Task.can in
    let done = g.T.Task.done in
    let shared = c.in_ok-table.table.shared in
    let told = c.in_ok-table.ensures in
    may_step can done {id = shared.table_id} {key = shared.key} refl told.0 c.in_ok-table.giver (λ x. 0) (λ n m x after. BeginsGiving (step n 0 0 0 none) m 0 after)
    (record { same = told.2; me = told.4 ∙ ap (λ k. (knows k First, [])) (sym told.5) }) (begins can done shared.key shared.table_id.slots _)

pub split_seat-worker-requires : goal.split_seat-worker-requires
split_seat-worker-requires g c =
    let can = g.T.Task.can in
    let done = g.T.Task.done in
    let key = c.in_ok-table.table.shared.key in
    let told = c.in_ok-table.ensures in
    let begun = c.store.ensures in
    let alone = begun.2 ∙ ap (λ m. (knows m.0.key Alone, (0, None) ∷ [])) told.4 ∙ ap (λ k. (knows k Alone, (0, None) ∷ [])) (sym told.5) in (
      begun.0 ∙ told.2,
      omega (arith, told.0),
      subst (λ m. Splits (IsHandoff (can key) (done key) key) c.store.new.seat.id m.0 (knows m.0.key Idle) (knows m.0.key Ready)) (sym alone) (parts can done key _),
    )

pub vacant-requires : goal.vacant-requires
vacant-requires g c = is_fresh g.T.Task.can g.T.Task.done c.args.key.now
