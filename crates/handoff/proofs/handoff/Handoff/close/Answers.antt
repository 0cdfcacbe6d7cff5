use Rattle.std.proofs.Common.{◌≡◌, ◌∙◌, None, Some, ap, sym}
use mathlib.Core.Option.{some, some-injective}
use Rattle.handoff.specs.declared.rule.Part.TheVariants.{Ended}
use Rattle.handoff.specs.Handoffs.{knows}
use Rattle.handoff.proofs.Steps.{slot_empty}
use Rattle.handoff.proofs.handoff.Handoff.close.Goals as goal

pub unreachable-requires : goal.unreachable-requires
unreachable-requires g c =
    let key = c.self.inside.table.shared.key in
    let same = ap (λ p. p.key) c.self.view_is in
    let last = c.close_with-closed.ensures.values.2 in
    let at = last.1.1 ∙ ap (λ m. some m.0) c.requires.giver.me ∙ ap (λ k. some (knows k Ended)) (sym same) in
    let empty = last.4 0 None (slot_empty g.T.Task.can g.T.Task.done key last.0 _ last.1.0 at) in
    let e : None ≡ Some c.in-Some.field-0 = some-injective None c.take.result (sym empty ∙ c.take.ensures.value) ∙ c.in-Some.is in
    cc
