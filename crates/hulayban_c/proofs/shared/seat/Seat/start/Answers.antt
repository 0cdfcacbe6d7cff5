use Rattle.std.proofs.Common.{sym, subst}
use Rattle.std.specs.Arc.{arc_value}
use Rattle.base_row.specs.Calls.{BaseRowOf}
use Rattle.hulayban_c.specs.Seats.{IsHeld, claims_of_seat}
use Rattle.hulayban_c.specs.declared.shared.held.Held.{Held}
use Rattle.hulayban_c.proofs.shared.seat.Seat.start.Goals as goal

pub start_held-held-requires-clause-held : goal.start_held-held-requires-clause-held
start_held-held-requires-clause-held c =
    let k = claims_of_seat c.self.inside.claim in (
      k,
      subst (λ (t : BaseRowOf). IsHeld t k c.replace-held.result) (sym c.deref.ensures)
          (subst (λ (h : Held). IsHeld (arc_value c.self.inside.timers) k h) (sym c.replace-held.ensures.value) c.self.invariant.0.0),
    )

pub invariant_of-self : goal.invariant_of-self
invariant_of-self c =
    let k = claims_of_seat c.self.inside.claim in
    let before : IsHeld c.deref.result.now k c.replace-held.result =
    subst (λ (t : BaseRowOf). IsHeld t k c.replace-held.result) (sym c.deref.ensures)
    (subst (λ (h : Held). IsHeld (arc_value c.self.inside.timers) k h) (sym c.replace-held.ensures.value) c.self.invariant.0.0) in
    let after : IsHeld (arc_value c.self.inside.timers) k c.start_held-held.result.0 =
    subst (λ (t : BaseRowOf). IsHeld t k c.start_held-held.result.0) c.deref.ensures (c.start_held-held.ensures.held k before) in
    ((subst (λ (h : Held). IsHeld (arc_value c.self.inside.timers) k h) (sym c.hold.ensures) after, c.self.invariant.0.1), c.self.invariant.1, c.self.invariant.2)
