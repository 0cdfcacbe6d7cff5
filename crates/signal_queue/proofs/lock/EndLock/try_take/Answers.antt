use Rattle.std.proofs.Common.{◌≡◌, sym, ◌∙◌, subst}
use Rattle.std.specs.Prelude.{Some, None}
use Rattle.signal_queue.specs.Locks.{HoldsLock}
use Rattle.signal_queue.proofs.Locks.{same_end}
use Rattle.signal_queue.proofs.lock.EndLock.try_take.Goals as goal

pub unreachable-requires : goal.unreachable-requires
unreachable-requires g c =
    let held = c.in_ok-seat.ensures.taken in
    let holds = subst (HoldsLock c.args.self.now (Some held.0)) (sym c.seat.view_is) held.1.1 in
    let e : None ≡ Some held.0 = sym c.in-None.is ∙ c.exchange.ensures.out (Some held.0) holds in
    cc

pub returns-clause-taken : goal.returns-clause-taken
returns-clause-taken g c =
    let held = c.in_ok-seat.ensures.taken in
    let holds = subst (HoldsLock c.args.self.now (Some held.0)) (sym c.seat.view_is) held.1.1 in
    let same = same_end _ _ (sym (c.exchange.ensures.out (Some held.0) holds) ∙ c.in-Some.is) in
    (subst (λ end. g.S.Side.is_end c.args.self.now.of end) same held.1.0, c.exchange.ensures.holds)
