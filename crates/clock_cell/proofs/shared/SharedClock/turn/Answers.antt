use Rattle.std.proofs.Common.{◌≡◌, Bool, true, subst}
use Rattle.std.specs.Prelude.{MatchBool}
use Rattle.clock_cell.proofs.Taking.{takes_again}
use Rattle.ktime.proofs.Writes.{shown_by}
use Rattle.clock_cell.proofs.shared.SharedClock.turn.Goals as goal

pub at-requires-clause-counted : goal.at-requires-clause-counted
at-requires-clause-counted g c = (shown_by _ _ c.read-seen.ensures.reading c.read-seen.ensures.known.legal).counted

pub at-requires-clause-changes : goal.at-requires-clause-changes
at-requires-clause-changes g c = (shown_by _ _ c.read-seen.ensures.reading c.read-seen.ensures.known.legal).changes

made : (b : Bool) (A B : Type 0) → b ≡ true → MatchBool b A B → A
made b A B e t = subst (λ x. MatchBool x A B) e t

pub returns-then-exchange-clause-turned : goal.returns-then-exchange-clause-turned
returns-then-exchange-clause-turned g c =
    takes_again _ _ _ c.args.write c.in-Ok.after c.read-seen.ensures.looks (made c.exchange.result _ _ c.if-exchange.true c.exchange.ensures.taken)
