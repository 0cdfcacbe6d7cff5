use Rattle.std.proofs.Common.{subst, ap}
use Rattle.std.specs.Prelude.{MatchBool}
use Rattle.crossbeam_utils.specs.Seq.{cell_view}
use Rattle.clock_cell.specs.Turns.{Misses}
use Rattle.clock_cell.specs.Views.{AcceptsWrite}
use Rattle.clock_cell.proofs.Taking.{taken}
use Rattle.clock_cell.proofs.shared.SharedClock.exchange.Goals as goal

pub returns-clause-taken : goal.returns-clause-taken
returns-clause-taken g c =
    let new = cell_view c.enter.new.seat in
    subst (λ v. MatchBool c.enter.result (AcceptsWrite c.args.write v new c.args.after.now) (Misses c.args.seen.now v new)) (ap (λ p. p.knows) c.pass.view_is)
    (taken c.args.write _ new c.args.after.now c.enter.result c.args.seen.now c.enter.ensures.entered)
