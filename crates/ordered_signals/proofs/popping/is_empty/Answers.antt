use Rattle.std.proofs.Common.{arith}
use Rattle.std.proofs.lemmas.Bool.{eqb-true}
use Rattle.base_row.specs.Rings.{put_counter, taken_counter}
use Rattle.ordered_signals.specs.Places.{signal_ring}
use Rattle.ordered_signals.proofs.Places.{both_at}
use Rattle.ordered_signals.proofs.popping.is_empty.Goals as goal

pub returns-clause-stands : goal.returns-clause-stands
returns-clause-stands c = λ yes.
    let o = c.args.timers.now.about in
    let same = eqb-true _ _ yes in
    let both = both_at (put_counter o signal_ring) (taken_counter o signal_ring) c.args.count c.args.count c.raise_put.ensures.looks.seen
    c.taken_count.ensures.looks.seen (omega (arith, c.if-put-count.false, c.requires.pushes)) (omega (arith, c.raise_put.ensures.count))
    c.requires.pops (omega (arith, same, c.taken_count.ensures.count)) in
    record { at = both.0.at; from = both.0.from; seen = both.0.seen; pushes = both.0.count; pops = both.1 }
