use Rattle.std.proofs.Common.{arith}
use Rattle.std.proofs.lemmas.Bool.{eqb-true}
use Rattle.base_row.specs.Rings.{put_counter, taken_counter}
use Rattle.ordered_signals.specs.Places.{signal_ring}
use Rattle.ordered_signals.proofs.Places.{both_at}
use Rattle.ordered_signals.proofs.pushing.is_full.Goals as goal

pub returns-clause-stands : goal.returns-clause-stands
returns-clause-stands c = λ yes popped whole.
    let o = c.args.timers.now.about in
    let same = eqb-true _ _ yes in
    let both = both_at (taken_counter o signal_ring) (put_counter o signal_ring) popped c.args.count c.raise_taken.ensures.looks.seen c.put_count.ensures.looks.seen
    (omega (arith, whole, c.in-Some.ensures, c.if-taken-popped.false, c.requires.pops))
    (omega (arith, whole, c.in-Some.ensures, c.raise_taken.ensures.count))
    c.requires.pushes (omega (arith, same, c.put_count.ensures.count)) in
    record { at = both.0.at; from = both.0.from; seen = both.0.seen; pushes = both.1; pops = both.0.count }
