use Rattle.std.proofs.Common.{length, ap, arith}
use Rattle.clock_cell.proofs.Counting.{made, made_joined}
use Rattle.benches.proofs.clocks.turns.one.Goals as goal

pub ended-requires-clause-made : goal.ended-requires-clause-made
ended-requires-clause-made g c =
    let both = c.one_beside-made in
    let split = c.split-writer.ensures in
    let joined = made_joined both.new.reader.knows both.new.writer.knows c.join.ensures.joined in
    let begun = ap made c.in_ok-clock.ensures.first in
    omega (arith, joined, ap length both.ensures.read.mine, both.ensures.written.mine, ap made split.splitter, ap made split.new, begun)
