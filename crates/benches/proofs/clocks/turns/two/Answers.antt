use Rattle.std.proofs.Common.{length, ap, arith}
use Rattle.clock_cell.proofs.Counting.{made, made_joined}
use Rattle.benches.proofs.clocks.turns.two.Goals as goal

pub ended-requires-clause-made : goal.ended-requires-clause-made
ended-requires-clause-made g c =
    let all = c.two_beside-made in
    let second = c.split-second.ensures in
    let writer = c.split-writer.ensures in
    let read = all.ensures.read in
    let both = made_joined all.new.first.knows all.new.second.knows c.join.ensures.joined in
    let joined = made_joined c.join.new.main.knows all.new.writer.knows c.join-2.ensures.joined in
    let begun = ap made c.in_ok-clock.ensures.first in
    omega (
      arith,
      both,
      joined,
      ap length read.0.mine,
      ap length read.1.mine,
      all.ensures.written.mine,
      ap made second.splitter,
      ap made second.new,
      ap made writer.splitter,
      ap made writer.new,
      begun,
    )
