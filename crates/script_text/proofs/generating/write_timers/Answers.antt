use Rattle.std.proofs.Common.{◌+◌, ◌*◌, string_bytes}
use Rattle.script_text.specs.Generator.{lane_timers, timers_of_lane}
use Rattle.script_text.specs.Scripts.{declaration_lines}
use Rattle.script_text.proofs.Generated.{written_more, timers_more}
use Rattle.script_text.proofs.generating.write_timers.Goals as goal

pub loop-lane-preserved : goal.loop-lane-preserved
loop-lane-preserved c =
    let i = c.loop-lane.lane in
    written_more (string_bytes c.args.out.now) (string_bytes c.loop-lane.out) (string_bytes c.write_two_timers.new.out)
    (declaration_lines 0 (lane_timers i))
    (declaration_lines (2 * i) (timers_of_lane i)) (declaration_lines 0 (lane_timers (i + 1))) c.loop-lane.invariant c.in_ok-write_two_timers.ensures
    (timers_more i)
