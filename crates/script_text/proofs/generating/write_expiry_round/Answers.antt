use Rattle.std.proofs.Common.{[], ◌∷◌, ◌+◌, string_bytes}
use Rattle.seq_timer.specs.declared.context.Context.TheVariants as contexts
use Rattle.script_text.specs.declared.script.Call.TheVariants as calls
use Rattle.script_text.specs.Generator.{expiry_round}
use Rattle.script_text.specs.Scripts.{round_lines}
use Rattle.script_text.specs.CallLines.{call_line}
use Rattle.script_text.proofs.Generated.{written_more, expiry_more}
use Rattle.script_text.proofs.generating.write_expiry_round.Goals as goal

pub loop-lane-preserved : goal.loop-lane-preserved
loop-lane-preserved c =
    let i = c.loop-lane.lane in
    written_more (string_bytes c.args.out.now) (string_bytes c.loop-lane.out) (string_bytes c.write_expire.new.out) (round_lines (expiry_round i))
    (call_line i (calls.Expire contexts.Hard i 8) ∷ []) (round_lines (expiry_round (i + 1))) c.loop-lane.invariant c.in_ok-write_expire.ensures
    (expiry_more i)
