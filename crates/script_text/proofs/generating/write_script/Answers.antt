use Rattle.std.proofs.Common.{refl}
use Rattle.script_text.proofs.Generated.{script_from_parts}
use Rattle.script_text.proofs.generating.write_script.Goals as goal

pub returns : goal.returns
returns c =
    script_from_parts c.args.seed c.args.lanes c.args.calls _ _ _ _ _ _ _ c.new-out.ensures.bytes c.in_ok-write_header.ensures c.in_ok-write_timers.ensures
    c.in_ok-write_turns.ensures c.in_ok-write_clock_round.ensures c.in_ok-write_expiry_round.ensures (rw c.into_bytes.ensures.value refl)
