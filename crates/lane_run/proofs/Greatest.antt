-- The limits of each version are within what the tables and the rounds take.
use Rattle.std.proofs.Common.{◌≤◌, arith}
use Rattle.seq_timer.specs.Steps.{greatest_limit}
use Rattle.record_text.specs.declared.version.Version.{Version}
use Rattle.record_text.specs.declared.version.Version.TheVariants as versions
use Rattle.script_text.specs.Scripts.{most_script_bases, most_events, most_lanes, most_timers}

pub bases_few : (v : Version) → most_script_bases v ≤ 64
bases_few versions.One = omega arith
bases_few versions.Two = omega arith

pub lanes_few : (v : Version) → most_lanes v ≤ 64
lanes_few versions.One = omega arith
lanes_few versions.Two = omega arith

pub timers_few : (v : Version) → most_timers v ≤ 4096
timers_few versions.One = omega arith
timers_few versions.Two = omega arith

pub events_few : (v : Version) → most_events v ≤ greatest_limit
events_few versions.One = omega arith
events_few versions.Two = omega arith
