use Rattle.byte_streams.proofs.writing.write_all.Given as goal
use Rattle.std.specs.Prelude.{◌≡◌, ◌-◌, ◌≤◌, length, take}
use Rattle.byte_streams.specs.Streams.{GrowsBy}

-- the sink took all before this place, and no write failed
abbrev pub invariant-loop-at : goal.invariant-loop-at
invariant-loop-at g l = record {
  front : GrowsBy (g.K.Sink.taken l.fn.sink) (g.K.Sink.taken l.sink) (take l.at l.text);
  calm : g.K.Sink.faults l.sink ≡ g.K.Sink.faults l.fn.sink;
  within : l.at ≤ length l.text;
}

abbrev pub decreases-loop-at : goal.decreases-loop-at
decreases-loop-at g l = length l.text - l.at
