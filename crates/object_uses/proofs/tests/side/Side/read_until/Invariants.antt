use Rattle.std.proofs.Common.{◌≡◌}
use Rattle.object_uses.proofs.tests.side.Side.read_until.Given as goal

abbrev pub invariant-loop-turn : goal.invariant-loop-turn
invariant-loop-turn g l = record {
  same : l.self ≡ l.fn.self;
  reader : l.reader ≡ l.fn.reader;
}
