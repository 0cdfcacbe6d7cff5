use Rattle.std.specs.Prelude.{ℕ, ◌≡◌, ◌≤◌, ◌+◌, ◌-◌, ◌*◌, List, [], length}
use Rattle.base_row.specs.Calls.{known_of}
use Rattle.hr_timers.specs.Known.{IsAtRest, LocksGoOnIn}
use Rattle.hr_timers.specs.Moves.{AreMoved, MayGoOffline}
use Rattle.hr_timers.proofs.evacuating.evacuate.Given as goal

abbrev pub invariant-loop-moved : goal.invariant-loop-moved
invariant-loop-moved g l = record {
  rest : IsAtRest l.row l.pass;
  first : l.pass.knows.id.name ≡ [];
  may : MayGoOffline l.row.about l.base l.heir (known_of l.pass.knows);
  moves : (ts : List ℕ) × (length ts ≡ l.moved) × AreMoved g.S.ReceiptSink.pushed l.row.about l.base l.heir l.reading (known_of l.fn.pass.knows) ts
      (known_of l.pass.knows) l.fn.sink l.sink;
  few : l.moved ≤ l.budget;
  room : g.S.ReceiptSink.room l.fn.sink ≤ g.S.ReceiptSink.room l.sink + 2 * l.moved;
  locks : LocksGoOnIn l.fn.pass.knows l.pass.knows;
}

abbrev pub decreases-loop-moved : goal.decreases-loop-moved
decreases-loop-moved g l = l.budget - l.moved
