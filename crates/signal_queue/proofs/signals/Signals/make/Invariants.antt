use Rattle.crossbeam_queue.specs.Passes.{ruled_capacity}
use Rattle.signal_queue.proofs.signals.Signals.make.Given as goal

abbrev pub ghosts-open : goal.ghosts-open
ghosts-open a = record { room = ruled_capacity a.ring.now }
