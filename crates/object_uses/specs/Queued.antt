-- What callers leave of a pass of a queue of signals.
use Rattle.signal_queue.specs.Views.{PassOfQueue}
use Rattle.timer_objects.specs.Known.{ObjectsOf}
use Rattle.timer_objects.specs.Signals.{IsSignalPass, KeepsSignalPass}

-- it is one of the objects' queue still, with its name, and what it has seen and made goes on
pub record KeepsSignals (x : ObjectsOf) (old new : PassOfQueue) : Type 0 where
  pub pass : IsSignalPass x new
  pub keeps : KeepsSignalPass old.knows new.knows
