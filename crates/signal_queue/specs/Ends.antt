-- The ends of a queue, as seats of its ring.
use Rattle.std.specs.Prelude.{◌≡◌, Bool, []}
use Rattle.crossbeam_queue.specs.Passes.{Pass, view}
use Rattle.signal_queue.specs.declared.ends.End.{End}
use Rattle.signal_queue.specs.declared.signal.Signal.{Signal}
use Rattle.signal_queue.specs.declared.view.QueueView.{QueueView}
use Rattle.signal_queue.specs.Views.{IsEndView}

-- a seat of a ring of signals
abbrev pub SeatOfQueue : Type 0
SeatOfQueue = Pass Signal QueueView

-- this is an end of the queue that the seat is one of
pub record IsEnd (pushing popping : Bool) (of : SeatOfQueue) (end : End) : Type 0 where
  pub queue : end.seat.table_id ≡ of.table_id
  pub rests : end.seat.me.1 ≡ []
  pub view : IsEndView (view of).room pushing popping end.count (view end.seat)
