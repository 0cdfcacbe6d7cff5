-- The moments of a push and a pop, as the turns of the queue before it.
use Rattle.std.specs.Prelude.{ℕ, List, Option, Some, None}
use Rattle.signal_queue.specs.Calls.{PopsSignal, PushesSignal}
use Rattle.signal_queue.specs.Rules.{turns}
use Rattle.signal_queue.specs.declared.signal.Signal.{Signal}
use Rattle.signal_queue.specs.declared.signal.Turn.{Turn}
use Rattle.signal_queue.specs.declared.signals.Push.{Push}
use Rattle.signal_queue.specs.declared.signals.Push.TheVariants.{Queued, Full}
use Rattle.signal_queue.specs.declared.view.QueueView.{QueueView}

-- the turns after which a push was made, or found the queue full
abbrev pub push_moment : (room : ℕ) (v w : QueueView) (s : Signal) (a : Push) → PushesSignal room v w s a → List Turn
push_moment room v w s Queued p = p.0.before
push_moment room v w s (Full most) p = turns w

-- the turns after which a pop was made, or found the queue empty
abbrev pub pop_moment : (v w : QueueView) (a : Option Signal) → PopsSignal v w a → List Turn
pop_moment v w (Some s) p = p.before
pop_moment v w None p = turns w
