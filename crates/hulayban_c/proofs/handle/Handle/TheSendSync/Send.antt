-- A handle of timers says the same to every thread, as its box does.
use denote.Param.Send.{IsSend}
use Rattle.hulayban_c.proofs.HandleKinds.{of_timers}
use Rattle.hulayban_c.proofs.Handles.{handle_send}
use Rattle.hulayban_c.proofs.home.Home.TheSendSync.{the_send}
use Rattle.hulayban_c.specs.contracts.handle.Handle.{the_row}

pub send : IsSend the_row
send = handle_send of_timers the_send
