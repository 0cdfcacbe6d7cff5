-- A handle of a seat says the same to every thread, as its box does.
use denote.Param.Send.{IsSend}
use Rattle.hulayban_c.proofs.HandleKinds.{of_seats}
use Rattle.hulayban_c.proofs.Handles.{handle_send}
use Rattle.hulayban_c.proofs.shared.seat.Seat.TheSendSync.{the_send}
use Rattle.hulayban_c.specs.contracts.shared.handle.SeatHandle.{the_row}

pub send : IsSend the_row
send = handle_send of_seats the_send
