-- The two types of handles.
use Rattle.std.proofs.Common.{refl}
use Rattle.hulayban_c.proofs.Handles.{Kind}
use Rattle.hulayban_c.specs.contracts.home.Home as Home
use Rattle.hulayban_c.specs.contracts.handle.Handle as Handle
use Rattle.hulayban_c.specs.contracts.shared.seat.Seat as Seat
use Rattle.hulayban_c.specs.contracts.shared.handle.SeatHandle as SeatHandle

abbrev pub of_timers : Kind
of_timers = record {
  name = (Handle.the_type).name;
  inner = Home.the_row;
  D = (Handle.the_row).Denot;
  parts = λ d. (d.at, (d.alloc, d.kept));
  made = λ q. record { at = q.0; alloc = q.1.0; kept = q.1.1 };
  same = λ q. refl;
  coded = (Handle.the_row).coded;
  shr_at = (Handle.the_row).shr_at;
}

abbrev pub of_seats : Kind
of_seats = record {
  name = (SeatHandle.the_type).name;
  inner = Seat.the_row;
  D = (SeatHandle.the_row).Denot;
  parts = λ d. (d.at, (d.alloc, d.kept));
  made = λ q. record { at = q.0; alloc = q.1.0; kept = q.1.1 };
  same = λ q. refl;
  coded = (SeatHandle.the_row).coded;
  shr_at = (SeatHandle.the_row).shr_at;
}
