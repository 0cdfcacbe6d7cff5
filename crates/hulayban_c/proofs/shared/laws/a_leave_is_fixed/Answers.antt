use Rattle.hulayban_c.proofs.SeatLaws.{leave_once}
use Rattle.hulayban_c.proofs.shared.laws.a_leave_is_fixed.Goals as goal

pub returns : goal.returns
returns c = λ was r r' is is' whole a b. leave_once r r' is is' was whole a b
