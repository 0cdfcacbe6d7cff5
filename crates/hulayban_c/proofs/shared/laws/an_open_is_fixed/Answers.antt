use Rattle.hulayban_c.proofs.SeatLaws.{open_once}
use Rattle.hulayban_c.proofs.shared.laws.an_open_is_fixed.Goals as goal

pub returns : goal.returns
returns c = λ was bases declares max_events r r' is is' a b no no'. open_once bases declares max_events r r' is is' no no' was a b
