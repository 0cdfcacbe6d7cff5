use Rattle.hulayban_c.proofs.SeatLaws.{split_once}
use Rattle.hulayban_c.proofs.shared.laws.a_split_is_fixed.Goals as goal

pub returns : goal.returns
returns c = λ was none r r' is is' new new' whole a b no no'. split_once r r' is is' new new' no no' was none whole a b
