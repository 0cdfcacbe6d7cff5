use Rattle.hulayban.proofs.Waits.{base_once}
use Rattle.hulayban.proofs.laws.a_next_expiry_is_fixed.Goals as goal

pub returns : goal.returns
returns c = λ o v w v' w' base reading a a' c d hard soft. base_once o v w v' w' base reading a a' c d hard soft
