use Rattle.answer_laws.proofs.CallsBetween.{of_expire}
use Rattle.answer_laws.proofs.lives.an_expiry_run_stands_in_the_one_history.Goals as goal

pub returns : goal.returns
returns g c = λ x old new context base budget own own' a. of_expire x old new g.H.Handler.meaning context base budget own own' a
