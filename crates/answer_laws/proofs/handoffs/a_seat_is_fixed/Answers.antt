use Rattle.std.proofs.Common.{sym, ◌∙◌}
use Rattle.answer_laws.proofs.handoffs.a_seat_is_fixed.Goals as goal

pub returns : goal.returns
returns g c = λ h part slots s s' a b. (a.same ∙ sym b.same, a.me ∙ sym b.me)
