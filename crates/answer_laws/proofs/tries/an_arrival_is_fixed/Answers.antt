use Rattle.answer_laws.proofs.TryCalls.{carry_once, land_once, send_on_once}
use Rattle.answer_laws.proofs.tries.an_arrival_is_fixed.Goals as goal

pub returns : goal.returns
returns c = record { lands = land_once; goes_on = send_on_once; carried = carry_once }
