use Rattle.ordered_clock.proofs.Moments.{never}
use Rattle.ordered_clock.proofs.laws.no_write_comes_after_its_reading.Goals as goal

pub returns : goal.returns
returns c = never
