use Rattle.ordered_clock.proofs.Moments.{no_older}
use Rattle.ordered_clock.proofs.laws.a_reading_is_not_older_than_what_was_seen.Goals as goal

pub returns : goal.returns
returns c = no_older
