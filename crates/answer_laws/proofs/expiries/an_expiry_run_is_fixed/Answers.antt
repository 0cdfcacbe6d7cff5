use Rattle.answer_laws.proofs.ExpiryRuns.{run_once}
use Rattle.answer_laws.proofs.expiries.an_expiry_run_is_fixed.Goals as goal

pub returns : goal.returns
returns g c = λ o fresh x base reading budget k n n' h i i' log l l' a a' p q knows e at.
    run_once g.H.Handler.meaning o x base reading k h log budget n n' i i' l l' fresh knows e a a' p q at
