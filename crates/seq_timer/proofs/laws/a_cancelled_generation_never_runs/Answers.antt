use Rattle.seq_timer.proofs.Generations.{legal_never_claimed, unclaimed_spans}
use Rattle.seq_timer.proofs.laws.a_cancelled_generation_never_runs.Goals as goal

pub returns-clause-claims : goal.returns-clause-claims
returns-clause-claims c = legal_never_claimed

pub returns-clause-spans : goal.returns-clause-spans
returns-clause-spans c clock terms generation history legal cancelled = unclaimed_spans 1 generation history
    (legal_never_claimed clock terms generation history legal cancelled)
