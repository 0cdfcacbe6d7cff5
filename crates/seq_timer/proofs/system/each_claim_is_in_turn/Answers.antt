use Rattle.std.proofs.Common.{subst}
use Rattle.seq_timer.specs.Systems.{IsSystemHistory}
use Rattle.seq_timer.proofs.Ties.{may_stand_behind}
use Rattle.seq_timer.proofs.system.each_claim_is_in_turn.Goals as goal

pub returns : goal.returns
returns c bases terms list log history before later x is =
    may_stand_behind bases terms list before later x (subst (IsSystemHistory bases list terms) is history)
