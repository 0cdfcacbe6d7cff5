use Rattle.std.proofs.Common.{[], sym, ◌∙◌}
use Rattle.std.proofs.lemmas.List.{append-nil}
use Rattle.hr_timers.proofs.Locks.{locks_same, locks_told, locks_trans}
use Rattle.hr_timers.proofs.laws.locks_go_on_over_calls.Goals as goal

pub returns : goal.returns
returns c = record {
  stays = λ p q takes met. locks_same p.takes q.takes p.met q.met takes met;
  next = λ p q r first second. locks_trans first second;
  meets = λ p q met same told. locks_told p.takes [] q.takes p.met met q.met (same ∙ sym (append-nil p.takes)) told;
  retires = λ p q takes met more told. locks_told p.takes takes q.takes p.met met q.met more told;
}
