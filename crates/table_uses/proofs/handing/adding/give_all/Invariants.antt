use Rattle.std.specs.Prelude.{◌≡◌, ◌+◌, ◌≤◌, length, map, take, vec_capacity}
use Rattle.handoff.specs.Seated.{MayGive}
use Rattle.table_uses.proofs.handing.adding.give_all.Given as goal

abbrev pub invariant-loop-number : goal.invariant-loop-number
invariant-loop-number g l = record {
  giver : MayGive l.handoff l.giver;
  sums : l.sums.items ≡ map (λ n. n + l.key.by) (take l.number-index l.numbers);
  room : length l.numbers ≤ vec_capacity l.sums;
}
