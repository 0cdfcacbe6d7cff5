use Rattle.std.proofs.Common.{refl}
use Rattle.answer_laws.proofs.RowCalls.{commits_once, reads_once, row_same, sees_once}
use Rattle.answer_laws.proofs.rows.what_calls_on_a_row_leave_is_fixed.Goals as goal

pub returns : goal.returns
returns g c = record {
  sees = λ p q r a b. sees_once p q r a b;
  commits = λ p q r i call a b e. commits_once _ p q p r i call call (row_same p) refl a b e;
  reads = λ p q r i a b e. reads_once _ p q r i a b e;
}
