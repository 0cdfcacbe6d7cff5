-- The room for the receipts of a call on an object.
use Rattle.std.proofs.Common.{ℕ, ◌<◌, ◌≤◌, arith}
use Rattle.seq_timer.specs.Tables.{timer_at}
use Rattle.base_row.specs.declared.view.Opening.{Opening}
use Rattle.hr_timers.proofs.Arriving.{arrive_most}
use Rattle.timer_objects.specs.Known.{ObjectsOf, decl_at, most_noted}

-- of as many bases as there may be, 68 is room enough
pub few_noted : (x : ObjectsOf) (o : Opening) (id : ℕ) → (decl_at x id).base < 64 → most_noted x o id ≤ 68
few_noted x o id few = omega (arith, arrive_most (timer_at o.timers id).terms (decl_at x id).base few)
