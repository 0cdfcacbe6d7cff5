-- The room that calls on objects ask for.
use Rattle.std.proofs.Common.{ℕ, ◌+◌, ◌<◌, ◌≤◌, length, arith}
use Rattle.std.proofs.lemmas.Bool.Decides.{nat_tests}
use Rattle.seq_timer.specs.Tables.{timer_at}
use Rattle.seq_timer.specs.declared.context.Terms.{Terms}
use Rattle.base_row.specs.declared.view.Opening.{Opening}
use Rattle.hr_timers.specs.Ways.{most_to_start}
use Rattle.timer_objects.specs.Known.{ObjectsOf, Suits, decl_at, most_noted}

room_at : (terms : Terms) (base n : ℕ) → base < 2 → 4 ≤ n → 1 + most_to_start terms base ≤ n
room_at terms base n low room = grind (arith, nat_tests)

-- on one base or two, room for four receipts is enough
pub room_on : (x : ObjectsOf) (o : Opening) (id n : ℕ) → Suits x o → id < length x.decls → o.bases ≤ 2 → 4 ≤ n → most_noted x o id ≤ n
room_on x o id n suits within few room =
    room_at (timer_at o.timers id).terms (decl_at x id).base n (omega (arith, suits.bases id within, few)) room

-- so it is for each object
pub rooms_on : (x : ObjectsOf) (o : Opening) (n : ℕ) → Suits x o → o.bases ≤ 2 → 4 ≤ n → (id : ℕ) → id < length x.decls → most_noted x o id ≤ n
rooms_on x o n suits few room id within = room_on x o id n suits within few room
