use Rattle.std.specs.Prelude.{◌≡◌, None, []}
use Rattle.pass_names.specs.SharedHistory.{LooksOn}
use Rattle.counted_row.specs.Views.{IsPassOfRow, Sees}
use Rattle.hr_timers.specs.Known.{IsPassOf}
use Rattle.timer_objects.specs.Known.{row_of}
use Rattle.timer_objects.proofs.objects.Objects.lock_behind.Given as goal

abbrev pub invariant-loop : goal.invariant-loop
invariant-loop g l = record {
  can : (goal.iterator-loop g).can_next l.iterator';
  ends : (goal.iterator-loop g).is_finite l.iterator';
  pass : IsPassOf l.fn.timers l.pass;
  looks : LooksOn l.fn.pass.known l.pass.known;
  row : IsPassOfRow (row_of l.fn.self) l.objects_pass;
  idle : l.objects_pass.knows.held ≡ None;
  unclaimed : l.objects_pass.knows.claims ≡ [];
  sees : Sees l.fn.objects_pass l.objects_pass;
}
