use Rattle.std.proofs.Common.{◌≡◌, ◌+◌, replicate, rules, refl, ◌∙◌, arith}
use Rattle.ktime.specs.declared.clock_id.ClockId.TheVariants as clocks
use Rattle.seq_timer.specs.Steps.{limited}
use Rattle.seq_timer.specs.Tables.{hard_on}
use Rattle.base_row.specs.Calls.{opening_with}
use Rattle.timer_objects.specs.declared.object.Decl.{Decl}
use Rattle.timer_objects.specs.declared.object.Kind.TheVariants as kinds
use Rattle.object_uses.proofs.Alike.{suits_alike}
use Rattle.object_uses.proofs.tests.greatest.posix_timers.Goals as goal

pub returns-clause-passes : goal.returns-clause-passes
returns-clause-passes c =
    let same : c.deref.result.now ≡ replicate c.args.count (hard_on clocks.Monotonic) = search rules in
    let about = c.in_ok-timers.ensures.about ∙ (λ i. opening_with 1 (same i) (c.limited.ensures i) (c.args.count + 1)) in
    let decl : Decl = record { kind = kinds.Posix; clock = clocks.Monotonic; base = 0 } in
    let made : c.in-Ok.objects.decls ≡ replicate c.args.count decl = search rules in
    record {
      of_timers = search rules;
      of_objects = search rules;
      suits = suits_alike c.args.count 1 (c.args.count + 1) clocks.Monotonic decl (limited 281474976710640) c.in-Ok.objects c.in_ok-timers.timers.about about
          made refl (omega arith) (omega arith);
    }
