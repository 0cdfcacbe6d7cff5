use Rattle.std.proofs.Common.{refl, sym, ◌∙◌}
use Rattle.timer_objects.proofs.objects.Objects.getoverrun.Goals as goal

pub returns-clause-looks : goal.returns-clause-looks
returns-clause-looks g c =
    let seen = c.look_at-object.ensures in
    let finds = seen.finds in (
      c.look_at-object.result.0,
      c.in-Some.timer,
      record {
        reads = finds.reads;
        state = finds.state;
        stamp = finds.stamp;
        timers = seen.looks;
        told = seen.told;
        log = refl;
        object_log = refl;
      },
      sym c.posix_of.ensures ∙ c.in-Some.is,
      c.getoverrun.ensures,
    )
