use Rattle.std.proofs.Common.{refl, sym, ◌∙◌}
use Rattle.timer_objects.proofs.objects.Objects.slept.Goals as goal

pub returns-clause-looks : goal.returns-clause-looks
returns-clause-looks g c =
    let seen = c.look_at-object.ensures in
    let finds = seen.finds in (
      c.in-Sleeper.sleeper,
      record {
        reads = finds.reads;
        state = sym c.in-Sleeper.is ∙ finds.state;
        stamp = finds.stamp;
        timers = seen.looks;
        told = seen.told;
        log = refl;
        object_log = refl;
      },
      c.slept.ensures,
    )
