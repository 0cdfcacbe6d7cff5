use Rattle.std.proofs.Common.{refl, sym, ◌∙◌}
use Rattle.timer_objects.proofs.objects.Objects.gettime.Goals as goal

pub returns-in-Posix-object-clause-gets : goal.returns-in-Posix-object-clause-gets
returns-in-Posix-object-clause-gets g c =
    let seen = c.look_at-object.ensures in
    let finds = seen.finds in
    let state = sym c.in-Posix-object.is ∙ finds.state in
    rw (← c.in-Posix.ensures) (
      c.in-Posix-object.timer,
      record {
        reads = finds.reads;
        state = state;
        stamp = finds.stamp;
        timers = seen.looks;
        told = seen.told;
        log = refl;
        object_log = refl;
      },
      c.gettime-setting.ensures.setting,
    )

pub returns-in-Queued-object-clause-gets : goal.returns-in-Queued-object-clause-gets
returns-in-Queued-object-clause-gets g c =
    let seen = c.look_at-object-in-Queued.ensures in
    let finds = seen.finds in
    let state = sym c.in-Queued-object.is ∙ finds.state in
    rw (← c.in-Queued.ensures) (
      c.in-Queued-object.queued,
      record {
        reads = finds.reads;
        state = state;
        stamp = finds.stamp;
        timers = seen.looks;
        told = seen.told;
        log = refl;
        object_log = refl;
      },
      c.gettime-setting-in-Queued.ensures.setting,
    )
