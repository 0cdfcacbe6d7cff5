use Rattle.std.proofs.Common.{length, ap, sym, ◌∙◌, subst, refl, arith}
use Rattle.pass_names.specs.Counts.{count}
use Rattle.pass_names.specs.Names.{IsLast}
use Rattle.pass_names.specs.Passes.{is_place}
use Rattle.seq_timer.specs.Tables.{timer_at}
use Rattle.base_row.specs.declared.view.Opening.{Opening}
use Rattle.hr_timers.specs.Known.{KnownOfTimers}
use Rattle.shared_timer_uses.proofs.Counting.{peek_counts}
use Rattle.shared_timer_uses.proofs.threads.start_anew.Goals as goal

pub returns : goal.returns
returns g c =
    let made = c.in_ok-timers.ensures in
    let told = c.start_by_two-first.ensures in
    let look = c.peek-stamp.ensures in
    let first : IsLast c.in_ok-timers.pass.known.id = subst (λ (k : KnownOfTimers). IsLast k.id) (sym made.first) (record { first = refl; alone = refl }) in
    let last : IsLast c.peek-stamp.new.pass.known.id = subst IsLast (sym look.peeks.made.id) (told.last first) in
    omega (
      arith,
      peek_counts c.in_ok-timers.timers.about _ _ c.peek-stamp.result (ap (λ (o : Opening). length o.timers) made.about)
          (ap (λ (o : Opening). (timer_at o.timers 0).stamp) made.about) look.peeks (look.pass.knows.whole last)
          (λ i m apart. told.elsewhere i m apart ∙ ap (λ (k : KnownOfTimers). count (is_place i m) k.mine) made.first),
      told.mine,
      ap (λ (k : KnownOfTimers). length k.mine) made.first,
    )
