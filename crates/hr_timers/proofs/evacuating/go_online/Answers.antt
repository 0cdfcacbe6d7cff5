use Rattle.std.proofs.Common.{◌∙◌, ap, sym, subst, arith}
use Rattle.seq_timer.specs.declared.standing.BaseEvent.TheVariants as shifts
use Rattle.seq_timer.specs.declared.standing.Standing.{Standing}
use Rattle.base_row.specs.Calls.{base_seen, known_of}
use Rattle.hr_timers.specs.Moves.{ShiftsBase}
use Rattle.hr_timers.proofs.Keeping.{keeps_trans, looks_shifts, standing_locked}
use Rattle.hr_timers.proofs.Making.{looks_on, looks_trans}
use Rattle.hr_timers.proofs.Shifts.{on_before, stamp_shifts}
use Rattle.hr_timers.proofs.evacuating.go_online.Goals as goal

pub returns-clause-fits : goal.returns-clause-fits
returns-clause-fits g c =
    let o = c.args.row.now.about in
    let u = c.args.pass.now.knows in
    let v = c.lock-held.new.pass.knows in
    let w = c.leave_base.new.pass.knows in
    let here = c.standing-standing.ensures.held ∙ standing_locked o u v c.lock-held.result c.args.base
    c.lock-held.ensures.row.about c.known.ensures c.lock-held.ensures.held c.lock-held.ensures.at
    (c.lock-held.ensures.steady.shifts c.requires.first c.args.base) in (
      looks_on u w (looks_trans u v w c.lock-held.ensures.looks c.leave_base.ensures.looks),
      keeps_trans u v w c.lock-held.ensures.steady.shifts c.leave_base.ensures.keeps c.lock-held.ensures.looks.id,
      on_before o u v c.args.base c.standing-standing.result (c.standing-standing.ensures.seen ∙ ap (λ b. (base_seen o v b).standing) c.lock-held.ensures.at)
          (c.lock-held.ensures.steady.shifts c.requires.first c.args.base) (sym c.is_some.ensures ∙ c.if-is_some.false),
      ap (λ (s : Standing). s.stamp) here,
    )

pub returns-then-is_some-clause-fits : goal.returns-then-is_some-clause-fits
returns-then-is_some-clause-fits g c =
    let o = c.args.row.now.about in
    let u = c.args.pass.now.knows in
    let v = c.lock-held.new.pass.knows in
    let x = c.shift_held.new.pass.knows in
    let here = c.standing-standing.ensures.held ∙ standing_locked o u v c.lock-held.result c.args.base
    c.lock-held.ensures.row.about c.known.ensures c.lock-held.ensures.held c.lock-held.ensures.at
    (c.lock-held.ensures.steady.shifts c.requires.first c.args.base) in (
      looks_shifts o u v x c.args.base shifts.Online c.requires.first c.lock-held.ensures.looks c.lock-held.ensures.steady
          (subst (λ b. ShiftsBase o (known_of v) (known_of x) b shifts.Online) c.lock-held.ensures.at c.shift_held.ensures.shifts),
      omega (arith, ap (λ (s : Standing). s.stamp) here, stamp_shifts o u c.args.base),
    )
