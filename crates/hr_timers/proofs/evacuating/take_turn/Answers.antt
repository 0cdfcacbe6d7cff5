use Rattle.std.proofs.Common.{◌≡◌, ◌<◌, ◌≤◌, ◌+◌, true, refl, ap, subst, sym, ◌∙◌, arith}
use Rattle.seq_timer.specs.Steps.{Timer}
use Rattle.seq_timer.specs.Tables.{IsUnused, is_armed_on}
use Rattle.seq_timer.specs.declared.standing.BaseEvent.TheVariants as shifts
use Rattle.base_row.specs.Calls.{known_of, timer_seen}
use Rattle.hr_timers.specs.Moves.{ShiftsBase}
use Rattle.hr_timers.proofs.Shifts.{stamp_shifts}
use Rattle.hr_timers.proofs.Standing.{knows_in}
use Rattle.hr_timers.proofs.Turning.{front_left, held_idle, left_first, left_idle, may_turn, moves_after, only_looks, spent_then}
use Rattle.seq_timer.specs.declared.standing.Standing.{Standing}
use Rattle.seq_timer.specs.Standings.{last_standing}
use Rattle.hr_timers.proofs.Keeping.{armed_on, looks_shifts, standing_locked}
use Rattle.hr_timers.proofs.Shifts.{standing_kept}
use Rattle.hr_timers.proofs.evacuating.take_turn.Goals as goal

pub shift_held-requires-clause-may : goal.shift_held-requires-clause-may
shift_held-requires-clause-may g c =
    let here = standing_locked c.args.row.now.about c.args.pass.now.knows c.lock-held.new.pass.knows c.lock-held.result c.args.base
    c.lock-held.ensures.row.about c.known.ensures c.lock-held.ensures.held c.lock-held.ensures.at
    (c.lock-held.ensures.steady.shifts c.requires.first c.args.base) in (
      ap (λ (s : Standing). s.heir) here ∙ c.requires.may.online,
      subst (λ b. c.args.heir < b) (sym c.lock-held.ensures.at) c.requires.bases.1,
      subst (λ (s : Standing). s.stamp < last_standing) (sym here) c.requires.may.stamp,
    )

pub move_one-requires-clause-online : goal.move_one-requires-clause-online
move_one-requires-clause-online g c =
    ap (λ (s : Standing). s.heir) (standing_kept c.args.row.now.about c.args.pass.now.knows c.lock-held.new.pass.knows c.args.heir
    (c.lock-held.ensures.steady.shifts c.requires.first c.args.heir)) ∙ c.requires.may.heir_online

pub shift_held-requires-clause-heir : goal.shift_held-requires-clause-heir
shift_held-requires-clause-heir g c =
    ap (λ (s : Standing). s.heir) (standing_kept c.args.row.now.about c.args.pass.now.knows c.lock-held.new.pass.knows c.args.heir
    (c.lock-held.ensures.steady.shifts c.requires.first c.args.heir)) ∙ c.requires.may.heir_online

pub returns-in-Some-clause-turns : goal.returns-in-Some-clause-turns
returns-in-Some-clause-turns g c =
    let o = c.args.row.now.about in
    let w = c.leave_base.new.pass.knows in
    let run = left_first o w c.lock-held.result.content.content c.args.base c.in-Some.timer c.in-Some.generation c.leave_base.ensures.idle
    c.leave_base.ensures.busy c.in-Some.ensures.busy in (
      only_looks c.args.pass.now.knows c.lock-held.new.pass.knows w c.args.sink.now c.lock-held.ensures.looks c.lock-held.ensures.steady
          c.leave_base.ensures.looks c.leave_base.ensures.keeps,
      run.0,
      run.1,
    )

pub returns-then-is_spent-clause-turns : goal.returns-then-is_spent-clause-turns
returns-then-is_spent-clause-turns g c =
    let o = c.args.row.now.about in
    let v = c.lock-held.new.pass.knows in
    let w = c.leave_base-then-is_spent.new.pass.knows in
    let t = c.in-Some-front.timer in
    let armed = subst (λ b. is_armed_on b (timer_seen o v t) ≡ true) c.lock-held.ensures.at c.in-Some-front.ensures.armed in
    let kept = c.leave_base-then-is_spent.ensures.own t c.in-Some-front.ensures.within (armed_on c.args.base (timer_seen o v t) armed) in
    let is = c.state.ensures.kept (armed_on c.lock-held.result.base (timer_seen o v t) c.in-Some-front.ensures.armed) in (
      only_looks c.args.pass.now.knows v w c.args.sink.now c.lock-held.ensures.looks c.lock-held.ensures.steady
          c.leave_base-then-is_spent.ensures.looks c.leave_base-then-is_spent.ensures.keeps,
      left_idle o w c.args.base (λ x. c.leave_base-then-is_spent.ensures.idle x (c.in_default.ensures.idle x)),
      c.if-not-goes_on.false,
      subst (λ (x : Timer). is_armed_on c.args.base x ≡ true) (sym kept) armed,
      c.stamp-stamp.ensures ∙ ap (λ (x : Timer). x.stamp) (is ∙ sym kept),
      spent_then o v t c.stamp-stamp.result (subst (λ (x : Timer). x.terms.limit + x.terms.reach ≤ c.stamp-stamp.result) is
          (omega (arith, c.is_spent.ensures.spent c.if-is_spent.true, c.stamp-stamp.ensures))),
      front_left o w c.args.base t c.lock-held.result.content c.leave_base-then-is_spent.ensures.content c.in-Some-front.ensures.front,
    )

pub move_one-requires-clause-needs : goal.move_one-requires-clause-needs
move_one-requires-clause-needs g c =
    let o = c.args.row.now.about in
    let v = c.lock-held.new.pass.knows in
    let h = c.lock-held.result in
    let t = c.in-Some-front.timer in
    let armed = c.in-Some-front.ensures.armed in
    let base = c.lock-held.ensures.at in
    may_turn o v h t c.args.heir c.state.result.now (c.state.ensures.kept (armed_on h.base (timer_seen o v t) armed)) armed
    (held_idle o v h c.fresh.ensures.fresh (knows_in o v c.lock-held.ensures.row.about c.known.ensures) c.lock-held.ensures.held c.in_default.ensures.idle t)
    (omega (arith, base, c.requires.bases.1)) (omega (arith, base, c.requires.bases.0, c.requires.bases.2))
    (c.requires.reach t c.in-Some-front.ensures.within) (c.is_spent.ensures.room c.if-is_spent.false)

pub returns-in-None-clause-turns : goal.returns-in-None-clause-turns
returns-in-None-clause-turns g c =
    let o = c.args.row.now.about in
    let v = c.args.pass.now.knows in
    let w = c.lock-held.new.pass.knows in
    let x = c.shift_held.new.pass.knows in
    let event = shifts.Offline c.args.heir in
    let here = standing_locked o v w c.lock-held.result c.args.base
    c.lock-held.ensures.row.about c.known.ensures c.lock-held.ensures.held c.lock-held.ensures.at
    (c.lock-held.ensures.steady.shifts c.requires.first c.args.base) in (
      looks_shifts o v w x c.args.base event c.requires.first c.lock-held.ensures.looks c.lock-held.ensures.steady
          (subst (λ b. ShiftsBase o (known_of w) (known_of x) b event) c.lock-held.ensures.at c.shift_held.ensures.shifts),
      omega (arith, ap (λ (s : Standing). s.stamp) (c.standing-stamp.ensures.held ∙ here), stamp_shifts o v c.args.base),
      subst (λ b. IsUnused (timer_seen o x) b) c.lock-held.ensures.at (c.shift_held.ensures.unused c.args.heir refl),
      refl,
    )

pub returns-in-Some-front-clause-turns : goal.returns-in-Some-front-clause-turns
returns-in-Some-front-clause-turns g c =
    let o = c.args.row.now.about in
    let v = c.lock-held.new.pass.knows in
    let w = c.leave_base-in-Some-front.new.pass.knows in
    let t = c.in-Some-front.timer in
    let armed = subst (λ b. is_armed_on b (timer_seen o v t) ≡ true) c.lock-held.ensures.at c.in-Some-front.ensures.armed in
    let kept = c.leave_base-in-Some-front.ensures.own t c.in-Some-front.ensures.within (armed_on c.args.base (timer_seen o v t) armed) in (
      only_looks c.args.pass.now.knows v w c.args.sink.now c.lock-held.ensures.looks c.lock-held.ensures.steady
          c.leave_base-in-Some-front.ensures.looks c.leave_base-in-Some-front.ensures.keeps,
      left_idle o w c.args.base (λ x. c.leave_base-in-Some-front.ensures.idle x (c.in_default.ensures.idle x)),
      c.if-not-goes_on.true,
      subst (λ (x : Timer). is_armed_on c.args.base x ≡ true) (sym kept) armed,
      front_left o w c.args.base t c.lock-held.result.content c.leave_base-in-Some-front.ensures.content c.in-Some-front.ensures.front,
    )

pub returns-else-is_spent-clause-turns : goal.returns-else-is_spent-clause-turns
returns-else-is_spent-clause-turns g c =
    let o = c.args.row.now.about in
    let v = c.lock-held.new.pass.knows in
    let h = c.lock-held.result in
    let t = c.in-Some-front.timer in
    let armed = c.in-Some-front.ensures.armed in
    let at = c.lock-held.ensures.at in
    let told = c.move_one.ensures in (
      moves_after g.S.ReceiptSink.pushed o c.args.base c.args.heir c.args.reading c.args.pass.now.knows v c.move_one.new.pass.knows t c.state.result.now h
          c.args.sink.now c.move_one.new.sink c.lock-held.ensures.looks c.lock-held.ensures.steady
          (c.state.ensures.kept (armed_on h.base (timer_seen o v t) armed)) c.fresh.ensures.fresh
          (knows_in o c.move_one.new.pass.knows told.rest.row.about c.known-in-Some-2.ensures) at c.in_default.ensures.idle
          (subst (λ b. is_armed_on b (timer_seen o v t) ≡ true) at armed) c.in-Some-front.ensures.front told.adds told.place told.keeps told.claims
          told.logged,
      c.if-not-goes_on.false,
    )
