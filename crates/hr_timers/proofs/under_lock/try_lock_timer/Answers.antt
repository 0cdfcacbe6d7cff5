use Rattle.std.proofs.Common.{◌≡◌, true, inl, sym, ap, ◌∙◌, subst}
use Rattle.seq_timer.specs.Steps.{Timer}
use Rattle.seq_timer.specs.Systems.{IsOn}
use Rattle.seq_timer.specs.declared.observation.Peek.{Peek}
use Rattle.base_row.specs.Calls.{timer_seen}
use Rattle.hr_timers.proofs.Hindered.{hindered_apart, hindered_lock, hindered_moving, if_none}
use Rattle.hr_timers.proofs.Making.{looks_seen}
use Rattle.hr_timers.proofs.under_lock.try_lock_timer.Goals as goal

pub returns-then-word-clause-why : goal.returns-then-word-clause-why
returns-then-word-clause-why c =
    let o = c.args.row.now.about in
    let l = c.load_word-word.new.pass.knows in
    let moving : (timer_seen o l c.args.timer).moving ≡ true = sym (ap (λ (w : Peek). w.moving) c.load_word-word.ensures.word) ∙ c.if-word.true in
    inl (hindered_moving o c.args.pass.now.knows l c.args.timer (looks_seen c.args.pass.now.knows l c.load_word-word.ensures.sees) moving)

pub returns-in_err-held-clause-why : goal.returns-in_err-held-clause-why
returns-in_err-held-clause-why c =
    if_none c.from_residual.result
    (hindered_lock c.args.row.now.about c.args.pass.now c.load_word-word.new.pass c.try_lock.new.pass c.args.timer c.load_word-word.result.base
    c.load_word-word.ensures.sees c.in_err-held.ensures.why (sym (ap (λ (w : Peek). w.base) c.load_word-word.ensures.word)))

pub returns-then-not-is_on-clause-why : goal.returns-then-not-is_on-clause-why
returns-then-not-is_on-clause-why c =
    let o = c.args.row.now.about in
    let t = c.args.timer in
    let base = c.load_word-word.result.base in
    let l = c.load_word-word.new.pass.knows in
    let m = c.try_lock.new.pass.knows in
    let named = sym (ap (λ (w : Peek). w.base) c.load_word-word.ensures.word) in
    inl (hindered_apart o c.args.pass.now.knows l m c.leave.new.pass.knows t base
    (looks_seen c.args.pass.now.knows l c.load_word-word.ensures.sees) c.in_ok-held.ensures.looks c.leave.ensures.looks named
    (λ on. c.if-not-is_on.ensures (subst (λ (s : Timer). IsOn base s)
    (sym (c.state.ensures.kept (subst (λ b. IsOn b (timer_seen o m t)) (sym c.in_ok-held.ensures.at) on))) on)))
