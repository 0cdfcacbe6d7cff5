use Rattle.std.proofs.Common.{ap, sym}
use Rattle.seq_timer.specs.declared.observation.Peek.{Peek}
use Rattle.hr_timers.proofs.Making.{looks_locked, looks_seen}
use Rattle.hr_timers.proofs.TriedNow.{now_from}
use Rattle.hr_timers.proofs.trying_now.cancel_now.Goals as goal

pub returns-clause-cancels : goal.returns-clause-cancels
returns-clause-cancels c =
    let o = c.args.row.now.about in
    let p = c.args.pass.now in
    let l = c.load_word-word.new.pass in
    let m = c.try_lock_base.new.pass in
    now_from o p l m c.cancel_held_now.new.pass c.args.timer c.load_word-word.result.base c.cancel_held_now.result
    (looks_seen p.knows l.knows c.load_word-word.ensures.sees)
    (looks_locked c.load_word-word.result.base l.knows m.knows c.in-Some.held c.in-Some.ensures.taken)
    (sym (ap (λ (w : Peek). w.base) c.load_word-word.ensures.word))
    c.cancel_held_now.ensures.cancels
