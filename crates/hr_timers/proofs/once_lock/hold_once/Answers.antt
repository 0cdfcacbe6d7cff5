use Rattle.std.proofs.Common.{ap, rules, sym}
use Rattle.seq_timer.specs.Systems.{BaseContent}
use Rattle.seq_timer.specs.declared.observation.Peek.{Peek}
use Rattle.base_row.specs.declared.view.BaseView.{BaseView}
use Rattle.hr_timers.proofs.Making.{looks_seen}
use Rattle.hr_timers.proofs.Trying.{miss_contended}
use Rattle.hr_timers.proofs.once_lock.hold_once.Goals as goal

pub returns-in_default-clause-holds : goal.returns-in_default-clause-holds
returns-in_default-clause-holds c =
    let p = c.args.pass.now in
    let l = c.load_word-word.new.pass in
    let sees = c.load_word-word.ensures.sees in (
      search rules,
      miss_contended c.args.row.now.about p l c.lock_once.new.pass c.args.timer c.load_word-word.result.base (looks_seen p.knows l.knows sees)
          (ap (λ (y : BaseView BaseContent). y.takes) sees.rest) (ap (λ (y : BaseView BaseContent). y.met) sees.rest) c.in_default.ensures.looks
          (sym (ap (λ (w : Peek). w.base) c.load_word-word.ensures.word)) c.in_default.ensures.missed,
    )
