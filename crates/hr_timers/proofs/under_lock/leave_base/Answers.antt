use Rattle.std.proofs.Common.{◌≡◌, subst, sym, false}
use Rattle.base_row.specs.declared.view.Opening.{Opening}
use Rattle.base_row.specs.Plays.{KnowsBases}
use Rattle.base_row.specs.Calls.{base_seen, timer_seen}
use Rattle.seq_timer.specs.Tables.{IsStopped, in_context, runs_on}
use Rattle.seq_timer.specs.Halves.{running_on}
use Rattle.std.specs.Prelude.{Some}
use Rattle.seq_timer.specs.Systems.{IsOn}
use Rattle.base_row.proofs.Calling.{seen_same}
use Rattle.hr_timers.proofs.Leaving.{left_idle, left_busy, left_none}
use Rattle.hr_timers.proofs.under_lock.leave_base.Goals as goal

pub returns-clause-idle : goal.returns-clause-idle
returns-clause-idle c = λ x is t.
    let o = c.args.row.now.about in
    let w = c.unlock_base.new.pass.knows in
    let knows = subst (λ (q : Opening). KnowsBases q w) c.unlock_base.ensures.row.about c.known.ensures in
    subst (λ b. runs_on b (in_context x (timer_seen o w) t) ≡ false) c.requires.base
    (left_idle o c.args.held c.args.pass.now.knows w c.fresh.ensures.fresh knows c.unlock_base.ensures.free x is t)

pub returns-clause-busy : goal.returns-clause-busy
returns-clause-busy c = λ x t g is.
    let o = c.args.row.now.about in
    let w = c.unlock_base.new.pass.knows in
    let knows = subst (λ (q : Opening). KnowsBases q w) c.unlock_base.ensures.row.about c.known.ensures in
    subst (λ b. running_on b (in_context x (timer_seen o w) t) ≡ Some g) c.requires.base
    (left_busy o c.args.held c.args.pass.now.knows w c.fresh.ensures.fresh knows c.unlock_base.ensures.free x t g is)

pub returns-clause-none : goal.returns-clause-none
returns-clause-none c = λ x reading is clock.
    let o = c.args.row.now.about in
    let w = c.unlock_base.new.pass.knows in
    let knows = subst (λ (q : Opening). KnowsBases q w) c.unlock_base.ensures.row.about c.known.ensures in
    subst (λ b. IsStopped (in_context x (timer_seen o w)) b reading clock) c.requires.base
    (left_none o c.args.held c.args.pass.now.knows w c.fresh.ensures.fresh knows c.unlock_base.ensures.free x reading is clock)

pub returns-clause-content : goal.returns-clause-content
returns-clause-content c =
    let o = c.args.row.now.about in
    let w = c.unlock_base.new.pass.knows in
    subst (λ b. base_seen o w b ≡ c.args.held.content) c.requires.base c.unlock_base.ensures.free.content

pub returns-clause-keeps : goal.returns-clause-keeps
returns-clause-keeps c = c.unlock_base.ensures.free.steady.shifts

pub returns-clause-own : goal.returns-clause-own
returns-clause-own c = λ t inside on. seen_same c.args.row.now.about c.args.pass.now.knows c.unlock_base.new.pass.knows t
    (c.unlock_base.ensures.free.own t inside (subst (λ b. IsOn b (timer_seen c.args.row.now.about c.args.pass.now.knows t)) (sym c.requires.base) on))
