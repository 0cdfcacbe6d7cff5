use Rattle.std.proofs.Common.{ap, ◌∙◌, refl, subst, sym}
use Rattle.pass_names.specs.Passes.{Begins}
use Rattle.seq_timer.specs.declared.event.EventBy.TheVariants.{Out}
use Rattle.seq_timer.specs.Systems.{BaseContent, entries_of}
use Rattle.base_row.specs.declared.view.BaseView.{BaseView}
use Rattle.base_row.specs.Calls.{entry_in, known_of}
use Rattle.base_row.proofs.Calling.{extends_appended, looks_freed, seen_same}
use Rattle.pass_names.proofs.SharedHistory.{extends_looks}
use Rattle.hr_timers.proofs.Keeping.{keeps_freed}
use Rattle.hr_timers.proofs.moving.send.Goals as goal

pub returns-clause-state : goal.returns-clause-state
returns-clause-state g c =
    let o = c.args.row.now.about in
    let carry = ap (λ (v : BaseView BaseContent). v.carry) c.out_logged-state.ensures.adds.rest in
    c.out_logged-state.ensures.state
    ∙ sym (seen_same o c.out_logged-state.new.pass.knows c.unlock_base.new.pass.knows c.args.timer (c.unlock_base.ensures.free.steady.carried c.args.timer carry))

pub returns-clause-adds : goal.returns-clause-adds
returns-clause-adds g c =
    let o = c.args.row.now.about in
    let v = c.args.pass.now.knows in
    let w = c.out_logged-state.new.pass.knows in
    let x = c.unlock_base.new.pass.knows in
    let carry = ap (λ (y : BaseView BaseContent). y.carry) c.out_logged-state.ensures.adds.rest in
    extends_looks entries_of (known_of v) (known_of w) (known_of x) c.args.timer _
    (extends_appended o c.fresh.ensures.fresh c.args.held c.args.timer (Out c.args.to) v w c.out_logged-state.ensures.adds)
    (looks_freed o c.out_logged-state.new.held w x c.unlock_base.ensures.free) (c.unlock_base.ensures.free.steady.carried c.args.timer carry)

pub returns-clause-keeps : goal.returns-clause-keeps
returns-clause-keeps g c = keeps_freed c.args.row.now.about c.args.held c.out_logged-state.new.held c.args.timer (Out c.args.to) c.args.pass.now.knows
    c.out_logged-state.new.pass.knows c.unlock_base.new.pass.knows c.out_logged-state.ensures.adds c.unlock_base.ensures.free

pub returns-clause-place : goal.returns-clause-place
returns-clause-place g c =
    let told = c.out_logged-state.ensures.adds in
    record {
      at = told.before;
      from = told.seen;
      own = told.own;
      next = (
        entry_in c.args.row.now.about c.args.pass.now.knows c.args.timer (Out c.args.to),
        refl,
        subst (λ (y : BaseView BaseContent). Begins y.seen c.unlock_base.new.pass.knows.seen) told.rest c.unlock_base.ensures.free.seen,
      );
      base = told.base;
    }
