use Rattle.std.proofs.Common.{◌≡◌, ap, subst, sym}
use Rattle.seq_timer.specs.Systems.{BaseContent, HasHeirOnLine}
use Rattle.base_row.specs.declared.view.Opening.{Opening}
use Rattle.hr_timers.specs.Known.{IsEvacuable}
use Rattle.base_row.specs.Calls.{base_seen}
use Rattle.hr_timers.proofs.Keeping.{off_freed, shifts_freed, unused_seen}
use Rattle.hr_timers.proofs.Standing.{knows_in}
use Rattle.hr_timers.proofs.evacuating.shift_held.Goals as goal

here : (c : goal.After-known-2) → c.args.held.content.standing ≡ (base_seen c.args.row.now.about c.args.pass.now.knows c.args.held.base).standing
here c = ap (λ (x : BaseContent). x.standing)
    ((knows_in c.args.row.now.about c.args.pass.now.knows c.requires.holds.row.about c.known.ensures).held c.args.held c.requires.holds.held).1.0

pub returns-clause-shifts : goal.returns-clause-shifts
returns-clause-shifts c = shifts_freed c.args.row.now.about c.args.held c.shift.new.held c.args.event c.args.pass.now.knows c.shift.new.pass.knows
    c.unlock_base.new.pass.knows c.requires.first c.shift.ensures.shifts c.unlock_base.ensures.free (here c)

pub returns-clause-unused : goal.returns-clause-unused
returns-clause-unused c = λ heir is.
    let o = c.args.row.now.about in
    let x = c.unlock_base.new.pass.knows in
    unused_seen o x c.fresh.ensures.fresh (knows_in o x c.unlock_base.ensures.row.about c.known-2.ensures) c.args.held.base heir
    (off_freed o c.args.held c.shift.new.held c.args.event c.args.pass.now.knows c.shift.new.pass.knows x c.requires.first c.shift.ensures.shifts
    c.unlock_base.ensures.free (here c) heir is)

pub shift-requires-clause-may : goal.shift-requires-clause-may
shift-requires-clause-may c =
    let v = c.args.pass.now.knows in
    let about = sym c.requires.holds.row.about in
    record {
      held = c.requires.holds.held;
      first = c.requires.first;
      may = c.requires.may;
      clear = c.requires.clear;
      heir = subst (λ (q : Opening). HasHeirOnLine (base_seen q v) c.args.event) about c.requires.heir;
      reach = subst IsEvacuable about c.requires.reach;
    }
