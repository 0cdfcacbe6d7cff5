use Rattle.std.proofs.Common.{subst}
use Rattle.std.specs.Prelude.{MatchOption, Option}
use Rattle.seq_timer.specs.Systems.{BaseContent}
use Rattle.base_row.specs.declared.view.HeldContent.{HeldContent}
use Rattle.base_row.specs.Calls.{GetsBase, MissesBase}
use Rattle.base_row.proofs.Calling.{locks_after, waits_after}
use Rattle.base_row.proofs.row.BaseRow.wait_for_base.Goals as goal

pub loop-preserved : goal.loop-preserved
loop-preserved g c =
    let v = c.loop.pass.knows in
    let w = c.try_lock_base.new.pass.knows in
    let missed = subst (λ (r : Option (HeldContent BaseContent)). MatchOption r (MissesBase c.args.base v w) (λ h. GetsBase c.args.base v w h))
    c.in_default.is c.try_lock_base.ensures.taken in
    record {
      can = tt;
      ends = tt;
      row = c.try_lock_base.ensures.row;
      waits = waits_after c.args.base c.args.pass.now.knows v w c.loop.invariant.waits missed.waits;
    }

pub returns-in-Some-try_lock_base-clause-locks : goal.returns-in-Some-try_lock_base-clause-locks
returns-in-Some-try_lock_base-clause-locks g c =
    let v = c.loop.pass.knows in
    let w = c.try_lock_base.new.pass.knows in
    locks_after c.args.base c.args.pass.now.knows v w c.in-Some-try_lock_base.held c.loop.invariant.waits
    (subst (λ (r : Option (HeldContent BaseContent)). MatchOption r (MissesBase c.args.base v w) (λ h. GetsBase c.args.base v w h))
    c.in-Some-try_lock_base.is c.try_lock_base.ensures.taken)
