use Rattle.std.proofs.Common.{ℕ, ◌≡◌, ◌<◌, ◌≤◌, ◌-◌, ◌^◌}
use Rattle.std.specs.Prelude.{slice_index, MatchOption, IfNone, Option, Some, None}
use Rattle.pass_names.specs.Names.{IsLast}
use Rattle.seq_timer.specs.Systems.{BaseContent}
use Rattle.base_row.specs.declared.view.HeldContent.{HeldContent}
use Rattle.base_row.specs.declared.view.Opening.{Opening}
use Rattle.base_row.specs.declared.view.BaseView.{BaseView}
use Rattle.base_row.specs.Plays.{KnowsOwn}
use Rattle.base_row.specs.Calls.{GetsBase, MissesBase}
use Rattle.base_row.proofs.Calling.{last_misses_none, locks_or_misses}
use Rattle.base_row.proofs.row.BaseRow.try_lock_base.Goals as goal

pub returns-clause-taken : goal.returns-clause-taken
returns-clause-taken c =
    locks_or_misses c.args.self.now.about c.args.base c.args.pass.now.knows c.attempt_base-held.new.pass.knows c.attempt_base-held.result
    c.attempt_base-held.ensures.taken

if_none : (o : Opening) (b : ℕ) (v w : BaseView BaseContent) (r : Option (HeldContent BaseContent))
    → MatchOption r (MissesBase b v w) (λ h. GetsBase b v w h) → w.opening ≡ o → KnowsOwn w → b < o.bases
    → IfNone r (IsLast v.id → 2 ^ 64 - 2 ≤ slice_index w.met b)
if_none o b v w None misses about knows inside = λ last. last_misses_none o b v w misses about knows last inside
if_none o b v w (Some h) locks about knows inside = tt

pub returns-clause-last : goal.returns-clause-last
returns-clause-last c =
    if_none c.args.self.now.about c.args.base c.args.pass.now.knows c.attempt_base-held.new.pass.knows c.attempt_base-held.result
    (returns-clause-taken c) c.attempt_base-held.ensures.row.about c.known.ensures c.requires.within
