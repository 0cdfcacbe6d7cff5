use Rattle.std.proofs.Common.{sym, subst, ◌∙◌}
use Rattle.pass_names.specs.Passes.{entries}
use Rattle.counted_row.specs.Views.{StateAfter}
use Rattle.timer_objects.specs.Meaning.{object_meaning}
use Rattle.timer_objects.specs.Known.{decl_at}
use Rattle.timer_objects.specs.Steps.{IsObjectOf}
use Rattle.timer_objects.proofs.Counting.{state_is}
use Rattle.timer_objects.proofs.objects.Objects.lock.Goals as goal

pub returns-clause-holds : goal.returns-clause-holds
returns-clause-holds g c =
    let x = c.args.self.now in
    let h = c.lock.result in
    let now = c.lock.ensures.locks.now in
    let log = entries h.index c.lock.new.pass.knows.pass.seen in
    let after = subst (λ made. StateAfter object_meaning made h.index log h.state) (c.lock.ensures.locks.opening ∙ c.requires.row.made) now.state in
    subst (λ n. IsObjectOf (decl_at x h.index) x.limit n h.state) (sym now.stamp) (state_is x h.index log h.state after)
