use Rattle.std.proofs.Common.{◌≡◌, ◌<◌, ◌∙◌, sym, ap, subst, length}
use Rattle.std.proofs.lemmas.List.{get_or_read}
use Rattle.seq_timer.specs.Contents.{running_in}
use Rattle.seq_timer.specs.Bases.{BaseState, empty_base}
use Rattle.timer_core.specs.Kept.{Kept, IsConsistent, content_at}
use Rattle.timer_core.proofs.Due.{kept-idle}
use Rattle.timer_core.proofs.timers.Core.running.Goals as goal

pub returns-clause-idle : goal.returns-clause-idle
returns-clause-idle g c =
    let k = c.args.self.now in
    let base = c.args.base in
    let x = c.args.context in
    let there = subst (λ (k : Kept). base < length k.bases) (sym c.self.view_is) c.requires in
    let here = get_or_read c.self.inside.bases.items base c.index-here.result.now there c.index-here.ensures (empty_base 0) in
    kept-idle k x base c.running.result (subst IsConsistent c.self.view_is c.self.invariant)
    (subst (λ (k : Kept). c.running.result ≡ running_in x (content_at k base)) c.self.view_is
    (c.running.ensures ∙ ap (λ (b : BaseState). running_in x b.content) here))
