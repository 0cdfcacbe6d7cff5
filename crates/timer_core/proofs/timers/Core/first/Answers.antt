use Rattle.std.proofs.Common.{◌≡◌, List, ◌<◌, ◌∙◌, sym, ap, subst, length}
use Rattle.std.proofs.lemmas.List.{get_or_read}
use Rattle.seq_timer.specs.Contents.{first_due}
use Rattle.seq_timer.specs.Steps.{Timer}
use Rattle.seq_timer.specs.Tables.{timer_at}
use Rattle.seq_timer.specs.Bases.{BaseState, empty_base}
use Rattle.timer_core.specs.Kept.{Kept, IsConsistent, content_at, timer_in}
use Rattle.timer_core.proofs.Due.{kept-first}
use Rattle.timer_core.proofs.timers.Core.first.Goals as goal

pub returns : goal.returns
returns g c =
    let k = c.args.self.now in
    let base = c.args.base in
    let reading = c.args.reading in
    let there = subst (λ (k : Kept). base < length k.bases) (sym c.self.view_is) c.requires in
    let here = get_or_read c.self.inside.bases.items base c.index-here.result.now there c.index-here.ensures (empty_base 0) in
    let x = c.args.context in
    let first : c.first.result ≡ first_due x (timer_in k) (content_at k base) reading =
    subst (λ (k : Kept). c.first.result ≡ first_due x (timer_in k) (content_at k base) reading) c.self.view_is
    (c.first.ensures ∙ (ap (λ (ts : List Timer). first_due x (timer_at ts) c.index-here.result.now.content reading) c.deref.ensures.value
    ∙ ap (λ (b : BaseState). first_due x (timer_at c.self.inside.timers.items) b.content reading) here)) in
    let kept = kept-first k x base reading c.first.result (subst IsConsistent c.self.view_is c.self.invariant) first in
    record { first = first; within = kept.0; own = kept.1; next = kept.2; expires = kept.3; none = kept.4 }
