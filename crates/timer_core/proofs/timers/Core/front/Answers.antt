use Rattle.std.proofs.Common.{◌≡◌, ◌<◌, ◌∙◌, sym, ap, subst, length}
use Rattle.std.proofs.lemmas.List.{get_or_read}
use Rattle.seq_timer.specs.Contents.{front_on}
use Rattle.seq_timer.specs.Bases.{BaseState, empty_base}
use Rattle.timer_core.specs.Kept.{Kept, IsConsistent, content_at}
use Rattle.timer_core.proofs.Due.{kept-front}
use Rattle.timer_core.proofs.timers.Core.front.Goals as goal

pub returns : goal.returns
returns g c =
    let k = c.args.self.now in
    let base = c.args.base in
    let x = c.args.context in
    let clock = c.args.clock in
    let there = subst (λ (k : Kept). base < length k.bases) (sym c.self.view_is) c.requires in
    let here = get_or_read c.self.inside.bases.items base c.index-here.result.now there c.index-here.ensures (empty_base 0) in
    let front : c.front_on.result ≡ front_on x clock (content_at k base) =
    subst (λ (k : Kept). c.front_on.result ≡ front_on x clock (content_at k base)) c.self.view_is
    (c.front_on.ensures ∙ ap (λ (b : BaseState). front_on x clock b.content) here) in
    let kept = kept-front k x base clock c.front_on.result (subst IsConsistent c.self.view_is c.self.invariant) front in
    record { front = front; within = kept.0; own = kept.1; leads = kept.2; expires = kept.3; none = kept.4 }
