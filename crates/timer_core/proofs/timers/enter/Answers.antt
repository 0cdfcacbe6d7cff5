use Rattle.std.proofs.Common.{◌≡◌, ◌<◌, ◌∙◌, length, sym, ap, subst}
use Rattle.std.proofs.lemmas.List.{get_or_read}
use Rattle.seq_timer.specs.Steps.{Timer}
use Rattle.seq_timer.specs.Tables.{no_timer}
use Rattle.seq_timer.specs.Bases.{BaseState, IsQueuedAs, empty_base}
use Rattle.timer_core.specs.Kept.{Kept, base_at, timer_in}
use Rattle.timer_core.proofs.Consistent.{queued}
use Rattle.timer_core.proofs.timers.enter.Goals as goal

pub apply-requires-clause-queued : goal.apply-requires-clause-queued
apply-requires-clause-queued g c =
    let k : Kept = record { timers = c.args.timers.now.items; bases = c.args.bases.now.items } in
    let was = get_or_read k.timers c.args.id c.index_mut-timer.result.now c.requires.timer c.index_mut-timer.ensures.value no_timer in
    let on : c.base.result ≡ (timer_in k c.args.id).base = c.base.ensures ∙ ap (λ (t : Timer). t.base) was in
    let inside = subst (λ n. n < length k.bases) (sym on) (c.requires.agree.placed c.args.id) in
    let here : c.index_mut-base.result.now ≡ base_at k
    (timer_in k c.args.id).base = get_or_read k.bases c.base.result c.index_mut-base.result.now inside c.index_mut-base.ensures.value
    (empty_base 0) ∙ ap (base_at k) on in
    subst (λ (t : Timer). IsQueuedAs c.args.id t c.index_mut-base.result.now.content) (sym was)
    (subst (λ (b : BaseState). IsQueuedAs c.args.id (timer_in k c.args.id) b.content) (sym here) (queued k c.args.id c.requires.agree))
