use Rattle.std.proofs.Common.{Some, ◌-◌, ap, ◌∙◌, sym, subst}
use Rattle.seq_timer.specs.Tables.{in_context, is_kept_on}
use Rattle.timer_core.specs.Kept.{timer_in}
use Rattle.timer_core.specs.Waits.{IsWait}
use Rattle.timer_core.proofs.LeastWait.{wait-front}
use Rattle.timer_core.proofs.timers.Core.wait_on.Goals as goal

pub returns : goal.returns
returns g c =
    let k = c.args.self.now in
    let next = c.in_ok-expires.ensures in
    subst (λ n. IsWait k c.args.base c.args.reading (λ id. is_kept_on c.args.base c.args.clock (in_context c.args.context (timer_in k) id)) (Some n))
    (sym (c.saturating_sub.ensures ∙ ap (λ n. c.in_ok-expires.expires - n) c.value.ensures))
    (wait-front k c.args.context c.args.base c.args.clock c.args.reading (c.in_ok-expires.expires, c.in_ok-expires.field-0-1) next.front next.own next.leads next.expires next.soft)
