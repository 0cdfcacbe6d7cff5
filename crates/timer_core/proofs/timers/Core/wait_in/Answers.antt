use Rattle.std.proofs.Common.{sym, ap, ◌∙◌, subst}
use Rattle.seq_timer.specs.Tables.{in_context, is_armed_on}
use Rattle.timer_core.specs.Kept.{timer_in}
use Rattle.timer_core.specs.Waits.{IsWait, sooner}
use Rattle.timer_core.proofs.LeastWait.{wait-clocks}
use Rattle.timer_core.proofs.timers.Core.wait_in.Goals as goal

pub returns : goal.returns
returns g c =
    let k = c.args.self.now in
    let base = c.args.base in
    let x = c.args.context in
    subst (IsWait k base c.args.reading (λ id. is_armed_on base (in_context x (timer_in k) id)))
    (sym (c.sooner-2.ensures ∙ ap (sooner c.wait_on-mono.result) c.sooner.ensures))
    (wait-clocks k x base c.args.reading c.wait_on-mono.result c.wait_on-real.result c.wait_on-boot.result
    c.wait_on-mono.ensures c.wait_on-real.ensures c.wait_on-boot.ensures)
