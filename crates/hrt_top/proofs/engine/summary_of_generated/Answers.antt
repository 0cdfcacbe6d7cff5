use Rattle.std.proofs.Common.{List, subst, sym, Err, Ok, ℕ}
use Rattle.script_text.specs.Generator.{generated}
use Rattle.script_text.specs.Refusals.{Gives}
use Rattle.script_text.specs.Scripts.{Reads}
use Rattle.hrt_top.proofs.Summaries.{not_refused, summed}
use Rattle.hrt_top.proofs.engine.summary_of_generated.Goals as goal

pub unreachable-requires : goal.unreachable-requires
unreachable-requires g c =
    let made = generated c.args.seed c.args.lanes c.args.calls in
    let reads : Reads c.deref.result.now made = subst (λ (bytes : List ℕ). Reads bytes made) (sym c.deref.ensures.value) c.in_ok-bytes.ensures.reads in
    not_refused c.in-Err-Refused.field-0-0 made
    (subst (λ e. Gives (Err e) (Ok made)) c.in-Err-Refused.field-0-is (c.in-Err-Refused.ensures.reads made reads))

pub returns : goal.returns
returns g c =
    let made = generated c.args.seed c.args.lanes c.args.calls in
    let reads : Reads c.deref.result.now made = subst (λ (bytes : List ℕ). Reads bytes made) (sym c.deref.ensures.value) c.in_ok-bytes.ensures.reads in
    summed c.args.seed c.args.lanes c.args.calls c.in-Ok.script c.in_ok-record.record c.in_ok-text.text.items (c.in-Ok.ensures.reads made reads)
    c.in_ok-record.ensures c.in_ok-text.ensures
