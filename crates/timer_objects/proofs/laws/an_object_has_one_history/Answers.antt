use Rattle.std.proofs.Common.{subst}
use Rattle.counted_row.specs.Meaning.{Leads}
use Rattle.ktime.specs.declared.clock_id.ClockId.TheVariants as clocks
use Rattle.timer_objects.specs.declared.object.Kind.TheVariants as kinds
use Rattle.timer_objects.specs.Known.{decl_at}
use Rattle.timer_objects.specs.Meaning.{object_meaning}
use Rattle.timer_objects.proofs.Counting.{opened_at}
use Rattle.timer_objects.proofs.KindOfObject.{history_of_kind}
use Rattle.timer_objects.proofs.laws.an_object_has_one_history.Goals as goal

pub returns : goal.returns
returns c = λ x id log state after.
    let d = decl_at x id in
    let opened = opened_at x.limit x.decls id after.from (record { kind = kinds.Raw; clock = clocks.Monotonic; base = 0 }) after.at in
    history_of_kind d.kind d.clock d.base x.limit log state (subst (λ o. Leads object_meaning o log state) opened after.leads)
