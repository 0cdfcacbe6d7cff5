use Rattle.std.proofs.Common.{◌≡◌, refl, subst, IfOk}
use Rattle.std.specs.Vec.Iter.{into_iter_items}
use Rattle.std.proofs.lemmas.Iterator.{items_from_collect}
use Rattle.std.proofs.lemmas.Iterator.Adapters.{YieldsList-from_vec}
use Rattle.hrt_top.proofs.command.words.Goals as goal

pub returns-in-Ok-collect : goal.returns-in-Ok-collect
returns-in-Ok-collect c =
    let args = c.in-Ok.args in
    let items = items_from_collect {all = into_iter_items args} c.collect.result c.collect.ensures.ran
    (YieldsList-from_vec {s = args} _ refl args.rest.ok.0) in
    rw c.in-Ok.is (subst (λ r. IfOk r (λ w. w.items ≡ into_iter_items args)) c.in-Ok-collect.is items)
