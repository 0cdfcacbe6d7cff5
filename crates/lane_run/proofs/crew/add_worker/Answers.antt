use Rattle.std.proofs.Common.{[], ◌∷◌, ◌++◌, ◌∙◌, ap}
use Rattle.handoff.specs.Seated.{MayGive, AwaitsWork}
use Rattle.lane_run.proofs.Crewing.{at_more}
use Rattle.lane_run.proofs.crew.add_worker.Goals as goal

pub returns-clause-crew : goal.returns-clause-crew
returns-clause-crew c =
    let was = c.requires.crew in
    let made = c.in_ok-handoff in
    let handoffs = c.push_reserved.ensures.items ∙ ap (λ xs. xs ++ made.handoff ∷ []) c.reserve.ensures.items in
    let giver = at_more (λ p s. MayGive p s) c.args.ground.now _ _ _ _ made.handoff made.giver handoffs
    (c.push_reserved-2.ensures.items ∙ ap (λ xs. xs ++ made.giver ∷ []) c.reserve-2.ensures.items) was.as_many_givers was.may_give made.ensures.key
    made.ensures.giver in
    let worker = at_more (λ p s. AwaitsWork p s) c.args.ground.now _ _ _ _ made.handoff made.worker handoffs
    (c.push_reserved-3.ensures.items ∙ ap (λ xs. xs ++ made.worker ∷ []) c.reserve-3.ensures.items) was.as_many_workers was.await_work made.ensures.key
    made.ensures.worker in record { may_give = giver.0; as_many_givers = giver.1; await_work = worker.0; as_many_workers = worker.1 }
