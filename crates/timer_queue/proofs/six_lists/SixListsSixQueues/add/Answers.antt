use Rattle.std.proofs.Common.{◌≡◌, ◌<◌, false, length, sym, subst, ap, ◌∙◌, arith, []}
use Rattle.std.proofs.lemmas.List.{get_or-map}
use Rattle.timer_queue.specs.Pairs.{has_any, has_id}
use Rattle.timer_queue.proofs.Several.{has_any-none}
use Rattle.timer_queue.proofs.six_lists.SixListsSixQueues.add.Goals as goal

pub add-requires-clause-absent : goal.add-requires-clause-absent
add-requires-clause-absent c =
    let inside : c.args.queue < length c.self.inside.lists.items = omega (arith, c.requires.queue, c.self.invariant.0) in
    let none = has_any-none c.args.id c.args.queue _ (subst (λ v. has_any c.args.id v.0 ≡ false) (sym c.self.view_is) c.requires.absent) in
    ap (λ q. has_id c.args.id q.0) c.index_mut-list.ensures.value
    ∙ ap (has_id c.args.id) (sym (get_or-map (λ q. q.0) c.self.inside.lists.items c.args.queue c.index_mut-list.result.now [] inside)) ∙ none
