use Rattle.std.proofs.Common.{◌≡◌, ◌<◌, sym, subst, arith, length, vec_len, vec_capacity, false, ap, ◌∙◌}
use Rattle.std.specs.List.{insert}
use Rattle.timer_queue.specs.Pairs.{IsQueue, put, has_id, place_of}
use Rattle.timer_queue.proofs.Pairs.{IsQueue-put, put_at, place_of-le, length-lt_room}
use Rattle.timer_queue.proofs.list.ListQueueQueue.add.Goals as goal

pub insert-requires : goal.insert-requires
insert-requires c = omega (arith, c.deref.ensures.len, c.place-at.ensures, place_of-le c.args.expires c.deref.result.now)

pub unreachable-requires : goal.unreachable-requires
unreachable-requires c =
    let absent : has_id c.args.id c.self.inside.list.items ≡ false = subst (λ q. has_id c.args.id q.0 ≡ false) (sym c.self.view_is) c.requires.absent in
    let inside = subst (λ q. c.args.id < q.1) (sym c.self.view_is) c.requires.below in
    let few = length-lt_room c.self.inside.room c.args.id c.self.inside.list.items absent inside c.self.invariant.0 in
    omega (arith, few, c.self.invariant.1, c.in_default.ensures.full, c.deref.ensures.len, ap length c.deref.ensures.value)

-- there was room for one more pair, so the memory stays
room_left : (c : goal.In-Ok) → vec_len c.self.inside.list < vec_capacity c.self.inside.list
room_left c =
    let absent : has_id c.args.id c.self.inside.list.items ≡ false = subst (λ q. has_id c.args.id q.0 ≡ false) (sym c.self.view_is) c.requires.absent in
    let inside = subst (λ q. c.args.id < q.1) (sym c.self.view_is) c.requires.below in
    let few = length-lt_room c.self.inside.room c.args.id c.self.inside.list.items absent inside c.self.invariant.0 in
    omega (arith, few, c.self.invariant.1, c.deref.ensures.len, ap length c.deref.ensures.value)

added : (c : goal.In-Ok) → c.insert.new.self.items ≡ put c.args.expires c.args.id c.self.inside.list.items
added c =
    let at = c.place-at.ensures ∙ ap (λ ps. place_of c.args.expires ps) c.deref.ensures.value in
    c.in-Ok.ensures.items ∙ ap (λ k. insert c.self.inside.list.items k (c.args.expires, c.args.id)) at
    ∙ sym (put_at c.args.expires c.args.id c.self.inside.list.items)

kept : (c : goal.In-Ok) → IsQueue c.self.inside.room c.insert.new.self.items
kept c =
    let absent : has_id c.args.id c.self.inside.list.items ≡ false = subst (λ q. has_id c.args.id q.0 ≡ false) (sym c.self.view_is) c.requires.absent in
    let inside = subst (λ q. c.args.id < q.1) (sym c.self.view_is) c.requires.below in
    subst (λ ps. IsQueue c.self.inside.room ps) (sym (added c))
    (IsQueue-put c.self.inside.room c.args.expires c.args.id c.self.inside.list.items absent inside c.self.invariant.0)

pub invariant_of-self : goal.invariant_of-self
invariant_of-self c = (kept c, omega (arith, c.self.invariant.1, c.in-Ok.ensures.capacity))

pub returns-clause-pairs : goal.returns-clause-pairs
returns-clause-pairs c = added c ∙ ap (λ q. put c.args.expires c.args.id q.0) c.self.view_is

pub returns-clause-kept : goal.returns-clause-kept
returns-clause-kept c = kept c

pub returns-clause-capacity : goal.returns-clause-capacity
returns-clause-capacity c = (c.in-Ok.ensures.in_place (room_left c)).1.0 ∙ ap (λ q. q.2) c.self.view_is
