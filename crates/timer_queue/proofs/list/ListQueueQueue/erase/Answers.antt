use Rattle.std.proofs.Common.{◌≡◌, sym, subst, arith, not, nat_eq, rules, ap, ◌∙◌}
use Rattle.std.proofs.lemmas.Fn.{filter_same}
use Rattle.timer_queue.specs.Pairs.{IsQueue, without}
use Rattle.timer_queue.proofs.Pairs.{IsQueue-without}
use Rattle.timer_queue.proofs.list.ListQueueQueue.erase.Goals as goal

left : (c : goal.After-retain) → c.retain.new.self.items ≡ without c.args.id c.self.inside.list.items
left c = filter_same _ (λ p. not (nat_eq p.1 c.args.id)) _ (λ x b f k. search rules) _ _ c.retain.ensures.filtered

kept : (c : goal.After-retain) → IsQueue c.self.inside.room c.retain.new.self.items
kept c = subst (λ ps. IsQueue c.self.inside.room ps) (sym (left c)) (IsQueue-without c.self.inside.room c.args.id c.self.inside.list.items c.self.invariant.0)

pub invariant_of-self : goal.invariant_of-self
invariant_of-self c = (kept c, omega (arith, c.self.invariant.1, c.retain.ensures.capacity))

pub returns-clause-pairs : goal.returns-clause-pairs
returns-clause-pairs c = left c ∙ ap (λ q. without c.args.id q.0) c.self.view_is

pub returns-clause-kept : goal.returns-clause-kept
returns-clause-kept c = kept c
