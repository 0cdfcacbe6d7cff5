use Rattle.std.proofs.Common.{◌≡◌, ◌∷◌, [], ◌∙◌, ap, arith, reverse, subst}
use Rattle.std.proofs.lemmas.Grind.{common_steps}
use Rattle.std.proofs.lemmas.List.{reverse-append}
use Rattle.hulayban.proofs.Posts.{Taking, answers_next, taking_all, taking_more}
use Rattle.hulayban.specs.Posts.{LeadsPosts}
use Rattle.hulayban.proofs.lanes.take_in_all.Goals as goal

pub retire-requires-clause-answers : goal.retire-requires-clause-answers
retire-requires-clause-answers g c =
    let x = c.args.system.now in
    let rest = c.pop.new.self.items in
    let next : reverse c.loop-post.posts.items ≡ c.in-Some.post ∷ reverse rest =
    ap reverse c.in-Some.ensures.items ∙ reverse-append rest (c.in-Some.post ∷ []) in
    (answers_next x c.loop-post.me c.in-Some-slot.other c.in-Some.post (reverse rest) c.in-Some-slot.is
    (subst (LeadsPosts x c.loop-post.me) next c.loop-post.invariant.so_far.leads)).1

pub loop-post-preserved : goal.loop-post-preserved
loop-post-preserved g c =
    let x = c.args.system.now in
    let rest = c.pop.new.self.items in
    let next : reverse c.loop-post.posts.items ≡ c.in-Some.post ∷ reverse rest =
    ap reverse c.in-Some.ensures.items ∙ reverse-append rest (c.in-Some.post ∷ []) in
    record {
      so_far = taking_more x c.args.me.now (reverse c.args.posts.items) (reverse c.loop-post.posts.items) (reverse rest) c.loop-post.me c.retire.new.me
          c.in-Some-slot.other c.in-Some.post c.loop-post.lanes.items c.push_reserved.new.self.items c.loop-post.all c.both-all.result next
          c.in-Some-slot.is c.retire.ensures.retires c.push_reserved.ensures.items c.both-all.ensures c.loop-post.invariant.so_far;
      room = omega (arith, c.loop-post.invariant.room, c.in-Some.ensures.cases, c.push_reserved.ensures.len, c.push_reserved.ensures.capacity);
    }

pub returns-clause-only : goal.returns-clause-only
returns-clause-only g c =
    let x = c.args.system.now in
    let all = reverse c.args.posts.items in
    let empty : c.loop-post.posts.items ≡ [] = grind (arith, common_steps) in
    (taking_all x c.args.me.now c.loop-post.me all c.loop-post.lanes.items c.loop-post.all
    (subst (λ ss. Taking x c.args.me.now all ss c.loop-post.me c.loop-post.lanes.items c.loop-post.all) (ap reverse empty) c.loop-post.invariant.so_far)).0
