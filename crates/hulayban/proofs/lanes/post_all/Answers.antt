use Rattle.std.proofs.Common.{◌∷◌, [], ◌∙◌, ap, arith, refl, reverse, subst, sym}
use Rattle.std.specs.Prelude.{Ok, Some}
use Rattle.std.proofs.lemmas.List.{reverse-append}
use Rattle.hulayban.proofs.Posts.{Posting, posting_more}
use Rattle.hulayban.specs.declared.lanes.Post.{Post}
use Rattle.hulayban.proofs.lanes.post_all.Goals as goal

pub loop-lane-preserved : goal.loop-lane-preserved
loop-lane-preserved g c =
    let x = c.args.system.now in
    let all = c.args.lanes.now.items in
    let rest = c.pop.new.self.items in
    let posts = c.loop-lane.posts.items in
    let post : Post g.row.L.Denot = record { lane = c.in-Some.lane; me = Some c.split-other.result; done = Ok tt } in
    record {
      so_far = subst (λ ss. Posting x c.args.me.now all rest ss c.split-other.new.me)
          (sym (ap reverse c.push_reserved.ensures.items ∙ reverse-append posts (post ∷ [])))
          (posting_more x c.args.me.now all c.loop-lane.lanes.items rest (reverse posts) c.loop-lane.me c.split-other.new.me c.split-other.result post
          c.in-Some.ensures.items refl c.split-other.ensures.splits c.loop-lane.invariant.so_far);
      room = omega (arith, c.loop-lane.invariant.room, c.in-Some.ensures.cases, c.push_reserved.ensures.len, c.push_reserved.ensures.capacity);
      back = omega (arith, c.loop-lane.invariant.back, c.in-Some.ensures.cases, c.in-Some.ensures.capacity, c.push_reserved.ensures.len);
    }
