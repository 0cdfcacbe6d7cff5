use Rattle.std.proofs.Common.{inl, reverse}
use Rattle.hulayban.proofs.Posts.{beside_reversed, leads_ran, runs_lanes, posts_have}
use Rattle.hulayban.specs.Posts.{PostRuns}
use Rattle.hulayban.proofs.system.System.run_all.Goals as goal

pub run_posts-requires-clause-posts : goal.run_posts-requires-clause-posts
run_posts-requires-clause-posts g c κs within = posts_have c.args.self.now c.post_all.new.posts.items c.post_all.ensures.leads.each

pub take_in_all-done-requires-clause-leads : goal.take_in_all-done-requires-clause-leads
take_in_all-done-requires-clause-leads g c =
    let x = c.args.self.now in
    let ss = c.post_all.new.posts.items in
    let ts = c.run_posts.new.posts.items in
    let Did = g.L.Lane.did x in
    leads_ran x Did c.post_all.new.me (reverse ss) (reverse ts) (beside_reversed (PostRuns x Did) ss ts c.run_posts.ensures.as_many c.run_posts.ensures.ran)
    c.post_all.ensures.leads

pub returns-clause-ran : goal.returns-clause-ran
returns-clause-ran g c =
    let x = c.args.self.now in
    let ss = c.post_all.new.posts.items in
    let ts = c.run_posts.new.posts.items in
    let Did = g.L.Lane.did x in
    let done = c.take_in_all-done in
    inl (runs_lanes x Did (reverse ss) (reverse ts) c.args.lanes.now.items done.new.lanes.items c.args.me c.post_all.new.me done.new.me done.result
    c.post_all.ensures.lanes.1 done.ensures.lanes c.post_all.ensures.posts done.ensures.takes
    (beside_reversed (PostRuns x Did) ss ts c.run_posts.ensures.as_many c.run_posts.ensures.ran) done.ensures.done)
