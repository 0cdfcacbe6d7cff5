use Rattle.std.proofs.Common.{◌≤◌, ◌+◌, reverse, vec_capacity, vec_len}
use Rattle.hulayban.proofs.Posts.{Taking}
use Rattle.hulayban.proofs.lanes.take_in_all.Given as goal

abbrev pub invariant-loop-post : goal.invariant-loop-post
invariant-loop-post g l = record {
  so_far : Taking l.system l.fn.me (reverse l.fn.posts.items) (reverse l.posts.items) l.me l.lanes.items l.all;
  room : vec_len l.lanes + vec_len l.posts ≤ vec_capacity l.lanes;
}

abbrev pub decreases-loop-post : goal.decreases-loop-post
decreases-loop-post g l = vec_len l.posts
