use Rattle.std.proofs.Common.{◌≤◌, ◌+◌, reverse, vec_capacity, vec_len}
use Rattle.hulayban.proofs.Posts.{Posting}
use Rattle.hulayban.proofs.lanes.post_all.Given as goal

abbrev pub invariant-loop-lane : goal.invariant-loop-lane
invariant-loop-lane g l = record {
  so_far : Posting l.system l.fn.me l.fn.lanes.items l.lanes.items (reverse l.posts.items) l.me;
  room : vec_len l.posts + vec_len l.lanes ≤ vec_capacity l.posts;
  back : vec_len l.posts + vec_len l.lanes ≤ vec_capacity l.lanes;
}

abbrev pub decreases-loop-lane : goal.decreases-loop-lane
decreases-loop-lane g l = vec_len l.lanes
