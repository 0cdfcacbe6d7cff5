-- Posts of lanes: each has a lane, and its handle while no thread has it.
use Rattle.std.specs.Prelude.{ℕ, ◌≡◌, ◌<◌, List, [], ◌∷◌, get_or, length, map, Option, Some, None}
use Rattle.std.specs.List.{AllByRecursion}
use Rattle.pass_names.specs.Names.{Covers}
use Rattle.hulayban.specs.Lanes.{LaneEnd, RunsHere}
use Rattle.hulayban.specs.Systems.{HandleOf, IsHandleOf, RetiresHandle, SplitsHandle, SystemOf, handle_name}
use Rattle.hulayban.specs.declared.lanes.Post.{Post}

-- the name of the handle that is here
abbrev pub name_here : Option HandleOf → List ℕ
name_here None = []
name_here (Some h) = (handle_name h).name

-- a handle of this system is here, which answers for no other
abbrev pub HasLeaf : SystemOf → Option HandleOf → Type 0
HasLeaf x None = ⊥
HasLeaf x (Some h) = IsHandleOf x h × ((handle_name h).split ≡ [])

module _ {L : Type 0} (x : SystemOf) where
  -- posts got handles that were split off, the last post first
  abbrev pub PostsEach : HandleOf → List (Post L) → HandleOf → Type 0
  PostsEach old [] new = new ≡ old
  PostsEach old (s ∷ ss) new = (h : HandleOf) × (last : HandleOf) × PostsEach old ss last × SplitsHandle x last new h × (s.me ≡ Some h)

  -- the handles of posts were taken in, the first post first
  abbrev pub TakesEach : HandleOf → List (Post L) → HandleOf → Type 0
  TakesEach old [] new = new ≡ old
  TakesEach old (s ∷ ss) new = (h : HandleOf) × (next : HandleOf) × (s.me ≡ Some h) × RetiresHandle x old h next × TakesEach next ss new

  -- the first handle answers for those of these posts, and for no others
  pub record LeadsPosts (me : HandleOf) (posts : List (Post L)) : Type 0 where
    pub is : IsHandleOf x me
    pub first : (handle_name me).name ≡ []
    pub covers : Covers (handle_name me) (map (λ (s : Post L). name_here s.me) posts)
    pub each : AllByRecursion (λ (s : Post L). HasLeaf x s.me) posts

  -- a lane has run at its post
  abbrev pub PostRuns : (L → L → HandleOf → HandleOf → LaneEnd → Type 0) → Post L → Post L → Type 0
  PostRuns Did s t = RunsHere x (λ v w. Did s.lane t.lane v w t.done) s.me t.me

  -- each lane has run at its own
  abbrev pub PostsRun : (L → L → HandleOf → HandleOf → LaneEnd → Type 0) → List (Post L) → List (Post L) → Type 0
  PostsRun Did ss ts = (k : ℕ) (d : Post L) → k < length ss → PostRuns Did (get_or ss k d) (get_or ts k d)
