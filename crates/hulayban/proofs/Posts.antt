-- Posts of lanes: they get their handles one after another, and give them back.
use Rattle.std.proofs.Common.{◌≡◌, ◌<◌, ◌-◌, ℕ, zero, suc, List, [], ◌∷◌, ◌++◌, length, map, reverse, get_or, refl, sym, ap, ◌∙◌, subst, arith}
use Rattle.std.specs.Prelude.{Option, Some, None, Ok, Err}
use Rattle.std.specs.List.{AllByRecursion}
use Rattle.std.proofs.lemmas.List.{append-nil, append_assoc, get_or-reverse, length-reverse, map-append}
use Rattle.pass_names.specs.declared.PassId.{PassId}
use Rattle.pass_names.specs.Counts.{one_if}
use Rattle.pass_names.specs.Names.{AnswersFor, Covers, after_split, child_of, next_name, occurrences, same}
use Rattle.pass_names.proofs.Covering.{covers_answers, covers_last, covers_none, covers_retire}
use Rattle.pass_names.proofs.Names.{occurrences_push}
use Rattle.hulayban.specs.Lanes.{HasHandle, LaneEnd, LaneRun, LaneRuns, RetiresEach, RunsHere, RunsLanes, SplitsEach, joined_end, joined_ends}
use Rattle.hulayban.specs.Posts.{HasLeaf, LeadsPosts, PostRuns, PostsEach, TakesEach, name_here}
use Rattle.hulayban.specs.Systems.{HandleOf, IsHandleOf, IsOnly, RetiresHandle, SplitsHandle, SystemOf, handle_name}
use Rattle.hulayban.specs.declared.lanes.Post.{Post}

-- the pass that has split one off covers it too, before the others
covers_next : (l m n : PassId) (names : List (List ℕ)) → m ≡ after_split l → n ≡ child_of l → Covers l names → Covers m (n.name ∷ names)
covers_next l m n names splitter child covers = record {
  each = λ name. omega (
    arith,
    covers.each name,
    occurrences_push name (next_name l) l.split,
    ap (λ (x : PassId). occurrences name x.split) splitter,
    ap (λ (x : PassId). one_if (same name x.name)) child,
  );
}

-- ---- lists whose elements go together

module _ {A : Type 0} (R : A → A → Type 0) where
  -- this holds of each element and that beside it
  abbrev pub Beside : List A → List A → Type 0
  Beside [] [] = Unit
  Beside (x ∷ xs) (y ∷ ys) = R x y × Beside xs ys
  Beside [] (y ∷ ys) = ⊥
  Beside (x ∷ xs) [] = ⊥

  beside_of : (xs ys : List A) → length ys ≡ length xs → ((k : ℕ) (d : A) → k < length xs → R (get_or xs k d) (get_or ys k d)) → Beside xs ys
  beside_of [] [] many each = tt
  beside_of (x ∷ xs) (y ∷ ys) many each = (each 0 x (omega arith), beside_of xs ys (omega (arith, many)) (λ k d h. each (suc k) d (omega (arith, h))))
  beside_of [] (y ∷ ys) many each = absurd (omega (arith, many))
  beside_of (x ∷ xs) [] many each = absurd (omega (arith, many))

  -- law: where it holds at each number, it holds from the end on
  pub beside_reversed : (xs ys : List A) → length ys ≡ length xs → ((k : ℕ) (d : A) → k < length xs → R (get_or xs k d) (get_or ys k d))
      → Beside (reverse xs) (reverse ys)
  beside_reversed xs ys many each =
      beside_of (reverse xs) (reverse ys) (length-reverse ys ∙ many ∙ sym (length-reverse xs)) (λ k d h.
      let within : k < length xs = omega (arith, h, length-reverse xs) in
      subst (λ z. R z (get_or (reverse ys) k d)) (sym (get_or-reverse xs k d within))
      (subst (R (get_or xs (length xs - 1 - k) d))
      (ap (λ n. get_or ys (n - 1 - k) d) (sym many) ∙ sym (get_or-reverse ys k d (omega (arith, within, many))))
      (each (length xs - 1 - k) d (omega (arith, within)))))

has_leaf : (x : SystemOf) (o : Option HandleOf) → HasLeaf x o → HasHandle x o
has_leaf x (Some h) leaf = leaf.0
has_leaf x None leaf = absurd leaf

fault_alone : (e : LaneEnd) → joined_end e (Ok tt) ≡ e
fault_alone (Ok u) = refl
fault_alone (Err fault) = refl

fault_push : (es : List LaneEnd) (e : LaneEnd) → joined_ends (es ++ e ∷ []) ≡ joined_end (joined_ends es) e
fault_push [] e = fault_alone e
fault_push (Ok u ∷ es) e = fault_push es e
fault_push (Err fault ∷ es) e = refl

module _ {L : Type 0} (x : SystemOf) where
  abbrev lane_of : Post L → L
  lane_of s = s.lane

  abbrev end_of : Post L → LaneEnd
  end_of s = s.done

  abbrev named : Post L → List ℕ
  named s = name_here s.me

  -- ---- posts get handles

  -- of all lanes these are left, and the others have posts
  pub record Posting (old : HandleOf) (all rest : List L) (posts : List (Post L)) (me : HandleOf) : Type 0 where
    pub order : all ≡ rest ++ map lane_of posts
    pub seated : PostsEach x old posts me
    pub leads : LeadsPosts x me posts

  pub posting_none : (me : HandleOf) (all : List L) → IsOnly x me → Posting me all all [] me
  posting_none me all only = record {
    order = sym (append-nil all);
    seated = refl;
    leads = record { is = only.is; first = only.last.first; covers = covers_none (handle_name me) only.last.alone; each = tt };
  }

  pub posting_more : (old : HandleOf) (all before rest : List L) (posts : List (Post L)) (m q h : HandleOf) (s : Post L) → before ≡ rest ++ s.lane ∷ []
      → s.me ≡ Some h → SplitsHandle x m q h → Posting old all before posts m → Posting old all rest (s ∷ posts) q
  posting_more old all before rest posts m q h s pop here splits so_far = record {
    order = so_far.order ∙ ap (λ ls. ls ++ map lane_of posts) pop ∙ append_assoc rest (s.lane ∷ []) (map lane_of posts);
    seated = (h, m, so_far.seated, splits, here);
    leads = record {
      is = splits.is;
      first = ap (λ (i : PassId). i.name) splits.name ∙ so_far.leads.first;
      covers = subst (λ o. Covers (handle_name q) (name_here o ∷ map named posts)) (sym here)
          (covers_next (handle_name m) (handle_name q) (handle_name h) (map named posts) splits.name splits.child so_far.leads.covers);
      each = (subst (HasLeaf x) (sym here) (splits.other, ap (λ (i : PassId). i.split) splits.child), so_far.leads.each);
    };
  }

  -- ---- lanes run at their posts

  leaves_have : (posts : List (Post L)) → AllByRecursion (λ (s : Post L). HasLeaf x s.me) posts → (k : ℕ) (d : Post L) → k < length posts
      → HasHandle x (get_or posts k d).me
  leaves_have [] each k d h = absurd (omega (arith, h))
  leaves_have (s ∷ posts) each zero d h = has_leaf x s.me each.0
  leaves_have (s ∷ posts) each (suc k) d h = leaves_have posts each.1 k d (omega (arith, h))

  -- law: so each post has a handle
  pub posts_have : (ss : List (Post L)) → AllByRecursion (λ (s : Post L). HasLeaf x s.me) (reverse ss) → (k : ℕ) (d : Post L) → k < length ss
      → HasHandle x (get_or ss k d).me
  posts_have ss each k d h =
      let behind : length ss - 1 - k < length ss = omega (arith, h) in
      subst (λ (s : Post L). HasHandle x s.me)
      (get_or-reverse ss (length ss - 1 - k) d behind ∙ ap (λ n. get_or ss n d) (omega (arith, h)))
      (leaves_have (reverse ss) each (length ss - 1 - k) d (omega (arith, behind, length-reverse ss)))

  module _ (Did : L → L → HandleOf → HandleOf → LaneEnd → Type 0) where
    leaf_ran : (D : HandleOf → HandleOf → Type 0) (o p : Option HandleOf) → RunsHere x D o p → HasLeaf x o → HasLeaf x p × (name_here p ≡ name_here o)
    leaf_ran D (Some h) (Some k) ran leaf =
        ((ran.0.is, ap (λ (i : PassId). i.split) ran.0.name ∙ leaf.1), ap (λ (i : PassId). i.name) ran.0.name)
    leaf_ran D None p ran leaf = absurd ran
    leaf_ran D (Some h) None ran leaf = absurd ran

    names_ran : (ss ts : List (Post L)) → Beside (PostRuns x Did) ss ts → AllByRecursion (λ (s : Post L). HasLeaf x s.me) ss
        → AllByRecursion (λ (s : Post L). HasLeaf x s.me) ts × (map named ts ≡ map named ss)
    names_ran [] [] ran each = (tt, refl)
    names_ran (s ∷ ss) (t ∷ ts) ran each =
        let one = leaf_ran (λ v w. Did s.lane t.lane v w t.done) s.me t.me ran.0 each.0 in
        let rest = names_ran ss ts ran.1 each.1 in
        ((one.0, rest.0), ap (λ n. n ∷ map named ts) one.1 ∙ ap (λ ns. named s ∷ ns) rest.1)
    names_ran [] (t ∷ ts) ran each = absurd ran
    names_ran (s ∷ ss) [] ran each = absurd ran

    -- law: the handle answers for them afterwards
    pub leads_ran : (me : HandleOf) (ss ts : List (Post L)) → Beside (PostRuns x Did) ss ts → LeadsPosts x me ss → LeadsPosts x me ts
    leads_ran me ss ts ran leads =
        let kept = names_ran ss ts ran leads.each in
        record { is = leads.is; first = leads.first; covers = subst (Covers (handle_name me)) (sym kept.1) leads.covers; each = kept.0 }

    -- what posts that were made, and taken in again after their lanes ran, say of these
    pub record RunsOfPosts (ss ts : List (Post L)) (old mid mid' new : HandleOf) : Type 0 where
      pub runs : List (LaneRun L)
      pub before : map (λ (r : LaneRun L). r.lane) runs ≡ map lane_of ss
      pub after : map (λ (r : LaneRun L). r.lane_after) runs ≡ map lane_of ts
      pub splits : SplitsEach x old (map (λ (r : LaneRun L). r.handle) runs) mid
      pub each : AllByRecursion (LaneRuns x Did) runs
      pub retires : RetiresEach x mid' (map (λ (r : LaneRun L). r.handle_after) runs) new
      pub ends : map (λ (r : LaneRun L). r.ended) runs ≡ map end_of ts

    runs_of : (ss ts : List (Post L)) (old mid mid' new : HandleOf) → PostsEach x old ss mid → TakesEach x mid' ts new → Beside (PostRuns x Did) ss ts
        → RunsOfPosts ss ts old mid mid' new
    runs_of [] [] old mid mid' new seated takes ran =
        record { runs = []; before = refl; after = refl; splits = seated; each = tt; retires = takes; ends = refl }
    runs_of (s ∷ ss) (t ∷ ts) old mid mid' new seated takes ran =
        let h = seated.0 in
        let k = takes.0 in
        let D : HandleOf → HandleOf → Type 0 = λ v w. Did s.lane t.lane v w t.done in
        let here : RunsHere x D (Some h) (Some k) = subst (RunsHere x D (Some h)) takes.2 (subst (λ o. RunsHere x D o t.me) seated.4 ran.0) in
        let rest = runs_of ss ts old seated.1 takes.1 new seated.2 takes.4 ran.1 in record {
          runs = record { lane = s.lane; lane_after = t.lane; handle = h; handle_after = k; ended = t.done } ∷ rest.runs;
          before = ap (λ ls. s.lane ∷ ls) rest.before;
          after = ap (λ ls. t.lane ∷ ls) rest.after;
          splits = (seated.1, rest.splits, seated.3);
          each = (record { keeps = here.0; did = here.1 }, rest.each);
          retires = (takes.1, takes.3, rest.retires);
          ends = ap (λ es. t.done ∷ es) rest.ends;
        }
    runs_of [] (t ∷ ts) old mid mid' new seated takes ran = absurd ran
    runs_of (s ∷ ss) [] old mid mid' new seated takes ran = absurd ran

    -- law: the lanes have run
    pub runs_lanes : (ss ts : List (Post L)) (lanes lanes' : List L) (old mid new : HandleOf) (done : LaneEnd) → map lane_of ss ≡ lanes
        → lanes' ≡ map lane_of ts → PostsEach x old ss mid → TakesEach x mid ts new → Beside (PostRuns x Did) ss ts → done ≡ joined_ends (map end_of ts)
        → RunsLanes x Did lanes lanes' old new done
    runs_lanes ss ts lanes lanes' old mid new done was is seated takes ran ends =
        let of = runs_of ss ts old mid mid new seated takes ran in record {
          runs = of.runs;
          before = of.before ∙ was;
          after = of.after ∙ sym is;
          mid = mid;
          splits = of.splits;
          each = of.each;
          retires = of.retires;
          ends = ends ∙ ap joined_ends (sym of.ends);
        }

  -- ---- handles are taken in

  -- of all posts these are left, and the others were taken in
  pub record Taking (old : HandleOf) (all rest : List (Post L)) (me : HandleOf) (lanes : List L) (done : LaneEnd) : Type 0 where
    pub taken : List (Post L)
    pub parts : all ≡ taken ++ rest
    pub back : lanes ≡ map lane_of taken
    pub takes : TakesEach x old taken me
    pub ends : done ≡ joined_ends (map end_of taken)
    pub leads : LeadsPosts x me rest

  pub taking_none : (me : HandleOf) (all : List (Post L)) (lanes : List L) → lanes ≡ [] → LeadsPosts x me all → Taking me all all me lanes (Ok tt)
  taking_none me all lanes none leads = record { taken = []; parts = refl; back = none; takes = refl; ends = refl; leads = leads }

  -- law: the next handle may be taken in
  pub answers_next : (m h : HandleOf) (s : Post L) (rest : List (Post L)) → s.me ≡ Some h → LeadsPosts x m (s ∷ rest)
      → IsHandleOf x h × AnswersFor (handle_name m) (handle_name h)
  answers_next m h s rest here leads = (
    (subst (HasLeaf x) here leads.each.0).0,
    covers_answers (handle_name m) (handle_name h) [] (map named rest)
        (subst (λ o. Covers (handle_name m) (name_here o ∷ map named rest)) here leads.covers),
  )

  takes_push : (ts : List (Post L)) (t : Post L) (old m h q : HandleOf) → t.me ≡ Some h → RetiresHandle x m h q → TakesEach x old ts m
      → TakesEach x old (ts ++ t ∷ []) q
  takes_push [] t old m h q here retires takes = (h, q, here, subst (λ (p : HandleOf). RetiresHandle x p h q) takes retires, refl)
  takes_push (s ∷ ts) t old m h q here retires takes = (takes.0, takes.1, takes.2, takes.3, takes_push ts t takes.1 m h q here retires takes.4)

  pub taking_more : (old : HandleOf) (all before rest : List (Post L)) (m q h : HandleOf) (s : Post L) (lanes lanes' : List L) (done done' : LaneEnd)
      → before ≡ s ∷ rest → s.me ≡ Some h → RetiresHandle x m h q → lanes' ≡ lanes ++ s.lane ∷ [] → done' ≡ joined_end done s.done
      → Taking old all before m lanes done → Taking old all rest q lanes' done'
  taking_more old all before rest m q h s lanes lanes' done done' next here retires push ends so_far =
      let leads = subst (LeadsPosts x m) next so_far.leads in
      let leaf = subst (HasLeaf x) here leads.each.0 in record {
        taken = so_far.taken ++ s ∷ [];
        parts = so_far.parts ∙ ap (λ ss. so_far.taken ++ ss) next ∙ sym (append_assoc so_far.taken (s ∷ []) rest);
        back = push ∙ ap (λ ls. ls ++ s.lane ∷ []) so_far.back ∙ sym (map-append lane_of so_far.taken (s ∷ []));
        takes = takes_push so_far.taken s old m h q here retires so_far.takes;
        ends = ends ∙ ap (λ e. joined_end e s.done) so_far.ends ∙ sym (fault_push (map end_of so_far.taken) s.done)
            ∙ ap joined_ends (sym (map-append end_of so_far.taken (s ∷ [])));
        leads = record {
          is = retires.is;
          first = ap (λ (i : PassId). i.name) retires.name ∙ leads.first;
          covers = covers_retire (handle_name m) (handle_name h) (handle_name q) [] (map named rest) leaf.1 retires.name
              (subst (λ o. Covers (handle_name m) (name_here o ∷ map named rest)) here leads.covers);
          each = leads.each.1;
        };
      }

  -- law: the handle is the only one again, and what was taken in is all of it
  pub taking_all : (old me : HandleOf) (all : List (Post L)) (lanes : List L) (done : LaneEnd) → Taking old all [] me lanes done
      → IsOnly x me × (lanes ≡ map lane_of all) × TakesEach x old all me × (done ≡ joined_ends (map end_of all))
  taking_all old me all lanes done so_far =
      let whole : so_far.taken ≡ all = sym (so_far.parts ∙ append-nil so_far.taken) in (
        record { is = so_far.leads.is; last = covers_last (handle_name me) so_far.leads.first so_far.leads.covers },
        so_far.back ∙ ap (map lane_of) whole,
        subst (λ ss. TakesEach x old ss me) whole so_far.takes,
        so_far.ends ∙ ap (λ ss. joined_ends (map end_of ss)) whole,
      )
