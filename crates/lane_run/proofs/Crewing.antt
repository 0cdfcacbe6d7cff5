-- The seats of a crew: one more, the last one taken out and put back, and all ended; and a lane that comes back.
use Rattle.std.proofs.Common.{length, length-append, get_or, set, ℕ, ◌≡◌, ◌<◌, ◌≤◌, ◌+◌, List, [], ◌∷◌, ◌++◌, sym, ap, ◌∙◌, subst, arith}
use mathlib.Core.Logic.{dite}
use native.Mathlib.Decide.{ℕ_discrete}
use Rattle.std.proofs.Math.ListN.{get_or-append}
use Rattle.std.proofs.Math.Seq.{get_or-append_seam}
use Rattle.std.proofs.lemmas.List.{get_or-set_other, get_or-set_same, get_or_default, length-set}
use Rattle.handoff.specs.Seated.{HasEnded, MayGive, HandoffOf}
use Rattle.script_text.specs.declared.script.Round.{Round}
use Rattle.lane_notes.specs.declared.lane.Lane.{Lane}
use Rattle.lane_notes.specs.Rounds.{RunsLane}
use Rattle.lane_notes.specs.Worlds.{WorldOf}
use Rattle.lane_run.proofs.Taking.{beside_pop, beside_push}
use Rattle.lane_run.specs.declared.crew.Ground.{Ground}
use Rattle.lane_run.specs.Crews.{AreAt, AllHaveEnded, AllMayGive, IsRoundOf, RunsAt, SeatOfLanes}

-- ---- seats

module _ (Has : HandoffOf Ground → SeatOfLanes → Type 0) (g : Ground) where
  -- one more handoff with its seat
  pub at_more : (ps qs : List (HandoffOf Ground)) (ss ts : List SeatOfLanes) (p : HandoffOf Ground) (s : SeatOfLanes) → qs ≡ ps ++ p ∷ [] → ts ≡ ss ++ s ∷ []
      → length ss ≡ length ps → AreAt Has g ps ss → p.key ≡ g → Has p s → AreAt Has g qs ts × (length ts ≡ length qs)
  at_more ps qs ss ts p s is have same at key has =
      let handoffs : length qs ≡ length ps + 1 = ap length is ∙ length-append ps (p ∷ []) in
      let seats : length ts ≡ length ss + 1 = ap length have ∙ length-append ss (s ∷ []) in (
        record {
          many = omega (arith, handoffs, seats, same);
          each = λ k d e h. (beside_push (λ (q : HandoffOf Ground) (t : SeatOfLanes). (q.key ≡ g) × Has q t) ps ss p s is have same
              (λ i a b here. at.each i a b (omega (arith, here, same))) (key, has)).1 k d e (omega (arith, h, handoffs, seats, same));
        },
        omega (arith, handoffs, seats, same),
      )

  -- the last seat is of the handoff behind the others'
  pub at_pop : (ps : List (HandoffOf Ground)) {all : List SeatOfLanes} (ss : List SeatOfLanes) (s : SeatOfLanes) → all ≡ ss ++ s ∷ [] → AreAt Has g ps all
      → AreAt Has g ps ss × (length ss < length ps) × ((p : HandoffOf Ground) → ((get_or ps (length ss) p).key ≡ g) × Has (get_or ps (length ss) p) s)
  at_pop ps {all} ss s pop at =
      let many : length all ≡ length ss + 1 = ap length pop ∙ length-append ss (s ∷ []) in (
        record {
          many = omega (arith, at.many, many);
          each = λ k p d h. subst (λ t. ((get_or ps k p).key ≡ g) × Has (get_or ps k p) t) (ap (λ zs. get_or zs k d) pop ∙ get_or-append ss (s ∷ []) d k h)
              (at.each k p d (omega (arith, h, many)));
        },
        omega (arith, at.many, many),
        λ p. subst (λ t. ((get_or ps (length ss) p).key ≡ g) × Has (get_or ps (length ss) p) t)
            (ap (λ zs. get_or zs (length ss) s) pop ∙ get_or-append_seam ss s [] s) (at.each (length ss) p s (omega (arith, many))),
      )

  -- the same of a handoff that was found by how many seats are left
  pub at_pop_by : (ps : List (HandoffOf Ground)) (h : HandoffOf Ground) (n : ℕ) {all : List SeatOfLanes} (ss : List SeatOfLanes) (s : SeatOfLanes) → all ≡ ss ++ s ∷ []
      → AreAt Has g ps all → h ≡ get_or ps n h → n ≡ length ss
      → AreAt Has g ps ss × (length ss < length ps) × (h ≡ get_or ps (length ss) h) × (h.key ≡ g) × Has h s
  at_pop_by ps h n ss s pop at is count =
      let popped = at_pop ps ss s pop at in
      let found = is ∙ ap (λ k. get_or ps k h) count in
      let last = popped.2 h in
      (popped.0, popped.1, found, ap (λ (p : HandoffOf Ground). p.key) found ∙ last.0, subst (λ p. Has p s) (sym found) last.1)

  -- and the other way round
  pub at_push : (ps : List (HandoffOf Ground)) {all : List SeatOfLanes} (ss : List SeatOfLanes) (s : SeatOfLanes) → all ≡ ss ++ s ∷ [] → AreAt Has g ps ss
      → length ss < length ps → ((p : HandoffOf Ground) → ((get_or ps (length ss) p).key ≡ g) × Has (get_or ps (length ss) p) s) → AreAt Has g ps all
  at_push ps {all} ss s push at within last =
      let many : length all ≡ length ss + 1 = ap length push ∙ length-append ss (s ∷ []) in record {
        many = omega (arith, many, within);
        each = λ k p d h. dite (ℕ_discrete k (length ss))
            (λ here. subst (λ n. ((get_or ps n p).key ≡ g) × Has (get_or ps n p) (get_or all n d)) (sym here)
            (subst (λ t. ((get_or ps (length ss) p).key ≡ g) × Has (get_or ps (length ss) p) t)
            (sym (ap (λ zs. get_or zs (length ss) d) push ∙ get_or-append_seam ss s [] d)) (last p)))
            (λ off. let before : k < length ss = omega (arith, h, many, off) in
            subst (λ t. ((get_or ps k p).key ≡ g) × Has (get_or ps k p) t) (sym (ap (λ zs. get_or zs k d) push ∙ get_or-append ss (s ∷ []) d k before))
            (at.each k p d before));
      }

  -- the last seat is put back behind the others
  pub at_return : (hs : List (HandoffOf Ground)) (h : HandoffOf Ground) {all : List SeatOfLanes} (before ss : List SeatOfLanes) (s : SeatOfLanes) → AreAt Has g hs ss
      → length ss ≡ length before → length before < length hs → h ≡ get_or hs (length before) h → h.key ≡ g → Has h s → all ≡ ss ++ s ∷ [] → AreAt Has g hs all
  at_return hs h before ss s at many within is key has push =
      at_push hs ss s push at (omega (arith, many, within))
      (λ p. let same : get_or hs (length ss) p ≡ h = ap (λ n. get_or hs n p) many ∙ get_or_default hs (length before) p h within ∙ sym is in
      (ap (λ (q : HandoffOf Ground). q.key) same ∙ key, subst (λ q. Has q s) (sym same) has))

-- a lane that came back from a worker has run in this round
pub came_back : {x : WorldOf} {r : Round} {g k : Ground} {n : ℕ} (old new : Lane) (m : ℕ) → g.world.value ≡ x → IsRoundOf g n r → k ≡ g
    → RunsAt k (record { lane = old; round = n }) (record { lane = new; round = m }) → RunsLane x r old new
came_back {x} {r} {g} {k} {n} old new m world round key runs =
    subst (λ (t : Round). RunsLane x t old new) (round.is r)
    (subst (λ (y : WorldOf). RunsLane y (get_or g.script.value.rounds n r) old new) world
    (subst (λ (j : Ground). RunsLane j.world.value (get_or j.script.value.rounds n r) old new) key (runs r)))

-- ---- the end

-- the givers before this one have ended, and the others may give
pub record EndsSoFar (handoffs : List (HandoffOf Ground)) (seats : List SeatOfLanes) (n : ℕ) : Type 0 where
  pub many : length seats ≡ length handoffs
  pub ended : (k : ℕ) (p : HandoffOf Ground) (s : SeatOfLanes) → k < n → HasEnded (get_or handoffs k p) (get_or seats k s)
  pub may_give : (k : ℕ) (p : HandoffOf Ground) (s : SeatOfLanes) → n ≤ k → k < length seats → MayGive (get_or handoffs k p) (get_or seats k s)

pub ends_none : {g : Ground} {handoffs : List (HandoffOf Ground)} {seats : List SeatOfLanes} → AllMayGive g handoffs seats → length seats ≡ length handoffs
    → EndsSoFar handoffs seats 0
ends_none at many = record { many = many; ended = λ k p s h. absurd (omega (arith, h)); may_give = λ k p s from h. (at.each k p s h).1 }

-- one more has ended
pub ends_one : {handoffs : List (HandoffOf Ground)} {seats : List SeatOfLanes} (n : ℕ) (s : SeatOfLanes) {all : List SeatOfLanes} → EndsSoFar handoffs seats n
    → n < length seats → all ≡ set seats n s → ((p : HandoffOf Ground) → HasEnded (get_or handoffs n p) s) → EndsSoFar handoffs all (n + 1)
ends_one {handoffs} {seats} n s {all} so_far within is ended =
    let same : length all ≡ length seats = ap length is ∙ length-set seats n s in record {
      many = same ∙ so_far.many;
      ended = λ k p d h. dite (ℕ_discrete k n)
          (λ here. subst (HasEnded (get_or handoffs k p)) (sym (ap (λ zs. get_or zs k d) is ∙ ap (λ i. get_or (set seats n s) i d) here ∙ get_or-set_same seats n s d within))
          (subst (λ i. HasEnded (get_or handoffs i p) s) (sym here) (ended p)))
          (λ off. subst (HasEnded (get_or handoffs k p)) (sym (ap (λ zs. get_or zs k d) is ∙ get_or-set_other seats n k s d off))
          (so_far.ended k p d (omega (arith, h, off))));
      may_give = λ k p d from h. subst (MayGive (get_or handoffs k p)) (sym (ap (λ zs. get_or zs k d) is ∙ get_or-set_other seats n k s d (λ e. omega (arith, from, e))))
          (so_far.may_give k p d (omega (arith, from)) (omega (arith, h, same)));
    }

pub ended_last : (handoffs ps : List (HandoffOf Ground)) (seats ss : List SeatOfLanes) (p : HandoffOf Ground) (s : SeatOfLanes)
    → handoffs ≡ ps ++ p ∷ [] → seats ≡ ss ++ s ∷ [] → AllHaveEnded handoffs seats → AllHaveEnded ps ss × HasEnded p s
ended_last handoffs ps seats ss p s was is ended =
    let apart = beside_pop (λ (q : HandoffOf Ground) (t : SeatOfLanes). HasEnded q t) ps ss p s was is ended.many
    (λ k d e h. ended.each k d e (omega (arith, h, ended.many))) in (
      record { many = apart.1; each = λ k q t h. apart.2 k q t (omega (arith, h, apart.1)) },
      apart.0,
    )
