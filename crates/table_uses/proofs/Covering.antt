-- The first pass covers the passes of all lanes.
use Rattle.std.proofs.Common.{◌≡◌, ℕ, suc, ◌<◌, List, [], ◌∷◌, ◌++◌, None, length, map, get_or, take, drop, refl, ap, sym, ◌∙◌, subst, arith}
use Rattle.std.proofs.lemmas.List.{append-nil, drop_all, map-append, take_all}
use Rattle.pass_names.specs.declared.PassId.{PassId}
use Rattle.pass_names.specs.Names.{AnswersFor, Covers, IsLast, after_retire}
use Rattle.pass_names.proofs.Covering.{covers_split, covers_answers, covers_retire, covers_last}
use Rattle.counted_row.specs.declared.view.View.{View}
use Rattle.counted_row.specs.Views.{RowOf, PassOfRow, IsPassOfRow, split_view, new_view}
use Rattle.table_uses.specs.declared.rows.counter.Counter.{Counter}
use Rattle.table_uses.specs.declared.rows.lanes.Lane.{Lane}
use Rattle.table_uses.specs.Lanes.{IsIdleLane, IsMainPass, name_of}

-- a pass that was just split off is ready for a lane
pub idle_new : (row : RowOf Counter) (lane : Lane) (v : View Counter ℕ ℕ) → IsPassOfRow row lane.pass → lane.pass.knows ≡ new_view v
    → IsIdleLane row lane
idle_new row lane v pass new = record { pass = pass; idle = ap (λ w. w.held) new; alone = ap (λ w. w.pass.id.split) new; unclaimed = ap (λ w. w.claims) new }

pub main_split : (row : RowOf Counter) (main main' : PassOfRow Counter ℕ ℕ) (lanes : List Lane) (lane : Lane) → IsMainPass row main lanes
    → IsPassOfRow row main' → main'.knows ≡ split_view main.knows
    → lane.pass.knows ≡ new_view main.knows → IsMainPass row main' (lanes ++ lane ∷ [])
main_split row main main' lanes lane is pass left right = record {
  pass = pass;
  idle = ap (λ v. v.held) left ∙ is.idle;
  first = ap (λ v. v.pass.id.name) left ∙ is.first;
  unclaimed = ap (λ v. v.claims) left ∙ is.unclaimed;
  covers = subst (Covers main'.knows.pass.id) (sym (map-append name_of lanes (lane ∷ [])))
      (covers_split main.knows.pass.id main'.knows.pass.id lane.pass.knows.pass.id (map name_of lanes)
      (ap (λ v. v.pass.id) left) (ap (λ v. v.pass.id) right) is.covers);
}

-- it covers the last lane's pass beside the others
covers_lanes : (row : RowOf Counter) (main : PassOfRow Counter ℕ ℕ) (lanes : List Lane) (lane : Lane) → IsMainPass row main (lanes ++ lane ∷ [])
    → Covers main.knows.pass.id (map name_of lanes ++ name_of lane ∷ [])
covers_lanes row main lanes lane is = subst (Covers main.knows.pass.id) (map-append name_of lanes (lane ∷ [])) is.covers

pub answers_last : (row : RowOf Counter) (main : PassOfRow Counter ℕ ℕ) (lanes : List Lane) (lane : Lane)
    → IsMainPass row main (lanes ++ lane ∷ []) → AnswersFor main.knows.pass.id lane.pass.knows.pass.id
answers_last row main lanes lane is = covers_answers main.knows.pass.id lane.pass.knows.pass.id (map name_of lanes) [] (covers_lanes row main lanes lane is)

pub main_joins : (row : RowOf Counter) (main main' : PassOfRow Counter ℕ ℕ) (lanes : List Lane) (lane : Lane)
    → IsMainPass row main (lanes ++ lane ∷ []) → IsIdleLane row lane → IsPassOfRow row main' → main'.knows.held ≡ None
    → main'.knows.claims ≡ main.knows.claims ++ lane.pass.knows.claims
    → main'.knows.pass.id ≡ after_retire main.knows.pass.id lane.pass.knows.pass.id → IsMainPass row main' lanes
main_joins row main main' lanes lane is lane_is pass idle claims id = record {
  pass = pass;
  idle = idle;
  first = ap (λ (l : PassId). l.name) id ∙ is.first;
  unclaimed = claims ∙ (ap (λ cs. cs ++ lane.pass.knows.claims) is.unclaimed ∙ lane_is.unclaimed);
  covers = subst (Covers main'.knows.pass.id) (append-nil (map name_of lanes))
      (covers_retire main.knows.pass.id lane.pass.knows.pass.id main'.knows.pass.id (map name_of lanes) [] lane_is.alone id
      (covers_lanes row main lanes lane is));
}

pub main_last : (row : RowOf Counter) (main : PassOfRow Counter ℕ ℕ) → IsMainPass row main [] → IsLast main.knows.pass.id
main_last row main is = covers_last main.knows.pass.id is.first is.covers

pub same_names : (old new : List Lane) → length new ≡ length old
    → ((k : ℕ) (d : Lane) → k < length old → name_of (get_or new k d) ≡ name_of (get_or old k d)) → map name_of new ≡ map name_of old
same_names [] [] len each = refl
same_names (x ∷ xs) (y ∷ ys) len each = λ i. each 0 x (omega arith) i ∷ same_names xs ys (omega arith) (λ k d h. each (suc k) d (omega arith)) i
same_names [] (y ∷ ys) len each = absurd (omega arith)
same_names (x ∷ xs) [] len each = absurd (omega arith)

-- what is written back through a slice of all elements
pub written : (s items : List Lane) (n : ℕ) → length s ≡ length items → n ≡ length items → take n (s ++ drop (length s) items) ≡ s
written s items n len all =
    ap (λ rest. take n (s ++ rest)) (drop_all (length s) items (omega arith)) ∙ (ap (take n) (append-nil s) ∙ take_all n s (omega arith))

pub main_same : (row : RowOf Counter) (main : PassOfRow Counter ℕ ℕ) (old new : List Lane) → map name_of new ≡ map name_of old
    → IsMainPass row main old → IsMainPass row main new
main_same row main old new names is =
    record { pass = is.pass; idle = is.idle; first = is.first; unclaimed = is.unclaimed; covers = subst (Covers main.knows.pass.id) (sym names) is.covers }
