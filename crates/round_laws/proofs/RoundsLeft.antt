-- What all lanes leave of a round, and of rounds in turn, from the first passes on.
use Rattle.std.proofs.Common.{◌≡◌, ◌≤◌, ◌<◌, ℕ, ◌+◌, ◌-◌, suc, get_or, replicate, List, [], ◌∷◌, ◌++◌, length, length-append, map, arith, refl, sym, ap, ◌∙◌, subst, ⊎_elim, zero, true, false}
use Rattle.std.specs.List.{AllByRecursion}
use Rattle.std.proofs.lemmas.Bool.{cases_Bool, cases_lt}
use Rattle.std.proofs.lemmas.List.{get_or-replicate, get_or_past, length-replicate}
use Rattle.std.proofs.lemmas.List.Elements.{recursion_from_All}
use Rattle.record_text.proofs.Lists.{All-back, All-front}
use Rattle.record_text.specs.declared.record.Answer.{Answer}
use Rattle.record_text.specs.declared.record.Label.{Label}
use Rattle.lane_notes.specs.Notes.{NotesOf, no_notes}
use Rattle.run_history.specs.Fits.{Seen, unseen}
use Rattle.run_history.specs.Order.{CallInRound, calls_from, calls_of}
use Rattle.script_text.specs.Scripts.{all_calls, IsInRange}
use Rattle.script_text.specs.declared.script.LaneCall.{LaneCall}
use Rattle.script_text.specs.declared.script.Round.{Round}
use Rattle.script_text.specs.declared.script.Script.{Script}
use Rattle.lane_notes.proofs.Kept.{seen_by}
use Rattle.lane_notes.specs.Rounds.{BeginsRound, calling_from, has_calls, IsLaneOf, lane_calls, LeftOf, MakesLane, MakesRound, MakesRounds, none_left, TakesInLanes, TakesInPass, with_lane}
use Rattle.lane_notes.specs.Worlds.{AreFirst, IsWhole, IsWorldOf, WorldOf}
use Rattle.lane_notes.specs.declared.lane.Lane.{Lane}
use Rattle.lane_notes.specs.declared.lane.WorldPass.{WorldPass}
use Rattle.round_laws.proofs.CallingLanes.{calls_within, in_round, many_calls, no_calls, round_first, lane_and_behind, many_from, many_most}
use Rattle.round_laws.proofs.Chains.{up_to_push, no_less_same}
use Rattle.round_laws.proofs.LaneKept.{KeepsEach, fits_lane_behind}
use Rattle.round_laws.proofs.LaneRound.{BeginsSo, begins_behind, begins_first, IsKeptOf, kept_pushed, LaneSoFar, leaves_from, MakesInRound, turns_done}
use Rattle.round_laws.proofs.LanesTaken.{AreLeftSoFar, left_first_lane, left_taken, put, put_at}
use Rattle.round_laws.proofs.NotesJoined.{none_noted}
use Rattle.round_laws.proofs.Tallies.{sum_none, tallies_none}
use Rattle.pass_names.specs.Counts.{count}
use Rattle.pass_names.specs.Passes.{is_place}
use Rattle.run_history.specs.Runs.{witness_of}
use Rattle.run_history.specs.Actions.{also}
use Rattle.lane_notes.specs.Called.{lane_of}

-- the number of a lane
abbrev pub name_of : Lane → ℕ
name_of l = l.label.lane

-- ---- a round

-- the lanes from this one on were taken in; the others are as before
pub record AreTaken (s : Script) (past : List Seen) (was : ℕ → LaneSoFar) (rest : ℕ → List CallInRound) (r : Round) (old : LeftOf) (a : ℕ)
    (q : WorldPass) (now : LeftOf) : Type 0 where
  pub of : ℕ → LaneSoFar
  pub left : AreLeftSoFar s past q now of
  pub free : (j : ℕ) → j < a → of j ≡ was j
  pub taken : (j : ℕ) → a ≤ j → (of j).rest ≡ rest j
  pub few : length now.notes.writes ≤ length old.notes.writes + many_from r a

-- when a round begins
round_begun : {s : Script} {past : List Seen} {p : WorldPass} {left : LeftOf} {of : ℕ → LaneSoFar} → AreLeftSoFar s past p left of
    → AreLeftSoFar s (past ++ seen_by p ∷ []) p left of
round_begun {past = past} {p = p} so_far = record {
  lanes = so_far.lanes;
  given = so_far.given;
  kept = λ j. kept_pushed (so_far.kept j);
  are = so_far.are;
  tallies = so_far.tallies;
  turned = so_far.turned;
  rise = up_to_push past (seen_by p) so_far.rise;
}

module _ {s : Script} {x : WorldOf} (each : KeepsEach s x) (world : IsWorldOf s x) (range : IsInRange s) (whole : IsWhole x) (before : List Seen)
    (base : WorldPass) (left : LeftOf) (was : ℕ → LaneSoFar) (so_far : AreLeftSoFar s before base left was) (r : Round)
    (callers : AllByRecursion (λ c. c.lane < s.lanes) r.calls) (rest : ℕ → List CallInRound)
    (calls : (j : ℕ) → (was j).rest ≡ in_round (length before) (lane_calls j r) ++ rest j) where
  -- a lane of this number leaves this of the round, behind these notes of its passes
  abbrev LeavesFrom : NotesOf → List (ℕ × ℕ) → ℕ → Lane → Type 0
  LeavesFrom start from j l =
      MakesInRound s x before base (was j).done start from j (lane_of l) (was j).done (rest j) l.answers.items (many_calls r j) × (j < s.lanes)

  abbrev Leaves : ℕ → Lane → Type 0
  Leaves = LeavesFrom no_notes []

  leaves_by : {start : NotesOf} {from : List (ℕ × ℕ)} {old new : Lane} → old.label.lane < s.lanes → BeginsSo s x base left start from old
      → MakesLane x r old new → LeavesFrom start from (name_of new) new
  leaves_by {start} {from} {old} {new} within begins makes =
      let name = old.label.lane in
      let kept = subst (λ ps. IsKeptOf s before base name (record { done = (was name).done; rest = ps })) (calls name) (so_far.kept name) in
      let its = leaves_from each world range whole before base (was name).done start from (rest name) (kept_pushed kept) (so_far.given name) begins makes in
      subst (λ j. LeavesFrom start from j new) (sym makes.name) (its, within)

  -- each does that has calls in it
  each_leaves : (begun ended : List Lane) → length ended ≡ length begun → AllByRecursion (BeginsRound base left) begun
      → AllByRecursion (IsLaneOf x) begun → ((k : ℕ) (d : Lane) → k < length begun → MakesLane x r (get_or begun k d) (get_or ended k d))
      → AllByRecursion (λ l. Leaves (name_of l) l) ended × (map name_of ended ≡ map name_of begun)
  each_leaves [] [] many begins lanes made = (tt, refl)
  each_leaves [] (e ∷ ended) many begins lanes made = absurd (omega (arith, many))
  each_leaves (b ∷ begun) [] many begins lanes made = absurd (omega (arith, many))
  each_leaves (b ∷ begun) (e ∷ ended) many begins lanes made =
      let makes : MakesLane x r b e = made 0 b (omega arith) in
      let name = b.label.lane in
      let those = each_leaves begun ended (omega (arith, many)) begins.1 lanes.1 (λ k d less. made (suc k) d (omega (arith, less))) in (
        (leaves_by (subst (λ k. name < k) so_far.lanes begins.0.within) (begins_behind begins.0 lanes.0) makes, those.0),
        ap (λ j. j ∷ map name_of ended) makes.name ∙ ap (λ js. name ∷ js) those.1,
      )

  -- a lane without calls in the round has as many left behind it
  no_more : (j : ℕ) → has_calls r j ≡ false → (was j).rest ≡ rest j
  no_more j none = calls j ∙ ap (λ cs. in_round (length before) cs ++ rest j) (no_calls r j none)

  -- what the first lane leaves, and of the others what they had
  module _ (split : WorldPass) (began : LeftOf) (since : ℕ → LaneSoFar) (begun : AreLeftSoFar s (before ++ seen_by base ∷ []) split began since)
      (same : (j : ℕ) → 0 < j → since j ≡ was j) where
    abbrev Taken : ℕ → WorldPass → LeftOf → Type 0
    Taken a q now = AreTaken s (before ++ seen_by base ∷ []) since rest r began a q now

    none_since : (j : ℕ) → 0 < j → has_calls r j ≡ false → (since j).rest ≡ rest j
    none_since j behind none = ap (λ (d : LaneSoFar). d.rest) (same j behind) ∙ no_more j none

    -- past a lane without calls in the round
    past_lane : {a : ℕ} {q : WorldPass} {now : LeftOf} → 0 < a → has_calls r a ≡ false → Taken (a + 1) q now → Taken a q now
    past_lane {a} behind none those = record {
      of = those.of;
      left = those.left;
      free = λ j less. those.free j (omega (arith, less));
      taken = λ j le. ⊎_elim (λ (less : a < j). those.taken j (omega (arith, less)))
          (λ (least : j ≤ a). subst (λ i. (those.of i).rest ≡ rest i) (omega (arith, le, least))
          (ap (λ (d : LaneSoFar). d.rest) (those.free a (omega arith)) ∙ none_since a behind none)) (cases_lt a j);
      few = omega (arith, those.few, lane_and_behind r a);
    }

    -- a lane is taken in
    one_lane : {a : ℕ} {m q : WorldPass} {mid : LeftOf} (lane : Lane) → 0 < a → name_of lane ≡ a → Leaves (name_of lane) lane → TakesInPass m lane.pass q
        → Taken (a + 1) m mid → Taken a q (with_lane mid lane)
    one_lane {a} {mid = mid} lane behind here its takes those =
        let name = name_of lane in
        let leaves = subst (λ (d : LaneSoFar). MakesInRound s x before base d.done no_notes [] name (lane_of lane) d.done (rest name) lane.answers.items
        (many_calls r name))
        (sym (those.free name (omega (arith, here)) ∙ same name (omega (arith, here, behind)))) its.0 in
        let end : LaneSoFar = record { done = leaves.all; rest = rest name } in
        record {
          of = put those.of name end;
          left = left_taken those.of lane leaves its.1 takes those.left;
          free = λ j less. put_at (λ e. e ≡ since j) those.of name end j (λ is. absurd (omega (arith, less, is, here)))
              (λ other. those.free j (omega (arith, less)));
          taken = λ j le. put_at (λ (e : LaneSoFar). e.rest ≡ rest j) those.of name end j (λ is. ap rest (sym is))
              (λ other. those.taken j (omega (arith, le, here, other)));
          few = omega (arith, those.few, its.0.few, ap (many_calls r) here, lane_and_behind r a, length-append mid.notes.writes lane.notes.writes);
        }

    -- all of them, the last one first
    lanes_taken : (n a : ℕ) (lanes : List Lane) (q : WorldPass) (now : LeftOf) → 0 < a → s.lanes ≤ a + n → AllByRecursion (λ l. Leaves (name_of l) l) lanes
        → map name_of lanes ≡ calling_from r a n → TakesInLanes split began lanes q now → Taken a q now
    lanes_taken zero a (lane ∷ lanes) q now behind enough leaves names takes = absurd (cc)
    lanes_taken zero a [] q now behind enough leaves names takes = record {
      of = since;
      left = subst (λ k. AreLeftSoFar s (before ++ seen_by base ∷ []) k now since) (sym takes.0)
          (subst (λ k. AreLeftSoFar s (before ++ seen_by base ∷ []) split k since) (sym takes.1) begun);
      free = λ j less. refl;
      taken = λ j le. none_since j (omega (arith, behind, le)) (⊎_elim
          (λ has. absurd (omega (arith, le, enough, calls_within j s.lanes r.calls callers has))) (λ none. none) (cases_Bool (has_calls r j)));
      few = omega (arith, ap (λ (k : LeftOf). length k.notes.writes) takes.1);
    }
    lanes_taken (suc n) a [] q now behind enough leaves names takes =
        elim (has_calls r a) as (λ b. has_calls r a ≡ b → [] ≡ also b a (calling_from r (a + 1) n) → Taken a q now) [
          | true ↦ λ has names. absurd (cc)
          | false ↦ λ none names. past_lane behind none (lanes_taken n (a + 1) [] q now (omega arith) (omega (arith, enough)) leaves names takes)
        ] refl names
    lanes_taken (suc n) a (lane ∷ lanes) q now behind enough leaves names takes =
        elim (has_calls r a) as (λ b. has_calls r a ≡ b → name_of lane ∷ map name_of lanes ≡ also b a (calling_from r (a + 1) n) → Taken a q now) [
          | true ↦ λ has names. subst (Taken a q) (sym takes.4) (one_lane lane behind (cc) leaves.0 takes.3
              (lanes_taken n (a + 1) lanes takes.0 takes.1 (omega arith) (omega (arith, enough)) leaves.1 (cc) takes.2))
          | false ↦ λ none names. past_lane behind none
              (lanes_taken n (a + 1) (lane ∷ lanes) q now (omega arith) (omega (arith, enough)) leaves names takes)
        ] refl names

  -- law: what all lanes leave of the round
  round_left : {q : WorldPass} {now : LeftOf} → 0 < s.lanes → MakesRound x r base left q now
      → AreTaken s (before ++ seen_by base ∷ []) was rest r left 0 q now
  round_left {q} {now} some makes =
      let after = makes.after in
      let past = before ++ seen_by base ∷ [] in
      let led : name_of makes.first ≡ 0 = ap (λ (l : Label). l.lane) makes.leads.label in
      let here : name_of after ≡ 0 = makes.first_made.name ∙ led in
      let its = leaves_by (subst (λ n. n < s.lanes) (sym led) some) (begins_first makes.leads so_far.tallies) makes.first_made in
      let end : LaneSoFar = record { done = its.0.all; rest = rest (name_of after) } in
      let those = each_leaves makes.begun makes.ended makes.as_many (recursion_from_All (BeginsRound base left) makes.begun makes.begins)
      (recursion_from_All (IsLaneOf x) makes.begun makes.of) makes.made in
      let taken = lanes_taken after.pass (with_lane left after) (put was (name_of after) end) (left_first_lane was after its.0 its.1 (round_begun so_far))
      (λ j behind. put_at (λ e. e ≡ was j) was (name_of after) end j (λ is. absurd (omega (arith, behind, is, here))) (λ other. refl))
      (length left.answers - 1) 1 makes.ended q now (omega arith) (omega (arith, so_far.lanes)) those.0 (those.1 ∙ makes.lanes) makes.taken in
      record {
        of = taken.of;
        left = taken.left;
        free = λ j less. absurd (omega (arith, less));
        taken = λ j le. ⊎_elim (λ (less : 0 < j). taken.taken j (omega (arith, less)))
            (λ (none : j ≤ 0). ap (λ (d : LaneSoFar). d.rest) (taken.free j (omega (arith, none)))
            ∙ put_at (λ (e : LaneSoFar). e.rest ≡ rest j) was (name_of after) end j (λ is. ap rest (sym is))
            (λ other. absurd (other (omega (arith, none, here))))) (cases_lt 0 j);
        few = omega
            (arith, taken.few, its.0.few, ap (many_calls r) here, lane_and_behind r 0, length-append left.notes.writes after.notes.writes);
      }

-- ---- rounds in turn

-- what all lanes have left in the end, of so many calls
pub record AreAllLeft (s : Script) (left : LeftOf) (calls : ℕ) (q : WorldPass) (now : LeftOf) : Type 0 where
  pub past : List Seen
  pub of : ℕ → LaneSoFar
  pub all : AreLeftSoFar s past q now of
  pub behind : (j : ℕ) → (of j).rest ≡ []
  pub few : length now.notes.writes ≤ length left.notes.writes + calls

-- law: rounds in turn
pub rounds_left : {s : Script} {x : WorldOf} (each : KeepsEach s x) (world : IsWorldOf s x) (range : IsInRange s) (whole : IsWhole x) (rs : List Round)
    (before : List Seen) {p : WorldPass} {left : LeftOf} {of : ℕ → LaneSoFar} {q : WorldPass} {now : LeftOf} → AreLeftSoFar s before p left of
    → ((j : ℕ) → (of j).rest ≡ calls_from j (length before) rs) → AllByRecursion (λ c. c.lane < s.lanes) (all_calls rs) → MakesRounds x rs p left q now
    → AreAllLeft s left (length (all_calls rs)) q now
rounds_left {s = s} each world range whole [] before {p} {of = of} {now = now} so_far calls callers makes = record {
  past = before;
  of = of;
  all = subst (λ k. AreLeftSoFar s before k now of) (sym makes.0) (subst (λ k. AreLeftSoFar s before p k of) (sym makes.1) so_far);
  behind = calls;
  few = omega (arith, ap (λ (k : LeftOf). length k.notes.writes) makes.1);
}
rounds_left {s = s} {x = x} each world range whole (r ∷ rs) before {p} {left} {of} so_far calls callers makes =
    let rest : ℕ → List CallInRound = λ j. calls_from j (length before + 1) rs in
    let firsts : (j : ℕ) → (of j).rest ≡ in_round (length before) (lane_calls j r) ++ rest j =
    λ j. calls j ∙ round_first j (length before) r rs in
    let here = All-front (λ (c : LaneCall). c.lane < s.lanes) r.calls (all_calls rs) callers in
    let taken = round_left each world range whole before p left of so_far r here rest firsts (omega (arith, range.lanes.0)) makes.2 in
    let others = rounds_left each world range whole rs (before ++ seen_by p ∷ []) taken.left
    (λ j. taken.taken j (omega arith) ∙ ap (λ n. calls_from j n rs) (sym (length-append before (seen_by p ∷ []))))
    (All-back (λ (c : LaneCall). c.lane < s.lanes) r.calls (all_calls rs) callers) makes.3 in
    record {
      past = others.past;
      of = others.of;
      all = others.all;
      behind = others.behind;
      few = omega (arith, taken.few, many_most r 0, others.few, length-append r.calls (all_calls rs));
    }

-- ---- before the first round

-- a lane before its first call
abbrev pub lane_first : Script → ℕ → LaneSoFar
lane_first s j = record { done = []; rest = calls_of s j }

no_answers : (lanes j : ℕ) → get_or {A = List Answer} (replicate lanes []) j [] ≡ []
no_answers lanes j =
    ⊎_elim (λ less. get_or-replicate lanes j [] [] less)
    (λ more. get_or_past (replicate lanes []) j [] (subst (λ n. n ≤ j) (sym (length-replicate lanes [])) more)) (cases_lt j lanes)

-- law: then nothing is left yet
pub left_first : (s : Script) {x : WorldOf} {p : WorldPass} → AreFirst x p → AreLeftSoFar s [] p (none_left s.lanes) (lane_first s)
left_first s {p = p} first = record {
  lanes = length-replicate s.lanes [];
  given = no_answers s.lanes;
  kept = λ j. record {
    parts = refl;
    promised = λ e follows has joined more fits. fits_lane_behind (witness_of s e) j 0 unseen (seen_by p) (calls_of s j) more
        (record { clock = omega arith; moves = omega arith }) fits;
    each = tt;
    next = λ x i g h at. absurd (cc);
  };
  are = none_noted (λ c g at. absurd (let none = at.1 in cc));
  tallies = tallies_none (ap (λ k. k.mine) first.timers) (ap (λ v. v.pass.mine) first.objects) (ap (λ v. v.pass.mine) first.clock);
  turned = λ k. omega (
    arith,
    ap (λ v. count (is_place 0 k) v.mine) first.signals,
    sum_none s.lanes (λ j. turns_done k (lane_first s j).done) (λ j. refl),
  );
  rise = λ round. no_less_same;
}
