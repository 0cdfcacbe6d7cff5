-- Calls of a small witness: tests of where they stand, and what else makes each right.
use Rattle.std.proofs.Common.{◌≡◌, ◌&&◌, ℕ, ◌+◌, Bool, true, nat_eq, nat_le, List, [], ◌∷◌, length, map, arith, sym, ap, ◌∙◌, subst}
use Rattle.std.specs.List.Sorted.{IsPermutation}
use Rattle.std.proofs.lemmas.Bool.{and_parts, eqb-true}
use Rattle.std.proofs.lemmas.List.Sorted.{IsPermutation-refl}
use Rattle.std.proofs.lemmas.List.{get_or_past, nil_from_length}
use Rattle.record_text.specs.declared.record.Answer.{Answer}
use Rattle.record_text.specs.declared.record.Label.{Label}
use Rattle.script_text.specs.declared.script.Call.{Call}
use Rattle.script_text.specs.declared.script.Call.TheVariants as calls
use Rattle.run_history.specs.Actions.{own, looked, made, own_looks, own_skips, skipped, wrote}
use Rattle.run_history.specs.Histories.{clock_labels, lines_of_timer}
use Rattle.run_history.specs.Objects.{lines_of_object}
use Rattle.run_history.specs.Order.{CallInRound}
use Rattle.run_history.specs.Calls.{Does, AnswerHolds}
use Rattle.run_history.specs.Deeds.{AllKeepExpiries, AllMoved}
use Rattle.run_history.specs.Truths.{AreTrue, LeftInTurn, sight_of}
use Rattle.run_history.specs.Witnesses.{Witness, labels, writes_along}
use Rattle.run_history.specs.Fits.{FitsLane, HasRead, ReadsInTurn, Seen}
use Rattle.run_history.specs.Traces.{all_entered, own_moves}
use Rattle.run_history.proofs.OthersMade.{none_moved}
use Rattle.run_cases.proofs.Witnesses.{Along, everywhere}
use Rattle.run_cases.proofs.Tests.{are_made, are_timed, AreTold, HasOthers, heard_passes, is_heard, is_point, never_fall, IsPast, made_past, point_passes, steps_pass, told_pass, upto}

-- ---- calls

-- the last of these numbers, or this one
abbrev pub last_of : ℕ → List ℕ → ℕ
last_of n [] = n
last_of n (m ∷ ms) = last_of m ms

-- how many writes a call has seen at its end
abbrev pub clock_then : Witness → Label → ℕ
clock_then w c = last_of (w.traces c).at (map (λ x. x.0) (wrote (w.traces c).actions))

-- a call's reading, its first and its last moment stand where they may, behind these numbers of writes and of moves, and it has as many of the clock's
-- writes as stand before the first moment
abbrev pub is_placed : Witness → Label → ℕ → ℕ → Bool
is_placed w c clock moves =
    (is_point w.script c 0 (w.traces c).at (clock_labels w.run)
    && (never_fall clock ((w.traces c).at ∷ map (λ x. x.0) (wrote (w.traces c).actions)) (clock_then w c)
    && nat_eq (writes_along w (w.traces c).first) (w.traces c).at))
    && ((is_point w.script c 0 (w.traces c).first (labels w)
    && is_point w.script c (length (all_entered (w.traces c).actions)) (w.traces c).last (labels w)) && nat_le moves (w.traces c).first)

-- what a lane has seen at a call's end
abbrev pub seen_then : Witness → Label → Seen → Seen
seen_then w c before = record { clock = clock_then w c; moves = (w.traces c).last }

-- what else makes a call fit
pub record IsRight (w : Witness) (c : Label) (call : Call) (answer : Answer) : Type 0 where
  pub clock : own (λ line. line.label) (λ line. line.write) c 1 w.run.clock ≡ wrote (w.traces c).actions
  pub moves : own_moves c w.moves ≡ all_entered (w.traces c).actions
  pub looks : (t : ℕ) → own_looks c 1 (lines_of_timer w.run t) ≡ looked t (w.traces c).actions
  pub objects : (i : ℕ) → own (λ line. line.label) (λ line. line.entry) c 1 (lines_of_object w.run i) ≡ made i (w.traces c).actions
  pub skips : (i : ℕ) → IsPermutation (own_skips c 1 (lines_of_object w.run i)) (skipped i (w.traces c).actions)
  pub does : Does (sight_of w (w.traces c).first (w.traces c).last) w.script (w.traces c).at call answer (w.traces c).fired (w.traces c).moved
      (w.traces c).actions
  pub keeps : AllKeepExpiries w.script w.run call (w.traces c).moved
  pub turns : AllMoved (LeftInTurn w (w.traces c).first (w.traces c).last) call (w.traces c).moved
  pub truth : AreTrue w c (w.traces c).first [] (w.traces c).actions (w.traces c).last
  pub holds : AnswerHolds w (w.traces c).first (w.traces c).last c (w.traces c).at (w.traces c).actions call answer

-- the same of a lane's calls from one of them on
abbrev pub AreRight : Witness → ℕ → ℕ → List CallInRound → List Answer → Type 0
AreRight w lane index [] [] = Unit
AreRight w lane index (p ∷ ps) (a ∷ more) =
    IsRight w (record { lane = lane; call = index }) p.call a × AreRight w lane (index + 1) ps more
AreRight w lane index [] (a ∷ more) = ⊥
AreRight w lane index (p ∷ ps) [] = ⊥

-- the same of a lane's calls from one of them on
abbrev pub are_placed : Witness → ℕ → ℕ → Seen → List CallInRound → List Answer → Bool
are_placed w lane index before (p ∷ ps) (a ∷ more) =
    (is_placed w (record { lane = lane; call = index }) before.clock before.moves && is_heard w (record { lane = lane; call = index }))
    && are_placed w lane (index + 1) (seen_then w (record { lane = lane; call = index }) before) ps more
are_placed w lane index before ps given = true

-- a call that could have read the clock there did so in its turn, if it read it
pub in_turn : (w : Witness) (c : Label) (call : Call) (from : ℕ) → HasRead w c from → ReadsInTurn w c call from
in_turn w c (calls.Cancel timer) from read = tt
in_turn w c (calls.Peek timer) from read = tt
in_turn w c (calls.Overrun timer) from read = tt
in_turn w c (calls.Slept timer) from read = tt
in_turn w c (calls.Online base) from read = tt
in_turn w c call from read = read

-- law: so the calls of a lane fit
pub lane_fits : (w : Witness) → HasOthers w → (lane index : ℕ) (before : Seen) (ps : List CallInRound) (given : List Answer)
    → are_placed w lane index before ps given ≡ true → AreRight w lane index ps given → FitsLane w lane index before ps given
lane_fits w others lane index before [] [] placed right = tt
lane_fits w others lane index before [] (a ∷ more) placed right = absurd right
lane_fits w others lane index before (p ∷ ps) [] placed right = absurd right
lane_fits w others lane index before (p ∷ ps) (a ∷ more) placed right =
    let c : Label = record { lane = lane; call = index } in
    let t = w.traces c in
    let these = map (λ x. x.0) (wrote t.actions) in
    let all = and_parts (is_placed w c before.clock before.moves && is_heard w c)
    (are_placed w lane (index + 1) (seen_then w c before) ps more) placed in
    let both = and_parts (is_placed w c before.clock before.moves) (is_heard w c) all.0 in
    let halves = and_parts (is_point w.script c 0 t.at (clock_labels w.run)
    && (never_fall before.clock (t.at ∷ these) (clock_then w c) && nat_eq (writes_along w t.first) t.at))
    ((is_point w.script c 0 t.first (labels w) && is_point w.script c (length (all_entered t.actions)) t.last (labels w))
    && nat_le before.moves t.first) both.0 in
    let times = and_parts (is_point w.script c 0 t.at (clock_labels w.run))
    (never_fall before.clock (t.at ∷ these) (clock_then w c) && nat_eq (writes_along w t.first) t.at) halves.0 in
    let readings = and_parts (never_fall before.clock (t.at ∷ these) (clock_then w c)) (nat_eq (writes_along w t.first) t.at) times.1 in
    let rest = and_parts (is_point w.script c 0 t.first (labels w) && is_point w.script c (length (all_entered t.actions)) t.last (labels w))
    (nat_le before.moves t.first) halves.1 in
    let ends = and_parts (is_point w.script c 0 t.first (labels w))
    (is_point w.script c (length (all_entered t.actions)) t.last (labels w)) rest.0 in (
      seen_then w c before,
      (
        record {
          traced = record {
            clock = right.0.clock;
            moves = right.0.moves;
            looks = right.0.looks;
            objects = right.0.objects;
            skips = right.0.skips;
            signals = heard_passes w others c both.1;
          };
          does = right.0.does;
          keeps = right.0.keeps;
          turns = right.0.turns;
          reading = point_passes w.script c 0 t.at (clock_labels w.run) times.0;
          begins = point_passes w.script c 0 t.first (labels w) ends.0;
          ends = point_passes w.script c (length (all_entered t.actions)) t.last (labels w) ends.1;
          truth = right.0.truth;
          holds = right.0.holds;
          clock_steps = steps_pass before.clock (t.at ∷ these) (clock_then w c) readings.0;
          move_steps = (upto before.moves t.first rest.1, omega arith);
        },
        in_turn w c p.call before.moves (record {
          moment = t.first;
          behind = upto before.moves t.first rest.1;
          no_later = omega arith;
          writes = eqb-true (writes_along w t.first) t.at readings.1;
        }),
      ),
      lane_fits w others lane (index + 1) (seen_then w c before) ps more all.1 right.1,
    )

-- what a call did can be said of each timer and each object that is there
abbrev pub is_said : Witness → Label → Bool
is_said w c = are_made (length w.run.timers) (length w.run.objects) (w.traces c).actions

-- law: so a call is right
pub right_moving : {w : Witness} {c : Label} {call : Call} {answer : Answer} → is_said w c ≡ true
    → own (λ line. line.label) (λ line. line.write) c 1 w.run.clock ≡ wrote (w.traces c).actions
    → own_moves c w.moves ≡ all_entered (w.traces c).actions
    → Along (λ t. own_looks c 1 (lines_of_timer w.run t) ≡ looked t (w.traces c).actions) 0 w.run.timers
    → Along (λ i. own (λ line. line.label) (λ line. line.entry) c 1 (lines_of_object w.run i) ≡ made i (w.traces c).actions) 0 w.run.objects
    → Along (λ i. own_skips c 1 (lines_of_object w.run i) ≡ skipped i (w.traces c).actions) 0 w.run.objects
    → Does (sight_of w (w.traces c).first (w.traces c).last) w.script (w.traces c).at call answer (w.traces c).fired (w.traces c).moved (w.traces c).actions
    → AllKeepExpiries w.script w.run call (w.traces c).moved × AllMoved (LeftInTurn w (w.traces c).first (w.traces c).last) call (w.traces c).moved
    → (are_timed w c (w.traces c).first [] (w.traces c).actions (w.traces c).last ≡ true) × AreTold w c [] (w.traces c).actions
    → AnswerHolds w (w.traces c).first (w.traces c).last c (w.traces c).at (w.traces c).actions call answer
    → IsRight w c call answer
right_moving {w} {c} {call} {answer} said clock moves looks objects skips does moved truth holds =
    let r = w.run in
    let ds = (w.traces c).actions in
    let past : (i : ℕ) → IsPast (length r.timers) (length r.objects) i ds = λ i. made_past (length r.timers) (length r.objects) i ds said in
    record {
      clock = clock;
      moves = moves;
      looks = everywhere (λ t. own_looks c 1 (lines_of_timer r t) ≡ looked t ds) r.timers looks (λ t more.
          ap (own_looks c 1) (get_or_past r.timers t [] more) ∙ sym ((past t).looked more));
      objects = everywhere (λ i. own (λ line. line.label) (λ line. line.entry) c 1 (lines_of_object r i) ≡ made i ds) r.objects objects (λ i more.
          ap (own (λ line. line.label) (λ line. line.entry) c 1) (get_or_past r.objects i [] more) ∙ sym ((past i).made more));
      skips = λ i. subst (λ xs. IsPermutation xs (skipped i ds))
          (sym (everywhere (λ i. own_skips c 1 (lines_of_object r i) ≡ skipped i ds) r.objects skips (λ i more.
          ap (own_skips c 1) (get_or_past r.objects i [] more) ∙ sym ((past i).skipped more)) i))
          (IsPermutation-refl (skipped i ds));
      does = does;
      keeps = moved.0;
      turns = moved.1;
      truth = told_pass w c (w.traces c).first [] ds (w.traces c).last truth.0 truth.1;
      holds = holds;
    }

-- law: the same of a call that moved no timer off a base
pub right : {w : Witness} {c : Label} {call : Call} {answer : Answer} → (nat_eq (length (w.traces c).moved) 0 && is_said w c) ≡ true
    → own (λ line. line.label) (λ line. line.write) c 1 w.run.clock ≡ wrote (w.traces c).actions
    → own_moves c w.moves ≡ all_entered (w.traces c).actions
    → Along (λ t. own_looks c 1 (lines_of_timer w.run t) ≡ looked t (w.traces c).actions) 0 w.run.timers
    → Along (λ i. own (λ line. line.label) (λ line. line.entry) c 1 (lines_of_object w.run i) ≡ made i (w.traces c).actions) 0 w.run.objects
    → Along (λ i. own_skips c 1 (lines_of_object w.run i) ≡ skipped i (w.traces c).actions) 0 w.run.objects
    → Does (sight_of w (w.traces c).first (w.traces c).last) w.script (w.traces c).at call answer (w.traces c).fired (w.traces c).moved (w.traces c).actions
    → (are_timed w c (w.traces c).first [] (w.traces c).actions (w.traces c).last ≡ true) × AreTold w c [] (w.traces c).actions
    → AnswerHolds w (w.traces c).first (w.traces c).last c (w.traces c).at (w.traces c).actions call answer
    → IsRight w c call answer
right {w} {c} {call} {answer} said clock moves looks objects skips does truth seen =
    let moved = (w.traces c).moved in
    let parts = and_parts (nat_eq (length moved) 0) (is_said w c) said in
    right_moving parts.1 clock moves looks objects skips does
    (none (nil_from_length moved (eqb-true (length moved) 0 parts.0)))
    truth seen
  where
    none : (w.traces c).moved ≡ []
        → AllKeepExpiries w.script w.run call (w.traces c).moved × AllMoved (LeftInTurn w (w.traces c).first (w.traces c).last) call (w.traces c).moved
    none is = (subst (AllMoved _ call) (sym is) (none_moved _ call), subst (AllMoved _ call) (sym is) (none_moved _ call))
