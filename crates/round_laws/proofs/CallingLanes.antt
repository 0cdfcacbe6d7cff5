-- How many calls the lanes have in a round, and where these stand among the calls of a lane.
use Rattle.std.proofs.Common.{◌≡◌, ◌≤◌, ◌<◌, ℕ, ◌+◌, ◌^◌, Bool, true, false, nat_eq, nat_le, filter, List, [], ◌∷◌, ◌++◌, length, length-append, map, arith, refl, sym, ap, ◌∙◌, subst, ⊎_elim, true≢false}
use Rattle.std.specs.List.{AllByRecursion, list_any}
use Rattle.std.proofs.lemmas.Bool.Decides.{nat_tests}
use Rattle.std.proofs.lemmas.Bool.{cond-false, eqb-true, or_cases, or_parts}
use Rattle.std.proofs.lemmas.List.{length-map}
use Rattle.run_history.specs.Order.{CallInRound, calls_from, calls_of}
use Rattle.script_text.specs.Scripts.{all_calls, IsInRange}
use Rattle.script_text.specs.declared.script.Call.{Call}
use Rattle.script_text.specs.declared.script.LaneCall.{LaneCall}
use Rattle.script_text.specs.declared.script.Round.{Round}
use Rattle.script_text.specs.declared.script.Script.{Script}
use Rattle.lane_notes.specs.Rounds.{has_calls, lane_calls}

-- ---- which have

none_pass : {X : Type 0} (p : X → Bool) (xs : List X) → list_any p xs ≡ false → filter p xs ≡ []
none_pass p [] none = refl
none_pass p (x ∷ xs) none =
    let parts = or_parts (p x) (list_any p xs) none in cond-false (p x) (x ∷ filter p xs) (filter p xs) parts.0 ∙ none_pass p xs parts.1

-- law: which has none there
pub no_calls : (r : Round) (j : ℕ) → has_calls r j ≡ false → lane_calls j r ≡ []
no_calls r j none = ap (map (λ (c : LaneCall). c.call)) (none_pass (λ (c : LaneCall). nat_eq c.lane j) r.calls none)

-- law: a lane that has calls is one of the script's
pub calls_within : (j lanes : ℕ) (cs : List LaneCall) → AllByRecursion (λ c. c.lane < lanes) cs → list_any (λ c. nat_eq c.lane j) cs ≡ true → j < lanes
calls_within j lanes [] all has = absurd (true≢false (sym has))
calls_within j lanes (c ∷ cs) all has =
    ⊎_elim (λ is. subst (λ n. n < lanes) (eqb-true c.lane j is) all.0) (λ later. calls_within j lanes cs all.1 later)
    (or_cases (nat_eq c.lane j) (list_any (λ (d : LaneCall). nat_eq d.lane j) cs) has)

-- ---- how many

-- how many calls a lane has in a round
abbrev pub many_calls : Round → ℕ → ℕ
many_calls r lane = length (lane_calls lane r)

-- how many the lanes from this one on have
abbrev pub many_from : Round → ℕ → ℕ
many_from r a = length (filter (λ c. nat_le a c.lane) r.calls)

filter_most : {X : Type 0} (p : X → Bool) (xs : List X) → length (filter p xs) ≤ length xs
filter_most p [] = omega arith
filter_most p (x ∷ xs) = grind (arith, filter_most p xs)

both_parts : (a : ℕ) (cs : List LaneCall)
    → length (filter (λ c. nat_eq c.lane a) cs) + length (filter (λ c. nat_le (a + 1) c.lane) cs) ≤ length (filter (λ c. nat_le a c.lane) cs)
both_parts a [] = omega arith
both_parts a (c ∷ cs) = grind (arith, nat_tests, both_parts a cs)

-- law: a lane, and the lanes behind it
pub lane_and_behind : (r : Round) (a : ℕ) → many_calls r a + many_from r (a + 1) ≤ many_from r a
lane_and_behind r a = omega
    (arith, length-map (filter (λ (c : LaneCall). nat_eq c.lane a) r.calls) (λ (c : LaneCall). c.call), both_parts a r.calls)

-- law: all of them
pub many_most : (r : Round) (a : ℕ) → many_from r a ≤ length r.calls
many_most r a = filter_most (λ (c : LaneCall). nat_le a c.lane) r.calls

-- ---- among the calls of a lane

-- calls of this round
abbrev pub in_round : ℕ → List Call → List CallInRound
in_round round cs = map (λ c. record { round = round; call = c }) cs

-- the calls of a lane are those of a round, and of the rounds behind it
pub round_first : (lane round : ℕ) (r : Round) (rs : List Round)
    → calls_from lane round (r ∷ rs) ≡ in_round round (lane_calls lane r) ++ calls_from lane (round + 1) rs
round_first lane round r rs =
    ap (λ xs. xs ++ calls_from lane (round + 1) rs) (each (filter (λ (c : LaneCall). nat_eq c.lane lane) r.calls))
  where
    each : (xs : List LaneCall) → map (λ (c : LaneCall). record { round = round; call = c.call }) xs ≡ in_round round (map (λ (c : LaneCall). c.call) xs)
    each [] = refl
    each (x ∷ xs) = ap (λ ys. record { round = round; call = x.call } ∷ ys) (each xs)

calls_fit : (lane round : ℕ) (rs : List Round) → length (calls_from lane round rs) ≤ length (all_calls rs)
calls_fit lane round [] = omega arith
calls_fit lane round (r ∷ rs) =
    let mine = filter (λ (c : LaneCall). nat_eq c.lane lane) r.calls in
    let placed : LaneCall → CallInRound = λ c. record { round = round; call = c.call } in
    omega (
      arith,
      calls_fit lane (round + 1) rs,
      length-append r.calls (all_calls rs),
      length-append (map placed mine) (calls_from lane (round + 1) rs),
      length-map mine placed,
      filter_most (λ (c : LaneCall). nat_eq c.lane lane) r.calls,
    )

-- law: a lane has no more calls than a label can count
pub calls_bound : (s : Script) (lane : ℕ) → IsInRange s → length (calls_of s lane) < 2 ^ 32
calls_bound s lane range = omega (arith, calls_fit lane 0 s.rounds, range.count)
