-- The text of a generated script, as it grows line after line and draw after draw.
use Rattle.std.proofs.Common.{◌≡◌, ℕ, zero, suc, ◌+◌, ◌-◌, ◌*◌, ◌/◌, ◌≤◌, min, List, [], ◌∷◌, ◌++◌, length, map, refl, sym, ap, ◌∙◌, append_assoc, arith}
use Rattle.std.specs.List.{flat_map, range_with_len}
use Rattle.std.proofs.lemmas.List.{append-nil, map-append}
use Rattle.std.proofs.lemmas.List.Concat.{flat_map-append}
use Rattle.std.proofs.lemmas.List.FromFn.{map-range_with_len_more}
use Rattle.seq_timer.specs.declared.context.Context.TheVariants as contexts
use Rattle.record_text.specs.declared.version.Version.TheVariants as versions
use Rattle.script_text.specs.declared.form.Line.{Line}
use Rattle.script_text.specs.declared.script.Call.TheVariants as calls
use Rattle.script_text.specs.declared.script.Declaration.{Declaration}
use Rattle.script_text.specs.declared.script.LaneCall.{LaneCall}
use Rattle.script_text.specs.Generator.{next_number, number_after, call_by, drawn_call, turn, drawn_turns, timers_of_lane, lane_timers, clock_round, expiry_round, four_turns, generated, lines_bytes, script_bytes}
use Rattle.script_text.specs.Grammar.{spelled, of_numbers}
use Rattle.script_text.specs.Scripts.{declaration_line, declaration_lines, header_lines, round_lines, script_lines}
use Rattle.script_text.specs.CallLines.{call_line}
use Rattle.script_text.specs.declared.form.Form.TheVariants as forms

-- ---- lists that grow

-- the equation of two numbers, for a tactic to prove
abbrev pub same : (m n : ℕ) → m ≡ n → m ≡ n
same m n is = is

-- what one more number gives
pub flat_map-range_more : {A : Type 0} (f : ℕ → List A) (a n : ℕ)
    → flat_map f (range_with_len a (n + 1)) ≡ flat_map f (range_with_len a n) ++ f (a + n)
flat_map-range_more f a zero = append-nil (f a) ∙ ap f (same a (a + 0) (omega arith))
flat_map-range_more f a (suc n) =
    ap (λ (k : ℕ). flat_map f (range_with_len a k)) (same (suc n + 1) (suc (n + 1)) (omega arith))
    ∙ ap (λ (xs : List _). f a ++ xs) (flat_map-range_more f (a + 1) n)
    ∙ sym (append_assoc (f a) (flat_map f (range_with_len (a + 1) n)) (f (a + 1 + n)))
    ∙ ap (λ (k : ℕ). (f a ++ flat_map f (range_with_len (a + 1) n)) ++ f k) (same (a + 1 + n) (a + suc n) (omega arith))

-- text that stands after other text, by lines
pub written_more : (start out now : List ℕ) (ls ms all : List Line) → out ≡ start ++ lines_bytes ls → now ≡ out ++ lines_bytes ms → all ≡ ls ++ ms
    → now ≡ start ++ lines_bytes all
written_more start out now ls ms all so_far more is =
    more ∙ ap (λ (text : List ℕ). text ++ lines_bytes ms) so_far ∙ append_assoc start (lines_bytes ls) (lines_bytes ms)
    ∙ ap (λ (text : List ℕ). start ++ text) (sym (flat_map-append (λ l. spelled l ++ 10 ∷ []) ls ms) ∙ ap lines_bytes (sym is))

-- ---- declarations and rounds

declaration_lines-append : (n : ℕ) (ds es : List Declaration)
    → declaration_lines n (ds ++ es) ≡ declaration_lines n ds ++ declaration_lines (n + length ds) es
declaration_lines-append n [] es = ap (λ (k : ℕ). declaration_lines k es) (same n (n + 0) (omega arith))
declaration_lines-append n (d ∷ ds) es =
    ap (λ (ls : List Line). declaration_line n d.clock d.kind ∷ ls) (declaration_lines-append (n + 1) ds es
    ∙ ap (λ (k : ℕ). declaration_lines (n + 1) ds ++ declaration_lines k es) (same (n + 1 + length ds) (n + suc (length ds)) (omega arith)))

pub length-lane_timers : (n a : ℕ) → length (flat_map timers_of_lane (range_with_len a n)) ≡ 2 * n
length-lane_timers zero a = refl
length-lane_timers (suc n) a = omega (arith, length-lane_timers n (a + 1))

pub timers_more : (n : ℕ)
    → declaration_lines 0 (lane_timers (n + 1)) ≡ declaration_lines 0 (lane_timers n) ++ declaration_lines (2 * n) (timers_of_lane n)
timers_more n =
    ap (declaration_lines 0) (flat_map-range_more timers_of_lane 0 n) ∙ declaration_lines-append 0 (lane_timers n) (timers_of_lane n)
    ∙ ap (λ (k : ℕ). declaration_lines 0 (lane_timers n) ++ declaration_lines k (timers_of_lane n))
    (same (0 + length (lane_timers n)) (2 * n) (omega (arith, length-lane_timers n 0)))

-- the lines of calls
abbrev pub lines_of_calls : List LaneCall → List Line
lines_of_calls cs = map (λ c. call_line c.lane c.call) cs

-- a lane's call that expires its base
abbrev expire : ℕ → LaneCall
expire lane = record { lane = lane; call = calls.Expire contexts.Hard lane 8 }

pub expiry_more : (n : ℕ) → round_lines (expiry_round (n + 1)) ≡ round_lines (expiry_round n) ++ call_line n (calls.Expire contexts.Hard n 8) ∷ []
expiry_more n =
    ap (λ (cs : List LaneCall). of_numbers forms.Round [] ∷ lines_of_calls cs) (map-range_with_len_more expire 0 n n (omega arith))
    ∙ ap (λ (ls : List Line). of_numbers forms.Round [] ∷ ls)
    (map-append (λ (c : LaneCall). call_line c.lane c.call) (map expire (range_with_len 0 n)) (expire n ∷ []))

-- ---- draws

number_after-more : (m n x : ℕ) → number_after (m + n) x ≡ number_after n (number_after m x)
unfolding number_after
number_after-more zero n x = ap (λ (k : ℕ). number_after k x) (same (0 + n) n (omega arith))
number_after-more (suc m) n x =
    ap (λ (k : ℕ). number_after k x) (same (suc m + n) (suc (m + n)) (omega arith)) ∙ number_after-more m n (next_number x)

number_after-next : (n x : ℕ) → number_after (n + 1) x ≡ next_number (number_after n x)
unfolding number_after
number_after-next n x = number_after-more n 1 x

pub number_at_start : (x : ℕ) → number_after 0 x ≡ x
unfolding number_after
number_at_start x = refl

-- the number before any draw
pub no_draws : (m x : ℕ) → x ≡ number_after (m * 0) x
no_draws m x = sym (number_at_start x) ∙ ap (λ (k : ℕ). number_after k x) (same 0 (m * 0) (omega arith))

-- what a lane's three draws give
pub record IsDrawn (x lane a b d : ℕ) : Type 0 where
  pub call : call_by lane (a / 65536) (b / 65536) (d / 65536) ≡ (drawn_call x lane).call
  pub now : d ≡ number_after (3 * (lane + 1)) x

pub drawn : (x y a b d lane : ℕ) → y ≡ number_after (3 * lane) x → a ≡ next_number y → b ≡ next_number a → d ≡ next_number b → IsDrawn x lane a b d
drawn x y a b d lane at first second third =
    let one : a ≡ number_after (3 * lane + 1) x = first ∙ ap next_number at ∙ sym (number_after-next (3 * lane) x) in
    let two : b ≡ number_after (3 * lane + 1 + 1) x = second ∙ ap next_number one ∙ sym (number_after-next (3 * lane + 1) x) in
    let three : d ≡ number_after (3 * lane + 1 + 1 + 1) x = third ∙ ap next_number two ∙ sym (number_after-next (3 * lane + 1 + 1) x) in
    let third_draw : d ≡ number_after (3 * lane + 2 + 1) x = three ∙ ap (λ (k : ℕ). number_after k x)
    (same (3 * lane + 1 + 1 + 1) (3 * lane + 2 + 1) (omega arith)) in
    record {
      call = rw (one, two, third_draw) refl;
      now = three ∙ ap (λ (k : ℕ). number_after k x) (same (3 * lane + 1 + 1 + 1) (3 * (lane + 1)) (omega arith));
    }

pub turn_more : (x n : ℕ) → lines_of_calls (turn x (n + 1)) ≡ lines_of_calls (turn x n) ++ call_line n (drawn_call x n).call ∷ []
turn_more x n =
    ap lines_of_calls (map-range_with_len_more (drawn_call x) 0 n n (omega arith))
    ∙ map-append (λ (c : LaneCall). call_line c.lane c.call) (turn x n) (drawn_call x n ∷ [])

pub turns_more : (x lanes n y : ℕ) → y ≡ number_after (3 * lanes * n) x
    → round_lines (record { calls = drawn_turns x lanes (n + 1) }) ≡ round_lines (record { calls = drawn_turns x lanes n }) ++ lines_of_calls (turn y lanes)
turns_more x lanes n y is =
    ap (λ (cs : List LaneCall). of_numbers forms.Round [] ∷ lines_of_calls cs)
    (flat_map-range_more (λ i. turn (number_after (3 * lanes * i) x) lanes) 0 n
    ∙ ap (λ (z : ℕ). drawn_turns x lanes n ++ turn z lanes) (ap (λ (k : ℕ). number_after (3 * lanes * k) x) (same (0 + n) n (omega arith)) ∙ sym is))
    ∙ ap (λ (ls : List Line). of_numbers forms.Round [] ∷ ls)
    (map-append (λ (c : LaneCall). call_line c.lane c.call) (drawn_turns x lanes n) (turn y lanes))

-- so many draws after so many others
pub draws_more : (m n x y z : ℕ) → y ≡ number_after (m * n) x → z ≡ number_after m y → z ≡ number_after (m * (n + 1)) x
draws_more m n x y z here more =
    more ∙ ap (number_after m) here ∙ sym (number_after-more (m * n) m x)
    ∙ ap (λ (k : ℕ). number_after k x) (same (m * n + m) (m * (n + 1)) (omega arith))

pub four_turns_more : (seed lanes count n x : ℕ) → x ≡ number_after (3 * lanes * (4 * n)) seed
    → flat_map round_lines (flat_map (four_turns seed lanes count) (range_with_len 0 (n + 1)))
    ≡ flat_map round_lines (flat_map (four_turns seed lanes count) (range_with_len 0 n))
    ++ (round_lines clock_round ++ round_lines (record { calls = drawn_turns x lanes (min 4 (count - 4 * n)) }))
four_turns_more seed lanes count n x is =
    let done = flat_map (four_turns seed lanes count) (range_with_len 0 n) in
    let last : ℕ → List Line = λ y. round_lines (record { calls = drawn_turns y lanes (min 4 (count - 4 * n)) }) in
    ap (flat_map round_lines) (flat_map-range_more (four_turns seed lanes count) 0 n)
    ∙ flat_map-append round_lines done (four_turns seed lanes count (0 + n))
    ∙ ap (λ (k : ℕ). flat_map round_lines done ++ flat_map round_lines (four_turns seed lanes count k)) (same (0 + n) n (omega arith))
    ∙ ap (λ (ls : List Line). flat_map round_lines done ++ (round_lines clock_round ++ ls))
    (ap (λ (y : ℕ). last y ++ []) (sym is) ∙ append-nil (last x))

-- the draws of four turns
pub four_draws_more : (lanes n count done seed x y : ℕ) → done ≡ min 4 (count - 4 * n)
    → x ≡ number_after (3 * lanes * (4 * n)) seed → y ≡ number_after (3 * lanes * done) x → 4 * (n + 1) ≤ count
    → y ≡ number_after (3 * lanes * (4 * (n + 1))) seed
four_draws_more lanes n count done seed x y is here more left =
    let four : done ≡ 4 = omega (arith, is, left) in
    more ∙ ap (λ (k : ℕ). number_after (3 * lanes * k) x) four ∙ ap (number_after (3 * lanes * 4)) here
    ∙ sym (number_after-more (3 * lanes * (4 * n)) (3 * lanes * 4) seed)
    ∙ ap (λ (k : ℕ). number_after k seed) (same (3 * lanes * (4 * n) + 3 * lanes * 4) (3 * lanes * (4 * (n + 1))) (omega arith))

-- ---- the whole script

generated_lines : (seed lanes count : ℕ) → script_lines (generated seed lanes count)
    ≡ (((header_lines versions.One lanes lanes 1000000 ++ declaration_lines 0 (lane_timers lanes))
    ++ flat_map round_lines (flat_map (four_turns seed lanes count) (range_with_len 0 ((count + 3) / 4)))) ++ round_lines clock_round)
    ++ round_lines (expiry_round lanes)
generated_lines seed lanes count =
    let h = header_lines versions.One lanes lanes 1000000 in
    let t = declaration_lines 0 (lane_timers lanes) in
    let rounds = flat_map (four_turns seed lanes count) (range_with_len 0 ((count + 3) / 4)) in
    let r = flat_map round_lines rounds in
    let c = round_lines clock_round in
    let e = round_lines (expiry_round lanes) in
    let last : flat_map round_lines (rounds ++ clock_round ∷ expiry_round lanes ∷ []) ≡ (r ++ c) ++ e =
    flat_map-append round_lines rounds (clock_round ∷ expiry_round lanes ∷ []) ∙ ap (λ (ls : List Line). r ++ (c ++ ls)) (append-nil e)
    ∙ sym (append_assoc r c e) in
    ap (λ (ls : List Line). h ++ (t ++ ls)) last ∙ sym (append_assoc h t ((r ++ c) ++ e)) ∙ sym (append_assoc (h ++ t) (r ++ c) e)
    ∙ ap (λ (ls : List Line). ls ++ e) (sym (append_assoc (h ++ t) r c))

-- the bytes of a script that is written part after part
pub script_from_parts : (seed lanes count : ℕ) (start a b c d e bytes : List ℕ) → start ≡ []
    → a ≡ start ++ lines_bytes (header_lines versions.One lanes lanes 1000000)
    → b ≡ a ++ lines_bytes (declaration_lines 0 (lane_timers lanes))
    → c ≡ b ++ lines_bytes (flat_map round_lines (flat_map (four_turns seed lanes count) (range_with_len 0 ((count + 3) / 4))))
    → d ≡ c ++ lines_bytes (round_lines clock_round) → e ≡ d ++ lines_bytes (round_lines (expiry_round lanes)) → bytes ≡ e
    → bytes ≡ script_bytes (generated seed lanes count)
script_from_parts seed lanes count start a b c d e bytes empty one two three four five all =
    let h = header_lines versions.One lanes lanes 1000000 in
    let t = declaration_lines 0 (lane_timers lanes) in
    let r = flat_map round_lines (flat_map (four_turns seed lanes count) (range_with_len 0 ((count + 3) / 4))) in
    let k = round_lines clock_round in
    let first : a ≡ [] ++ lines_bytes h = one ∙ ap (λ (text : List ℕ). text ++ lines_bytes h) empty in
    let second = written_more [] a b h t (h ++ t) first two refl in
    let third = written_more [] b c (h ++ t) r ((h ++ t) ++ r) second three refl in
    let fourth = written_more [] c d ((h ++ t) ++ r) k (((h ++ t) ++ r) ++ k) third four refl in
    all ∙ written_more [] d e (((h ++ t) ++ r) ++ k) (round_lines (expiry_round lanes)) (script_lines (generated seed lanes count)) fourth five
    (generated_lines seed lanes count)
