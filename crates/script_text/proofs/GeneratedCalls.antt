-- The calls of a generated script: each keeps to the limits of scripts, and its line is short.
use Rattle.std.proofs.Common.{◌≡◌, ℕ, zero, suc, ◌+◌, ◌-◌, ◌*◌, ◌/◌, ◌%◌, ◌<◌, ◌≤◌, ◌==◌, min, true, false, if◌then◌else◌, List, [], ◌∷◌, length, map, get_or, refl, arith, length-append}
use Rattle.std.specs.Fmt.{decimal}
use Rattle.std.specs.List.{AllByRecursion, flat_map, join_with_byte, range_with_len}
use Rattle.std.proofs.lemmas.Fmt.{length-decimal-le}
use Rattle.std.proofs.lemmas.List.{length-map}
use Rattle.std.proofs.lemmas.List.FromFn.{length-range_with_len}
use Rattle.ktime.specs.declared.mode.Mode.TheVariants as modes
use Rattle.ktime.specs.declared.write.Write.TheVariants as writes
use Rattle.seq_timer.specs.declared.context.Context.{Context}
use Rattle.seq_timer.specs.declared.context.Context.TheVariants as contexts
use Rattle.record_text.specs.declared.version.Version.TheVariants as versions
use Rattle.script_text.specs.declared.form.Form.{Form}
use Rattle.script_text.specs.declared.form.Form.TheVariants as forms
use Rattle.script_text.specs.declared.form.Line.{Line}
use Rattle.script_text.specs.declared.script.Callback.{Callback}
use Rattle.script_text.specs.declared.script.Callback.TheVariants as callbacks
use Rattle.script_text.specs.declared.script.Kind.{Kind}
use Rattle.script_text.specs.declared.script.Kind.TheVariants as kinds
use Rattle.script_text.specs.declared.script.Call.TheVariants as calls
use Rattle.script_text.specs.declared.script.Declaration.{Declaration}
use Rattle.script_text.specs.declared.script.LaneCall.{LaneCall}
use Rattle.script_text.specs.declared.script.Round.{Round}
use Rattle.script_text.specs.Forms.{has_form, row, suits}
use Rattle.script_text.specs.Generator.{call_by, clock_round, draw, drawn_call, expiry_round, four_turns, generated, lane_timers, number_after, timers_of_lane, turn, drawn_turns}
use Rattle.script_text.specs.Declarations.{without_slack}
use Rattle.script_text.specs.Grammar.{IsLine, fill_form, spelled}
use Rattle.script_text.specs.CallLines.{HasTimerFor, IsCallInRange, call_line}
use Rattle.script_text.proofs.Generated.{length-lane_timers}
use Rattle.script_text.proofs.Lists.{All-append, All-flat_map, All-map, All-range, length-pieces}

-- ---- lines that are short

-- how many bytes words and spaces after them have
abbrev pub with_spaces : List (List ℕ) → ℕ
with_spaces [] = 0
with_spaces (w ∷ ws) = length w + 1 + with_spaces ws

length-joined : (ws : List (List ℕ)) → length (join_with_byte 32 ws) ≤ with_spaces ws
length-joined [] = omega arith
length-joined (w ∷ []) = omega arith
length-joined (w ∷ v ∷ ws) = omega (arith, length-append w (32 ∷ join_with_byte 32 (v ∷ ws)), length-joined (v ∷ ws))

-- a line of a form of the first version that can be spelled, in 28 bytes at most
abbrev pub IsShortLine : Line → Type 0
IsShortLine l = IsLine l × (length (spelled l) ≤ 28) × (has_form versions.One l.form ≡ true)

pub short_words : (l : Line) → with_spaces (fill_form (row l.form) l.values) ≤ 28 → length (spelled l) ≤ 28
short_words l few = omega (arith, few, length-joined (fill_form (row l.form) l.values))

pub one_digit : (n : ℕ) → n < 10 → length (decimal n) ≤ 1
one_digit n small = length-decimal-le 1 n (omega arith) (omega arith) (omega arith)

pub two_digits : (n : ℕ) → n < 100 → length (decimal n) ≤ 2
two_digits n small = length-decimal-le 2 n (omega arith) (omega arith) (omega arith)

-- ---- calls

-- a lane's call of a generated script: it keeps to the limits, and its line is short
pub record IsPlainCall (lanes : ℕ) (c : LaneCall) : Type 0 where
  pub lane : c.lane < lanes
  pub call : IsCallInRange c.lane lanes (lane_timers lanes) c.call
  pub line : IsShortLine (call_line c.lane c.call)

abbrev IsRaw : Kind → Type 0
IsRaw (kinds.Raw context callback) = Unit
IsRaw kind = ⊥

raw_at : (ds : List Declaration) (t : ℕ) → AllByRecursion (λ d. IsRaw d.kind) ds
    → IsRaw (get_or (map (λ d. d.kind) ds) t (kinds.Raw contexts.Hard callbacks.Once))
raw_at [] t h = tt
raw_at (d ∷ ds) zero h = h.0
raw_at (d ∷ ds) (suc t) h = raw_at ds t h.1

raw_suits : (form : Form) → ((context : Context) (callback : Callback) → suits form (kinds.Raw context callback) ≡ true) → (k : Kind) → IsRaw k
    → suits form k ≡ true
raw_suits form h (kinds.Raw context callback) raw = h context callback
raw_suits form h (kinds.Posix base) raw = absurd raw
raw_suits form h (kinds.Fd base) raw = absurd raw
raw_suits form h (kinds.Queued base) raw = absurd raw
raw_suits form h (kinds.Sleeper base) raw = absurd raw

all_raw : (lanes : ℕ) → AllByRecursion (λ d. IsRaw d.kind) (lane_timers lanes)
all_raw lanes = All-flat_map (λ d. IsRaw d.kind) timers_of_lane (range_with_len 0 lanes) (All-range _ 0 lanes (λ k small. (tt, (tt, tt))))

has_timer : (lanes t : ℕ) (form : Form) → ((context : Context) (callback : Callback) → suits form (kinds.Raw context callback) ≡ true) → t < 2 * lanes
    → HasTimerFor (lane_timers lanes) t form
has_timer lanes t form h small =
    (omega (arith, small, length-lane_timers lanes 0), raw_suits form h _ (raw_at (lane_timers lanes) t (all_raw lanes)))

module _ (lanes lane : ℕ) (few : lanes ≤ 8) (here : lane < lanes) where
  cancel_is_plain : (t : ℕ) → t < 2 * lanes → IsPlainCall lanes (record { lane = lane; call = calls.Cancel t })
  cancel_is_plain t small = record {
    lane = here;
    call = has_timer lanes t forms.Cancel (λ context callback. refl) small;
    line = (
      (omega arith, (omega arith, tt)),
      short_words (call_line lane (calls.Cancel t)) (omega (arith, one_digit lane (omega arith), two_digits t (omega arith))),
      refl,
    );
  }

  expire_is_plain : IsPlainCall lanes (record { lane = lane; call = calls.Expire contexts.Hard lane 8 })
  expire_is_plain = record {
    lane = here;
    call = (here, omega arith);
    line = (
      (omega arith, (omega arith, (omega arith, tt))),
      short_words (call_line lane (calls.Expire contexts.Hard lane 8))
          (omega (arith, one_digit lane (omega arith), one_digit 8 (omega arith))),
      refl,
    );
  }

  start_is_plain : (t ns : ℕ) → t < 2 * lanes → ns < 100
      → IsPlainCall lanes (record { lane = lane; call = calls.Start t (without_slack modes.Rel ns lane) })
  start_is_plain t ns small soon = record {
    lane = here;
    call = (has_timer lanes t forms.Start (λ context callback. refl) small, here, tt);
    line = (
      (omega arith, (omega arith, (tt, (omega arith, (omega arith, tt))))),
      short_words (call_line lane (calls.Start t (without_slack modes.Rel ns lane)))
          (omega (
            arith,
            one_digit lane (omega arith),
            two_digits t (omega arith),
            two_digits ns (omega arith),
          )),
      refl,
    );
  }

  call_by_is_plain : (a b d : ℕ) → IsPlainCall lanes (record { lane = lane; call = call_by lane a b d })
  unfolding call_by
  call_by_is_plain a b d =
      let t = 2 * lane + b % 2 in
      let inside : t < 2 * lanes = omega arith in
      let soon : d % 100 < 100 = omega arith in
      let start = calls.Start t (without_slack modes.Rel (d % 100) lane) in
      let other = if a % 4 == 3 then calls.Expire contexts.Hard lane 8 else start in
      elim (a % 4 == 0) as (λ x. IsPlainCall lanes (record { lane = lane; call = if x then calls.Cancel t else other })) [
        | true ↦ cancel_is_plain t inside
        | false ↦ elim (a % 4 == 3) as
            (λ y. IsPlainCall lanes (record { lane = lane; call = if y then calls.Expire contexts.Hard lane 8 else start })) [
              | true ↦ expire_is_plain
              | false ↦ start_is_plain t (d % 100) inside soon
            ]
      ]

advance_is_plain : (lanes : ℕ) → 1 ≤ lanes → IsPlainCall lanes (record { lane = 0; call = calls.Clock (writes.Advance 50) })
advance_is_plain lanes some = record {
  lane = some;
  call = tt;
  line = (
    (omega arith, (omega arith, tt)),
    short_words (call_line 0 (calls.Clock (writes.Advance 50)))
        (omega (arith, one_digit 0 (omega arith), two_digits 50 (omega arith))),
    refl,
  );
}

-- ---- rounds

-- each call of a round is plain
abbrev pub IsPlainRound : ℕ → Round → Type 0
IsPlainRound lanes r = AllByRecursion (λ c. IsPlainCall lanes c) r.calls

module _ (lanes : ℕ) (some : 1 ≤ lanes) (few : lanes ≤ 8) where
  plain_turn : (x : ℕ) → AllByRecursion (λ c. IsPlainCall lanes c) (turn x lanes)
  plain_turn x =
      All-map (λ c. IsPlainCall lanes c) (drawn_call x) (range_with_len 0 lanes)
      (All-range _ 0 lanes (λ k small. call_by_is_plain lanes k few (omega (arith, small)) (draw x (3 * k)) (draw x (3 * k + 1)) (draw x (3 * k + 2))))

  plain_turns : (x count : ℕ) → AllByRecursion (λ c. IsPlainCall lanes c) (drawn_turns x lanes count)
  plain_turns x count =
      All-flat_map (λ c. IsPlainCall lanes c) (λ i. turn (number_after (3 * lanes * i) x) lanes) (range_with_len 0 count)
      (All-range _ 0 count (λ k small. plain_turn (number_after (3 * lanes * k) x)))

  pub plain_rounds : (seed count : ℕ) → AllByRecursion (IsPlainRound lanes) (generated seed lanes count).rounds
  plain_rounds seed count =
      let clock : IsPlainRound lanes clock_round = (advance_is_plain lanes some, tt) in
      All-append (IsPlainRound lanes) (flat_map (four_turns seed lanes count) (range_with_len 0 ((count + 3) / 4)))
      (clock_round ∷ expiry_round lanes ∷ [])
      (All-flat_map (IsPlainRound lanes) (four_turns seed lanes count) (range_with_len 0 ((count + 3) / 4))
      (All-range _ 0 ((count + 3) / 4) (λ k small. (clock, (plain_turns (number_after (3 * lanes * (4 * k)) seed) (min 4 (count - 4 * k)), tt))))) (
        clock,
        (
          All-map (λ c. IsPlainCall lanes c) (λ k. record { lane = k; call = calls.Expire contexts.Hard k 8 }) (range_with_len 0 lanes)
              (All-range _ 0 lanes (λ k small. expire_is_plain lanes k few (omega (arith, small)))),
          tt,
        ),
      )

  length-turn : (x : ℕ) → length (turn x lanes) ≤ 8
  length-turn x = omega (arith, length-map (range_with_len 0 lanes) (drawn_call x), length-range_with_len 0 lanes)

  pub length-turns : (x count : ℕ) → count ≤ 4 → length (drawn_turns x lanes count) ≤ 32
  length-turns x count four =
      omega (
        arith,
        length-pieces (λ i. turn (number_after (3 * lanes * i) x) lanes) 8 (range_with_len 0 count)
            (λ i. length-turn (number_after (3 * lanes * i) x)),
        length-range_with_len 0 count,
      )

  -- the last round has a call of each lane
  pub length-expiries : length (expiry_round lanes).calls ≤ 8
  length-expiries =
      omega (
        arith,
        length-map {B = LaneCall} (range_with_len 0 lanes) (λ k. record { lane = k; call = calls.Expire contexts.Hard k 8 }),
        length-range_with_len 0 lanes,
      )
