-- A generated script keeps to the limits of scripts, and is read from its bytes.
use Rattle.std.proofs.Common.{◌≡◌, ℕ, ◌+◌, ◌-◌, ◌*◌, ◌/◌, ◌<◌, ◌≤◌, ◌^◌, min, true, List, [], ◌∷◌, length, refl, ap, arith, length-append}
use Rattle.std.specs.Fmt.{decimal}
use Rattle.std.proofs.lemmas.Fmt.{length-decimal-le}
use Rattle.std.specs.List.{AllByRecursion, flat_map, range_with_len}
use Rattle.std.proofs.lemmas.List.{length-map}
use Rattle.std.proofs.lemmas.List.Concat.{flat_map-append}
use Rattle.std.proofs.lemmas.List.FromFn.{length-range_with_len}
use Rattle.seq_timer.specs.declared.context.Context.TheVariants as contexts
use Rattle.record_text.specs.declared.version.Version.TheVariants as versions
use Rattle.script_text.specs.declared.form.Form.{Form}
use Rattle.script_text.specs.declared.form.Form.TheVariants as forms
use Rattle.script_text.specs.declared.form.Line.{Line}
use Rattle.script_text.specs.declared.form.Value.TheVariants as values
use Rattle.ktime.specs.declared.clock_id.ClockId.TheVariants as clocks
use Rattle.script_text.specs.declared.script.Callback.TheVariants as callbacks
use Rattle.script_text.specs.declared.script.Kind.TheVariants as kinds
use Rattle.script_text.specs.declared.script.Declaration.{Declaration}
use Rattle.script_text.specs.declared.script.LaneCall.{LaneCall}
use Rattle.script_text.specs.declared.script.Round.{Round}
use Rattle.script_text.specs.Forms.{has_form, row}
use Rattle.script_text.specs.Generator.{clock_round, expiry_round, four_turns, generated, lane_timers, number_after, script_bytes, timers_of_lane, drawn_turns}
use Rattle.script_text.specs.Grammar.{IsLine, fill_form, spelled, of_numbers}
use Rattle.script_text.specs.Scripts.{IsInRange, IsKindInRange, Reads, all_calls, declaration_line, declaration_lines, most_calls, round_lines, script_lines}
use Rattle.script_text.specs.CallLines.{IsCallInRange, call_line}
use Rattle.script_text.proofs.Generated.{length-lane_timers}
use Rattle.script_text.proofs.Lists.{All-append, All-flat_map, All-map, All-range, All-weaker, length-nested}
use Rattle.script_text.proofs.GeneratedCalls.{IsPlainCall, IsPlainRound, IsShortLine, length-expiries, length-turns, plain_rounds, short_words, two_digits, with_spaces}
use Rattle.script_text.proofs.Spelled.{few_bytes, script_reads}

-- ---- lines

-- a timer whose declaration is short, with a number of two digits at most
abbrev IsPlainDeclaration : Declaration → Type 0
IsPlainDeclaration d = (n : ℕ) → n < 16 → IsShortLine (declaration_line n d.clock d.kind)

short_declarations : (n : ℕ) (ds : List Declaration) → n + length ds ≤ 16 → AllByRecursion IsPlainDeclaration ds
    → AllByRecursion IsShortLine (declaration_lines n ds)
short_declarations n [] few h = tt
short_declarations n (d ∷ ds) few h = (h.0 n (omega (arith, few)), short_declarations (n + 1) ds (omega (arith, few)) h.1)

length-declarations : (n : ℕ) (ds : List Declaration) → length (declaration_lines n ds) ≡ length ds
length-declarations n [] = refl
length-declarations n (d ∷ ds) = omega (arith, length-declarations (n + 1) ds)

plain_timers : (lanes : ℕ) → AllByRecursion IsPlainDeclaration (lane_timers lanes)
plain_timers lanes =
    let every : IsPlainDeclaration (record { clock = clocks.Monotonic; kind = kinds.Raw contexts.Hard (callbacks.Every 100) }) = λ n small. (
      (omega arith, (tt, (omega arith, tt))),
      short_words (declaration_line n clocks.Monotonic (kinds.Raw contexts.Hard (callbacks.Every 100)))
          (omega (arith, two_digits n (omega arith), length-decimal-le 3 100 (omega arith) (omega arith) (omega arith))),
      refl,
    ) in
    let once : IsPlainDeclaration (record { clock = clocks.Monotonic; kind = kinds.Raw contexts.Hard callbacks.Once }) = λ n small. (
      (omega arith, (tt, tt)),
      short_words (declaration_line n clocks.Monotonic (kinds.Raw contexts.Hard callbacks.Once))
          (omega (arith, two_digits n (omega arith))),
      refl,
    ) in
    All-flat_map IsPlainDeclaration timers_of_lane (range_with_len 0 lanes) (All-range _ 0 lanes (λ k small. (every, (once, tt))))

short_header : (form : Form) (k n : ℕ) → IsLine (of_numbers form (n ∷ [])) → 0 < k → n < 10 ^ k → n < 2 ^ 64
    → (length (decimal n) ≤ k → with_spaces (fill_form (row form) (values.Number n ∷ [])) ≤ 28) → has_form versions.One form ≡ true
    → IsShortLine (of_numbers form (n ∷ []))
short_header form k n line some small fits few has =
    (line, short_words (of_numbers form (n ∷ [])) (few (length-decimal-le k n some small fits)), has)

module _ (lanes : ℕ) (some : 1 ≤ lanes) (few : lanes ≤ 8) where
  short_round : (r : Round) → IsPlainRound lanes r → AllByRecursion IsShortLine (round_lines r)
  short_round r h = (
    (tt, short_words (of_numbers forms.Round []) (omega arith), refl),
    All-map IsShortLine (λ c. call_line c.lane c.call) r.calls
        (All-weaker (IsPlainCall lanes) (λ c. IsShortLine (call_line c.lane c.call)) (λ c p. p.line) r.calls h),
  )

  short_lines : (seed count : ℕ) → AllByRecursion IsShortLine (script_lines (generated seed lanes count))
  short_lines seed count =
      let rounds = (generated seed lanes count).rounds in
      let timers = short_declarations 0 (lane_timers lanes) (omega (arith, length-lane_timers lanes 0)) (plain_timers lanes) in
      let others = All-flat_map IsShortLine round_lines rounds
      (All-weaker (IsPlainRound lanes) (λ r. AllByRecursion IsShortLine (round_lines r)) short_round rounds
      (plain_rounds lanes some few seed count)) in
      let rest = All-append IsShortLine (declaration_lines 0 (lane_timers lanes)) (flat_map round_lines rounds) timers others in (
        short_header forms.Version 1 1 (omega arith, tt) (omega arith) (omega arith) (omega arith) (λ h. omega (arith, h)) refl,
        (
          short_header forms.Bases 1 lanes (omega arith, tt) (omega arith) (omega arith) (omega arith) (λ h. omega (arith, h)) refl,
          (
            short_header forms.Lanes 1 lanes (omega arith, tt) (omega arith) (omega arith) (omega arith) (λ h. omega (arith, h)) refl,
            (short_header forms.Limit 7 1000000 (omega arith, tt) (omega arith) (omega arith) (omega arith) (λ h. omega (arith, h)) refl, rest),
          ),
        ),
      )

  -- ---- how many there are

  few_calls : (seed count : ℕ) → count ≤ 4096 → length (all_calls (generated seed lanes count).rounds) ≤ most_calls
  few_calls seed count turned =
      let parts = range_with_len 0 ((count + 3) / 4) in
      let ends = clock_round ∷ expiry_round lanes ∷ [] in
      let one : (k : ℕ) → length (flat_map (λ r. r.calls) (four_turns seed lanes count k)) ≤ 33 = λ k.
      let x = number_after (3 * lanes * (4 * k)) seed in
      omega (arith, length-append (drawn_turns x lanes (min 4 (count - 4 * k))) [], length-turns lanes some few x (min 4 (count - 4 * k)) (omega arith)) in
      omega (
        arith,
        ap (λ (cs : List LaneCall). length cs) (flat_map-append (λ (r : Round). r.calls) (flat_map (four_turns seed lanes count) parts) ends),
        length-append (flat_map (λ (r : Round). r.calls) (flat_map (four_turns seed lanes count) parts)) (flat_map (λ (r : Round). r.calls) ends),
        length-nested (λ (r : Round). r.calls) (four_turns seed lanes count) 33 parts one,
        length-range_with_len 0 ((count + 3) / 4),
        length-append (expiry_round lanes).calls [],
        length-expiries lanes some few,
      )

  length-round : (r : Round) → length (round_lines r) ≡ length r.calls + 1
  length-round r = omega (arith, length-map r.calls (λ c. call_line c.lane c.call))

  few_lines : (seed count : ℕ) → count ≤ 4096 → length (script_lines (generated seed lanes count)) ≤ 35871
  few_lines seed count turned =
      let parts = range_with_len 0 ((count + 3) / 4) in
      let ends = clock_round ∷ expiry_round lanes ∷ [] in
      let rounds = (generated seed lanes count).rounds in
      let one : (k : ℕ) → length (flat_map round_lines (four_turns seed lanes count k)) ≤ 35 = λ k.
      let x = number_after (3 * lanes * (4 * k)) seed in
      let r : Round = record { calls = drawn_turns x lanes (min 4 (count - 4 * k)) } in
      omega (arith, length-append (round_lines r) [], length-round r, length-turns lanes some few x (min 4 (count - 4 * k)) (omega arith)) in
      omega (
        arith,
        length-append (declaration_lines 0 (lane_timers lanes)) (flat_map round_lines rounds),
        length-declarations 0 (lane_timers lanes),
        length-lane_timers lanes 0,
        ap (λ (ls : List Line). length ls) (flat_map-append round_lines (flat_map (four_turns seed lanes count) parts) ends),
        length-append (flat_map round_lines (flat_map (four_turns seed lanes count) parts)) (flat_map round_lines ends),
        length-nested round_lines (four_turns seed lanes count) 35 parts one,
        length-range_with_len 0 ((count + 3) / 4),
        length-append (round_lines (expiry_round lanes)) [],
        length-round (expiry_round lanes),
        length-expiries lanes some few,
      )

  in_range : (seed count : ℕ) → count ≤ 4096 → IsInRange (generated seed lanes count)
  in_range seed count turned =
      let all = all_calls (generated seed lanes count).rounds in
      let plain = All-flat_map (IsPlainCall lanes) (λ r. r.calls) (generated seed lanes count).rounds (plain_rounds lanes some few seed count) in
      record {
        bases = (some, few);
        lanes = (some, omega (arith, few));
        limit = (omega arith, omega arith);
        timers = omega (arith, length-lane_timers lanes 0);
        forms = All-weaker IsShortLine (λ l. has_form versions.One l.form ≡ true) (λ l p. p.2) (script_lines (generated seed lanes count))
            (short_lines seed count);
        kinds = All-flat_map (λ d. IsKindInRange lanes d.kind) timers_of_lane (range_with_len 0 lanes)
            (All-range _ 0 lanes (λ k small. (tt, (tt, tt))));
        count = few_calls seed count turned;
        callers = All-weaker (IsPlainCall lanes) (λ c. c.lane < lanes) (λ c p. p.lane) all plain;
        calls = All-weaker (IsPlainCall lanes) (λ c. IsCallInRange c.lane lanes (lane_timers lanes) c.call) (λ c p. p.call) all plain;
      }

-- law: a generated script is read from its bytes
pub generated_reads : (seed lanes count : ℕ) → 1 ≤ lanes → lanes ≤ 8 → count ≤ 4096
    → Reads (script_bytes (generated seed lanes count)) (generated seed lanes count)
generated_reads seed lanes count some few turned =
    let g = generated seed lanes count in
    let short = short_lines lanes some few seed count in
    script_reads g (All-weaker IsShortLine IsLine (λ l p. p.0) (script_lines g) short) (in_range lanes some few seed count turned)
    (omega (
      arith,
      few_bytes 28 (script_lines g) (All-weaker IsShortLine (λ l. length (spelled l) ≤ 28) (λ l p. p.1) (script_lines g) short),
      few_lines lanes some few seed count turned,
    ))
