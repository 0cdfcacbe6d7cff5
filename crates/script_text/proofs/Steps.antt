-- The lines of a script that keeps to the limits, taken one after the other, tell that script.
use Rattle.std.proofs.Common.{◌≡◌, ℕ, ◌+◌, ◌<◌, ◌≤◌, true, List, [], ◌∷◌, ◌++◌, length, map, Option, Some, None, refl, sym, ap, subst, ◌∙◌, arith, append_assoc}
use Rattle.std.specs.List.{AllByRecursion, flat_map}
use Rattle.std.proofs.lemmas.Bool.{le-leb, lt-ltb}
use Rattle.std.proofs.lemmas.List.{append-nil, length-append}
use Rattle.ktime.specs.declared.clock_id.ClockId.{ClockId}
use Rattle.record_text.specs.declared.version.Version.{Version}
use Rattle.record_text.specs.declared.version.Version.TheVariants as versions
use Rattle.script_text.specs.declared.form.Form.TheVariants as forms
use Rattle.script_text.specs.declared.form.Line.{Line}
use Rattle.script_text.specs.declared.reading.drafts.Draft.{Draft}
use Rattle.script_text.specs.declared.script.Declaration.{Declaration}
use Rattle.script_text.specs.declared.script.Kind.{Kind}
use Rattle.script_text.specs.declared.script.LaneCall.{LaneCall}
use Rattle.script_text.specs.declared.script.Round.{Round}
use Rattle.script_text.specs.declared.script.Script.{Script}
use Rattle.script_text.specs.Forms.{has_form}
use Rattle.script_text.specs.Scripts.{most_script_bases, most_lanes, most_timers, most_events, most_calls, declaration_line, declaration_lines, round_lines, header_lines, script_lines, all_calls, version_number, HasForms, IsInRange, IsKindInRange}
use Rattle.script_text.specs.CallLines.{call_line, IsCallInRange}
use Rattle.script_text.specs.Grammar.{of_numbers}
use Rattle.script_text.specs.Drafts.{empty, last_round, script_of, with_header, with_timer, with_round, with_call, with_part, draft_with_line}
use Rattle.script_text.specs.Refusals.{is_placed, check_count, check_number, check_values, check_kind, check_line}
use Rattle.script_text.proofs.Checks.{Accepts, no_cause}
use Rattle.record_text.proofs.Lists.{All-front, All-back}
use Rattle.script_text.proofs.Meaning.{declaration_again, call_again}
use Rattle.script_text.proofs.DraftsRead.{early, full}

-- each of these lines is of a form of the version, no cause refuses it, and they make one draft of another
abbrev pub Steps : Draft → List Line → Draft → Type 0
Steps d [] e = d ≡ e
Steps d (l ∷ ls) e = (has_form d.version l.form ≡ true) × (check_line d l ≡ None) × Steps (draft_with_line d l) ls e

Steps-append : (d e f : Draft) (ls ms : List Line) → Steps d ls e → Steps e ms f → Steps d (ls ++ ms) f
Steps-append d e f [] ms here there = subst (λ x. Steps x ms f) (sym here) there
Steps-append d e f (l ∷ ls) ms here there = (here.0, here.1, Steps-append (draft_with_line d l) e f ls ms here.2 there)

one_step : (d e f : Draft) (l : Line) (ls : List Line) → has_form d.version l.form ≡ true → Accepts d l → draft_with_line d l ≡ e → Steps e ls f
    → Steps d (l ∷ ls) f
one_step d e f l ls form a is rest = (form, no_cause d l a, subst (λ x. Steps x ls f) (sym is) rest)

-- ---- the header

version_taken : (v : Version) → check_line empty (of_numbers forms.Version (version_number v ∷ [])) ≡ None
unfolding check_line is_placed check_count check_values check_number check_kind
version_taken versions.One = refl
version_taken versions.Two = refl

version_tells : (v : Version) → draft_with_line empty (of_numbers forms.Version (version_number v ∷ [])) ≡ early v 1 0 0 0
unfolding draft_with_line with_part with_header
version_tells versions.One = refl
version_tells versions.Two = refl

header_steps : (v : Version) (b l m : ℕ) → (1 ≤ b) × (b ≤ most_script_bases v) → (1 ≤ l) × (l ≤ most_lanes v) → (1 ≤ m) × (m ≤ most_events v)
    → Steps empty (header_lines v b l m) (full v b l m [] [] None 0)
unfolding check_line is_placed check_count check_values check_number check_kind draft_with_line with_part with_header
header_steps v b l m bases lanes limit =
    let numbers : List Line = of_numbers forms.Bases (b ∷ []) ∷ of_numbers forms.Lanes (l ∷ []) ∷ of_numbers forms.Limit (m ∷ []) ∷ [] in
    let rest : Steps (early v 1 0 0 0) numbers (full v b l m [] [] None 0) = (
      refl,
      rw (le-leb 1 b bases.0, le-leb b (most_script_bases v) bases.1) refl,
      (
        refl,
        rw (le-leb 1 l lanes.0, le-leb l (most_lanes v) lanes.1) refl,
        (refl, rw (le-leb 1 m limit.0, le-leb m (most_events v) limit.1) refl, refl),
      ),
    ) in
    (refl, version_taken v, subst (λ d. Steps d numbers (full v b l m [] [] None 0)) (sym (version_tells v)) rest)

-- ---- declarations

declaration_step : (v : Version) (b l m : ℕ) (ts : List Declaration) (clock : ClockId) (kind : Kind) (f : Draft) (ls : List Line)
    → length ts < most_timers v
    → IsKindInRange b kind → has_form v (declaration_line (length ts) clock kind).form ≡ true
    → Steps (full v b l m (ts ++ record { clock = clock; kind = kind } ∷ []) [] None 0) ls f
    → Steps (full v b l m ts [] None 0) (declaration_line (length ts) clock kind ∷ ls) f
unfolding is_placed check_count draft_with_line with_part with_timer
declaration_step v b l m ts clock kind f ls few range form rest =
    let d : Draft = full v b l m ts [] None 0 in
    let line : Line = declaration_line (length ts) clock kind in
    let is = declaration_again d clock kind range in
    let a : Accepts d line = record {
      placed = subst (λ p. is_placed d p ≡ true) (sym is.part) refl;
      count = subst (λ p. check_count d p ≡ None) (sym is.part) (rw (lt-ltb (length ts) (most_timers v) few) refl);
      values = is.values;
      kind = is.kind;
    } in
    one_step d (full v b l m (ts ++ record { clock = clock; kind = kind } ∷ []) [] None 0) f line ls form a (rw (is.part, is.means) refl) rest

declaration_steps : (v : Version) (b l m : ℕ) (ts ds : List Declaration) → length ts + length ds ≤ most_timers v
    → AllByRecursion (λ d. IsKindInRange b d.kind) ds → (n : ℕ) → HasForms v (declaration_lines n ds) → n ≡ length ts
    → Steps (full v b l m ts [] None 0) (declaration_lines n ds) (full v b l m (ts ++ ds) [] None 0)
declaration_steps v b l m ts [] few ranges n forms is = ap (λ (ts : List Declaration). full v b l m ts [] None 0) (sym (append-nil ts))
declaration_steps v b l m ts (d ∷ ds) few ranges n forms is =
    let more : length (ts ++ d ∷ []) ≡ length ts + 1 = length-append _ _ in
    let rest = declaration_steps v b l m (ts ++ d ∷ []) ds (omega (arith, more, few)) ranges.1 (n + 1) forms.1 (omega (arith, more, is)) in
    let f : Draft = full v b l m (ts ++ d ∷ ds) [] None 0 in
    let all : Steps (full v b l m (ts ++ d ∷ []) [] None 0) (declaration_lines (n + 1) ds) f =
    subst (λ all. Steps (full v b l m (ts ++ d ∷ []) [] None 0) (declaration_lines (n + 1) ds) (full v b l m all [] None 0))
    (append_assoc ts (d ∷ []) ds) rest in
    subst (λ k. Steps (full v b l m ts [] None 0) (declaration_line k d.clock d.kind ∷ declaration_lines (n + 1) ds) f) (sym is)
    (declaration_step v b l m ts d.clock d.kind f (declaration_lines (n + 1) ds) (omega (arith, few)) ranges.0
    (ap (λ (k : ℕ). has_form v (declaration_line k d.clock d.kind).form) (sym is) ∙ forms.0) all)

-- ---- rounds

-- behind the header of these bases, lanes and limit and these declarations
module _ (v : Version) (b l m : ℕ) (ts : List Declaration) where
  call_step : (ended : List Round) (cs : List LaneCall) (n : ℕ) (c : LaneCall) (f : Draft) (ls : List Line) → n < most_calls → c.lane < l
      → IsCallInRange c.lane b ts c.call → has_form v (call_line c.lane c.call).form ≡ true
      → Steps (full v b l m ts ended (Some (cs ++ c ∷ [])) (n + 1)) ls f → Steps (full v b l m ts ended (Some cs) n) (call_line c.lane c.call ∷ ls) f
  unfolding is_placed check_count draft_with_line with_part with_call
  call_step ended cs n c f ls few lane range form rest =
      let d : Draft = full v b l m ts ended (Some cs) n in
      let line : Line = call_line c.lane c.call in
      let is = call_again d c.lane c.call lane range in
      let a : Accepts d line = record {
        placed = subst (λ p. is_placed d p ≡ true) (sym is.part) refl;
        count = subst (λ p. check_count d p ≡ None) (sym is.part) (rw (lt-ltb n most_calls few) refl);
        values = is.values;
        kind = is.kind;
      } in
      one_step d (full v b l m ts ended (Some (cs ++ c ∷ [])) (n + 1)) f line ls form a (rw (is.part, is.means) refl) rest

  call_steps : (ended : List Round) (cs more : List LaneCall) (n : ℕ) → n + length more ≤ most_calls → AllByRecursion (λ c. c.lane < l) more
      → AllByRecursion (λ c. IsCallInRange c.lane b ts c.call) more → HasForms v (map (λ c. call_line c.lane c.call) more)
      → Steps (full v b l m ts ended (Some cs) n) (map (λ c. call_line c.lane c.call) more)
      (full v b l m ts ended (Some (cs ++ more)) (n + length more))
  call_steps ended cs [] n few lanes ranges forms =
      let same : n + 0 ≡ n = omega arith in
      ap (λ (cs : List LaneCall). full v b l m ts ended (Some cs) n) (sym (append-nil cs))
      ∙ ap (λ (n : ℕ). full v b l m ts ended (Some (cs ++ [])) n) (sym same)
  call_steps ended cs (c ∷ more) n few lanes ranges forms =
      let rest = call_steps ended (cs ++ c ∷ []) more (n + 1) (omega (arith, few)) lanes.1 ranges.1 forms.1 in
      let count : (n + 1) + length more ≡ n + length (c ∷ more) = omega arith in
      let ls : List Line = map (λ c. call_line c.lane c.call) more in
      let all = subst (λ all. Steps (full v b l m ts ended (Some (cs ++ c ∷ [])) (n + 1)) ls (full v b l m ts ended (Some all) ((n + 1) + length more)))
      (append_assoc cs (c ∷ []) more) rest in
      let counted = subst (λ k. Steps (full v b l m ts ended (Some (cs ++ c ∷ [])) (n + 1)) ls
      (full v b l m ts ended (Some (cs ++ c ∷ more)) k)) count all in
      call_step ended cs n c (full v b l m ts ended (Some (cs ++ c ∷ more)) (n + length (c ∷ more))) ls
      (omega (arith, few)) lanes.0 ranges.0 forms.0 counted

  round_step : (ended : List Round) (begun : Option (List LaneCall)) (n : ℕ) (f : Draft) (ls : List Line)
      → Steps (full v b l m ts (ended ++ last_round begun) (Some []) n) ls f
      → Steps (full v b l m ts ended begun n) (of_numbers forms.Round [] ∷ ls) f
  unfolding check_line is_placed check_count check_values check_kind draft_with_line with_part with_round
  round_step ended begun n f ls rest = (refl, refl, rest)

  -- a draft behind all rounds, and its script
  abbrev Ends : List Round → Option (List LaneCall) → ℕ → List Line → List Round → Type 0
  Ends ended begun n ls rounds =
      (f : Draft) × Steps (full v b l m ts ended begun n) ls f × (f.headers ≡ 4)
      × (script_of f ≡ record { version = v; bases = b; lanes = l; limit = m; timers = ts; rounds = rounds })

  round_steps : (rs : List Round) (ended : List Round) (begun : Option (List LaneCall)) (n : ℕ) → n + length (all_calls rs) ≤ most_calls
      → AllByRecursion (λ c. c.lane < l) (all_calls rs) → AllByRecursion (λ c. IsCallInRange c.lane b ts c.call) (all_calls rs)
      → HasForms v (flat_map round_lines rs)
      → Ends ended begun n (flat_map round_lines rs) ((ended ++ last_round begun) ++ rs)
  round_steps [] ended begun n few lanes ranges forms = (
    full v b l m ts ended begun n,
    refl,
    refl,
    ap (λ (rs : List Round). record { version = v; bases = b; lanes = l; limit = m; timers = ts; rounds = rs })
        (sym (append-nil (ended ++ last_round begun))),
  )
  round_steps (r ∷ rs) ended begun n few lanes ranges forms =
      let before : List Round = ended ++ last_round begun in
      let sum : length (r.calls ++ all_calls rs) ≡ length r.calls + length (all_calls rs) = length-append _ _ in
      let here = call_steps before [] r.calls n (omega (arith, sum, few)) (All-front (λ c. c.lane < l) r.calls (all_calls rs) lanes)
      (All-front (λ c. IsCallInRange c.lane b ts c.call) r.calls (all_calls rs) ranges)
      (All-front (λ l. has_form v l.form ≡ true) (map (λ c. call_line c.lane c.call) r.calls) (flat_map round_lines rs) forms.1) in
      let rest = round_steps rs before (Some r.calls) (n + length r.calls) (omega (arith, sum, few))
      (All-back (λ c. c.lane < l) r.calls (all_calls rs) lanes) (All-back (λ c. IsCallInRange c.lane b ts c.call) r.calls (all_calls rs) ranges)
      (All-back (λ l. has_form v l.form ≡ true) (map (λ c. call_line c.lane c.call) r.calls) (flat_map round_lines rs) forms.1) in
      let ls : List Line = map (λ c. call_line c.lane c.call) r.calls ++ flat_map round_lines rs in
      let steps : Steps (full v b l m ts before (Some []) n) ls rest.0 =
      Steps-append _ (full v b l m ts before (Some r.calls) (n + length r.calls)) rest.0 (map (λ c. call_line c.lane c.call) r.calls)
      (flat_map round_lines rs) here rest.1 in (
        rest.0,
        round_step ended begun n rest.0 ls steps,
        rest.2,
        rest.3
            ∙ ap (λ (rs : List Round). record { version = v; bases = b; lanes = l; limit = m; timers = ts; rounds = rs })
            (append_assoc before (r ∷ []) rs),
      )

-- the lines of a script that keeps to the limits tell that script
pub script_steps : (s : Script) → IsInRange s → (f : Draft) × Steps empty (script_lines s) f × (f.headers ≡ 4) × (script_of f ≡ s)
script_steps s range =
    let header = header_steps s.version s.bases s.lanes s.limit range.bases range.lanes range.limit in
    let has : Line → Type 0 = λ l. has_form s.version l.form ≡ true in
    let numbers = declaration_lines 0 s.timers ++ flat_map round_lines s.rounds in
    let behind_header = All-back has (header_lines s.version s.bases s.lanes s.limit) numbers range.forms in
    let of_timers = All-front has (declaration_lines 0 s.timers) (flat_map round_lines s.rounds) behind_header in
    let of_rounds = All-back has (declaration_lines 0 s.timers) (flat_map round_lines s.rounds) behind_header in
    let timers = declaration_steps s.version s.bases s.lanes s.limit [] s.timers (omega (arith, range.timers)) range.kinds 0 of_timers refl in
    let rounds = round_steps s.version s.bases s.lanes s.limit s.timers s.rounds [] None 0
    (omega (arith, range.count)) range.callers range.calls of_rounds in
    let behind : Steps (full s.version s.bases s.lanes s.limit [] [] None 0)
    (declaration_lines 0 s.timers ++ flat_map round_lines s.rounds) rounds.0 =
    Steps-append _ (full s.version s.bases s.lanes s.limit s.timers [] None 0) rounds.0 (declaration_lines 0 s.timers)
    (flat_map round_lines s.rounds) timers rounds.1 in (
      rounds.0,
      Steps-append empty (full s.version s.bases s.lanes s.limit [] [] None 0) rounds.0 (header_lines s.version s.bases s.lanes s.limit)
          (declaration_lines 0 s.timers ++ flat_map round_lines s.rounds) header behind,
      rounds.2,
      rounds.3,
    )
