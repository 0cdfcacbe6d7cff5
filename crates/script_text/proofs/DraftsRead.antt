-- What lines have told when they were read one after the other, none of them refused.
use Rattle.std.proofs.Common.{◌≡◌, ℕ, ◌+◌, ◌<◌, ◌≤◌, true, false, List, [], ◌∷◌, ◌++◌, length, take, Option, Some, None, refl, sym, ap, subst, ◌∙◌, arith, append_assoc, nat_lt, nat_eq, Bool, ◌||◌, ◌⊎◌, inl, inr}
use Rattle.std.specs.List.{AllByRecursion, flat_map}
use Rattle.std.proofs.lemmas.Bool.{and_parts, ltb-true, leb-true, eqb-true}
use Rattle.std.proofs.lemmas.List.{append-nil, length-append, map-append}
use Rattle.record_text.specs.declared.version.Version.{Version}
use Rattle.record_text.specs.declared.version.Version.TheVariants as versions
use Rattle.script_text.specs.declared.form.Form.{Form}
use Rattle.script_text.specs.declared.form.Form.TheVariants as forms
use Rattle.script_text.specs.declared.form.Line.{Line}
use Rattle.script_text.specs.declared.form.Part.{Part}
use Rattle.script_text.specs.declared.form.Part.TheVariants as parts
use Rattle.script_text.specs.declared.form.Value.{Value}
use Rattle.script_text.specs.declared.form.Value.TheVariants as values
use Rattle.script_text.specs.declared.reading.drafts.Draft.{Draft}
use Rattle.script_text.specs.declared.script.Declaration.{Declaration}
use Rattle.script_text.specs.declared.script.LaneCall.{LaneCall}
use Rattle.script_text.specs.declared.script.Round.{Round}
use Rattle.script_text.specs.Forms.{has_form, row, part}
use Rattle.script_text.specs.Grammar.{IsLine, of_numbers}
use Rattle.script_text.specs.Scripts.{most_script_bases, most_lanes, most_timers, most_events, most_calls, declaration_line, declaration_lines, round_lines, header_lines, script_lines, all_calls, HasForms, IsInRange, IsKindInRange}
use Rattle.script_text.specs.CallLines.{call_line, IsCallInRange}
use Rattle.script_text.specs.Drafts.{last_round, script_of, with_header, with_timer, with_round, with_call, with_part, draft_with_line}
use Rattle.script_text.specs.Refusals.{is_placed, check_count, check_number, check_values, check_line}
use Rattle.script_text.proofs.Checks.{Accepts, accepts, neither, holds}
use Rattle.record_text.proofs.Lists.{All-append}
use Rattle.script_text.proofs.Lists.{flat_map-push}
use Rattle.script_text.proofs.Room.{header_number}
use Rattle.script_text.proofs.Meaning.{fits, fits_from, declares, calls_for}

-- a draft within the header lines, with the numbers that have been told
abbrev pub early : Version → ℕ → ℕ → ℕ → ℕ → Draft
early version headers bases lanes limit =
    record { headers = headers; version = version; bases = bases; lanes = lanes; limit = limit; timers = []; ended = []; begun = None; calls = 0 }

-- a draft behind the header lines
abbrev pub full : Version → ℕ → ℕ → ℕ → List Declaration → List Round → Option (List LaneCall) → ℕ → Draft
full version bases lanes limit timers ended begun calls =
    record { headers = 4; version = version; bases = bases; lanes = lanes; limit = limit; timers = timers; ended = ended; begun = begun; calls = calls }

-- a draft's script keeps to the limits, no round has ended before one has begun, and the calls are counted
pub record Stands (d : Draft) : Type 0 where
  pub ranges : IsInRange (script_of d)
  pub unbegun : d.begun ≡ None → d.ended ≡ []
  pub count : length (all_calls (script_of d).rounds) ≡ d.calls

-- these lines make this draft: within the header, or all lines of its script
pub data DraftOf : Draft → List Line → Type 0 where
  at_start : DraftOf (early versions.One 0 0 0 0) []
  at_version : (v : Version) → DraftOf (early v 1 0 0 0) (take 1 (header_lines v 0 0 0))
  at_bases : (v : Version) (b : ℕ) → 1 ≤ b → b ≤ most_script_bases v → DraftOf (early v 2 b 0 0) (take 2 (header_lines v b 0 0))
  at_lanes : (v : Version) (b l : ℕ) → 1 ≤ b → b ≤ most_script_bases v → 1 ≤ l → l ≤ most_lanes v → DraftOf (early v 3 b l 0) (take 3 (header_lines v b l 0))
  behind_header : (v : Version) (b l m : ℕ) (timers : List Declaration) (ended : List Round) (begun : Option (List LaneCall)) (calls : ℕ)
      → Stands (full v b l m timers ended begun calls)
      → DraftOf (full v b l m timers ended begun calls) (script_lines (script_of (full v b l m timers ended begun calls)))

-- ---- one more header line

-- what is known of a line that no cause refuses
pub record IsAccepted (d : Draft) (f : Form) (vs : List Value) : Type 0 where
  pub form : has_form d.version f ≡ true
  pub line : fits (row f) vs ≡ true
  pub accepts : Accepts d (record { form = f; values = vs })

-- these lines and this one make the draft with this one
abbrev Goes : Draft → List Line → Form → List Value → Type 0
Goes d ls f vs = DraftOf (draft_with_line d (record { form = f; values = vs })) (ls ++ record { form = f; values = vs } ∷ [])

either_number : (n : ℕ) → (nat_eq n 1 || nat_eq n 2) ≡ true → (n ≡ 1) ⊎ (n ≡ 2)
either_number n e =
    let go : (b : Bool) → nat_eq n 1 ≡ b → (b || nat_eq n 2) ≡ true → (n ≡ 1) ⊎ (n ≡ 2) =
    λ b. elim b as (λ b. nat_eq n 1 ≡ b → (b || nat_eq n 2) ≡ true → (n ≡ 1) ⊎ (n ≡ 2)) [
      | true ↦ λ is e. inl (eqb-true n 1 is)
      | false ↦ λ is e. inr (eqb-true n 2 e)
    ] in
    go (nat_eq n 1) refl e

version_told : (n : ℕ) → (n ≡ 1) ⊎ (n ≡ 2) → Goes (early versions.One 0 0 0 0) [] forms.Version (values.Number n ∷ [])
unfolding draft_with_line with_part with_header
version_told n (inl is) = subst (λ n. Goes (early versions.One 0 0 0 0) [] forms.Version (values.Number n ∷ [])) (sym is) (at_version versions.One)
version_told n (inr is) = subst (λ n. Goes (early versions.One 0 0 0 0) [] forms.Version (values.Number n ∷ [])) (sym is) (at_version versions.Two)

from_start : (f : Form) (vs : List Value) → fits (row f) vs ≡ true → is_placed (early versions.One 0 0 0 0) (part f) ≡ true
    → check_values (early versions.One 0 0 0 0) 0 (row f) vs ≡ None → Goes (early versions.One 0 0 0 0) [] f vs
unfolding is_placed check_values check_number draft_with_line with_part with_header
from_start forms.Version (values.Number n ∷ []) fit placed e = version_told n (either_number n (holds _ _ (neither _ _ e).0))
from_start _ _ fit placed e = absurd cc

from_version : (v : Version) (f : Form) (vs : List Value) → fits (row f) vs ≡ true → is_placed (early v 1 0 0 0) (part f) ≡ true
    → check_values (early v 1 0 0 0) 0 (row f) vs ≡ None → Goes (early v 1 0 0 0) (take 1 (header_lines v 0 0 0)) f vs
unfolding is_placed check_values check_number draft_with_line with_part with_header
from_version v forms.Bases (values.Number b ∷ []) fit placed e =
    let both = and_parts _ _ (holds _ _ (neither _ _ e).0) in
    at_bases v b (leb-true 1 b both.0) (leb-true b (most_script_bases v) both.1)
from_version v _ _ fit placed e = absurd cc

from_bases : (v : Version) (b : ℕ) → 1 ≤ b → b ≤ most_script_bases v → (f : Form) (vs : List Value) → fits (row f) vs ≡ true
    → is_placed (early v 2 b 0 0) (part f) ≡ true
    → check_values (early v 2 b 0 0) 0 (row f) vs ≡ None
    → Goes (early v 2 b 0 0) (take 2 (header_lines v b 0 0)) f vs
unfolding is_placed check_values check_number draft_with_line with_part with_header
from_bases v b some few forms.Lanes (values.Number l ∷ []) fit placed e =
    let both = and_parts _ _ (holds _ _ (neither _ _ e).0) in
    at_lanes v b l some few (leb-true 1 l both.0) (leb-true l (most_lanes v) both.1)
from_bases v b some few _ _ fit placed e = absurd cc

from_lanes : (v : Version) (b l : ℕ) → 1 ≤ b → b ≤ most_script_bases v → 1 ≤ l → l ≤ most_lanes v → (f : Form) (vs : List Value) → fits (row f) vs ≡ true
    → is_placed (early v 3 b l 0) (part f) ≡ true → check_values (early v 3 b l 0) 0 (row f) vs ≡ None
    → Goes (early v 3 b l 0) (take 3 (header_lines v b l 0)) f vs
unfolding is_placed check_values check_number draft_with_line with_part with_header
from_lanes v b l some few any only forms.Limit (values.Number m ∷ []) fit placed e =
    let both = and_parts _ _ (holds _ _ (neither _ _ e).0) in
    behind_header v b l m [] [] None 0 (record {
      ranges = record {
        bases = (some, few);
        lanes = (any, only);
        limit = (leb-true 1 m both.0, leb-true m (most_events v) both.1);
        timers = omega arith;
        forms = (refl, (refl, (refl, (refl, tt))));
        kinds = tt;
        count = omega arith;
        callers = tt;
        calls = tt;
      };
      unbegun = λ none. refl;
      count = refl;
    })
from_lanes v b l some few any only _ _ fit placed e = absurd cc

-- ---- one more line behind the header

goes_from : (d : Draft) (ls : List Line) (f : Form) (vs : List Value) (e : Draft) (l : Line)
    → draft_with_line d (record { form = f; values = vs }) ≡ e → record { form = f; values = vs } ≡ l → DraftOf e (ls ++ l ∷ []) → Goes d ls f vs
goes_from d ls f vs e l told is so =
    subst (λ l. DraftOf (draft_with_line d (record { form = f; values = vs })) (ls ++ l ∷ [])) (sym is)
    (subst (λ e. DraftOf e (ls ++ l ∷ [])) (sym told) so)

declarations-push : (n k : ℕ) (ts : List Declaration) (t : Declaration) → k ≡ n + length ts
    → declaration_lines n (ts ++ t ∷ []) ≡ declaration_lines n ts ++ declaration_line k t.clock t.kind ∷ []
declarations-push n k [] t is = let same : k ≡ n = omega (arith, is) in rw same refl
declarations-push n k (x ∷ ts) t is =
    ap (λ (ls : List Line). declaration_line n x.clock x.kind ∷ ls) (declarations-push (n + 1) k ts t (omega (arith, is)))

one_timer : (v : Version) (b l m calls : ℕ) (ts : List Declaration) (t : Declaration) → Stands (full v b l m ts [] None calls)
    → length ts < most_timers v
    → IsKindInRange b t.kind → has_form v (declaration_line (length ts) t.clock t.kind).form ≡ true
    → DraftOf (full v b l m (ts ++ t ∷ []) [] None calls)
    (script_lines (script_of (full v b l m ts [] None calls)) ++ declaration_line (length ts) t.clock t.kind ∷ [])
one_timer v b l m calls ts t stands few range form =
    let D : Draft = full v b l m (ts ++ t ∷ []) [] None calls in
    let lines : declaration_lines 0 (ts ++ t ∷ []) ++ [] ≡ (declaration_lines 0 ts ++ []) ++ declaration_line (length ts) t.clock t.kind ∷ [] =
    append-nil _ ∙ declarations-push 0 (length ts) ts t (omega arith)
    ∙ ap (λ (ls : List Line). ls ++ declaration_line (length ts) t.clock t.kind ∷ []) (sym (append-nil (declaration_lines 0 ts))) in
    let whole = ap (λ (ls : List Line). header_lines v b l m ++ ls) lines in
    let before : List Line = script_lines (script_of (full v b l m ts [] None calls)) in
    let still : Stands D = record {
      ranges = record {
        bases = stands.ranges.bases;
        lanes = stands.ranges.lanes;
        limit = stands.ranges.limit;
        timers = let sum : length (ts ++ t ∷ []) ≡ length ts + 1 = length-append _ _ in omega (arith, sum, few);
        forms = subst (λ ls. HasForms v ls) (sym whole)
            (All-append (λ l. has_form v l.form ≡ true) before (declaration_line (length ts) t.clock t.kind ∷ []) stands.ranges.forms (form, tt));
        kinds = All-append (λ t. IsKindInRange b t.kind) ts (t ∷ []) stands.ranges.kinds (range, tt);
        count = omega arith;
        callers = tt;
        calls = tt;
      };
      unbegun = λ none. refl;
      count = stands.count;
    } in
    subst (λ ls. DraftOf D ls) whole (behind_header v b l m (ts ++ t ∷ []) [] None calls still)

-- the calls of rounds to which one without calls is added
round_calls : (rounds : List Round) → all_calls (rounds ++ record { calls = [] } ∷ []) ≡ all_calls rounds
round_calls rounds = flat_map-push (λ r. r.calls) rounds (record { calls = [] }) ∙ append-nil (all_calls rounds)

one_round : (v : Version) (b l m calls : ℕ) (ts : List Declaration) (ended : List Round) (begun : Option (List LaneCall))
    → Stands (full v b l m ts ended begun calls)
    → DraftOf (full v b l m ts (ended ++ last_round begun) (Some []) calls)
    (script_lines (script_of (full v b l m ts ended begun calls)) ++ of_numbers forms.Round [] ∷ [])
one_round v b l m calls ts ended begun stands =
    let rounds : List Round = ended ++ last_round begun in
    let D : Draft = full v b l m ts rounds (Some []) calls in
    let same = sym (round_calls rounds) in
    let lines : declaration_lines 0 ts
    ++ flat_map round_lines (rounds ++ record { calls = [] } ∷ []) ≡ (declaration_lines 0 ts ++ flat_map round_lines rounds)
    ++ of_numbers forms.Round [] ∷ [] =
    ap (λ (ls : List Line). declaration_lines 0 ts ++ ls) (flat_map-push round_lines rounds (record { calls = [] }))
    ∙ sym (append_assoc (declaration_lines 0 ts) (flat_map round_lines rounds) (of_numbers forms.Round [] ∷ [])) in
    let whole = ap (λ (ls : List Line). header_lines v b l m ++ ls) lines in
    let before : List Line = script_lines (script_of (full v b l m ts ended begun calls)) in
    let still : Stands D = record {
      ranges = record {
        bases = stands.ranges.bases;
        lanes = stands.ranges.lanes;
        limit = stands.ranges.limit;
        timers = stands.ranges.timers;
        forms = subst (λ ls. HasForms v ls) (sym whole)
            (All-append (λ l. has_form v l.form ≡ true) before (of_numbers forms.Round [] ∷ []) stands.ranges.forms (refl, tt));
        kinds = stands.ranges.kinds;
        count = subst (λ cs. length cs ≤ most_calls) same stands.ranges.count;
        callers = subst (λ cs. AllByRecursion (λ c. c.lane < l) cs) same stands.ranges.callers;
        calls = subst (λ cs. AllByRecursion (λ c. IsCallInRange c.lane b ts c.call) cs) same stands.ranges.calls;
      };
      unbegun = λ none. absurd cc;
      count = subst (λ cs. length cs ≡ calls) same stands.count;
    } in
    subst (λ ls. DraftOf D ls) whole (behind_header v b l m ts rounds (Some []) calls still)

-- one more call in the last round
calls-push : (ended : List Round) (cs : List LaneCall) (c : LaneCall)
    → all_calls (ended ++ record { calls = cs ++ c ∷ [] } ∷ []) ≡ all_calls (ended ++ record { calls = cs } ∷ []) ++ c ∷ []
calls-push ended cs c =
    flat_map-push (λ r. r.calls) ended (record { calls = cs ++ c ∷ [] }) ∙ sym (append_assoc (all_calls ended) cs (c ∷ []))
    ∙ ap (λ (all : List LaneCall). all ++ c ∷ []) (sym (flat_map-push (λ r. r.calls) ended (record { calls = cs })))

lines-push : (ended : List Round) (cs : List LaneCall) (c : LaneCall)
    → flat_map round_lines (ended ++ record { calls = cs ++ c ∷ [] } ∷ []) ≡ flat_map round_lines (ended ++ record { calls = cs } ∷ [])
    ++ call_line c.lane c.call ∷ []
lines-push ended cs c =
    let one : round_lines (record { calls = cs ++ c ∷ [] }) ≡ round_lines (record { calls = cs }) ++ call_line c.lane c.call ∷ [] =
    ap (λ (ls : List Line). of_numbers forms.Round [] ∷ ls) (map-append (λ c. call_line c.lane c.call) cs (c ∷ [])) in
    flat_map-push round_lines ended (record { calls = cs ++ c ∷ [] }) ∙ ap (λ (ls : List Line). flat_map round_lines ended ++ ls) one
    ∙ sym (append_assoc (flat_map round_lines ended) (round_lines (record { calls = cs })) (call_line c.lane c.call ∷ []))
    ∙ ap (λ (ls : List Line). ls ++ call_line c.lane c.call ∷ []) (sym (flat_map-push round_lines ended (record { calls = cs })))

one_call : (v : Version) (b l m calls : ℕ) (ts : List Declaration) (ended : List Round) (cs : List LaneCall) (c : LaneCall)
    → Stands (full v b l m ts ended (Some cs) calls) → calls < most_calls → c.lane < l → IsCallInRange c.lane b ts c.call
    → has_form v (call_line c.lane c.call).form ≡ true
    → DraftOf (full v b l m ts ended (Some (cs ++ c ∷ [])) (calls + 1))
    (script_lines (script_of (full v b l m ts ended (Some cs) calls)) ++ call_line c.lane c.call ∷ [])
one_call v b l m calls ts ended cs c stands few lane range form =
    let D : Draft = full v b l m ts ended (Some (cs ++ c ∷ [])) (calls + 1) in
    let before : List LaneCall = all_calls (ended ++ record { calls = cs } ∷ []) in
    let same = sym (calls-push ended cs c) in
    let sum : length (before ++ c ∷ []) ≡ length before + 1 = length-append _ _ in
    let lines : declaration_lines 0 ts
    ++ flat_map round_lines (ended ++ record { calls = cs ++ c ∷ [] } ∷ []) ≡
    (declaration_lines 0 ts ++ flat_map round_lines (ended ++ record { calls = cs } ∷ [])) ++ call_line c.lane c.call ∷ [] =
    ap (λ (ls : List Line). declaration_lines 0 ts ++ ls) (lines-push ended cs c)
    ∙ sym (append_assoc (declaration_lines 0 ts) (flat_map round_lines (ended ++ record { calls = cs } ∷ [])) (call_line c.lane c.call ∷ [])) in
    let whole = ap (λ (ls : List Line). header_lines v b l m ++ ls) lines in
    let lines_before : List Line = script_lines (script_of (full v b l m ts ended (Some cs) calls)) in
    let still : Stands D = record {
      ranges = record {
        bases = stands.ranges.bases;
        lanes = stands.ranges.lanes;
        limit = stands.ranges.limit;
        timers = stands.ranges.timers;
        forms = subst (λ ls. HasForms v ls) (sym whole)
            (All-append (λ l. has_form v l.form ≡ true) lines_before (call_line c.lane c.call ∷ []) stands.ranges.forms (form, tt));
        kinds = stands.ranges.kinds;
        count = subst (λ cs. length cs ≤ most_calls) same (omega (arith, sum, few, stands.count));
        callers = subst (λ cs. AllByRecursion (λ c. c.lane < l) cs) same
            (All-append (λ c. c.lane < l) before (c ∷ []) stands.ranges.callers (lane, tt));
        calls = subst (λ cs. AllByRecursion (λ c. IsCallInRange c.lane b ts c.call) cs) same
            (All-append (λ c. IsCallInRange c.lane b ts c.call) before (c ∷ []) stands.ranges.calls (range, tt));
      };
      unbegun = λ none. absurd cc;
      count = subst (λ cs. length cs ≡ calls + 1) same (omega (arith, sum, stands.count));
    } in
    subst (λ ls. DraftOf D ls) whole (behind_header v b l m ts ended (Some (cs ++ c ∷ [])) (calls + 1) still)

-- ---- one more line

round_line : (f : Form) (vs : List Value) → part f ≡ parts.Round → fits (row f) vs ≡ true
    → record { form = f; values = vs } ≡ of_numbers forms.Round []
round_line forms.Round [] is fit = refl
round_line _ _ is fit = absurd cc

module _ (v : Version) (b l m calls : ℕ) (ts : List Declaration) (f : Form) (vs : List Value) where
  -- the draft so far, and its lines
  abbrev now : List Round → Option (List LaneCall) → Draft
  now ended begun = full v b l m ts ended begun calls

  abbrev so_far : List Round → Option (List LaneCall) → List Line
  so_far ended begun = script_lines (script_of (now ended begun))

  next_timer : (ended : List Round) (begun : Option (List LaneCall)) → Stands (now ended begun) → IsAccepted (now ended begun) f vs
      → part f ≡ parts.Declaration
      → Goes (now ended begun) (so_far ended begun) f vs
  unfolding is_placed check_count draft_with_line with_part with_timer
  next_timer ended None stands a is =
      let none : ended ≡ [] = stands.unbegun refl in
      let count : check_count (now ended None) parts.Declaration ≡ None = subst (λ p. check_count (now ended None) p ≡ None) is a.accepts.count in
      let t = declares (now ended None) f vs is a.line a.accepts.values in
      let few : length ts < most_timers v = ltb-true (length ts) (most_timers v) (holds _ _ count) in
      let told : draft_with_line (now ended None) (record { form = f; values = vs }) ≡ full v b l m (ts ++ t.0 ∷ []) ended None calls =
      rw (is, t.1.means) refl in
      goes_from _ (so_far ended None) f vs _ _ told t.1.line
      (subst (λ ended. DraftOf (full v b l m (ts ++ t.0 ∷ []) ended None calls)
      (so_far ended None ++ declaration_line (length ts) t.0.clock t.0.kind ∷ [])) (sym none)
      (one_timer v b l m calls ts t.0 (subst (λ ended. Stands (now ended None)) none stands) few t.1.range
      (ap (λ (l : Line). has_form v l.form) (sym t.1.line) ∙ a.form)))
  next_timer ended (Some cs) stands a is =
      let placed : is_placed (now ended (Some cs)) parts.Declaration ≡ true =
      subst (λ p. is_placed (now ended (Some cs)) p ≡ true) is a.accepts.placed in
      absurd cc

  next_call : (ended : List Round) (begun : Option (List LaneCall)) → Stands (now ended begun) → IsAccepted (now ended begun) f vs
      → part f ≡ parts.Call
      → Goes (now ended begun) (so_far ended begun) f vs
  unfolding is_placed check_count draft_with_line with_part with_call
  next_call ended None stands a is =
      let placed : is_placed (now ended None) parts.Call ≡ true = subst (λ p. is_placed (now ended None) p ≡ true) is a.accepts.placed in
      absurd cc
  next_call ended (Some cs) stands a is =
      let count : check_count (now ended (Some cs)) parts.Call ≡ None = subst (λ p. check_count (now ended (Some cs)) p ≡ None) is a.accepts.count in
      let c = calls_for (now ended (Some cs)) (omega (arith, stands.ranges.lanes.0)) f vs is a.line a.accepts.values a.accepts.kind in
      let few : calls < most_calls = ltb-true calls most_calls (holds _ _ count) in
      let told : draft_with_line (now ended (Some cs)) (record { form = f; values = vs }) ≡ full v b l m ts ended (Some (cs ++ c.0 ∷ []))
      (calls + 1) =
      rw (is, c.1.means) refl in
      goes_from _ (so_far ended (Some cs)) f vs _ _ told c.1.line (one_call v b l m calls ts ended cs c.0 stands few c.1.lane c.1.range
      (ap (λ (l : Line). has_form v l.form) (sym c.1.line) ∙ a.form))

  next_round : (ended : List Round) (begun : Option (List LaneCall)) → Stands (now ended begun) → IsAccepted (now ended begun) f vs
      → part f ≡ parts.Round
      → Goes (now ended begun) (so_far ended begun) f vs
  unfolding draft_with_line with_part with_round
  next_round ended begun stands a is =
      let told : draft_with_line (now ended begun) (record { form = f; values = vs }) ≡ full v b l m ts (ended ++ last_round begun) (Some []) calls =
      rw is refl in
      goes_from _ (so_far ended begun) f vs _ _ told (round_line f vs is a.line) (one_round v b l m calls ts ended begun stands)

  no_header : (ended : List Round) (begun : Option (List LaneCall)) (n : ℕ) → IsAccepted (now ended begun) f vs → part f ≡ parts.Header n → ⊥
  unfolding is_placed
  no_header ended begun n a is =
      let placed : is_placed (now ended begun) (parts.Header n) ≡ true = subst (λ p. is_placed (now ended begun) p ≡ true) is a.accepts.placed in
      omega (arith, eqb-true 4 n placed, header_number f n is)

  next_line : (ended : List Round) (begun : Option (List LaneCall)) → Stands (now ended begun) → IsAccepted (now ended begun) f vs → (p : Part)
      → part f ≡ p
      → Goes (now ended begun) (so_far ended begun) f vs
  next_line ended begun stands a (parts.Header n) is = absurd (no_header ended begun n a is)
  next_line ended begun stands a parts.Declaration is = next_timer ended begun stands a is
  next_line ended begun stands a parts.Round is = next_round ended begun stands a is
  next_line ended begun stands a parts.Call is = next_call ended begun stands a is

draft_of_more : (d : Draft) (ls : List Line) (f : Form) (vs : List Value) → DraftOf d ls → IsAccepted d f vs → Goes d ls f vs
draft_of_more d ls f vs at_start a = from_start f vs a.line a.accepts.placed a.accepts.values
draft_of_more d ls f vs (at_version v) a = from_version v f vs a.line a.accepts.placed a.accepts.values
draft_of_more d ls f vs (at_bases v b some few) a = from_bases v b some few f vs a.line a.accepts.placed a.accepts.values
draft_of_more d ls f vs (at_lanes v b l some few any only) a = from_lanes v b l some few any only f vs a.line a.accepts.placed a.accepts.values
draft_of_more d ls f vs (behind_header v b l m ts ended begun calls stands) a = next_line v b l m calls ts f vs ended begun stands a (part f) refl

-- the draft with a line of a form of its version that can be spelled and is accepted
pub draft_of_line : (d : Draft) (ls : List Line) (l : Line) → DraftOf d ls → has_form d.version l.form ≡ true → IsLine l → check_line d l ≡ None
    → DraftOf (draft_with_line d l) (ls ++ l ∷ [])
draft_of_line d ls l told form line none =
    draft_of_more d ls l.form l.values told (record { form = form; line = fits_from (row l.form) l.values line; accepts = accepts d l none })

-- behind the header the lines are all of the script, and it keeps to the limits
pub draft_of_script : (d : Draft) (ls : List Line) → DraftOf d ls → nat_lt d.headers 4 ≡ false
    → (ls ≡ script_lines (script_of d)) × IsInRange (script_of d)
draft_of_script d ls at_start done = absurd cc
draft_of_script d ls (at_version v) done = absurd cc
draft_of_script d ls (at_bases v b some few) done = absurd cc
draft_of_script d ls (at_lanes v b l some few any only) done = absurd cc
draft_of_script d ls (behind_header v b l m ts ended begun calls stands) done = (refl, stands.ranges)
