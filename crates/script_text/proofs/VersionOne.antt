-- A script of the first version that keeps to the limits asks for no slack and for no soft context.
use Rattle.std.proofs.Common.{◌≡◌, ℕ, ◌+◌, true, List, [], ◌∷◌, ◌++◌, map, Option, Some, None, refl, subst}
use Rattle.std.specs.List.{AllByRecursion, flat_map}
use Rattle.ktime.specs.declared.clock_id.ClockId.{ClockId}
use Rattle.ktime.specs.declared.mode.Mode.{Mode}
use Rattle.seq_timer.specs.declared.context.Context.TheVariants as contexts
use Rattle.record_text.specs.declared.version.Version.TheVariants as versions
use Rattle.record_text.proofs.Lists.{All-append, All-back, All-front}
use Rattle.script_text.specs.declared.form.Line.{Line}
use Rattle.script_text.specs.declared.script.Call.{Call}
use Rattle.script_text.specs.declared.script.Call.TheVariants as calls
use Rattle.script_text.specs.declared.script.Callback.TheVariants as callbacks
use Rattle.script_text.specs.declared.script.Declaration.{Declaration}
use Rattle.script_text.specs.declared.script.Kind.{Kind}
use Rattle.script_text.specs.declared.script.Kind.TheVariants as kinds
use Rattle.script_text.specs.declared.script.LaneCall.{LaneCall}
use Rattle.script_text.specs.declared.script.Round.{Round}
use Rattle.script_text.specs.declared.script.Script.{Script}
use Rattle.script_text.specs.Forms.{has_form}
use Rattle.script_text.specs.Declarations.{context_of}
use Rattle.script_text.specs.Scripts.{HasForms, IsInRange, IsKindInRange, all_calls, declaration_line, declaration_lines, header_lines, round_lines}
use Rattle.script_text.specs.CallLines.{asking_line, call_line}
use Rattle.script_text.specs.VersionOne.{IsHard, IsHardCall}

hard_kind : (bases timer : ℕ) (clock : ClockId) (kind : Kind) → IsKindInRange bases kind
    → has_form versions.One (declaration_line timer clock kind).form ≡ true → context_of kind ≡ contexts.Hard
hard_kind bases timer clock (kinds.Raw contexts.Soft callbacks.Once) range has = absurd cc
hard_kind bases timer clock (kinds.Raw contexts.Soft (callbacks.Every interval)) range has = absurd cc
hard_kind bases timer clock (kinds.Raw contexts.Soft callbacks.Cancels) range has = absurd range
hard_kind bases timer clock (kinds.Raw contexts.Soft (callbacks.Starts ns base)) range has = absurd range
hard_kind bases timer clock kind range has = refl

hard_kinds : (bases timer : ℕ) (ds : List Declaration) → AllByRecursion (λ d. IsKindInRange bases d.kind) ds
    → HasForms versions.One (declaration_lines timer ds) → AllByRecursion (λ d. context_of d.kind ≡ contexts.Hard) ds
hard_kinds bases timer [] range has = tt
hard_kinds bases timer (d ∷ ds) range has =
    (hard_kind bases timer d.clock d.kind range.0 has.0, hard_kinds bases (timer + 1) ds range.1 has.1)

no_slack : (lane timer : ℕ) (mode : Mode) (ns base : ℕ) (slack : Option ℕ)
    → has_form versions.One (asking_line lane timer mode ns base slack).form ≡ true → slack ≡ None
no_slack lane timer mode ns base None has = refl
no_slack lane timer mode ns base (Some slack) has = absurd cc

hard_call : (lane : ℕ) (call : Call) → has_form versions.One (call_line lane call).form ≡ true → IsHardCall call
hard_call lane (calls.Start timer request) has = no_slack lane timer request.mode request.ns request.base request.slack has
hard_call lane (calls.Expire contexts.Hard base budget) has = refl
hard_call lane (calls.Expire contexts.Soft base budget) has = absurd cc
hard_call lane (calls.Offline base heir budget) has = absurd cc
hard_call lane (calls.Online base) has = absurd cc
hard_call lane call has = tt

hard_calls : (cs : List LaneCall) → HasForms versions.One (map (λ c. call_line c.lane c.call) cs) → AllByRecursion (λ c. IsHardCall c.call) cs
hard_calls [] has = tt
hard_calls (c ∷ cs) has = (hard_call c.lane c.call has.0, hard_calls cs has.1)

hard_rounds : (rs : List Round) → HasForms versions.One (flat_map round_lines rs) → AllByRecursion (λ c. IsHardCall c.call) (all_calls rs)
hard_rounds [] has = tt
hard_rounds (r ∷ rs) has =
    let is : Line → Type 0 = λ l. has_form versions.One l.form ≡ true in
    let lines = map (λ (c : LaneCall). call_line c.lane c.call) r.calls in
    All-append (λ c. IsHardCall c.call) r.calls (all_calls rs) (hard_calls r.calls (All-front is lines (flat_map round_lines rs) has.1))
    (hard_rounds rs (All-back is lines (flat_map round_lines rs) has.1))

-- law: a script of the first version asks for no slack, and all its timers and expiries are of the hard context
pub version_one_is_hard : (s : Script) → IsInRange s → s.version ≡ versions.One → IsHard s
version_one_is_hard s range one =
    let is : Line → Type 0 = λ l. has_form versions.One l.form ≡ true in
    let timers = declaration_lines 0 s.timers in
    let rounds = flat_map round_lines s.rounds in
    let forms = All-back is (header_lines versions.One s.bases s.lanes s.limit) (timers ++ rounds)
    (subst (λ v. HasForms v (header_lines v s.bases s.lanes s.limit ++ timers ++ rounds)) one range.forms) in
    record {
      timers = hard_kinds s.bases 0 s.timers range.kinds (All-front is timers rounds forms);
      calls = hard_rounds s.rounds (All-back is timers rounds forms);
    }
