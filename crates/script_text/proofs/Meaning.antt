-- A line that no cause refuses means a declaration or a call in range, whose line it is; and such a line is accepted.
use Rattle.std.proofs.Common.{arith, ◌≡◌, ℕ, ◌<◌, Bool, true, false, List, [], ◌∷◌, length, Option, Some, None, refl, sym, subst, ◌∙◌, ◌&&◌}
use Rattle.std.specs.Option.{option_or}
use Rattle.std.proofs.lemmas.Bool.{and_from, ltb-true, lt-ltb, leb-true, le-leb, eqb-true, eq-eqb}
use Rattle.ktime.specs.declared.clock_id.ClockId.{ClockId}
use Rattle.ktime.specs.declared.mode.Mode.{Mode}
use Rattle.ktime.specs.declared.mode.Mode.TheVariants as modes
use Rattle.ktime.specs.declared.write.Write.{Write}
use Rattle.ktime.specs.declared.write.Write.TheVariants as writes
use Rattle.seq_timer.specs.declared.context.Context.{Context}
use Rattle.seq_timer.specs.declared.context.Context.TheVariants as contexts
use Rattle.script_text.specs.declared.form.Form.{Form}
use Rattle.script_text.specs.declared.form.Form.TheVariants as forms
use Rattle.script_text.specs.declared.form.Part.TheVariants as parts
use Rattle.script_text.specs.declared.form.Field.TheVariants as fields
use Rattle.script_text.specs.declared.form.Value.{Value}
use Rattle.script_text.specs.declared.form.Value.TheVariants as values
use Rattle.script_text.specs.declared.reading.drafts.Draft.{Draft}
use Rattle.script_text.specs.declared.script.Callback.TheVariants as callbacks
use Rattle.script_text.specs.declared.script.Call.{Call}
use Rattle.script_text.specs.declared.script.Call.TheVariants as calls
use Rattle.script_text.specs.declared.script.Declaration.{Declaration}
use Rattle.script_text.specs.declared.script.Kind.{Kind}
use Rattle.script_text.specs.declared.script.Kind.TheVariants as kinds
use Rattle.script_text.specs.declared.script.LaneCall.{LaneCall}
use Rattle.script_text.specs.Forms.{Spot, Key, At, Sort, ClockName, ModeName, Numeral, sort, row, called, part, suits}
use Rattle.script_text.specs.Grammar.{IsOfSort, Fills}
use Rattle.script_text.specs.Scripts.{declaration_line, IsKindInRange}
use Rattle.script_text.specs.CallLines.{most_budget, asking_line, call_line, IsGivenMode, IsCallInRange, HasTimerFor, plain_call_of, object_call_of, on_timer_of, timer_call_of, call_of}
use Rattle.script_text.specs.Drafts.{declaration_of}
use Rattle.script_text.specs.Refusals.{check_number, check_values, check_kind}
use Rattle.script_text.proofs.Checks.{neither, holds}

-- ---- the shapes of values that fill a row

-- a value is of a sort
abbrev is_of_sort : Sort → Value → Bool
is_of_sort ClockName (values.Clock clock) = true
is_of_sort ModeName (values.Mode modes.Abs) = true
is_of_sort ModeName (values.Mode modes.Rel) = true
is_of_sort Numeral (values.Number n) = true
is_of_sort sort v = false

-- there are as many values as fields, of their sorts
abbrev pub fits : List Spot → List Value → Bool
fits [] [] = true
fits [] (v ∷ vs) = false
fits (Key word ∷ spots) vs = fits spots vs
fits (At field ∷ spots) (v ∷ vs) = is_of_sort (sort field) v && fits spots vs
fits (At field ∷ spots) [] = false

is_of_sort_from : (s : Sort) (v : Value) → IsOfSort s v → is_of_sort s v ≡ true
is_of_sort_from ClockName (values.Clock clock) h = refl
is_of_sort_from ModeName (values.Mode modes.Abs) h = refl
is_of_sort_from ModeName (values.Mode modes.Rel) h = refl
is_of_sort_from Numeral (values.Number n) h = refl
is_of_sort_from _ _ h = absurd h

pub fits_from : (spots : List Spot) (vs : List Value) → Fills spots vs → fits spots vs ≡ true
fits_from [] [] h = refl
fits_from [] (v ∷ vs) h = absurd h
fits_from (Key word ∷ spots) vs h = fits_from spots vs h
fits_from (At field ∷ spots) (v ∷ vs) h =
    and_from (is_of_sort (sort field) v) (fits spots vs) (is_of_sort_from (sort field) v h.0) (fits_from spots vs h.1)
fits_from (At field ∷ spots) [] h = absurd h

-- ---- declarations

-- a declaration's line stands here, among so many bases and after so many timers
pub record Declares (d : Draft) (f : Form) (vs : List Value) (t : Declaration) : Type 0 where
  pub means : declaration_of f vs ≡ Some t
  pub line : record { form = f; values = vs } ≡ declaration_line (length d.timers) t.clock t.kind
  pub range : IsKindInRange d.bases t.kind

-- an object's number is the next, and its base exists
object_on : (d : Draft) (i b : ℕ) → option_or (check_number d 0 fields.NewTimer i) (option_or (check_number d 0 fields.Base b) None) ≡ None
    → (i ≡ length d.timers) × (b < d.bases)
unfolding check_number
object_on d i b e = let both =
    neither _ _ e in (eqb-true i (length d.timers) (holds _ _ both.0), ltb-true b d.bases (holds _ _ (neither _ _ both.1).0))

pub declares : (d : Draft) (f : Form) (vs : List Value) → part f ≡ parts.Declaration → fits (row f) vs ≡ true
    → check_values d 0 (row f) vs ≡ None
    → (t : Declaration) × Declares d f vs t
unfolding declaration_of check_values check_number
declares d forms.RawOnce (values.Number i ∷ values.Clock c ∷ []) is fit e =
    let same = eqb-true i (length d.timers) (holds _ _ (neither _ _ e).0) in
    (record { clock = c; kind = kinds.Raw contexts.Hard callbacks.Once }, record { means = refl; line = rw same refl; range = tt })
declares d forms.RawEvery (values.Number i ∷ values.Clock c ∷ values.Number n ∷ []) is fit e =
    let same = eqb-true i (length d.timers) (holds _ _ (neither _ _ e).0) in
    (record { clock = c; kind = kinds.Raw contexts.Hard (callbacks.Every n) }, record { means = refl; line = rw same refl; range = tt })
declares d forms.RawCancels (values.Number i ∷ values.Clock c ∷ []) is fit e =
    let same = eqb-true i (length d.timers) (holds _ _ (neither _ _ e).0) in
    (record { clock = c; kind = kinds.Raw contexts.Hard callbacks.Cancels }, record { means = refl; line = rw same refl; range = tt })
declares d forms.RawStarts (values.Number i ∷ values.Clock c ∷ values.Number n ∷ values.Number b ∷ []) is fit e =
    let first = neither _ _ e in
    let same = eqb-true i (length d.timers) (holds _ _ first.0) in
    let base = ltb-true b d.bases (holds _ _ (neither _ _ first.1).0) in
    (record { clock = c; kind = kinds.Raw contexts.Hard (callbacks.Starts n b) }, record { means = refl; line = rw same refl; range = base })
declares d forms.SoftOnce (values.Number i ∷ values.Clock c ∷ []) is fit e =
    let same = eqb-true i (length d.timers) (holds _ _ (neither _ _ e).0) in
    (record { clock = c; kind = kinds.Raw contexts.Soft callbacks.Once }, record { means = refl; line = rw same refl; range = tt })
declares d forms.SoftEvery (values.Number i ∷ values.Clock c ∷ values.Number n ∷ []) is fit e =
    let same = eqb-true i (length d.timers) (holds _ _ (neither _ _ e).0) in
    (record { clock = c; kind = kinds.Raw contexts.Soft (callbacks.Every n) }, record { means = refl; line = rw same refl; range = tt })
declares d forms.Posix (values.Number i ∷ values.Clock c ∷ values.Number b ∷ []) is fit e =
    let own = object_on d i b e in
    (record { clock = c; kind = kinds.Posix b }, record { means = refl; line = rw own.0 refl; range = own.1 })
declares d forms.Fd (values.Number i ∷ values.Clock c ∷ values.Number b ∷ []) is fit e =
    let own = object_on d i b e in
    (record { clock = c; kind = kinds.Fd b }, record { means = refl; line = rw own.0 refl; range = own.1 })
declares d forms.Queued (values.Number i ∷ values.Clock c ∷ values.Number b ∷ []) is fit e =
    let own = object_on d i b e in
    (record { clock = c; kind = kinds.Queued b }, record { means = refl; line = rw own.0 refl; range = own.1 })
declares d forms.Sleeper (values.Number i ∷ values.Clock c ∷ values.Number b ∷ []) is fit e =
    let own = object_on d i b e in
    (record { clock = c; kind = kinds.Sleeper b }, record { means = refl; line = rw own.0 refl; range = own.1 })
declares d _ _ is fit e = absurd cc

-- a line means this declaration, and no cause refuses it but where it stands and the count of its like
pub record IsDeclarationOf (d : Draft) (f : Form) (vs : List Value) (t : Declaration) : Type 0 where
  pub means : declaration_of f vs ≡ Some t
  pub part : part f ≡ parts.Declaration
  pub values : check_values d 0 (row f) vs ≡ None
  pub kind : check_kind d f (row f) vs ≡ None

pub declaration_again : (d : Draft) (clock : ClockId) (kind : Kind) → IsKindInRange d.bases kind
    → IsDeclarationOf d (declaration_line (length d.timers) clock kind).form (declaration_line (length d.timers) clock kind).values
    (record { clock = clock; kind = kind })
unfolding declaration_of check_values check_number check_kind
declaration_again d clock (kinds.Raw contexts.Hard (callbacks.Starts n b)) range =
    record { means = refl; part = refl; values = rw (eq-eqb (length d.timers) (length d.timers) refl, lt-ltb b d.bases range) refl; kind = refl }
declaration_again d clock (kinds.Raw contexts.Soft callbacks.Cancels) range = absurd range
declaration_again d clock (kinds.Raw contexts.Soft (callbacks.Starts n b)) range = absurd range
declaration_again d clock (kinds.Posix base) range =
    record { means = refl; part = refl; values = rw (eq-eqb (length d.timers) (length d.timers) refl, lt-ltb base d.bases range) refl; kind = refl }
declaration_again d clock (kinds.Fd base) range =
    record { means = refl; part = refl; values = rw (eq-eqb (length d.timers) (length d.timers) refl, lt-ltb base d.bases range) refl; kind = refl }
declaration_again d clock (kinds.Queued base) range =
    record { means = refl; part = refl; values = rw (eq-eqb (length d.timers) (length d.timers) refl, lt-ltb base d.bases range) refl; kind = refl }
declaration_again d clock (kinds.Sleeper base) range =
    record { means = refl; part = refl; values = rw (eq-eqb (length d.timers) (length d.timers) refl, lt-ltb base d.bases range) refl; kind = refl }
declaration_again d clock kind range =
    record { means = refl; part = refl; values = rw (eq-eqb (length d.timers) (length d.timers) refl) refl; kind = refl }

-- ---- calls

-- a call's line stands here, among so many bases, lanes and timers
pub record Calls (d : Draft) (f : Form) (vs : List Value) (c : LaneCall) : Type 0 where
  pub means : call_of f vs ≡ Some c
  pub line : record { form = f; values = vs } ≡ call_line c.lane c.call
  pub lane : c.lane < d.lanes
  pub range : IsCallInRange c.lane d.bases d.timers c.call

-- a line reads as this call, and no cause refuses it but where it stands and the count of its like
pub record IsCallOf (d : Draft) (f : Form) (vs : List Value) (c : LaneCall) : Type 0 where
  pub means : call_of f vs ≡ Some c
  pub part : part f ≡ parts.Call
  pub values : check_values d 0 (row f) vs ≡ None
  pub kind : check_kind d f (row f) vs ≡ None

-- a call on a timer: behind its lane and its timer stand other values
module _ (d : Draft) (f : Form) (name : List ℕ) (spots : List Spot) (k i : ℕ) (more : List Value) (call : Call)
    (is : row f ≡ called name (At fields.Timer ∷ spots)) where
  timer_call : call_of f (values.Number k ∷ values.Number i ∷ more) ≡ Some (record { lane = k; call = call })
      → record { form = f; values = values.Number k ∷ values.Number i ∷ more } ≡ call_line k call
      → (check_values d 0 spots more ≡ None → HasTimerFor d.timers i f → IsCallInRange k d.bases d.timers call)
      → check_values d 0 (row f) (values.Number k ∷ values.Number i ∷ more) ≡ None
      → check_kind d f (row f) (values.Number k ∷ values.Number i ∷ more) ≡ None
      → (c : LaneCall) × Calls d f (values.Number k ∷ values.Number i ∷ more) c
  unfolding check_values check_number check_kind
  timer_call means line range none kind =
      let vs : List Value = values.Number k ∷ values.Number i ∷ more in
      let lane = neither _ _ (subst (λ spots. check_values d 0 spots vs ≡ None) is none) in
      let timer = neither _ _ lane.1 in
      let suit = holds _ _ (subst (λ spots. check_kind d f spots vs ≡ None) is kind) in (
        record { lane = k; call = call },
        record {
          means = means;
          line = line;
          lane = ltb-true k d.lanes (holds _ _ lane.0);
          range =
              range timer.1 (ltb-true i (length d.timers) (holds _ _ timer.0), suit);
        },
      )

  timer_call_again : call_of f (values.Number k ∷ values.Number i ∷ more) ≡ Some (record { lane = k; call = call }) → part f ≡ parts.Call
      → k < d.lanes → HasTimerFor d.timers i f → check_values d 0 spots more ≡ None
      → IsCallOf d f (values.Number k ∷ values.Number i ∷ more) (record { lane = k; call = call })
  unfolding check_values check_number check_kind
  timer_call_again means call_part lane suit none = record {
    means = means;
    part = call_part;
    values = rw (is, lt-ltb k d.lanes lane, lt-ltb i (length d.timers) suit.0) none;
    kind = rw (is, suit.1) refl;
  }

-- a call of the clock: behind its lane stands a time
clock_call : (d : Draft) (f : Form) (name : List ℕ) (k n : ℕ) (write : Write)
    → call_of f (values.Number k ∷ values.Number n ∷ []) ≡ Some (record { lane = k; call = calls.Clock write })
    → record { form = f; values = values.Number k ∷ values.Number n ∷ [] } ≡ call_line k (calls.Clock write)
    → row f ≡ called name (At fields.Free ∷ []) → check_values d 0 (row f) (values.Number k ∷ values.Number n ∷ []) ≡ None
    → (c : LaneCall) × Calls d f (values.Number k ∷ values.Number n ∷ []) c
unfolding check_values check_number
clock_call d f name k n write means line is none =
    let lane = neither _ _ (subst (λ spots. check_values d 0 spots (values.Number k ∷ values.Number n ∷ []) ≡ None) is none) in
    (record { lane = k; call = calls.Clock write }, record { means = means; line = line; lane = ltb-true k d.lanes (holds _ _ lane.0); range = tt })

-- an expiry: behind its lane stand the base and the budget
expire_call : (d : Draft) (f : Form) (name : List ℕ) (k b n : ℕ) (context : Context)
    → call_of f (values.Number k ∷ values.Number b ∷ values.Number n ∷ []) ≡ Some (record { lane = k; call = calls.Expire context b n })
    → record { form = f; values = values.Number k ∷ values.Number b ∷ values.Number n ∷ [] } ≡ call_line k (calls.Expire context b n)
    → row f ≡ called name (At fields.Base ∷ At fields.Budget ∷ [])
    → check_values d 0 (row f) (values.Number k ∷ values.Number b ∷ values.Number n ∷ []) ≡ None
    → (c : LaneCall) × Calls d f (values.Number k ∷ values.Number b ∷ values.Number n ∷ []) c
unfolding check_values check_number
expire_call d f name k b n context means line is none =
    let vs : List Value = values.Number k ∷ values.Number b ∷ values.Number n ∷ [] in
    let lane = neither _ _ (subst (λ spots. check_values d 0 spots vs ≡ None) is none) in
    let base = neither _ _ lane.1 in
    let budget = neither _ _ base.1 in (
      record { lane = k; call = calls.Expire context b n },
      record {
        means = means;
        line = line;
        lane = ltb-true k d.lanes (holds _ _ lane.0);
        range = (ltb-true b d.bases (holds _ _ base.0), leb-true n most_budget (holds _ _ budget.0));
      },
    )

-- a call of the first lane that takes a base off line: behind it stand the base, the heir and the budget
offline_call : (d : Draft) (some : 0 < d.lanes) (k b h n : ℕ)
    → check_values d 0 (row forms.Offline) (values.Number k ∷ values.Number b ∷ values.Number h ∷ values.Number n ∷ []) ≡ None
    → Calls d forms.Offline (values.Number k ∷ values.Number b ∷ values.Number h ∷ values.Number n ∷ [])
    (record { lane = k; call = calls.Offline b h n })
unfolding call_of on_timer_of timer_call_of plain_call_of object_call_of check_values check_number
offline_call d some k b h n none =
    let lane = neither _ _ none in
    let base = neither _ _ lane.1 in
    let heir = neither _ _ base.1 in
    let first = eqb-true k 0 (holds _ _ lane.0) in
    record {
      means = refl;
      line = refl;
      lane = omega (arith, first, some);
      range = (
        first,
        ltb-true b d.bases (holds _ _ base.0),
        ltb-true h b (holds _ _ heir.0),
        leb-true n most_budget (holds _ _ (neither _ _ heir.1).0),
      );
    }

-- a call of the first lane that takes a base on line: behind it stands the base
online_call : (d : Draft) (some : 0 < d.lanes) (k b : ℕ)
    → check_values d 0 (row forms.Online) (values.Number k ∷ values.Number b ∷ []) ≡ None
    → Calls d forms.Online (values.Number k ∷ values.Number b ∷ []) (record { lane = k; call = calls.Online b })
unfolding call_of on_timer_of timer_call_of plain_call_of object_call_of check_values check_number
online_call d some k b none =
    let lane = neither _ _ none in
    let first = eqb-true k 0 (holds _ _ lane.0) in
    record {
      means = refl;
      line = refl;
      lane = omega (arith, first, some);
      range = (first, ltb-true b d.bases (holds _ _ (neither _ _ lane.1).0));
    }

-- the same timers can be started with a slack and without
suits_range : (kind : Kind) → suits forms.StartRange kind ≡ suits forms.Start kind
suits_range (kinds.Raw context callback) = refl
suits_range (kinds.Posix base) = refl
suits_range (kinds.Fd base) = refl
suits_range (kinds.Queued base) = refl
suits_range (kinds.Sleeper base) = refl

as_start : (timers : List Declaration) (i : ℕ) → HasTimerFor timers i forms.StartRange → HasTimerFor timers i forms.Start
as_start timers i suit = (suit.0, sym (suits_range _) ∙ suit.1)

as_range : (timers : List Declaration) (i : ℕ) → HasTimerFor timers i forms.Start → HasTimerFor timers i forms.StartRange
as_range timers i suit = (suit.0, suits_range _ ∙ suit.1)

pub calls_for : (d : Draft) → 0 < d.lanes → (f : Form) (vs : List Value) → part f ≡ parts.Call → fits (row f) vs ≡ true
    → check_values d 0 (row f) vs ≡ None
    → check_kind d f (row f) vs ≡ None
    → (c : LaneCall) × Calls d f vs c
unfolding call_of on_timer_of timer_call_of plain_call_of object_call_of check_values check_number check_kind
calls_for d some forms.Start
    (values.Number k ∷ values.Number i ∷ values.Mode modes.Rel ∷ values.Number n ∷ values.Number b ∷ []) is fit e kind =
    timer_call d forms.Start _ _ k i _ (calls.Start i (record { mode = modes.Rel; ns = n; slack = None; base = b })) refl refl refl
    (λ none suit. (suit, ltb-true b d.bases (holds _ _ (neither _ _ none).0), tt)) e kind
calls_for d some forms.Start
    (values.Number k ∷ values.Number i ∷ values.Mode modes.Abs ∷ values.Number n ∷ values.Number b ∷ []) is fit e kind =
    timer_call d forms.Start _ _ k i _ (calls.Start i (record { mode = modes.Abs; ns = n; slack = None; base = b })) refl refl refl
    (λ none suit. (suit, ltb-true b d.bases (holds _ _ (neither _ _ none).0), tt)) e kind
calls_for d some forms.StartRange
    (values.Number k ∷ values.Number i ∷ values.Mode modes.Rel ∷ values.Number n ∷ values.Number s ∷ values.Number b ∷ []) is fit e kind =
    timer_call d forms.StartRange _ _ k i _ (calls.Start i (record { mode = modes.Rel; ns = n; slack = Some s; base = b })) refl refl refl
    (λ none suit. (as_start d.timers i suit, ltb-true b d.bases (holds _ _ (neither _ _ none).0), tt)) e kind
calls_for d some forms.StartRange
    (values.Number k ∷ values.Number i ∷ values.Mode modes.Abs ∷ values.Number n ∷ values.Number s ∷ values.Number b ∷ []) is fit e kind =
    timer_call d forms.StartRange _ _ k i _ (calls.Start i (record { mode = modes.Abs; ns = n; slack = Some s; base = b })) refl refl refl
    (λ none suit. (as_start d.timers i suit, ltb-true b d.bases (holds _ _ (neither _ _ none).0), tt)) e kind
calls_for d some forms.Expire (values.Number k ∷ values.Number b ∷ values.Number n ∷ []) is fit e kind =
    expire_call d forms.Expire _ k b n contexts.Hard refl refl refl e
calls_for d some forms.SoftExpire (values.Number k ∷ values.Number b ∷ values.Number n ∷ []) is fit e kind =
    expire_call d forms.SoftExpire _ k b n contexts.Soft refl refl refl e
calls_for d some forms.Advance (values.Number k ∷ values.Number n ∷ []) is fit e kind = clock_call d forms.Advance _ k n
    (writes.Advance n) refl refl refl e
calls_for d some forms.Set (values.Number k ∷ values.Number n ∷ []) is fit e kind =
    clock_call d forms.Set _ k n (writes.Set n) refl refl refl e
calls_for d some forms.Suspend (values.Number k ∷ values.Number n ∷ []) is fit e kind = clock_call d forms.Suspend _ k n
    (writes.Suspend n) refl refl refl e
calls_for d some forms.Settime
    (values.Number k ∷ values.Number i ∷ values.Number f ∷ values.Number vs ∷ values.Number vn ∷ values.Number is ∷ values.Number in_ ∷
    []) call fit e kind =
    timer_call d forms.Settime _ _ k i _ (calls.Settime i f (record { sec = vs; nsec = vn }) (record { sec = is; nsec = in_ })) refl refl refl
    (λ none suit. suit) e kind
calls_for d some forms.Read (values.Number k ∷ values.Number i ∷ values.Number n ∷ []) is fit e kind =
    timer_call d forms.Read _ _ k i _ (calls.Read i n) refl refl refl (λ none suit. suit) e kind
calls_for d some forms.Sleep (values.Number k ∷ values.Number i ∷ values.Number f ∷ values.Number s ∷ values.Number n ∷ []) is fit e kind =
    timer_call d forms.Sleep _ _ k i _ (calls.Sleep i f (record { sec = s; nsec = n })) refl refl refl (λ none suit. suit) e kind
calls_for d some forms.Sigwait (values.Number k ∷ []) is fit e kind = (
  record { lane = k; call = calls.Sigwait },
  record { means = refl; line = refl; lane = ltb-true k d.lanes (holds _ _ (neither _ _ e).0); range = tt },
)
calls_for d some forms.Offline (values.Number k ∷ values.Number b ∷ values.Number h ∷ values.Number n ∷ []) is fit e kind =
    (record { lane = k; call = calls.Offline b h n }, offline_call d some k b h n e)
calls_for d some forms.Online (values.Number k ∷ values.Number b ∷ []) is fit e kind =
    (record { lane = k; call = calls.Online b }, online_call d some k b e)
-- other values don't fill these rows, and the other forms are of no call
calls_for d some forms.Start vs is fit e kind = absurd cc
calls_for d some forms.StartRange vs is fit e kind = absurd cc
calls_for d some forms.Expire vs is fit e kind = absurd cc
calls_for d some forms.SoftExpire vs is fit e kind = absurd cc
calls_for d some forms.Advance vs is fit e kind = absurd cc
calls_for d some forms.Set vs is fit e kind = absurd cc
calls_for d some forms.Suspend vs is fit e kind = absurd cc
calls_for d some forms.Settime vs is fit e kind = absurd cc
calls_for d some forms.Read vs is fit e kind = absurd cc
calls_for d some forms.Sleep vs is fit e kind = absurd cc
calls_for d some forms.Sigwait vs is fit e kind = absurd cc
calls_for d some forms.Offline vs is fit e kind = absurd cc
calls_for d some forms.Online vs is fit e kind = absurd cc
calls_for d some forms.Version vs is fit e kind = absurd cc
calls_for d some forms.Bases vs is fit e kind = absurd cc
calls_for d some forms.Lanes vs is fit e kind = absurd cc
calls_for d some forms.Limit vs is fit e kind = absurd cc
calls_for d some forms.RawOnce vs is fit e kind = absurd cc
calls_for d some forms.RawEvery vs is fit e kind = absurd cc
calls_for d some forms.RawCancels vs is fit e kind = absurd cc
calls_for d some forms.RawStarts vs is fit e kind = absurd cc
calls_for d some forms.SoftOnce vs is fit e kind = absurd cc
calls_for d some forms.SoftEvery vs is fit e kind = absurd cc
calls_for d some forms.Posix vs is fit e kind = absurd cc
calls_for d some forms.Fd vs is fit e kind = absurd cc
calls_for d some forms.Queued vs is fit e kind = absurd cc
calls_for d some forms.Sleeper vs is fit e kind = absurd cc
calls_for d some forms.Round vs is fit e kind = absurd cc
calls_for d some f (values.Number k ∷ values.Number i ∷ []) is fit e kind = timer_call d f _ _ k i _ _ refl refl refl (λ none suit. suit) e kind
calls_for d some _ _ is fit e kind = absurd cc

start_again : (d : Draft) (lane timer : ℕ) (mode : Mode) (ns base : ℕ) (slack : Option ℕ) → lane < d.lanes
    → HasTimerFor d.timers timer forms.Start × (base < d.bases) × IsGivenMode mode
    → IsCallOf d (asking_line lane timer mode ns base slack).form (asking_line lane timer mode ns base slack).values
    (record { lane = lane; call = calls.Start timer (record { mode = mode; ns = ns; slack = slack; base = base }) })
unfolding call_of on_timer_of timer_call_of plain_call_of object_call_of check_values check_number check_kind
start_again d lane timer mode ns base None own range =
    timer_call_again d forms.Start _ _ lane timer _ (calls.Start timer (record { mode = mode; ns = ns; slack = None; base = base })) refl refl
    refl own range.0 (rw (lt-ltb base d.bases range.1) refl)
start_again d lane timer mode ns base (Some slack) own range =
    timer_call_again d forms.StartRange _ _ lane timer _
    (calls.Start timer (record { mode = mode; ns = ns; slack = Some slack; base = base })) refl refl
    refl own (as_range d.timers timer range.0) (rw (lt-ltb base d.bases range.1) refl)

pub call_again : (d : Draft) (lane : ℕ) (call : Call) → lane < d.lanes → IsCallInRange lane d.bases d.timers call
    → IsCallOf d (call_line lane call).form (call_line lane call).values (record { lane = lane; call = call })
unfolding call_of on_timer_of timer_call_of plain_call_of object_call_of check_values check_number check_kind
call_again d lane (calls.Start timer request) own range = start_again d lane timer request.mode request.ns request.base request.slack own range
call_again d lane (calls.Expire contexts.Hard base budget) own range = record {
  means = refl;
  part = refl;
  values = rw (lt-ltb lane d.lanes own, lt-ltb base d.bases range.0, le-leb budget most_budget range.1) refl;
  kind = refl;
}
call_again d lane (calls.Expire contexts.Soft base budget) own range = record {
  means = refl;
  part = refl;
  values = rw (lt-ltb lane d.lanes own, lt-ltb base d.bases range.0, le-leb budget most_budget range.1) refl;
  kind = refl;
}
call_again d lane (calls.Offline base heir budget) own range = record {
  means = refl;
  part = refl;
  values =
      rw (eq-eqb lane 0 range.0, lt-ltb base d.bases range.1, lt-ltb heir base range.2, le-leb budget most_budget range.3) refl;
  kind = refl;
}
call_again d lane (calls.Online base) own range =
    record { means = refl; part = refl; values = rw (eq-eqb lane 0 range.0, lt-ltb base d.bases range.1) refl; kind = refl }
call_again d lane calls.Sigwait own range =
    record { means = refl; part = refl; values = rw (lt-ltb lane d.lanes own) refl; kind = refl }
call_again d lane (calls.Clock (writes.Advance by)) own range =
    record { means = refl; part = refl; values = rw (lt-ltb lane d.lanes own) refl; kind = refl }
call_again d lane (calls.Clock (writes.Set to)) own range =
    record { means = refl; part = refl; values = rw (lt-ltb lane d.lanes own) refl; kind = refl }
call_again d lane (calls.Clock (writes.Suspend by)) own range =
    record { means = refl; part = refl; values = rw (lt-ltb lane d.lanes own) refl; kind = refl }
call_again d lane call own range = timer_call_again d (call_line lane call).form _ _ lane _ _ call refl refl refl own range refl
