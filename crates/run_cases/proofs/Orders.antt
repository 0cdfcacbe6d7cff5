-- What a record that fits has: a witness of its script, and, where calls in order made its entries, one order of them alone.
use Rattle.std.proofs.Common.{◌≡◌, ◌⊎◌, ◌&&◌, ◌<◌, ◌≤◌, ◌++◌, arith, not, length, get_or, ℕ, zero, suc, Bool, true, false, if◌then◌else◌, List, [], ◌∷◌, Some, map, refl, sym, ap, ◌∙◌, subst, inl, inr}
use Rattle.std.specs.List.{AllByRecursion, list_all, slice_get}
use Rattle.std.proofs.Math.Logic.{⊎_elim}
use Rattle.std.proofs.lemmas.Bool.{and_parts, cases_lt, cases_Bool, false≢true}
use Rattle.record_text.specs.declared.record.Label.{Label}
use Rattle.record_text.specs.declared.record.RunRecord.{RunRecord}
use Rattle.script_text.specs.declared.script.Script.{Script}
use Rattle.run_history.specs.Actions.{also}
use Rattle.run_history.specs.Order.{is_before, IsInOrder}
use Rattle.run_history.specs.Witnesses.{BasesList, CountersList, is_owner, line_of_object, line_of_signal, lines_at, Move, moves_from, moves_on, Owner, owner_of, TimersList, Trace, twice, witness_with}
use Rattle.run_history.specs.Fits.{Fits, FitsIn}
use Rattle.run_history.proofs.Owners.{other_owner, owner_is, owner_itself, same_owner}
use Rattle.run_history.specs.Signals.{SendsSignals, SignalLine}
use Rattle.run_history.specs.Objects.{lines_of_object}
use Rattle.script_text.specs.Declarations.{kind_of}
use Rattle.script_text.specs.declared.script.Declaration.{Declaration}
use Rattle.script_text.specs.declared.script.Kind.{Kind}
use Rattle.script_text.specs.declared.script.Kind.TheVariants as kinds
use Rattle.script_text.specs.declared.script.Callback.TheVariants as callbacks
use Rattle.seq_timer.specs.declared.context.Context.TheVariants as contexts
use Rattle.fit_laws.proofs.Signals.{none_queued}
use Rattle.run_cases.proofs.Witnesses.{Along, quiet, timers_moves}
use Rattle.run_cases.proofs.Small.{each_owner, is_list}
use Rattle.run_cases.proofs.Tests.{all_true}

-- ---- places

-- where a list's move stands in the order
pub found : (o : Owner) (k : ℕ) (ms : List Move) (m : Move) → slice_get (moves_on o ms) k ≡ Some m → (p : ℕ) × (slice_get ms p ≡ Some m)
found o k [] m at = absurd (cc)
found o k (x ∷ ms) m at =
    elim (is_owner (owner_of x.shown) o) as (λ b. slice_get (also b x (moves_on o ms)) k ≡ Some m → (p : ℕ) × (slice_get (x ∷ ms) p ≡ Some m)) [
      | true ↦ λ at. here k at (λ k at. found o k ms m at)
      | false ↦ λ at. let f = found o k ms m at in (suc f.0, f.1)
    ] at
  where
    here : (k : ℕ) → slice_get (x ∷ moves_on o ms) k ≡ Some m → ((k : ℕ) → slice_get (moves_on o ms) k ≡ Some m → (p : ℕ) × (slice_get ms p ≡ Some m))
        → (p : ℕ) × (slice_get (x ∷ ms) p ≡ Some m)
    here zero at further = (0, at)
    here (suc k) at further = let f = further k at in (suc f.0, f.1)

-- two lists are one or not
cases_owner : (a b : Owner) → (a ≡ b) ⊎ (a ≡ b → ⊥)
cases_owner a b = ⊎_elim (λ same. inl (same_owner a b same)) (λ differ. inr (other_owner a b differ)) (cases_Bool (is_owner a b))

owner_else : (a b : Owner) → (a ≡ b → ⊥) → is_owner a b ≡ false
owner_else a b differ = ⊎_elim (λ same. absurd (differ (same_owner a b same))) (λ not. not) (cases_Bool (is_owner a b))

-- ---- entries of calls that are over before the next begins have one order

-- of two of these moves, of different lists, the first one's call is over before the other's begins
abbrev pub are_apart : Script → List Move → Bool
are_apart s [] = true
are_apart s (n ∷ ns) = list_all (λ m. if is_owner (owner_of m.shown) (owner_of n.shown) then true else is_before s n.label m.label) ns && are_apart s ns

-- a fact of all moves is one of a list's first
first_on : (P : Move → Type 0) (o : Owner) (ms rest : List Move) (m : Move) → AllByRecursion P ms → moves_on o ms ≡ m ∷ rest → P m
first_on P o [] rest m all is = absurd (cc)
first_on P o (x ∷ ms) rest m all is = elim (is_owner (owner_of x.shown) o) as (λ b. also b x (moves_on o ms) ≡ m ∷ rest → P m) [
  | true ↦ λ is. let same : x ≡ m = cc in subst P same all.0
  | false ↦ λ is. first_on P o ms rest m all.1 is
] is

own_first : (m : Move) (ms : List Move) → moves_on (owner_of m.shown) (m ∷ ms) ≡ m ∷ moves_on (owner_of m.shown) ms
own_first m ms = ap (λ b. also b m (moves_on (owner_of m.shown) ms)) (owner_itself (owner_of m.shown))

of_labels : (P : Label → Type 0) (ms : List Move) → AllByRecursion P (map (λ m. m.label) ms) → AllByRecursion (λ m. P m.label) ms
of_labels P [] all = tt
of_labels P (m ∷ ms) all = (all.0, of_labels P ms all.1)

-- law: two orders of the same entries are one, where both are in order and one is of calls apart
pub one_order : (s : Script) (ms ns : List Move) → ((o : Owner) → moves_on o ms ≡ moves_on o ns) → IsInOrder s (map (λ m. m.label) ms)
    → are_apart s ns ≡ true → ms ≡ ns
one_order s [] [] same order apart = refl
one_order s [] (n ∷ ns) same order apart = absurd (let is = same (owner_of n.shown) ∙ own_first n ns in cc)
one_order s (m ∷ ms) [] same order apart = absurd (let is = sym (same (owner_of m.shown)) ∙ own_first m ms in cc)
one_order s (m ∷ ms) (n ∷ ns) same order apart =
    let parts = and_parts (list_all (λ x. if is_owner (owner_of x.shown) (owner_of n.shown) then true else is_before s n.label x.label) ns)
    (are_apart s ns) apart in
    ⊎_elim (λ one. equal one (λ same. one_order s ms ns same order.1 parts.1)) (λ differ. absurd (crossed differ parts.0)) (cases_owner (owner_of m.shown)
    (owner_of n.shown))
  where
    -- heads of one list are the same
    equal : owner_of m.shown ≡ owner_of n.shown → (((o : Owner) → moves_on o ms ≡ moves_on o ns) → ms ≡ ns) → m ∷ ms ≡ n ∷ ns
    equal one rest =
        let on : m ∷ moves_on (owner_of m.shown) ms ≡ n ∷ moves_on (owner_of m.shown) ns =
        sym (own_first m ms) ∙ same (owner_of m.shown) ∙ ap (λ b. also b n (moves_on (owner_of m.shown) ns)) (owner_is (owner_of n.shown) (owner_of m.shown)
        (sym one)) in
        let head : m ≡ n = cc in
        ap (λ x. x ∷ ms) head ∙ ap (λ xs. n ∷ xs) (rest (λ o. tails o head))
      where
        tails : (o : Owner) → m ≡ n → moves_on o ms ≡ moves_on o ns
        tails o head = less (is_owner (owner_of n.shown) o) (ap (λ (x : Move). also (is_owner (owner_of x.shown) o) x (moves_on o ms)) (sym head) ∙ same o)
          where
            less : (b : Bool) → also b n (moves_on o ms) ≡ also b n (moves_on o ns) → moves_on o ms ≡ moves_on o ns
            less true e = cc
            less false e = e

    -- heads of two lists are in no order
    crossed : (owner_of m.shown ≡ owner_of n.shown → ⊥) → list_all (λ x. if is_owner (owner_of x.shown)
        (owner_of n.shown) then true else is_before s n.label x.label) ns ≡ true → ⊥
    crossed differ test =
        let later : moves_on (owner_of n.shown) ms ≡ n ∷ moves_on (owner_of n.shown) ns =
        ap (λ b. also b m (moves_on (owner_of n.shown) ms)) (sym (owner_else (owner_of m.shown) (owner_of n.shown) differ)) ∙ same (owner_of n.shown)
        ∙ own_first n ns in
        let other : moves_on (owner_of m.shown) ns ≡ m ∷ moves_on (owner_of m.shown) ms =
        ap (λ b. also b n (moves_on (owner_of m.shown) ns)) (sym (owner_else (owner_of n.shown) (owner_of m.shown) (λ e. differ (sym e))))
        ∙ sym (same (owner_of m.shown)) ∙ own_first m ms in
        let not_before : is_before s n.label m.label ≡ false =
        first_on (λ x. is_before s x.label m.label ≡ false) (owner_of n.shown) ms (moves_on (owner_of n.shown) ns) n
        (of_labels (λ y. is_before s y m.label ≡ false) ms order.0) later in
        let before : (if is_owner (owner_of m.shown) (owner_of n.shown) then true else is_before s n.label m.label) ≡ true =
        first_on (λ x. (if is_owner (owner_of x.shown) (owner_of n.shown) then true else is_before s n.label x.label) ≡ true) (owner_of m.shown) ns
        (moves_on (owner_of m.shown) ms) m
        (all_true (λ x. (if is_owner (owner_of x.shown) (owner_of n.shown) then true else is_before s n.label x.label) ≡ true)
        (λ x. if is_owner (owner_of x.shown) (owner_of n.shown) then true else is_before s n.label x.label) (λ x e. e) ns test) other in
        false≢true (sym not_before ∙ subst (λ b. (if b then true else is_before s n.label m.label) ≡ true)
        (owner_else (owner_of m.shown) (owner_of n.shown) differ) before)

-- no timer of a script is queued
abbrev pub sends : Kind → Bool
sends (kinds.Queued base) = true
sends kind = false

abbrev pub are_silent : Script → Bool
are_silent s = list_all (λ d. not (sends d.kind)) s.timers

silent_passes : (s : Script) → are_silent s ≡ true → (t : ℕ) → SendsSignals (kind_of s t) → ⊥
silent_passes s e t = each (s.timers) e t
  where
    quiet_kind : (k : Kind) → not (sends k) ≡ true → SendsSignals k → ⊥
    quiet_kind (kinds.Queued base) e is = absurd (cc)
    quiet_kind k e is = is

    each : (ds : List Declaration) → list_all (λ d. not (sends d.kind)) ds ≡ true → (t : ℕ)
        → SendsSignals (get_or (map (λ (d : Declaration). d.kind) ds) t (kinds.Raw contexts.Hard callbacks.Once)) → ⊥
    each [] e t is = is
    each (d ∷ ds) e zero is = quiet_kind d.kind (and_parts (not (sends d.kind)) (list_all (λ d. not (sends d.kind)) ds) e).0 is
    each (d ∷ ds) e (suc t) is = each ds (and_parts (not (sends d.kind)) (list_all (λ d. not (sends d.kind)) ds) e).1 t is

-- the record of a script without queued timers whose entries have one order has a witness in that order
pub in_one_order_of : (s : Script) (r : RunRecord) (ns : List Move) → (are_silent s && list_all (λ m. is_list r 0 (owner_of m.shown)) ns) ≡ true
    → Along (λ t. moves_on (TimersList t) ns ≡ moves_from 0 (lines_at (quiet r) (TimersList t))) 0 r.timers
    → Along (λ b. moves_on (BasesList b) ns ≡ moves_from 0 (lines_at (quiet r) (BasesList b))) 0 r.bases
    → moves_on (CountersList 0) ns ≡ moves_from 0 (lines_at (quiet r) (CountersList 0))
    → Along (λ i. moves_on (CountersList (suc i)) ns ≡ moves_from 0 (lines_at (quiet r) (CountersList (suc i)))) 0 r.objects → are_apart s ns ≡ true
    → Fits s r → (signals : ℕ → List SignalLine) × (traces : Label → Trace) × FitsIn (witness_with s r ns signals traces)
in_one_order_of s r ns there all bases clock objects apart o =
    let parts = and_parts (are_silent s) (list_all (λ m. is_list r 0 (owner_of m.shown)) ns) there in
    let w = witness_with s r o.0 o.1 o.2 in
    let each = each_owner (quiet r) 0 ns parts.1 all bases clock objects (λ i past less. absurd (omega (arith, past, less))) (λ i far. refl) in
    let none : (i : ℕ) → o.1 (suc i) ≡ [] = λ i. ⊎_elim
    (λ (its : i < length s.timers). o.3.signals.others i its)
    (λ (past : length s.timers ≤ i). none_queued w o.3 (silent_passes s parts.0) (suc i) (omega (arith, past)))
    (cases_lt i (length s.timers)) in (
      o.1,
      o.2,
      subst (λ ms. FitsIn (witness_with s r ms o.1 o.2))
          (one_order s o.0 ns (λ x. o.3.history.all x ∙ lines none x ∙ sym (each x)) o.3.order apart) o.3,
    )
  where
    lines : ((i : ℕ) → o.1 (suc i) ≡ []) → (x : Owner) → moves_from 0 (lines_at (record { run = r; signals = o.1 }) x) ≡ moves_from 0 (lines_at (quiet r) x)
    lines none (TimersList t) = refl
    lines none (BasesList b) = refl
    lines none (CountersList zero) = refl
    lines none (CountersList (suc i)) =
        ap (λ ls. moves_from 0 (twice (map (line_of_object i) (lines_of_object r i)) ++ map (line_of_signal (suc i)) ls)) (none i)

-- the same, where all entries are timers', there is one base, and the clock isn't written
pub in_one_order : (s : Script) (r : RunRecord) (order : List ℕ)
    → (are_silent s && list_all (λ m. is_list r 0 (owner_of m.shown)) (timers_moves r order)) ≡ true
    → Along (λ t. moves_on (TimersList t) (timers_moves r order) ≡ moves_from 0 (lines_at (quiet r) (TimersList t))) 0 r.timers
    → are_apart s (timers_moves r order) ≡ true
    → Along (λ b. moves_on (BasesList b) (timers_moves r order) ≡ moves_from 0 (lines_at (quiet r) (BasesList b))) 0 r.bases
    → moves_on (CountersList 0) (timers_moves r order) ≡ moves_from 0 (lines_at (quiet r) (CountersList 0))
    → Along (λ i. moves_on (CountersList (suc i)) (timers_moves r order) ≡ moves_from 0 (lines_at (quiet r) (CountersList (suc i)))) 0 r.objects
    → Fits s r → (signals : ℕ → List SignalLine) × (traces : Label → Trace) × FitsIn (witness_with s r (timers_moves r order) signals traces)
in_one_order s r order there all apart bases clock objects fits = in_one_order_of s r (timers_moves r order) there all bases clock objects apart fits
