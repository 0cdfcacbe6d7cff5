-- Small facts on what is known, by cases on it.
use Rattle.std.proofs.Common.{◌≡◌, ◌≢◌, ◌<◌, ◌≤◌, ℕ, Bool, true, false, not, ◌&&◌, if◌then◌else◌, Option, Some, None, List, [], ◌∷◌, refl, sym, ap, subst, ◌∙◌, inl, inr, arith, nat_lt, nat_eq}
use Rattle.std.specs.Prelude.{IfSome}
use Rattle.std.specs.List.{AllByRecursion, list_any}
use Rattle.std.proofs.lemmas.Bool.{and_from, and_parts, both_ways, cases_eq, eq-eqb, eqb-true, false_from_ne_true, le-ltb, lt-ltb, ltb-true, not-false, not-true, not_from_false, or_parts, true_from_ne_false}
use Rattle.ktime.specs.declared.clock_id.ClockId.{ClockId}
use Rattle.seq_timer.specs.declared.context.Context.{Context}
use Rattle.seq_timer.specs.declared.context.Context.TheVariants as contexts
use Rattle.seq_timer.specs.Systems.{updated}
use Rattle.seq_timer.specs.Tables.{is_context, rank}
use Rattle.seq_timer.proofs.Contents.{is_context-same, same_context}
use Rattle.seq_timer.proofs.Systems.{updated_here, updated_else}
use Rattle.trace_check.specs.declared.misfit.Misfit.{Misfit}
use Rattle.trace_check.specs.declared.known.ArmedKnown.{ArmedKnown}
use Rattle.trace_check.specs.declared.known.ArmedKnown.TheVariants as arms
use Rattle.trace_check.specs.declared.known.OrderedExpiry.{OrderedExpiry}
use Rattle.trace_check.specs.declared.known.FunctionKnown.{FunctionKnown}
use Rattle.trace_check.specs.declared.known.FunctionKnown.TheVariants as functions
use Rattle.trace_check.specs.declared.known.HalfKnown.TheVariants as halves
use Rattle.trace_check.specs.declared.known.KnownProcessor.{KnownProcessor}
use Rattle.trace_check.specs.declared.known.KnownTimer.{KnownTimer}
use Rattle.trace_check.specs.Knowledge.{claim_by, first_that_holds, has_running, is_armed, is_other_context, is_other_processor, is_unarmed, passes, soft_of, with_claim}
use Rattle.trace_check.specs.Traced.{context_at, is_ahead}
use Rattle.trace_check.proofs.Plain.{IsHidden, Plain, PlainTimers, Spared}
use Rattle.trace_check.proofs.Agreement.{AgreesAt, AreAlone, ArmedAs, HasTurnBefore, RunsAs, half_of}

-- ---- tests

abbrev pub AllFail : List (Bool × Misfit) → Type 0
AllFail tests = AllByRecursion (λ p. p.0 ≡ false) tests

-- where all tests fail, there is no cause
pub no_cause : (tests : List (Bool × Misfit)) → AllFail tests → first_that_holds tests ≡ None
no_cause [] all = refl
no_cause (p ∷ ps) all = rw all.0 (no_cause ps all.1)

-- and the other way
one_fails : (b : Bool) (cause : Misfit) (other : Option Misfit) → (if b then Some cause else other) ≡ None → (b ≡ false) × (other ≡ None)
one_fails true cause other none = absurd cc
one_fails false cause other none = (refl, none)

pub all_fail : (tests : List (Bool × Misfit)) → first_that_holds tests ≡ None → AllFail tests
all_fail [] none = tt
all_fail (p ∷ ps) none = let parts = one_fails p.0 p.1 (first_that_holds ps) none in (parts.0, all_fail ps parts.1)

-- ---- what a timer that is so is known to be

pub not_unarmed : (a : ArmedKnown) (p : Plain) → ArmedAs a p → p.armed ≡ true → is_unarmed a ≡ false
not_unarmed arms.Untold p h e = refl
not_unarmed arms.No p h e = absurd (both_ways p.armed h e)
not_unarmed (arms.Until soft expires) p h e = refl

pub not_armed : (a : ArmedKnown) (p : Plain) → ArmedAs a p → p.armed ≡ false → is_armed a ≡ false
not_armed arms.Untold p h e = refl
not_armed arms.No p h e = refl
not_armed (arms.Until soft expires) p h e = absurd (both_ways p.armed e h.0)

pub not_runs : (f : FunctionKnown) (p : Plain) → RunsAs f p → p.running ≡ false → has_running f ≡ false
not_runs functions.Untold p h e = refl
not_runs functions.Rests p h e = refl
not_runs (functions.Runs processor) p h e = absurd (both_ways p.running e h.0)

pub not_early : (a : ArmedKnown) (p : Plain) (now : ℕ) → ArmedAs a p → p.soft ≤ now → nat_lt now (soft_of a) ≡ false
not_early arms.Untold p now h reached = le-ltb now 0 (omega arith)
not_early arms.No p now h reached = le-ltb now 0 (omega arith)
not_early (arms.Until soft expires) p now h reached = le-ltb now soft (omega (arith, reached, h.1))

pub not_elsewhere : (home : Option ℕ) (p : Plain) (processor : ℕ) → IfSome home (λ b. p.armed ≡ true → p.base ≡ b) → p.armed ≡ true
    → p.base ≡ processor → is_other_processor processor home ≡ false
not_elsewhere None p processor h armed at = refl
not_elsewhere (Some b) p processor h armed at = ap not (eq-eqb b processor (sym (h armed) ∙ at))

pub not_other : (flags known : Option Context) (y : Context) → IfSome flags (λ x. y ≡ x) → IfSome known (λ x. y ≡ x) → is_other_context flags known ≡ false
not_other None known y told is = refl
not_other (Some c) None y told is = refl
not_other (Some c) (Some d) y told is = ap not (subst (λ z. is_context z c ≡ true) (sym told ∙ is) (is_context-same c))

pub same_some : {A : Type 0} {x y : A} → Some x ≡ Some y → x ≡ y
same_some e = cc

-- ---- what is known of a context

abbrev pub IsAs : Option Context → Context → Type 0
IsAs known y = IfSome known (λ x. y ≡ x)

pub flags_as : (flags told : Option Context) (y : Context) → IsAs (context_at flags told) y → IsAs flags y
flags_as None told y is = tt
flags_as (Some x) told y is = is

pub line_as : (flags known : Option Context) (y : Context) → IsAs flags y → IsAs known y → IsAs (context_at flags known) y
line_as None known y told is = is
line_as (Some x) known y told is = told

pub is_as : (known : Option Context) (x y : Context) → IsAs known y → known ≡ Some x → y ≡ x
is_as None x y is same = absurd cc
is_as (Some z) x y is same = is ∙ same_some same

-- what lines have told of a timer is known of it
abbrev pub IsKnown : Option Context → Option Context → Type 0
IsKnown told known = IfSome told (λ x. known ≡ Some x)

pub known_as : (told known : Option Context) (y : Context) → IsKnown told known → IsAs known y → IsAs told y
known_as None known y sound is = tt
known_as (Some x) known y sound is = is_as known x y is sound

pub line_known : (flags told known : Option Context) → is_other_context flags known ≡ false → IsKnown told known
    → IsKnown (context_at flags told) (context_at flags known)
line_known None told known same sound = sound
line_known (Some x) told known same sound = refl

pub known_kept : (flags known : Option Context) → is_other_context flags known ≡ false → IsKnown known (context_at flags known)
known_kept None None same = tt
known_kept None (Some y) same = refl
known_kept (Some x) None same = tt
known_kept (Some x) (Some y) same = ap Some (sym (same_context y x (not-false (is_context y x) same)))

-- what is known of a timer whose function begins, inside another one or not
abbrev pub inside_or : Bool → Option Context → Option Context
inside_or inside known = if inside then Some contexts.Hard else known

pub entered_as : (inside : Bool) (known : Option Context) (y : Context) → (inside ≡ true → y ≡ contexts.Hard) → IsAs known y → IsAs (inside_or inside known) y
entered_as true known y hard is = hard refl
entered_as false known y hard is = is

pub before_entered : (inside : Bool) (known : Option Context) (y : Context) → (inside ≡ true → known ≡ Some contexts.Soft → ⊥) → IsAs (inside_or inside known) y
    → IsAs known y
before_entered true None y hard is = tt
before_entered true (Some contexts.Hard) y hard is = is
before_entered true (Some contexts.Soft) y hard is = absurd (hard refl refl)
before_entered false known y hard is = is

pub told_entered : (inside : Bool) (told known : Option Context) → (inside ≡ true → known ≡ Some contexts.Soft → ⊥) → IsKnown told known
    → IsKnown told (inside_or inside known)
told_entered inside None known hard is = tt
told_entered true (Some contexts.Hard) known hard is = refl
told_entered true (Some contexts.Soft) known hard is = absurd (hard refl is)
told_entered false (Some x) known hard is = is

-- the context that is left for a function
pub left_as : (known left : Option Context) (y : Context) → IsAs known y → IsAs left y → IsAs (context_at known left) y
left_as None left y is rest = rest
left_as (Some x) left y is rest = is

pub before_left : (known left : Option Context) (y : Context) → IsAs (context_at known left) y → IsAs known y
before_left None left y is = tt
before_left (Some x) left y is = is

pub told_left : (told known left : Option Context) → IsKnown told known → IsKnown told (context_at known left)
told_left None known left is = tt
told_left (Some x) None left is = absurd cc
told_left (Some x) (Some y) left is = is

-- ---- and the other way

pub home_same : (home : Option ℕ) (processor : ℕ) (base : ℕ) → is_other_processor processor home ≡ false → base ≡ processor
    → IfSome home (λ b. base ≡ b)
home_same None processor base same at = tt
home_same (Some b) processor base same at = at ∙ sym (eqb-true b processor (not-false (nat_eq b processor) same))

-- ---- the order of a queue

-- an earlier expiry passes a claim of this timer where it hadn't its turn before it
pub passes-false : (q claim : OrderedExpiry) (p : Plain) (m : ℕ) → claim.processor ≡ p.base → claim.context ≡ p.context → rank claim.clock ≡ rank p.clock
    → claim.expires ≡ p.expires → claim.order ≡ m → HasTurnBefore q p m → passes q claim ≡ false
passes-false q claim p m at context clock expires order turn = false_from_ne_true _ (λ is.
    let queue_and_late = and_parts _ (nat_lt claim.order q.at && not (is_ahead q.expires q.order claim.expires claim.order)) is in
    let late = and_parts (nat_lt claim.order q.at) (not (is_ahead q.expires q.order claim.expires claim.order)) queue_and_late.1 in
    let two = and_parts _ (nat_eq (rank q.clock) (rank claim.clock)) queue_and_late.0 in
    let one = and_parts (nat_eq q.processor claim.processor) (is_context q.context claim.context) two.0 in
    let before : is_ahead q.expires q.order p.expires m ≡ true =
    turn (eqb-true _ _ one.0 ∙ at) (same_context _ _ one.1 ∙ context) (eqb-true _ _ two.1 ∙ clock) (subst (λ o. o < q.at) order (ltb-true _ _ late.0)) in
    both_ways (is_ahead q.expires q.order claim.expires claim.order) (not-true _ late.1)
    (subst (λ e. is_ahead q.expires q.order e claim.order ≡ true) (sym expires) (subst (λ o. is_ahead q.expires q.order p.expires o ≡ true) (sym order) before)))

pub turn_from-passes : (q claim : OrderedExpiry) (p : Plain) (m : ℕ) → claim.processor ≡ p.base → claim.context ≡ p.context → rank claim.clock ≡ rank p.clock
    → claim.expires ≡ p.expires → claim.order ≡ m → passes q claim ≡ false → HasTurnBefore q p m
turn_from-passes q claim p m at context clock expires order fails_ = λ same_at same_context' same_clock waited. true_from_ne_false _ (λ not_before.
    let here : nat_eq q.processor claim.processor ≡ true = eq-eqb _ _ (same_at ∙ sym at) in
    let within : is_context q.context claim.context ≡ true =
    subst (λ x. is_context q.context x ≡ true) (same_context' ∙ sym context) (is_context-same q.context) in
    let on : nat_eq (rank q.clock) (rank claim.clock) ≡ true = eq-eqb _ _ (same_clock ∙ sym clock) in
    let since : nat_lt claim.order q.at ≡ true = lt-ltb _ _ (subst (λ o. o < q.at) (sym order) waited) in
    let late : is_ahead q.expires q.order claim.expires claim.order ≡ false =
    subst (λ e. is_ahead q.expires q.order e claim.order ≡ false) (sym expires) (subst (λ o. is_ahead q.expires q.order p.expires o ≡ false) (sym order) not_before) in
    both_ways _ fails_ (and_from _ _ (and_from _ _ (and_from _ _ here within) on) (and_from _ _ since (not_from_false _ late))))

pub none_passes : (claims : List OrderedExpiry) (claim : OrderedExpiry) (p : Plain) (m : ℕ) → claim.processor ≡ p.base → claim.context ≡ p.context
    → rank claim.clock ≡ rank p.clock → claim.expires ≡ p.expires → claim.order ≡ m → AllByRecursion (λ q. HasTurnBefore q p m) claims
    → list_any (λ q. passes q claim) claims ≡ false
none_passes [] claim p m at context clock expires order all = refl
none_passes (q ∷ qs) claim p m at context clock expires order all =
    rw (passes-false q claim p m at context clock expires order all.0) (none_passes qs claim p m at context clock expires order all.1)

pub turns_from-none : (claims : List OrderedExpiry) (claim : OrderedExpiry) (p : Plain) (m : ℕ) → claim.processor ≡ p.base → claim.context ≡ p.context
    → rank claim.clock ≡ rank p.clock → claim.expires ≡ p.expires → claim.order ≡ m → list_any (λ q. passes q claim) claims ≡ false
    → AllByRecursion (λ q. HasTurnBefore q p m) claims
turns_from-none [] claim p m at context clock expires order none = tt
turns_from-none (q ∷ qs) claim p m at context clock expires order none =
    let parts = or_parts (passes q claim) (list_any (λ q. passes q claim) qs) none in
    (turn_from-passes q claim p m at context clock expires order parts.0, turns_from-none qs claim p m at context clock expires order parts.1)

-- what an expiry that takes part adds
pub waits_with : (n processor : ℕ) (x : Option Context) (a : ArmedKnown) (c : Option ClockId) (o : Option ℕ) (claims : List OrderedExpiry)
    (P : OrderedExpiry → Type 0) → AllByRecursion P claims
    → ((y : Context) (soft expires j : ℕ) (clock : ClockId) → x ≡ Some y → a ≡ arms.Until soft expires → c ≡ Some clock → o ≡ Some j
    → P (record { processor = processor; context = y; clock = clock; expires = expires; order = j; at = n }))
    → AllByRecursion P (with_claim (claim_by n processor x a c o) claims)
waits_with n processor (Some y) (arms.Until soft expires) (Some clock) (Some j) claims P all one = (one y soft expires j clock refl refl refl refl, all)
waits_with n processor (Some y) (arms.Until soft expires) (Some clock) None claims P all one = all
waits_with n processor (Some y) (arms.Until soft expires) None o claims P all one = all
waits_with n processor (Some y) arms.Untold c o claims P all one = all
waits_with n processor (Some y) arms.No c o claims P all one = all
waits_with n processor None a c o claims P all one = all

-- what it had before
pub waits_without : (n processor : ℕ) (x : Option Context) (a : ArmedKnown) (c : Option ClockId) (o : Option ℕ) (claims : List OrderedExpiry)
    (P : OrderedExpiry → Type 0) → AllByRecursion P (with_claim (claim_by n processor x a c o) claims) → AllByRecursion P claims
waits_without n processor (Some y) (arms.Until soft expires) (Some clock) (Some j) claims P all = all.1
waits_without n processor (Some y) (arms.Until soft expires) (Some clock) None claims P all = all
waits_without n processor (Some y) (arms.Until soft expires) None o claims P all = all
waits_without n processor (Some y) arms.Untold c o claims P all = all
waits_without n processor (Some y) arms.No c o claims P all = all
waits_without n processor None a c o claims P all = all

-- ---- one timer changes

pub each_but : (there : ℕ → KnownProcessor) (claims : List OrderedExpiry) (f : ℕ → KnownTimer) (t : ℕ) (known : KnownTimer) (w w' : PlainTimers) → Spared t w w'
    → AgreesAt there claims known (w' t) → ((u : ℕ) → u ≢ t → AgreesAt there claims (f u) (w u))
    → (u : ℕ) → AgreesAt there claims (updated f t known u) (w' u)
each_but there claims f t known w w' spared here others u =
    elim (cases_eq u t) [
      | inl same ↦ subst (λ v. AgreesAt there claims (updated f t known v) (w' v)) (sym same)
          (subst (λ k. AgreesAt there claims k (w' t)) (sym (updated_here f t known)) here)
      | inr other ↦ subst (λ k. AgreesAt there claims k (w' u)) (sym (updated_else f t u known other))
          (subst (λ p. AgreesAt there claims (f u) p) (sym (spared u other)) (others u other))
    ]

-- nothing else is said of a timer, but of its context, of the half where its function runs and of the expiries before it
pub elsewhere : (there there' : ℕ → KnownProcessor) (claims claims' : List OrderedExpiry) (known : KnownTimer) (p : Plain) → AgreesAt there claims known p
    → (p.running ≡ true → p.shown ≡ false → half_of (there' p.base) p.context ≡ halves.Untold)
    → ((m : ℕ) → p.order ≡ Some m → p.tells ≡ true → AllByRecursion (λ q. HasTurnBefore q p m) claims') → AgreesAt there' claims' known p
elsewhere there there' claims claims' known p a hidden waits = record {
  armed = a.armed;
  function = a.function;
  home = a.home;
  clock = a.clock;
  clocked = a.clocked;
  context = a.context;
  told = a.told;
  order = a.order;
  hidden = hidden;
  waits = waits;
}

pub with_context : (there : ℕ → KnownProcessor) (claims : List OrderedExpiry) (known : KnownTimer) (x : Option Context) (p : Plain)
    → AgreesAt there claims known p
    → IsAs x p.context → AgreesAt there claims (record known { context = x }) p
with_context there claims known x p a is = record {
  armed = a.armed;
  function = a.function;
  home = a.home;
  clock = a.clock;
  clocked = a.clocked;
  context = is;
  told = a.told;
  order = a.order;
  hidden = a.hidden;
  waits = a.waits;
}

-- whose function runs since the recording began, has run there before
abbrev pub Moves : Plain → Plain → Type 0
Moves old new = (c : ℕ) → IsHidden c new → IsHidden c old

pub moves_all : (t : ℕ) (w w' : PlainTimers) → Spared t w w' → Moves (w t) (w' t) → (u : ℕ) → Moves (w u) (w' u)
moves_all t w w' spared here u =
    elim (cases_eq u t) [
      | inl same ↦ subst (λ v. Moves (w v) (w' v)) (sym same) here
      | inr other ↦ subst (λ p. Moves (w u) p) (sym (spared u other)) (λ c hidden. hidden)
    ]

pub alone_still : (there : ℕ → KnownProcessor) (t : ℕ) (w w' : PlainTimers) → Spared t w w' → Moves (w t) (w' t) → AreAlone there w → AreAlone there w'
alone_still there t w w' spared here alone c u v told run_u run_v =
    alone c u v told (moves_all t w w' spared here u c run_u) (moves_all t w w' spared here v c run_v)

pub not_hidden : (old new : Plain) → new.running ≡ false → Moves old new
not_hidden old new still c hidden = absurd (both_ways new.running still hidden.runs.running)
