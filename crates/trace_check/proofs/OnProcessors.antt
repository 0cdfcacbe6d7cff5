-- Small facts on what is known of a processor, by cases on it.
use Rattle.std.proofs.Common.{◌≡◌, ℕ, Bool, true, false, ◌&&◌, ◌||◌, ◌⊎◌, if◌then◌else◌, Option, Some, None, refl, sym, ap, ◌∙◌, inl, inr}
use Rattle.std.specs.Prelude.{is_some}
use Rattle.std.specs.Option.{option_or}
use Rattle.std.proofs.lemmas.Bool.{and_parts, both_ways}
use Rattle.seq_timer.specs.declared.context.Context.{Context}
use Rattle.seq_timer.specs.declared.context.Context.TheVariants as contexts
use Rattle.seq_timer.proofs.Contents.{is_context-same, same_context}
use Rattle.trace_check.specs.declared.known.FunctionKnown.{FunctionKnown}
use Rattle.trace_check.specs.declared.known.FunctionKnown.TheVariants as functions
use Rattle.trace_check.specs.declared.known.HalfKnown.{HalfKnown}
use Rattle.trace_check.specs.declared.known.HalfKnown.TheVariants as halves
use Rattle.trace_check.specs.declared.known.KnownProcessor.{KnownProcessor}
use Rattle.trace_check.specs.Knowledge.{begun, blocker, closed, closed_in, context_left, entered_there, is_inside, is_known, is_taken, is_untold, left_for, may_be_left, runner, vacated}
use Rattle.trace_check.specs.Traced.{context_at}
use Rattle.trace_check.proofs.Agreement.{half_of, is_open}
use Rattle.trace_check.proofs.Parts.{IsAs}

-- ---- processors

runner-none : (h : HalfKnown) → ((t : ℕ) → h ≡ halves.Taken t → ⊥) → runner h ≡ None
runner-none halves.Untold not_taken = refl
runner-none halves.Free not_taken = refl
runner-none (halves.Taken t) not_taken = absurd (not_taken t refl)

none_from : {A : Type 0} (o : Option A) → ((x : A) → o ≡ Some x → ⊥) → o ≡ None
none_from None not_some = refl
none_from (Some x) not_some = absurd (not_some x refl)

no_runner : (h : HalfKnown) (t : ℕ) → runner h ≡ None → h ≡ halves.Taken t → ⊥
no_runner halves.Untold t none is = absurd cc
no_runner halves.Free t none is = absurd cc
no_runner (halves.Taken u) t none is = absurd cc

pub none_some : {A : Type 0} {o : Option A} {x : A} → o ≡ None → o ≡ Some x → ⊥
none_some a b = absurd cc

none_of : {A : Type 0} (o : Option A) → is_some o ≡ false → o ≡ None
none_of None is = refl
none_of (Some x) is = absurd cc

or_none : {A : Type 0} (a b : Option A) → option_or a b ≡ None → (a ≡ None) × (b ≡ None)
or_none None b is = (refl, is)
or_none (Some x) b is = absurd cc

none_if : (b : Bool) (o : Option ℕ) → (if b then o else None) ≡ None → b ≡ true → o ≡ None
none_if true o none is = none
none_if false o none is = absurd cc

if_none : (b : Bool) (o : Option ℕ) → (b ≡ true → o ≡ None) → (if b then o else None) ≡ None
if_none true o none = none refl
if_none false o none = refl

-- a context is known to be this one
pub known_is : (x : Context) (known : Option Context) → known ≡ Some x → is_known x known ≡ true
known_is x known is = rw is (is_context-same x)

is_from-known : (x : Context) (known : Option Context) → is_known x known ≡ true → known ≡ Some x
is_from-known x None is = absurd cc
is_from-known x (Some y) is = ap Some (same_context y x is)

-- nothing blocks a function that begins
pub record IsUnblocked (context outer : Option Context) (there : KnownProcessor) : Type 0 where
  pub hard : (t : ℕ) → there.hard ≡ halves.Taken t → ⊥
  pub around : (t : ℕ) → context ≡ Some contexts.Soft → there.soft ≡ halves.Taken t → ⊥
  pub loose : (t : ℕ) → context ≡ Some contexts.Soft → there.loose ≡ Some t → ⊥
  pub inside : (t : ℕ) → outer ≡ Some contexts.Hard → there.loose ≡ Some t → ⊥

pub blocker-none : (context outer : Option Context) (there : KnownProcessor) → IsUnblocked context outer there → is_some (blocker context outer there) ≡ false
blocker-none context outer there free =
    rw (
      runner-none there.hard free.hard,
      if_none (is_known contexts.Soft context) (option_or (runner there.soft) there.loose) (λ is.
          rw (runner-none there.soft (λ t. free.around t (is_from-known _ _ is))) (none_from there.loose (λ t. free.loose t (is_from-known _ _ is)))),
      if_none (is_known contexts.Hard outer) there.loose (λ is. none_from there.loose (λ t. free.inside t (is_from-known _ _ is))),
    ) refl

pub unblocked : (context outer : Option Context) (there : KnownProcessor) → is_some (blocker context outer there) ≡ false → IsUnblocked context outer there
unblocked context outer there none =
    let one = or_none (runner there.hard) _ (none_of _ none) in
    let two = or_none (if is_known contexts.Soft context then option_or (runner there.soft) there.loose else None) _ one.1 in
    let soft : context ≡ Some contexts.Soft → (runner there.soft ≡ None) × (there.loose ≡ None) = λ is.
    or_none (runner there.soft) there.loose (none_if (is_known contexts.Soft context) _ two.0 (known_is _ _ is)) in
    record {
      hard = λ t. no_runner there.hard t one.0;
      around = λ t is. no_runner there.soft t (soft is).0;
      loose = λ t is. none_some (soft is).1;
      inside = λ t is. none_some (none_if (is_known contexts.Hard outer) there.loose two.1 (known_is _ _ is));
    }

-- ---- what runs on a processor

pub hard_soft : {x : Context} → x ≡ contexts.Hard → x ≡ contexts.Soft → ⊥
hard_soft a b = absurd (differ (sym a ∙ b))
  where
    differ : contexts.Hard ≡ contexts.Soft → ⊥
    differ e = absurd cc

pub same_half : {c d : ℕ} {x y : Context} (there : ℕ → KnownProcessor) → c ≡ d → x ≡ y → half_of (there c) x ≡ half_of (there d) y
same_half there a b = rw (a, b) refl

taken_by : (h : HalfKnown) → is_taken h ≡ true → (t : ℕ) × (h ≡ halves.Taken t)
taken_by halves.Untold is = absurd cc
taken_by halves.Free is = absurd cc
taken_by (halves.Taken t) is = (t, refl)

some_by : (o : Option ℕ) → is_some o ≡ true → (t : ℕ) × (o ≡ Some t)
some_by None is = absurd cc
some_by (Some t) is = (t, refl)

or_by : (a b : Bool) → a || b ≡ true → (a ≡ true) ⊎ (b ≡ true)
or_by true b is = inl refl
or_by false b is = inr is

-- inside whose function another one begins
pub outer_of : (there : KnownProcessor) → is_inside there ≡ true → ((u : ℕ) × (there.soft ≡ halves.Taken u)) ⊎ ((u : ℕ) × (there.loose ≡ Some u))
outer_of there is = elim (or_by (is_taken there.soft) (is_some there.loose) is) [
  | inl soft ↦ inl (taken_by there.soft soft)
  | inr loose ↦ inr (some_by there.loose loose)
]

pub inside_soft : (there : KnownProcessor) (u : ℕ) → there.soft ≡ halves.Taken u → is_inside there ≡ true
inside_soft there u is = rw is refl

or_true : (b : Bool) → b || true ≡ true
or_true true = refl
or_true false = refl

pub inside_loose : (there : KnownProcessor) (u : ℕ) → there.loose ≡ Some u → is_inside there ≡ true
inside_loose there u is = rw is (or_true (is_taken there.soft))

-- a function that runs in the soft context since the recording began, runs on where one begins in the hard one
soft_by : (inside : Bool) (t : ℕ) (line : Option Context) (there : KnownProcessor) → there.soft ≡ halves.Untold → (inside ≡ true → ⊥)
    → (line ≡ Some contexts.Soft → ⊥)
    → (if inside then record { hard = halves.Taken t; soft = closed there.soft; loose = there.loose } else begun t line there).soft ≡ halves.Untold
soft_by true t line there is outside hard = absurd (outside refl)
soft_by false t None there is outside hard = is
soft_by false t (Some contexts.Hard) there is outside hard = is
soft_by false t (Some contexts.Soft) there is outside hard = absurd (hard refl)

pub soft_stays : (t : ℕ) (line : Option Context) (there : KnownProcessor) → there.soft ≡ halves.Untold → (is_inside there ≡ true → ⊥)
    → (line ≡ Some contexts.Soft → ⊥) → (entered_there t line there).soft ≡ halves.Untold
soft_stays t line there = soft_by (is_inside there) t line there

-- ---- a function that runs since the recording began

pub left_may : (line : Option Context) (there : KnownProcessor) (y : Context) → IsAs line y → half_of there y ≡ halves.Untold → may_be_left line there ≡ true
left_may None there contexts.Hard told is = rw is refl
left_may None there contexts.Soft told is = rw is (or_true (is_untold there.hard))
left_may (Some contexts.Hard) there contexts.Hard told is = rw is refl
left_may (Some contexts.Soft) there contexts.Soft told is = rw is refl
left_may (Some contexts.Hard) there contexts.Soft told is = absurd (hard_soft told refl)
left_may (Some contexts.Soft) there contexts.Hard told is = absurd (hard_soft refl told)

none_or : (b : Bool) (x : Context) → IsAs (if b then None else Some x) x
none_or true x = tt
none_or false x = refl

pub context_left-as : (there : KnownProcessor) (y : Context) → half_of there y ≡ halves.Untold → IsAs (context_left there.hard there.soft) y
context_left-as there contexts.Hard is = rw is (none_or (is_untold there.soft) contexts.Hard)
context_left-as there contexts.Soft is = rw is (none_or (is_untold there.hard) contexts.Soft)

open_left : (a b : Bool) {y : Context} → (if a then (if b then None else Some contexts.Hard) else Some contexts.Soft) ≡ Some y → a && b ≡ false
open_left true true is = absurd cc
open_left true false is = refl
open_left false b is = refl

pub left_some : (f : FunctionKnown) (there : KnownProcessor) (y : Context) → left_for f there ≡ Some y → (f ≡ functions.Untold) × (is_open there ≡ false)
left_some functions.Untold there y is = (refl, open_left (is_untold there.hard) (is_untold there.soft) is)
left_some functions.Rests there y is = absurd cc
left_some (functions.Runs c) there y is = absurd cc

pub closing_by : (line left : Option Context) (y : Context) → context_at line left ≡ Some y → (line ≡ Some y) ⊎ (left ≡ Some y)
closing_by None left y is = inr is
closing_by (Some x) left y is = inl is

pub stays_open : (closing : Option Context) (t : ℕ) (there : KnownProcessor) (y : Context) → half_of there y ≡ halves.Untold → (closing ≡ Some y → ⊥)
    → half_of (closed_in closing (vacated t there)) y ≡ halves.Untold
stays_open None t there contexts.Hard is other = rw is refl
stays_open None t there contexts.Soft is other = rw is refl
stays_open (Some contexts.Hard) t there contexts.Hard is other = absurd (other refl)
stays_open (Some contexts.Hard) t there contexts.Soft is other = rw is refl
stays_open (Some contexts.Soft) t there contexts.Hard is other = rw is refl
stays_open (Some contexts.Soft) t there contexts.Soft is other = absurd (other refl)

pub untold_half : (h : HalfKnown) → is_untold h ≡ true → h ≡ halves.Untold
untold_half halves.Untold is = refl
untold_half halves.Free is = absurd cc
untold_half (halves.Taken t) is = absurd cc

pub both_untold : (there : KnownProcessor) → is_open there ≡ true → (there.hard ≡ halves.Untold) × (there.soft ≡ halves.Untold)
both_untold there is = let both = and_parts _ (is_untold there.soft) is in (untold_half there.hard both.0, untold_half there.soft both.1)

-- a processor of which a line told first now
pub closes : (closing : Option Context) (t : ℕ) (there : KnownProcessor) → is_open there ≡ true → is_open (closed_in closing (vacated t there)) ≡ false
    → is_some closing ≡ true
closes None t there open_ closed_ =
    let both = both_untold there open_ in
    absurd (both_ways (is_open (vacated t there)) closed_ (rw (both.0, both.1) refl))
closes (Some x) t there open_ closed_ = refl

pub told_first : (line : Option Context) (f : FunctionKnown) (there : KnownProcessor) → is_open there ≡ true
    → is_some (context_at line (left_for f there)) ≡ true → is_some line ≡ true
told_first (Some x) f there open_ told = refl
told_first None functions.Untold there open_ told = let both = both_untold there open_ in absurd (not_some _ (rw (both.0, both.1) refl) told)
  where
    not_some : (o : Option Context) → o ≡ None → is_some o ≡ true → ⊥
    not_some None is some = absurd cc
    not_some (Some x) is some = absurd cc
told_first None functions.Rests there open_ told = absurd cc
told_first None (functions.Runs c) there open_ told = absurd cc
