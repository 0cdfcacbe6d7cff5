-- Who is known to run in a processor's places, where something changes there.
use Rattle.std.proofs.Common.{◌≡◌, ◌≢◌, ℕ, Bool, true, false, not, if◌then◌else◌, Option, Some, None, refl, sym, ap, subst, ◌∙◌, inl, inr, nat_eq}
use Rattle.std.proofs.lemmas.Bool.{both_ways, cases_eq, eq-eqb, eqb-true, false_from_ne_true, not-false}
use Rattle.seq_timer.specs.declared.context.Context.{Context}
use Rattle.seq_timer.specs.Systems.{updated}
use Rattle.seq_timer.specs.declared.context.Context.TheVariants as contexts
use Rattle.seq_timer.proofs.Systems.{updated_here, updated_else}
use Rattle.trace_check.specs.declared.known.FunctionKnown.{FunctionKnown}
use Rattle.trace_check.specs.declared.known.FunctionKnown.TheVariants as functions
use Rattle.trace_check.specs.declared.known.HalfKnown.{HalfKnown}
use Rattle.trace_check.specs.declared.known.HalfKnown.TheVariants as halves
use Rattle.trace_check.specs.declared.known.KnownProcessor.{KnownProcessor}
use Rattle.trace_check.specs.declared.known.KnownTimer.{KnownTimer}
use Rattle.trace_check.specs.Knowledge.{begun, closed, closed_in, half_without, has_running, is_inside, known_outer, loose_without, may_run, vacated, with_outer}
use Rattle.trace_check.proofs.Agreement.{Holds, SoundThere}
use Rattle.trace_check.proofs.Parts.{IsKnown, same_some}
use Rattle.trace_check.proofs.OnProcessors.{inside_loose, inside_soft}

-- ---- what can't be

pub runs_still : (f : FunctionKnown) {c : ℕ} → f ≡ functions.Runs c → has_running f ≡ false → ⊥
runs_still functions.Untold is still = absurd cc
runs_still functions.Rests is still = absurd cc
runs_still (functions.Runs c) is still = absurd cc

pub rests_not : (f : FunctionKnown) (processor : ℕ) (line : Option Context) (there : KnownProcessor) → f ≡ functions.Rests
    → not (may_run processor line there f) ≡ false → ⊥
rests_not functions.Untold processor line there is fails = absurd cc
rests_not functions.Rests processor line there is fails = absurd cc
rests_not (functions.Runs c) processor line there is fails = absurd cc

pub same_runs : {c d : ℕ} → functions.Runs c ≡ functions.Runs d → c ≡ d
same_runs e = cc

-- a function that may run on a processor, is known to run on no other one
pub runs_there : (f : FunctionKnown) (processor c : ℕ) (line : Option Context) (there : KnownProcessor) → f ≡ functions.Runs c
    → not (may_run processor line there f) ≡ false → c ≡ processor
runs_there functions.Untold processor c line there is fails = absurd cc
runs_there functions.Rests processor c line there is fails = absurd cc
runs_there (functions.Runs d) processor c line there is fails = same_runs (sym is) ∙ eqb-true d processor (not-false _ fails)

pub same_timer : {t u : ℕ} → halves.Taken t ≡ halves.Taken u → t ≡ u
same_timer e = cc

free_taken : {u : ℕ} → halves.Free ≡ halves.Taken u → ⊥
free_taken e = absurd cc

pub untold_taken : {u : ℕ} → halves.Untold ≡ halves.Taken u → ⊥
untold_taken e = absurd cc

-- ---- a half that a function leaves

closed_was : (u : ℕ) (h : HalfKnown) → closed h ≡ halves.Taken u → h ≡ halves.Taken u
closed_was u halves.Untold is = absurd (free_taken is)
closed_was u halves.Free is = is
closed_was u (halves.Taken t) is = is

half_if : (t u v : ℕ) (b : Bool) → nat_eq v t ≡ b → (if b then halves.Free else halves.Taken v) ≡ halves.Taken u → (halves.Taken v ≡ halves.Taken u) × (u ≢ t)
half_if t u v true same is = absurd (free_taken is)
half_if t u v false same is = (is, λ e. both_ways (nat_eq v t) same (eq-eqb v t (same_timer is ∙ e)))

half_was : (t u : ℕ) (h : HalfKnown) → half_without t h ≡ halves.Taken u → (h ≡ halves.Taken u) × (u ≢ t)
half_was t u halves.Untold is = absurd (untold_taken is)
half_was t u halves.Free is = absurd (free_taken is)
half_was t u (halves.Taken v) is = half_if t u v (nat_eq v t) refl is

loose_if : (t u v : ℕ) (b : Bool) → nat_eq v t ≡ b → (if b then None else Some v) ≡ Some u → (Some v ≡ Some u) × (u ≢ t)
loose_if t u v true same is = absurd cc
loose_if t u v false same is = (is, λ e. both_ways (nat_eq v t) same (eq-eqb v t (same_some is ∙ e)))

loose_was : (t u : ℕ) (o : Option ℕ) → loose_without t o ≡ Some u → (o ≡ Some u) × (u ≢ t)
loose_was t u None is = absurd cc
loose_was t u (Some v) is = loose_if t u v (nat_eq v t) refl is

pub hard_was : (closing : Option Context) (t u : ℕ) (there : KnownProcessor) → (closed_in closing (vacated t there)).hard ≡ halves.Taken u
    → (there.hard ≡ halves.Taken u) × (u ≢ t)
hard_was None t u there is = half_was t u there.hard is
hard_was (Some contexts.Hard) t u there is = half_was t u there.hard (closed_was u _ is)
hard_was (Some contexts.Soft) t u there is = half_was t u there.hard is

pub soft_was : (closing : Option Context) (t u : ℕ) (there : KnownProcessor) → (closed_in closing (vacated t there)).soft ≡ halves.Taken u
    → (there.soft ≡ halves.Taken u) × (u ≢ t)
soft_was None t u there is = half_was t u there.soft is
soft_was (Some contexts.Hard) t u there is = half_was t u there.soft is
soft_was (Some contexts.Soft) t u there is = half_was t u there.soft (closed_was u _ is)

pub rest_was : (closing : Option Context) (t u : ℕ) (there : KnownProcessor) → (closed_in closing (vacated t there)).loose ≡ Some u
    → (there.loose ≡ Some u) × (u ≢ t)
rest_was None t u there is = loose_was t u there.loose is
rest_was (Some contexts.Hard) t u there is = loose_was t u there.loose is
rest_was (Some contexts.Soft) t u there is = loose_was t u there.loose is

half_kept : (t u : ℕ) (h : HalfKnown) → u ≢ t → h ≡ halves.Taken u → half_without t h ≡ halves.Taken u
half_kept t u h other is = subst (λ x. half_without t x ≡ halves.Taken u) (sym is)
    (ap (λ b. if b then halves.Free else halves.Taken u) (false_from_ne_true _ (λ e. other (eqb-true u t e))))

loose_kept : (t u : ℕ) (o : Option ℕ) → u ≢ t → o ≡ Some u → loose_without t o ≡ Some u
loose_kept t u o other is = subst (λ x. loose_without t x ≡ Some u) (sym is)
    (ap (λ b. if b then None else Some u) (false_from_ne_true _ (λ e. other (eqb-true u t e))))

-- another function stays where it runs
pub holds_still : (closing : Option Context) (t u : ℕ) (there : KnownProcessor) → u ≢ t → Holds there u → Holds (closed_in closing (vacated t there)) u
holds_still None t u there other held = elim held [
  | inl hard ↦ inl (half_kept t u there.hard other hard)
  | inr rest ↦ elim rest [
    | inl soft ↦ inr (inl (half_kept t u there.soft other soft))
    | inr loose ↦ inr (inr (loose_kept t u there.loose other loose))
  ]
]
holds_still (Some contexts.Hard) t u there other held = elim held [
  | inl hard ↦ inl (ap closed (half_kept t u there.hard other hard))
  | inr rest ↦ elim rest [
    | inl soft ↦ inr (inl (half_kept t u there.soft other soft))
    | inr loose ↦ inr (inr (loose_kept t u there.loose other loose))
  ]
]
holds_still (Some contexts.Soft) t u there other held = elim held [
  | inl hard ↦ inl (half_kept t u there.hard other hard)
  | inr rest ↦ elim rest [
    | inl soft ↦ inr (inl (ap closed (half_kept t u there.soft other soft)))
    | inr loose ↦ inr (inr (loose_kept t u there.loose other loose))
  ]
]

-- ---- one timer changes

-- who runs in a place, is another timer than this one
abbrev IsElse : ℕ → KnownProcessor → Type 0
IsElse t there = (u : ℕ) → Holds there u → u ≢ t

pub place_else : (f : ℕ → KnownTimer) (c : ℕ) (there : KnownProcessor) (t : ℕ) (known : KnownTimer) → SoundThere f c there → IsElse t there
    → SoundThere (updated f t known) c there
place_else f c there t known s other = record {
  hard = λ u is. subst (λ k. (k.function ≡ functions.Runs c) × (k.context ≡ Some contexts.Hard))
      (sym (updated_else f t u known (other u (inl is)))) (s.hard u is);
  soft = λ u is. subst (λ k. (k.function ≡ functions.Runs c) × (k.context ≡ Some contexts.Soft)) (sym (updated_else f t u known (other u (inr (inl is)))))
      (s.soft u is);
  loose = λ u is. subst (λ k. k.function ≡ functions.Runs c) (sym (updated_else f t u known (other u (inr (inr is))))) (s.loose u is);
  apart = s.apart;
}

-- who runs in a place, is known to
pub place_of : (f : ℕ → KnownTimer) (c : ℕ) (there : KnownProcessor) (u : ℕ) → SoundThere f c there → Holds there u → (f u).function ≡ functions.Runs c
place_of f c there u s held = elim held [
  | inl hard ↦ (s.hard u hard).0
  | inr rest ↦ elim rest [ inl soft ↦ (s.soft u soft).0 | inr loose ↦ s.loose u loose ]
]

pub not_there : (f : ℕ → KnownTimer) (c : ℕ) (there : KnownProcessor) (t : ℕ) → SoundThere f c there → has_running (f t).function ≡ false → IsElse t there
not_there f c there t s still u held same = runs_still (f t).function (ap (λ v. (f v).function) (sym same) ∙ place_of f c there u s held) still

pub place_same : (f : ℕ → KnownTimer) (c : ℕ) (there : KnownProcessor) (t : ℕ) (known : KnownTimer) → known.function ≡ (f t).function
    → known.context ≡ (f t).context
    → SoundThere f c there → SoundThere (updated f t known) c there
place_same f c there t known function context s =
    let function_of : (u : ℕ) → (updated f t known u).function ≡ (f u).function = λ u. elim (cases_eq u t) [
      | inl same ↦ ap (λ v. (updated f t known v).function) same ∙ ap (λ k. k.function) (updated_here f t known) ∙ function
          ∙ ap (λ v. (f v).function) (sym same)
      | inr other ↦ ap (λ k. k.function) (updated_else f t u known other)
    ] in
    let context_of : (u : ℕ) → (updated f t known u).context ≡ (f u).context = λ u. elim (cases_eq u t) [
      | inl same ↦ ap (λ v. (updated f t known v).context) same ∙ ap (λ k. k.context) (updated_here f t known) ∙ context ∙ ap (λ v. (f v).context) (sym same)
      | inr other ↦ ap (λ k. k.context) (updated_else f t u known other)
    ] in
    record {
      hard = λ u is. let place = s.hard u is in (function_of u ∙ place.0, context_of u ∙ place.1);
      soft = λ u is. let place = s.soft u is in (function_of u ∙ place.0, context_of u ∙ place.1);
      loose = λ u is. function_of u ∙ s.loose u is;
      apart = s.apart;
    }

pub not_none : {A : Type 0} {x : A} → None ≡ Some x → ⊥
not_none e = absurd cc

-- ---- an expiry

-- with what is learned of the function inside which another one begins
pub outer_function : (o : Option ℕ) (f : ℕ → KnownTimer) (v : ℕ) → (with_outer o f v).function ≡ (f v).function
outer_function None f v = refl
outer_function (Some u) f v = elim (cases_eq v u) [
  | inl same ↦ ap (λ i. (updated f u (known_outer (f u)) i).function) same ∙ ap (λ k. k.function) (updated_here f u (known_outer (f u)))
      ∙ ap (λ i. (f i).function) (sym same)
  | inr other ↦ ap (λ k. k.function) (updated_else f u v (known_outer (f u)) other)
]

pub outer_same : (o : Option ℕ) (f : ℕ → KnownTimer) (v : ℕ) → (o ≡ Some v → ⊥) → with_outer o f v ≡ f v
outer_same None f v other = refl
outer_same (Some u) f v other = updated_else f u v (known_outer (f u)) (λ same. other (ap Some (sym same)))

pub outer_is : (o : Option ℕ) (f : ℕ → KnownTimer) (v : ℕ) → o ≡ Some v → with_outer o f v ≡ known_outer (f v)
outer_is None f v is = absurd (not_none is)
outer_is (Some u) f v is =
    let same : v ≡ u = sym (same_some is) in
    ap (λ i. updated f u (known_outer (f u)) i) same ∙ updated_here f u (known_outer (f u)) ∙ ap (λ i. known_outer (f i)) (sym same)

pub told_soft : (told known : Option Context) → IsKnown told known → (known ≡ Some contexts.Hard → ⊥) → IsKnown told (Some contexts.Soft)
told_soft None known is other = tt
told_soft (Some contexts.Hard) known is other = absurd (other is)
told_soft (Some contexts.Soft) known is other = refl

pub place_outer : (f : ℕ → KnownTimer) (c : ℕ) (there : KnownProcessor) (o : Option ℕ) → SoundThere f c there → ((u : ℕ) → o ≡ Some u
    → there.hard ≡ halves.Taken u → ⊥)
    → SoundThere (with_outer o f) c there
place_outer f c there o s other = record {
  hard = λ u is. subst (λ k. (k.function ≡ functions.Runs c) × (k.context ≡ Some contexts.Hard))
      (sym (outer_same o f u (λ some. other u some is))) (s.hard u is);
  soft = λ u is. (outer_function o f u ∙ (s.soft u is).0, soft_still o u (s.soft u is).1);
  loose = λ u is. outer_function o f u ∙ s.loose u is;
  apart = s.apart;
}
  where
    soft_still : (p : Option ℕ) (u : ℕ) → (f u).context ≡ Some contexts.Soft → (with_outer p f u).context ≡ Some contexts.Soft
    soft_still None u is = is
    soft_still (Some v) u is = elim (cases_eq u v) [
      | inl same ↦ ap (λ i. (updated f v (known_outer (f v)) i).context) same ∙ ap (λ k. k.context) (updated_here f v (known_outer (f v)))
      | inr not_same ↦ ap (λ k. k.context) (updated_else f v u (known_outer (f v)) not_same) ∙ is
    ]

-- a processor where a function begins
abbrev pub entered_by : Bool → ℕ → Option Context → KnownProcessor → KnownProcessor
entered_by inside t line there =
    if inside then record { hard = halves.Taken t; soft = closed there.soft; loose = there.loose } else begun t line there

-- what is known of the timer whose function begins
pub record IsBegun (f : ℕ → KnownTimer) (c t : ℕ) (line : Option Context) (inside : Bool) : Type 0 where
  pub function : (f t).function ≡ functions.Runs c
  pub hard : inside ≡ true → (f t).context ≡ Some contexts.Hard
  pub told : inside ≡ false → IsKnown line (f t).context

pub place_begun : (inside : Bool) (f : ℕ → KnownTimer) (c t : ℕ) (line : Option Context) (there : KnownProcessor) → is_inside there ≡ inside
    → SoundThere f c there → IsBegun f c t line inside → SoundThere f c (entered_by inside t line there)
place_begun true f c t line there is s b = record {
  hard = λ u taken. subst (λ v. ((f v).function ≡ functions.Runs c) × ((f v).context ≡ Some contexts.Hard)) (same_timer taken) (b.function, b.hard refl);
  soft = λ u taken. s.soft u (closed_was u there.soft taken);
  loose = s.loose;
  apart = λ u v taken loose. s.apart u v (closed_was u there.soft taken) loose;
}
place_begun false f c t None there is s b = record {
  hard = λ u taken. absurd (free_taken taken);
  soft = s.soft;
  loose = λ u loose. subst (λ v. (f v).function ≡ functions.Runs c) (same_some loose) b.function;
  apart = λ u v taken loose. both_ways (is_inside there) is (inside_soft there u taken);
}
place_begun false f c t (Some contexts.Hard) there is s b = record {
  hard = λ u taken. subst (λ v. ((f v).function ≡ functions.Runs c) × ((f v).context ≡ Some contexts.Hard)) (same_timer taken) (b.function, b.told refl);
  soft = s.soft;
  loose = s.loose;
  apart = s.apart;
}
place_begun false f c t (Some contexts.Soft) there is s b = record {
  hard = λ u taken. absurd (free_taken taken);
  soft = λ u taken. subst (λ v. ((f v).function ≡ functions.Runs c) × ((f v).context ≡ Some contexts.Soft)) (same_timer taken) (b.function, b.told refl);
  loose = s.loose;
  apart = λ u v taken loose. both_ways (is_inside there) is (inside_loose there v loose);
}

pub holds_begun : (inside : Bool) (t : ℕ) (line : Option Context) (there : KnownProcessor) → Holds (entered_by inside t line there) t
holds_begun true t line there = inl refl
holds_begun false t None there = inr (inr refl)
holds_begun false t (Some contexts.Hard) there = inl refl
holds_begun false t (Some contexts.Soft) there = inr (inl refl)

-- a function inside which another one begins, runs on
pub holds_outer : (inside : Bool) (t u : ℕ) (line : Option Context) (there : KnownProcessor) → is_inside there ≡ inside → ((v : ℕ)
    → there.hard ≡ halves.Taken v → ⊥)
    → Holds there u → Holds (entered_by inside t line there) u
holds_outer inside t u line there is free held = elim held [
  | inl hard ↦ absurd (free u hard)
  | inr rest ↦ elim rest [
    | inl soft ↦ inr (inl (subst (λ b. (entered_by b t line there).soft ≡ halves.Taken u) (sym (inside_soft there u soft) ∙ is) (ap closed soft)))
    | inr loose ↦ inr (inr (subst (λ b. (entered_by b t line there).loose ≡ Some u) (sym (inside_loose there u loose) ∙ is) loose))
  ]
]

pub places_with : (f : ℕ → KnownTimer) (there : ℕ → KnownProcessor) (c : ℕ) (there' : KnownProcessor) → ((d : ℕ) → d ≢ c → SoundThere f d (there d))
    → SoundThere f c there' → (d : ℕ) → SoundThere f d (updated there c there' d)
places_with f there c there' others here d = elim (cases_eq d c) [
  | inl same ↦ subst (λ e. SoundThere f e (updated there c there' e)) (sym same) (subst (λ p. SoundThere f c p) (sym (updated_here there c there')) here)
  | inr other ↦ subst (λ p. SoundThere f d p) (sym (updated_else there c d there' other)) (others d other)
]
