-- Before an expiry that is no misfit there were timers that agree with what was known.
use Rattle.std.proofs.Common.{◌≡◌, ◌≢◌, ℕ, Bool, true, false, ◌||◌, ◌⊎◌, Option, Some, None, List, refl, sym, ap, subst, ◌∙◌, inl, inr}
use Rattle.std.specs.Prelude.{IfSome, is_some}
use Rattle.std.specs.List.{AllByRecursion}
use Rattle.std.proofs.lemmas.Bool.{both_ways, cases_Bool, cases_eq, ltb-false}
use Rattle.ktime.specs.declared.clock_id.ClockId.{ClockId}
use Rattle.seq_timer.specs.declared.context.Context.{Context}
use Rattle.seq_timer.specs.declared.context.Context.TheVariants as contexts
use Rattle.seq_timer.specs.Systems.{updated}
use Rattle.seq_timer.specs.Tables.{rank}
use Rattle.seq_timer.proofs.Systems.{updated_here, updated_else}
use Rattle.trace_text.specs.declared.event.KernelEvent.TheVariants as kernel
use Rattle.trace_text.specs.declared.event.Site.{Site}
use Rattle.trace_check.specs.declared.known.ArmedKnown.{ArmedKnown}
use Rattle.trace_check.specs.declared.known.ArmedKnown.TheVariants as arms
use Rattle.trace_check.specs.declared.known.OrderedExpiry.{OrderedExpiry}
use Rattle.trace_check.specs.declared.known.FunctionKnown.{FunctionKnown}
use Rattle.trace_check.specs.declared.known.FunctionKnown.TheVariants as functions
use Rattle.trace_check.specs.declared.known.HalfKnown.{HalfKnown}
use Rattle.trace_check.specs.declared.known.HalfKnown.TheVariants as halves
use Rattle.trace_check.specs.declared.known.KnownProcessor.{KnownProcessor}
use Rattle.trace_check.specs.declared.known.KnownTimer.{KnownTimer}
use Rattle.trace_check.specs.Knowledge.{claim_by, closed, entered_there, is_inside, is_passed, Knowledge, known_entered, known_outer, learned, misfit, misfits_of, outer_by, soft_of, with_claim, with_outer}
use Rattle.trace_check.specs.Traced.{is_ahead, context_at}
use Rattle.trace_check.proofs.Plain.{HasTurn, IsEntered, IsHidden, Plain, PlainTimers, RunsOn}
use Rattle.trace_check.proofs.Agreement.{Agrees, AgreesAt, HasTurnBefore, Holds, RunsAs, Sound, SoundFunction, half_of, is_open}
use Rattle.trace_check.proofs.Parts.{IsAs, all_fail, before_entered, elsewhere, home_same, inside_or, is_as, known_as, known_kept, line_known, same_some, turns_from-none, waits_without, with_context}
use Rattle.trace_check.proofs.OnProcessors.{hard_soft, inside_loose, inside_soft, none_some, outer_of, same_half, unblocked}
use Rattle.trace_check.proofs.Placing.{entered_by, outer_is, same_timer}
use Rattle.trace_check.proofs.Before.{Led, agree_before, armed_before, at_before, at_rest, before, else_known, hard_of, here_known, not_running, rest_agrees, spared_before}

-- ---- an expiry

-- no earlier expiry passed it, so each had its turn before it
turns_before : (claims : List OrderedExpiry) (n processor : ℕ) (x : Option Context) (a : ArmedKnown) (c : Option ClockId) (o : Option ℕ) (p : Plain) (m : ℕ)
    → is_passed claims (claim_by n processor x a c o) ≡ false → (y : Context) → x ≡ Some y → o ≡ Some m → (soft expires : ℕ) → a ≡ arms.Until soft expires
    → (clock : ClockId) → c ≡ Some clock → p.base ≡ processor → p.context ≡ y → p.clock ≡ clock → p.expires ≡ expires
    → AllByRecursion (λ q. HasTurnBefore q p m) claims
turns_before claims n processor x a c o p m fails y told order soft expires armed clock on at context is until =
    turns_from-none claims (record { processor = processor; context = y; clock = clock; expires = expires; order = m; at = n }) p m (sym at) (sym context)
    (ap rank (sym is)) (sym until) refl
    (subst (λ i. is_passed claims (claim_by n processor (Some y) (arms.Until soft expires) (Some clock) i) ≡ false) order
    (subst (λ i. is_passed claims (claim_by n processor (Some y) (arms.Until soft expires) i o) ≡ false) on
    (subst (λ i. is_passed claims (claim_by n processor (Some y) i c o) ≡ false) armed
    (subst (λ i. is_passed claims (claim_by n processor i a c o) ≡ false) told fails))))

if_some : {A : Type 0} (o : Option A) (x y : A) → IfSome o (λ z. x ≡ z) → o ≡ Some y → x ≡ y
if_some o x y h is = subst (λ p. IfSome p (λ z. x ≡ z)) is h

-- the expiry stands before those that waited for it
first_in_turn : (n processor : ℕ) (x : Option Context) (a : ArmedKnown) (c : Option ClockId) (o : Option ℕ) (claims : List OrderedExpiry)
    (P : OrderedExpiry → Type 0) (y : Context) (soft expires j : ℕ) (clock : ClockId) → x ≡ Some y → a ≡ arms.Until soft expires → c ≡ Some clock → o ≡ Some j
    → AllByRecursion P (with_claim (claim_by n processor x a c o) claims)
    → P (record { processor = processor; context = y; clock = clock; expires = expires; order = j; at = n })
first_in_turn n processor x a c o claims P y soft expires j clock told armed on order all =
    let zero = subst (λ i. AllByRecursion P (with_claim (claim_by n processor i a c o) claims)) told all in
    let one = subst (λ i. AllByRecursion P (with_claim (claim_by n processor (Some y) i c o) claims)) armed zero in
    let two = subst (λ i. AllByRecursion P (with_claim (claim_by n processor (Some y) (arms.Until soft expires) i o) claims)) on one in
    let three = subst (λ i. AllByRecursion P (with_claim (claim_by n processor (Some y) (arms.Until soft expires) (Some clock) i) claims)) order two in
    three.0

-- a timer of which it was learned that it is soft
soft_as : (known : Option Context) (y : Context) → y ≡ contexts.Soft → (known ≡ Some contexts.Hard → ⊥) → IsAs known y
soft_as None y is other = tt
soft_as (Some contexts.Hard) y is other = absurd (other refl)
soft_as (Some contexts.Soft) y is other = is

outer_before : (there : ℕ → KnownProcessor) (claims : List OrderedExpiry) (f : ℕ → KnownTimer) (o : Option ℕ) (v : ℕ) (p : Plain)
    → AgreesAt there claims (with_outer o f v) p → (o ≡ Some v → (f v).context ≡ Some contexts.Hard → ⊥) → AgreesAt there claims (f v) p
outer_before there claims f None v p a other = a
outer_before there claims f (Some u) v p a other = elim (cases_eq v u) [
  | inl same ↦
      let is = ap Some (sym same) in
      let b = subst (λ k. AgreesAt there claims k p) (outer_is (Some u) f v is) a in
      with_context there claims (known_outer (f v)) (f v).context p b (soft_as (f v).context p.context b.context (other is))
  | inr not_same ↦ subst (λ k. AgreesAt there claims k p) (updated_else f u v (known_outer (f u)) not_same) a
]

-- what is so of a function that runs since the recording began, where another one has begun
record IsLeft (inside : Bool) (line : Option Context) (there : KnownProcessor) (y : Context) : Type 0 where
  soft : y ≡ contexts.Soft
  outside : inside ≡ false
  told : line ≡ Some contexts.Soft → ⊥
  open_ : there.soft ≡ halves.Untold

pub taken_untold : {t : ℕ} → halves.Taken t ≡ halves.Untold → ⊥
taken_untold e = absurd cc

pub free_untold : halves.Free ≡ halves.Untold → ⊥
free_untold e = absurd cc

pub closed_untold : (h : HalfKnown) → closed h ≡ halves.Untold → ⊥
closed_untold halves.Untold is = free_untold is
closed_untold halves.Free is = free_untold is
closed_untold (halves.Taken t) is = taken_untold is

left_there : (inside : Bool) (t : ℕ) (line : Option Context) (there : KnownProcessor) (y : Context) → half_of (entered_by inside t line there) y ≡ halves.Untold
    → IsLeft inside line there y
left_there true t line there contexts.Hard is = absurd (taken_untold is)
left_there true t line there contexts.Soft is = absurd (closed_untold there.soft is)
left_there false t None there contexts.Hard is = absurd (free_untold is)
left_there false t None there contexts.Soft is = record { soft = refl; outside = refl; told = λ e. none_some refl e; open_ = is }
left_there false t (Some contexts.Hard) there contexts.Hard is = absurd (taken_untold is)
left_there false t (Some contexts.Hard) there contexts.Soft is = record { soft = refl; outside = refl; told = λ e. hard_soft refl (same_context_of e); open_ = is }
  where
    same_context_of : {x y : Context} → Some x ≡ Some y → x ≡ y
    same_context_of e = cc
left_there false t (Some contexts.Soft) there contexts.Hard is = absurd (free_untold is)
left_there false t (Some contexts.Soft) there contexts.Soft is = absurd (taken_untold is)

not_open : (inside : Bool) (t : ℕ) (line : Option Context) (there : KnownProcessor) → is_open (entered_by inside t line there) ≡ false
not_open true t line there = refl
not_open false t None there = refl
not_open false t (Some contexts.Hard) there = refl
not_open false t (Some contexts.Soft) there = refl

-- a function whose expiry was shown is known to run
shown_runs : (f : FunctionKnown) (p : Plain) (c : ℕ) → RunsAs f p → RunsOn c p → p.shown ≡ true → f ≡ functions.Runs c
shown_runs functions.Untold p c is run shown = absurd (both_ways p.shown (is run.running) shown)
shown_runs functions.Rests p c is run shown = absurd (both_ways p.running is run.running)
shown_runs (functions.Runs d) p c is run shown = ap (λ e. functions.Runs e) (sym is.1 ∙ run.at)

holds_by : (there : ℕ → KnownProcessor) (t : ℕ) (known : KnownTimer) (f : FunctionKnown) (c : ℕ) → SoundFunction there t known f → f ≡ functions.Runs c
    → Holds (there c) t
holds_by there t known functions.Untold c s is = absurd cc
holds_by there t known functions.Rests c s is = absurd cc
holds_by there t known (functions.Runs d) c s is = subst (λ e. Holds (there e) t) (same_runs is) s.0
  where
    same_runs : {a b : ℕ} → functions.Runs a ≡ functions.Runs b → a ≡ b
    same_runs e = cc

pub told_some : (line : Option Context) → is_some line ≡ true → (y : Context) × (line ≡ Some y)
told_some None is = absurd (not_running is)
told_some (Some y) is = (y, refl)

or_right : (a b : Bool) → a ≡ false → a || b ≡ true → b ≡ true
or_right false b is both = both
or_right true b is both = absurd (not_running (sym is))

-- what runs where a function has begun: one whose expiry was shown, in the soft context or in an untold one, or one since the recording began
record RunsAround (k : Knowledge) (c u : ℕ) : Type 0 where
  inside : is_inside (k.processors c) ≡ true
  place : ((k.processors c).soft ≡ halves.Taken u) ⊎ ((k.processors c).loose ≡ Some u)

runs_around : (k : Knowledge) (c u : ℕ) → Sound k → ((v : ℕ) → (k.processors c).hard ≡ halves.Taken v → ⊥) → (k.timers u).function ≡ functions.Runs c
    → RunsAround k c u
runs_around k c u s free is = elim (holds_by k.processors u (k.timers u) (k.timers u).function c (s.each u).function is) [
  | inl hard ↦ absurd (free u hard)
  | inr rest ↦ elim rest [
    | inl soft ↦ record { inside = inside_soft (k.processors c) u soft; place = inl soft }
    | inr loose ↦ record { inside = inside_loose (k.processors c) u loose; place = inr loose }
  ]
]

one_around : (k : Knowledge) (c u v : ℕ) → Sound k → RunsAround k c u → RunsAround k c v → u ≡ v
one_around k c u v s a b = elim a.place [
  | inl soft_u ↦ elim b.place [ inl soft_v ↦ same_timer (sym soft_u ∙ soft_v) | inr loose_v ↦ absurd ((s.places c).apart u v soft_u loose_v) ]
  | inr loose_u ↦ elim b.place [ inl soft_v ↦ absurd ((s.places c).apart v u soft_v loose_u) | inr loose_v ↦ same_some (sym loose_u ∙ loose_v) ]
]

pub back_entry : (k : Knowledge) (w' : PlainTimers) (t : ℕ) (site : Site) (now : ℕ) → Sound k → misfit k (kernel.Entry t site now) ≡ None
    → Agrees (learned k (kernel.Entry t site now)) w' → Led k (kernel.Entry t site now) w'
back_entry k w' t site now s none a =
    let fails = all_fail (misfits_of k (kernel.Entry t site now)) none in
    let known = k.timers t in
    let c = site.processor in
    let there = k.processors c in
    let inside = is_inside there in
    let line = context_at site.context known.told in
    let context = context_at site.context known.context in
    let free = unblocked context (outer_by there.loose k.timers) there fails.1.1.1.1.1.0 in
    let f = with_outer there.loose k.timers in
    let entered = entered_there t line there in
    let new_there = updated k.processors c entered in
    let new_claims = with_claim (claim_by k.count c line known.armed known.clock known.order) k.claims in
    let new = here_known new_there new_claims f t (known_entered site inside known) (w' t) (a.each t) in
    let not_soft : inside ≡ true → context ≡ Some contexts.Soft → ⊥ = λ is soft. elim (outer_of there is) [
      | inl by ↦ free.around by.0 soft by.1
      | inr by ↦ free.loose by.0 soft by.1
    ] in
    let context_is : IsAs context (w' t).context = before_entered inside context (w' t).context not_soft new.context in
    let line_is : IsAs line (w' t).context =
    known_as line context (w' t).context (line_known site.context known.told known.context fails.1.1.1.0 (s.each t).told) context_is in
    let old = at_rest known true (w' t).clock (w' t).context c (is_some line) in
    let was = updated_here w' t old in
    let learned_of : (u : ℕ) → u ≢ t → AgreesAt new_there new_claims (f u) (w' u) =
    λ u other. else_known new_there new_claims f t u _ (w' u) other (a.each u) in
    let others : (u : ℕ) → u ≢ t → AgreesAt new_there new_claims (k.timers u) (w' u) = λ u other.
    outer_before new_there new_claims k.timers there.loose u (w' u) (learned_of u other)
    (λ is hard. free.inside u (ap (λ o. outer_by o k.timers) is ∙ hard) is) in
    let left : (u : ℕ) → u ≢ t → IsHidden c (w' u) → IsLeft inside line there (w' u).context = λ u other hidden.
    left_there inside t line there (w' u).context (ap (λ p. half_of p (w' u).context) (sym (updated_here k.processors c entered))
    ∙ same_half new_there (sym hidden.runs.at) refl ∙ (others u other).hidden hidden.runs.running hidden.shown) in
    let around : (u : ℕ) → u ≢ t → RunsOn c (w' u) → (w' u).shown ≡ true → RunsAround k c u = λ u other run shown.
    runs_around k c u s free.hard (shown_runs (k.timers u).function (w' u) c (others u other).function run shown) in
    let else_runs : (d u : ℕ) → RunsOn d (before w' t old u) → (u ≢ t) × RunsOn d (w' u) = λ d u run. elim (cases_eq u t) [
      | inl same ↦ absurd (not_running (sym (ap (λ p. p.running) was) ∙ ap (λ v. (before w' t old v).running) (sym same) ∙ run.running))
      | inr other ↦ (other, subst (λ p. RunsOn d p) (updated_else w' t u old other) run)
    ] in
    let else_hidden : (d u : ℕ) → IsHidden d (before w' t old u) → IsHidden d (w' u) = λ d u hidden.
    let by = else_runs d u hidden.runs in subst (λ p. IsHidden d p) (updated_else w' t u old by.0) hidden in (
      before w' t old,
      agree_before k w' t old
          (rest_agrees k.processors k.claims known true _ _ _ (is_some line)
          (armed_before known (w' t).clock (w' t).context c (is_some line) known.armed refl fails.1.0) fails.0
          (home_same known.home c c fails.1.1.0 refl) new.clock
          (known_as known.context context (w' t).context (known_kept site.context known.context fails.1.1.1.0) context_is)
          (λ m some tells.
          let o = (s.each t).order m some in
          let told = told_some line tells in
          turns_before k.claims k.count c line known.armed known.clock known.order old m fails.1.1.1.1.1.1.0 told.0 told.1 some o.armed.0 o.armed.1 o.armed.2
          o.clock.0 o.clock.1 refl (is_as line told.0 (w' t).context line_is told.1)
          (if_some known.clock (w' t).clock o.clock.0 new.clock o.clock.1) (ap hard_of o.armed.2)))
          (λ u other. elsewhere new_there k.processors new_claims k.claims (k.timers u) (w' u) (others u other)
          (λ run shown. elim (cases_eq (w' u).base c) [
            | inl at ↦
                let l = left u other (record { runs = record { running = run; at = at }; shown = shown }) in
                same_half k.processors at l.soft ∙ l.open_
            | inr at ↦ ap (λ p. half_of p (w' u).context) (sym (updated_else k.processors c (w' u).base entered at)) ∙ (others u other).hidden run shown
          ])
          (λ m some tells. waits_without k.count c line known.armed known.clock known.order k.claims _ ((others u other).waits m some tells)))
          (λ d u v told hidden_u hidden_v. a.alone d u v (elim (cases_eq d c) [
            | inl same ↦ ap (λ e. is_open (new_there e)) same ∙ ap (λ p. is_open p) (updated_here k.processors c entered) ∙ not_open inside t line there
            | inr other ↦ ap (λ p. is_open p) (updated_else k.processors c d entered other) ∙ told
          ]) (else_hidden d u hidden_u) (else_hidden d v hidden_v)),
      (
        at_before (λ p. IsEntered site now p (w' t)) w' t old (record {
          keeps = record { clock = refl; context = refl; clocked = new.clocked };
          told = new.told;
          order = new.order;
          tells = refl;
          shown = new.function.2;
          context = line_is;
          armed = refl;
          rests = refl;
          at = refl;
          reached = ltb-false now (soft_of known.armed) fails.1.1.1.1.0;
          unarmed = new.armed;
          runs = new.function.0;
          base = new.function.1;
        }),
        subst (λ p. HasTurn (before w' t old) (context_at site.context p.told) c t) (sym was) (record {
          alone = λ u v run_u run_v.
              let one = else_runs c u run_u in
              let two = else_runs c v run_v in
              elim (cases_Bool (w' u).shown) [
                | inl shown_u ↦
                    let around_u = around u one.0 one.1 shown_u in
                    elim (cases_Bool (w' v).shown) [
                      | inl shown_v ↦ one_around k c u v s around_u (around v two.0 two.1 shown_v)
                      | inr hidden_v ↦ absurd (both_ways inside (left v two.0 (record { runs = two.1; shown = hidden_v })).outside around_u.inside)
                    ]
                | inr hidden_u ↦ elim (cases_Bool (w' v).shown) [
                  | inl shown_v ↦ absurd (both_ways inside (left u one.0 (record { runs = one.1; shown = hidden_u })).outside
                      (around v two.0 two.1 shown_v).inside)
                  | inr hidden_v ↦ a.alone c u v (ap (λ p. is_open p) (updated_here k.processors c entered) ∙ not_open inside t line there)
                      (record { runs = one.1; shown = hidden_u }) (record { runs = two.1; shown = hidden_v })
                ]
              ];
          inside = λ u run.
              let one = else_runs c u run in
              ap (λ p. p.context) (updated_else w' t u old one.0) ∙ elim (cases_Bool (w' u).shown) [
                | inl shown ↦ elim (around u one.0 one.1 shown).place [
                  | inl soft ↦ is_as (k.timers u).context contexts.Soft (w' u).context (others u one.0).context ((s.places c).soft u soft).1
                  | inr loose ↦ is_as (f u).context contexts.Soft (w' u).context (learned_of u one.0).context
                      (ap (λ i. i.context) (outer_is there.loose k.timers u loose))
                ]
                | inr hidden ↦ (left u one.0 (record { runs = one.1; shown = hidden })).soft
              ];
          within = λ u run told.
              let one = else_runs c u run in
              let is = updated_else w' t u old one.0 in
              ap (λ p. p.context) was ∙ elim (cases_Bool (w' u).shown) [
                | inl shown ↦ is_as (inside_or inside context) contexts.Hard (w' t).context new.context
                    (ap (λ b. inside_or b context) (around u one.0 one.1 shown).inside)
                | inr hidden ↦
                    let l = left u one.0 (record { runs = one.1; shown = hidden }) in
                    hard_told line (w' t).context line_is (or_right (before w' t old u).shown (is_some line) (ap (λ p. p.shown) is ∙ hidden) told) l.told
              ];
          first = λ u m n other told tells order_t order_u within armed at clock.
              let is = updated_else w' t u old other in
              let mine : known.order ≡ Some m = ap (λ p. p.order) (sym was) ∙ order_t in
              let o = (s.each t).order m mine in
              let some = told_some line told in
              let theirs : (w' u).order ≡ Some n = ap (λ p. p.order) (sym is) ∙ order_u in
              let turn = first_in_turn k.count c line known.armed known.clock known.order k.claims _ some.0 o.armed.0 o.armed.1 m o.clock.0
              some.1 o.armed.2 o.clock.1 mine ((others u other).waits n theirs (ap (λ p. p.tells) (sym is) ∙ tells)) in
              let ahead : is_ahead o.armed.1 m (w' u).expires n ≡ true =
              turn (sym at ∙ ap (λ p. p.base) is)
              (sym (is_as line some.0 (w' t).context line_is some.1) ∙ ap (λ p. p.context) (sym was) ∙ sym within ∙ ap (λ p. p.context) is)
              (ap rank (sym (if_some known.clock (w' t).clock o.clock.0 new.clock o.clock.1)) ∙ ap (λ p. rank p.clock) (sym was) ∙ sym clock ∙ ap (λ p. rank p.clock) is)
              ((s.each u).order n (sym (others u other).order ∙ theirs)).past in
              subst (λ p. is_ahead p.expires m (before w' t old u).expires n ≡ true) (sym was)
              (subst (λ p. is_ahead (hard_of known.armed) m p.expires n ≡ true) (sym is)
              (subst (λ e. is_ahead e m (w' u).expires n ≡ true) (sym (ap hard_of o.armed.2)) ahead));
        }),
        spared_before w' t old,
      ),
    )
  where
    hard_told : (line : Option Context) (y : Context) → IsAs line y → is_some line ≡ true → (line ≡ Some contexts.Soft → ⊥) → y ≡ contexts.Hard
    hard_told None y is told other = absurd (not_running told)
    hard_told (Some contexts.Hard) y is told other = is
    hard_told (Some contexts.Soft) y is told other = absurd (other refl)
