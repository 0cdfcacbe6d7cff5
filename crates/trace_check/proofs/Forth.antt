-- What a history shows is never at misfit, and what is learned agrees with it.
use Rattle.std.proofs.Common.{◌≡◌, ◌≢◌, ℕ, ◌+◌, true, false, not, Option, Some, None, List, refl, sym, ap, subst, ◌∙◌, inl, inr}
use Rattle.std.specs.Prelude.{IfSome, is_some}
use Rattle.std.specs.List.{AllByRecursion}
use Rattle.std.proofs.lemmas.Bool.{both_ways, cases_Bool, cases_eq, eq-eqb}
use Rattle.ktime.specs.declared.clock_id.ClockId.{ClockId}
use Rattle.seq_timer.specs.declared.context.Context.{Context}
use Rattle.seq_timer.specs.declared.context.Context.TheVariants as contexts
use Rattle.seq_timer.specs.Systems.{updated}
use Rattle.seq_timer.specs.Tables.{rank}
use Rattle.seq_timer.proofs.Systems.{updated_here, updated_else}
use Rattle.trace_text.specs.declared.event.KernelEvent.{KernelEvent}
use Rattle.trace_text.specs.declared.event.KernelEvent.TheVariants as kernel
use Rattle.trace_text.specs.declared.event.Site.{Site}
use Rattle.trace_check.specs.declared.known.ArmedKnown.{ArmedKnown}
use Rattle.trace_check.specs.declared.known.ArmedKnown.TheVariants as arms
use Rattle.trace_check.specs.declared.known.OrderedExpiry.{OrderedExpiry}
use Rattle.trace_check.specs.declared.known.FunctionKnown.{FunctionKnown}
use Rattle.trace_check.specs.declared.known.FunctionKnown.TheVariants as functions
use Rattle.trace_check.specs.declared.known.HalfKnown.TheVariants as halves
use Rattle.trace_check.specs.declared.known.KnownProcessor.{KnownProcessor}
use Rattle.trace_check.specs.declared.known.KnownTimer.{KnownTimer}
use Rattle.trace_check.specs.Knowledge.{claim_by, entered_there, exited_there, home_after, is_inside, is_passed, Knowledge, known_outer, left_for, may_run, misfits_of, no_knowledge, nothing_there, outer_by, with_claim, with_outer}
use Rattle.trace_check.specs.Traced.{is_ahead, context_at}
use Rattle.trace_check.proofs.Plain.{HasTurn, IsBeginning, IsEntered, IsExited, IsHidden, LeavesOne, Plain, PlainTimers, RunsOn, ShowsEvent, Spared, Stays}
use Rattle.trace_check.proofs.Agreement.{Agrees, AgreesAt, ArmedAs, HasTurnBefore, RunsAs, Sound, half_of, is_open}
use Rattle.trace_check.proofs.Parts.{IsAs, each_but, elsewhere, entered_as, flags_as, inside_or, is_as, left_as, line_as, no_cause, none_passes, not_early, not_elsewhere, not_other, not_runs, not_unarmed, waits_with, with_context}
use Rattle.trace_check.proofs.OnProcessors.{blocker-none, closes, closing_by, hard_soft, context_left-as, left_may, left_some, none_some, outer_of, same_half, soft_stays, stays_open, told_first}
use Rattle.trace_check.proofs.ForthStarts.{Goes, clock_kept, forth_cancel, forth_set_up, forth_start}

-- ---- an expiry

-- what is known of a timer that takes part in an order is so
pub until_as : (known : KnownTimer) (p : Plain) (soft expires : ℕ) → ArmedAs known.armed p → known.armed ≡ arms.Until soft expires
    → (p.armed ≡ true) × (p.soft ≡ soft) × (p.expires ≡ expires)
until_as known p soft expires h is = subst (λ a. ArmedAs a p) is h

pub clock_as : (known : Option ClockId) (p : Plain) (c : ClockId) → IfSome known (λ x. p.clock ≡ x) → known ≡ Some c → p.clock ≡ c
clock_as known p c h is = subst (λ o. IfSome o (λ x. p.clock ≡ x)) is h

-- no earlier expiry passed one that is shown
not_passed : (claims : List OrderedExpiry) (n processor : ℕ) (x : Option Context) (a : ArmedKnown) (c : Option ClockId) (o : Option ℕ) (p : Plain) → ArmedAs a p
    → IfSome c (λ y. p.clock ≡ y) → p.order ≡ o → p.base ≡ processor → IsAs x p.context → (is_some x ≡ true → p.tells ≡ true)
    → ((m : ℕ) → p.order ≡ Some m → p.tells ≡ true → AllByRecursion (λ q. HasTurnBefore q p m) claims)
    → is_passed claims (claim_by n processor x a c o) ≡ false
not_passed claims n processor (Some x) (arms.Until soft expires) (Some clock) (Some m) p armed on order at context tells waits =
    none_passes claims (record { processor = processor; context = x; clock = clock; expires = expires; order = m; at = n }) p m (sym at) (sym context)
    (ap rank (sym on)) (sym armed.2) refl (waits m order (tells refl))
not_passed claims n processor (Some x) (arms.Until soft expires) (Some clock) None p armed on order at context tells waits = refl
not_passed claims n processor (Some x) (arms.Until soft expires) None o p armed on order at context tells waits = refl
not_passed claims n processor (Some x) arms.Untold c o p armed on order at context tells waits = refl
not_passed claims n processor (Some x) arms.No c o p armed on order at context tells waits = refl
not_passed claims n processor None a c o p armed on order at context tells waits = refl

-- a timer of which it is learned that it is soft
outer_agrees : (there : ℕ → KnownProcessor) (claims : List OrderedExpiry) (f : ℕ → KnownTimer) (o : Option ℕ) (v : ℕ) (p : Plain)
    → AgreesAt there claims (f v) p
    → (o ≡ Some v → p.context ≡ contexts.Soft) → AgreesAt there claims (with_outer o f v) p
outer_agrees there claims f None v p a soft = a
outer_agrees there claims f (Some u) v p a soft = elim (cases_eq v u) [
  | inl same ↦ subst (λ k. AgreesAt there claims k p) (sym (ap (λ i. updated f u (known_outer (f u)) i) same ∙ updated_here f u (known_outer (f u))))
      (with_context there claims (f u) (Some contexts.Soft) p (subst (λ i. AgreesAt there claims (f i) p) same a) (soft (ap Some (sym same))))
  | inr other ↦ subst (λ k. AgreesAt there claims k p) (sym (updated_else f u v (known_outer (f u)) other)) a
]

-- ---- an expiry

pub forth_entry : (k : Knowledge) (w w' : PlainTimers) (t : ℕ) (site : Site) (now : ℕ) → Sound k → Agrees k w → IsEntered site now (w t) (w' t)
    → HasTurn w (context_at site.context (w t).told) site.processor t → Spared t w w' → Goes k (kernel.Entry t site now) w'
forth_entry k w w' t site now sound a s by_told spared =
    let known = k.timers t in
    let c = site.processor in
    let there = k.processors c in
    let line = context_at site.context known.told in
    let context = context_at site.context known.context in
    let new_there = updated k.processors c (entered_there t line there) in
    let new_claims = with_claim (claim_by k.count c line known.armed known.clock known.order) k.claims in
    let turn : HasTurn w line c t = subst (λ o. HasTurn w (context_at site.context o) c t) (a.each t).told by_told in
    let here : IsAs line (w t).context = subst (λ o. IsAs (context_at site.context o) (w t).context) (a.each t).told s.context in
    let flags : IsAs site.context (w t).context = flags_as site.context known.told (w t).context here in
    let is : IsAs context (w t).context = line_as site.context known.context (w t).context flags (a.each t).context in
    let runs : (u : ℕ) → (k.timers u).function ≡ functions.Runs c → RunsAs (functions.Runs c) (w u) =
    λ u f. subst (λ g. RunsAs g (w u)) f (a.each u).function in
    let soft : (u : ℕ) → (k.timers u).function ≡ functions.Runs c → (w u).context ≡ contexts.Soft =
    λ u f. turn.inside u (record { running = (runs u f).0; at = (runs u f).1 }) in
    let hard : (u : ℕ) → (k.timers u).function ≡ functions.Runs c → (w t).context ≡ contexts.Hard =
    λ u f. turn.within u (record { running = (runs u f).0; at = (runs u f).1 }) (rw (runs u f).2 refl) in
    let outer : is_inside there ≡ true → (u : ℕ) × ((k.timers u).function ≡ functions.Runs c) = λ inside. elim (outer_of there inside) [
      | inl by ↦ (by.0, ((sound.places c).soft by.0 by.1).0)
      | inr by ↦ (by.0, (sound.places c).loose by.0 by.1)
    ] in (
      no_cause (misfits_of k (kernel.Entry t site now)) (
        not_runs _ (w t) (a.each t).function s.rests,
        (
          not_unarmed _ (w t) (a.each t).armed s.armed,
          (
            not_elsewhere known.home (w t) c (a.each t).home s.armed s.at,
            (
              not_other site.context known.context (w t).context flags (a.each t).context,
              (
                not_early known.armed (w t) now (a.each t).armed s.reached,
                (
                  blocker-none context (outer_by there.loose k.timers) there (record {
                    hard = λ u taken. let place = (sound.places c).hard u taken in
                        hard_soft (is_as (k.timers u).context contexts.Hard (w u).context (a.each u).context place.1) (soft u place.0);
                    around = λ u known_soft taken. hard_soft (hard u ((sound.places c).soft u taken).0)
                        (is_as context contexts.Soft (w t).context is known_soft);
                    loose = λ u known_soft loose. hard_soft (hard u ((sound.places c).loose u loose)) (is_as context contexts.Soft (w t).context is known_soft);
                    inside = λ u known_hard loose. hard_soft
                        (is_as (k.timers u).context contexts.Hard (w u).context (a.each u).context
                        (subst (λ o. outer_by o k.timers ≡ Some contexts.Hard) loose known_hard))
                        (soft u ((sound.places c).loose u loose));
                  }),
                  (
                    not_passed k.claims k.count c line known.armed known.clock known.order (w t) (a.each t).armed (a.each t).clock (a.each t).order s.at here
                        (λ told. s.tells ∙ ap (λ o. is_some (context_at site.context o)) (a.each t).told ∙ told) (a.each t).waits,
                    tt,
                  ),
                ),
              ),
            ),
          ),
        ),
      ),
      record {
        each = each_but new_there new_claims (with_outer there.loose k.timers) t _ w w' spared (record {
          armed = s.unarmed;
          function = (s.runs, s.base, s.shown);
          home = tt;
          clock = clock_kept known.clock (w t) (w' t) (a.each t).clock s.keeps.clock;
          clocked = s.keeps.clocked ∙ (a.each t).clocked;
          context = subst (λ x. IsAs (inside_or (is_inside there) context) x) (sym s.keeps.context)
              (entered_as (is_inside there) context (w t).context (λ inside. let by = outer inside in hard by.0 by.1) is);
          told = s.told ∙ ap (λ o. context_at site.context o) (a.each t).told;
          order = s.order;
          hidden = λ run shown. absurd (both_ways (w' t).shown shown s.shown);
          waits = λ m some tells. absurd (none_some s.order some);
        }) (λ u other. outer_agrees new_there new_claims k.timers there.loose u (w u)
            (elsewhere k.processors new_there k.claims new_claims (k.timers u) (w u) (a.each u)
            (λ run shown. elim (cases_eq (w u).base c) [
              | inl at ↦
                  let on : RunsOn c (w u) = record { running = run; at = at } in
                  let soft_u = turn.inside u on in
                  let was : there.soft ≡ halves.Untold = same_half k.processors (sym at) (sym soft_u) ∙ (a.each u).hidden run shown in
                  same_half new_there at soft_u ∙ ap (λ p. p.soft) (updated_here k.processors c (entered_there t line there))
                  ∙ soft_stays t line there was
                  (λ inside. let by = outer inside in
                  both_ways (w u).shown shown (ap (λ v. (w v).shown) (turn.alone u by.0 on (record { running = (runs by.0 by.1).0; at = (runs by.0 by.1).1 }))
                  ∙ (runs by.0 by.1).2))
                  (λ told. hard_soft (turn.within u on (rw (shown, told) refl)) (is_as line contexts.Soft (w t).context here told))
              | inr at ↦ ap (λ p. half_of p (w u).context) (updated_else k.processors c (w u).base (entered_there t line there) at)
                  ∙ (a.each u).hidden run shown
            ])
            (λ m some tells. waits_with k.count c line known.armed known.clock known.order k.claims _ ((a.each u).waits m some tells)
            (λ y from until_ j clock told until on order at within same_clock later.
            let order_u = ((sound.each u).order m (sym (a.each u).order ∙ some)).armed in
            let armed_u = until_as (k.timers u) (w u) order_u.0 order_u.1 (a.each u).armed order_u.2 in
            let armed_t = until_as known (w t) from until_ (a.each t).armed until in
            subst (λ e. is_ahead e j (w u).expires m ≡ true) armed_t.2
            (turn.first u j m other (ap (λ o. is_some o) told) tells ((a.each t).order ∙ order) some
            (sym within ∙ sym (is_as line y (w t).context here told)) armed_u.0 (sym at)
            (sym same_clock ∙ ap rank (sym (clock_as known.clock (w t) clock (a.each t).clock on)))))))
            (λ loose. soft u ((sound.places c).loose u loose)));
        alone = λ d u v told run_u run_v.
            let before : (i : ℕ) → IsHidden d (w' i) → IsHidden d (w i) = λ i run.
            subst (λ p. IsHidden d p) (spared i (λ same. both_ways (w' t).shown (ap (λ v. (w' v).shown) (sym same) ∙ run.shown) s.shown)) run in
            elim (cases_eq d c) [
              | inl same ↦ turn.alone u v (subst (λ e. RunsOn e (w u)) same (before u run_u).runs) (subst (λ e. RunsOn e (w v)) same (before v run_v).runs)
              | inr other ↦ a.alone d u v (ap (λ p. is_open p) (sym (updated_else k.processors c d (entered_there t line there) other)) ∙ told)
                  (before u run_u) (before v run_v)
            ];
      },
    )

-- ---- a return

-- a function that runs may run there
may_run_there : (f : FunctionKnown) (line : Option Context) (there : KnownProcessor) (processor : ℕ) (p : Plain) → RunsAs f p → p.running ≡ true
    → p.base ≡ processor
    → IsAs line p.context → (p.shown ≡ false → half_of there p.context ≡ halves.Untold) → not (may_run processor line there f) ≡ false
may_run_there functions.Untold line there processor p runs running at told hidden = ap not (left_may line there p.context told (hidden (runs running)))
may_run_there functions.Rests line there processor p runs running at told hidden = absurd (both_ways p.running runs running)
may_run_there (functions.Runs c) line there processor p runs running at told hidden = ap not (eq-eqb c processor (sym runs.1 ∙ at))

left_is : (f : FunctionKnown) (there : KnownProcessor) (p : Plain) → RunsAs f p → p.running ≡ true → (p.shown ≡ false → half_of there p.context ≡ halves.Untold)
    → IsAs (left_for f there) p.context
left_is functions.Untold there p runs running hidden = context_left-as there p.context (hidden (runs running))
left_is functions.Rests there p runs running hidden = tt
left_is (functions.Runs c) there p runs running hidden = tt

home_stays : (f : FunctionKnown) (home : Option ℕ) (processor : ℕ) (old new : Plain) → IfSome home (λ b. old.armed ≡ true → old.base ≡ b)
    → old.base ≡ processor → new.armed ≡ old.armed → (new.armed ≡ true → Stays old new)
    → IfSome (home_after processor f home) (λ b. new.armed ≡ true → new.base ≡ b)
home_stays functions.Untold home processor old new h at armed stays = λ is. (stays is).base ∙ at
home_stays functions.Rests None processor old new h at armed stays = tt
home_stays functions.Rests (Some b) processor old new h at armed stays = λ is. (stays is).base ∙ h (sym armed ∙ is)
home_stays (functions.Runs c) None processor old new h at armed stays = tt
home_stays (functions.Runs c) (Some b) processor old new h at armed stays = λ is. (stays is).base ∙ h (sym armed ∙ is)

armed_stays : (a : ArmedKnown) (old new : Plain) → ArmedAs a old → new.armed ≡ old.armed → (new.armed ≡ true → Stays old new) → ArmedAs a new
armed_stays arms.Untold old new h armed stays = tt
armed_stays arms.No old new h armed stays = armed ∙ h
armed_stays (arms.Until soft expires) old new h armed stays =
    let s = stays (armed ∙ h.0) in (armed ∙ h.0, s.soft ∙ h.1, s.expires ∙ h.2)

rests_runs : (f : FunctionKnown) (p : Plain) → f ≡ functions.Rests → RunsAs f p → p.running ≡ true → ⊥
rests_runs functions.Untold p is runs running = absurd cc
rests_runs functions.Rests p is runs running = both_ways p.running runs running
rests_runs (functions.Runs c) p is runs running = absurd cc

pub forth_exit : (k : Knowledge) (w w' : PlainTimers) (t : ℕ) (site : Site) → Sound k → Agrees k w → IsExited site (w t) (w' t)
    → LeavesOne w (context_at site.context (w t).told) site.processor t → Spared t w w' → Goes k (kernel.Exit t site) w'
forth_exit k w w' t site sound a s by_told spared =
    let known = k.timers t in
    let c = site.processor in
    let there = k.processors c in
    let line = context_at site.context known.told in
    let context = context_at site.context known.context in
    let left = left_for known.function there in
    let new_there = updated k.processors c (exited_there t site known there) in
    let leaves : LeavesOne w line c t = subst (λ o. LeavesOne w (context_at site.context o) c t) (a.each t).told by_told in
    let here : IsAs line (w t).context = subst (λ o. IsAs (context_at site.context o) (w t).context) (a.each t).told s.context in
    let flags : IsAs site.context (w t).context = flags_as site.context known.told (w t).context here in
    let is : IsAs context (w t).context = line_as site.context known.context (w t).context flags (a.each t).context in
    let hidden : (w t).shown ≡ false → half_of there (w t).context ≡ halves.Untold =
    λ shown. same_half k.processors (sym s.at) refl ∙ (a.each t).hidden s.runs shown in
    let untold : (y : Context) → left ≡ Some y → IsHidden c (w t) × (is_open there ≡ false) = λ y some.
    let by = left_some known.function there y some in
    (record { runs = record { running = s.runs; at = s.at }; shown = (subst (λ f. RunsAs f (w t)) by.0 (a.each t).function) s.runs }, by.1) in (
      no_cause (misfits_of k (kernel.Exit t site)) (
        not_other site.context known.context (w t).context flags (a.each t).context,
        (may_run_there known.function line there c (w t) (a.each t).function s.runs s.at here hidden, tt),
      ),
      record {
        each = each_but new_there k.claims k.timers t _ w w' spared (record {
          armed = armed_stays known.armed (w t) (w' t) (a.each t).armed s.armed s.stays;
          function = s.still;
          home = home_stays known.function known.home c (w t) (w' t) (a.each t).home s.at s.armed s.stays;
          clock = clock_kept known.clock (w t) (w' t) (a.each t).clock s.keeps.clock;
          clocked = s.keeps.clocked ∙ (a.each t).clocked;
          context = subst (λ x. IsAs (context_at context left) x) (sym s.keeps.context)
              (left_as context left (w t).context is (left_is known.function there (w t) (a.each t).function s.runs hidden));
          told = s.told ∙ ap (λ o. context_at site.context o) (a.each t).told;
          order = s.order ∙ (a.each t).order;
          hidden = λ runs shown. absurd (both_ways (w' t).running s.still runs);
          waits = λ m some tells. absurd (rests_runs known.function (w t) (((sound.each t).order m (sym (a.each t).order ∙ sym s.order ∙ some)).rests)
              (a.each t).function s.runs);
        }) (λ u other. elsewhere k.processors new_there k.claims k.claims (k.timers u) (w u) (a.each u)
            (λ run shown. elim (cases_eq (w u).base c) [
              | inl at ↦
                  let on : IsHidden c (w u) = record { runs = record { running = run; at = at }; shown = shown } in
                  same_half new_there at refl ∙ ap (λ p. half_of p (w u).context) (updated_here k.processors c (exited_there t site known there))
                  ∙ stays_open (context_at line left) t there (w u).context (same_half k.processors (sym at) refl ∙ (a.each u).hidden run shown)
                  (λ closing. elim (closing_by line left (w u).context closing) [
                    | inl told ↦ leaves.other u (ap (λ o. is_some o) told) other on (sym (is_as line (w u).context (w t).context here told))
                    | inr some ↦ let by = untold (w u).context some in other (a.alone c u t by.1 on by.0)
                  ])
              | inr at ↦ ap (λ p. half_of p (w u).context) (updated_else k.processors c (w u).base (exited_there t site known there) at)
                  ∙ (a.each u).hidden run shown
            ])
            (a.each u).waits);
        alone = λ d u v told run_u run_v.
            let else_where : (i : ℕ) → IsHidden d (w' i) → i ≢ t =
            λ i run same. both_ways (w' t).running s.still (ap (λ v. (w' v).running) (sym same) ∙ run.runs.running) in
            let before : (i : ℕ) → IsHidden d (w' i) → IsHidden d (w i) = λ i run. subst (λ p. IsHidden d p) (spared i (else_where i run)) run in
            elim (cases_eq d c) [
              | inl same ↦
                  let closed_ : is_open (exited_there t site known there) ≡ false =
                  ap (λ p. is_open p) (sym (updated_here k.processors c (exited_there t site known there))) ∙ ap (λ e. is_open (new_there e)) (sym same) ∙ told in
                  let at : (i : ℕ) → IsHidden d (w' i) → IsHidden c (w i) = λ i run. subst (λ e. IsHidden e (w i)) same (before i run) in
                  elim (cases_Bool (is_open there)) [
                    | inl open_ ↦ leaves.alone u v
                        (told_first line known.function there open_ (closes (context_at line left) t there open_ closed_))
                        (else_where u run_u) (else_where v run_v) (at u run_u) (at v run_v)
                    | inr not_open ↦ a.alone c u v not_open (at u run_u) (at v run_v)
                  ]
              | inr other ↦ a.alone d u v (ap (λ p. is_open p) (sym (updated_else k.processors c d (exited_there t site known there) other)) ∙ told)
                  (before u run_u) (before v run_v)
            ];
      },
    )

-- ---- a beginning

pub agrees_at_first : (n : ℕ) (w : PlainTimers) → IsBeginning w → Agrees (no_knowledge n) w
agrees_at_first n w b = record {
  each = λ t. record {
    armed = tt;
    function = b.shown t;
    home = tt;
    clock = tt;
    clocked = b.clocked t;
    context = tt;
    told = b.told t;
    order = b.order t;
    hidden = λ run shown. untold (w t).context;
    waits = λ m some tells. tt;
  };
  alone = λ c u v told. absurd (not_open told);
}
  where
    untold : (x : Context) → half_of nothing_there x ≡ halves.Untold
    untold contexts.Hard = refl
    untold contexts.Soft = refl

    not_open : true ≡ false → ⊥
    not_open e = absurd cc

pub forth : (k : Knowledge) (e : KernelEvent) (w w' : PlainTimers) → Sound k → Agrees k w → ShowsEvent k.count e w w' → Goes k e w'
forth k (kernel.SetUp t clock context) w w' sound a s = forth_set_up k w w' t clock context a s.0 s.1
forth k (kernel.Start t soft expires was) w w' sound a s = forth_start k w w' t soft expires was sound a s.0 s.1
forth k (kernel.Cancel t) w w' sound a s = forth_cancel k w w' t a s.0 s.1
forth k (kernel.Entry t site now) w w' sound a s = forth_entry k w w' t site now sound a s.0 s.1 s.2
forth k (kernel.Exit t site) w w' sound a s = forth_exit k w w' t site sound a s.0 s.1 s.2
forth k kernel.Lost w w' sound a s = (refl, agrees_at_first (k.count + 1) w' s)
