-- From plain timers to ones of the model: a history of the one kind is one of the other.
use Rattle.std.proofs.Common.{◌≡◌, ℕ, ◌+◌, true, not, ◌||◌, Option, List, [], ◌∷◌, refl, sym, ap, subst, ◌∙◌, inl, inr, nat_eq}
use Rattle.std.specs.Prelude.{is_some}
use Rattle.std.proofs.lemmas.Bool.{and_parts, cases_eq, eqb-true, false_from_ne_true}
use Rattle.seq_timer.specs.declared.context.Context.{Context}
use Rattle.seq_timer.specs.Calls.{moves_first}
use Rattle.seq_timer.specs.Systems.{updated}
use Rattle.seq_timer.specs.Tables.{rank, runs_on}
use Rattle.seq_timer.proofs.Systems.{updated_here, updated_else}
use Rattle.trace_text.specs.declared.event.KernelEvent.{KernelEvent}
use Rattle.trace_text.specs.declared.event.KernelEvent.TheVariants as kernel
use Rattle.trace_check.specs.Fits as fits
use Rattle.trace_check.specs.Fits.{order_of}
use Rattle.trace_check.specs.Traced as traced
use Rattle.trace_check.specs.Traced.{Goes, Spares, TracedTimers, Traced, context_at, is_ahead}
use Rattle.trace_check.proofs.Plain.{Happen, HasTurn, IsBeginning, LeavesOne, Plain, PlainTimers, RunsOn, ShowsEvent, Spared}
use Rattle.trace_check.proofs.OneTimer.{Is, fewer, is_some_timer, make_cancel, make_entry, make_exit, make_set_up, make_start_by, some_if, some_timer, traced_as}

-- ---- from plain timers to the model

abbrev pub AreAll : ℕ → TracedTimers → PlainTimers → Type 0
AreAll left w p = (t : ℕ) → Is left (w t) (p t)

pub first_timers : (p : PlainTimers) (left : ℕ) → IsBeginning p → (w : TracedTimers) × fits.IsBeginning w × AreAll left w p
first_timers p left b = (
  λ t. traced_as (p t) (some_timer (p t) left),
  record {
    still = λ t. refl;
    clocked = b.clocked;
    told = b.told;
    order = b.order;
    shown = λ t run. b.shown t (sym (some_if (p t).running) ∙ run);
  },
  λ t. is_some_timer (p t) left,
)

-- ---- all timers

all_but : (left t : ℕ) (w : TracedTimers) (p p' : PlainTimers) (r' : Traced) → AreAll (left + 1) w p → Spared t p p' → Is left r' (p' t)
    → AreAll left (updated w t r') p'
all_but left t w p p' r' all spared here u =
    elim (cases_eq u t) [
      | inl same ↦ subst (λ v. Is left (updated w t r' v) (p' v)) (sym same) (subst (λ r. Is left r (p' t)) (sym (updated_here w t r')) here)
      | inr other ↦ subst (λ r. Is left r (p' u)) (sym (updated_else w t u r' other))
          (subst (λ q. Is left (w u) q) (sym (spared u other)) (fewer left (w u) (p u) (all u)))
    ]

-- such timers of the model, and the event that led to them
abbrev Comes : ℕ → ℕ → KernelEvent → TracedTimers → PlainTimers → Type 0
Comes n left e w p' = (w' : TracedTimers) × fits.ShowsEvent n e w w' × AreAll left w' p'

spares_but : (w : TracedTimers) (t : ℕ) (r' : Traced) → Spares t w (updated w t r')
spares_but w t r' u other = updated_else w t u r' other

runs_plain : (left processor : ℕ) (r : Traced) (p : Plain) → Is left r p → runs_on processor r.timer ≡ true → RunsOn processor p
runs_plain left processor r p i run =
    let parts = and_parts (is_some r.timer.running) (nat_eq r.timer.base processor) run in
    let running = sym i.running ∙ parts.0 in
    record { running = running; at = sym (i.base_running running) ∙ eqb-true _ _ parts.1 }

turn_of : (left processor t : ℕ) (line : Option Context) (w : TracedTimers) (p : PlainTimers) → AreAll (left + 1) w p → HasTurn p line processor t
    → (p t).armed ≡ true → traced.IsNextThere w line processor t
turn_of left processor t line w p all turn armed_t = record {
  alone = λ u v run_u run_v. turn.alone u v (runs_plain _ processor (w u) (p u) (all u) run_u) (runs_plain _ processor (w v) (p v) (all v) run_v);
  inside = λ u run. (all u).context ∙ turn.inside u (runs_plain _ processor (w u) (p u) (all u) run);
  within = λ u run told. (all t).context
      ∙ turn.within u (runs_plain _ processor (w u) (p u) (all u) run) (ap (λ b. b || is_some line) (sym (all u).shown) ∙ told);
  first = λ u m n other told tells order_t order_u context kept.
      let on = and_parts _ (nat_eq (rank (w u).timer.clock) (rank (w t).timer.clock)) kept in
      let at = and_parts _ (nat_eq (w u).timer.base processor) on.0 in
      let armed_u = sym (all u).armed ∙ (and_parts (is_some (w u).timer.armed) (not (w u).timer.moving) at.0).0 in
      subst (λ e. is_ahead e m (w u).timer.expires n ≡ true) (sym ((all t).expires armed_t))
      (subst (λ e. is_ahead (p t).expires m e n ≡ true) (sym ((all u).expires armed_u))
      (turn.first u m n other told (sym (all u).tells ∙ tells) (sym (all t).order ∙ order_t) (sym (all u).order ∙ order_u)
      (sym (all u).context ∙ context ∙ (all t).context) armed_u (sym ((all u).base_armed armed_u) ∙ eqb-true _ _ at.1)
      (ap rank (sym (all u).clock) ∙ eqb-true _ _ on.1 ∙ ap rank (all t).clock)));
}

leaves_of : (left processor t : ℕ) (line : Option Context) (w : TracedTimers) (p : PlainTimers) → AreAll (left + 1) w p → LeavesOne p line processor t
    → traced.LeavesOne w line processor t
leaves_of left processor t line w p all leaves = record {
  other = λ u told other shown context. false_from_ne_true _ (λ run.
      leaves.other u told other (record { runs = runs_plain _ processor (w u) (p u) (all u) run; shown = sym (all u).shown ∙ shown })
      (sym (all u).context ∙ context ∙ (all t).context));
  alone = λ u v told other_u other_v shown_u shown_v run_u run_v. leaves.alone u v told other_u other_v
      (record { runs = runs_plain _ processor (w u) (p u) (all u) run_u; shown = sym (all u).shown ∙ shown_u })
      (record { runs = runs_plain _ processor (w v) (p v) (all v) run_v; shown = sym (all v).shown ∙ shown_v });
}

comes : (n left : ℕ) (e : KernelEvent) (w : TracedTimers) (p p' : PlainTimers) → AreAll (left + 1) w p → ShowsEvent n e p p' → Comes n left e w p'
comes n left (kernel.SetUp t clock context) w p p' all s =
    let m = make_set_up left clock context (w t) (p t) (p' t) (all t) s.0 in
    (updated w t m.0, (subst (λ r. fits.IsSetUp clock context (w t) r) (sym (updated_here w t m.0)) m.1, spares_but w t m.0), all_but left t w p p' m.0 all s.1 m.2)
comes n left (kernel.Start t soft expires was) w p p' all s =
    let m = make_start_by n left soft expires was (w t) (p t) (p' t) (all t) s.0 (moves_first (w t).timer (p' t).base) refl in (
      updated w t m.0,
      (subst (λ r. fits.IsStarted n soft expires was (w t) r) (sym (updated_here w t m.0)) m.1, spares_but w t m.0),
      all_but left t w p p' m.0 all s.1 m.2,
    )
comes n left (kernel.Cancel t) w p p' all s =
    let m = make_cancel left (w t) (p t) (p' t) (all t) s.0 in
    (updated w t m.0, (subst (λ r. fits.IsCancelled (w t) r) (sym (updated_here w t m.0)) m.1, spares_but w t m.0), all_but left t w p p' m.0 all s.1 m.2)
comes n left (kernel.Entry t site now) w p p' all s =
    let m = make_entry left site now (w t) (p t) (p' t) (all t) s.0 in (
      updated w t m.0,
      (
        subst (λ r. fits.IsEntered site now (w t) r) (sym (updated_here w t m.0)) m.1,
        subst (λ o. traced.IsNextThere w (context_at site.context o) site.processor t) (sym (all t).told)
            (turn_of left site.processor t (context_at site.context (p t).told) w p all s.1 s.0.armed),
        spares_but w t m.0,
      ),
      all_but left t w p p' m.0 all s.2 m.2,
    )
comes n left (kernel.Exit t site) w p p' all s =
    let m = make_exit left site (w t) (p t) (p' t) (all t) s.0 in (
      updated w t m.0,
      (
        subst (λ r. fits.IsExited site (w t) r) (sym (updated_here w t m.0)) m.1,
        subst (λ o. traced.LeavesOne w (context_at site.context o) site.processor t) (sym (all t).told)
            (leaves_of left site.processor t (context_at site.context (p t).told) w p all s.1),
        spares_but w t m.0,
      ),
      all_but left t w p p' m.0 all s.2 m.2,
    )
comes n left kernel.Lost w p p' all s = first_timers p' left s

-- how many events there are
abbrev pub size : List KernelEvent → ℕ
size [] = 0
size (e ∷ es) = size es + 1

pub model_history : (n : ℕ) (w : TracedTimers) (p : PlainTimers) (es : List KernelEvent) → AreAll (size es) w p → Happen n p es → fits.Happen n w es
model_history n w p [] all h = tt
model_history n w p (e ∷ es) all h =
    let c = comes n (size es) e w p h.0 all h.1 in (c.0, c.1, model_history (n + 1) c.0 h.0 es c.2 h.2)
