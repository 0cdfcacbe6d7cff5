-- From timers of the model to plain ones: a history of the one kind is one of the other.
use Rattle.std.proofs.Common.{◌≡◌, ℕ, ◌+◌, ◌-◌, Bool, true, false, if◌then◌else◌, Option, List, [], ◌∷◌, refl, sym, ap, subst, ◌∙◌, inl, inr, arith}
use Rattle.std.specs.Prelude.{IfSome, is_some}
use Rattle.std.proofs.lemmas.Bool.{and_from, both_ways, cases_eq, eq-eqb, not_from_false}
use Rattle.ktime.specs.Readings.{ClockReading}
use Rattle.ktime.specs.Times.{effective_clock}
use Rattle.ktime.specs.declared.clock_id.ClockId.{ClockId}
use Rattle.ktime.specs.declared.clock_id.ClockId.TheVariants as clocks
use Rattle.ktime.specs.declared.mode.Mode.TheVariants as modes
use Rattle.seq_timer.specs.Tables.{runs_on}
use Rattle.seq_timer.specs.declared.context.Context.{Context}
use Rattle.seq_timer.specs.declared.event.EventBy.TheVariants as events
use Rattle.seq_timer.specs.Calls.{asked_for, moves_first}
use Rattle.trace_text.specs.declared.event.KernelEvent.{KernelEvent}
use Rattle.trace_text.specs.declared.event.KernelEvent.TheVariants as kernel
use Rattle.trace_check.specs.Fits as fits
use Rattle.trace_check.specs.Fits.{order_of}
use Rattle.trace_check.specs.Traced as traced
use Rattle.trace_check.specs.Traced.{Goes, Spares, TracedTimers, Traced, context_at}
use Rattle.trace_check.proofs.Plain.{Happen, HasTurn, IsBeginning, IsStarted, LeavesOne, Plain, PlainTimers, RunsOn, ShowsEvent, Spared}

pub keep_clock : (declared present : ClockId) → effective_clock declared modes.Keep present ≡ present
keep_clock clocks.Monotonic present = refl
keep_clock clocks.Realtime present = refl
keep_clock clocks.Boottime present = refl

-- ---- from the model to plain timers

abbrev pub plain_of : Traced → Plain
plain_of r = record {
  armed = is_some r.timer.armed;
  soft = r.timer.soft;
  expires = r.timer.expires;
  clock = r.timer.clock;
  base = r.timer.base;
  running = is_some r.timer.running;
  context = r.timer.declared.context;
  clocked = r.clocked;
  told = r.told;
  order = r.order;
  tells = r.tells;
  shown = r.shown;
}

abbrev pub plain_all : TracedTimers → PlainTimers
plain_all w t = plain_of (w t)

spared_plain : (t : ℕ) (w w' : TracedTimers) → Spares t w w' → Spared t (plain_all w) (plain_all w')
spared_plain t w w' spares u other = ap plain_of (spares u other)

-- no timer is on the move between two events
abbrev pub AreStill : TracedTimers → Type 0
AreStill w = (t : ℕ) → (w t).timer.moving ≡ false

still_all : (t : ℕ) (w w' : TracedTimers) → Spares t w w' → (w' t).timer.moving ≡ false → AreStill w → AreStill w'
still_all t w w' spares here still u =
    elim (cases_eq u t) [
      | inl same ↦ subst (λ v. (w' v).timer.moving ≡ false) (sym same) here
      | inr other ↦ subst (λ r. r.timer.moving ≡ false) (sym (spares u other)) (still u)
    ]

-- a start that is told leaves a timer so
start_plain : (n soft expires processor : ℕ) (was : Option Bool) (reading : ClockReading) (old new : Traced) (first : Bool)
    → moves_first old.timer processor ≡ first
    → Goes old.timer (if first then events.Out processor ∷ events.Start (asked_for modes.Keep soft (expires - soft) processor reading) ∷ [] else events.Start
    (asked_for modes.Keep soft (expires - soft) processor reading) ∷ []) new.timer
    → new.timer.soft ≡ soft → new.timer.expires ≡ expires → IfSome was (λ b. is_some old.timer.armed ≡ b) → new.clocked ≡ old.clocked
    → new.told ≡ old.told → new.order ≡ order_of n old.clocked (is_some old.timer.running) → new.shown ≡ old.shown
    → IsStarted n soft expires was (plain_of old) (plain_of new) × (new.timer.moving ≡ false)
start_plain n soft expires processor was reading old new false moves goes from_soft to_hard is_was clocked told order shown =
    let is = goes.1 in (
      record {
        keeps = record {
          clock = ap (λ t. t.clock) is ∙ keep_clock old.timer.declared.clock old.timer.clock;
          context = ap (λ t. t.declared.context) is;
          clocked = clocked;
        };
        told = told;
        order = order;
        early = omega (arith, sym from_soft ∙ ap (λ t. t.soft) is, sym to_hard ∙ ap (λ t. t.expires) is);
        late = omega (arith, sym to_hard ∙ ap (λ t. t.expires) is);
        was = is_was;
        armed = ap (λ t. is_some t.armed) is;
        from_soft = from_soft;
        to_hard = to_hard;
        running = ap (λ t. is_some t.running) is;
        base = λ run. ap (λ t. t.base) is;
        shown = shown;
      },
      ap (λ t. t.moving) is,
    )
start_plain n soft expires processor was reading old new true moves goes from_soft to_hard is_was clocked told order shown =
    let is = goes.1.1 in (
      record {
        keeps = record {
          clock = ap (λ t. t.clock) is ∙ keep_clock old.timer.declared.clock old.timer.clock;
          context = ap (λ t. t.declared.context) is;
          clocked = clocked;
        };
        told = told;
        order = order;
        early = omega (arith, sym from_soft ∙ ap (λ t. t.soft) is, sym to_hard ∙ ap (λ t. t.expires) is);
        late = omega (arith, sym to_hard ∙ ap (λ t. t.expires) is);
        was = is_was;
        armed = ap (λ t. is_some t.armed) is;
        from_soft = from_soft;
        to_hard = to_hard;
        running = ap (λ t. is_some t.running) is;
        base = λ run. absurd (both_ways (is_some old.timer.running) goes.0.0 run);
        shown = shown;
      },
      ap (λ t. t.moving) is,
    )

runs_there : (processor : ℕ) (r : Traced) → RunsOn processor (plain_of r) → runs_on processor r.timer ≡ true
runs_there processor r runs = and_from _ _ runs.running (eq-eqb _ _ runs.at)

turn_plain : (w : TracedTimers) (line : Option Context) (processor t : ℕ) → AreStill w → traced.IsNextThere w line processor t
    → HasTurn (plain_all w) line processor t
turn_plain w line processor t still turn = record {
  alone = λ u v run_u run_v. turn.alone u v (runs_there processor (w u) run_u) (runs_there processor (w v) run_v);
  inside = λ u run. turn.inside u (runs_there processor (w u) run);
  within = λ u run told. turn.within u (runs_there processor (w u) run) told;
  first = λ u m n other told tells order_t order_u context armed at clock.
      turn.first u m n other told tells order_t order_u context
      (and_from _ _ (and_from _ _ (and_from _ _ armed (not_from_false _ (still u))) (eq-eqb _ _ at)) (eq-eqb _ _ clock));
}

leaves_plain : (w : TracedTimers) (line : Option Context) (processor t : ℕ) → traced.LeavesOne w line processor t → LeavesOne (plain_all w) line processor t
leaves_plain w line processor t leaves = record {
  other = λ u told other hidden context. both_ways _ (leaves.other u told other hidden.shown context) (runs_there processor (w u) hidden.runs);
  alone = λ u v told other_u other_v hidden_u hidden_v. leaves.alone u v told other_u other_v hidden_u.shown hidden_v.shown
      (runs_there processor (w u) hidden_u.runs) (runs_there processor (w v) hidden_v.runs);
}

pub first_plain : (w : TracedTimers) → fits.IsBeginning w → IsBeginning (plain_all w)
first_plain w b = record { clocked = b.clocked; told = b.told; order = b.order; shown = b.shown }

shows_plain : (n : ℕ) (e : KernelEvent) (w w' : TracedTimers) → AreStill w → fits.ShowsEvent n e w w'
    → ShowsEvent n e (plain_all w) (plain_all w') × AreStill w'
shows_plain n (kernel.SetUp t clock context) w w' still s =
    let fresh = s.0.fresh in
    let is = fresh.2 in (
      (
        record {
          unarmed = s.0.unarmed;
          rests = s.0.rests;
          still = ap (λ r. is_some r.armed) is;
          stopped = ap (λ r. is_some r.running) is;
          on = s.0.on;
          within = s.0.within;
          clocked = s.0.clocked;
          told = s.0.told;
          order = s.0.order;
        },
        spared_plain t w w' s.1,
      ),
      still_all t w w' s.1 (ap (λ r. r.moving) is) still,
    )
shows_plain n (kernel.Start t soft expires was) w w' still s =
    let g = s.0.goes in
    let p = start_plain n soft expires g.0 was g.1 (w t) (w' t) (moves_first (w t).timer g.0) refl g.2 s.0.from_soft s.0.to_hard s.0.was s.0.clocked s.0.told
    s.0.order s.0.shown in
    ((p.0, spared_plain t w w' s.1), still_all t w w' s.1 p.1 still)
shows_plain n (kernel.Cancel t) w w' still s =
    let needs = s.0.goes.0 in
    let is = s.0.goes.1 in (
      (
        record {
          keeps = record { clock = ap (λ r. r.clock) is; context = ap (λ r. r.declared.context) is; clocked = s.0.clocked };
          told = s.0.told;
          order = s.0.order;
          armed = needs.0;
          rests = needs.1;
          unarmed = ap (λ r. is_some r.armed) is;
          still = ap (λ r. is_some r.running) is ∙ needs.1;
        },
        spared_plain t w w' s.1,
      ),
      still_all t w w' s.1 (ap (λ r. r.moving) is ∙ still t) still,
    )
shows_plain n (kernel.Entry t site now) w w' still s =
    let g = s.0.goes in
    let needs = g.2.0 in
    let is = g.2.1 in (
      (
        record {
          keeps = record { clock = ap (λ r. r.clock) is; context = ap (λ r. r.declared.context) is; clocked = s.0.clocked };
          told = s.0.told;
          order = s.0.order;
          tells = s.0.tells;
          shown = s.0.shown;
          context = s.0.context;
          armed = needs.0;
          rests = needs.2;
          at = sym needs.1;
          reached = omega (arith, needs.4, g.1);
          unarmed = ap (λ r. is_some r.armed) is;
          runs = ap (λ r. is_some r.running) is ∙ needs.0;
          base = ap (λ r. r.base) is ∙ sym needs.1;
        },
        turn_plain w (context_at site.context (w t).told) site.processor t still s.1,
        spared_plain t w w' s.2,
      ),
      still_all t w w' s.2 (ap (λ r. r.moving) is ∙ still t) still,
    )
shows_plain n (kernel.Exit t site) w w' still s =
    let needs = s.0.goes.0 in
    let is = s.0.goes.1 in (
      (
        record {
          keeps = record { clock = ap (λ r. r.clock) is; context = ap (λ r. r.declared.context) is; clocked = s.0.clocked };
          told = s.0.told;
          order = s.0.order;
          context = s.0.context;
          runs = needs;
          at = s.0.base;
          still = ap (λ r. is_some r.running) is;
          armed = ap (λ r. is_some r.armed) is;
          stays = λ armed. record { base = ap (λ r. r.base) is; soft = ap (λ r. r.soft) is; expires = ap (λ r. r.expires) is };
        },
        leaves_plain w (context_at site.context (w t).told) site.processor t s.1,
        spared_plain t w w' s.2,
      ),
      still_all t w w' s.2 (ap (λ r. r.moving) is ∙ still t) still,
    )
shows_plain n kernel.Lost w w' still s = (first_plain w' s, s.still)

pub plain_history : (n : ℕ) (w : TracedTimers) (es : List KernelEvent) → AreStill w → fits.Happen n w es → Happen n (plain_all w) es
plain_history n w [] still h = tt
plain_history n w (e ∷ es) still h =
    let s = shows_plain n e w h.0 still h.1 in (plain_all h.0, s.0, plain_history (n + 1) h.0 es s.1 h.2)
