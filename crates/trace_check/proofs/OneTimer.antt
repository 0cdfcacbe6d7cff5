-- One timer of the model for a plain one, and what an event makes of it.
use Rattle.std.proofs.Common.{◌≡◌, ◌<◌, ◌≤◌, ℕ, ◌+◌, ◌*◌, ◌-◌, Bool, true, false, not, ◌&&◌, if◌then◌else◌, Option, Some, None, [], ◌∷◌, refl, sym, ap, subst, ◌∙◌, inl, inr, arith, nat_eq}
use Rattle.std.specs.Prelude.{IfSome, is_some}
use Rattle.std.proofs.lemmas.Bool.Decides.{nat_tests}
use Rattle.std.proofs.lemmas.Bool.{and_parts, both_ways, eq-eqb, eqb-true, not-false, not-true}
use Rattle.ktime.specs.Readings.{ClockReading, value_of}
use Rattle.ktime.specs.declared.clock_id.ClockId.{ClockId}
use Rattle.ktime.specs.declared.clock_id.ClockId.TheVariants as clocks
use Rattle.ktime.specs.declared.mode.Mode.TheVariants as modes
use Rattle.seq_timer.specs.declared.context.Context.{Context}
use Rattle.seq_timer.specs.declared.event.EventBy.TheVariants as events
use Rattle.seq_timer.specs.Calls.{asked_for, moves_first}
use Rattle.seq_timer.specs.Events.{Asked}
use Rattle.seq_timer.specs.Steps.{Timer, after, limited, may_send, opening, started}
use Rattle.trace_text.specs.declared.event.Site.{Site}
use Rattle.trace_check.specs.Fits as fits
use Rattle.trace_check.specs.Fits.{order_of}
use Rattle.trace_check.specs.Traced.{Goes, Traced, context_at}
use Rattle.trace_check.proofs.Plain.{IsCancelled, IsEntered, IsExited, IsSetUp, IsStarted, Plain}
use Rattle.trace_check.proofs.ToPlain.{keep_clock}

-- ---- from plain timers to the model

-- a timer of the model is this plain one, and its history has room for so many events
pub record Is (left : ℕ) (r : Traced) (p : Plain) : Type 0 where
  pub armed : is_some r.timer.armed ≡ p.armed
  pub running : is_some r.timer.running ≡ p.running
  pub clock : r.timer.clock ≡ p.clock
  pub context : r.timer.declared.context ≡ p.context
  pub still : r.timer.moving ≡ false
  pub base_armed : p.armed ≡ true → r.timer.base ≡ p.base
  pub base_running : p.running ≡ true → r.timer.base ≡ p.base
  pub soft : p.armed ≡ true → r.timer.soft ≡ p.soft
  pub expires : p.armed ≡ true → r.timer.expires ≡ p.expires
  pub clocked : r.clocked ≡ p.clocked
  pub told : r.told ≡ p.told
  pub order : r.order ≡ p.order
  pub tells : r.tells ≡ p.tells
  pub shown : r.shown ≡ p.shown
  pub room : r.timer.stamp + 2 * left ≤ r.timer.terms.limit
  pub near : r.timer.terms.reach ≡ 0

pub fewer : (left : ℕ) (r : Traced) (p : Plain) → Is (left + 1) r p → Is left r p
fewer left r p i = record {
  armed = i.armed;
  running = i.running;
  clock = i.clock;
  context = i.context;
  still = i.still;
  base_armed = i.base_armed;
  base_running = i.base_running;
  soft = i.soft;
  expires = i.expires;
  clocked = i.clocked;
  told = i.told;
  order = i.order;
  tells = i.tells;
  shown = i.shown;
  room = omega (arith, i.room);
  near = i.near;
}

-- a timer of the model for a plain one
abbrev pub some_timer : Plain → ℕ → Timer
some_timer p left = record {
  declared = record { clock = p.clock; context = p.context };
  clock = p.clock;
  base = p.base;
  soft = p.soft;
  expires = p.expires;
  armed = (if p.armed then Some 0 else None);
  running = (if p.running then Some 0 else None);
  moving = false;
  stamp = 0;
  terms = limited (2 * left);
}

abbrev pub traced_as : Plain → Timer → Traced
traced_as p timer = record { timer = timer; clocked = p.clocked; told = p.told; order = p.order; tells = p.tells; shown = p.shown }

pub some_if : (b : Bool) → is_some {T = ℕ} (if b then Some 0 else None) ≡ b
some_if true = refl
some_if false = refl

pub is_some_timer : (p : Plain) (left : ℕ) → Is left (traced_as p (some_timer p left)) p
is_some_timer p left = record {
  armed = some_if p.armed;
  running = some_if p.running;
  clock = refl;
  context = refl;
  still = refl;
  base_armed = λ is. refl;
  base_running = λ is. refl;
  soft = λ is. refl;
  expires = λ is. refl;
  clocked = refl;
  told = refl;
  order = refl;
  tells = refl;
  shown = refl;
  room = omega arith;
  near = refl;
}

-- ---- one timer

-- what an event makes of a timer of the model, where it makes this of the plain one
abbrev Makes : ℕ → (Traced → Traced → Type 0) → Traced → Plain → Type 0
Makes left Step r p' = (r' : Traced) × Step r r' × Is left r' p'

pub make_set_up : (left : ℕ) (clock : Option ClockId) (context : Option Context) (r : Traced) (p p' : Plain) → Is (left + 1) r p
    → IsSetUp clock context p p' → Makes left (fits.IsSetUp clock context) r p'
make_set_up left clock context r p p' i s = (
  traced_as p' (opening (record { clock = p'.clock; context = p'.context }) (limited (2 * left))),
  record {
    unarmed = i.armed ∙ s.unarmed;
    rests = i.running ∙ s.rests;
    fresh = (record { clock = p'.clock; context = p'.context }, 2 * left, refl);
    on = s.on;
    within = s.within;
    clocked = s.clocked;
    told = s.told;
    order = s.order;
  },
  record {
    armed = sym s.still;
    running = sym s.stopped;
    clock = refl;
    context = refl;
    still = refl;
    base_armed = λ is. absurd (both_ways p'.armed s.still is);
    base_running = λ is. absurd (both_ways p'.running s.stopped is);
    soft = λ is. absurd (both_ways p'.armed s.still is);
    expires = λ is. absurd (both_ways p'.armed s.still is);
    clocked = refl;
    told = refl;
    order = refl;
    tells = refl;
    shown = refl;
    room = omega arith;
    near = refl;
  },
)

pub make_cancel : (left : ℕ) (r : Traced) (p p' : Plain) → Is (left + 1) r p → IsCancelled p p' → Makes left fits.IsCancelled r p'
make_cancel left r p p' i s = (
  traced_as p' (after r.timer events.Cancel),
  record {
    goes = ((i.armed ∙ s.armed, i.running ∙ s.rests, i.still), refl);
    clocked = s.keeps.clocked ∙ sym i.clocked;
    told = s.told ∙ sym i.told;
    order = s.order;
  },
  record {
    armed = sym s.unarmed;
    running = i.running ∙ s.rests ∙ sym s.still;
    clock = i.clock ∙ sym s.keeps.clock;
    context = i.context ∙ sym s.keeps.context;
    still = i.still;
    base_armed = λ is. absurd (both_ways p'.armed s.unarmed is);
    base_running = λ is. absurd (both_ways p'.running s.still is);
    soft = λ is. absurd (both_ways p'.armed s.unarmed is);
    expires = λ is. absurd (both_ways p'.armed s.unarmed is);
    clocked = refl;
    told = refl;
    order = refl;
    tells = refl;
    shown = refl;
    room = omega (arith, i.room);
    near = i.near;
  },
)

-- what a line tells of a plain timer it tells of the one of the model
told_as : (a b : Option Context) {x y : Context} → a ≡ b → x ≡ y → IfSome a (λ z. y ≡ z) → IfSome b (λ z. x ≡ z)
told_as None None same is h = tt
told_as None (Some c) same is h = absurd cc
told_as (Some c) None same is h = tt
told_as (Some c) (Some d) {x = x} same is h = subst (λ o. IfSome o (λ z. x ≡ z)) same (is ∙ h)

-- a reading in which each clock shows this time
abbrev all_at : ℕ → ClockReading
all_at now = record { stamp = 0; mono = now; real = now; boot = now; changes = 0 }

shows_now : (clock : ClockId) (now : ℕ) → value_of clock (all_at now) ≡ now
shows_now clocks.Monotonic now = refl
shows_now clocks.Realtime now = refl
shows_now clocks.Boottime now = refl

pub make_entry : (left : ℕ) (site : Site) (now : ℕ) (r : Traced) (p p' : Plain) → Is (left + 1) r p → IsEntered site now p p'
    → Makes left (fits.IsEntered site now) r p'
make_entry left site now r p p' i s =
    let at : r.timer.base ≡ site.processor = i.base_armed s.armed ∙ s.at in
    let line : context_at site.context p.told ≡ context_at site.context r.told = ap (λ o. context_at site.context o) (sym i.told) in (
      traced_as p' (after r.timer (events.Claim site.processor (all_at now))),
      record {
        goes = (
          all_at now,
          shows_now r.timer.clock now,
          (
            (i.armed ∙ s.armed, sym at, i.running ∙ s.rests, i.still, omega (arith, i.soft s.armed, s.reached, shows_now r.timer.clock now)),
            refl,
          ),
        );
        context = told_as _ _ line i.context s.context;
        clocked = s.keeps.clocked ∙ sym i.clocked;
        told = s.told ∙ line;
        order = s.order;
        tells = i.tells ∙ s.tells ∙ ap (λ o. is_some o) line;
        shown = s.shown;
      },
      record {
        armed = sym s.unarmed;
        running = i.armed ∙ s.armed ∙ sym s.runs;
        clock = i.clock ∙ sym s.keeps.clock;
        context = i.context ∙ sym s.keeps.context;
        still = i.still;
        base_armed = λ is. at ∙ sym s.base;
        base_running = λ is. at ∙ sym s.base;
        soft = λ is. absurd (both_ways p'.armed s.unarmed is);
        expires = λ is. absurd (both_ways p'.armed s.unarmed is);
        clocked = refl;
        told = refl;
        order = refl;
        tells = refl;
        shown = refl;
        room = omega (arith, i.room);
        near = i.near;
      },
    )

pub make_exit : (left : ℕ) (site : Site) (r : Traced) (p p' : Plain) → Is (left + 1) r p → IsExited site p p' → Makes left (fits.IsExited site) r p'
make_exit left site r p p' i s =
    let at : r.timer.base ≡ site.processor = i.base_running s.runs ∙ s.at in
    let line : context_at site.context p.told ≡ context_at site.context r.told = ap (λ o. context_at site.context o) (sym i.told) in (
      traced_as p' (after r.timer (events.Finish false)),
      record {
        goes = (i.running ∙ s.runs, refl);
        base = at;
        context = told_as _ _ line i.context s.context;
        clocked = s.keeps.clocked ∙ sym i.clocked;
        told = s.told ∙ line;
        order = s.order ∙ sym i.order;
      },
      record {
        armed = i.armed ∙ sym s.armed;
        running = sym s.still;
        clock = i.clock ∙ sym s.keeps.clock;
        context = i.context ∙ sym s.keeps.context;
        still = i.still;
        base_armed = λ is. i.base_running s.runs ∙ sym (s.stays is).base;
        base_running = λ is. absurd (both_ways p'.running s.still is);
        soft = λ is. i.soft (sym s.armed ∙ is) ∙ sym (s.stays is).soft;
        expires = λ is. i.expires (sym s.armed ∙ is) ∙ sym (s.stays is).expires;
        clocked = refl;
        told = refl;
        order = refl;
        tells = refl;
        shown = refl;
        room = omega (arith, i.room);
        near = i.near;
      },
    )

-- what a start asks for
abbrev asks : ℕ → ℕ → ℕ → Asked
asks soft expires processor = asked_for modes.Keep soft (expires - soft) processor (all_at 0)

started_is : (n left soft expires processor : ℕ) (was : Option Bool) (r : Traced) (p p' : Plain) (t : Timer) → Is (left + 1) r p
    → IsStarted n soft expires was p p' → t.declared ≡ r.timer.declared → t.clock ≡ r.timer.clock → t.running ≡ r.timer.running → t.terms ≡ r.timer.terms
    → t.stamp + 1 ≤ r.timer.stamp + 2 → t.base ≡ p'.base → Is left (traced_as p' (started t (asks soft expires processor))) p'
started_is n left soft expires processor was r p p' t i s declared clock running terms stamp base = record {
  armed = sym s.armed;
  running = ap (λ o. is_some o) running ∙ i.running ∙ sym s.running;
  clock = keep_clock t.declared.clock t.clock ∙ clock ∙ i.clock ∙ sym s.keeps.clock;
  context = ap (λ d. d.context) declared ∙ i.context ∙ sym s.keeps.context;
  still = refl;
  base_armed = λ is. base;
  base_running = λ is. base;
  soft = λ is. omega (arith, s.early, s.late, s.from_soft);
  expires = λ is. omega (arith, s.early, s.late, s.to_hard);
  clocked = refl;
  told = refl;
  order = refl;
  tells = refl;
  shown = refl;
  room = omega (arith, i.room, stamp, ap (λ o. o.limit) terms);
  near = ap (λ o. o.reach) terms ∙ i.near;
}

-- a timer without a reach that rests, below its limit, may be sent to any base
may_go : (t : Timer) (base : ℕ) → t.terms.reach ≡ 0 → t.moving ≡ false → t.stamp < t.terms.limit → may_send t base ≡ true
may_go t base near still room = grind (arith, nat_tests)

-- a timer that is started without an Out is where it is started
stays_there : (run : Bool) (base asked : ℕ) → not run && not (nat_eq base asked) ≡ false → (run ≡ true → base ≡ asked) → base ≡ asked
stays_there true base asked moves runs_ = runs_ refl
stays_there false base asked moves runs_ = eqb-true base asked (not-false _ moves)

was_as : (was : Option Bool) {a b : Bool} → a ≡ b → IfSome was (λ x. b ≡ x) → IfSome was (λ x. a ≡ x)
was_as None same h = tt
was_as (Some x) same h = same ∙ h

pub make_start_by : (n left soft expires : ℕ) (was : Option Bool) (r : Traced) (p p' : Plain) → Is (left + 1) r p → IsStarted n soft expires was p p'
    → (first : Bool) → moves_first r.timer p'.base ≡ first
    → Makes left (fits.IsStarted n soft expires was) r p'
make_start_by n left soft expires was r p p' i s false moves =
    let asked = asks soft expires p'.base in
    let stays : r.timer.base ≡ p'.base = stays_there (is_some r.timer.running) r.timer.base p'.base moves
    (λ run. i.base_running (sym i.running ∙ run) ∙ sym (s.base (sym i.running ∙ run))) in (
      traced_as p' (started r.timer asked),
      record {
        goes = (
          p'.base,
          all_at 0,
          subst (λ b. Goes r.timer (if b then events.Out p'.base ∷ events.Start asked ∷ [] else events.Start asked ∷ [])
              (started r.timer asked)) (sym moves) ((inr (sym stays), inl (omega (arith, i.room))), refl),
        );
        from_soft = omega (arith, s.early, s.late);
        to_hard = omega (arith, s.early, s.late);
        was = was_as was i.armed s.was;
        clocked = s.keeps.clocked ∙ sym i.clocked;
        told = s.told ∙ sym i.told;
        order = s.order ∙ ap (λ b. order_of n b p.running) (sym i.clocked) ∙ ap (λ b. order_of n r.clocked b) (sym i.running);
        shown = s.shown ∙ sym i.shown;
      },
      started_is n left soft expires p'.base was r p p' r.timer i s refl refl refl refl (omega arith) stays,
    )
make_start_by n left soft expires was r p p' i s true moves =
    let asked = asks soft expires p'.base in
    let out = after r.timer (events.Out p'.base) in
    let parts = and_parts (not (is_some r.timer.running)) (not (nat_eq r.timer.base p'.base)) moves in
    let rested : is_some r.timer.running ≡ false = not-true _ parts.0 in
    let other : p'.base ≡ r.timer.base → ⊥ = λ same. both_ways _ (not-true _ parts.1) (eq-eqb _ _ (sym same)) in (
      traced_as p' (started out asked),
      record {
        goes = (
          p'.base,
          all_at 0,
          subst (λ b. Goes r.timer (if b then events.Out p'.base ∷ events.Start asked ∷ [] else events.Start asked ∷ [])
              (started out asked)) (sym moves) ((rested, other, may_go r.timer p'.base i.near i.still (omega (arith, i.room))), ((inr refl, inr refl), refl)),
        );
        from_soft = omega (arith, s.early, s.late);
        to_hard = omega (arith, s.early, s.late);
        was = was_as was i.armed s.was;
        clocked = s.keeps.clocked ∙ sym i.clocked;
        told = s.told ∙ sym i.told;
        order = s.order ∙ ap (λ b. order_of n b p.running) (sym i.clocked) ∙ ap (λ b. order_of n r.clocked b) (sym i.running);
        shown = s.shown ∙ sym i.shown;
      },
      started_is n left soft expires p'.base was r p p' out i s refl refl refl refl (omega arith) refl,
    )
