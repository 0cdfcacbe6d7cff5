-- A base agrees with the timers after each event of one of them: the half of the timer's context changes, and the other stays.
use Rattle.std.proofs.Common.{◌≡◌, ◌≢◌, ℕ, true, false, List, [], ◌∷◌, refl, sym, ap, ◌∙◌, subst, if◌then◌else◌, is_some}
use Rattle.std.proofs.Math.Logic.{⊎_elim}
use Rattle.std.proofs.lemmas.Bool.{cases_Bool, cases_eq, true≢false}
use Rattle.seq_timer.specs.declared.context.Context.{Context}
use Rattle.seq_timer.specs.declared.context.Context.TheVariants as contexts
use Rattle.seq_timer.specs.Events.{Event}
use Rattle.seq_timer.specs.Effects.{effect}
use Rattle.seq_timer.specs.Histories.{Entry, after_all}
use Rattle.seq_timer.specs.Steps.{Timer, Needs, after}
use Rattle.seq_timer.specs.Tables.{in_context, is_armed_on, is_context, no_timer, seen_in}
use Rattle.seq_timer.specs.Bases.{IsInNone, IsQueuedAs, IsQueuedIn, other_context}
use Rattle.seq_timer.specs.Halves.{Half, IsFreeFor, IsHalfOf, half_after, queue_of, wanted}
use Rattle.ktime.specs.declared.clock_id.ClockId.{ClockId}
use Rattle.ktime.specs.declared.clock_id.ClockId.TheVariants as clocks
use Rattle.timer_queue.specs.Pairs.{has_id}
use Rattle.timer_queue.proofs.Pairs.{has_id-expiry_of}
use Rattle.seq_timer.specs.Contents.{Content, IsContentOf, content_after, half_of, with_half}
use Rattle.seq_timer.proofs.Effects.{IsApart, by_effect}
use Rattle.seq_timer.proofs.Halves.{Changes, IsHalfOf-after, IsHalfOf-elsewhere, IsQueuedIn-from}

-- ---- contexts

pub is_context-same : (x : Context) → is_context x x ≡ true
is_context-same contexts.Hard = refl
is_context-same contexts.Soft = refl

pub same_context : (x y : Context) → is_context x y ≡ true → x ≡ y
same_context contexts.Hard contexts.Hard is = refl
same_context contexts.Hard contexts.Soft is = absurd (true≢false (sym is))
same_context contexts.Soft contexts.Hard is = absurd (true≢false (sym is))
same_context contexts.Soft contexts.Soft is = refl

pub half_of-here : (x : Context) (h : Half) (c : Content) → half_of x (with_half x h c) ≡ h
half_of-here contexts.Hard h c = refl
half_of-here contexts.Soft h c = refl

pub half_of-else : (x y : Context) (h : Half) (c : Content) → is_context x y ≡ false → half_of x (with_half y h c) ≡ half_of x c
half_of-else contexts.Hard contexts.Hard h c apart = absurd (true≢false apart)
half_of-else contexts.Hard contexts.Soft h c apart = refl
half_of-else contexts.Soft contexts.Hard h c apart = refl
half_of-else contexts.Soft contexts.Soft h c apart = absurd (true≢false apart)

pub declared-after_all : (t : Timer) (es : List Entry) → (after_all t es).declared ≡ t.declared
declared-after_all t [] = refl
declared-after_all t (e ∷ es) = declared-after_all (after t e.event) es ∙ (by_effect t e.event).declared

pub seen_here : (x : Context) (t : Timer) → is_context x t.declared.context ≡ true → seen_in x t ≡ t
seen_here x t is = ap (λ b. if b then t else no_timer) is

pub seen_own : (t : Timer) → seen_in t.declared.context t ≡ t
seen_own t = seen_here t.declared.context t (is_context-same t.declared.context)

pub seen_else : (x : Context) (t : Timer) → is_context x t.declared.context ≡ false → seen_in x t ≡ no_timer
seen_else x t apart = ap (λ b. if b then t else no_timer) apart

-- a timer that seems armed is of the context
pub seen_armed : (x : Context) (base : ℕ) (t : Timer) → is_armed_on base (seen_in x t) ≡ true → t ≡ seen_in x t
seen_armed x base t armed = ⊎_elim
    (λ own. sym (seen_here x t own))
    (λ other. absurd (true≢false (sym armed ∙ ap (is_armed_on base) (seen_else x t other))))
    (cases_Bool (is_context x t.declared.context))

-- ---- one timer has changed

module _ (f g : ℕ → Timer) (id : ℕ) (e : Event) (changes : Changes f g id (after (f id) e)) where
  its : (g id).declared ≡ (f id).declared
  its = ap (λ (t : Timer). t.declared) changes.itself ∙ (by_effect (f id) e).declared

  -- as its own context sees it, it has changed so
  changes_own : Changes (in_context (f id).declared.context f) (in_context (f id).declared.context g) id (after (f id) e)
  changes_own = record {
    itself = seen_here (f id).declared.context (g id) (ap (λ d. is_context (f id).declared.context d.context) its
        ∙ is_context-same (f id).declared.context) ∙ changes.itself;
    others = λ other apart. ap (seen_in (f id).declared.context) (changes.others other apart);
  }

  -- another context sees no change
  unchanged : (x : Context) → is_context x (f id).declared.context ≡ false → in_context x f ≡ in_context x g
  unchanged x apart = λ i k. each k i
    where
      each : (k : ℕ) → in_context x f k ≡ in_context x g k
      each k = ⊎_elim
          (λ (same : k ≡ id). subst (λ j. in_context x f j ≡ in_context x g j) (sym same)
          (seen_else x (f id) apart ∙ sym (seen_else x (g id) (ap (λ d. is_context x d.context) its ∙ apart))))
          (λ other. ap (seen_in x) (sym (changes.others k other)))
          (cases_eq k id)

  pub IsContentOf-after : (c : Content) → Needs (f id) e → IsApart (f id) → IsFreeFor (half_of (f id).declared.context c) (effect (f id) e).function
      → IsContentOf f (f id).base c → IsContentOf g (f id).base (content_after id (f id) e c)
  IsContentOf-after c needs apart free here = record { each = λ x. ⊎_elim (own x) (other x) (cases_Bool (is_context x (f id).declared.context)) }
    where
      y : Context
      y = (f id).declared.context

      h : Half
      h = half_after id (f id) e (half_of y c)

      F : ℕ → Timer
      F = in_context y f

      G : ℕ → Timer
      G = in_context y g

      kept : IsHalfOf G (f id).base h
      kept = subst (λ t. Needs t e → IsApart t → IsFreeFor (half_of y c) (effect t e).function → Changes F G id (after t e) → IsHalfOf F t.base (half_of y c)
          → IsHalfOf G t.base (half_after id t e (half_of y c))) (seen_own (f id)) (IsHalfOf-after F G id e (half_of y c))
          needs apart free changes_own (here.each y)

      own : (x : Context) → is_context x y ≡ true → IsHalfOf (in_context x g) (f id).base (half_of x (with_half y h c))
      own x same = subst (λ z. IsHalfOf (in_context z g) (f id).base (half_of z (with_half y h c))) (sym (same_context x y same))
          (subst (IsHalfOf G (f id).base) (sym (half_of-here y h c)) kept)

      other : (x : Context) → is_context x y ≡ false → IsHalfOf (in_context x g) (f id).base (half_of x (with_half y h c))
      other x apart = subst (IsHalfOf (in_context x g) (f id).base) (sym (half_of-else x y h c apart))
          (subst (λ k. IsHalfOf k (f id).base (half_of x c)) (unchanged x apart) (here.each x))

  pub IsContentOf-elsewhere : (base : ℕ) (c : Content) → Needs (f id) e → base ≢ (f id).base → IsContentOf f base c → IsContentOf g base c
  IsContentOf-elsewhere base c needs far here = record { each = λ x. ⊎_elim (own x) (other x) (cases_Bool (is_context x (f id).declared.context)) }
    where
      y : Context
      y = (f id).declared.context

      own : (x : Context) → is_context x y ≡ true → IsHalfOf (in_context x g) base (half_of x c)
      own x same = subst (λ z. IsHalfOf (in_context z g) base (half_of z c)) (sym (same_context x y same))
          (subst (λ t. Needs t e → base ≢ t.base → Changes (in_context y f) (in_context y g) id (after t e) → IsHalfOf (in_context y f) base (half_of y c)
          → IsHalfOf (in_context y g) base (half_of y c)) (seen_own (f id)) (IsHalfOf-elsewhere (in_context y f) (in_context y g) id e base (half_of y c))
          needs far changes_own (here.each y))

      other : (x : Context) → is_context x y ≡ false → IsHalfOf (in_context x g) base (half_of x c)
      other x apart = subst (λ k. IsHalfOf k base (half_of x c)) (unchanged x apart) (here.each x)

-- what a base that agrees with the timers gives to the next step

-- a timer of one context is none of the other's
apart_context : (y : Context) → is_context (other_context y) y ≡ false
apart_context contexts.Hard = refl
apart_context contexts.Soft = refl

never_queued : (id : ℕ) (f : ℕ → Timer) (base : ℕ) (c : Half) → f id ≡ no_timer → IsHalfOf f base c → IsInNone id c
never_queued id f base c none here = record { monotonic = out clocks.Monotonic; realtime = out clocks.Realtime; boottime = out clocks.Boottime }
  where
    out : (clock : ClockId) → has_id id (queue_of c clock) ≡ false
    out clock = has_id-expiry_of id (queue_of c clock) ∙ ap is_some ((here.queues clock).exact id ∙ ap (wanted base clock) none)

pub IsQueuedAs-from : (f : ℕ → Timer) (id : ℕ) (c : Content) → IsApart (f id) → IsContentOf f (f id).base c → IsQueuedAs id (f id) c
IsQueuedAs-from f id c apart here =
    let y = (f id).declared.context in record {
      own = subst (λ t. IsApart t → IsHalfOf (in_context y f) t.base (half_of y c) → IsQueuedIn id t.armed t.clock (half_of y c)) (seen_own (f id))
          (IsQueuedIn-from (in_context y f) id (half_of y c)) apart (here.each y);
      other = never_queued id (in_context (other_context y) f) (f id).base (half_of (other_context y) c)
          (seen_else (other_context y) (f id) (apart_context y)) (here.each (other_context y));
    }
