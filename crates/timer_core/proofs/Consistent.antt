-- All that is kept agrees after each event of one timer.
use Rattle.std.proofs.Common.{◌≡◌, ◌≢◌, ◌<◌, ◌≤◌, ℕ, zero, suc, true, false, List, [], ◌∷◌, set, length, Option, Some, None, refl, sym, ap, ◌∙◌, subst}
use Rattle.std.proofs.Math.Logic.{⊎_elim}
use Rattle.std.proofs.lemmas.Bool.{cases_eq, true≢false}
use Rattle.std.proofs.lemmas.List.{get_or-set_same, get_or-set_other, length-set}
use Rattle.seq_timer.specs.Events.{Event}
use Rattle.seq_timer.specs.declared.event.EventBy.TheVariants as events
use Rattle.seq_timer.specs.declared.effect.RunEffect.{RunEffect}
use Rattle.seq_timer.specs.declared.effect.RunEffect.TheVariants as functions
use Rattle.seq_timer.specs.Effects.{IsSentWithin, NeedsOfBases, effect}
use Rattle.seq_timer.specs.Steps.{Timer, Needs, after}
use Rattle.seq_timer.specs.Tables.{no_timer}
use Rattle.seq_timer.specs.Bases.{BaseState, IsQueuedAs, base_after, empty_base}
use Rattle.seq_timer.specs.Contents.{IsContentOf, half_of}
use Rattle.seq_timer.proofs.Effects.{IsSent, RunNeeds, by_effect, free_by, placed_by}
use Rattle.seq_timer.proofs.Halves.{Changes, apart-after}
use Rattle.seq_timer.proofs.Contents.{IsContentOf-after, IsContentOf-elsewhere, IsQueuedAs-from}
use Rattle.seq_timer.specs.Calls.{step_all}
use Rattle.timer_core.specs.Kept.{Agrees, AreAllowed, IsBaseFree, IsConsistent, IsSameSize, Kept, Makes, Permits, after_event, base_at, content_at, timer_in}

-- ---- the timers and bases after an event

pub timer-itself : (k : Kept) (id : ℕ) (e : Event) → id < length k.timers → timer_in (after_event k id e) id ≡ after (timer_in k id) e
timer-itself k id e within = get_or-set_same k.timers id (after (timer_in k id) e) no_timer within

pub timer-other : (k : Kept) (id other : ℕ) (e : Event) → other ≢ id → timer_in (after_event k id e) other ≡ timer_in k other
timer-other k id other e apart = get_or-set_other k.timers id other (after (timer_in k id) e) no_timer apart

pub changes : (k : Kept) (id : ℕ) (e : Event) → id < length k.timers → Changes (timer_in k) (timer_in (after_event k id e)) id (after (timer_in k id) e)
changes k id e within = record { itself = timer-itself k id e within; others = λ other apart. timer-other k id other e apart }

-- an event of a state that is seen as another
pub after_event-seen : (k seen new : Kept) (id : ℕ) (e : Event) → k ≡ seen → new ≡ after_event k id e → new ≡ after_event seen id e
after_event-seen k seen new id e is made = made ∙ ap (λ m. after_event m id e) is

pub size-after : (k : Kept) (id : ℕ) (e : Event) → IsSameSize k (after_event k id e)
size-after k id e = record {
  timers = length-set k.timers id (after (timer_in k id) e);
  bases = length-set k.bases (timer_in k id).base (base_after id (timer_in k id) e (base_at k (timer_in k id).base));
}

base-here : (k : Kept) (id : ℕ) (e : Event) → (timer_in k id).base < length k.bases
    → base_at (after_event k id e) (timer_in k id).base ≡ base_after id (timer_in k id) e (base_at k (timer_in k id).base)
base-here k id e inside = get_or-set_same k.bases (timer_in k id).base (base_after id (timer_in k id) e (base_at k (timer_in k id).base))
    (empty_base 0) inside

base-else : (k : Kept) (id base : ℕ) (e : Event) → base ≢ (timer_in k id).base → base_at (after_event k id e) base ≡ base_at k base
base-else k id base e apart = get_or-set_other k.bases (timer_in k id).base base
    (base_after id (timer_in k id) e (base_at k (timer_in k id).base)) (empty_base 0) apart

-- what holds of the timer, and of each other before, holds of each
each_timer : (k : Kept) (id : ℕ) (e : Event) (P : Timer → Type 0) → id < length k.timers → P (after (timer_in k id) e)
    → ((other : ℕ) → P (timer_in k other)) → (other : ℕ) → P (timer_in (after_event k id e) other)
each_timer k id e P within this those other = ⊎_elim
    (λ (same : other ≡ id). subst (λ i. P (timer_in (after_event k id e) i)) (sym same) (subst P (sym (timer-itself k id e within)) this))
    (λ apart. subst P (sym (timer-other k id other e apart)) (those other))
    (cases_eq other id)

-- ---- it agrees

pub queued : (k : Kept) (id : ℕ) → Agrees k → IsQueuedAs id (timer_in k id) (content_at k (timer_in k id).base)
queued k id all = IsQueuedAs-from (timer_in k) id (content_at k (timer_in k id).base) (all.apart id) (all.contents (timer_in k id).base)

pub agrees-after : (k : Kept) (id : ℕ) (e : Event) → Agrees k → id < length k.timers → Needs (timer_in k id) e → Permits k id e → Agrees (after_event k id e)
agrees-after k id e all within needs permits =
    let t = timer_in k id in
    let now = after t e in
    let new = after_event k id e in
    let sizes = size-after k id e in
    let free = free_by (λ reading. IsBaseFree k id) (length k.bases) (half_of t.declared.context (content_at k t.base)) (λ reading is. is)
    (effect t e).function (effect t e).sent permits in
    let one = changes k id e within in record {
      contents = λ base. ⊎_elim
          (λ (here : base ≡ t.base). subst (λ b. IsContentOf (timer_in new) b (content_at new b)) (sym here)
          (subst (λ (b : BaseState). IsContentOf (timer_in new) t.base b.content) (sym (base-here k id e (all.placed id)))
          (IsContentOf-after (timer_in k) (timer_in new) id e one (content_at k t.base) needs (all.apart id) free
          (all.contents t.base))))
          (λ apart. subst (λ (b : BaseState). IsContentOf (timer_in new) base b.content) (sym (base-else k id base e apart))
          (IsContentOf-elsewhere (timer_in k) (timer_in new) id e one base (content_at k base) needs apart (all.contents base)))
          (cases_eq base t.base);
      rooms = λ base inside. ⊎_elim
          (λ (here : base ≡ t.base). ap (λ b. (base_at new b).room) here ∙ ap (λ (b : BaseState). b.room) (base-here k id e (all.placed id))
          ∙ all.rooms t.base (all.placed id) ∙ sym sizes.timers)
          (λ apart. ap (λ (b : BaseState). b.room) (base-else k id base e apart) ∙ all.rooms base (subst (λ n. base < n) sizes.bases inside)
          ∙ sym sizes.timers)
          (cases_eq base t.base);
      placed = each_timer k id e (λ x. x.base < length new.bases) within
          (subst (λ n. now.base < n) (sym sizes.bases) (placed_by (λ reading. IsBaseFree k id) (length k.bases) t e needs permits (all.placed id)))
          (λ other. subst (λ n. (timer_in k other).base < n) (sym sizes.bases) (all.placed other));
      apart = each_timer k id e (λ x. x.moving ≡ true → (x.armed ≡ None) × (x.running ≡ None)) within (apart-after t e needs (all.apart id)) all.apart;
      few_bases = subst (λ n. n ≤ 64) (sym sizes.bases) all.few_bases;
      few_timers = subst (λ n. n ≤ 4294967295) (sym sizes.timers) all.few_timers;
    }

-- ---- a call of one event, and one of two

pub makes-one : (k : Kept) (id : ℕ) (e : Event) → id < length k.timers → Needs (timer_in k id) e → Makes k id (e ∷ []) (after_event k id e)
makes-one k id e within needs = record {
  within = within;
  allowed = (needs, tt);
  kept = refl;
  timers = refl;
  timer = timer-itself k id e within;
  others = λ other apart. timer-other k id other e apart;
}

pub set_twice : {A : Type 0} (xs : List A) (i : ℕ) (a b : A) → set (set xs i a) i b ≡ set xs i b
set_twice [] i a b = refl
set_twice (x ∷ xs) zero a b = refl
set_twice (x ∷ xs) (suc i) a b = ap (λ ys. x ∷ ys) (set_twice xs i a b)

pub makes-two : (k : Kept) (id : ℕ) (d e : Event) → id < length k.timers → AreAllowed (timer_in k id) (d ∷ e ∷ [])
    → Makes k id (d ∷ e ∷ []) (after_event (after_event k id d) id e)
makes-two k id d e within allowed =
    let mid = after_event k id d in
    let here = timer-itself k id d within in
    let there = subst (λ n. id < n) (sym (size-after k id d).timers) within in record {
      within = within;
      allowed = allowed;
      kept = refl;
      timers = ap (λ t. set (set k.timers id (after (timer_in k id) d)) id (after t e)) here
          ∙ set_twice k.timers id (after (timer_in k id) d) (after (after (timer_in k id) d) e);
      timer = timer-itself mid id e there ∙ ap (λ t. after t e) here;
      others = λ other apart. timer-other mid id other e apart ∙ timer-other k id other d apart;
    }

pub still-after : (k new : Kept) (id : ℕ) (es : List Event) → Makes k id es new → ((other : ℕ) → (timer_in k other).moving ≡ false)
    → (step_all (timer_in k id) es).moving ≡ false → (other : ℕ) → (timer_in new other).moving ≡ false
still-after k new id es makes still now other = ⊎_elim
    (λ (same : other ≡ id). ap (λ i. (timer_in new i).moving) same ∙ ap (λ (t : Timer). t.moving) makes.timer ∙ now)
    (λ apart. ap (λ (t : Timer). t.moving) (makes.others other apart) ∙ still other)
    (cases_eq other id)

-- what comes after an Out, and ends the move, needs nothing of the bases
permits-moving : (k : Kept) (id : ℕ) (e : Event) → Needs (timer_in k id) e → (timer_in k id).moving ≡ true → (after (timer_in k id) e).moving ≡ false
    → Permits k id e
permits-moving k id e needs moves still = by (effect t e).function (effect t e).sent ((by_effect t e).needs needs).function (by_effect t e).sent
  where
    t : Timer
    t = timer_in k id

    sent_within : (sent : Option ℕ) → IsSent sent t (after t e) → IsSentWithin (length k.bases) sent
    sent_within None is = tt
    sent_within (Some base) is = absurd (true≢false (sym is.1 ∙ still))

    by : (f : RunEffect) (sent : Option ℕ) → RunNeeds f (effect t e).by_claimer t (after t e) → IsSent sent t (after t e)
        → NeedsOfBases (λ reading. IsBaseFree k id) (length k.bases) f sent
    by functions.Stays sent runs is = sent_within sent is
    by (functions.Begins reading) sent runs is = absurd (true≢false (sym moves ∙ runs.still))
    by functions.Ends sent runs is = sent_within sent is

pub consistent-one : (k : Kept) (id : ℕ) (e : Event) → IsConsistent k → id < length k.timers → Needs (timer_in k id) e → Permits k id e
    → (after (timer_in k id) e).moving ≡ false → IsConsistent (after_event k id e)
consistent-one k id e all within needs permits still =
    record {
      agrees = agrees-after k id e all.agrees within needs permits;
      still = still-after k (after_event k id e) id (e ∷ []) (makes-one k id e within needs) all.still still;
    }

-- what a second event of the timer needs, of the state that the first has led to
pub needs-next : (k : Kept) (id : ℕ) (d e : Event) → id < length k.timers → Needs (after (timer_in k id) d) e → Needs (timer_in (after_event k id d) id) e
needs-next k id d e within needs = subst (λ t. Needs t e) (sym (timer-itself k id d within)) needs

pub permits-next : (k : Kept) (id base : ℕ) (e : Event) → id < length k.timers → Needs (after (timer_in k id) (events.Out base)) e
    → (after (after (timer_in k id) (events.Out base)) e).moving ≡ false → Permits (after_event k id (events.Out base)) id e
permits-next k id base e within needs still =
    permits-moving (after_event k id (events.Out base)) id e (needs-next k id (events.Out base) e within needs)
    (ap (λ (t : Timer). t.moving) (timer-itself k id (events.Out base) within))
    (ap (λ (t : Timer). (after t e).moving) (timer-itself k id (events.Out base) within) ∙ still)

pub consistent-two : (k : Kept) (id base : ℕ) (e : Event) → IsConsistent k → id < length k.timers → base < length k.bases
    → AreAllowed (timer_in k id) (events.Out base ∷ e ∷ [])
    → (step_all (timer_in k id) (events.Out base ∷ e ∷ [])).moving ≡ false → IsConsistent (after_event (after_event k id (events.Out base)) id e)
consistent-two k id base e all within inside allowed still =
    let out = events.Out base in
    let mid = after_event k id out in
    let needs = needs-next k id out e within allowed.1.0 in
    let there = subst (λ n. id < n) (sym (size-after k id out).timers) within in
    let all_mid = agrees-after k id out all.agrees within allowed.0 inside in record {
      agrees = agrees-after mid id e all_mid there needs (permits-next k id base e within allowed.1.0 still);
      still = still-after k (after_event mid id e) id (out ∷ e ∷ []) (makes-two k id out e within allowed) all.still still;
    }
