-- A base agrees with the timers after each event of one of them, moving ones included.
use Rattle.std.proofs.Common.{◌≡◌, ◌≢◌, ℕ, Bool, true, false, List, Option, Some, None, nat_eq, map, unwrap_or, if◌then◌else◌, arith, refl, sym, ap, ◌∙◌, subst, is_some}
use Rattle.std.specs.List.{IsDistinct}
use Rattle.std.proofs.Math.Logic.{⊎_elim}
use Rattle.std.proofs.lemmas.Bool.{cases_Bool, cases_eq, ne_eqb, true≢false}
use Rattle.std.proofs.lemmas.Bool.Decides.{nat_tests}
use Rattle.ktime.specs.declared.clock_id.ClockId.{ClockId}
use Rattle.timer_queue.specs.Pairs.{has_id, without, put, expiry_of, IsByExpiry}
use Rattle.timer_queue.proofs.Pairs.{has_id-expiry_of, expiry_of-without, expiry_of-put, IsDistinct-put, IsDistinct-without, IsByExpiry-put, IsByExpiry-without}
use Rattle.seq_timer.specs.Events.{Event}
use Rattle.seq_timer.specs.declared.effect.QueueEffect.{QueueEffect}
use Rattle.seq_timer.specs.declared.effect.QueueEffect.TheVariants as queues
use Rattle.seq_timer.specs.declared.effect.RunEffect.{RunEffect}
use Rattle.seq_timer.specs.declared.effect.RunEffect.TheVariants as functions
use Rattle.seq_timer.specs.Effects.{effect}
use Rattle.seq_timer.specs.Steps.{Timer, Needs, after}
use Rattle.seq_timer.specs.Tables.{rank}
use Rattle.seq_timer.specs.Bases.{IsQueuedIn, is_queued}
use Rattle.seq_timer.specs.Halves.{Half, IsHalfOf, IsFreeFor, IsQueueOf, half_after, dequeued, generation_in, queue_of, queued_by, requeued, run_by, running_on, wanted}
use Rattle.seq_timer.proofs.Effects.{IsApart, IsSent, QueueNeeds, RunNeeds, SentNeeds, armed_afterwards, by_effect, running_afterwards, some_of, wanted-unarmed}
use Rattle.seq_timer.proofs.Queues.{has_id-without, queue_of-dequeued, queue_of-enqueued, queue_of-run_by, running-enqueued}
use Rattle.ktime.specs.declared.clock_id.ClockId.TheVariants as clocks

-- ---- one timer by itself

-- a timer that is sent is neither armed nor running, and one that isn't is on the move no more
pub apart-after : (t : Timer) (e : Event) → Needs t e → IsApart t → IsApart (after t e)
apart-after t e needs apart = by_sent (effect t e).sent ((by_effect t e).needs needs).sent
  where
    by_sent : (sent : Option ℕ) → SentNeeds sent t (after t e) → IsApart (after t e)
    by_sent None still moves = absurd (true≢false (sym moves ∙ still apart))
    by_sent (Some base) told moves = (told.1, told.2)

wanted-armed : (clock : ClockId) (t : Timer) → is_some t.armed ≡ true → t.moving ≡ false
    → wanted t.base clock t ≡ (if nat_eq (rank t.clock) (rank clock) then Some t.expires else None)
wanted-armed clock t armed still = grind (arith, nat_tests)

pub wanted-elsewhere : (base : ℕ) (clock : ClockId) (t : Timer) → base ≢ t.base → wanted base clock t ≡ None
wanted-elsewhere base clock t apart = let off : nat_eq t.base base ≡ false = ne_eqb t.base base (λ e. apart (sym e)) in grind (arith, nat_tests)

pub running_on-elsewhere : (base : ℕ) (t : Timer) → base ≢ t.base → running_on base t ≡ None
running_on-elsewhere base t apart = let off : nat_eq t.base base ≡ false = ne_eqb t.base base (λ e. apart (sym e)) in grind (arith, nat_tests)

running_on-none : (base : ℕ) (t : Timer) → t.running ≡ None → running_on base t ≡ None
running_on-none base t none = grind (arith, nat_tests)

running_on-there : (base : ℕ) (t : Timer) → t.base ≡ base → running_on base t ≡ t.running
running_on-there base t there = grind (arith, nat_tests)

-- what runs on a base is of one timer
pub generation-apart : (id other generation : ℕ) (running : Option (ℕ × ℕ)) → generation_in id running ≡ Some generation
    → nat_eq id other ≡ false → generation_in other running ≡ None
generation-apart id other generation None here apart = cc
generation-apart id other generation (Some r) here apart = grind (arith, nat_tests)

-- ---- one timer has changed, and the others stay

pub record Changes (f g : ℕ → Timer) (id : ℕ) (now : Timer) : Type 0 where
  pub itself : g id ≡ now
  pub others : (other : ℕ) → other ≢ id → g other ≡ f other

each_queue : (f g : ℕ → Timer) (id : ℕ) (now : Timer) (base : ℕ) (clock : ClockId) (queue new : List (ℕ × ℕ)) → Changes f g id now
    → IsQueueOf f base clock queue
    → expiry_of id new ≡ wanted base clock now → ((other : ℕ) → nat_eq id other ≡ false → expiry_of other new ≡ expiry_of other queue)
    → IsDistinct nat_eq (map (λ p. p.1) new) → IsByExpiry new → IsQueueOf g base clock new
each_queue f g id now base clock queue new changes here itself others once sorted = record {
  exact = λ other. ⊎_elim
      (λ (same : other ≡ id). subst (λ k. expiry_of k new ≡ wanted base clock (g k)) (sym same) (itself ∙ ap (wanted base clock) (sym changes.itself)))
      (λ apart. others other (ne_eqb id other (λ e. apart (sym e))) ∙ here.exact other ∙ ap (wanted base clock) (sym (changes.others other apart)))
      (cases_eq other id);
  once = once;
  by_expiry = sorted;
}

-- a queue stays where the timer is in it as before
queue-same : (f g : ℕ → Timer) (id : ℕ) (now : Timer) (base : ℕ) (clock : ClockId) (queue : List (ℕ × ℕ)) → Changes f g id now → IsQueueOf f base clock queue
    → wanted base clock now ≡ wanted base clock (f id) → IsQueueOf g base clock queue
queue-same f g id now base clock queue changes here same = each_queue f g id now base clock queue queue changes here
    (here.exact id ∙ sym same) (λ other apart. refl) here.once here.by_expiry

queue-without : (f g : ℕ → Timer) (id : ℕ) (now : Timer) (base : ℕ) (clock : ClockId) (queue : List (ℕ × ℕ)) → Changes f g id now
    → IsQueueOf f base clock queue
    → wanted base clock now ≡ None → IsQueueOf g base clock (without id queue)
queue-without f g id now base clock queue changes here none =
    each_queue f g id now base clock queue (without id queue) changes here
    (grind (arith, nat_tests, expiry_of-without id id queue) ∙ sym none)
    (λ other apart. grind (arith, nat_tests, expiry_of-without other id queue))
    (IsDistinct-without id queue here.once) (IsByExpiry-without id queue here.by_expiry)

queue-put : (f g : ℕ → Timer) (id : ℕ) (now : Timer) (base : ℕ) (clock : ClockId) (queue : List (ℕ × ℕ)) → Changes f g id now → IsQueueOf f base clock queue
    → wanted base clock now ≡ Some now.expires → IsQueueOf g base clock (put now.expires id (without id queue))
queue-put f g id now base clock queue changes here armed =
    let off = without id queue in
    let absent = has_id-without id queue in
    each_queue f g id now base clock queue (put now.expires id off) changes here
    (grind (arith, nat_tests, expiry_of-put id now.expires id off absent) ∙ sym armed)
    (λ other apart. grind (arith, nat_tests, expiry_of-put other now.expires id off absent, expiry_of-without other id queue))
    (IsDistinct-put now.expires id off absent (IsDistinct-without id queue here.once))
    (IsByExpiry-put now.expires id off (IsByExpiry-without id queue here.by_expiry))

queue-requeued : (f g : ℕ → Timer) (id : ℕ) (now : Timer) (clock : ClockId) (c : Half) → Changes f g id now → IsQueueOf f now.base clock (queue_of c clock)
    → is_some now.armed ≡ true → now.moving ≡ false → IsQueueOf g now.base clock (queue_of (requeued id now c) clock)
queue-requeued f g id now clock c changes here armed still =
    let queue = queue_of c clock in
    let is = wanted-armed clock now armed still in
    subst (IsQueueOf g now.base clock)
    (sym (queue_of-enqueued now.clock clock now.expires id (dequeued id c)
    ∙ ap (λ q. if nat_eq (rank now.clock) (rank clock) then put now.expires id q else q) (queue_of-dequeued id c clock)))
    (elim (nat_eq (rank now.clock) (rank clock)) as
    (λ b. wanted now.base clock now ≡ (if b then Some now.expires else None)
    → IsQueueOf g now.base clock (if b then put now.expires id (without id queue) else without id queue)) [
      | true ↦ λ is. queue-put f g id now now.base clock queue changes here is
      | false ↦ λ is. queue-without f g id now now.base clock queue changes here is
    ] is)

running-same : (f g : ℕ → Timer) (id : ℕ) (now : Timer) (base : ℕ) (running : Option (ℕ × ℕ)) → Changes f g id now
    → ((other : ℕ) → generation_in other running ≡ running_on base (f other))
    → running_on base now ≡ running_on base (f id) → (other : ℕ) → generation_in other running ≡ running_on base (g other)
running-same f g id now base running changes here same other = ⊎_elim
    (λ (is : other ≡ id). subst (λ k. generation_in k running ≡ running_on base (g k)) (sym is)
    (here id ∙ sym same ∙ ap (running_on base) (sym changes.itself)))
    (λ apart. here other ∙ ap (running_on base) (sym (changes.others other apart)))
    (cases_eq other id)

-- where another runs than before, and before none did but the timer's own
running-other : (f g : ℕ → Timer) (id : ℕ) (now : Timer) (base : ℕ) (running : Option (ℕ × ℕ)) → Changes f g id now
    → generation_in id running ≡ running_on base now
    → ((other : ℕ) → nat_eq id other ≡ false → (generation_in other running ≡ None) × (running_on base (f other) ≡ None)) → (other : ℕ)
    → generation_in other running ≡ running_on base (g other)
running-other f g id now base running changes itself none other = ⊎_elim
    (λ (is : other ≡ id). subst (λ k. generation_in k running ≡ running_on base (g k)) (sym is) (itself ∙ ap (running_on base) (sym changes.itself)))
    (λ apart. let both = none other (ne_eqb id other (λ e. apart (sym e))) in both.0 ∙ sym both.1 ∙ ap (running_on base) (sym (changes.others other apart)))
    (cases_eq other id)

-- ---- the base that the timer is on before an event

queues-after : (f g : ℕ → Timer) (id : ℕ) (now : Timer) (c : Half) (q : QueueEffect) (sent : Option ℕ) → Changes f g id now → IsApart (f id)
    → now.armed ≡ armed_afterwards q (f id) → QueueNeeds q sent (f id) now → IsHalfOf f (f id).base c
    → (clock : ClockId) → IsQueueOf g (f id).base clock (queue_of (queued_by q id now c) clock)
queues-after f g id now c queues.Stays sent changes apart armed needs here clock =
    queue-same f g id now (f id).base clock (queue_of c clock) changes (here.queues clock) (needs (f id).base clock)
queues-after f g id now c queues.Leaves sent changes apart armed needs here clock =
    subst (IsQueueOf g (f id).base clock) (sym (queue_of-dequeued id c clock))
    (queue-without f g id now (f id).base clock (queue_of c clock) changes (here.queues clock) (wanted-unarmed (f id).base clock now armed))
queues-after f g id now c queues.Armed sent changes apart armed needs here clock =
    subst (λ b. IsQueueOf f b clock (queue_of c clock) → IsQueueOf g b clock (queue_of (requeued id now c) clock)) needs.0
    (λ was. queue-requeued f g id now clock c changes was (ap is_some armed) (needs.1 apart)) (here.queues clock)

running-queued : (id : ℕ) (now : Timer) (c : Half) (q : QueueEffect) → (queued_by q id now c).running ≡ c.running
running-queued id now c queues.Stays = refl
running-queued id now c queues.Leaves = refl
running-queued id now c queues.Armed = running-enqueued now.clock now.expires id (dequeued id c)

-- a timer whose function runs as before does so on the base that it is on
runs_on-same : (t now : Timer) (sent : Option ℕ) → IsSent sent t now → SentNeeds sent t now → now.running ≡ t.running
    → running_on t.base now ≡ running_on t.base t
runs_on-same t now None is needs same = λ i. if nat_eq (is.0 i) t.base then same i else None
runs_on-same t now (Some base) is needs same = running_on-none t.base now needs.2 ∙ sym (running_on-none t.base t needs.0)

running-after : (f g : ℕ → Timer) (id : ℕ) (now : Timer) (c new : Half) (r : RunEffect) (by_claimer : Bool) → Changes f g id now → new.running ≡ c.running
    → now.running ≡ running_afterwards r (f id) → RunNeeds r by_claimer (f id) now → IsFreeFor c r
    → (now.running ≡ (f id).running → running_on (f id).base now ≡ running_on (f id).base (f id))
    → IsHalfOf f (f id).base c → (other : ℕ) → generation_in other (run_by r id (f id).armed new).running ≡ running_on (f id).base (g other)
running-after f g id now c new functions.Stays by_claimer changes kept running needs free same here other =
    ap (generation_in other) kept ∙ running-same f g id now (f id).base c.running changes here.running (same running) other
running-after f g id now c new (functions.Begins reading) by_claimer changes kept running needs free same here other =
    let generation = unwrap_or (f id).armed 0 in
    let runs = running_on-there (f id).base now needs.base ∙ (running ∙ some_of (f id).armed needs.armed) in
    running-other f g id now (f id).base (Some (id, generation)) changes (grind (arith, nat_tests) ∙ sym runs)
    (λ other apart. (grind (arith, nat_tests), sym (here.running other) ∙ ap (generation_in other) free)) other
running-after f g id now c new functions.Ends by_claimer changes kept running needs free same here other =
    let generation = unwrap_or (f id).running 0 in
    let ran = running_on-there (f id).base (f id) refl ∙ some_of (f id).running needs.runs in
    running-other f g id now (f id).base None changes (sym (running_on-none (f id).base now running))
    (λ other apart. (refl, sym (here.running other) ∙ generation-apart id other generation c.running (here.running id ∙ ran) apart)) other

pub IsHalfOf-after : (f g : ℕ → Timer) (id : ℕ) (e : Event) (c : Half) → Needs (f id) e → IsApart (f id) → IsFreeFor c (effect (f id) e).function
    → Changes f g id (after (f id) e) → IsHalfOf f (f id).base c → IsHalfOf g (f id).base (half_after id (f id) e c)
IsHalfOf-after f g id e c needs apart free changes here =
    let now = after (f id) e in
    let d = effect (f id) e in
    let goes = by_effect (f id) e in
    let allowed = goes.needs needs in
    record {
      queues = λ clock. subst (IsQueueOf g (f id).base clock) (sym (queue_of-run_by d.function id (f id).armed (queued_by d.queue id now c) clock))
          (queues-after f g id now c d.queue d.sent changes apart goes.armed allowed.queue here clock);
      running = running-after f g id now c (queued_by d.queue id now c) d.function d.by_claimer changes (running-queued id now c d.queue)
          goes.running allowed.function free (runs_on-same (f id) now d.sent goes.sent allowed.sent) here;
    }

-- ---- the other bases

far-after : (t : Timer) (e : Event) (base : ℕ) → Needs t e → base ≢ t.base
    → ((clock : ClockId) → wanted base clock (after t e) ≡ None) × (running_on base (after t e) ≡ None)
far-after t e base needs far = by_sent (effect t e).sent (by_effect t e).sent ((by_effect t e).needs needs).sent
  where
    by_sent : (sent : Option ℕ) → IsSent sent t (after t e) → SentNeeds sent t (after t e)
        → ((clock : ClockId) → wanted base clock (after t e) ≡ None) × (running_on base (after t e) ≡ None)
    by_sent None is told =
        let off = λ (same : base ≡ (after t e).base). far (same ∙ is.0) in
        ((λ clock. wanted-elsewhere base clock (after t e) off), running_on-elsewhere base (after t e) off)
    by_sent (Some to) is told = ((λ clock. wanted-unarmed base clock (after t e) told.1), running_on-none base (after t e) told.2)

pub IsHalfOf-elsewhere : (f g : ℕ → Timer) (id : ℕ) (e : Event) (base : ℕ) (c : Half) → Needs (f id) e → base ≢ (f id).base
    → Changes f g id (after (f id) e) → IsHalfOf f base c → IsHalfOf g base c
IsHalfOf-elsewhere f g id e base c needs far changes here =
    let now = after (f id) e in
    let none = far-after (f id) e base needs far in record {
      queues = λ clock. queue-same f g id now base clock (queue_of c clock) changes (here.queues clock)
          (none.0 clock ∙ sym (wanted-elsewhere base clock (f id) far));
      running = running-same f g id now base c.running changes here.running (none.1 ∙ sym (running_on-elsewhere base (f id) far));
    }

-- ---- what a base that agrees with the timers gives to the next step

queued_wanted : (t : Timer) (clock : ClockId) → IsApart t → is_some (wanted t.base clock t) ≡ is_queued t.armed t.clock clock
queued_wanted t clock apart = ⊎_elim
    (λ (moves : t.moving ≡ true). let none = (apart moves).0 in grind (arith, nat_tests))
    (λ still. grind (arith, nat_tests))
    (cases_Bool t.moving)

pub IsQueuedIn-from : (f : ℕ → Timer) (id : ℕ) (c : Half) → IsApart (f id) → IsHalfOf f (f id).base c → IsQueuedIn id (f id).armed (f id).clock c
IsQueuedIn-from f id c apart here = record {
  monotonic = has clocks.Monotonic;
  realtime = has clocks.Realtime;
  boottime = has clocks.Boottime;
}
  where
    has : (clock : ClockId) → has_id id (queue_of c clock) ≡ is_queued (f id).armed (f id).clock clock
    has clock = has_id-expiry_of id (queue_of c clock) ∙ ap is_some ((here.queues clock).exact id) ∙ queued_wanted (f id) clock apart
