-- Of timers that expire at the same time on one queue, the one that was armed first stands first, and is claimed first.
use Rattle.std.proofs.Common.{◌≡◌, ◌≢◌, ◌<◌, ◌≤◌, ◌⊎◌, ◌+◌, ℕ, Bool, true, false, not, ◌&&◌, List, [], ◌∷◌, ◌++◌, Option, Some, None, nat_eq, nat_lt, is_some, if◌then◌else◌, arith, refl, sym, ap, ◌∙◌, subst, ⊎_elim, inl, inr, length}
use Rattle.std.specs.List.{AllByRecursion}
use Rattle.std.proofs.lemmas.Bool.{cases_Bool, cases_eq, ne_eqb, eqb-true, true≢false}
use Rattle.std.proofs.lemmas.Bool.Decides.{nat_tests}
use Rattle.std.proofs.lemmas.List.{length-map}
use Rattle.ktime.specs.declared.clock_id.ClockId.{ClockId}
use Rattle.seq_timer.specs.declared.context.Declared.{Declared}
use Rattle.seq_timer.specs.declared.context.Terms.{Terms}
use Rattle.ktime.specs.declared.clock_id.ClockId.TheVariants as clocks
use Rattle.ktime.specs.Readings.{ClockReading}
use Rattle.timer_queue.specs.Pairs.{IsByExpiry, expiry_of, first_of, has_id, put, without}
use Rattle.timer_queue.proofs.Pairs.{IsByExpiry-without, expiry_of-first, has_id-expiry_of}
use Rattle.seq_timer.specs.Events.{Event}
use Rattle.seq_timer.specs.declared.event.EventBy.TheVariants as events
use Rattle.seq_timer.specs.declared.system.BaseEntry.{BaseEntry}
use Rattle.seq_timer.specs.declared.system.SystemEntry.{SystemEntry}
use Rattle.seq_timer.specs.declared.system.SystemEntry.TheVariants as entries
use Rattle.seq_timer.specs.declared.system.TimerEntry.{TimerEntry}
use Rattle.seq_timer.specs.declared.effect.QueueEffect.{QueueEffect}
use Rattle.seq_timer.specs.declared.effect.QueueEffect.TheVariants as queues
use Rattle.seq_timer.specs.Effects.{effect, is_arming}
use Rattle.seq_timer.specs.Steps.{Timer, Needs, after, opening}
use Rattle.seq_timer.specs.Tables.{in_context, is_context, is_kept_on, rank, runs_on, seen_in}
use Rattle.seq_timer.specs.declared.context.Context.{Context}
use Rattle.seq_timer.specs.declared.context.Context.TheVariants as contexts
use Rattle.seq_timer.specs.Halves.{Half, IsHalfOf, dequeued, generation_in, half_after, queue_of, queued_by, reached, requeued, running_on, wanted}
use Rattle.seq_timer.specs.Contents.{content_after, first_due, half_of, no_content, running_in}
use Rattle.seq_timer.specs.Systems.{AreSystemSteps, BaseContent, FitsBase, IsClear, IsSystemHistory, MayCome, System, after_entries, after_entry, after_one, after_shift, armed_after, armed_in, arms, first_system, next_on, openings, system_of, updated}
use Rattle.seq_timer.specs.Turns.{IsTurn, MayFollow, MayStandBehind}
use Rattle.seq_timer.proofs.Agreement.{Agrees, agrees_next, agrees_shift, all_agree, all_fresh, content_of_changed, first_agrees}
use Rattle.seq_timer.proofs.Halves.{wanted-elsewhere}
use Rattle.seq_timer.proofs.Contents.{half_of-else, half_of-here, same_context, seen_else, seen_here, seen_own}
use Rattle.seq_timer.proofs.Due.{expiry-kept, first_reached, or_some, rank-injective}
use Rattle.seq_timer.proofs.Firsts.{first_due-next, next_on-seen}
use Rattle.seq_timer.proofs.OffLine.{all_clear, online_wanted, unused}
use Rattle.seq_timer.proofs.Queues.{has_id-without, queue_of-dequeued, queue_of-enqueued, queue_of-run_by}
use Rattle.seq_timer.proofs.Systems.{base_else, base_here, content_shift, steps_part, updated_else, updated_here}

-- each of the pairs that expires when the first does was armed later
abbrev Behind : (ℕ → ℕ) → ℕ × ℕ → List (ℕ × ℕ) → Type 0
Behind armed p [] = Unit {0}
Behind armed p (q ∷ qs) = (q.0 ≡ p.0 → armed p.1 < armed q.1) × Behind armed p qs

abbrev InOrder : (ℕ → ℕ) → List (ℕ × ℕ) → Type 0
InOrder armed [] = Unit {0}
InOrder armed (p ∷ ps) = Behind armed p ps × InOrder armed ps

-- ---- taking off

behind_without : (armed : ℕ → ℕ) (p : ℕ × ℕ) (id : ℕ) (qs : List (ℕ × ℕ)) → Behind armed p qs → Behind armed p (without id qs)
behind_without armed p id [] b = tt
behind_without armed p id (q ∷ qs) b =
    let rest = behind_without armed p id qs b.1 in
    elim (nat_eq q.1 id) as (λ t. Behind armed p (if not t then q ∷ without id qs else without id qs)) [ true ↦ rest | false ↦ (b.0, rest) ]

order_without : (armed : ℕ → ℕ) (id : ℕ) (ps : List (ℕ × ℕ)) → InOrder armed ps → InOrder armed (without id ps)
order_without armed id [] o = tt
order_without armed id (p ∷ ps) o =
    let rest = order_without armed id ps o.1 in
    elim (nat_eq p.1 id) as (λ t. InOrder armed (if not t then p ∷ without id ps else without id ps)) [
      | true ↦ rest
      | false ↦
          (behind_without armed p id ps o.0, rest)
    ]

-- ---- another timer is armed

head_apart : (id : ℕ) (q : ℕ × ℕ) (qs : List (ℕ × ℕ)) → has_id id (q ∷ qs) ≡ false → q.1 ≢ id
head_apart id q qs absent same = grind (arith, nat_tests)

tail_absent : (id : ℕ) (q : ℕ × ℕ) (qs : List (ℕ × ℕ)) → has_id id (q ∷ qs) ≡ false → has_id id qs ≡ false
tail_absent id q qs absent = grind (arith, nat_tests)

module _ (armed new : ℕ → ℕ) (id : ℕ) (same : (k : ℕ) → k ≢ id → new k ≡ armed k) where
  behind_same : (p : ℕ × ℕ) (qs : List (ℕ × ℕ)) → p.1 ≢ id → has_id id qs ≡ false → Behind armed p qs → Behind new p qs
  behind_same p [] apart absent b = tt
  behind_same p (q ∷ qs) apart absent b =
      (λ e. omega (arith, b.0 e, same p.1 apart, same q.1 (head_apart id q qs absent)), behind_same p qs apart (tail_absent id q qs absent) b.1)

  order_same : (ps : List (ℕ × ℕ)) → has_id id ps ≡ false → InOrder armed ps → InOrder new ps
  order_same [] absent o = tt
  order_same (p ∷ ps) absent o = (
    behind_same p ps (head_apart id p ps absent) (tail_absent id p ps absent) o.0,
    order_same ps
        (tail_absent id p ps absent) o.1,
  )

-- ---- putting on

behind_later : (armed : ℕ → ℕ) (least e id : ℕ) (qs : List (ℕ × ℕ)) → e < least → AllByRecursion (λ q. least ≤ q.0) qs → Behind armed (e, id) qs
behind_later armed least e id [] early all = tt
behind_later armed least e id (q ∷ qs) early all = (λ same. absurd (omega (arith, same, early, all.0)), behind_later armed least e id qs early all.1)

behind_put : (armed : ℕ → ℕ) (p : ℕ × ℕ) (e id : ℕ) (qs : List (ℕ × ℕ)) → armed p.1 < armed id → Behind armed p qs → Behind armed p (put e id qs)
behind_put armed p e id [] less b = (λ same. less, tt)
behind_put armed p e id (q ∷ qs) less b =
    elim (nat_lt e q.0) as (λ t. Behind armed p (if t then (e, id) ∷ q ∷ qs else q ∷ put e id qs)) [
      | true ↦ (λ same. less, b)
      | false ↦
          (b.0, behind_put armed p e id qs less b.1)
    ]

order_put : (armed : ℕ → ℕ) (e id : ℕ) (ps : List (ℕ × ℕ)) → ((k : ℕ) → k ≢ id → armed k < armed id) → has_id id ps ≡ false → IsByExpiry ps
    → InOrder armed ps → InOrder armed (put e id ps)
order_put armed e id [] less absent sorted o = (tt, tt)
order_put armed e id (p ∷ ps) less absent sorted o =
    elim (nat_lt e p.0) as (λ t. nat_lt e p.0 ≡ t → InOrder armed (if t then (e, id) ∷ p ∷ ps else p ∷ put e id ps)) [
      | true ↦ λ early. let before : e < p.0 = grind (arith, nat_tests) in
          ((λ same. absurd (omega (arith, same, before)), behind_later armed p.0 e id ps before sorted.0), o)
      | false ↦ λ late. (
        behind_put armed p e id ps (less p.1 (head_apart id p ps absent)) o.0,
        order_put armed e id ps less
            (tail_absent id p ps absent) sorted.1 o.1,
      )
    ] refl

-- ---- the base of an entry's timer

module _ (armed : ℕ → ℕ) (count id : ℕ) (below : (k : ℕ) → armed k ≤ count) where
  abbrev later : ℕ → ℕ
  later = updated armed id (count + 1)

  last_armed : (k : ℕ) → k ≢ id → later k < later id
  last_armed k apart = omega (arith, updated_here armed id (count + 1), updated_else armed id k (count + 1) apart, below k)

  order_requeued : (t : Timer) (c : Half) (clock : ClockId) → IsByExpiry (queue_of c clock) → InOrder armed (queue_of c clock)
      → InOrder later (queue_of (requeued id t c) clock)
  order_requeued t c clock sorted o =
      let off : List (ℕ × ℕ) = without id (queue_of c clock) in
      let absent = has_id-without id (queue_of c clock) in
      let kept = order_same armed later id (λ k apart. updated_else armed id k (count + 1) apart) off absent (order_without armed id (queue_of c clock) o) in
      subst (InOrder later) (sym (queue_of-enqueued t.clock clock t.expires id (dequeued id c)
      ∙ ap (λ q. if nat_eq (rank t.clock) (rank clock) then put t.expires id q else q) (queue_of-dequeued id c clock)))
      (elim (nat_eq (rank t.clock) (rank clock)) as (λ b. InOrder later (if b then put t.expires id off else off)) [
        | true ↦ order_put later t.expires id off last_armed absent (IsByExpiry-without id (queue_of c clock) sorted) kept
        | false ↦ kept
      ])

  order_queued : (q : QueueEffect) (now : Timer) (c : Half) (clock : ClockId) → IsByExpiry (queue_of c clock) → InOrder armed (queue_of c clock)
      → InOrder (if is_arming q then later else armed) (queue_of (queued_by q id now c) clock)
  order_queued queues.Stays now c clock sorted o = o
  order_queued queues.Leaves now c clock sorted o = subst (InOrder armed) (sym (queue_of-dequeued id c clock)) (order_without armed id (queue_of c clock) o)
  order_queued queues.Armed now c clock sorted o = order_requeued now c clock sorted o

  order_here : (t : Timer) (e : Event) (c : Half) (clock : ClockId) → IsByExpiry (queue_of c clock) → InOrder armed (queue_of c clock)
      → InOrder (if arms t e then later else armed) (queue_of (half_after id t e c) clock)
  order_here t e c clock sorted o =
      let d = effect t e in
      subst (InOrder (if arms t e then later else armed)) (sym (queue_of-run_by d.function id t.armed (queued_by d.queue id (after t e) c) clock))
      (order_queued d.queue (after t e) c clock sorted o)

-- a timer stands in no queue of another base or another context
absent_there : (timers : ℕ → Timer) (x : Context) (b t : ℕ) (clock : ClockId) (h : Half) → IsHalfOf (in_context x timers) b h
    → (b ≢ (timers t).base) ⊎ (is_context x (timers t).declared.context ≡ false) → has_id t (queue_of h clock) ≡ false
absent_there timers x b t clock h here apart =
    has_id-expiry_of t (queue_of h clock) ∙ ap is_some ((here.queues clock).exact t ∙ ⊎_elim
    (λ own. ⊎_elim (λ far. ap (wanted b clock) (seen_here x (timers t) own) ∙ wanted-elsewhere b clock (timers t) far)
    (λ other. absurd (true≢false (sym own ∙ other))) apart)
    (λ other. ap (wanted b clock) (seen_else x (timers t) other))
    (cases_Bool (is_context x (timers t).declared.context)))

-- ---- all bases

pub record Ordered (w : System) (armed : ℕ → ℕ) (count : ℕ) : Type 0 where
  pub below : (t : ℕ) → armed t ≤ count
  pub each : (b : ℕ) (x : Context) (clock : ClockId) → InOrder armed (queue_of (half_of x (w.bases b).content) clock)

module _ (bases timers : ℕ) where
  ordered_next : (w : System) (armed : ℕ → ℕ) (count : ℕ) (e : TimerEntry) → Agrees w → Ordered w armed count
      → Ordered (after_entry w e) (if arms (w.timers e.timer) e.event then updated armed e.timer (count + 1) else armed) (count + 1)
  ordered_next w armed count e agrees o =
      record {
        below = λ k. elim (arms t e.event) as (λ b. (if b then updated armed id (count + 1) else armed) k ≤ count + 1) [
          | true ↦ ⊎_elim
              (λ (same : k ≡ id). omega (arith, ap (updated armed id (count + 1)) same, updated_here armed id (count + 1)))
              (λ apart. omega (arith, updated_else armed id k (count + 1) apart, o.below k))
              (cases_eq k id)
          | false ↦ omega (arith, o.below k)
        ];
        each = λ b x clock. ⊎_elim
            (λ (same : b ≡ t.base). subst (λ k. InOrder new (queue_of (half_of x ((after_entry w e).bases k).content) clock)) (sym same)
            (subst (λ c. InOrder new (queue_of (half_of x c) clock))
            (sym (ap (λ (k : BaseContent). k.content) (base_here w e) ∙ content_of_changed id t e.event (w.bases t.base)))
            (⊎_elim
            (λ own. subst (λ z. InOrder new (queue_of (half_of z (content_after id t e.event (w.bases t.base).content)) clock))
            (sym (same_context x y own))
            (subst (λ h. InOrder new (queue_of h clock))
            (sym (half_of-here y (half_after id t e.event (half_of y (w.bases t.base).content)) (w.bases t.base).content))
            (order_here armed count id o.below t e.event (half_of y (w.bases t.base).content) clock
            (((agrees.contents t.base).each y).queues clock).by_expiry (o.each t.base y clock))))
            (λ other. subst (λ h. InOrder new (queue_of h clock))
            (sym (half_of-else x y (half_after id t e.event (half_of y (w.bases t.base).content)) (w.bases t.base).content other))
            (stays t.base x clock (inr other)))
            (cases_Bool (is_context x y)))))
            (λ apart. subst (λ (k : BaseContent). InOrder new (queue_of (half_of x k.content) clock)) (sym (base_else w e b apart))
            (stays b x clock (inl apart)))
            (cases_eq b t.base);
      }
    where
      id : ℕ
      id = e.timer

      t : Timer
      t = w.timers e.timer

      y : Context
      y = (w.timers e.timer).declared.context

      new : ℕ → ℕ
      new = if arms (w.timers e.timer) e.event then updated armed e.timer (count + 1) else armed

      stays : (b : ℕ) (x : Context) (clock : ClockId) → (b ≢ t.base) ⊎ (is_context x y ≡ false) → InOrder new (queue_of (half_of x (w.bases b).content) clock)
      stays b x clock apart =
          elim (arms t e.event) as (λ a. InOrder (if a then updated armed id (count + 1) else armed) (queue_of (half_of x (w.bases b).content) clock)) [
            | true ↦ order_same armed (updated armed id (count + 1)) id (λ k n. updated_else armed id k (count + 1) n)
                (queue_of (half_of x (w.bases b).content) clock)
                (absent_there w.timers x b id clock (half_of x (w.bases b).content) ((agrees.contents b).each x) apart) (o.each b x clock)
            | false ↦ o.each b x clock
          ]

  ordered_shift : (w : System) (armed : ℕ → ℕ) (count : ℕ) (c : BaseEntry) → Ordered w armed count → Ordered (after_shift w c) armed (count + 1)
  ordered_shift w armed count c o = record {
    below = λ k. omega (arith, o.below k);
    each = λ b x clock. subst (λ k. InOrder armed (queue_of (half_of x k) clock)) (sym (content_shift w c b)) (o.each b x clock);
  }

  pub ordered_all : (w : System) (armed : ℕ → ℕ) (count : ℕ) (log : List SystemEntry) → AreSystemSteps bases timers w log → Agrees w
      → Ordered w armed count → Ordered (after_entries w log) (armed_after w armed count log) (count + length log)
  ordered_all w armed count [] all agrees o = subst (λ n. Ordered w armed n) (omega arith) o
  ordered_all w armed count (entries.Rise k ∷ es) all agrees o =
      subst (λ n. Ordered (after_entries w es) (armed_after w armed (count + 1) es) n) (omega arith)
      (ordered_all w armed (count + 1) es all.1 agrees (record { below = λ t. omega (arith, o.below t); each = o.each }))
  ordered_all w armed count (entries.Base c ∷ es) all agrees o =
      subst (λ n. Ordered (after_entries (after_shift w c) es) (armed_after (after_shift w c) armed (count + 1) es) n) (omega arith)
      (ordered_all (after_shift w c) armed (count + 1) es all.1 (agrees_shift bases timers w c agrees) (ordered_shift w armed count c o))
  ordered_all w armed count (entries.Timer e ∷ es) all agrees o =
      subst (λ n. Ordered (after_entries w (entries.Timer e ∷ es)) (armed_after w armed count (entries.Timer e ∷ es)) n) (omega arith)
      (ordered_all (after_entry w e) (if arms (w.timers e.timer) e.event then updated armed e.timer (count + 1) else armed)
      (count + 1) es all.1 (agrees_next bases timers w e all.0 agrees) (ordered_next w armed count e agrees o))

-- ---- what is claimed

behind_of : (armed : ℕ → ℕ) (p : ℕ × ℕ) (u : ℕ) (qs : List (ℕ × ℕ)) → Behind armed p qs → expiry_of u qs ≡ Some p.0 → armed p.1 < armed u
behind_of armed p u [] b found = cc
behind_of armed p u (q ∷ qs) b found =
    elim (nat_eq q.1 u) as (λ t. nat_eq q.1 u ≡ t → (if t then Some q.0 else expiry_of u qs) ≡ Some p.0 → armed p.1 < armed u) [
      | true ↦ λ same is. let e : q.0 ≡ p.0 = cc in subst (λ k. armed p.1 < armed k) (eqb-true q.1 u same) (b.0 e)
      | false ↦ λ other is. behind_of armed p u qs b.1 is
    ] refl found

first_earlier : (armed : ℕ → ℕ) (p : ℕ × ℕ) (u : ℕ) (queue : List (ℕ × ℕ)) → InOrder armed queue → first_of queue ≡ Some p → u ≢ p.1
    → expiry_of u queue ≡ Some p.0 → armed p.1 < armed u
first_earlier armed p u [] o first apart found = cc
first_earlier armed p u (q ∷ qs) o first apart found =
    let same : q ≡ p = cc in
    let other : nat_eq q.1 u ≡ false = ne_eqb q.1 u (λ e. apart (sym (sym (ap (λ (x : ℕ × ℕ). x.1) same) ∙ e))) in
    behind_of armed p u qs (subst (λ x. Behind armed x qs) same o.0) (ap (λ b. if b then Some q.0 else expiry_of u qs) (sym other) ∙ found)

-- the first due timer stands first in its clock's queue
module _ (w : System) (agrees : Agrees w) (base t : ℕ) (reading : ClockReading) where
  abbrev own_half : Half
  own_half = half_of (w.timers t).declared.context (w.bases base).content

  exact_own : (u : ℕ) (clock : ClockId) → seen_in (w.timers t).declared.context (w.timers u) ≡ w.timers u
      → expiry_of u (queue_of own_half clock) ≡ wanted base clock (w.timers u)
  exact_own u clock is = (((agrees.contents base).each (w.timers t).declared.context).queues clock).exact u ∙ ap (wanted base clock) is

  first_in_queue : first_due (w.timers t).declared.context w.timers (w.bases base).content reading ≡ Some ((w.timers t).expires, t)
      → first_of (queue_of own_half (w.timers t).clock) ≡ Some ((w.timers t).expires, t)
  first_in_queue is =
      let h = own_half in
      ⊎_elim (λ m. on clocks.Monotonic (first_reached w.timers reading.mono h.monotonic ((w.timers t).expires, t) m).0)
      (λ rest. ⊎_elim (λ r. on clocks.Realtime (first_reached w.timers reading.real h.realtime ((w.timers t).expires, t) r.1).0)
      (λ b. on clocks.Boottime (first_reached w.timers reading.boot h.boottime ((w.timers t).expires, t) b.2).0) rest)
      (or_some (reached w.timers reading.mono h.monotonic) (reached w.timers reading.real h.realtime) (reached w.timers reading.boot h.boottime)
      ((w.timers t).expires, t) is)
    where
      rank_of : (b : Bool) (x y : ℕ) → (b && nat_eq x y) ≡ true → x ≡ y
      rank_of b x y e = grind (arith, nat_tests)

      on : (clock : ClockId) → first_of (queue_of own_half clock) ≡ Some ((w.timers t).expires, t)
          → first_of (queue_of own_half (w.timers t).clock) ≡ Some ((w.timers t).expires, t)
      on clock first =
          let kept = expiry-kept (is_kept_on base clock (w.timers t)) (w.timers t).expires (w.timers t).expires
          (sym (exact_own t clock (seen_own (w.timers t))) ∙ expiry_of-first (queue_of own_half clock) ((w.timers t).expires, t) first) in
          let its : (w.timers t).clock ≡ clock = rank-injective (w.timers t).clock clock (rank_of _ (rank (w.timers t).clock) (rank clock) kept.0) in
          subst (λ k. first_of (queue_of own_half k) ≡ Some ((w.timers t).expires, t)) (sym its) first

  pub claimed_first : (armed : ℕ → ℕ) (count : ℕ) → Ordered w armed count → (u : ℕ)
      → first_due (w.timers t).declared.context w.timers (w.bases base).content reading ≡ Some ((w.timers t).expires, t) → u ≢ t
      → is_kept_on base (w.timers t).clock (seen_in (w.timers t).declared.context (w.timers u)) ≡ true
      → (seen_in (w.timers t).declared.context (w.timers u)).expires ≡ (w.timers t).expires → armed t < armed u
  claimed_first armed count o u is apart kept same =
      let x = (w.timers t).declared.context in
      first_earlier armed ((w.timers t).expires, t) u (queue_of own_half (w.timers t).clock) (o.each base x (w.timers t).clock)
      (first_in_queue is) apart
      ((((agrees.contents base).each x).queues (w.timers t).clock).exact u
      ∙ (ap (λ b. if b then Some (seen_in x (w.timers u)).expires else None) kept ∙ ap (λ e. Some e) same))

pub step_at : (bases timers : ℕ) (w : System) (before later : List SystemEntry) (x : SystemEntry) → AreSystemSteps bases timers w (before ++ x ∷ later)
    → MayCome bases timers (after_entries w before) x
step_at bases timers w [] later x all = all.0
step_at bases timers w (y ∷ ys) later x all = step_at bases timers (after_one w y) ys later x all.1

no_one_runs : (running : Option (ℕ × ℕ)) (base u : ℕ) (t : Timer) → running ≡ None → generation_in u running ≡ running_on base t → runs_on base t ≡ false
no_one_runs None base u t none is = grind (arith, nat_tests, is)
no_one_runs (Some r) base u t none is = cc

module _ (bases : ℕ) (terms : Terms) (list : List Declared) (before later : List SystemEntry) (e : TimerEntry)
    (history : IsSystemHistory bases list terms (before ++ entries.Timer e ∷ later)) where
  -- a claim takes the timer whose turn it is
  turn : (base : ℕ) (reading : ClockReading) → e.event ≡ events.Claim base reading
      → IsTurn (in_context ((system_of list terms before).timers e.timer).declared.context (system_of list terms before).timers)
      (armed_in list terms before) base reading e.timer
  turn base reading is =
      let first = first_system (openings list terms) in
      let w = system_of list terms before in
      let t = w.timers e.timer in
      let part = steps_part bases (length list) first before (entries.Timer e ∷ later) history in
      let step = step_at bases (length list) first before later (entries.Timer e) history in
      let there : t.base ≡ base = sym (subst (λ x. Needs t x) is step.needs).1 in
      let x = t.declared.context in
      let fits : (running_in x (w.bases base).content ≡ None) × (next_on x (w.bases base) reading ≡ Some (t.expires, e.timer)) =
      subst (λ b. (running_in x (w.bases b).content ≡ None) × (next_on x (w.bases b) reading ≡ Some (t.expires, e.timer))) there
      (subst (λ x. FitsBase bases (w.bases t.base) e.timer t x) is step.base).needs in
      let agrees = all_agree bases terms list before part in
      let whole = subst (λ n. AreSystemSteps bases n first before) (sym (length-map list (λ d. opening d terms))) part in
      let first_is : first_due x w.timers (w.bases base).content reading ≡ Some (t.expires, e.timer) =
      sym (next_on-seen bases (openings list terms) before (all_fresh list terms) whole base x reading) ∙ fits.1 in
      let start : Ordered first (λ k. 0) 0 = record { below = λ k. omega arith; each = λ b x clock. empty x clock } in
      let ordered = ordered_all bases (length list) first (λ k. 0) 0 before part (first_agrees list terms) start in
      record {
        idle = λ u. no_one_runs (running_in x (w.bases base).content) base u (in_context x w.timers u) fits.0 (((agrees.contents base).each x).running u);
        next = (first_due-next x w.timers base reading (w.bases base).content (agrees.contents base) (t.expires, e.timer) first_is).0;
        ties = λ u apart kept same.
            claimed_first w agrees base e.timer reading (armed_in list terms before) (0 + length before) ordered u first_is apart
            (subst (λ (k : Timer). is_kept_on base k.clock (seen_in x (w.timers u)) ≡ true) (seen_own t) kept)
            (same ∙ ap (λ (k : Timer). k.expires) (seen_own t));
      }
    where
      empty : (x : Context) (clock : ClockId) → InOrder (λ k. 0) (queue_of (half_of x no_content) clock)
      empty contexts.Hard clocks.Monotonic = tt
      empty contexts.Hard clocks.Realtime = tt
      empty contexts.Hard clocks.Boottime = tt
      empty contexts.Soft clocks.Monotonic = tt
      empty contexts.Soft clocks.Realtime = tt
      empty contexts.Soft clocks.Boottime = tt

  pub may_follow : MayFollow bases list terms before e
  may_follow =
      let step = step_at bases (length list) (first_system (openings list terms)) before later (entries.Timer e) history in
      let w = system_of list terms before in
      let part = steps_part bases (length list) (first_system (openings list terms)) before (entries.Timer e ∷ later) history in
      record {
        within = step.within;
        needs = step.needs;
        reply = step.reply;
        sent = λ base is. (subst (λ x. FitsBase bases (w.bases (w.timers e.timer).base) e.timer (w.timers e.timer) x) is step.base).needs;
        online = online_wanted bases (length list) w e step (all_agree bases terms list before part) (all_clear bases terms list before part);
        turn = turn;
      }

module _ (bases : ℕ) (terms : Terms) (list : List Declared) (before later : List SystemEntry) where
  pub may_stand_behind : (x : SystemEntry) → IsSystemHistory bases list terms (before ++ x ∷ later) → MayStandBehind bases list terms before x
  may_stand_behind (entries.Timer e) history = may_follow bases terms list before later e history
  may_stand_behind (entries.Rise k) history = tt
  may_stand_behind (entries.Base c) history =
      let w = system_of list terms before in
      let step = step_at bases (length list) (first_system (openings list terms)) before later (entries.Base c) history in
      let part = steps_part bases (length list) (first_system (openings list terms)) before (entries.Base c ∷ later) history in
      record {
        within = step.within;
        may = step.may;
        clear = λ heir is. unused w (all_agree bases terms list before part) c.base (subst (λ x. IsClear (w.bases c.base) x) is step.clear);
        heir = step.heir;
        reach = step.reach;
      }
