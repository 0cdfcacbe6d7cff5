-- After each history of all timers the bases agree with the timers, and each timer's part is a history of that timer.
use Rattle.std.proofs.Common.{◌≡◌, ℕ, zero, suc, true, List, [], ◌∷◌, length, Option, Some, None, nat_eq, map, refl, ap, sym, ◌∙◌, subst, ◌⊎◌, inl, inr, ◌≤◌, ⊎_elim, arith, if◌then◌else◌}
use Rattle.std.specs.Prelude.{slice_get}
use Rattle.std.specs.List.{IsDistinct}
use Rattle.std.proofs.lemmas.List.{length-map}
use Rattle.std.proofs.lemmas.Bool.{cases_Bool, cases_eq, eq-eqb, ne_eqb, true≢false}
use Rattle.std.proofs.lemmas.Bool.Decides.{nat_tests}
use Rattle.ktime.specs.declared.clock_id.ClockId.{ClockId}
use Rattle.seq_timer.specs.declared.context.Declared.{Declared}
use Rattle.seq_timer.specs.declared.context.Terms.{Terms}
use Rattle.ktime.specs.declared.clock_id.ClockId.TheVariants as clocks
use Rattle.seq_timer.specs.Events.{Event}
use Rattle.seq_timer.specs.Effects.{effect}
use Rattle.seq_timer.specs.declared.system.BaseEntry.{BaseEntry}
use Rattle.seq_timer.specs.declared.system.SystemEntry.{SystemEntry}
use Rattle.seq_timer.specs.declared.system.SystemEntry.TheVariants as entries
use Rattle.seq_timer.specs.declared.system.TimerEntry.{TimerEntry}
use Rattle.seq_timer.specs.Steps.{Timer, HasRoom, after, limited, opening}
use Rattle.seq_timer.specs.Tables.{in_context, is_context, no_declared, runs_on, seen_in, timer_at}
use Rattle.timer_queue.specs.Pairs.{expiry_of, IsByExpiry}
use Rattle.seq_timer.specs.declared.context.Context.{Context}
use Rattle.seq_timer.specs.declared.context.Context.TheVariants as contexts
use Rattle.seq_timer.specs.Halves.{IsHalfOf, generation_in, no_half, queue_of, running_on, wanted}
use Rattle.seq_timer.specs.Contents.{IsContentOf, content_after, half_of, no_content}
use Rattle.seq_timer.specs.Histories as seq
use Rattle.seq_timer.specs.Systems.{AreSystemSteps, BaseContent, BeginsInTurn, IsFresh, IsSystemHistory, IsSystemStep, MayCome, System, after_entries, after_entry, after_one, after_shift, changed, entries_of, first_system, openings, system_after, system_of}
use Rattle.seq_timer.proofs.Effects.{IsApart, free_by}
use Rattle.seq_timer.proofs.Halves.{Changes, apart-after}
use Rattle.seq_timer.proofs.Contents.{IsContentOf-after, IsContentOf-elsewhere, seen_else, seen_here, seen_own}
use Rattle.seq_timer.proofs.Limits.{soft-after_all, stamp-after_all}
use Rattle.seq_timer.proofs.Systems.{after_entries-entries_of, all_timers_shift, base_else, base_here, content_shift, timer_else, timer_here}

-- the bases agree with the timers, and who is on the move is neither armed nor runs
pub record Agrees (w : System) : Type 0 where
  pub contents : (b : ℕ) → IsContentOf w.timers b (w.bases b).content
  pub apart : (t : ℕ) → IsApart (w.timers t)

pub content_of_changed : (id : ℕ) (t : Timer) (event : Event) (b : BaseContent) → (changed id t event b).content ≡ content_after id t event b.content
unfolding changed
content_of_changed id t event b = refl

once : (clock : ClockId) → IsDistinct nat_eq (map (λ p. p.1) (queue_of no_half clock))
unfolding IsDistinct
once clocks.Monotonic = tt
once clocks.Realtime = tt
once clocks.Boottime = tt

module _ (bases count : ℕ) where
  pub agrees_next : (w : System) (e : TimerEntry) → IsSystemStep bases count w e → Agrees w → Agrees (after_entry w e)
  agrees_next w e ok agrees =
      let id = e.timer in
      let t = w.timers id in
      let w' = after_entry w e in
      let changes : Changes w.timers w'.timers id (after t e.event) = record { itself = timer_here w e; others = timer_else w e } in
      record {
        contents = λ b. ⊎_elim
            (λ (q : b ≡ t.base). subst (λ x. IsContentOf w'.timers x (w'.bases x).content) (sym q)
            (subst (λ c. IsContentOf w'.timers t.base c) (sym (ap (λ (x : BaseContent). x.content) (base_here w e)
            ∙ content_of_changed id t e.event (w.bases t.base)))
            (IsContentOf-after w.timers w'.timers id e.event changes (w.bases t.base).content ok.needs (agrees.apart id)
            (free_by (BeginsInTurn (w.bases t.base) id t) bases (half_of t.declared.context (w.bases t.base).content) (λ reading begins. begins.0)
            (effect t e.event).function (effect t e.event).sent ok.base.needs) (agrees.contents t.base))))
            (λ n. subst (λ (x : BaseContent). IsContentOf w'.timers b x.content) (sym (base_else w e b n))
            (IsContentOf-elsewhere w.timers w'.timers id e.event changes b (w.bases b).content ok.needs n (agrees.contents b)))
            (cases_eq b t.base);
        apart = λ k. ⊎_elim
            (λ (q : k ≡ id). subst (λ x. IsApart (w'.timers x)) (sym q)
            (subst IsApart (sym (timer_here w e)) (apart-after t e.event ok.needs (agrees.apart id))))
            (λ n. subst IsApart (sym (timer_else w e k n)) (agrees.apart k))
            (cases_eq k id);
      }

  pub agrees_shift : (w : System) (c : BaseEntry) → Agrees w → Agrees (after_shift w c)
  agrees_shift w c agrees = record {
    contents = λ b. subst (λ x. IsContentOf x b ((after_shift w c).bases b).content) (sym (all_timers_shift w c))
        (subst (λ x. IsContentOf w.timers b x) (sym (content_shift w c b)) (agrees.contents b));
    apart = λ t. subst (λ x. IsApart (x t)) (sym (all_timers_shift w c)) (agrees.apart t);
  }

  pub agrees_one : (w : System) (x : SystemEntry) → MayCome bases count w x → Agrees w → Agrees (after_one w x)
  agrees_one w (entries.Timer e) ok agrees = agrees_next w e ok agrees
  agrees_one w (entries.Base c) ok agrees = agrees_shift w c agrees
  agrees_one w (entries.Rise k) ok agrees = agrees

  agrees_all : (w : System) (log : List SystemEntry) → AreSystemSteps bases count w log → Agrees w → Agrees (after_entries w log)
  agrees_all w [] all agrees = agrees
  agrees_all w (x ∷ xs) all agrees = agrees_all (after_one w x) xs all.1 (agrees_one w x all.0 agrees)

  -- each timer's part is steps of that timer
  pub parts : (w : System) (log : List SystemEntry) → AreSystemSteps bases count w log → (t : ℕ) → seq.AreSteps (w.timers t) (entries_of t log)
  parts w [] all t = tt
  parts w (entries.Base c ∷ es) all t = subst (λ x. seq.AreSteps (x t) (entries_of t es)) (all_timers_shift w c) (parts (after_shift w c) es all.1 t)
  parts w (entries.Rise k ∷ es) all t = parts w es all.1 t
  parts w (entries.Timer e ∷ es) all t =
      let rest : seq.AreSteps ((after_entry w e).timers t) (entries_of t es) = parts (after_entry w e) es all.1 t in
      let here : seq.Entry = record { event = e.event; reply = e.reply } in
      ⊎_elim
      (λ (same : t ≡ e.timer). subst (λ b. seq.AreSteps (w.timers t) (if b then here ∷ entries_of t es else entries_of t es))
      (sym (eq-eqb e.timer t (sym same)))
      (subst (λ k. seq.AreSteps (w.timers k) (here ∷ entries_of k es)) (sym same) (
        all.0.needs,
        all.0.reply,
        subst (λ x. seq.AreSteps x (entries_of e.timer es)) (timer_here w e)
            (subst (λ k. seq.AreSteps ((after_entry w e).timers k) (entries_of k es)) same rest),
      )))
      (λ n. subst (λ b. seq.AreSteps (w.timers t) (if b then here ∷ entries_of t es else entries_of t es)) (sym (ne_eqb e.timer t (λ q. n (sym q))))
      (subst (λ x. seq.AreSteps x (entries_of t es)) (timer_else w e t n) rest))
      (cases_eq t e.timer)

-- ---- from the beginning

unarmed : (clock : ClockId) (b : ℕ) (t : Timer) → t.armed ≡ None → None ≡ wanted b clock t
unarmed clock b t none = grind (arith, nat_tests)

idle : (b : ℕ) (t : Timer) → t.running ≡ None → None ≡ running_on b t
idle b t none = grind (arith, nat_tests)

-- the bases agree with timers to which nothing has happened
pub agrees_first : (opened : List Timer) → ((t : ℕ) → IsFresh (timer_at opened t)) → Agrees (first_system opened)
agrees_first opened fresh = record {
  contents = λ b. record {
    each = λ x. subst (IsHalfOf (in_context x (timer_at opened)) b) (sym (none_there x)) (record {
      queues = λ clock. record { exact = λ id. none x clock b id; once = once clock; by_expiry = sorted clock };
      running = λ id. no_one x b id;
    });
  };
  apart = λ t moves. absurd (true≢false (sym moves ∙ (fresh t).still));
}
  where
    none_there : (x : Context) → half_of x no_content ≡ no_half
    none_there contexts.Hard = refl
    none_there contexts.Soft = refl

    still : (x : Context) (id : ℕ) → ((in_context x (timer_at opened) id).armed ≡ None) × ((in_context x (timer_at opened) id).running ≡ None)
    still x id = ⊎_elim
        (λ own. subst (λ (t : Timer). (t.armed ≡ None) × (t.running ≡ None)) (sym (seen_here x (timer_at opened id) own))
        ((fresh id).armed, (fresh id).running))
        (λ other. subst (λ (t : Timer). (t.armed ≡ None) × (t.running ≡ None)) (sym (seen_else x (timer_at opened id) other)) (refl, refl))
        (cases_Bool (is_context x (timer_at opened id).declared.context))

    none : (x : Context) (clock : ClockId) (b id : ℕ) → expiry_of id (queue_of no_half clock) ≡ wanted b clock (in_context x (timer_at opened) id)
    none x clocks.Monotonic b id = unarmed clocks.Monotonic b (in_context x (timer_at opened) id) (still x id).0
    none x clocks.Realtime b id = unarmed clocks.Realtime b (in_context x (timer_at opened) id) (still x id).0
    none x clocks.Boottime b id = unarmed clocks.Boottime b (in_context x (timer_at opened) id) (still x id).0

    sorted : (clock : ClockId) → IsByExpiry (queue_of no_half clock)
    sorted clocks.Monotonic = tt
    sorted clocks.Realtime = tt
    sorted clocks.Boottime = tt

    no_one : (x : Context) (b id : ℕ) → None ≡ running_on b (in_context x (timer_at opened) id)
    no_one x b id = idle b (in_context x (timer_at opened) id) (still x id).1

-- and after every history of them
pub agrees : (bases : ℕ) (opened : List Timer) (log : List SystemEntry) → ((t : ℕ) → IsFresh (timer_at opened t))
    → AreSystemSteps bases (length opened) (first_system opened) log → Agrees (system_after opened log)
agrees bases opened log fresh all = agrees_all bases (length opened) (first_system opened) log all (agrees_first opened fresh)

-- each timer is first as it was declared, and what stands for one that isn't there has a limit alone
opening_at : (list : List Declared) (terms : Terms) (t : ℕ) → (clock : Declared) × (most : Terms) × (timer_at (openings list terms) t ≡ opening clock most)
    × (most ≡ terms ⊎ (most ≡ limited 1))
opening_at [] terms t = (no_declared, limited 1, refl, inr refl)
opening_at (clock ∷ rest) terms zero = (clock, terms, refl, inl refl)
opening_at (clock ∷ rest) terms (suc t) = opening_at rest terms t

pub opened_at : (list : List Declared) (terms : Terms) (t : ℕ) (clock : Declared) → slice_get list t ≡ Some clock
    → timer_at (openings list terms) t ≡ opening clock terms
opened_at [] terms t clock here = cc
opened_at (c ∷ rest) terms zero clock here = let e : c ≡ clock = cc in ap (λ x. opening x terms) e
opened_at (c ∷ rest) terms (suc t) clock here = opened_at rest terms t clock here

fresh_opening : (clock : Declared) (terms : Terms) → IsFresh (opening clock terms)
fresh_opening clock terms = record { armed = refl; running = refl; still = refl; stamp = refl; first = refl }

pub all_fresh : (list : List Declared) (terms : Terms) (t : ℕ) → IsFresh (timer_at (openings list terms) t)
all_fresh list terms t = let o = opening_at list terms t in subst IsFresh (sym o.2) (fresh_opening o.0 o.1)

pub rooms_within : (list : List Declared) (terms : Terms) → HasRoom terms → (t : ℕ) → HasRoom (timer_at (openings list terms) t).terms
rooms_within list terms room t =
    let o = opening_at list terms t in
    subst (λ (x : Timer). HasRoom x.terms) (sym o.2)
    (⊎_elim (λ same. subst HasRoom (sym same) room) (λ none. subst HasRoom (sym none) (record { few = omega arith; far = λ some. omega (arith, some) })) o.3)

pub first_stamp : (list : List Declared) (terms : Terms) (t : ℕ) → (timer_at (openings list terms) t).stamp ≡ 0
first_stamp list terms t = ap (λ (x : Timer). x.stamp) (opening_at list terms t).2

pub first_agrees : (list : List Declared) (terms : Terms) → Agrees (first_system (openings list terms))
first_agrees list terms = agrees_first (openings list terms) (all_fresh list terms)

module _ (bases : ℕ) (terms : Terms) (list : List Declared) (log : List SystemEntry) (history : IsSystemHistory bases list terms log) where
  pub part_legal : (t : ℕ) (clock : Declared) → slice_get list t ≡ Some clock → seq.IsLegal clock terms (entries_of t log)
  part_legal t clock here = subst (λ x. seq.AreSteps x (entries_of t log)) (opened_at list terms t clock here)
      (parts bases (length list) (first_system (openings list terms)) log history t)

  pub all_agree : Agrees (system_of list terms log)
  all_agree = agrees bases (openings list terms) log (all_fresh list terms)
      (subst (λ n. AreSystemSteps bases n (first_system (openings list terms)) log) (sym (length-map list (λ clock. opening clock terms))) history)

  pub one_runs : (base t u : ℕ) → runs_on base ((system_of list terms log).timers t) ≡ true
      → runs_on base ((system_of list terms log).timers u) ≡ true
      → ((system_of list terms log).timers t).declared.context ≡ ((system_of list terms log).timers u).declared.context → t ≡ u
  one_runs base t u first second same =
      let w = system_of list terms log in
      let x = (w.timers t).declared.context in
      let is = ((all_agree.contents base).each x).running in
      one_only ((half_of x (w.bases base).content).running) base t u (w.timers t) (w.timers u)
      (subst (λ (k : Timer). generation_in t (half_of x (w.bases base).content).running ≡ running_on base k) (seen_own (w.timers t)) (is t))
      (subst (λ (k : Timer). generation_in u (half_of x (w.bases base).content).running ≡ running_on base k)
      (ap (λ y. seen_in y (w.timers u)) same ∙ seen_own (w.timers u)) (is u)) first second
    where
      one_only : (r : Option (ℕ × ℕ)) (base t u : ℕ) (x y : Timer) → generation_in t r ≡ running_on base x
          → generation_in u r ≡ running_on base y → runs_on base x ≡ true → runs_on base y ≡ true → t ≡ u
      one_only None base t u x y a b first second = grind (arith, nat_tests)
      one_only (Some r) base t u x y a b first second = grind (arith, nat_tests)

pub stamp_counts : (terms : Terms) (list : List Declared) (log : List SystemEntry) (t : ℕ)
    → ((system_of list terms log).timers t).stamp ≡ length (entries_of t log)
stamp_counts terms list log t =
    let first = first_system (openings list terms) in
    omega (
      arith,
      ap (λ (x : Timer). x.stamp) (after_entries-entries_of first t log),
      stamp-after_all (first.timers t)
          (entries_of t log),
      first_stamp list terms t,
    )

-- a timer's soft expiry is no later than its expiry, also as a context sees it
pub soft_within : (terms : Terms) (list : List Declared) (log : List SystemEntry) (t : ℕ)
    → ((system_of list terms log).timers t).soft ≤ ((system_of list terms log).timers t).expires
soft_within terms list log t =
    let first = first_system (openings list terms) in
    let o = opening_at list terms t in
    subst (λ (x : Timer). x.soft ≤ x.expires) (sym (after_entries-entries_of first t log))
    (soft-after_all (first.timers t) (entries_of t log) (subst (λ (x : Timer). x.soft ≤ x.expires) (sym o.2) (omega arith)))

pub soft_within_context : (terms : Terms) (list : List Declared) (log : List SystemEntry) (x : Context) (t : ℕ)
    → (in_context x (system_of list terms log).timers t).soft ≤ (in_context x (system_of list terms log).timers t).expires
soft_within_context terms list log x t = ⊎_elim
    (λ own. subst (λ (k : Timer). k.soft ≤ k.expires) (sym (seen_here x ((system_of list terms log).timers t) own)) (soft_within terms list log t))
    (λ other. subst (λ (k : Timer). k.soft ≤ k.expires) (sym (seen_else x ((system_of list terms log).timers t) other)) (omega arith))
    (cases_Bool (is_context x ((system_of list terms log).timers t).declared.context))
