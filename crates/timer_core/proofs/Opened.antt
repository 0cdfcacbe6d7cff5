-- Bases without timers and timers of which nothing has happened yet agree.
use Rattle.std.proofs.Common.{◌≡◌, ◌<◌, ◌≤◌, ℕ, false, List, [], None, map, length, get_or, replicate, arith, refl, sym, ap, ◌∙◌, subst, true≢false}
use Rattle.std.specs.List.{IsDistinct}
use Rattle.std.proofs.Math.Logic.{⊎_elim}
use Rattle.std.proofs.lemmas.Bool.{cases_Bool, cases_lt}
use Rattle.std.proofs.lemmas.Bool.Decides.{nat_tests}
use Rattle.std.proofs.lemmas.List.{get_or-map, get_or_past, get_or-replicate, length-replicate, length-map}
use Rattle.ktime.specs.declared.clock_id.ClockId.{ClockId}
use Rattle.ktime.specs.declared.clock_id.ClockId.TheVariants as clocks
use Rattle.seq_timer.specs.Steps.{Timer, limited, opening}
use Rattle.seq_timer.specs.Tables.{in_context, is_context, no_declared, no_timer, seen_in, timer_at}
use Rattle.seq_timer.specs.declared.context.Context.{Context}
use Rattle.seq_timer.specs.declared.context.Context.TheVariants as contexts
use Rattle.seq_timer.specs.declared.context.Declared.{Declared}
use Rattle.seq_timer.specs.declared.context.Terms.{Terms}
use Rattle.seq_timer.specs.Halves.{wanted, running_on, queue_of, IsHalfOf, IsQueueOf, no_half}
use Rattle.seq_timer.specs.Contents.{IsContentOf, half_of, no_content}
use Rattle.seq_timer.proofs.Contents.{seen_else, seen_here}
use Rattle.seq_timer.specs.Bases.{BaseState, empty_base}
use Rattle.timer_core.specs.Kept.{IsConsistent, opened}

-- what holds of each timer at its opening holds of each that is there, or isn't
pub each_opening : (P : Timer → Type 0) → ((clock : Declared) (terms : Terms) → P (opening clock terms)) → (list : List Declared) (terms : Terms) (id : ℕ)
    → P (timer_at (map (λ clock. opening clock terms) list) id)
each_opening P all list terms id =
    ⊎_elim
    (λ (there : id < length list). subst P (sym (get_or-map (λ clock. opening clock terms) list id no_declared no_timer there))
    (all (get_or list id no_declared) terms))
    (λ (past : length list ≤ id). subst P
    (sym (get_or_past (map (λ clock. opening clock terms) list) id no_timer
    (subst (λ n. n ≤ id) (sym (length-map list (λ clock. opening clock terms))) past))) (all no_declared (limited 1)))
    (cases_lt id (length list))

pub empty-at : (n base room : ℕ) → (get_or (replicate n (empty_base room)) base (empty_base 0)).content ≡ (empty_base 0).content
empty-at n base room =
    ⊎_elim
    (λ (there : base < n). ap (λ (b : BaseState). b.content) (get_or-replicate n base (empty_base room) (empty_base 0) there))
    (λ (past : n ≤ base). ap (λ (b : BaseState). b.content)
    (get_or_past (replicate n (empty_base room)) base (empty_base 0) (subst (λ m. m ≤ base) (sym (length-replicate n (empty_base room))) past)))
    (cases_lt base n)

pub queue_of-empty : (clock : ClockId) → queue_of no_half clock ≡ []
queue_of-empty clocks.Monotonic = refl
queue_of-empty clocks.Realtime = refl
queue_of-empty clocks.Boottime = refl

half_of-none : (x : Context) → half_of x no_content ≡ no_half
half_of-none contexts.Hard = refl
half_of-none contexts.Soft = refl

-- what no_timer and each opening have is what a context sees
as_seen : (P : Timer → Type 0) → P no_timer → (x : Context) (t : Timer) → P t → P (seen_in x t)
as_seen P none x t this = ⊎_elim (λ own. subst P (sym (seen_here x t own)) this) (λ other. subst P (sym (seen_else x t other)) none)
    (cases_Bool (is_context x t.declared.context))

no_running : (base : ℕ) (t : Timer) → t.running ≡ None → None ≡ running_on base t
no_running base t none = grind (arith, nat_tests)

pub empty-agrees : (list : List Declared) (terms : Terms) (base : ℕ)
    → IsContentOf (timer_at (map (λ clock. opening clock terms) list)) base (empty_base 0).content
unfolding IsDistinct
empty-agrees list terms base = record { each = λ x. subst (IsHalfOf (in_context x timers) base) (sym (half_of-none x)) (half x) }
  where
    timers : ℕ → Timer
    timers = timer_at (map (λ clock. opening clock terms) list)

    half : (x : Context) → IsHalfOf (in_context x timers) base no_half
    half x = record {
      queues = λ clock. subst (IsQueueOf (in_context x timers) base clock) (sym (queue_of-empty clock)) (record {
        exact = λ id. as_seen (λ t. None ≡ wanted base clock t) refl x (timers id)
            (each_opening (λ t. None ≡ wanted base clock t) (λ c l. refl) list terms id);
        once = tt;
        by_expiry = tt;
      });
      running = λ id. as_seen (λ t. None ≡ running_on base t) (no_running base no_timer refl) x (timers id)
          (each_opening (λ t. None ≡ running_on base t) (λ c l. no_running base (opening c l) refl) list terms id);
    }

pub consistent-opened : (bases : ℕ) (list : List Declared) (terms : Terms) → 1 ≤ bases → bases ≤ 64 → length list ≤ 4294967295 → IsConsistent (opened bases list terms)
consistent-opened bases list terms some few timers =
    let room = length list in
    let many = length-replicate bases (empty_base room) in
    let still : (id : ℕ) → (timer_at (map (λ clock. opening clock terms) list) id).moving ≡ false =
    λ id. each_opening (λ t. t.moving ≡ false) (λ c l. refl) list terms id in
    record {
      agrees = record {
        contents = λ base. subst (IsContentOf (timer_at (map (λ clock. opening clock terms) list)) base) (sym (empty-at bases base room))
            (empty-agrees list terms base);
        rooms = λ base below. ap (λ (b : BaseState). b.room)
            (get_or-replicate bases base (empty_base room) (empty_base 0) (subst (λ n. base < n) many below))
            ∙ sym (length-map list (λ clock. opening clock terms));
        placed = λ id. each_opening (λ t. t.base < length (replicate bases (empty_base room))) (λ c l. subst (λ n. 0 < n) (sym many) some) list terms id;
        apart = λ id moves. absurd (true≢false (sym moves ∙ still id));
        few_bases = subst (λ n. n ≤ 64) (sym many) few;
        few_timers = subst (λ n. n ≤ 4294967295) (sym (length-map list (λ clock. opening clock terms))) timers;
      };
      still = still;
    }
