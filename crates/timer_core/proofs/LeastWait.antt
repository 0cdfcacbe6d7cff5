-- The least wait over both contexts and all clocks, and that a claim finds a timer when it is over.
use Rattle.std.proofs.Common.{◌≡◌, ◌≤◌, ◌+◌, ◌-◌, ℕ, Bool, true, false, ◌||◌, ◌&&◌, nat_le, nat_lt, nat_eq, if◌then◌else◌, Option, Some, None, [], ◌∷◌, List, IfSome, IsSome, arith, refl, sym, ap, ◌∙◌, subst}
use Rattle.std.specs.Option.{option_or}
use Rattle.std.proofs.Math.Logic.{⊎_elim, ◌⊎◌, inl, inr}
use Rattle.std.proofs.lemmas.Bool.{and_parts, cases_Bool, eqb-true, or_from, or_left, or_right, false≢true, true≢false}
use Rattle.std.proofs.lemmas.Bool.Decides.{nat_tests}
use Rattle.ktime.specs.declared.clock_id.ClockId.{ClockId}
use Rattle.ktime.specs.declared.clock_id.ClockId.TheVariants as clocks
use Rattle.ktime.specs.Readings.{ClockReading, value_of}
use Rattle.timer_queue.specs.Pairs.{first_of}
use Rattle.seq_timer.specs.Steps.{Timer}
use Rattle.seq_timer.specs.Tables.{IsLeading, in_context, is_armed_on, is_context, is_kept_on, no_timer, rank, seen_in}
use Rattle.seq_timer.specs.declared.context.Context.{Context}
use Rattle.seq_timer.specs.declared.context.Context.TheVariants as contexts
use Rattle.seq_timer.specs.Halves.{Half, first_in, queue_of, reached}
use Rattle.seq_timer.specs.Contents.{front_on, half_of}
use Rattle.seq_timer.proofs.Contents.{seen_armed}
use Rattle.seq_timer.proofs.Due.{rank-injective}
use Rattle.timer_core.specs.Kept.{Kept, content_at, timer_in}
use Rattle.timer_core.specs.Waits.{HasGoneOn, IsLeast, IsNextWait, IsWait, MayClaim, sooner, wait_of}

-- ---- there is one least number

least-one : (picks : ℕ → Bool) (number : ℕ → ℕ) (a b : Option ℕ) → IsLeast picks number a → IsLeast picks number b → a ≡ b
least-one picks number None None one other = refl
least-one picks number None (Some y) one other = absurd (true≢false (sym other.1.1 ∙ one other.1.0))
least-one picks number (Some x) None one other = absurd (true≢false (sym one.1.1 ∙ other one.1.0))
least-one picks number (Some x) (Some y) one other =
    let below : x ≤ y = subst (λ n. x ≤ n) other.1.2 (one.0 other.1.0 other.1.1) in
    let above : y ≤ x = subst (λ n. y ≤ n) one.1.2 (other.0 one.1.0 one.1.1) in
    let same : x ≡ y = omega (arith, below, above) in
    ap (λ n. Some n) same

pub one-wait : (k : Kept) (base : ℕ) (reading : ClockReading) (one other : Option ℕ) → IsNextWait k base reading one → IsNextWait k base reading other
    → one ≡ other
one-wait k base reading one other is that =
    least-one (λ id. is_armed_on base (timer_in k id)) (λ id. wait_of reading (timer_in k id)) one other is.least that.least

-- ---- the lesser of two waits

either : (a b : Bool) → a || b ≡ true → (a ≡ true) ⊎ (b ≡ true)
either true b is = inl refl
either false b is = inr is

lesser_is : (x y : ℕ) → ((if nat_le x y then x else y) ≡ x) ⊎ ((if nat_le x y then x else y) ≡ y)
lesser_is x y = ⊎_elim (λ e. inl (ap (λ b. if b then x else y) e)) (λ e. inr (ap (λ b. if b then x else y) e)) (cases_Bool (nat_le x y))

lesser_below : (x y n : ℕ) → (x ≤ n) ⊎ (y ≤ n) → (if nat_le x y then x else y) ≤ n
lesser_below x y n (inl below) = grind (arith, nat_tests)
lesser_below x y n (inr below) = grind (arith, nat_tests)

module _ (p q r : ℕ → Bool) (both : (id : ℕ) → r id ≡ p id || q id) where
  picked_by : (id : ℕ) → r id ≡ true → (p id ≡ true) ⊎ (q id ≡ true)
  picked_by id picked = either (p id) (q id) (sym (both id) ∙ picked)

  least-join : (number : ℕ → ℕ) (a b : Option ℕ) → IsLeast p number a → IsLeast q number b → IsLeast r number (sooner a b)
  least-join number None None one other = λ id. both id ∙ or_from (p id) (q id) (one id) (other id)
  least-join number None (Some y) one other = (
    λ id picked. ⊎_elim (λ here. absurd (true≢false (sym here ∙ one id))) (λ there. other.0 id there) (picked_by id picked),
    (other.1.0, both other.1.0 ∙ or_right (p other.1.0) (q other.1.0) other.1.1, other.1.2),
  )
  least-join number (Some x) None one other = (
    λ id picked. ⊎_elim (λ here. one.0 id here) (λ there. absurd (true≢false (sym there ∙ other id))) (picked_by id picked),
    (one.1.0, both one.1.0 ∙ or_left (p one.1.0) (q one.1.0) one.1.1, one.1.2),
  )
  least-join number (Some x) (Some y) one other = (
    λ id picked. lesser_below x y (number id) (⊎_elim (λ here. inl (one.0 id here)) (λ there. inr (other.0 id there)) (picked_by id picked)),
    ⊎_elim
        (λ is. (one.1.0, both one.1.0 ∙ or_left (p one.1.0) (q one.1.0) one.1.1, one.1.2 ∙ sym is))
        (λ is. (other.1.0, both other.1.0 ∙ or_right (p other.1.0) (q other.1.0) other.1.1, other.1.2 ∙ sym is))
        (lesser_is x y),
  )

  -- the wait of all that one or the other picks
  wait-join : (k : Kept) (base : ℕ) (reading : ClockReading) (a b : Option ℕ) → IsWait k base reading p a → IsWait k base reading q b
      → IsWait k base reading r (sooner a b)
  wait-join k base reading a b one other = record {
    least = least-join (λ id. wait_of reading (timer_in k id)) a b one.least other.least;
    wakes = wakes a b one.wakes other.wakes;
  }
    where
      Wakes : ℕ → Type 0
      Wakes ns = (later : ClockReading) → HasGoneOn ns reading later → MayClaim k base later

      wakes : (a b : Option ℕ) → IfSome a Wakes → IfSome b Wakes → IfSome (sooner a b) Wakes
      wakes None None one other = tt
      wakes None (Some y) one other = other
      wakes (Some x) None one other = one
      wakes (Some x) (Some y) one other = ⊎_elim (λ is. subst Wakes (sym is) one) (λ is. subst Wakes (sym is) other) (lesser_is x y)

-- ---- of both contexts, and of all clocks

or_false : (b : Bool) → b ≡ b || false
or_false true = refl
or_false false = refl

armed_by_context : (base : ℕ) (t : Timer) → is_armed_on base t ≡ is_armed_on base (seen_in contexts.Hard t) || is_armed_on base (seen_in contexts.Soft t)
armed_by_context base t = by t.declared.context
  where
    by : (x : Context) → is_armed_on base t
        ≡ is_armed_on base (if is_context contexts.Hard x then t else no_timer) || is_armed_on base (if is_context contexts.Soft x then t else no_timer)
    by contexts.Hard = or_false (is_armed_on base t)
    by contexts.Soft = refl

armed_by_clock : (base : ℕ) (t : Timer)
    → is_armed_on base t ≡ is_kept_on base clocks.Monotonic t || (is_kept_on base clocks.Realtime t || is_kept_on base clocks.Boottime t)
armed_by_clock base t = by (is_armed_on base t) t.clock
  where
    by : (armed : Bool) (clock : ClockId) → armed ≡ (armed && nat_eq (rank clock) 0) || ((armed && nat_eq (rank clock) 1) || (armed && nat_eq (rank clock) 2))
    by true clocks.Monotonic = refl
    by true clocks.Realtime = refl
    by true clocks.Boottime = refl
    by false clocks.Monotonic = refl
    by false clocks.Realtime = refl
    by false clocks.Boottime = refl

-- the wait in one context, by its waits on each clock
pub wait-clocks : (k : Kept) (x : Context) (base : ℕ) (reading : ClockReading) (mono real boot : Option ℕ)
    → IsWait k base reading (λ id. is_kept_on base clocks.Monotonic (in_context x (timer_in k) id)) mono
    → IsWait k base reading (λ id. is_kept_on base clocks.Realtime (in_context x (timer_in k) id)) real
    → IsWait k base reading (λ id. is_kept_on base clocks.Boottime (in_context x (timer_in k) id)) boot
    → IsWait k base reading (λ id. is_armed_on base (in_context x (timer_in k) id)) (sooner mono (sooner real boot))
wait-clocks k x base reading mono real boot one two three =
    wait-join (on clocks.Monotonic) (λ id. on clocks.Realtime id || on clocks.Boottime id) (λ id. is_armed_on base (in_context x (timer_in k) id))
    (λ id. armed_by_clock base (in_context x (timer_in k) id)) k base reading mono (sooner real boot) one
    (wait-join (on clocks.Realtime) (on clocks.Boottime) (λ id. on clocks.Realtime id || on clocks.Boottime id) (λ id. refl) k base reading real boot two three)
  where
    on : ClockId → ℕ → Bool
    on clock id = is_kept_on base clock (in_context x (timer_in k) id)

-- the wait of all, by those in both contexts
pub wait-contexts : (k : Kept) (base : ℕ) (reading : ClockReading) (hard soft : Option ℕ)
    → IsWait k base reading (λ id. is_armed_on base (in_context contexts.Hard (timer_in k) id)) hard
    → IsWait k base reading (λ id. is_armed_on base (in_context contexts.Soft (timer_in k) id)) soft
    → IsNextWait k base reading (sooner hard soft)
wait-contexts k base reading hard soft one two =
    wait-join (λ id. is_armed_on base (in_context contexts.Hard (timer_in k) id)) (λ id. is_armed_on base (in_context contexts.Soft (timer_in k) id))
    (λ id. is_armed_on base (timer_in k id)) (λ id. armed_by_context base (timer_in k id)) k base reading hard soft one two

-- ---- of one context and one clock

reached_first : (timers : ℕ → Timer) (now : ℕ) (queue : List (ℕ × ℕ)) (p : ℕ × ℕ) → Some p ≡ first_of queue → (timers p.1).soft ≤ now
    → reached timers now queue ≡ Some p
reached_first timers now [] p is soft = absurd (cc)
reached_first timers now (q ∷ qs) p is soft = grind (arith, nat_tests)

some_left : (a b : Option (ℕ × ℕ)) → IsSome a → IsSome (option_or a b)
some_left (Some x) b some = refl
some_left None b some = absurd (false≢true some)

some_right : (a b : Option (ℕ × ℕ)) → IsSome b → IsSome (option_or a b)
some_right (Some x) b some = refl
some_right None b some = some

first_in-some : (timers : ℕ → Timer) (h : Half) (later : ClockReading) (clock : ClockId) (p : ℕ × ℕ) → Some p ≡ first_of (queue_of h clock)
    → (timers p.1).soft ≤ value_of clock later → IsSome (first_in timers h later)
first_in-some timers h later clocks.Monotonic p is soft =
    some_left (reached timers later.mono h.monotonic) (option_or (reached timers later.real h.realtime) (reached timers later.boot h.boottime))
    (subst IsSome (sym (reached_first timers later.mono h.monotonic p is soft)) refl)
first_in-some timers h later clocks.Realtime p is soft =
    some_right (reached timers later.mono h.monotonic) (option_or (reached timers later.real h.realtime) (reached timers later.boot h.boottime))
    (some_left (reached timers later.real h.realtime) (reached timers later.boot h.boottime)
    (subst IsSome (sym (reached_first timers later.real h.realtime p is soft)) refl))
first_in-some timers h later clocks.Boottime p is soft =
    some_right (reached timers later.mono h.monotonic) (option_or (reached timers later.real h.realtime) (reached timers later.boot h.boottime))
    (some_right (reached timers later.real h.realtime) (reached timers later.boot h.boottime)
    (subst IsSome (sym (reached_first timers later.boot h.boottime p is soft)) refl))

-- a timer that is kept on a clock in a context is seen as it is, and waits by that clock
wait-seen : (x : Context) (base : ℕ) (clock : ClockId) (reading : ClockReading) (t : Timer) → is_kept_on base clock (seen_in x t) ≡ true
    → (seen_in x t).expires - value_of clock reading ≡ wait_of reading t
wait-seen x base clock reading t kept =
    let parts = and_parts (is_armed_on base (seen_in x t)) (nat_eq (rank (seen_in x t).clock) (rank clock)) kept in
    let clock_is : (seen_in x t).clock ≡ clock = rank-injective (seen_in x t).clock clock (eqb-true (rank (seen_in x t).clock) (rank clock) parts.1) in
    ap (λ c. (seen_in x t).expires - value_of c reading) (sym clock_is) ∙ ap (wait_of reading) (sym (seen_armed x base t parts.0))

sub_below : (a b now : ℕ) → nat_lt b a ≡ false → a - now ≤ b - now
sub_below a b now is = grind (arith, nat_tests)

-- the wait of the first timer of a context and a clock
pub wait-front : (k : Kept) (x : Context) (base : ℕ) (clock : ClockId) (reading : ClockReading) (p : ℕ × ℕ)
    → Some p ≡ front_on x clock (content_at k base) → timer_in k p.1 ≡ in_context x (timer_in k) p.1
    → IsLeading (in_context x (timer_in k)) base clock p.1 → p.0 ≡ (timer_in k p.1).expires → (timer_in k p.1).soft ≤ p.0
    → IsWait k base reading (λ id. is_kept_on base clock (in_context x (timer_in k) id)) (Some (p.0 - value_of clock reading))
wait-front k x base clock reading p front own leads expires soft = record {
  least = (
    λ id kept. subst (λ n. p.0 - value_of clock reading ≤ n) (wait-seen x base clock reading (timer_in k id) kept)
        (sub_below p.0 (seen id).expires (value_of clock reading) (not_before id kept)),
    (p.1, leads.kept, sym (wait-seen x base clock reading (timer_in k p.1) leads.kept) ∙ ap (λ n. n - value_of clock reading) (sym is)),
  );
  wakes = λ later gone. (x, first_in-some (timer_in k) (half_of x (content_at k base)) later clock p front (in_time later (gone clock)));
}
  where
    seen : ℕ → Timer
    seen id = in_context x (timer_in k) id

    is : p.0 ≡ (seen p.1).expires
    is = expires ∙ ap (λ (t : Timer). t.expires) own

    not_before : (id : ℕ) → is_kept_on base clock (seen id) ≡ true → nat_lt (seen id).expires p.0 ≡ false
    not_before id kept = ap (nat_lt (seen id).expires) is ∙ sym (ap (λ b. b && nat_lt (seen id).expires (seen p.1).expires) kept) ∙ leads.smaller id

    in_time : (later : ClockReading) → value_of clock reading + (p.0 - value_of clock reading) ≤ value_of clock later
        → (timer_in k p.1).soft ≤ value_of clock later
    in_time later gone = omega (arith, gone, soft)
