-- The first pair that is reached, the first one of a clock, and what runs, over all that is kept.
use Rattle.std.proofs.Common.{◌≡◌, ◌<◌, ℕ, Bool, true, false, nat_eq, nat_le, if◌then◌else◌, List, [], ◌∷◌, Option, Some, None, length, IfSome, IfNone, arith, refl, sym, ◌∙◌, subst}
use Rattle.ktime.specs.declared.clock_id.ClockId.{ClockId}
use Rattle.std.proofs.Math.Logic.{⊎_elim}
use Rattle.std.proofs.lemmas.Bool.{and_parts, cases_lt, false≢true}
use Rattle.std.proofs.lemmas.Bool.Decides.{nat_tests}
use Rattle.std.proofs.lemmas.List.{get_or_past}
use Rattle.ktime.specs.Readings.{ClockReading}
use Rattle.timer_queue.specs.Pairs.{first_of}
use Rattle.seq_timer.specs.Steps.{Timer, now_of}
use Rattle.seq_timer.specs.Tables.{IsLeading, IsNextDue, IsStopped, in_context, is_armed_on, is_due_on, is_kept_on, no_timer, rank, runs_on, seen_in, timer_at}
use Rattle.seq_timer.specs.declared.context.Context.{Context}
use Rattle.seq_timer.specs.declared.context.Context.TheVariants as contexts
use Rattle.seq_timer.specs.Contents.{first_due, front_on, half_of, running_in}
use Rattle.seq_timer.specs.Halves.{IsQueueOf, generation_in, queue_of, running_on}
use Rattle.seq_timer.proofs.Contents.{seen_armed}
use Rattle.seq_timer.proofs.Due.{leads_of}
use Rattle.seq_timer.proofs.Firsts.{first_due-next, first_due-none}
use Rattle.timer_core.specs.Kept.{Kept, IsConsistent, content_at, timer_in}

-- a timer that is armed on a base is there
armed-there : (timers : List Timer) (x : Context) (base id : ℕ) → is_armed_on base (in_context x (timer_at timers) id) ≡ true → id < length timers
armed-there timers x base id armed =
    ⊎_elim (λ inside. inside)
    (λ past. absurd (false≢true (sym (off x) ∙ subst (λ (t : Timer). is_armed_on base (seen_in x t) ≡ true) (get_or_past timers id no_timer past) armed)))
    (cases_lt id (length timers))
  where
    off : (x : Context) → is_armed_on base (seen_in x no_timer) ≡ false
    off contexts.Hard = refl
    off contexts.Soft = refl

-- a timer that is due is there
pub due-there : (timers : List Timer) (x : Context) (base id : ℕ) (reading : ClockReading) → is_due_on base reading (in_context x (timer_at timers) id) ≡ true
    → id < length timers
due-there timers x base id reading due =
    let t = in_context x (timer_at timers) id in
    armed-there timers x base id (and_parts (is_armed_on base t) (nat_le t.soft (now_of t reading)) due).0

-- what holds of the first pair of a context, and where there is none
pub kept-first : (k : Kept) (x : Context) (base : ℕ) (reading : ClockReading) (r : Option (ℕ × ℕ)) → IsConsistent k
    → r ≡ first_due x (timer_in k) (content_at k base) reading
    → IfSome r (λ p. p.1 < length k.timers) × IfSome r (λ p. timer_in k p.1 ≡ in_context x (timer_in k) p.1)
    × IfSome r (λ p. IsNextDue (in_context x (timer_in k)) base reading p.1)
    × IfSome r (λ p. p.0 ≡ (timer_in k p.1).expires) × IfNone r ((clock : ClockId) → IsStopped (in_context x (timer_in k)) base reading clock)
kept-first k x base reading None all is =
    (tt, tt, tt, tt, first_due-none x (timer_in k) base reading (content_at k base) (all.agrees.contents base) (sym is))
kept-first k x base reading (Some p) all is =
    let next = first_due-next x (timer_in k) base reading (content_at k base) (all.agrees.contents base) p (sym is) in
    (due-there k.timers x base p.1 reading next.0.due, next.1, next.0, next.2, tt)

not_kept : (kept : Bool) (expires : ℕ) → None ≡ (if kept then Some expires else None) → kept ≡ false
not_kept true expires is = absurd (cc)
not_kept false expires is = refl

-- what holds of the first pair of a context and a clock, and where there is none
pub kept-front : (k : Kept) (x : Context) (base : ℕ) (clock : ClockId) (r : Option (ℕ × ℕ)) → IsConsistent k → r ≡ front_on x clock (content_at k base)
    → IfSome r (λ p. p.1 < length k.timers) × IfSome r (λ p. timer_in k p.1 ≡ in_context x (timer_in k) p.1)
    × IfSome r (λ p. IsLeading (in_context x (timer_in k)) base clock p.1)
    × IfSome r (λ p. p.0 ≡ (timer_in k p.1).expires) × IfNone r ((id : ℕ) → is_kept_on base clock (in_context x (timer_in k) id) ≡ false)
kept-front k x base clock r all is = by (queue_of (half_of x (content_at k base)) clock) r (((all.agrees.contents base).each x).queues clock) is
  where
    by : (queue : List (ℕ × ℕ)) (r : Option (ℕ × ℕ)) → IsQueueOf (in_context x (timer_in k)) base clock queue → r ≡ first_of queue
        → IfSome r (λ p. p.1 < length k.timers) × IfSome r (λ p. timer_in k p.1 ≡ in_context x (timer_in k) p.1)
        × IfSome r (λ p. IsLeading (in_context x (timer_in k)) base clock p.1)
        × IfSome r (λ p. p.0 ≡ (timer_in k p.1).expires) × IfNone r ((id : ℕ) → is_kept_on base clock (in_context x (timer_in k) id) ≡ false)
    by [] None here is = (tt, tt, tt, tt, λ id. not_kept (is_kept_on base clock (in_context x (timer_in k) id)) _ (here.exact id))
    by [] (Some p) here is = absurd (cc)
    by (q ∷ qs) None here is = absurd (cc)
    by (q ∷ qs) (Some p) here is =
        let t = in_context x (timer_in k) p.1 in
        let leads = leads_of (in_context x (timer_in k)) base clock (q ∷ qs) p here (sym is) in
        let armed = (and_parts (is_armed_on base t) (nat_eq (rank t.clock) (rank clock)) leads.0.kept).0 in
        let same = seen_armed x base (timer_in k p.1) armed in
        (armed-there k.timers x base p.1 armed, same, leads.0, subst (λ (t : Timer). p.0 ≡ t.expires) (sym same) (sym leads.1), tt)

not_running : (base : ℕ) (t : Timer) → None ≡ running_on base t → runs_on base t ≡ false
not_running base t none = grind (arith, nat_tests)

-- where a base names no running function of a context, none runs there
pub kept-idle : (k : Kept) (x : Context) (base : ℕ) (r : Option (ℕ × ℕ)) → IsConsistent k → r ≡ running_in x (content_at k base)
    → IfNone r ((id : ℕ) → runs_on base (in_context x (timer_in k) id) ≡ false)
kept-idle k x base None all is = λ id. let t = in_context x (timer_in k) id in
    not_running base t (subst (λ (r : Option (ℕ × ℕ)). generation_in id r ≡ running_on base t) (sym is) (((all.agrees.contents base).each x).running id))
kept-idle k x base (Some r) all is = tt
