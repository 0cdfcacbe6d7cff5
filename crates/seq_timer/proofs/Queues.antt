-- What taking a timer off a base's queues and putting it on one do to the queues.
use Rattle.std.proofs.Common.{◌≡◌, ℕ, false, List, Option, Some, None, unwrap_or, [], ◌∷◌, nat_eq, if◌then◌else◌, arith, refl, sym, subst, ap, ◌∙◌, is_some}
use Rattle.std.proofs.lemmas.Bool.{and_left, and_right}
use Rattle.std.proofs.lemmas.Bool.Decides.{nat_tests}
use Rattle.ktime.specs.declared.clock_id.ClockId.{ClockId}
use Rattle.ktime.specs.declared.clock_id.ClockId.TheVariants as clocks
use Rattle.timer_queue.specs.Pairs.{has_id, put, without}
use Rattle.timer_queue.proofs.Pairs.{has_id-expiry_of, expiry_of-without}
use Rattle.seq_timer.specs.declared.effect.RunEffect.{RunEffect}
use Rattle.seq_timer.specs.declared.effect.RunEffect.TheVariants as functions
use Rattle.seq_timer.specs.Bases.{IsInNone, IsQueuedIn, is_queued}
use Rattle.seq_timer.specs.Tables.{rank}
use Rattle.seq_timer.specs.Halves.{Half, queue_of, dequeued, enqueued, run_by, with_running}

-- a timer that was taken out isn't in the queue
pub has_id-without : (id : ℕ) (queue : List (ℕ × ℕ)) → has_id id (without id queue) ≡ false
has_id-without id queue = rw (has_id-expiry_of id (without id queue)) (grind (arith, nat_tests, expiry_of-without id id queue))

-- a queue stays where the timer to take out isn't in it
pub without_absent : (id : ℕ) (queue : List (ℕ × ℕ)) → has_id id queue ≡ false → without id queue ≡ queue
without_absent id [] absent = refl
without_absent id (p ∷ ps) absent =
    let head : nat_eq p.1 id ≡ false = grind (arith, nat_tests) in
    let rest : has_id id ps ≡ false = grind (arith, nat_tests) in
    rw head (ap (λ qs. p ∷ qs) (without_absent id ps rest))

pub queue_of-dequeued : (id : ℕ) (c : Half) (clock : ClockId) → queue_of (dequeued id c) clock ≡ without id (queue_of c clock)
queue_of-dequeued id c clocks.Monotonic = refl
queue_of-dequeued id c clocks.Realtime = refl
queue_of-dequeued id c clocks.Boottime = refl

pub queue_of-enqueued : (its clock : ClockId) (expires id : ℕ) (c : Half)
    → queue_of (enqueued its expires id c) clock ≡ (if nat_eq (rank its) (rank clock) then put expires id (queue_of c clock) else queue_of c clock)
queue_of-enqueued clocks.Monotonic clocks.Monotonic expires id c = refl
queue_of-enqueued clocks.Monotonic clocks.Realtime expires id c = refl
queue_of-enqueued clocks.Monotonic clocks.Boottime expires id c = refl
queue_of-enqueued clocks.Realtime clocks.Monotonic expires id c = refl
queue_of-enqueued clocks.Realtime clocks.Realtime expires id c = refl
queue_of-enqueued clocks.Realtime clocks.Boottime expires id c = refl
queue_of-enqueued clocks.Boottime clocks.Monotonic expires id c = refl
queue_of-enqueued clocks.Boottime clocks.Realtime expires id c = refl
queue_of-enqueued clocks.Boottime clocks.Boottime expires id c = refl

-- what runs on the base doesn't stand in the queues
pub queue_of-with_running : (running : Option (ℕ × ℕ)) (c : Half) (clock : ClockId) → queue_of (with_running running c) clock ≡ queue_of c clock
queue_of-with_running running c clocks.Monotonic = refl
queue_of-with_running running c clocks.Realtime = refl
queue_of-with_running running c clocks.Boottime = refl

pub queue_of-run_by : (f : RunEffect) (id : ℕ) (armed : Option ℕ) (c : Half) (clock : ClockId) → queue_of (run_by f id armed c) clock ≡ queue_of c clock
queue_of-run_by functions.Stays id armed c clock = refl
queue_of-run_by (functions.Begins reading) id armed c clock = queue_of-with_running (Some (id, unwrap_or armed 0)) c clock
queue_of-run_by functions.Ends id armed c clock = queue_of-with_running None c clock

-- nor do the queues say what runs
pub running-enqueued : (its : ClockId) (expires id : ℕ) (c : Half) → (enqueued its expires id c).running ≡ c.running
running-enqueued clocks.Monotonic expires id c = refl
running-enqueued clocks.Realtime expires id c = refl
running-enqueued clocks.Boottime expires id c = refl

-- ---- taking a timer off the one queue that it is in

pub dequeued-in_none : (id : ℕ) (c : Half) → IsInNone id (dequeued id c)
dequeued-in_none id c = record { monotonic = has_id-without id c.monotonic; realtime = has_id-without id c.realtime; boottime = has_id-without id c.boottime }

abbrev pub content_of : List (ℕ × ℕ) → List (ℕ × ℕ) → List (ℕ × ℕ) → Option (ℕ × ℕ) → Half
content_of m r b running = record { monotonic = m; realtime = r; boottime = b; running = running }

same_queues : (m m' r r' b b' : List (ℕ × ℕ)) (running : Option (ℕ × ℕ)) → m ≡ m' → r ≡ r' → b ≡ b' → content_of m r b running ≡ content_of m' r' b' running
same_queues m m' r r' b b' running em er eb = ap (λ q. content_of q r b running) em ∙ ap (λ q. content_of m' q b running) er
    ∙ ap (λ q. content_of m' r' q running) eb

-- a timer isn't in the queue of another clock than its own
away : (id : ℕ) (armed : Option ℕ) (kept its clock : ClockId) (queue : List (ℕ × ℕ)) → kept ≡ its → nat_eq (rank its) (rank clock) ≡ false
    → has_id id queue ≡ is_queued armed kept clock → queue ≡ without id queue
away id armed kept its clock queue is apart here = sym (without_absent id queue (here ∙ and_right (is_some armed) (nat_eq (rank kept) (rank clock))
    (subst (λ k. nat_eq (rank k) (rank clock) ≡ false) (sym is) apart)))

-- a timer that isn't armed is in none of them
pub dequeued-unarmed : (id : ℕ) (armed : Option ℕ) (kept : ClockId) (c : Half) → IsQueuedIn id armed kept c → is_some armed ≡ false → c ≡ dequeued id c
dequeued-unarmed id armed kept c here none =
    let off : (clock : ClockId) → is_queued armed kept clock ≡ false = λ clock. and_left (is_some armed) (nat_eq (rank kept) (rank clock)) none in
    same_queues c.monotonic (without id c.monotonic) c.realtime (without id c.realtime) c.boottime (without id c.boottime) c.running
    (sym (without_absent id c.monotonic (here.monotonic ∙ off clocks.Monotonic)))
    (sym (without_absent id c.realtime (here.realtime ∙ off clocks.Realtime))) (sym (without_absent id c.boottime (here.boottime ∙ off clocks.Boottime)))

-- the queue of a clock put in the place of the one that is there
abbrev pub with_queue : ClockId → List (ℕ × ℕ) → Half → Half
with_queue clocks.Monotonic queue c = record c { monotonic = queue }
with_queue clocks.Realtime queue c = record c { realtime = queue }
with_queue clocks.Boottime queue c = record c { boottime = queue }

pub with_queue-put : (clock : ClockId) (expires id : ℕ) (c : Half) → with_queue clock (put expires id (queue_of c clock)) c ≡ enqueued clock expires id c
with_queue-put clocks.Monotonic expires id c = refl
with_queue-put clocks.Realtime expires id c = refl
with_queue-put clocks.Boottime expires id c = refl

-- one that is, is in its clock's
dequeued_there : (id : ℕ) (armed : Option ℕ) (kept its : ClockId) (queue : List (ℕ × ℕ)) (c : Half) → IsQueuedIn id armed kept c → kept ≡ its
    → queue ≡ without id (queue_of c its) → with_queue its queue c ≡ dequeued id c
dequeued_there id armed kept clocks.Monotonic queue c here on off =
    same_queues queue (without id c.monotonic) c.realtime (without id c.realtime) c.boottime (without id c.boottime) c.running off
    (away id armed kept clocks.Monotonic clocks.Realtime c.realtime on refl here.realtime)
    (away id armed kept clocks.Monotonic clocks.Boottime c.boottime on refl here.boottime)
dequeued_there id armed kept clocks.Realtime queue c here on off =
    same_queues c.monotonic (without id c.monotonic) queue (without id c.realtime) c.boottime (without id c.boottime) c.running
    (away id armed kept clocks.Realtime clocks.Monotonic c.monotonic on refl here.monotonic) off
    (away id armed kept clocks.Realtime clocks.Boottime c.boottime on refl here.boottime)
dequeued_there id armed kept clocks.Boottime queue c here on off =
    same_queues c.monotonic (without id c.monotonic) c.realtime (without id c.realtime) queue (without id c.boottime) c.running
    (away id armed kept clocks.Boottime clocks.Monotonic c.monotonic on refl here.monotonic)
    (away id armed kept clocks.Boottime clocks.Realtime c.realtime on refl here.realtime) off

pub dequeued-armed : (id : ℕ) (armed : Option ℕ) (kept : ClockId) (c : Half) → IsQueuedIn id armed kept c
    → with_queue kept (without id (queue_of c kept)) c ≡ dequeued id c
dequeued-armed id armed kept c here = dequeued_there id armed kept kept (without id (queue_of c kept)) c here refl refl
