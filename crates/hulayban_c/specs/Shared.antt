-- What each call of C on a seat answers, and what it leaves.
use Rattle.std.specs.Prelude.{ℕ, ℤ, ◌≡◌, ◌≢◌, ◌-◌, ◌⊎◌, Bool, not, nat_eq, nat_lt, Option, Some, None, MatchBool, MatchOption, MatchResult, Result, Ok, Err, length, if◌then◌else◌}
use Rattle.ktime.specs.Readings.{ClockReading, value_of}
use Rattle.ktime.specs.declared.clock_id.ClockId.{ClockId}
use Rattle.ktime.specs.declared.clock_id.ClockId.TheVariants as clocks
use Rattle.pass_names.specs.SharedHistory.{LooksOn}
use Rattle.seq_timer.specs.Events.{Asked}
use Rattle.seq_timer.specs.declared.answer.Finished.{Finished}
use Rattle.seq_timer.specs.declared.answer.ForwardAnswer.{ForwardAnswer}
use Rattle.seq_timer.specs.declared.context.Context.{Context}
use Rattle.seq_timer.specs.declared.context.Context.TheVariants as contexts
use Rattle.seq_timer.specs.declared.observation.Peek.{Peek}
use Rattle.base_row.specs.Calls.{BaseRowOf}
use Rattle.base_row.specs.declared.view.Opening.{Opening}
use Rattle.hr_timers.specs.Calls.{ClaimFits, Finishes, Forwards, NowFits, Peeks}
use Rattle.hr_timers.specs.Carriers.{CarrierOf, IsCarrierOf}
use Rattle.hr_timers.specs.Carrying.{ArrivalFits, SendsOff, UnsentFits}
use Rattle.hr_timers.specs.Known.{PassOf}
use Rattle.hr_timers.specs.Once.{HereFits, IsContended, NextFits}
use Rattle.hr_timers.specs.declared.answer.ClaimAnswer.{ClaimAnswer}
use Rattle.hr_timers.specs.declared.answer.ClaimAnswer.TheVariants as claimings
use Rattle.hr_timers.specs.declared.answer.NowAnswer.{NowAnswer}
use Rattle.hr_timers.specs.declared.carrying.ArriveAnswer.{ArriveAnswer}
use Rattle.hr_timers.specs.declared.carrying.ArriveAnswer.TheVariants as arrives
use Rattle.hr_timers.specs.declared.numbers.ClaimNumbers.{ClaimNumbers}
use Rattle.hr_timers.specs.declared.once_answer.HereAnswer.{HereAnswer}
use Rattle.hr_timers.specs.declared.once_answer.HereAnswer.TheVariants as heres
use Rattle.hr_timers.specs.declared.once_answer.NextAnswer.{NextAnswer}
use Rattle.hr_timers.specs.declared.once_answer.NextAnswer.TheVariants as nexts
use Rattle.hr_timers.specs.declared.once_answer.Unsent.{Unsent}
use Rattle.timer_core.specs.Waits.{sooner}
use Rattle.hulayban_c.specs.Calls.{claim_asks_at, reading_asked, start_asks_at}
use Rattle.hulayban_c.specs.Numbers.{context_by_number, mode_by_number, reading_by_times}
use Rattle.hulayban_c.specs.Seats.{SeatAt, with_pass}
use Rattle.hulayban_c.specs.SharedTells.{SharedTold, arrive_tells, claiming_tells, finishing_tells, forwarding_tells, here_tells, looking_tells, miss_tells, now_tells, peek_shared, unsent_tells}
use Rattle.hulayban_c.specs.declared.codes.TheConstants.{BAD_BASE, BAD_TIMER, CARRIES, HOLDS_CLAIM, NOT_CLAIMED}
use Rattle.hulayban_c.specs.declared.crossing.Time.{Time}
use Rattle.hulayban_c.specs.declared.shared.answer.SharedAnswer.{SharedAnswer}
use Rattle.hulayban_c.specs.declared.shared.held.Held.{Held}
use Rattle.hulayban_c.specs.declared.shared.held.Held.TheVariants as holds

-- ---- the tests of arguments, in their order

-- a timer, if there is one of this number
abbrev pub timer_asked : SeatAt → ℕ → Result ℕ ℤ
timer_asked s timer = if nat_lt timer (length s.timers.about.timers) then Ok timer else Err BAD_TIMER

-- what a start asks for
abbrev pub shared_start_asks : SeatAt → ℕ → ℕ → ℕ → ℕ → ℕ → Time → Result Asked ℤ
shared_start_asks s timer mode ns slack base now =
    if nat_lt timer (length s.timers.about.timers) then (
    if nat_lt base s.timers.about.bases then start_asks_at (mode_by_number mode) (reading_by_times now) ns slack base else Err BAD_BASE)
    else Err BAD_TIMER

-- the context and the reading of a claim
abbrev pub shared_claim_asks : SeatAt → ℕ → ℕ → Time → Result (Context × ClockReading) ℤ
shared_claim_asks s context base now =
    if nat_lt base s.timers.about.bases then claim_asks_at (context_by_number context) (reading_by_times now) else Err BAD_BASE

-- the reading of a look at a base
abbrev pub shared_next_asks : SeatAt → ℕ → Time → Result ClockReading ℤ
shared_next_asks s base now = if nat_lt base s.timers.about.bases then reading_asked (reading_by_times now) else Err BAD_BASE

-- the claim that a seat has of a timer
abbrev pub claim_on : Option ClaimNumbers → ℕ → Result ClaimNumbers ℤ
claim_on None timer = Err NOT_CLAIMED
claim_on (Some c) timer = if nat_eq c.timer timer then Ok c else Err NOT_CLAIMED

-- the same, if there is a timer of this number
abbrev pub claim_asked : SeatAt → ℕ → Result ClaimNumbers ℤ
claim_asked s timer = if nat_lt timer (length s.timers.about.timers) then claim_on s.claim timer else Err BAD_TIMER

-- with a reading
abbrev pub claim_and_reading : Result ClaimNumbers ℤ → Result ClockReading ℤ → Result (ClaimNumbers × ClockReading) ℤ
claim_and_reading (Err code) reading = Err code
claim_and_reading (Ok c) (Err code) = Err code
claim_and_reading (Ok c) (Ok reading) = Ok (c, reading)

-- the claim and the reading of a forward
abbrev pub shared_forward_asks : SeatAt → ℕ → Time → Result (ClaimNumbers × ClockReading) ℤ
shared_forward_asks s timer now = claim_and_reading (claim_asked s timer) (reading_asked (reading_by_times now))

-- ---- calls by the pass of a seat

-- a call of a seat that holds this, by what it asks for, or the number for its first bad argument: a seat that carries a timer makes none; where it has a
-- pass, the call does this
abbrev pub DoesWith : {X : Type 0} → Result X ℤ → Held → (X → PassOf → SharedTold → SeatAt → Type 0) → SeatAt → SharedTold → SeatAt → Type 0
DoesWith (Err code) held Does old told new = (told ≡ Err code) × (new ≡ old)
DoesWith (Ok x) (holds.Carries c) Does old told new = (told ≡ Err CARRIES) × (new ≡ old)
DoesWith (Ok x) (holds.Rests p) Does old told new = Does x p told new
DoesWith (Ok x) holds.Taken Does old told new = ⊥

-- the same of a seat
abbrev pub ByPass : {X : Type 0} → SeatAt → Result X ℤ → (X → PassOf → SharedTold → SeatAt → Type 0) → SharedTold → SeatAt → Type 0
ByPass old asked Does told new = DoesWith asked old.held Does old told new

-- a cancel
abbrev pub CancelsBy : SeatAt → ℕ → PassOf → SharedTold → SeatAt → Type 0
CancelsBy old timer p told new =
    (q : PassOf) × (a : NowAnswer) × NowFits old.timers.about p q timer a × (told ≡ Ok (now_tells timer a)) × (new ≡ with_pass old q)

abbrev pub SharedCancel : SeatAt → ℕ → SharedTold → SeatAt → Type 0
SharedCancel old timer told new = ByPass old (timer_asked old timer) (λ x. CancelsBy old timer) told new

-- a look at a timer
abbrev pub PeeksBy : SeatAt → ℕ → PassOf → SharedTold → SeatAt → Type 0
PeeksBy old timer p told new =
    (q : PassOf) × (k : Peek) × Peeks old.timers.about p.known q.known timer k × (told ≡ Ok (peek_shared timer k)) × (new ≡ with_pass old q)

abbrev pub SharedPeek : SeatAt → ℕ → SharedTold → SeatAt → Type 0
SharedPeek old timer told new = ByPass old (timer_asked old timer) (λ x. PeeksBy old timer) told new

-- the claim of a seat after a try at one
abbrev pub claimed_after : Option ClaimAnswer → Option ClaimNumbers
claimed_after None = None
claimed_after (Some (claimings.Claimed c)) = Some c
claimed_after (Some claimings.NoneDue) = None
claimed_after (Some (claimings.BaseBusy t g)) = None

-- a try at a claim, by a seat that has none
abbrev pub TriesClaim : SeatAt → ℕ → Context × ClockReading → PassOf → SharedTold → SeatAt → Type 0
TriesClaim old base x p told new =
    (q : PassOf) × (r : Option ClaimAnswer) × MatchOption r (IsContended p q base) (λ a. ClaimFits old.timers.about p.known q.known x.0 base x.1 a)
    × (told ≡ Ok (claiming_tells base r)) × (new ≡ record (with_pass old q) { claim = claimed_after r })

-- a claim: a seat that has one makes no other
abbrev pub ClaimsWith : Option ClaimNumbers → SeatAt → ℕ → Context × ClockReading → PassOf → SharedTold → SeatAt → Type 0
ClaimsWith (Some c) old base x p told new = (told ≡ Err HOLDS_CLAIM) × (new ≡ old)
ClaimsWith None old base x p told new = TriesClaim old base x p told new

abbrev pub ClaimsBy : SeatAt → ℕ → Context × ClockReading → PassOf → SharedTold → SeatAt → Type 0
ClaimsBy old base x p told new = ClaimsWith old.claim old base x p told new

abbrev pub SharedClaim : SeatAt → ℕ → ℕ → Time → SharedTold → SeatAt → Type 0
SharedClaim old context base now told new = ByPass old (shared_claim_asks old context base now) (ClaimsBy old base) told new

-- a try at a forward
abbrev pub TriesForward : SeatAt → ℕ → ClaimNumbers × ClockReading → PassOf → SharedTold → SeatAt → Type 0
TriesForward old interval x p told new =
    (q : PassOf) × (r : Option ForwardAnswer) × MatchOption r (IsContended p q x.0.base) (λ a. Forwards old.timers.about p.known q.known x.0 x.1 interval a)
    × (told ≡ Ok (forwarding_tells x.0 r)) × (new ≡ with_pass old q)

abbrev pub SharedForward : SeatAt → ℕ → Time → ℕ → SharedTold → SeatAt → Type 0
SharedForward old timer now interval told new = ByPass old (shared_forward_asks old timer now) (TriesForward old interval) told new

-- the claim of a seat after a try at a finish
abbrev pub left_after : Result Finished ClaimNumbers → Option ClaimNumbers
left_after (Ok a) = None
left_after (Err c) = Some c

-- a try at a finish
abbrev pub FinishesBy : SeatAt → Bool → ClaimNumbers → PassOf → SharedTold → SeatAt → Type 0
FinishesBy old restart c p told new =
    (q : PassOf) × (r : Result Finished ClaimNumbers)
    × MatchResult r (λ a. Finishes old.timers.about p.known q.known c restart a) (λ d. (d ≡ c) × IsContended p q c.base)
    × (told ≡ Ok (finishing_tells c r)) × (new ≡ record (with_pass old q) { claim = left_after r })

abbrev pub SharedFinish : SeatAt → ℕ → ℕ → SharedTold → SeatAt → Type 0
SharedFinish old timer restart told new = ByPass old (claim_asked old timer) (FinishesBy old (not (nat_eq restart 0))) told new

-- ---- how long a base may be left alone

-- how long after a reading a look's timer reaches its expiry: 0 where it has, none where no timer is armed
abbrev pub wait_by : ClockReading → ClockId → NextAnswer → Option ℕ
wait_by reading clock (nexts.First t expires) = Some (expires - value_of clock reading)
wait_by reading clock nexts.NoneArmed = None
wait_by reading clock nexts.Contended = None

-- a look at a queue of a base, at a moment of a call
pub record LooksWithin (o : Opening) (p q : PassOf) (x : Context) (base : ℕ) (clock : ClockId) (a : NextAnswer) : Type 0 where
  pub before : PassOf
  pub after : PassOf
  pub from : LooksOn p.known before.known
  pub fits : NextFits o before after x base clock a
  pub got : a ≢ nexts.Contended
  pub to : LooksOn after.known q.known

-- such a look, and the wait by it
abbrev pub LooksOnce : Opening → PassOf → PassOf → Context → ℕ → ClockId → ClockReading → Option ℕ → Type 0
LooksOnce o p q x base clock reading wait = (a : NextAnswer) × LooksWithin o p q x base clock a × (wait ≡ wait_by reading clock a)

-- the least wait of a context's three looks
abbrev pub least_in : ClockReading → (ClockId → NextAnswer) → Option ℕ
least_in reading a =
    sooner (wait_by reading clocks.Monotonic (a clocks.Monotonic))
    (sooner (wait_by reading clocks.Realtime (a clocks.Realtime)) (wait_by reading clocks.Boottime (a clocks.Boottime)))

-- looks at a context's three queues, each at its own moment of the call, and the least of their waits
pub record LooksIn (o : Opening) (p q : PassOf) (x : Context) (base : ℕ) (reading : ClockReading) (wait : Option ℕ) : Type 0 where
  pub told : ClockId → NextAnswer
  pub looks : (clock : ClockId) → LooksWithin o p q x base clock (told clock)
  pub least : wait ≡ least_in reading told

-- at a moment of a call another pass took the base's lock in between
abbrev pub WasContended : PassOf → PassOf → ℕ → Type 0
WasContended p q base = (m : PassOf) × LooksOn p.known m.known × IsContended m q base

-- the least wait of both contexts
pub record IsLeastWait (o : Opening) (p q : PassOf) (base : ℕ) (reading : ClockReading) (wait : Option ℕ) : Type 0 where
  pub hard : Option ℕ
  pub soft : Option ℕ
  pub in_hard : LooksIn o p q contexts.Hard base reading hard
  pub in_soft : LooksIn o p q contexts.Soft base reading soft
  pub least : wait ≡ sooner hard soft

-- looks at all six queues of a base
abbrev pub LooksBy : SeatAt → ℕ → ClockReading → PassOf → SharedTold → SeatAt → Type 0
LooksBy old base reading p told new =
    (q : PassOf) × (r : Option (Option ℕ)) × MatchOption r (WasContended p q base)
    (λ wait. LooksOn p.known q.known × IsLeastWait old.timers.about p q base reading wait)
    × (told ≡ Ok (looking_tells base r)) × (new ≡ with_pass old q)

abbrev pub SharedNext : SeatAt → ℕ → Time → SharedTold → SeatAt → Type 0
SharedNext old base now told new = ByPass old (shared_next_asks old base now) (LooksBy old base) told new

-- ---- start

-- what a seat holds after a try at an arrival
abbrev pub held_after : ArriveAnswer → Held
held_after (arrives.Arrived p l) = holds.Rests p
held_after (arrives.SentOn c) = holds.Carries c
held_after (arrives.Contended c) = holds.Carries c

-- one try at the arrival of a carried timer
abbrev pub ArrivesBy : BaseRowOf → CarrierOf → Asked → ℤ × SharedAnswer → Held → Type 0
ArrivesBy timers c asked told held = (a : ArriveAnswer) × ArrivalFits timers c asked a × (told ≡ arrive_tells c.timer c.was_armed a) × (held ≡ held_after a)

-- a timer stayed where it was
abbrev pub StaysBy : Opening → PassOf → ℕ → ℕ → ℤ × SharedAnswer → Held → Type 0
StaysBy o p timer base told held = (q : PassOf) × (u : Unsent) × UnsentFits o p q timer base u × (told ≡ unsent_tells timer u) × (held ≡ holds.Rests q)

-- a timer was sent to another base, and a try was made at its arrival there
abbrev pub GoesBy : BaseRowOf → PassOf → ℕ → Asked → ℤ × SharedAnswer → Held → Type 0
GoesBy timers p timer asked told held =
    (c : CarrierOf) × IsCarrierOf timers c × (c.timer ≡ timer) × SendsOff timers.about p.known c.pass.known timer asked.base c.state c.was_armed
    × ArrivesBy timers c asked told held

-- a try to send a timer to another base, and to start it there
abbrev pub SendsBy : BaseRowOf → PassOf → ℕ → Asked → ℤ × SharedAnswer → Held → Type 0
SendsBy timers p timer asked told held = StaysBy timers.about p timer asked.base told held ⊎ GoesBy timers p timer asked told held

-- what a start does after its try at the timer where it was
abbrev pub GoesOnBy : BaseRowOf → PassOf → ℕ → Asked → HereAnswer → ℤ × SharedAnswer → Held → Type 0
GoesOnBy timers q timer asked (heres.Tried a first) told held = (told ≡ here_tells timer a first) × (held ≡ holds.Rests q)
GoesOnBy timers q timer asked (heres.Missed m) told held = (told ≡ miss_tells timer m) × (held ≡ holds.Rests q)
GoesOnBy timers q timer asked (heres.Elsewhere b) told held = SendsBy timers q timer asked told held

-- a start by a pass that carries no timer
abbrev pub StartsOnce : BaseRowOf → PassOf → ℕ → Asked → ℤ × SharedAnswer → Held → Type 0
StartsOnce timers p timer asked told held =
    (q : PassOf) × (h : HereAnswer) × HereFits timers.about p q timer asked h × GoesOnBy timers q timer asked h told held

-- a start of a timer by what the seat holds: the seat carries it, carries another one, or none
abbrev pub StartsHeld : BaseRowOf → Held → ℕ → Asked → SharedTold → Held → Type 0
StartsHeld timers (holds.Rests p) timer asked told held = (t : ℤ × SharedAnswer) × StartsOnce timers p timer asked t held × (told ≡ Ok t)
StartsHeld timers (holds.Carries c) timer asked told held =
    MatchBool (nat_eq c.timer timer) ((t : ℤ × SharedAnswer) × ArrivesBy timers c asked t held × (told ≡ Ok t)) ((told ≡ Err CARRIES) × (held ≡ holds.Carries c))
StartsHeld timers holds.Taken timer asked told held = ⊥

-- a start, by what it asks for
abbrev pub StartsAsked : Result Asked ℤ → SeatAt → ℕ → SharedTold → SeatAt → Type 0
StartsAsked (Err code) old timer told new = (told ≡ Err code) × (new ≡ old)
StartsAsked (Ok asked) old timer told new = StartsHeld old.timers old.held timer asked told new.held × (new ≡ record old { held = new.held })

-- a start
abbrev pub SharedStart : SeatAt → ℕ → ℕ → ℕ → ℕ → ℕ → Time → SharedTold → SeatAt → Type 0
SharedStart old timer mode ns slack base now told new = StartsAsked (shared_start_asks old timer mode ns slack base now) old timer told new
