-- What an event leaves of its timer, answers and needs, by its effect. All that holds for every event is shown from this one law.
use Rattle.std.proofs.Common.{◌≡◌, ◌+◌, ◌≤◌, ◌<◌, ◌⊎◌, ℕ, Bool, true, false, ◌&&◌, ◌||◌, Option, Some, None, IsSome, IsNone, is_some, unwrap_or, if◌then◌else◌, arith, refl, sym, ◌∙◌, inl, inr}
use Rattle.std.proofs.Math.Logic.{⊎_elim}
use Rattle.std.proofs.lemmas.Bool.{cases_Bool, true≢false}
use Rattle.std.proofs.lemmas.Bool.Decides.{nat_tests}
use Rattle.ktime.specs.declared.clock_id.ClockId.{ClockId}
use Rattle.ktime.specs.declared.mode.Mode.{Mode}
use Rattle.ktime.specs.declared.mode.Mode.TheVariants as modes
use Rattle.ktime.specs.Readings.{ClockReading}
use Rattle.ktime.specs.Times.{effective_clock, last_time}
use Rattle.seq_timer.specs.declared.effect.Effect.{Effect}
use Rattle.seq_timer.specs.declared.effect.QueueEffect.{QueueEffect}
use Rattle.seq_timer.specs.declared.effect.QueueEffect.TheVariants as queues
use Rattle.seq_timer.specs.declared.effect.RunEffect.{RunEffect}
use Rattle.seq_timer.specs.declared.effect.RunEffect.TheVariants as functions
use Rattle.seq_timer.specs.Events.{Event}
use Rattle.seq_timer.specs.declared.event.EventBy.TheVariants as events
use Rattle.seq_timer.specs.Effects.{NeedsOfBases, effect}
use Rattle.seq_timer.specs.Steps.{Timer, Needs, after, arms_again, entries_left, expiry_from, most_entries, reply_to}
use Rattle.seq_timer.specs.Halves.{Half, IsFreeFor, wanted}
use Rattle.seq_timer.specs.Histories.{told_in}

-- ---- one timer by itself

pub some_of : (o : Option ℕ) → IsSome o → o ≡ Some (unwrap_or o 0)
some_of (Some g) is = refl
some_of None is = absurd (true≢false (sym is))

pub none_of : (o : Option ℕ) → IsNone o → o ≡ None
none_of None is = refl
none_of (Some g) is = absurd (true≢false is)

pub some_none : (o : Option ℕ) → IsSome o → o ≡ None → ⊥
some_none None some none = true≢false (sym some)
some_none (Some g) some none = cc

-- a timer on the move is neither armed nor running
abbrev pub IsApart : Timer → Type 0
IsApart t = t.moving ≡ true → (t.armed ≡ None) × (t.running ≡ None)

-- the timer has so many entries left, and isn't both on the move and armed or running
pub record HasLeft (t : Timer) : Type 0 where
  pub few : t.stamp + entries_left t ≤ most_entries t.terms
  pub apart : t.moving && (is_some t.armed || is_some t.running) ≡ false

-- a timer whose function runs isn't on the move
pub still_running : (t : Timer) → IsSome t.running → IsApart t → t.moving ≡ false
still_running t runs apart = ⊎_elim (λ moves. absurd (some_none t.running runs (apart moves).1)) (λ still. still) (cases_Bool t.moving)

pub wanted-unarmed : (base : ℕ) (clock : ClockId) (t : Timer) → t.armed ≡ None → wanted base clock t ≡ None
wanted-unarmed base clock t none = grind (arith, nat_tests)

-- ---- what an effect says

-- the generation that is armed afterwards
abbrev pub armed_afterwards : QueueEffect → Timer → Option ℕ
armed_afterwards queues.Stays t = t.armed
armed_afterwards queues.Leaves t = None
armed_afterwards queues.Armed t = Some (t.stamp + 1)

-- the generation that runs afterwards
abbrev pub running_afterwards : RunEffect → Timer → Option ℕ
running_afterwards functions.Stays t = t.running
running_afterwards (functions.Begins reading) t = t.armed
running_afterwards functions.Ends t = None

-- a timer that is sent is on the move to its base; another one stays on its base, and is on the move only if it was
abbrev pub IsSent : Option ℕ → Timer → Timer → Type 0
IsSent None t now = (now.base ≡ t.base) × ((now.moving ≡ t.moving) ⊎ (now.moving ≡ false))
IsSent (Some base) t now = (now.base ≡ base) × (now.moving ≡ true)

-- whether the event is a cancel: the timer leaves its queue, and isn't sent
abbrev pub is_cancelling : QueueEffect → Option ℕ → Bool
is_cancelling queues.Stays sent = false
is_cancelling queues.Leaves None = true
is_cancelling queues.Leaves (Some base) = false
is_cancelling queues.Armed sent = false

-- what the reply tells: the generation that a claim answers, that a cancel does, and that a finish does
abbrev pub told_by_effect : RunEffect → Bool → Timer → Option ℕ × Option ℕ × Option ℕ
told_by_effect functions.Stays cancelling t = (None, if cancelling then Some (unwrap_or t.armed 0) else None, None)
told_by_effect (functions.Begins reading) cancelling t = (Some (unwrap_or t.armed 0), None, None)
told_by_effect functions.Ends cancelling t = (None, None, Some (unwrap_or t.running 0))

-- what is needed of a timer that stays in its queue, leaves it, is armed
abbrev pub QueueNeeds : QueueEffect → Option ℕ → Timer → Timer → Type 0
QueueNeeds queues.Stays sent t now = (base : ℕ) (clock : ClockId) → wanted base clock now ≡ wanted base clock t
QueueNeeds queues.Leaves None t now = IsSome t.armed
QueueNeeds queues.Leaves (Some base) t now = Unit {0}
QueueNeeds queues.Armed sent t now = (now.base ≡ t.base) × (IsApart t → now.moving ≡ false)

-- what is needed of a timer whose function begins
pub record MayBegin (t now : Timer) : Type 0 where
  pub armed : IsSome t.armed
  pub idle : t.running ≡ None
  pub still : t.moving ≡ false
  pub disarmed : now.armed ≡ None
  pub base : now.base ≡ t.base

-- what is needed of one whose function ends: it runs, and who has claimed the timer ends it
pub record MayEnd (by_claimer : Bool) (t now : Timer) : Type 0 where
  pub runs : IsSome t.running
  pub base : now.base ≡ t.base
  pub claimed : by_claimer ≡ true

-- by what becomes of the function
abbrev pub RunNeeds : RunEffect → Bool → Timer → Timer → Type 0
RunNeeds functions.Stays by_claimer t now = Unit {0}
RunNeeds (functions.Begins reading) by_claimer t now = MayBegin t now
RunNeeds functions.Ends by_claimer t now = MayEnd by_claimer t now

-- what is needed of a timer that is sent: it has no function running, and is then neither armed nor running; one that isn't is on the move no more
abbrev pub SentNeeds : Option ℕ → Timer → Timer → Type 0
SentNeeds None t now = IsApart t → now.moving ≡ false
SentNeeds (Some base) t now = (t.running ≡ None) × (now.armed ≡ None) × (now.running ≡ None)

-- what an event needs
pub record NeedsBy (t now : Timer) (d : Effect) : Type 0 where
  pub queue : QueueNeeds d.queue d.sent t now
  pub function : RunNeeds d.function d.by_claimer t now
  pub sent : SentNeeds d.sent t now
  pub claimed : d.by_claimer ≡ true → IsSome t.running
  pub left : HasLeft t → HasLeft now

-- what an event leaves of its timer, and answers
pub record GoesBy (t : Timer) (e : Event) (now : Timer) (d : Effect) : Type 0 where
  pub declared : now.declared ≡ t.declared
  pub terms : now.terms ≡ t.terms
  pub stamp : now.stamp ≡ t.stamp + 1
  pub armed : now.armed ≡ armed_afterwards d.queue t
  pub running : now.running ≡ running_afterwards d.function t
  pub sent : IsSent d.sent t now
  pub soft : t.soft ≤ t.expires → now.soft ≤ now.expires
  pub told : told_in (reply_to t e) ≡ told_by_effect d.function (is_cancelling d.queue d.sent) t
  pub needs : Needs t e → NeedsBy t now d

-- ---- the law

expiry_within : (mode : Mode) (ns : ℕ) (clock : ClockId) (reading : ClockReading) → expiry_from mode ns clock reading ≤ last_time
expiry_within modes.Abs ns clock reading = omega arith
expiry_within modes.Keep ns clock reading = omega arith
expiry_within modes.Rel ns clock reading = omega arith

-- a finish that arms the timer again, or doesn't
armed-finished : (t : Timer) (again : Bool)
    → (if again then Some (t.stamp + 1) else t.armed) ≡ armed_afterwards (if again then queues.Armed else queues.Stays) t
armed-finished t true = refl
armed-finished t false = refl

queue-finished : (t : Timer) (again : Bool) → IsSome t.running
    → QueueNeeds (if again then queues.Armed else queues.Stays) None t
    (record t { armed = if again then Some (t.stamp + 1) else t.armed; running = None; stamp = t.stamp + 1 })
queue-finished t true runs = (refl, still_running t runs)
queue-finished t false runs = λ base clock. refl

pub by_effect : (t : Timer) (e : Event) → GoesBy t e (after t e) (effect t e)
by_effect t (events.Out base) = record {
  declared = refl;
  terms = refl;
  stamp = refl;
  armed = refl;
  running = refl;
  sent = (refl, refl);
  soft = λ within. within;
  told = refl;
  needs = λ needs. record {
    queue = tt;
    function = tt;
    sent = (none_of t.running needs.0, refl, none_of t.running needs.0);
    claimed = λ is. absurd (true≢false (sym is));
    left = λ left. record { few = grind (arith, nat_tests, needs, left.few, left.apart); apart = grind (arith, nat_tests, needs) };
  };
}
by_effect t (events.Start asked) = record {
  declared = refl;
  terms = refl;
  stamp = refl;
  armed = refl;
  running = refl;
  sent = (refl, inr refl);
  soft = λ within. omega (arith, expiry_within asked.mode asked.ns (effective_clock t.declared.clock asked.mode t.clock) asked.reading);
  told = refl;
  needs = λ needs. record {
    queue = (refl, λ apart. refl);
    function = tt;
    sent = λ apart. refl;
    claimed = λ is. absurd (true≢false (sym is));
    left = λ left. record { few = grind (arith, nat_tests, needs, left.few, left.apart); apart = refl };
  };
}
by_effect t events.Cancel = record {
  declared = refl;
  terms = refl;
  stamp = refl;
  armed = refl;
  running = refl;
  sent = (refl, inl refl);
  soft = λ within. within;
  told = refl;
  needs = λ needs. record {
    queue = needs.0;
    function = tt;
    sent = λ apart. needs.2;
    claimed = λ is. absurd (true≢false (sym is));
    left = λ left. record { few = grind (arith, nat_tests, needs, left.few, left.apart); apart = grind (arith, nat_tests, needs) };
  };
}
by_effect t (events.Claim base reading) = record {
  declared = refl;
  terms = refl;
  stamp = refl;
  armed = refl;
  running = refl;
  sent = (refl, inl refl);
  soft = λ within. within;
  told = refl;
  needs = λ needs. record {
    queue = needs.0;
    function = record { armed = needs.0; idle = none_of t.running needs.2; still = needs.3; disarmed = refl; base = refl };
    sent = λ apart. needs.3;
    claimed = λ is. absurd (true≢false (sym is));
    left = λ left. record { few = grind (arith, nat_tests, needs, left.few, left.apart); apart = grind (arith, nat_tests, needs) };
  };
}
by_effect t (events.Forward reading interval) = record {
  declared = refl;
  terms = refl;
  stamp = refl;
  armed = refl;
  running = refl;
  sent = (refl, inl refl);
  soft = λ within. omega (arith, within);
  told = refl;
  needs = λ needs.
      let now = after t (events.Forward reading interval) in
      let none = none_of t.armed needs.1 in record {
        queue = λ base clock. wanted-unarmed base clock now none ∙ sym (wanted-unarmed base clock t none);
        function = tt;
        sent = λ apart. still_running t needs.0 apart;
        claimed = λ is. needs.0;
        left = λ left. record { few = grind (arith, nat_tests, needs, left.few, left.apart); apart = left.apart };
      };
}
by_effect t (events.Finish restart) = record {
  declared = refl;
  terms = refl;
  stamp = refl;
  armed = armed-finished t (arms_again t restart);
  running = refl;
  sent = (refl, inl refl);
  soft = λ within. within;
  told = refl;
  needs = λ needs. record {
    queue = queue-finished t (arms_again t restart) needs;
    function = record { runs = needs; base = refl; claimed = refl };
    sent = λ apart. still_running t needs apart;
    claimed = λ is. needs;
    left = λ left. record {
      few = grind (arith, nat_tests, needs, left.few, left.apart);
      apart = grind (arith, nat_tests, needs, left.apart);
    };
  };
}

-- ---- what an effect needs of the bases

module _ (Suits : ClockReading → Type 0) (bases : ℕ) where
  -- a function begins where none runs
  pub free_by : (c : Half) → ((reading : ClockReading) → Suits reading → c.running ≡ None) → (f : RunEffect) (sent : Option ℕ)
      → NeedsOfBases Suits bases f sent → IsFreeFor c f
  free_by c free functions.Stays sent needs = tt
  free_by c free (functions.Begins reading) sent needs = free reading needs
  free_by c free functions.Ends sent needs = tt

  -- an event leaves its timer on one of the bases
  pub placed_by : (t : Timer) (e : Event) → Needs t e → NeedsOfBases Suits bases (effect t e).function (effect t e).sent → t.base < bases
      → (after t e).base < bases
  placed_by t e needs within here = by (effect t e).function (effect t e).sent within ((by_effect t e).needs needs).function (by_effect t e).sent
    where
      same : (base : ℕ) → base < bases → (after t e).base ≡ base → (after t e).base < bases
      same base less is = omega (arith, less, is)

      by : (f : RunEffect) (sent : Option ℕ) → NeedsOfBases Suits bases f sent → RunNeeds f (effect t e).by_claimer t (after t e) → IsSent sent t (after t e)
          → (after t e).base < bases
      by functions.Stays None within runs is = same t.base here is.0
      by functions.Stays (Some base) within runs is = same base within is.0
      by (functions.Begins reading) sent within runs is = same t.base here runs.base
      by functions.Ends sent within runs is = same t.base here runs.base
