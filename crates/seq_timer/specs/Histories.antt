-- The history of one timer: its entries, the state after each, what an observation says of it, and the spans of its function.
use Rattle.std.specs.Prelude.{ℕ, ◌≡◌, ◌+◌, ◌≤◌, ◌<◌, Bool, false, Option, Some, None, is_some, IsSome, List, [], ◌∷◌, take, if◌then◌else◌}
use Rattle.seq_timer.specs.declared.context.Declared.{Declared}
use Rattle.seq_timer.specs.declared.context.Terms.{Terms}
use Rattle.seq_timer.specs.Events.{Event}
use Rattle.seq_timer.specs.declared.event.Reply.{Reply}
use Rattle.seq_timer.specs.declared.event.Reply.TheVariants as replies
use Rattle.seq_timer.specs.declared.observation.Observation.{Observation}
use Rattle.seq_timer.specs.declared.observation.Observation.TheVariants as seen
use Rattle.seq_timer.specs.declared.observation.Peek.{Peek}
use Rattle.seq_timer.specs.Steps.{Timer, opening, Needs, after, reply_to}

-- an entry of a history: the event, and what it answered
pub record Entry : Type 0 where
  pub event : Event
  pub reply : Reply

-- the entries are steps in turn from this state, each with the reply of its step
abbrev pub AreSteps : Timer → List Entry → Type 0
AreSteps t [] = Unit
AreSteps t (e ∷ es) = Needs t e.event × (e.reply ≡ reply_to t e.event) × AreSteps (after t e.event) es

-- a history that one timer gives, declared so and on these terms
abbrev pub IsLegal : Declared → Terms → List Entry → Type 0
IsLegal declared terms history = AreSteps (opening declared terms) history

-- the state after entries
abbrev pub after_all : Timer → List Entry → Timer
after_all t [] = t
after_all t (e ∷ es) = after_all (after t e.event) es

-- the state after a history
abbrev pub state_after : Declared → Terms → List Entry → Timer
state_after declared terms history = after_all (opening declared terms) history

-- the state word of a timer, taken apart
abbrev pub peek_of : Timer → Peek
peek_of t = record { stamp = t.stamp; base = t.base; enqueued = is_some t.armed; running = is_some t.running; moving = t.moving }

-- the timer is neither armed, running nor on the move
pub record IsIdle (t : Timer) : Type 0 where
  pub armed : t.armed ≡ None
  pub running : t.running ≡ None
  pub moving : t.moving ≡ false

-- what an observation says of the state that it was made in
abbrev pub Holds : Timer → Observation → Type 0
Holds t (seen.Peek peek) = peek ≡ peek_of t
Holds t seen.Idle = IsIdle t
Holds t (seen.Running generation) = t.running ≡ Some generation
Holds t (seen.Armed generation) = IsSome t.running × (t.armed ≡ Some generation)
Holds t seen.Spent = t.terms.limit ≤ t.stamp

-- an observation speaks of the state after so many entries
abbrev pub HoldsAt : Declared → Terms → List Entry → ℕ → Observation → Type 0
HoldsAt declared terms history stamp observation = Holds (state_after declared terms (take stamp history)) observation

-- the generation that a claim answers, that a cancel does, and that a finish does; the other events answer none
abbrev pub told_in : Reply → Option ℕ × Option ℕ × Option ℕ
told_in (replies.Claim generation) = (Some generation, None, None)
told_in (replies.Cancel generation) = (None, Some generation, None)
told_in (replies.Finish generation restarted) = (None, None, Some generation)
told_in other = (None, None, None)

abbrev pub claim_in : Reply → Option ℕ
claim_in reply = (told_in reply).0

abbrev pub cancel_in : Reply → Option ℕ
cancel_in reply = (told_in reply).1

abbrev pub finish_in : Reply → Option ℕ
finish_in reply = (told_in reply).2

-- whether a reply is that of a finish
abbrev pub is_finish : Reply → Bool
is_finish reply = is_some (finish_in reply)

-- the number of the next finish among entries that are numbered from here; one past the last where there is none
abbrev pub next_finish : ℕ → List Entry → ℕ
next_finish number [] = number
next_finish number (e ∷ es) = if is_finish e.reply then number else next_finish (number + 1) es

-- while a claimed generation's function runs: from the number of its claim to that of the next finish
pub record Span : Type 0 where
  pub generation : ℕ
  pub claim : ℕ
  pub finish : ℕ

-- one more span where a generation was claimed
abbrev pub with_span : Option ℕ → ℕ → ℕ → List Span → List Span
with_span None claim finish spans = spans
with_span (Some generation) claim finish spans = record { generation = generation; claim = claim; finish = finish } ∷ spans

-- the spans among entries that are numbered from here
abbrev pub spans_from : ℕ → List Entry → List Span
spans_from number [] = []
spans_from number (e ∷ es) = with_span (claim_in e.reply) number (next_finish (number + 1) es) (spans_from (number + 1) es)

-- the spans of a history
abbrev pub spans_of : List Entry → List Span
spans_of history = spans_from 1 history

-- a state after so many entries lies inside a span
pub record IsInside (span : Span) (stamp : ℕ) : Type 0 where
  pub claimed : span.claim ≤ stamp
  pub unfinished : stamp < span.finish
