-- What a start that is made enters: an Out for each base that the timer is sent to, and the Start; and to which bases it may be sent.
use Rattle.std.specs.Prelude.{ℕ, ◌≡◌, ◌+◌, ◌≤◌, ◌<◌, Bool, List, [], ◌∷◌, ◌++◌, Option, Some, None}
use Rattle.seq_timer.specs.declared.event.AskedBy.{AskedBy}
use Rattle.seq_timer.specs.declared.event.EventBy.TheVariants as events
use Rattle.seq_timer.specs.declared.event.Placement.{Placement}
use Rattle.seq_timer.specs.declared.event.Reply.TheVariants as replies
use Rattle.script_text.specs.declared.script.StartRequest.{StartRequest}
use Rattle.script_text.specs.Declarations.{asked_slack}
use Rattle.run_history.specs.Actions.{Action, Entered}

-- an Out of a start: the base to which the timer was sent, the entry's number, and whether the timer was armed before it
pub record SentTo : Type 0 where
  pub base : ℕ
  pub number : ℕ
  pub was_armed : Bool

-- a start that is made: its Outs in turn; then the Start's number, the base that it asks for, how the timer is kept after it, and whether it was armed
-- before it
pub record Arming : Type 0 where
  pub outs : List SentTo
  pub number : ℕ
  pub asked : ℕ
  pub placement : Placement
  pub was_armed : Bool

-- whether the timer was armed before the first entry of a start
abbrev pub was_armed_before : List SentTo → Bool → Bool
was_armed_before [] was_armed = was_armed
was_armed_before (out ∷ outs) was_armed = out.was_armed

-- the number of the first entry of a start
abbrev pub first_number : List SentTo → ℕ → ℕ
first_number [] number = number
first_number (out ∷ outs) number = out.number

-- the Outs of a start
abbrev pub moves : ℕ → List SentTo → List Action
moves timer [] = []
moves timer (out ∷ outs) =
    Entered timer out.number (record { event = events.Out out.base; reply = replies.Out out.was_armed }) ∷ moves timer outs

-- what a request asks for on a base, by the stamp of a reading
abbrev pub requested : StartRequest → ℕ → ℕ → AskedBy ℕ
requested request base reading =
    record { mode = request.mode; ns = request.ns; slack = asked_slack request; reading = reading; base = base }

-- the entries of a start
abbrev pub arming_actions : ℕ → StartRequest → ℕ → Arming → List Action
arming_actions timer request reading a = moves timer a.outs
    ++ Entered timer a.number (record { event = events.Start (requested request a.asked reading); reply = replies.Start a.placement a.was_armed }) ∷ []

-- the Outs stand just before their Start, each behind the one before it: nobody else touches a timer on the move
abbrev pub IsJustBefore : List SentTo → ℕ → Type 0
IsJustBefore [] number = Unit
IsJustBefore (out ∷ outs) number = (first_number outs number ≡ out.number + 1) × IsJustBefore outs number

-- each base is of a lower number than the one before
abbrev pub BasesFall : ℕ → List SentTo → Type 0
BasesFall base [] = Unit
BasesFall base (out ∷ outs) = (out.base < base) × BasesFall out.base outs

-- what is seen of a run at each moment, between the first and the last of a call: of each base its heir, while it is off line, of each timer how many entries
-- it has, and of each object how often its counter rose
pub record Sight : Type 0 where
  pub heir : (moment base : ℕ) → Option ℕ
  pub stamp : (moment timer : ℕ) → ℕ
  pub turns : (moment object : ℕ) → ℕ
  pub first : ℕ
  pub last : ℕ

-- the same from a later moment on
abbrev pub from_moment : Sight → ℕ → Sight
from_moment sight first = record sight { first = first }

-- by what a call saw
module _ (sight : Sight) where
  -- From the one base the other is reached by these heirs in turn: each base was off line with the next as its heir, and the last was on line, at moments
  -- that never go back. The last of them is `at`.
  abbrev pub HeirsLeadTo : ℕ → ℕ → List ℕ → ℕ → ℕ → Type 0
  HeirsLeadTo low base [] to at = (base ≡ to) × (low ≤ at) × (sight.heir at base ≡ None)
  HeirsLeadTo low base (heir ∷ heirs) to at = (n : ℕ) × (low ≤ n) × (sight.heir n base ≡ Some heir) × HeirsLeadTo n heir heirs to at

  -- the one base was reached from the other, and found on line, before the timer had its entry of this number
  pub record FindsOnLine (timer low number base to : ℕ) : Type 0 where
    pub path : List ℕ
    pub at : ℕ
    pub way : HeirsLeadTo low base path to at
    pub no_later : at ≤ sight.last
    pub before : sight.stamp at timer < number

  -- from the base to which the timer was sent it was sent on by these Outs in turn, each to the heir of the one before; the last was asked for
  abbrev pub IsSentOnByHeirs : ℕ → ℕ → ℕ → List SentTo → ℕ → Type 0
  IsSentOnByHeirs timer low base [] last = base ≡ last
  IsSentOnByHeirs timer low base (out ∷ outs) last =
      (f : FindsOnLine timer low out.number base out.base) × (f.path ≡ out.base ∷ []) × IsSentOnByHeirs timer f.at out.base outs last

  -- the bases to which a start of this number sent its timer, and the one that it asked for last: each was found on line before the entry that names it
  abbrev pub IsSentByHeirs : ℕ → ℕ → List SentTo → ℕ → ℕ → Type 0
  IsSentByHeirs timer base [] number last = FindsOnLine timer sight.first number base last
  IsSentByHeirs timer base (out ∷ outs) number last =
      (f : FindsOnLine timer sight.first out.number base out.base) × IsSentOnByHeirs timer f.at out.base outs last × BasesFall out.base outs

  -- A start for a base is made so: by entries that follow one another, of a timer that has fewer entries than the limit, on that base or one that is
  -- reached from it. So no start moves an armed timer whose history is full.
  pub record IsArming (timer limit base : ℕ) (a : Arming) : Type 0 where
    pub below : first_number a.outs a.number ≤ limit
    pub next : IsJustBefore a.outs a.number
    pub way : IsSentByHeirs timer base a.outs a.number a.asked
