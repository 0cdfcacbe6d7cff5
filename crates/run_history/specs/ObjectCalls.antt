-- What the calls on objects do that make an entry: which arguments they take, how they arm the object's timer, and the entry.
use Rattle.std.specs.Prelude.{ℕ, ◌≡◌, ◌+◌, ◌<◌, ◌≤◌, false, Option, Some, None, List, [], ◌∷◌, ◌++◌}
use Rattle.ktime.specs.declared.mode.Mode.{Mode}
use Rattle.ktime.specs.declared.mode.Mode.TheVariants as modes
use Rattle.ktime.specs.declared.timespec.TimeSpec.{TimeSpec}
use Rattle.ktime.specs.Times.{last_time, nanoseconds}
use Rattle.record_text.specs.declared.record.Armed.{Armed}
use Rattle.record_text.specs.declared.record.Armed.TheVariants as armings
use Rattle.seq_timer.specs.declared.event.EventBy.TheVariants as events
use Rattle.seq_timer.specs.declared.event.Reply.TheVariants as replies
use Rattle.record_text.specs.declared.record.ObjectEntry.{ObjectEntry}
use Rattle.timer_setting.specs.Arguments.{AreValid, abstime, bits_beyond, is_bad}
use Rattle.timer_setting.specs.declared.arming.Wanted.{Wanted}
use Rattle.timer_fd.specs.States.{fd_flags}
use Rattle.script_text.specs.declared.script.Kind.{Kind}
use Rattle.script_text.specs.declared.script.Kind.TheVariants as kinds
use Rattle.run_history.specs.Actions.{Action, Began, Entered, Made}
use Rattle.run_history.specs.Starts.{Arming, IsArming, Sight, arming_actions, from_moment}
use Rattle.script_text.specs.Declarations.{base_of, without_slack}

-- the flags of a settime that an object of this kind has
abbrev pub settime_flags : Kind → ℕ
settime_flags (kinds.Fd base) = fd_flags
settime_flags kind = abstime

-- a settime's arguments are taken by an object of this kind
abbrev pub AreValidFor : Kind → ℕ → TimeSpec → TimeSpec → Type 0
AreValidFor kind flags value interval = AreValid (bits_beyond (settime_flags kind) flags) value interval

-- a sleep's are valid
abbrev pub IsProperSleep : ℕ → TimeSpec → Type 0
IsProperSleep flags time = (bits_beyond abstime flags ≡ 0) × (is_bad time ≡ false)

-- a time as one number of nanoseconds
abbrev pub nanoseconds_of : TimeSpec → ℕ
nanoseconds_of time = nanoseconds time.sec time.nsec

-- the cancel of a call that arms its timer anew, where there is one: its number, and the generation that it cancelled
abbrev pub cancels : ℕ → Option (ℕ × ℕ) → List Action
cancels timer None = []
cancels timer (Some c) = Entered timer c.0 (record { event = events.Cancel; reply = replies.Cancel c.1 }) ∷ []

-- by what the call saw, and with the limit of timers' histories
module _ (sight : Sight) (limit : ℕ) where
  -- an object's call armed its timer as its entry tells it: by one start of this mode and time and without slack, or by none
  abbrev pub Arms : ℕ → Mode → ℕ → ℕ → ℕ → Armed → List Action → Type 0
  Arms timer mode ns reading base armings.None actions = actions ≡ []
  Arms timer mode ns reading base (armings.Generation generation) actions =
      (a : Arming) × (actions ≡ arming_actions timer (without_slack mode ns base) reading a) × (generation ≡ a.number) × IsArming sight timer limit base a
  Arms timer mode ns reading base armings.Unarmed actions = actions ≡ []

  -- the same of a call that wants this start, or none
  abbrev pub ArmsAs : ℕ → Option Wanted → ℕ → ℕ → Armed → List Action → Type 0
  ArmsAs timer None reading base arm actions = (arm ≡ armings.None) × (actions ≡ [])
  ArmsAs timer (Some wanted) reading base arm actions = Arms timer wanted.mode wanted.ns reading base arm actions

-- at this moment of a call the turn of an object had begun behind so many entries of it
pub record HasBegun (sight : Sight) (timer stamp : ℕ) : Type 0 where
  pub begun : ℕ
  pub from : sight.first ≤ begun
  pub turn : stamp + stamp < sight.turns begun timer

-- The same of calls that make an entry of an object. Such a call finds its bases on line within its turn: from a moment on at which that had begun.
module _ (sight : Sight) (limit : ℕ) where
  -- a call that arms its timer anew and made an entry: in its turn of the object a cancel and a start, where there are any, and the entry of the object
  pub record MakesAnew (kind : Kind) (timer : ℕ) (wanted : Option Wanted) (reading : ℕ) (entry : Armed → ObjectEntry) (actions : List Action) : Type 0 where
    pub cancel : Option (ℕ × ℕ)
    pub arm : Armed
    pub start : List Action
    pub stamp : ℕ
    pub turn : HasBegun sight timer stamp
    pub arms : ArmsAs (from_moment sight turn.begun) limit timer wanted reading (base_of kind) arm start
    pub done : actions ≡ Began timer stamp ∷ cancels timer cancel ++ start ++ Made timer (stamp + 1) (entry arm) ∷ []

  -- a call that looks how a timer's periods have passed, and arms it for its next expiry where it has expired: in its turn of the object a start that keeps
  -- the timer's clock, and the entry of the object
  pub record MakesRearming (kind : Kind) (timer reading : ℕ) (entry : Armed → ObjectEntry) (actions : List Action) : Type 0 where
    pub arm : Armed
    pub ns : ℕ
    pub start : List Action
    pub stamp : ℕ
    -- the start shows this very time as its expiry, since it isn't past the end of time
    pub timely : ns ≤ last_time
    pub turn : HasBegun sight timer stamp
    pub arms : Arms (from_moment sight turn.begun) limit timer modes.Keep ns reading (base_of kind) arm start
    pub done : actions ≡ Began timer stamp ∷ start ++ Made timer (stamp + 1) (entry arm) ∷ []
