-- How a start inside a call moves its timer, and how a base is taken off line: its timers are moved to an heir, one after the other. `put` is
-- what a receipt makes of a sink, which was `s` before and is `s'` after.
use Rattle.std.specs.Prelude.{ℕ, ◌≡◌, ◌≢◌, ◌+◌, ◌≤◌, ◌<◌, ◌⊎◌, nat_lt, Bool, true, false, List, [], ◌∷◌, ◌++◌, length, Some, None, IsSome}
use Rattle.ktime.specs.Readings.{ClockReading}
use Rattle.pass_names.specs.Passes.{Begins}
use Rattle.pass_names.specs.SharedHistory.{LooksOn}
use Rattle.seq_timer.specs.Calls.{entries_along, step_all}
use Rattle.seq_timer.specs.Events.{Asked}
use Rattle.seq_timer.specs.Contents.{Content, front_of, running_in}
use Rattle.seq_timer.specs.Halves.{running_on}
use Rattle.seq_timer.specs.Histories as seq
use Rattle.seq_timer.specs.Moves.{move_events}
use Rattle.seq_timer.specs.Standings.{last_standing}
use Rattle.seq_timer.specs.Steps.{Timer, placement_of}
use Rattle.seq_timer.specs.Systems.{BaseContent, entries_of, shifts_of, system_after}
use Rattle.seq_timer.specs.Tables.{IsUnused, in_context, is_armed_on, runs_on, timer_at}
use Rattle.seq_timer.specs.declared.context.Context.TheVariants as contexts
use Rattle.seq_timer.specs.declared.standing.BaseEvent.{BaseEvent}
use Rattle.seq_timer.specs.declared.standing.BaseEvent.TheVariants as shifts
use Rattle.seq_timer.specs.declared.system.SystemEntry.{SystemEntry}
use Rattle.seq_timer.specs.declared.system.SystemEntry.TheVariants as entries
use Rattle.seq_timer.specs.declared.system.TimerEntry.{TimerEntry}
use Rattle.base_row.specs.declared.log.Receipt.{Receipt}
use Rattle.base_row.specs.declared.view.BaseView.{BaseView}
use Rattle.base_row.specs.declared.view.HeldContent.{HeldContent}
use Rattle.base_row.specs.declared.view.Opening.{Opening}
use Rattle.base_row.specs.Calls as rows
use Rattle.base_row.specs.Rules.{base_place}
use Rattle.hr_timers.specs.declared.answer.OfflineAnswer.{OfflineAnswer}
use Rattle.hr_timers.specs.declared.answer.OfflineAnswer.TheVariants as offs
use Rattle.hr_timers.specs.declared.answer.OnlineAnswer.{OnlineAnswer}
use Rattle.hr_timers.specs.declared.answer.OnlineAnswer.TheVariants as ons
use Rattle.hr_timers.specs.declared.evacuating.Turn.{Turn}
use Rattle.hr_timers.specs.declared.evacuating.Turn.TheVariants as turns
use Rattle.hr_timers.specs.declared.moving.Arrival.{Arrival}
use Rattle.hr_timers.specs.Known.{AddsBehind, KnownOfTimers, MadeAt, timer_then}
use Rattle.hr_timers.specs.Logged.{IsLogged}
use Rattle.hr_timers.specs.Ways.{Falls, IsSentBy, IsSentOn, bits_of, last_of, standing_then, start_on}

-- how a start has ended that left its timer so: it sent the timer to these bases in turn, and asked for this one last
abbrev pub arrival_of : Timer → List ℕ → ℕ → Arrival
arrival_of now sent last = record { asked = last; outs = bits_of sent; generation = now.stamp; placement = placement_of now }

-- the first pass sees nothing more of any base
abbrev pub KeepsBases : KnownOfTimers → KnownOfTimers → Type 0
KeepsBases v w = v.id.name ≡ [] → (b : ℕ) → shifts_of b w.seen ≡ shifts_of b v.seen

-- The first pass has made this entry of a base. It stands last among the base's that were seen, and its place last among the pass's own; of all
-- other bases nothing more was seen.
pub record ShiftsBase (o : Opening) (v w : KnownOfTimers) (base : ℕ) (event : BaseEvent) : Type 0 where
  pub seen : Begins v.seen w.seen
  pub own : shifts_of base w.seen ≡ shifts_of base v.seen ++ event ∷ []
  pub others : (b : ℕ) → b ≢ base → shifts_of b w.seen ≡ shifts_of b v.seen
  pub mine : w.mine ≡ v.mine ++ (base_place (length o.timers) base, length (shifts_of base v.seen) + 1) ∷ []
  pub id : w.id ≡ v.id
  pub claims : w.claims ≡ v.claims

-- the entry that stands right behind these is of this timer
abbrev pub IsNextOf : ℕ → List SystemEntry → List SystemEntry → Type 0
IsNextOf t at seen = (e : TimerEntry) × (e.timer ≡ t) × Begins (at ++ entries.Timer e ∷ []) seen

-- what a pass knows, with these entries for all that it has seen
abbrev pub known_from : BaseView BaseContent → List SystemEntry → KnownOfTimers
known_from v x = record (rows.known_of v) { seen = x }

-- The next entry stands right behind these, and is of this timer. Of the timer the pass had seen all of them, and the base that it held was as it held it.
pub record StandsBehind (o : Opening) (v w : KnownOfTimers) (t : ℕ) (h : HeldContent BaseContent) : Type 0 where
  pub at : List SystemEntry
  pub from : Begins v.seen at
  pub own : entries_of t at ≡ entries_of t v.seen
  pub next : IsNextOf t at w.seen
  pub base : (system_after o.timers at).bases h.base ≡ h.content

-- the entries of a move of a timer to an heir
abbrev pub move_entries : Timer → ℕ → ClockReading → List seq.Entry
move_entries t heir reading = entries_along t (move_events t heir reading)

-- a base is on line
abbrev pub IsOnLine : Opening → KnownOfTimers → ℕ → Type 0
IsOnLine o v b = (standing_then o v.seen b).heir ≡ None

-- the base may be taken off line with this heir, by what a pass has seen of bases
pub record MayGoOffline (o : Opening) (base heir : ℕ) (v : KnownOfTimers) : Type 0 where
  pub online : IsOnLine o v base
  pub heir_online : IsOnLine o v heir
  pub stamp : (standing_then o v.seen base).stamp < last_standing

-- no function runs on the base after these entries
abbrev pub RunsNone : Opening → List SystemEntry → ℕ → Type 0
RunsNone o x base = (u : ℕ) → runs_on base (timer_then o x u) ≡ false

-- this function runs where a base has this: the hard context's, or, where none of that runs, the soft one's
abbrev pub RunsFirstIn : Content → ℕ × ℕ → Type 0
RunsFirstIn c m = (running_in contexts.Hard c ≡ Some m) ⊎ ((running_in contexts.Hard c ≡ None) × (running_in contexts.Soft c ≡ Some m))

-- this function runs on the base after these entries: the hard context's, or, where none of that runs there, the soft one's
abbrev pub RunsFirst : Opening → List SystemEntry → ℕ → ℕ → ℕ → Type 0
RunsFirst o x base t g =
    (running_on base (in_context contexts.Hard (timer_then o x) t) ≡ Some g)
    ⊎ (((u : ℕ) → runs_on base (in_context contexts.Hard (timer_then o x) u) ≡ false)
    × (running_on base (in_context contexts.Soft (timer_then o x) t) ≡ Some g))

-- the timer is the next to be moved off the base after these entries: the first of the first queue that isn't empty, of the hard context's before the
-- soft one's
abbrev pub IsFront : Opening → List SystemEntry → ℕ → ℕ → Type 0
IsFront o x base t = (expires : ℕ) × (front_of ((system_after o.timers x).bases base).content ≡ Some (expires, t))

-- so many entries a timer has where an evacuation takes it no more
abbrev pub evacuations_end : Opening → ℕ → ℕ
evacuations_end o t = (timer_at o.timers t).terms.limit + (timer_at o.timers t).terms.reach

-- no timer was moved, nothing more was seen of any base, and nothing went to the sink
pub record OnlyLooks {A : Type 0} (v w : KnownOfTimers) (s s' : A) : Type 0 where
  pub looks : LooksOn v w
  pub keeps : KeepsBases v w
  pub sink : s' ≡ s

module _ {A : Type 0} (put : A → Receipt → A) (o : Opening) where
  module _ (v w : BaseView BaseContent) (t : ℕ) (asked : Asked) where
    -- a timer that a pass carries to the base that was asked for was started there, or on one that it was sent on to, whenever that base was on line before
    pub record Arrives (a : Arrival) (s s' : A) : Type 0 where
      pub outs : List ℕ
      pub falls : Falls asked.base outs
      pub way : (low : List SystemEntry) → Begins low v.seen → (standing_then o low asked.base).heir ≡ None
          → IsSentOn o w.seen t low (rows.timer_seen o v t).stamp asked.base outs (last_of asked.base outs)
      pub told : a ≡ arrival_of (step_all (rows.timer_seen o v t) (start_on asked outs (last_of asked.base outs))) outs (last_of asked.base outs)
      pub adds : AddsBehind v w t (entries_along (rows.timer_seen o v t) (start_on asked outs (last_of asked.base outs)))
      pub logged : IsLogged put o t v.seen (entries_along (rows.timer_seen o v t) (start_on asked outs (last_of asked.base outs))) s s'

    -- a start was made: the timer was sent to these bases in turn, and started on the last, or where it was; whenever the base that it asked for was on line
    -- before
    pub record StartsBy (a : Arrival) (s s' : A) : Type 0 where
      pub sent : List ℕ
      pub last : ℕ
      pub on_way : (low : List SystemEntry) → Begins low v.seen → (standing_then o low asked.base).heir ≡ None
          → IsSentBy o w.seen t low (rows.timer_seen o v t).stamp asked.base sent last
      pub told : a ≡ arrival_of (step_all (rows.timer_seen o v t) (start_on asked sent last)) sent last
      pub adds : AddsBehind v w t (entries_along (rows.timer_seen o v t) (start_on asked sent last))
      pub logged : IsLogged put o t v.seen (entries_along (rows.timer_seen o v t) (start_on asked sent last)) s s'

  module _ (base heir : ℕ) (reading : ClockReading) where
    -- a timer that was armed on the base, where no function ran, was moved to the heir: it was the next to be moved at the place of its own Out; nothing more
    -- was seen of any base
    pub record MovesTimer (v w : KnownOfTimers) (t : ℕ) (s s' : A) : Type 0 where
      pub at : List SystemEntry
      pub next : IsNextOf t at w.seen
      pub idle : RunsNone o at base
      pub armed : is_armed_on base (timer_then o at t) ≡ true
      pub front : IsFront o at base t
      pub made : MadeAt v w t at (move_entries (timer_then o at t) heir reading)
      pub keeps : KeepsBases v w
      pub claims : w.claims ≡ v.claims
      pub logged : IsLogged put o t at (move_entries (timer_then o at t) heir reading) s s'

    -- what a turn answers, in this order; `goes_on` says whether a timer may be moved
    abbrev pub TurnFits : KnownOfTimers → KnownOfTimers → Bool → Turn → A → A → Type 0
    TurnFits v w goes_on (turns.Busy t g) s s' =
        OnlyLooks v w s s' × (running_on base (timer_then o w.seen t) ≡ Some g) × RunsFirst o w.seen base t g
    TurnFits v w goes_on (turns.Off n) s s' =
        ShiftsBase o v w base (shifts.Offline heir) × (n ≡ length (shifts_of base v.seen) + 1) × IsUnused (timer_then o w.seen) base × (s' ≡ s)
    TurnFits v w goes_on (turns.Left t) s s' =
        OnlyLooks v w s s' × RunsNone o w.seen base × (goes_on ≡ false) × (is_armed_on base (timer_then o w.seen t) ≡ true) × IsFront o w.seen base t
    TurnFits v w goes_on (turns.Spent t n) s s' =
        OnlyLooks v w s s' × RunsNone o w.seen base × (goes_on ≡ true) × (is_armed_on base (timer_then o w.seen t) ≡ true)
        × (n ≡ (timer_then o w.seen t).stamp) × (evacuations_end o t ≤ n) × IsFront o w.seen base t
    TurnFits v w goes_on (turns.Moved t) s s' = MovesTimer v w t s s' × (goes_on ≡ true)

    -- these timers were moved, one after the other
    abbrev pub AreMoved : KnownOfTimers → List ℕ → KnownOfTimers → A → A → Type 0
    AreMoved v [] w s s' = (w ≡ v) × (s' ≡ s)
    AreMoved v (t ∷ ts) w s s' = (x : KnownOfTimers) × (r : A) × MovesTimer v x t s r × AreMoved x ts w r s'

    -- the last turn, by the answer, which tells how many were moved
    abbrev pub EndFits : KnownOfTimers → KnownOfTimers → Bool → ℕ → OfflineAnswer → A → A → Type 0
    EndFits v w goes_on moved (offs.Busy n t g) s s' = (n ≡ moved) × TurnFits v w goes_on (turns.Busy t g) s s'
    EndFits v w goes_on moved (offs.Offline n stamp) s s' = (n ≡ moved) × TurnFits v w goes_on (turns.Off stamp) s s'
    EndFits v w goes_on moved (offs.More n) s s' = (n ≡ moved) × ((t : ℕ) × TurnFits v w goes_on (turns.Left t) s s')
    EndFits v w goes_on moved (offs.Spent n t stamp) s s' = (n ≡ moved) × TurnFits v w goes_on (turns.Spent t stamp) s s'
    EndFits v w goes_on moved (offs.AlreadyOffline n) s s' = ⊥
    EndFits v w goes_on moved (offs.HeirOffline n) s s' = ⊥
    EndFits v w goes_on moved (offs.BaseSpent n) s s' = ⊥

    -- at most so many timers were moved, and then a turn ended it
    pub record Evacuates (v w : KnownOfTimers) (budget : ℕ) (a : OfflineAnswer) (s s' : A) : Type 0 where
      pub timers : List ℕ
      pub mid : KnownOfTimers
      pub between : A
      pub moves : AreMoved v timers mid s between
      pub few : length timers ≤ budget
      pub last : EndFits mid w (nat_lt (length timers) budget) (length timers) a between s'

    -- the base might go off line, and after looks its timers were moved
    pub record GoesOffline (v w : KnownOfTimers) (budget : ℕ) (a : OfflineAnswer) (s s' : A) : Type 0 where
      pub may : MayGoOffline o base heir v
      pub begins : KnownOfTimers
      pub looks : LooksOn v begins
      pub keeps : KeepsBases v begins
      pub evacuates : Evacuates begins w budget a s s'

    -- what taking a base off line answers, where at most so many timers may be moved
    abbrev pub OfflineFits : KnownOfTimers → KnownOfTimers → ℕ → OfflineAnswer → A → A → Type 0
    OfflineFits v w budget (offs.AlreadyOffline n) s s' =
        OnlyLooks v w s s' × IsSome (standing_then o v.seen base).heir × (n ≡ (standing_then o v.seen base).stamp)
    OfflineFits v w budget (offs.HeirOffline n) s s' =
        OnlyLooks v w s s' × IsOnLine o v base × IsSome (standing_then o v.seen heir).heir × (n ≡ (standing_then o v.seen heir).stamp)
    OfflineFits v w budget (offs.BaseSpent n) s s' =
        OnlyLooks v w s s' × IsOnLine o v base × IsOnLine o v heir × (last_standing ≤ n) × (n ≡ (standing_then o v.seen base).stamp)
    OfflineFits v w budget (offs.Busy n t g) s s' = GoesOffline v w budget (offs.Busy n t g) s s'
    OfflineFits v w budget (offs.Offline n stamp) s s' = GoesOffline v w budget (offs.Offline n stamp) s s'
    OfflineFits v w budget (offs.More n) s s' = GoesOffline v w budget (offs.More n) s s'
    OfflineFits v w budget (offs.Spent n t stamp) s s' = GoesOffline v w budget (offs.Spent n t stamp) s s'

-- the same of a call without a sink
abbrev pub TakesOffline : Opening → ℕ → ℕ → ClockReading → KnownOfTimers → KnownOfTimers → ℕ → OfflineAnswer → Type 0
TakesOffline o base heir reading v w budget a = OfflineFits {A = Unit {0}} (λ s receipt. s) o base heir reading v w budget a tt tt

-- the pass has the same name, and the same claims
pub record IsSamePass (v w : KnownOfTimers) : Type 0 where
  pub id : w.id ≡ v.id
  pub claims : w.claims ≡ v.claims

-- what taking a base on line answers
abbrev pub OnlineFits : Opening → KnownOfTimers → KnownOfTimers → ℕ → OnlineAnswer → Type 0
OnlineFits o v w base (ons.Online n) = ShiftsBase o v w base shifts.Online × (n ≡ length (shifts_of base v.seen) + 1)
OnlineFits o v w base (ons.AlreadyOnline n) = LooksOn v w × KeepsBases v w × IsOnLine o v base × (n ≡ (standing_then o v.seen base).stamp)
