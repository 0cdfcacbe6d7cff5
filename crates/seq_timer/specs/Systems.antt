-- The history of all timers and bases: one list of entries. Each is a step of its timer, and of the base that the timer is on, or takes a base off line
-- or on line; the list alone says what each timer is and what each base has after it. Among them stand the rises of counters, which change neither and
-- give other things a place in the same order.
use Rattle.std.specs.Prelude.{ℕ, ◌≡◌, ◌+◌, ◌<◌, Bool, true, false, ◌==◌, List, [], ◌∷◌, length, map, set, Option, Some, None, MatchOption, if◌then◌else◌}
use Rattle.ktime.specs.Readings.{ClockReading}
use Rattle.seq_timer.specs.declared.context.Context.{Context}
use Rattle.seq_timer.specs.declared.context.Declared.{Declared}
use Rattle.seq_timer.specs.declared.context.Terms.{Terms}
use Rattle.seq_timer.specs.Events.{Event}
use Rattle.seq_timer.specs.declared.standing.BaseEvent.{BaseEvent}
use Rattle.seq_timer.specs.declared.standing.BaseEvent.TheVariants as shifts
use Rattle.seq_timer.specs.declared.standing.Standing.{Standing}
use Rattle.seq_timer.specs.declared.system.BaseEntry.{BaseEntry}
use Rattle.seq_timer.specs.declared.system.SystemEntry.{SystemEntry}
use Rattle.seq_timer.specs.declared.system.SystemEntry.TheVariants as entries
use Rattle.seq_timer.specs.declared.system.TimerEntry.{TimerEntry}
use Rattle.seq_timer.specs.Effects.{NeedsOfBases, effect, is_arming, is_start}
use Rattle.seq_timer.specs.Standings.{MayShift, first_standing, standing_after}
use Rattle.seq_timer.specs.Steps.{Timer, Needs, after, opening, reply_to}
use Rattle.seq_timer.specs.Tables.{timer_at}
use Rattle.seq_timer.specs.Contents.{Content, content_after, first_due, no_content, running_in}
use Rattle.seq_timer.specs.Histories as seq

-- what a base keeps: its queues with what runs there, each timer as it was when it was last there, and whether it is on line
pub record BaseContent : Type 0 where
  pub content : Content
  pub states : List Timer
  pub standing : Standing

-- the timer of a context that is to expire next on a base, by what the base keeps
abbrev pub next_on : Context → BaseContent → ClockReading → Option (ℕ × ℕ)
next_on x b reading = first_due x (timer_at b.states) b.content reading

-- each timer and each base by its number
pub record System : Type 0 where
  pub timers : ℕ → Timer
  pub bases : ℕ → BaseContent

-- the same for all numbers but one
abbrev pub updated : {A : Type 0} → (ℕ → A) → ℕ → A → ℕ → A
updated f i x j = if j == i then x else f j

-- timers of which nothing has happened yet
abbrev pub openings : List Declared → Terms → List Timer
openings declareds terms = map (λ declared. opening declared terms) declareds

-- a base that none of these timers has been on
abbrev pub no_base : List Timer → BaseContent
no_base opened = record { content = no_content; states = opened; standing = first_standing }

-- nothing has happened to these timers yet
abbrev pub first_system : List Timer → System
first_system opened = record { timers = timer_at opened; bases = λ b. no_base opened }

-- what a base keeps after an event of a timer that is on it, or comes to it, and was so
unfoldable pub changed : ℕ → Timer → Event → BaseContent → BaseContent
changed id t event b = record b { content = content_after id t event b.content; states = set b.states id (after t event) }

-- and after an event of its own
unfoldable pub shifted : BaseEvent → BaseContent → BaseContent
shifted event b = record b { standing = standing_after b.standing event }

-- an entry changes its timer, and the base that the timer is on before it
unfoldable pub after_entry : System → TimerEntry → System
after_entry w e = record {
  timers = updated w.timers e.timer (after (w.timers e.timer) e.event);
  bases = updated w.bases (w.timers e.timer).base (changed e.timer (w.timers e.timer) e.event (w.bases (w.timers e.timer).base));
}

-- an entry of a base changes that base alone
unfoldable pub after_shift : System → BaseEntry → System
after_shift w c = record w { bases = updated w.bases c.base (shifted c.event (w.bases c.base)) }

-- an entry of a timer, of a base or of a counter
abbrev pub after_one : System → SystemEntry → System
after_one w (entries.Timer e) = after_entry w e
after_one w (entries.Base c) = after_shift w c
after_one w (entries.Rise k) = w

-- all timers and bases after entries
abbrev pub after_entries : System → List SystemEntry → System
after_entries w [] = w
after_entries w (x ∷ xs) = after_entries (after_one w x) xs

-- all timers and bases after a history that began with these timers
abbrev pub system_after : List Timer → List SystemEntry → System
system_after opened log = after_entries (first_system opened) log

-- a timer's function may begin on the base that it is on: none of its context runs there, and the timer is the one that is to expire next there, of equal
-- expiries the one that was armed first
abbrev pub BeginsInTurn : BaseContent → ℕ → Timer → ClockReading → Type 0
BeginsInTurn b id t reading =
    (running_in t.declared.context b.content ≡ None) × (next_on t.declared.context b reading ≡ Some (t.expires, id))

-- what an event of a timer needs of the bases, of which there are so many, and of the one that it is on: a start finds that on line, and a timer on the move
-- is sent on to its heir
pub record FitsBase (bases : ℕ) (b : BaseContent) (id : ℕ) (t : Timer) (e : Event) : Type 0 where
  pub needs : NeedsOfBases (BeginsInTurn b id t) bases (effect t e).function (effect t e).sent
  pub online : is_start (effect t e) ≡ true → b.standing.heir ≡ None
  pub heir : t.moving ≡ true → MatchOption (effect t e).sent (Unit {0}) (λ base. b.standing.heir ≡ Some base)

-- an entry of a timer may come next
pub record IsSystemStep (bases count : ℕ) (w : System) (e : TimerEntry) : Type 0 where
  pub within : e.timer < count
  pub needs : Needs (w.timers e.timer) e.event
  pub reply : e.reply ≡ reply_to (w.timers e.timer) e.event
  pub base : FitsBase bases (w.bases (w.timers e.timer).base) e.timer (w.timers e.timer) e.event

-- where a base is taken off line, its queues are empty and no function runs there
abbrev pub IsClear : BaseContent → BaseEvent → Type 0
IsClear b (shifts.Offline heir) = b.content ≡ no_content
IsClear b shifts.Online = Unit {0}

-- and its heir is on line
abbrev pub HasHeirOnLine : (ℕ → BaseContent) → BaseEvent → Type 0
HasHeirOnLine bases (shifts.Offline heir) = (bases heir).standing.heir ≡ None
HasHeirOnLine bases shifts.Online = Unit {0}

-- an entry of a base may come next: it is by turns off line and on line, and off line with nothing on it and to an heir that is on line, where each timer
-- has a reach
pub record IsBaseStep (bases count : ℕ) (w : System) (c : BaseEntry) : Type 0 where
  pub within : c.base < bases
  pub may : MayShift c.base (w.bases c.base).standing c.event
  pub clear : IsClear (w.bases c.base) c.event
  pub heir : HasHeirOnLine w.bases c.event
  pub reach : (t : ℕ) → t < count → 0 < (w.timers t).terms.reach

-- an entry may come next
abbrev pub MayCome : ℕ → ℕ → System → SystemEntry → Type 0
MayCome bases count w (entries.Timer e) = IsSystemStep bases count w e
MayCome bases count w (entries.Base c) = IsBaseStep bases count w c
MayCome bases count w (entries.Rise k) = Unit {0}

-- each of the entries may come in its turn
abbrev pub AreSystemSteps : ℕ → ℕ → System → List SystemEntry → Type 0
AreSystemSteps bases count w [] = Unit {0}
AreSystemSteps bases count w (x ∷ xs) = MayCome bases count w x × AreSystemSteps bases count (after_one w x) xs

-- a history of timers that are declared so, on these terms, over so many bases
abbrev pub IsSystemHistory : ℕ → List Declared → Terms → List SystemEntry → Type 0
IsSystemHistory bases declareds terms log = AreSystemSteps bases (length declareds) (first_system (openings declareds terms)) log

-- all timers and bases after it
abbrev pub system_of : List Declared → Terms → List SystemEntry → System
system_of declareds terms log = system_after (openings declareds terms) log

-- whether an event arms its timer, which was so
abbrev pub arms : Timer → Event → Bool
arms t e = is_arming (effect t e).queue

-- of each timer the number, among all entries, of the one that armed it last; so many entries were before these
abbrev pub armed_after : System → (ℕ → ℕ) → ℕ → List SystemEntry → ℕ → ℕ
armed_after w armed count [] = armed
armed_after w armed count (entries.Timer e ∷ es) = armed_after (after_entry w e) (if arms (w.timers e.timer) e.event then updated armed e.timer
    (count + 1) else armed) (count + 1) es
armed_after w armed count (entries.Base c ∷ es) = armed_after (after_shift w c) armed (count + 1) es
armed_after w armed count (entries.Rise k ∷ es) = armed_after w armed (count + 1) es

-- of each timer the number of the entry that armed it last; 0 where none did
abbrev pub armed_in : List Declared → Terms → List SystemEntry → ℕ → ℕ
armed_in declareds terms log = armed_after (first_system (openings declareds terms)) (λ t. 0) 0 log

-- the history of one timer
abbrev pub entries_of : ℕ → List SystemEntry → List seq.Entry
entries_of t [] = []
entries_of t (entries.Timer e ∷ es) = if e.timer == t then record { event = e.event; reply = e.reply } ∷ entries_of t es else entries_of t es
entries_of t (entries.Base c ∷ es) = entries_of t es
entries_of t (entries.Rise k ∷ es) = entries_of t es

-- the history of one base
abbrev pub shifts_of : ℕ → List SystemEntry → List BaseEvent
shifts_of b [] = []
shifts_of b (entries.Timer e ∷ es) = shifts_of b es
shifts_of b (entries.Base c ∷ es) = if c.base == b then c.event ∷ shifts_of b es else shifts_of b es
shifts_of b (entries.Rise k ∷ es) = shifts_of b es

-- how often a counter rose
abbrev pub rises_of : ℕ → List SystemEntry → ℕ
rises_of k [] = 0
rises_of k (entries.Timer e ∷ es) = rises_of k es
rises_of k (entries.Base c ∷ es) = rises_of k es
rises_of k (entries.Rise j ∷ es) = if j == k then rises_of k es + 1 else rises_of k es

-- nothing has happened to the timer yet
pub record IsFresh (t : Timer) : Type 0 where
  pub armed : t.armed ≡ None
  pub running : t.running ≡ None
  pub still : t.moving ≡ false
  pub stamp : t.stamp ≡ 0
  pub first : t.base ≡ 0

-- the timer is on this base, and not on the move
pub record IsOn (base : ℕ) (t : Timer) : Type 0 where
  pub at : t.base ≡ base
  pub still : t.moving ≡ false

-- each base keeps the state of each timer that is on it, and seems to keep no other
pub record Shows (count : ℕ) (w : System) : Type 0 where
  pub kept : (b t : ℕ) → t < count → IsOn b (w.timers t) → timer_at (w.bases b).states t ≡ w.timers t
  pub shown : (b t : ℕ) → t < count → IsOn b (timer_at (w.bases b).states t) → w.timers t ≡ timer_at (w.bases b).states t
  pub wide : (b : ℕ) → length (w.bases b).states ≡ count
