-- What the holder of a pass knows of timers, and how single calls change it.
use Rattle.std.specs.Prelude.{ℕ, ◌≡◌, ◌+◌, ◌<◌, ◌≤◌, ◌^◌, ◌-◌, ◌⊎◌, List, ◌++◌, length, slice_index, Some, None, false}
use Rattle.atomic_table.specs.Seated.{TableId}
use Rattle.pass_names.specs.Counts.{count, one_if}
use Rattle.pass_names.specs.Names.{IsLast}
use Rattle.pass_names.specs.Passes.{Begins, is_place, places, within}
use Rattle.pass_names.specs.SharedHistory as shared
use Rattle.seq_timer.specs.declared.context.Declared.{Declared}
use Rattle.seq_timer.specs.declared.context.Terms.{Terms}
use Rattle.seq_timer.specs.declared.system.SystemEntry.{SystemEntry}
use Rattle.seq_timer.specs.Histories as seq
use Rattle.seq_timer.specs.Steps.{Timer, most_entries}
use Rattle.seq_timer.specs.Tables.{timer_at}
use Rattle.seq_timer.specs.Systems.{BaseContent, AreSystemSteps, IsOn, IsSystemHistory, entries_of, first_system, openings, rises_of, shifts_of, system_after}
use Rattle.base_row.specs.Rings.{counters_in, KeepsRings}
use Rattle.base_row.specs.declared.view.Claimed.{Claimed}
use Rattle.base_row.specs.declared.view.Opening.{Opening}
use Rattle.base_row.specs.declared.view.BaseView.{BaseView}
use Rattle.base_row.specs.declared.view.HeldContent.{HeldContent}
use Rattle.base_row.specs.Rules.{base_place, is_base_claim}
use Rattle.base_row.specs.Calls as rows
use Rattle.base_row.specs.Rests.{Rests}
use Rattle.hr_timers.specs.declared.numbers.ClaimNumbers.{ClaimNumbers}

-- what a pass knows of timers: its name, the beginning of the history of all timers that it has seen, the places of its own entries, and its
-- claims that aren't finished
abbrev pub KnownOfTimers : Type 0
KnownOfTimers = shared.Known SystemEntry Claimed

-- a pass: the table and the opening of its timers, what its holder knows, the takes of base locks that are its own, and of each base the newest
-- lock word that it knows
pub record PassOf : Type 0 where
  pub row : TableId
  pub opening : Opening
  pub known : KnownOfTimers
  pub takes : List (ℕ × ℕ)
  pub met : List ℕ

-- a pass of the bases' table, as callers of timers see it
abbrev pub pass_of : rows.BasePassOf → PassOf
pass_of p = record { row = p.row; opening = p.knows.opening; known = rows.known_of p.knows; takes = p.knows.takes; met = p.knows.met }

-- a timer after these entries of all timers
abbrev pub timer_then : Opening → List SystemEntry → ℕ → Timer
timer_then o x t = (system_after o.timers x).timers t

-- the limit on a timer's entries
abbrev pub limit_of : Opening → ℕ → ℕ
limit_of o t = (timer_at o.timers t).terms.limit

-- each timer has a reach, so bases may go off line
abbrev pub IsEvacuable : Opening → Type 0
IsEvacuable o = (t : ℕ) → t < length o.timers → 0 < (timer_at o.timers t).terms.reach

-- these timers were made of declarations on the same terms, and this is a history of them
pub record IsDeclaredHistory (o : Opening) (x : List SystemEntry) : Type 0 where
  pub declareds : List Declared
  pub terms : Terms
  pub opened : o.timers ≡ openings declareds terms
  pub history : IsSystemHistory o.bases declareds terms x

-- a claim as it stands among a pass's
abbrev pub claimed_as : ClaimNumbers → Claimed
claimed_as c = record { timer = c.timer; generation = c.generation; base = c.base }

-- how often a claim stands among claims
abbrev pub count_of : ClaimNumbers → List Claimed → ℕ
count_of c claims = count (is_base_claim c.timer c.generation c.base) claims

-- the pass has each place of each timer among its own, once
abbrev pub HasEachPlace : Opening → KnownOfTimers → Type 0
HasEachPlace o k = shared.HasAll entries_of (length o.timers) k

-- and each place of each base
abbrev pub HasEachShift : Opening → KnownOfTimers → Type 0
HasEachShift o k = (b n : ℕ) → b < o.bases
    → count (is_place (base_place (length o.timers) b) n) k.mine ≡ one_if (within n (length (shifts_of b k.seen)))

-- what is known is true: a history of all timers was seen, which has few entries of a timer past its limit, and whose claims run; and the last
-- pass has made each entry, and no timer is on the move; a counter that isn't there never rose, and each ring was in its bounds at each moment
pub record KnowsTimers (o : Opening) (k : KnownOfTimers) : Type 0 where
  pub history : AreSystemSteps o.bases (length o.timers) (first_system o.timers) k.seen
  pub few : (t : ℕ) → (timer_then o k.seen t).stamp ≤ most_entries (timer_at o.timers t).terms
  pub small : (t : ℕ) → (timer_then o k.seen t).stamp < 2 ^ 48
  pub claims : (t g b : ℕ) → t < length o.timers → 0 < count (is_base_claim t g b) k.claims
      → ((timer_then o k.seen t).running ≡ Some g) × ((timer_then o k.seen t).base ≡ b)
  pub whole : IsLast k.id → HasEachPlace o k
  pub shifts : IsLast k.id → HasEachShift o k
  pub still : IsLast k.id → (t : ℕ) → t < length o.timers → (timer_then o k.seen t).moving ≡ false
  pub counters : (n : ℕ) → counters_in o ≤ n → rises_of n k.seen ≡ 0
  pub rings : KeepsRings o k.seen

-- a pass of these timers, and what it knows is true
pub record IsPassOf (timers : rows.BaseRowOf) (p : PassOf) : Type 0 where
  pub row : p.row ≡ timers.id
  pub opening : p.opening ≡ timers.about
  pub knows : KnowsTimers timers.about p.known

-- a claim stands among the claims of a pass
pub record OwnsClaim (o : Opening) (k : KnownOfTimers) (c : ClaimNumbers) : Type 0 where
  pub within : c.timer < length o.timers
  pub stands : 0 < count_of c k.claims

-- At this moment of the call, x being all entries so far, the call made these entries of timer t. They stand last among the timer's that were
-- seen, and their places last among the pass's own.
pub record MadeAt (v w : KnownOfTimers) (t : ℕ) (x : List SystemEntry) (es : List seq.Entry) : Type 0 where
  pub from : Begins v.seen x
  pub seen : Begins x w.seen
  pub own : entries_of t w.seen ≡ entries_of t x ++ es
  pub mine : w.mine ≡ v.mine ++ places t (length (entries_of t x)) es
  pub id : w.id ≡ v.id

-- takes of base locks go on with others behind them, and no base's lock word is older
pub record LocksGoOnFrom (before after : List (ℕ × ℕ)) (knew knows : List ℕ) : Type 0 where
  pub takes : Begins before after
  pub met : (b : ℕ) → slice_index knew b ≤ slice_index knows b

-- the takes that were a pass's own stand at the front of those that it has afterwards, and no lock word that it knows is older
abbrev pub LocksGoOn : PassOf → PassOf → Type 0
LocksGoOn p q = LocksGoOnFrom p.takes q.takes p.met q.met

-- a pass has taken no lock, and looked at none
abbrev pub KeepsLocks : PassOf → PassOf → Type 0
KeepsLocks p q = (q.takes ≡ p.takes) × (q.met ≡ p.met)

-- another pass took the base's lock in between, or it is taken no more
abbrev pub HasMissed : PassOf → PassOf → ℕ → Type 0
HasMissed p q b = ((k : ℕ) × (count (is_place b k) p.takes ≡ 0) × (slice_index p.met b < k + k) × (k + k ≤ slice_index q.met b + 1))
    ⊎ (2 ^ 64 - 2 ≤ slice_index q.met b)

-- ---- inside a call

-- `LocksGoOn`, of a pass of the bases' table
abbrev pub LocksGoOnIn : BaseView BaseContent → BaseView BaseContent → Type 0
LocksGoOnIn v w = LocksGoOnFrom v.takes w.takes v.met w.met

-- a pass has seen more, and has the same name, places, claims and carry
pub record OnlySeesMore (v w : BaseView BaseContent) : Type 0 where
  pub seen : Begins v.seen w.seen
  pub mine : w.mine ≡ v.mine
  pub id : w.id ≡ v.id
  pub claims : w.claims ≡ v.claims
  pub carry : w.carry ≡ v.carry
  pub locks : LocksGoOnIn v w

-- these entries were added behind what a pass had seen of a timer
abbrev pub AddsBehind : BaseView BaseContent → BaseView BaseContent → ℕ → List seq.Entry → Type 0
AddsBehind v w t es = shared.ExtendsBy entries_of (rows.known_of v) (rows.known_of w) t es

-- a pass of these bases holds none of them and carries no timer
pub record IsAtRest (r : rows.BaseRowOf) (p : rows.BasePassOf) : Type 0 where
  pub row : rows.IsBasePassOf r p
  pub rests : Rests p.knows

-- a pass of these bases holds this one and carries no timer
pub record HoldsBase (r : rows.BaseRowOf) (p : rows.BasePassOf) (h : HeldContent BaseContent) : Type 0 where
  pub row : rows.IsBasePassOf r p
  pub within : h.base < r.about.bases
  pub held : p.knows.held ≡ Some h
  pub free : p.knows.carry ≡ None

-- a pass of these bases holds the one where this timer is
pub record HoldsTimer (r : rows.BaseRowOf) (p : rows.BasePassOf) (h : HeldContent BaseContent) (t : ℕ) : Type 0 where
  pub holds : HoldsBase r p h
  pub within : t < length r.about.timers
  pub on : IsOn h.base (rows.timer_seen r.about p.knows t)
