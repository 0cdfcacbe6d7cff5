-- The rule of the table: one history of all timers, of which each pass has seen a beginning; words and slots are what it says.
use Rattle.base_row.specs.Places.{counter_at, lock_at, most_counters, word_at}
use Rattle.base_row.specs.Rings.{counters_in, KeepsRings}
use Rattle.std.specs.Prelude.{zero, suc, ◌%◌, ◌/◌, ◌≡◌, ℕ, ◌+◌, ◌*◌, ◌<◌, ◌≤◌, Bool, true, false, ◌==◌, ◌&&◌, List, [], length, map, slice_index, Option, Some, None}
use mathlib.Core.Option.{some, none}
use lib.ListN.{get_elem?}
use Rattle.atomic_table.specs.Table.{State}
use Rattle.pass_names.specs.declared.PassId.{PassId}
use Rattle.pass_names.specs.Counts.{one_if, total, count}
use Rattle.pass_names.specs.Names.{IsPassTree}
use Rattle.pass_names.specs.Passes.{Begins, within, is_place}
use Rattle.seq_timer.specs.Steps.{Timer}
use Rattle.seq_timer.specs.Histories.{peek_of}
use Rattle.seq_timer.specs.Words.{packed}
use Rattle.seq_timer.specs.declared.system.SystemEntry.{SystemEntry}
use Rattle.seq_timer.specs.declared.standing.Standing.{Standing}
use Rattle.base_row.specs.declared.plays.About.{About}
use Rattle.base_row.specs.declared.view.Claimed.{Claimed}
use Rattle.base_row.specs.declared.view.HeldContent.{HeldContent}
use Rattle.base_row.specs.declared.view.Opening.{Opening}
use Rattle.base_row.specs.declared.view.BaseView.{BaseView}
use Rattle.seq_timer.specs.Systems.{BaseContent, System, first_system, rises_of, shifts_of, system_after, AreSystemSteps}

-- what a table is of, by what it was made for
abbrev pub opening_in : About → Opening
opening_in about = record { bases = about.bases; timers = about.timers.value.items; counters = about.counters; rings = about.rings.value.items }

abbrev pub base_pass_id : BaseView BaseContent → PassId
base_pass_id v = v.id

abbrev pub is_base_claim : ℕ → ℕ → ℕ → Claimed → Bool
is_base_claim t g b c = (c.timer == t) && ((c.generation == g) && (c.base == b))

abbrev pub held_in : ℕ → Option (HeldContent BaseContent) → ℕ
held_in b None = 0
held_in b (Some h) = one_if (h.base == b)

abbrev pub carried_in : ℕ → Option ℕ → ℕ
carried_in t None = 0
carried_in t (Some c) = one_if (c == t)

abbrev pub takes_at : ℕ → ℕ → BaseView BaseContent → ℕ
takes_at b k v = count (is_place b k) v.takes

abbrev pub heir_number : Option ℕ → ℕ
heir_number None = 0
heir_number (Some heir) = heir * 65536 + 16777216

-- the timer's function runs in this generation
abbrev pub is_generation : ℕ → Option ℕ → Bool
is_generation g None = false
is_generation g (Some r) = r == g

-- whether the timer's function runs in this generation on this base
abbrev pub runs : ℕ → ℕ → Timer → Bool
runs g b t = is_generation g t.running && (t.base == b)

-- the number in a base's word: bits 0 to 15 the stamp, and where it is off line bits 16 to 23 the heir, and bit 24
unfoldable pub standing_number : Standing → ℕ
standing_number s = s.stamp + heir_number s.heir

-- the place of a base among timers and bases, which are numbered on behind the timers
abbrev pub base_place : ℕ → ℕ → ℕ
base_place timers b = timers + b

-- the number in a timer's word
unfoldable pub number_of : Timer → ℕ
number_of t = packed (peek_of t)

-- What passes have, each of them once: the places of the entries of timers and of bases, claims, timers on the move, bases, and takes of bases.
pub data Token : Type 0 where
  Place : ℕ → ℕ → Token
  Shift : ℕ → ℕ → Token
  Claim : ℕ → ℕ → ℕ → Token
  Carry : ℕ → Token
  Hold : ℕ → Token
  Take : ℕ → ℕ → Token

-- whether it is of a timer or a base that there is
abbrev pub IsIn : Opening → Token → Type 0
IsIn o (Place t k) = t < length o.timers
IsIn o (Shift b k) = b < o.bases
IsIn o (Claim t g b) = t < length o.timers
IsIn o (Carry t) = t < length o.timers
IsIn o (Hold b) = b < o.bases
IsIn o (Take b k) = b < o.bases

-- how often a pass has it
abbrev pub has : Opening → Token → BaseView BaseContent → ℕ
has o (Place t k) v = count (is_place t k) v.mine
has o (Shift b k) v = count (is_place (base_place (length o.timers) b) k) v.mine
has o (Claim t g b) v = count (is_base_claim t g b) v.claims
has o (Carry t) v = carried_in t v.carry
has o (Hold b) v = held_in b v.held
has o (Take b k) v = takes_at b k v

-- How often all passes have it, by the system after the history and the table's words. A base's lock word is twice the number of its takes, less one
-- while the base is held.
abbrev pub owed : System → List ℕ → Token → ℕ
owed w words (Place t k) = one_if (within k (w.timers t).stamp)
owed w words (Shift b k) = one_if (within k (w.bases b).standing.stamp)
owed w words (Claim t g b) = one_if (runs g b (w.timers t))
owed w words (Carry t) = one_if (w.timers t).moving
owed w words (Hold b) = slice_index words (lock_at b) % 2
owed w words (Take b k) = one_if (within k ((slice_index words (lock_at b) + 1) / 2))

-- a base's slot, by how many passes hold it: it is at home with the content, or out
abbrev pub slot_of : ℕ → BaseContent → mathlib.Core.Option.Option (Option BaseContent)
slot_of zero content = some (Some content)
slot_of (suc n) content = none

abbrev pub timer_seen : Opening → BaseView BaseContent → ℕ → Timer
timer_seen o v t = (system_after o.timers v.seen).timers t

abbrev pub base_seen : Opening → BaseView BaseContent → ℕ → BaseContent
base_seen o v b = (system_after o.timers v.seen).bases b

module _ (o : Opening) where
  -- what a pass holds is what the base has, by the whole history and by what the pass has seen
  pub record HeldHolds (log : List SystemEntry) (words : List ℕ) (v : BaseView BaseContent) (h : HeldContent BaseContent) : Type 0 where
    pub within : h.base < o.bases
    pub seen : h.content ≡ base_seen o v h.base
    pub whole : h.content ≡ (system_after o.timers log).bases h.base
    pub word : slice_index words (lock_at h.base) ≡ slice_index v.met h.base
    pub number : h.word ≡ slice_index v.met h.base

  -- what a pass knows is true
  pub record PassHolds (log : List SystemEntry) (words : List ℕ) (v : BaseView BaseContent) : Type 0 where
    -- it has seen a beginning of the history
    pub seen : Begins v.seen log
    pub heard : Begins v.heard log
    pub held : (h : HeldContent BaseContent) → v.held ≡ Some h → HeldHolds log words v h
    -- it has seen all of the timer that it carries
    pub carry : (t : ℕ) → v.carry ≡ Some t → timer_seen o v t ≡ (system_after o.timers log).timers t
    -- the lock words that it knows are no newer than they are, and its takes no later; the last take of a held base is its holder's
    pub wide : length v.met ≤ o.bases
    pub full : v.id.live ≡ true → length v.met ≡ o.bases
    pub met : (b : ℕ) → b < o.bases → slice_index v.met b ≤ slice_index words (lock_at b)
    pub takes : (b k : ℕ) → 0 < takes_at b k v → k + k ≤ slice_index v.met b + held_in b v.held
    -- the first pass has seen all that happened to bases
    pub first : v.id.live ≡ true → v.id.name ≡ [] → (b : ℕ) → shifts_of b v.seen ≡ shifts_of b log
    -- of a pass that is gone nothing is left
    pub gone : v.id.live ≡ false → (x : Token) → has o x v ≡ 0

  -- The rule: what the table holds and what each pass knows is what one history says.
  pub record RowHolds (log : List SystemEntry) (s : State (Option BaseContent) (BaseView BaseContent)) : Type 0 where
    pub allowed : AreSystemSteps o.bases (length o.timers) (first_system o.timers) log
    pub words_len : length s.words ≡ word_at o.bases (length o.timers + o.bases)
    pub homes_len : length s.homes ≡ o.bases
    pub each_slot : (b : ℕ) → b < o.bases
        → get_elem? s.homes b ≡ some (slot_of (slice_index s.words (lock_at b) % 2) ((system_after o.timers log).bases b))
    -- a timer's word is that of its state after the history
    pub each_timer : (t : ℕ) → t < length o.timers → slice_index s.words (word_at o.bases t) ≡ number_of ((system_after o.timers log).timers t)
    -- and a base's that of its standing
    pub each_standing : (b : ℕ) → b < o.bases
        → slice_index s.words (word_at o.bases (base_place (length o.timers) b)) ≡ standing_number ((system_after o.timers log).bases b).standing
    -- a counter's word is how often it rose; one that isn't there never did
    pub each_counter : (k : ℕ) → k < counters_in o → slice_index s.words (counter_at k) ≡ rises_of k log
    pub no_counter : (k : ℕ) → counters_in o ≤ k → rises_of k log ≡ 0
    -- each ring had its counts in bounds at each moment
    pub rings : KeepsRings o log
    pub counters_len : counters_in o ≤ most_counters o.bases (length o.timers)
    pub each_view : (j : ℕ) (v : BaseView BaseContent) → get_elem? s.views j ≡ some v → PassHolds log s.words v
    pub tree : IsPassTree (map base_pass_id s.views)
    -- each token is one pass's, once
    pub tokens : (x : Token) → IsIn o x → total (has o x) s.views ≡ owed (system_after o.timers log) s.words x

  -- there is one history of all timers that says it all
  abbrev pub HasOneHistory : State (Option BaseContent) (BaseView BaseContent) → Type 0
  HasOneHistory s = (log : List SystemEntry) × RowHolds log s
