-- What calls on a row say of the pass that makes them.
use Rattle.std.specs.Prelude.{◌≡◌, ℕ, ◌+◌, ◌-◌, ◌^◌, ◌<◌, ◌≤◌, ◌⊎◌, List, [], ◌∷◌, ◌++◌, length, slice_index, Some}
use Rattle.atomic_table.specs.Seated.{TableId}
use Rattle.pass_names.specs.Passes.{Begins}
use Rattle.pass_names.specs.SharedHistory.{Known}
use Rattle.seq_timer.specs.declared.context.Terms.{Terms}
use Rattle.seq_timer.specs.declared.context.Declared.{Declared}
use Rattle.seq_timer.specs.Events.{Event}
use Rattle.seq_timer.specs.declared.system.SystemEntry.{SystemEntry}
use Rattle.seq_timer.specs.declared.standing.BaseEvent.{BaseEvent}
use Rattle.seq_timer.specs.Steps.{Timer, HasRoom, reply_to}
use Rattle.seq_timer.specs.Tables.{timer_at}
use Rattle.seq_timer.specs.Histories as seq
use Rattle.seq_timer.specs.Systems.{BaseContent, IsFresh, IsOn, changed, entries_of, openings, shifts_of, system_after}
use Rattle.base_row.specs.declared.log.Noted.TheVariants as noteds
use Rattle.base_row.specs.Places.{most_counters}
use Rattle.base_row.specs.declared.log.Receipt.{Receipt}
use Rattle.base_row.specs.declared.view.Claimed.{Claimed}
use Rattle.base_row.specs.declared.view.HeldContent.{HeldContent}
use Rattle.base_row.specs.declared.view.Opening.{Opening}
use Rattle.base_row.specs.declared.view.BaseView.{BaseView}
pub use Rattle.base_row.specs.Rules.{timer_seen, base_seen}
pub use Rattle.base_row.specs.Plays.{entry_in}
use Rattle.base_row.specs.Plays.{MayEnter, Missed, NoOlder, OwnNeeds, SameElsewhere, Steady, carry_after, claims_with_event}
use Rattle.base_row.specs.Plays.{greater, having_entered, having_freed, having_met, having_shifted, joined_base_view}

-- a row, and what it was made of
pub record BaseRowOf : Type 0 where
  pub id : TableId
  pub about : Opening

-- a pass of a row, and what it knows
pub record BasePassOf : Type 0 where
  pub row : TableId
  pub knows : BaseView BaseContent

pub record IsBasePassOf (r : BaseRowOf) (p : BasePassOf) : Type 0 where
  pub row : p.row ≡ r.id
  pub about : p.knows.opening ≡ r.about

-- what a row of so many bases, of timers that are declared so, of so many counters, and of rings with so much room begins with
abbrev pub opening_ringed : ℕ → List Declared → Terms → ℕ → List ℕ → Opening
opening_ringed bases declareds terms counters rings = record { bases = bases; timers = openings declareds terms; counters = counters; rings = rings }

-- the same without rings
abbrev pub opening_with : ℕ → List Declared → Terms → ℕ → Opening
opening_with bases declareds terms counters = opening_ringed bases declareds terms counters []

-- the same with as many counters as there may be
abbrev pub opening_of : ℕ → List Declared → Terms → Opening
opening_of bases declareds terms = opening_with bases declareds terms (most_counters bases (length declareds))

-- timers that were made of declarations, on the same terms
abbrev pub AreOpened : List Timer → Type 0
AreOpened timers = (declareds : List Declared) × (terms : Terms) × (0 < terms.limit) × HasRoom terms × (timers ≡ openings declareds terms)

-- nothing has happened to any of the timers
pub record AreFresh (timers : List Timer) : Type 0 where
  pub each : (t : ℕ) → IsFresh (timer_at timers t)
  pub room : (t : ℕ) → HasRoom (timer_at timers t).terms
  pub opened : AreOpened timers

-- a pass may make this entry, by what it has seen
pub record MayAppend (o : Opening) (v : BaseView BaseContent) (h : HeldContent BaseContent) (t : ℕ) (event : Event) : Type 0 where
  pub may : MayEnter o v h (entry_in o v t event)
  pub own : OwnNeeds v t (timer_seen o v t) event

-- a pass has made this entry, right behind these: of the timer it had seen them all, and the base was as the pass held it
pub record Appended (o : Opening) (h : HeldContent BaseContent) (t : ℕ) (event : Event) (v w : BaseView BaseContent) : Type 0 where
  pub before : List SystemEntry
  pub seen : Begins v.seen before
  pub own : entries_of t before ≡ entries_of t v.seen
  pub base : (system_after o.timers before).bases h.base ≡ h.content
  pub shifts : v.id.name ≡ [] → (b : ℕ) → shifts_of b before ≡ shifts_of b v.seen
  pub rest : w ≡ having_entered before (entry_in o v t event) (timer_seen o v t) h (claims_with_event t (timer_seen o v t) event v.claims)
      (carry_after t (timer_seen o v t) event v.carry) v

-- a held base after this entry
abbrev pub stepped : Opening → BaseView BaseContent → HeldContent BaseContent → ℕ → Event → HeldContent BaseContent
stepped o v h t event = record h { content = changed t (timer_seen o v t) event h.content }

-- the first pass has made this entry of a base
pub record Shifted (o : Opening) (h : HeldContent BaseContent) (event : BaseEvent) (v w : BaseView BaseContent) : Type 0 where
  pub before : List SystemEntry
  pub seen : Begins v.seen before
  pub shifts : (b : ℕ) → shifts_of b before ≡ shifts_of b v.seen
  pub rest : w ≡ having_shifted before (length o.timers) event h v

-- what callers see of what a pass knows
abbrev pub known_of : BaseView BaseContent → Known SystemEntry Claimed
known_of v = record { id = v.id; seen = v.seen; mine = v.mine; claims = v.claims }

-- the entry of an event in its timer's part of the history, with the reply that it gets after what the pass has seen
abbrev pub own_entry : Opening → BaseView BaseContent → ℕ → Event → seq.Entry
own_entry o v t event = record { event = event; reply = reply_to (timer_seen o v t) event }

-- and its receipt
abbrev pub own_receipt : Opening → BaseView BaseContent → ℕ → Event → Receipt
own_receipt o v t event = record { timer = t; number = (timer_seen o v t).stamp + 1; event = event; reply = noteds.Entry (reply_to (timer_seen o v t) event) }

-- a pass has got a base. The take is its own, and the lock word that it knows is the take's.
pub record GetsBase (base : ℕ) (v w : BaseView BaseContent) (h : HeldContent BaseContent) : Type 0 where
  pub at : h.base ≡ base
  pub number : ℕ
  pub rest : w ≡ record v { seen = w.seen; heard = []; held = Some h; takes = v.takes ++ (base, number) ∷ []; met = w.met }
  pub word : slice_index w.met base + 1 ≡ number + number
  pub newer : NoOlder base v w
  pub apart : SameElsewhere base v w
  pub seen : Begins v.seen w.seen
  pub steady : Steady v w

-- a pass has looked at a base's lock, and has not got it
pub record Waits (base : ℕ) (v w : BaseView BaseContent) : Type 0 where
  pub rest : w ≡ record v { seen = w.seen; heard = w.heard; met = w.met }
  pub newer : NoOlder base v w
  pub apart : SameElsewhere base v w
  pub seen : Begins v.seen w.seen
  pub steady : Steady v w

-- and that was because another pass took it in between, or because it is taken no more
pub record MissesBase (base : ℕ) (v w : BaseView BaseContent) : Type 0 where
  pub waits : Waits base v w
  pub missed : Missed v base (slice_index v.met base) (slice_index w.met base) ⊎ (2 ^ 64 - 2 ≤ slice_index w.met base)

-- a pass has seen more, and nothing else is other than before
pub record SeesFurther (v w : BaseView BaseContent) : Type 0 where
  pub rest : w ≡ having_met w.seen v.met v
  pub seen : Begins v.seen w.seen

-- a pass has let a base go
pub record LetsGo (o : Opening) (h : HeldContent BaseContent) (v w : BaseView BaseContent) : Type 0 where
  pub rest : w ≡ having_freed w.seen h.base (h.word + 1) v
  pub seen : Begins v.seen w.seen
  pub own : (t : ℕ) → t < length o.timers → IsOn h.base (timer_seen o v t) → entries_of t w.seen ≡ entries_of t v.seen
  pub content : base_seen o w h.base ≡ h.content
  pub steady : Steady v w

-- a pass has taken in another
pub record Absorbs (v u w : BaseView BaseContent) : Type 0 where
  pub rest : w ≡ having_met w.seen (greater v.met u.met) (joined_base_view v u)
  pub seen : Begins v.seen w.seen
  pub heard : Begins u.seen w.seen

-- a pass was told what another has seen and met
pub record LearnsFrom (v u w : BaseView BaseContent) : Type 0 where
  pub rest : w ≡ having_met w.seen (greater v.met u.met) v
  pub seen : Begins v.seen w.seen
  pub heard : Begins u.seen w.seen
