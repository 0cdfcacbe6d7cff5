-- What each step tells.
use Rattle.base_row.specs.Places.{counter_at, lock_at, word_at}
use Rattle.base_row.specs.Rings.{counters_in, KeepsRings}
use Rattle.std.specs.Prelude.{◌≡◌, ℕ, ◌+◌, ◌<◌, ◌≤◌, ◌==◌, Bool, true, false, List, [], ◌∷◌, ◌++◌, length, set}
use Rattle.std.specs.Prelude.{slice_index, max, replicate, ◌≢◌, ◌⊎◌, ◌^◌, ◌-◌, Option, Some, None, MatchBool, unwrap_or, if◌then◌else◌}
use Rattle.atomic_table.specs.Seated.{TableId}
use Rattle.atomic_table.specs.Table.{Me, Step, rest}
use Rattle.pass_names.specs.Counts.{one_if, count, without_first}
use Rattle.pass_names.specs.Names.{IsLast, first_pass_id, gone_pass_id, after_split, child_of, after_retire}
use Rattle.pass_names.specs.Passes.{Begins, within}
use Rattle.seq_timer.specs.Events.{Event}
use Rattle.seq_timer.specs.declared.effect.RunEffect.{RunEffect}
use Rattle.seq_timer.specs.declared.effect.RunEffect.TheVariants as functions
use Rattle.seq_timer.specs.Effects.{effect}
use Rattle.seq_timer.specs.Steps.{Timer, after, reply_to}
use Rattle.seq_timer.specs.declared.system.SystemEntry.{SystemEntry}
use Rattle.seq_timer.specs.declared.system.SystemEntry.TheVariants as entries
use Rattle.seq_timer.specs.declared.system.TimerEntry.{TimerEntry}
use Rattle.seq_timer.specs.declared.standing.BaseEvent.{BaseEvent}
use Rattle.seq_timer.specs.Standings.{MayShift}
use Rattle.seq_timer.specs.Tables.{timer_at}
use Rattle.base_row.specs.declared.view.Claimed.{Claimed}
use Rattle.base_row.specs.declared.view.HeldContent.{HeldContent}
use Rattle.base_row.specs.declared.view.Opening.{Opening}
use Rattle.base_row.specs.declared.view.BaseView.{BaseView}
use Rattle.seq_timer.specs.Systems.{BaseContent, first_system, IsSystemStep, AreSystemSteps, HasHeirOnLine, IsClear, changed, entries_of, rises_of, shifted, shifts_of, IsOn, system_after}
use Rattle.base_row.specs.Rules.{base_place, is_base_claim, carried_in, number_of, standing_number, runs, takes_at, base_seen, timer_seen, has, Place, Shift, Claim}
use Rattle.pass_names.specs.declared.PassId.{PassId}

-- what a pass's seat has: what the pass knows, and the slots that it carries
abbrev pub SeatState : Type 0
SeatState = Me (Option BaseContent) (BaseView BaseContent)

-- this seat's pass holds no base, and may look at the lock of a base, whose word in the table is this one
pub record MayMeetLock (table : TableId) (o : Opening) (of : TableId) (me : SeatState) (base word : ℕ) : Type 0 where
  pub same : of ≡ table
  pub about : me.0.opening ≡ o
  pub at : word ≡ lock_at base
  pub inside : word < table.words
  pub within : base < o.bases
  pub live : me.0.id.live ≡ true
  pub idle : me.0.held ≡ None

-- what a step tells of the seat before, the number found or stored, and the seat after
abbrev pub StepMeaning : Type 1
StepMeaning = Step (Option BaseContent) → SeatState → ℕ → SeatState → Type 0

-- a pass that has seen this, and knows these lock words
abbrev pub having_met : List SystemEntry → List ℕ → BaseView BaseContent → BaseView BaseContent
having_met seen met v = record v { seen = seen; heard = []; met = met }

-- a pass that has taken a base's lock
abbrev pub having_taken : List SystemEntry → ℕ → BaseContent → ℕ → ℕ → BaseView BaseContent → BaseView BaseContent
having_taken seen b content number word v = record v {
  seen = seen;
  heard = [];
  held = Some
      (record { base = b; word = word; content = content });
  takes = v.takes ++ (b, number) ∷ [];
  met = set v.met b word;
}

-- a pass that has let a base go
abbrev pub having_freed : List SystemEntry → ℕ → ℕ → BaseView BaseContent → BaseView BaseContent
having_freed seen b word v = record v { seen = seen; heard = []; held = None; met = set v.met b word }

-- a pass that has added an entry, whose place is this, and holds its base with this content
abbrev pub having_added : List SystemEntry → SystemEntry → ℕ × ℕ → BaseContent → List Claimed → Option ℕ → HeldContent BaseContent
    → BaseView BaseContent → BaseView BaseContent
having_added before x place content claims carry h v = record v {
  seen = before ++ x ∷ [];
  heard = [];
  mine = v.mine ++ place ∷ [];
  claims = claims;
  held = Some (record { base = h.base; word = h.word; content = content });
  carry = carry;
}

-- an entry of a timer, which was so
abbrev pub having_entered : List SystemEntry → TimerEntry → Timer → HeldContent BaseContent → List Claimed → Option ℕ
    → BaseView BaseContent → BaseView BaseContent
having_entered before e t h claims carry v =
    having_added before (entries.Timer e) (e.timer, t.stamp + 1) (changed e.timer t e.event h.content) claims carry h v

-- an entry of the base; there are so many timers
abbrev pub having_shifted : List SystemEntry → ℕ → BaseEvent → HeldContent BaseContent → BaseView BaseContent → BaseView BaseContent
having_shifted before timers event h v = having_added before (entries.Base (record { base = h.base; event = event }))
    (base_place timers h.base, h.content.standing.stamp + 1) (shifted event h.content) v.claims v.carry h v

-- the greater of each two
abbrev pub greater : List ℕ → List ℕ → List ℕ
greater [] ys = ys
greater (x ∷ xs) [] = x ∷ xs
greater (x ∷ xs) (y ∷ ys) = max x y ∷ greater xs ys

abbrev pub no_opening : Opening
no_opening = record { bases = 0; timers = []; counters = 0; rings = [] }

-- a pass that has nothing of its own, by what it has seen and met
abbrev pub bare_view : PassId → Opening → List SystemEntry → List ℕ → BaseView BaseContent
bare_view id opening seen met = record {
  id = id;
  opening = opening;
  seen = seen;
  heard = [];
  mine = [];
  claims = [];
  held = None;
  carry = None;
  takes = [];
  met = met;
}

-- the first pass
abbrev pub first_base_view : Opening → BaseView BaseContent
first_base_view o = bare_view first_pass_id o [] (replicate o.bases 0)

-- after a pass was split off
abbrev pub split_base_view : BaseView BaseContent → BaseView BaseContent
split_base_view v = record v { id = after_split v.id }

-- the pass that was split off
abbrev pub new_base_view : BaseView BaseContent → BaseView BaseContent
new_base_view v = bare_view (child_of v.id) v.opening v.seen v.met

-- a note of what a pass has seen and met, which is no pass
abbrev pub base_note_of : BaseView BaseContent → BaseView BaseContent
base_note_of v = bare_view gone_pass_id no_opening v.seen v.met

-- what is left of a pass that was taken in
abbrev pub gone_base_view : BaseView BaseContent
gone_base_view = bare_view gone_pass_id no_opening [] []

-- a pass that was told what another has seen and met
abbrev pub told_base_view : (v other : BaseView BaseContent) → BaseView BaseContent
told_base_view v u = record v { heard = u.seen; met = greater v.met u.met }

-- a pass that has taken in another
abbrev pub joined_base_view : BaseView BaseContent → BaseView BaseContent → BaseView BaseContent
joined_base_view v u = record (told_base_view v u) {
  id = after_retire v.id u.id;
  mine = v.mine ++ u.mine;
  claims = v.claims ++ u.claims;
  takes = v.takes ++ u.takes;
}

-- So many rises of a counter, one right behind the other.
abbrev pub rises : ℕ → ℕ → List SystemEntry
rises k n = replicate n (entries.Rise k)

-- Behind what was seen before, a counter was raised to at least so much, right at the end of what is seen now: it rose by as much as was missing.
pub record RaisesTo (k to : ℕ) (old new : List SystemEntry) : Type 0 where
  pub before : List SystemEntry
  pub seen : Begins old before
  pub whole : new ≡ before ++ rises k (to - rises_of k before)

-- the counter was so far, and its next rise stands last in what is seen now
pub record RisesFrom (k from : ℕ) (old new : List SystemEntry) : Type 0 where
  pub before : List SystemEntry
  pub seen : Begins old before
  pub count : rises_of k before ≡ from
  pub last : new ≡ before ++ entries.Rise k ∷ []

-- of the timer that a pass carries nothing more was seen, and by the first pass nothing more of any base
pub record Steady (v w : BaseView BaseContent) : Type 0 where
  pub carried : (t : ℕ) → v.carry ≡ Some t → entries_of t w.seen ≡ entries_of t v.seen
  pub shifts : v.id.name ≡ [] → (b : ℕ) → shifts_of b w.seen ≡ shifts_of b v.seen

-- the lock words of all bases but this one are known as before
abbrev pub SameElsewhere : ℕ → BaseView BaseContent → BaseView BaseContent → Type 0
SameElsewhere base v w = (c : ℕ) → c ≢ base → slice_index w.met c ≡ slice_index v.met c

-- and this base's is known to be no older
abbrev pub NoOlder : (base : ℕ) (v w : BaseView BaseContent) → Type 0
NoOlder base v w = slice_index v.met base ≤ slice_index w.met base

-- a take of the base by another pass came between
abbrev pub Missed : BaseView BaseContent → ℕ → ℕ → ℕ → Type 0
Missed v b old found = (k : ℕ) × (takes_at b k v ≡ 0) × (old < k + k) × (k + k ≤ found + 1)

module _ (o : Opening) where
  -- What is known of what a pass knows.
  pub record KnowsBases (v : BaseView BaseContent) : Type 0 where
    pub allowed : AreSystemSteps o.bases (length o.timers) (first_system o.timers) v.seen
    pub held : (h : HeldContent BaseContent) → v.held ≡ Some h → (h.base < o.bases) × ((h.content ≡ base_seen o v h.base)
        × (h.word ≡ slice_index v.met h.base))
    pub carry : (t : ℕ) → t < length o.timers → v.carry ≡ Some t → (timer_seen o v t).moving ≡ true
    pub claims : (t g b : ℕ) → t < length o.timers → 0 < has o (Claim t g b) v → runs g b (timer_seen o v t) ≡ true
    -- the last pass has made each entry, each once, and each take; no timer is on the move but one that it carries
    pub all_entries : IsLast v.id → (t k : ℕ) → t < length o.timers → has o (Place t k) v ≡ one_if (within k (timer_seen o v t).stamp)
    pub all_shifts : IsLast v.id → (b k : ℕ) → b < o.bases
        → has o (Shift b k) v ≡ one_if (within k (base_seen o v b).standing.stamp)
    pub all_carried : IsLast v.id → (t : ℕ) → t < length o.timers → (timer_seen o v t).moving ≡ true → v.carry ≡ Some t
    pub all_takes : IsLast v.id → (b k : ℕ) → b < o.bases → 0 < k → k + k ≤ slice_index v.met b + 1 → takes_at b k v ≡ 1
    -- a counter that isn't there never rose
    pub counters : (k : ℕ) → counters_in o ≤ k → rises_of k v.seen ≡ 0
    -- each ring had its counts in bounds at each moment
    pub rings : KeepsRings o v.seen

  -- a load of word 0, or of a timer's, a base's or a counter's word
  pub record LoadedWord (st : Step (Option BaseContent)) (me : SeatState) (found : ℕ)
      (new : SeatState) : Type 0 where
    pub rest : new ≡ (having_met new.0.seen me.0.met me.0, me.1)
    pub seen : Begins me.0.seen new.0.seen
    pub heard : Begins me.0.heard new.0.seen
    pub steady : Steady me.0 new.0
    pub knows : KnowsBases new.0
    pub timer : (t : ℕ) → st.word ≡ word_at o.bases t → t < length o.timers → found ≡ number_of (timer_seen o new.0 t)
    pub standing : (b : ℕ) → st.word ≡ word_at o.bases (base_place (length o.timers) b) → b < o.bases
        → found ≡ standing_number (base_seen o new.0 b).standing
    pub counter : (k : ℕ) → st.word ≡ counter_at k → k < counters_in o → found ≡ rises_of k new.0.seen

  -- a pass has seen more, and nothing else is other than before
  pub record SawMore (me new : SeatState) : Type 0 where
    pub rest : new ≡ (having_met new.0.seen me.0.met me.0, me.1)
    pub seen : Begins me.0.seen new.0.seen
    pub steady : Steady me.0 new.0
    pub knows : KnowsBases new.0

  -- a counter's word is raised to at least so much
  pub record RaisedCounter (k to : ℕ) (me new : SeatState) : Type 0 where
    pub saw : SawMore me new
    pub raised : RaisesTo k to me.0.seen new.0.seen

  -- an exchange of a counter's word: it rose by one where it was so much
  pub record RoseCounter (k from : ℕ) (me : SeatState) (found : ℕ) (new : SeatState) : Type 0 where
    pub saw : SawMore me new
    pub rose : MatchBool (found == from) (RisesFrom k from me.0.seen new.0.seen) (rises_of k new.0.seen ≢ from)

  -- a load of a base's lock word
  pub record Met (b : ℕ) (me : SeatState) (found : ℕ) (new : SeatState) : Type 0 where
    pub rest : new ≡ (having_met new.0.seen (set me.0.met b found) me.0, me.1)
    pub seen : Begins me.0.seen new.0.seen
    pub heard : Begins me.0.heard new.0.seen
    pub newer : slice_index me.0.met b ≤ found
    pub is : slice_index new.0.met b ≡ found
    -- no take since then is the pass's own
    pub others : (k : ℕ) → slice_index me.0.met b < k + k → takes_at b k me.0 ≡ 0
    pub steady : Steady me.0 new.0
    pub knows : KnowsBases new.0

  -- an exchange that took a base's lock
  pub record TookBase (b number word : ℕ) (me : SeatState)
      (new : SeatState) : Type 0 where
    pub content : BaseContent
    pub rest : new ≡ (having_taken new.0.seen b content number word me.0, (b, Some content) ∷ [])
    pub is : slice_index new.0.met b ≡ word
    pub seen : Begins me.0.seen new.0.seen
    pub heard : Begins me.0.heard new.0.seen
    pub steady : Steady me.0 new.0
    pub knows : KnowsBases new.0

  -- an exchange that found the lock taken, or taken since it was met
  pub record FoundTaken (b old : ℕ) (me : SeatState) (found : ℕ)
      (new : SeatState) : Type 0 where
    pub met : Met b me found new
    pub missed : Missed me.0 b old found

  pub record FreedBase (h : HeldContent BaseContent) (me : SeatState)
      (new : SeatState) : Type 0 where
    pub rest : new ≡ (having_freed new.0.seen h.base (slice_index me.0.met h.base + 1) me.0, rest me.1)
    pub seen : Begins me.0.seen new.0.seen
    -- of the timers on the base nothing more was seen
    pub own : (t : ℕ) → t < length o.timers → IsOn h.base (timer_seen o me.0 t) → entries_of t new.0.seen ≡ entries_of t me.0.seen
    -- the base is left as it was held
    pub content : base_seen o new.0 h.base ≡ h.content
    pub steady : Steady me.0 new.0
    pub knows : KnowsBases new.0

-- the claims, by what becomes of a timer's function; the timer was so before
abbrev pub claims_by : RunEffect → ℕ → Timer → List Claimed → List Claimed
claims_by functions.Stays id t claims = claims
claims_by (functions.Begins reading) id t claims = claims ++ record { timer = id; generation = unwrap_or t.armed 0; base = t.base } ∷ []
claims_by functions.Ends id t claims = without_first (is_base_claim id (unwrap_or t.running 0) t.base) claims

-- the claims after an event of a timer, which was so
abbrev pub claims_with_event : ℕ → Timer → Event → List Claimed → List Claimed
claims_with_event id t event claims = claims_by (effect t event).function id t claims

-- the timer that is carried: one that is sent, and no more one that was on the move and isn't
abbrev pub carried_by : Option ℕ → ℕ → Timer → Timer → Option ℕ → Option ℕ
carried_by None id was is carry = if is.moving then carry else if was.moving then None else carry
carried_by (Some base) id was is carry = Some id

-- the timer that is carried after an event of a timer, which was so
abbrev pub carry_after : ℕ → Timer → Event → Option ℕ → Option ℕ
carry_after id t event carry = carried_by (effect t event).sent id t (after t event) carry

-- the pass carries this timer where it is on the move, and else none
abbrev pub CarriesAlone : BaseView BaseContent → ℕ → Timer → Type 0
CarriesAlone v id t = v.carry ≡ (if t.moving then Some id else None)

-- what an effect needs of the pass that makes it: the claim, where it is made by who has that; and that no other timer is carried, where one is sent
abbrev pub OwnNeedsBy : Bool → Option ℕ → BaseView BaseContent → ℕ → Timer → Type 0
OwnNeedsBy false None v id t = Unit {0}
OwnNeedsBy false (Some base) v id t = CarriesAlone v id t
OwnNeedsBy true None v id t = 0 < count (is_base_claim id (unwrap_or t.running 0) t.base) v.claims
OwnNeedsBy true (Some base) v id t = (0 < count (is_base_claim id (unwrap_or t.running 0) t.base) v.claims) × CarriesAlone v id t

-- what an event needs of the pass that makes it; that a pass carries the timer which it starts on the move stands in `MayEnter`
abbrev pub OwnNeeds : BaseView BaseContent → ℕ → Timer → Event → Type 0
OwnNeeds v id t event = OwnNeedsBy (effect t event).by_claimer (effect t event).sent v id t

-- a pass's claims and carry go along with an entry of a timer, which was so
pub record GoAlong (t : Timer) (e : TimerEntry) (v : BaseView BaseContent) (claims : List Claimed) (carry : Option ℕ) : Type 0 where
  pub own : (g b : ℕ) → count (is_base_claim e.timer g b) claims + one_if (runs g b t) ≡ count (is_base_claim e.timer g b) v.claims + one_if (runs g b (after t e.event))
  pub apart : (k g b : ℕ) → k ≢ e.timer → count (is_base_claim k g b) claims ≡ count (is_base_claim k g b) v.claims
  pub carry_here : carried_in e.timer carry + one_if t.moving ≡ carried_in e.timer v.carry + one_if (after t e.event).moving
  pub carry_else : (k : ℕ) → k ≢ e.timer → carried_in k carry ≡ carried_in k v.carry

-- the first pass may add an entry of a base that it holds
pub record MayEnterShift (v : BaseView BaseContent) (h : HeldContent BaseContent) (event : BaseEvent) : Type 0 where
  pub held : v.held ≡ Some h
  pub first : v.id.name ≡ []
  pub may : MayShift h.base h.content.standing event
  pub clear : IsClear h.content event
  pub heir : HasHeirOnLine (base_seen v.opening v) event
  pub reach : (t : ℕ) → t < length v.opening.timers → 0 < (timer_at v.opening.timers t).terms.reach

module _ (o : Opening) where
  -- a pass may add this entry, by what it has seen: it holds the timer's base, and carries the timer where that is on the move
  pub record MayEnter (v : BaseView BaseContent) (h : HeldContent BaseContent) (e : TimerEntry) : Type 0 where
    pub held : v.held ≡ Some h
    pub allowed : IsSystemStep o.bases (length o.timers) (system_after o.timers v.seen) e
    pub base : (timer_seen o v e.timer).base ≡ h.base
    pub carries : (timer_seen o v e.timer).moving ≡ true → v.carry ≡ Some e.timer

  -- what the store of a timer's word tells
  pub record EnteredTimer (h : HeldContent BaseContent) (e : TimerEntry) (claims : List Claimed) (carry : Option ℕ)
      (me : SeatState) (new : SeatState) : Type 0 where
    pub before : List SystemEntry
    pub seen : Begins me.0.seen before
    pub own : entries_of e.timer before ≡ entries_of e.timer me.0.seen
    pub base : (system_after o.timers before).bases h.base ≡ h.content
    pub shifts : me.0.id.name ≡ [] → (b : ℕ) → shifts_of b before ≡ shifts_of b me.0.seen
    pub rest : new ≡ (having_entered before e (timer_seen o me.0 e.timer) h claims carry me.0, me.1)
    pub knows : KnowsBases o new.0

  -- the entry of an event, with the reply that it gets after what the pass has seen
  abbrev pub entry_in : BaseView BaseContent → ℕ → Event → TimerEntry
  entry_in v t event = record { timer = t; event = event; reply = reply_to (timer_seen o v t) event }

  -- the store tells so of an entry with its own claims and carry
  abbrev pub EntersAs : HeldContent BaseContent → ℕ → Event → SeatState
      → SeatState → Type 0
  EntersAs h t event me new = EnteredTimer h (entry_in me.0 t event) (claims_with_event t (timer_seen o me.0 t) event me.0.claims)
      (carry_after t (timer_seen o me.0 t) event me.0.carry) me new

  -- what the store of a base's word tells
  pub record EnteredShift (h : HeldContent BaseContent) (event : BaseEvent) (me : SeatState) (new : SeatState) : Type 0 where
    pub before : List SystemEntry
    pub seen : Begins me.0.seen before
    pub shifts : (b : ℕ) → shifts_of b before ≡ shifts_of b me.0.seen
    pub rest : new ≡ (having_shifted before (length o.timers) event h me.0, me.1)
    pub knows : KnowsBases o new.0

abbrev pub ShiftsBy : BaseEvent → Step (Option BaseContent) → SeatState → SeatState → Type 0
ShiftsBy event st me new = (h : HeldContent BaseContent) → me.0.held ≡ Some h
    → EnteredShift me.0.opening h event me new

abbrev pub EntersBy : Event → Step (Option BaseContent) → SeatState → SeatState → Type 0
EntersBy event st me new = (h : HeldContent BaseContent) (t : ℕ) → me.0.held ≡ Some h → st.word ≡ word_at me.0.opening.bases t
    → EntersAs me.0.opening h t event me new

-- the slot that a pass carries while it holds a base: it is empty
abbrev pub carried_slots : Option (HeldContent BaseContent) → List (ℕ × Option BaseContent)
carried_slots None = []
carried_slots (Some h) = (h.base, None) ∷ []

-- what is known of what a pass knows, of a row of its opening
abbrev pub KnowsOwn : BaseView BaseContent → Type 0
KnowsOwn v = KnowsBases v.opening v

-- what a seat of a pass is like between calls
pub record IsResting (me : SeatState) : Type 0 where
  pub live : me.0.id.live ≡ true
  pub heard : me.0.heard ≡ []
  pub carried : me.1 ≡ carried_slots me.0.held
  pub knows : KnowsOwn me.0

-- what single steps tell a seat of a row of its opening
abbrev pub LooksOwn : StepMeaning
LooksOwn st me found new = LoadedWord me.0.opening st me found new

abbrev pub RaisesOwn : StepMeaning
RaisesOwn st me found new = (k : ℕ) → st.word ≡ counter_at k → k < counters_in me.0.opening → RaisedCounter me.0.opening k st.first me new

abbrev pub RisesOwn : StepMeaning
RisesOwn st me found new = (k : ℕ) → st.word ≡ counter_at k → k < counters_in me.0.opening → RoseCounter me.0.opening k st.first me found new

abbrev pub MeetsOwn : StepMeaning
MeetsOwn st me found new = (b : ℕ) → st.word ≡ lock_at b → Met me.0.opening b me found new

abbrev pub TakesAt : Opening → ℕ → StepMeaning
TakesAt o b st me found new =
    MatchBool (found == st.first) ((k : ℕ) × (st.first + 2 ≡ k + k)
    × TookBase o b k (st.first + 1) me new) (FoundTaken o b st.first me found new)

abbrev pub TakesOwn : StepMeaning
TakesOwn st me found new = (b : ℕ) → st.word ≡ lock_at b → TakesAt me.0.opening b st me found new

abbrev pub FreesOwn : StepMeaning
FreesOwn st me stored new = (h : HeldContent BaseContent) → me.0.held ≡ Some h → FreedBase me.0.opening h me new

-- a seat has got a base
pub record GotBase (o : Opening) (base : ℕ) (me new : SeatState) (h : HeldContent BaseContent) : Type 0 where
  pub at : h.base ≡ base
  pub number : ℕ
  pub rest : new ≡ (
    record me.0 {
      seen = new.0.seen;
      heard = [];
      held = Some h;
      takes = me.0.takes ++
          (base, number) ∷ [];
      met = new.0.met;
    },
    carried_slots (Some h),
  )
  pub word : slice_index new.0.met base + 1 ≡ number + number
  pub newer : NoOlder base me.0 new.0
  pub apart : SameElsewhere base me.0 new.0
  pub seen : Begins me.0.seen new.0.seen
  pub steady : Steady me.0 new.0
  pub knows : KnowsBases o new.0

-- a seat has not got a base: another pass took it in between, or it is taken no more
pub record Lost (o : Opening) (base : ℕ) (me new : SeatState) : Type 0 where
  pub rest : new ≡ (having_met new.0.seen new.0.met me.0, me.1)
  pub missed : Missed me.0 base (slice_index me.0.met base) (slice_index new.0.met base) ⊎ (2 ^ 64 - 2 ≤ slice_index new.0.met base)
  pub newer : NoOlder base me.0 new.0
  pub apart : SameElsewhere base me.0 new.0
  pub seen : Begins me.0.seen new.0.seen
  pub steady : Steady me.0 new.0
  pub knows : KnowsBases o new.0
