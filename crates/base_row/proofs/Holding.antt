-- What a pass knows of the base that it holds, for the next entry.
use Rattle.std.proofs.Common.{◌≡◌, ℕ, ◌<◌, ◌+◌, [], ◌∷◌, length, ap, sym, ◌∙◌, subst, arith, List, Option}
use Rattle.std.specs.Prelude.{slice_index, Some}
use Rattle.std.proofs.lemmas.List.{get_or-set_same, length-set}
use Rattle.pass_names.specs.Passes.{Begins}
use Rattle.atomic_table.specs.Table.{rest}
use Rattle.seq_timer.specs.Events.{Event}
use Rattle.seq_timer.specs.declared.standing.BaseEvent.{BaseEvent}
use Rattle.seq_timer.specs.declared.system.SystemEntry.{SystemEntry}
use Rattle.base_row.specs.declared.view.Opening.{Opening}
use Rattle.seq_timer.specs.Steps.{Timer, Needs, after, reply_to}
use Rattle.seq_timer.specs.Tables.{no_timer, timer_at}
use Rattle.seq_timer.specs.Bases.{IsQueuedAs}
use Rattle.seq_timer.specs.Contents.{IsContentOf}
use Rattle.base_row.specs.declared.view.HeldContent.{HeldContent}
use Rattle.base_row.specs.declared.view.BaseView.{BaseView}
use Rattle.seq_timer.specs.Systems.{BaseContent, System, IsFresh, IsOn, changed, entries_of, shifted, system_after}
use Rattle.base_row.specs.Plays.{SeatState, KnowsBases, KnowsOwn, IsResting, EnteredShift, EntersAs, carried_slots, FreedBase, Steady, having_freed, having_added}
use Rattle.base_row.specs.Calls.{Appended, AreFresh, LetsGo, MayAppend, Shifted, stepped}
use Rattle.seq_timer.proofs.Systems.{shows}
use Rattle.seq_timer.proofs.Agreement.{agrees}
use Rattle.seq_timer.proofs.Contents.{IsQueuedAs-from}
use Rattle.base_row.specs.Rules.{timer_seen}
use Rattle.base_row.specs.declared.view.Claimed.{Claimed}

-- what a pass of a row knows, in the words of the row
pub knows_about : (o : Opening) (v : BaseView BaseContent) → v.opening ≡ o → KnowsOwn v → KnowsBases o v
knows_about o v about knows = subst (λ (q : Opening). KnowsBases q v) about knows

module _ (o : Opening) (v : BaseView BaseContent) (h : HeldContent BaseContent)
    (knows : KnowsBases o v) (held : v.held ≡ Some h) (t : ℕ) (within : t < length o.timers) where
  abbrev w : System
  w = system_after o.timers v.seen

  same : h.content ≡ w.bases h.base
  same = (knows.held h held).1.0

  pub room : t < length h.content.states
  room = omega (arith, ap (λ (b : BaseContent). length b.states) same, (shows o.bases o.timers v.seen knows.allowed).wide h.base)

  -- a timer on the base is as the base keeps it
  pub kept_state : IsOn h.base (w.timers t) → timer_at h.content.states t ≡ w.timers t
  kept_state on = ap (λ (b : BaseContent). timer_at b.states t) same ∙ (shows o.bases o.timers v.seen knows.allowed).kept h.base t within on

  pub shown_state : IsOn h.base (timer_at h.content.states t) → w.timers t ≡ timer_at h.content.states t
  shown_state on =
      let here : timer_at h.content.states t ≡ timer_at (w.bases h.base).states t = ap (λ (b : BaseContent). timer_at b.states t) same in
      (shows o.bases o.timers v.seen knows.allowed).shown h.base t within (subst (λ x. IsOn h.base x) here on) ∙ sym here

  pub queued : ((k : ℕ) → IsFresh (timer_at o.timers k)) → (w.timers t).base ≡ h.base → IsQueuedAs t (w.timers t) h.content.content
  queued fresh here =
      let all = agrees o.bases o.timers v.seen fresh knows.allowed in
      subst (λ (b : BaseContent). IsQueuedAs t (w.timers t) b.content) (sym same)
      (IsQueuedAs-from w.timers t (w.bases h.base).content (all.apart t) (subst (λ b. IsContentOf w.timers b (w.bases h.base).content)
      (sym here) (all.contents h.base)))

-- a held base has a state of each timer
pub room_held : (o : Opening) (v : BaseView BaseContent) (h g : HeldContent BaseContent) → v.opening ≡ o → KnowsOwn v → v.held ≡ Some h → g ≡ h
    → (t : ℕ) → t < length o.timers → t < length g.content.states
room_held o v h g about knows held is t within = subst (λ (x : HeldContent BaseContent). t < length x.content.states) (sym is)
    (room o v h (knows_about o v about knows) held t within)

-- what a held base and one of its timers, which is so, are for the timer's next entry
pub record IsReady (o : Opening) (v : BaseView BaseContent) (h : HeldContent BaseContent) (t : ℕ) (event : Event) (x : Timer) : Type 0 where
  pub below : t < length h.content.states
  pub needs : Needs x event
  pub queued : IsQueuedAs t x h.content.content
  pub steps : record h { content = changed t x event h.content } ≡ stepped o v h t event
  pub replies : reply_to x event ≡ reply_to (timer_seen o v t) event

pub ready : (o : Opening) (v : BaseView BaseContent) (h : HeldContent BaseContent) (t : ℕ) (event : Event) (x : Timer) → v.opening ≡ o → KnowsOwn v
    → AreFresh o.timers → MayAppend o v h t event → x ≡ timer_seen o v t → IsReady o v h t event x
ready o v h t event x about knows fresh may is =
    let known = knows_about o v about knows in
    let allowed = may.may.allowed in record {
      below = room o v h known may.may.held t allowed.within;
      needs = subst (λ y. Needs y event) (sym is) allowed.needs;
      queued = subst (λ y. IsQueuedAs t y h.content.content) (sym is)
          (queued o v h known may.may.held t allowed.within fresh.each may.may.base);
      steps = ap (λ y. record h { content = changed t y event h.content }) is;
      replies = ap (λ y. reply_to y event) is;
    }

-- a timer that is on the base is ready as the base keeps it
pub ready_there : (o : Opening) (v : BaseView BaseContent) (h : HeldContent BaseContent) (t : ℕ) (event : Event) → v.opening ≡ o → KnowsOwn v
    → AreFresh o.timers → MayAppend o v h t event → IsOn h.base (timer_seen o v t) → IsReady o v h t event (timer_at h.content.states t)
ready_there o v h t event about knows fresh may on = ready o v h t event (timer_at h.content.states t) about knows fresh may
    (kept_state o v h (knows_about o v about knows) may.may.held t may.may.allowed.within on)

-- a held base after an entry has a state of each timer, and of the entry's what the entry left
pub stepped_states : (o : Opening) (v : BaseView BaseContent) (h g : HeldContent BaseContent) (t : ℕ) (event : Event) → g ≡ stepped o v h t event
    → t < length h.content.states → (t < length g.content.states) × (timer_at g.content.states t ≡ after (timer_seen o v t) event)
unfolding changed
stepped_states o v h g t event is within =
    let left = after (timer_seen o v t) event in
    subst (λ (x : HeldContent BaseContent). (t < length x.content.states) × (timer_at x.content.states t ≡ left)) (sym is)
    (omega (arith, length-set h.content.states t left, within), get_or-set_same h.content.states t left no_timer within)

-- what a seat is like that holds its base after an entry
pub record Rested (o : Opening) (h : HeldContent BaseContent) (content : BaseContent) (Adds : Type 0) (new : SeatState) : Type 0 where
  pub resting : IsResting new
  pub adds : Adds
  pub about : new.0.opening ≡ o
  pub held : new.0.held ≡ Some (record { base = h.base; word = h.word; content = content })

rests : (o : Opening) (h : HeldContent BaseContent) (content : BaseContent) (Adds : Type 0) (before : List SystemEntry) (x : SystemEntry) (place : ℕ × ℕ)
    (claims : List Claimed) (carry : Option ℕ) (me new : SeatState) → me.0.opening ≡ o → IsResting me → me.0.held ≡ Some h
    → new ≡ (having_added before x place content claims carry h me.0, me.1) → KnowsBases o new.0 → Adds → Rested o h content Adds new
rests o h content Adds before x place claims carry me new about resting held is knows adds =
    let opening : new.0.opening ≡ o = ap (λ (m : SeatState). m.0.opening) is ∙ about in
    let now_held = ap (λ (m : SeatState). m.0.held) is in
    record {
      resting = record {
        live = ap (λ (m : SeatState). m.0.id.live) is ∙ resting.live;
        heard = ap (λ (m : SeatState). m.0.heard) is;
        carried = ap (λ (m : SeatState). m.1) is ∙ (resting.carried ∙ (ap carried_slots held ∙ sym (ap carried_slots now_held)));
        knows = subst (λ (q : Opening). KnowsBases q new.0) (sym opening) knows;
      };
      adds = adds;
      about = opening;
      held = now_held;
    }

pub rested : (o : Opening) (h : HeldContent BaseContent) (t : ℕ) (event : Event) (me new : SeatState)
    → me.0.opening ≡ o → IsResting me → me.0.held ≡ Some h → EntersAs o h t event me new
    → Rested o h (changed t (timer_seen o me.0 t) event h.content) (Appended o h t event me.0 new.0) new
rested o h t event me new about resting held told = rests o h _ _ told.before _ _ _ _ me new about resting held told.rest told.knows
    (record { before = told.before; seen = told.seen; own = told.own; base = told.base; shifts = told.shifts; rest = ap (λ (m : SeatState). m.0) told.rest })

pub rested_shift : (o : Opening) (h : HeldContent BaseContent) (event : BaseEvent) (me new : SeatState)
    → me.0.opening ≡ o → IsResting me → me.0.held ≡ Some h → EnteredShift o h event me new
    → Rested o h (shifted event h.content) (Shifted o h event me.0 new.0) new
rested_shift o h event me new about resting held told = rests o h _ _ told.before _ _ _ _ me new about resting held told.rest told.knows
    (record { before = told.before; seen = told.seen; shifts = told.shifts; rest = ap (λ (m : SeatState). m.0) told.rest })

-- a seat that has let its base go
pub record LetGo (o : Opening) (h : HeldContent BaseContent) (me new : SeatState) : Type 0 where
  pub resting : IsResting new
  pub free : LetsGo o h me.0 new.0
  pub about : new.0.opening ≡ o

pub let_go : (o : Opening) (h : HeldContent BaseContent) (me mid new : SeatState) → me.0.opening ≡ o
    → IsResting me → me.0.held ≡ Some h → h.base < o.bases → mid ≡ (me.0, (h.base, Some h.content) ∷ [])
    → FreedBase o h mid new → LetGo o h me new
let_go o h me mid new about resting held inside is told =
    let at_first : new ≡ (having_freed new.0.seen h.base (slice_index me.0.met h.base + 1) me.0, []) = told.rest
    ∙ ap (λ (m : SeatState). (having_freed new.0.seen h.base (slice_index m.0.met h.base + 1) m.0, rest m.1)) is in
    let word : h.word ≡ slice_index me.0.met h.base = (resting.knows.held h held).1.1 in
    let opening : new.0.opening ≡ o = ap (λ (m : SeatState). m.0.opening) at_first ∙ about in
    record {
      resting = record {
        live = ap (λ (m : SeatState). m.0.id.live) at_first ∙ resting.live;
        heard = ap (λ (m : SeatState). m.0.heard) at_first;
        carried = ap (λ (m : SeatState). m.1) at_first
            ∙ sym (ap carried_slots (ap (λ (m : SeatState). m.0.held) at_first));
        knows = subst (λ (q : Opening). KnowsBases q new.0) (sym opening) told.knows;
      };
      free = record {
        rest = ap (λ (m : SeatState). m.0) at_first ∙ ap (λ x. having_freed new.0.seen h.base (x + 1) me.0) (sym word);
        seen = subst (λ (m : SeatState). Begins m.0.seen new.0.seen) is told.seen;
        own = subst (λ (m : SeatState). (t : ℕ) → t < length o.timers → IsOn h.base (timer_seen o m.0 t)
            → entries_of t new.0.seen ≡ entries_of t m.0.seen) is told.own;
        content = told.content;
        steady = subst (λ (m : SeatState). Steady m.0 new.0) is told.steady;
      };
      about = opening;
    }
