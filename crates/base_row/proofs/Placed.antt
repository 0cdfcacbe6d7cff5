-- Where timers are after an allowed history, and what a held base says of all timers.
use Rattle.std.proofs.Common.{◌≡◌, ℕ, ◌<◌, ◌≤◌, ◌^◌, List, [], ◌∷◌, length, refl, ap, sym, ◌∙◌, subst, arith, ⊎_elim, false}
use Rattle.std.specs.Prelude.{Option, Some, None, Bool, true, IfSome, IfNone, nat_eq, is_some, ◌&&◌, if◌then◌else◌}
use Rattle.std.proofs.lemmas.Bool.{cases_eq, cases_lt, false≢true}
use Rattle.std.proofs.lemmas.List.{get_or_past}
use Rattle.std.proofs.lemmas.Bool.Decides.{nat_tests}
use Rattle.ktime.specs.Readings.{ClockReading}
use Rattle.seq_timer.specs.Steps.{Timer, HasRoom, after}
use Rattle.seq_timer.specs.declared.context.Terms.{Terms}
use Rattle.seq_timer.specs.Histories as seq
use Rattle.seq_timer.proofs.Effects.{HasLeft, by_effect, placed_by}
use Rattle.seq_timer.proofs.Limits.{left-after}
use Rattle.seq_timer.specs.Histories.{peek_of}
use Rattle.seq_timer.specs.Words.{IsWord, packed}
use Rattle.seq_timer.specs.declared.observation.Peek.{Peek}
use Rattle.seq_timer.specs.Tables.{IsNextDue, IsStopped, IsUnused, in_context, is_armed_on, no_timer, runs_on, timer_at}
use Rattle.ktime.specs.declared.clock_id.ClockId.{ClockId}
use Rattle.seq_timer.specs.declared.context.Context.{Context}
use Rattle.seq_timer.specs.Halves.{generation_in, running_on}
use Rattle.seq_timer.specs.Contents.{IsContentOf, front_of, no_content, running_in}
use Rattle.seq_timer.specs.declared.system.SystemEntry.{SystemEntry}
use Rattle.seq_timer.specs.declared.system.SystemEntry.TheVariants as entries
use Rattle.seq_timer.specs.declared.standing.BaseEvent.{BaseEvent}
use Rattle.seq_timer.specs.declared.standing.BaseEvent.TheVariants as shifts
use Rattle.seq_timer.specs.declared.standing.Standing.{Standing}
use Rattle.seq_timer.specs.Standings.{IsStanding, MayShift}
use Rattle.base_row.specs.declared.view.HeldContent.{HeldContent}
use Rattle.base_row.specs.declared.view.Opening.{Opening}
use Rattle.base_row.specs.declared.view.BaseView.{BaseView}
use Rattle.seq_timer.specs.Systems.{BaseContent, System, first_system, after_entry, after_shift, after_entries, system_after, entries_of, AreSystemSteps, BeginsInTurn, IsFresh, next_on}
use Rattle.base_row.specs.Rules.{number_of, base_seen, timer_seen}
use Rattle.base_row.specs.Plays.{KnowsBases}
use Rattle.base_row.specs.Calls.{AreFresh}
use Rattle.seq_timer.proofs.Systems.{after_entries-entries_of, timer_here, timer_else, timers_shift, untouched}
use Rattle.seq_timer.proofs.Agreement.{agrees, agrees_first}
use Rattle.seq_timer.proofs.Firsts.{next_on-next, next_on-none}
use Rattle.seq_timer.proofs.Fronts.{front-armed, front-clear, front-unarmed}
use Rattle.seq_timer.proofs.Limits.{small_entries}
use Rattle.seq_timer.proofs.OffLine.{IsClearOff, clear_after, clear_first, standing_fits, unused}

terms_after : (t : Timer) (es : List seq.Entry) → (seq.after_all t es).terms ≡ t.terms
terms_after t [] = refl
terms_after t (e ∷ es) = terms_after (after t e.event) es ∙ (by_effect t e.event).terms

-- no history changes a timer's terms
pub terms_now : (opened : List Timer) (log : List SystemEntry) (t : ℕ) → ((system_after opened log).timers t).terms ≡ (timer_at opened t).terms
terms_now opened log t = ap (λ (x : Timer). x.terms) (after_entries-entries_of (first_system opened) t log)
    ∙ terms_after (timer_at opened t) (entries_of t log)

module _ (bases count : ℕ) where
  pub placed : (w : System) (log : List SystemEntry) → ((t : ℕ) → (w.timers t).base < bases) → AreSystemSteps bases count w log → (t : ℕ)
      → ((after_entries w log).timers t).base < bases
  placed w [] first all t = first t
  placed w (entries.Rise k ∷ es) first all t = placed w es first all.1 t
  placed w (entries.Base c ∷ es) first all t = placed (after_shift w c) es (λ k. subst (λ (x : Timer). x.base < bases) (sym (timers_shift w c k)) (first k)) all.1 t
  placed w (entries.Timer e ∷ es) first all t = placed (after_entry w e) es (λ k. ⊎_elim
      (λ (same : k ≡ e.timer). subst (λ i. ((after_entry w e).timers i).base < bases) (sym same)
      (subst (λ (x : Timer). x.base < bases) (sym (timer_here w e))
      (placed_by (BeginsInTurn (w.bases (w.timers e.timer).base) e.timer (w.timers e.timer)) bases (w.timers e.timer) e.event all.0.needs all.0.base.needs
      (first e.timer))))
      (λ apart. subst (λ (x : Timer). x.base < bases) (sym (timer_else w e k apart)) (first k))
      (cases_eq k e.timer)) all.1 t

-- what the first due pair of a held base says of all timers
pub record TellsFirst (o : Opening) (v : BaseView BaseContent) (h : HeldContent BaseContent) (x : Context) (reading : ClockReading)
    (r : Option (ℕ × ℕ)) : Type 0 where
  pub next : IfSome r (λ p. IsNextDue (in_context x (timer_seen o v)) h.base reading p.1)
  pub context : IfSome r (λ p. (timer_seen o v p.1).declared.context ≡ x)
  pub seen : r ≡ next_on x (base_seen o v h.base) reading
  pub expires : IfSome r (λ p. p.0 ≡ (timer_seen o v p.1).expires)
  pub within : IfSome r (λ p. p.1 < length o.timers)
  pub none : IfNone r ((clock : ClockId) → IsStopped (in_context x (timer_seen o v)) h.base reading clock)

-- what a held base's mark says of all timers
pub record TellsRunning (o : Opening) (v : BaseView BaseContent) (h : HeldContent BaseContent) (x : Context) (r : Option (ℕ × ℕ)) : Type 0 where
  pub busy : IfSome r (λ m. running_on h.base (in_context x (timer_seen o v) m.0) ≡ Some m.1)
  pub idle : IfNone r ((t : ℕ) → runs_on h.base (in_context x (timer_seen o v) t) ≡ false)

-- where a base's mark names no run, no function runs there
pub none_runs : (r : Option ℕ) (b : Bool) → (if b then r else None) ≡ None → (is_some r && b) ≡ false
none_runs None b e = refl
none_runs (Some g) true e = absurd (cc)
none_runs (Some g) false e = refl

-- what the packing of a timer needs of it
record IsWithin (t : Timer) : Type 0 where
  left : HasLeft t
  room : HasRoom t.terms

-- a stamp fits in a word
stamp_fits : (t : Timer) → HasLeft t → HasRoom t.terms → t.stamp < 2 ^ 48
stamp_fits t left room = small_entries t.terms t.stamp room (omega (arith, left.few))

fresh_left : (t : Timer) → IsFresh t → HasLeft t
fresh_left t f = record { few = grind (arith, nat_tests, f.armed, f.running, f.still, f.stamp); apart = rw (f.armed, f.running, f.still) refl }

within_all : (bases count : ℕ) (w : System) (log : List SystemEntry) → ((t : ℕ) → IsWithin (w.timers t)) → AreSystemSteps bases count w log
    → (t : ℕ) → IsWithin ((after_entries w log).timers t)
within_all bases count w [] first all t = first t
within_all bases count w (entries.Rise k ∷ es) first all t = within_all bases count w es first all.1 t
within_all bases count w (entries.Base c ∷ es) first all t =
    within_all bases count (after_shift w c) es (λ k. subst (λ (x : Timer). IsWithin x) (sym (timers_shift w c k)) (first k)) all.1 t
within_all bases count w (entries.Timer e ∷ es) first all t = within_all bases count (after_entry w e) es (λ k. ⊎_elim
    (λ (same : k ≡ e.timer). subst (λ i. IsWithin ((after_entry w e).timers i)) (sym same) (subst (λ (x : Timer). IsWithin x) (sym (timer_here w e))
    (record {
      left = left-after (w.timers e.timer) e.event all.0.needs (first e.timer).left;
      room = subst (λ terms. HasRoom terms) (sym (by_effect (w.timers e.timer) e.event).terms) (first e.timer).room;
    })))
    (λ apart. subst (λ (x : Timer). IsWithin x) (sym (timer_else w e k apart)) (first k))
    (cases_eq k e.timer)) all.1 t

module _ (o : Opening) (v : BaseView BaseContent) (fresh : AreFresh o.timers) (knows : KnowsBases o v) where
  pub placed_seen : 0 < o.bases → (t : ℕ) → (timer_seen o v t).base < o.bases
  placed_seen some t = placed o.bases (length o.timers) (first_system o.timers) v.seen (λ k. omega (arith, (fresh.each k).first)) knows.allowed t

  pub none_past : (t : ℕ) → length o.timers ≤ t → timer_seen o v t ≡ no_timer
  none_past t past = untouched o.bases (length o.timers) (first_system o.timers) v.seen t past knows.allowed ∙ get_or_past o.timers t no_timer past

  left_seen : (t : ℕ) → IsWithin (timer_seen o v t)
  left_seen = within_all o.bases (length o.timers) (first_system o.timers) v.seen
      (λ k. record { left = fresh_left (timer_at o.timers k) (fresh.each k); room = fresh.room k }) knows.allowed

  -- each timer that was seen has a word
  pub has_word : 0 < o.bases → o.bases ≤ 256 → (t : ℕ) → IsWord (peek_of (timer_seen o v t))
  has_word some few t =
      let left = left_seen t in
      let placed = placed_seen some t in
      record { stamp = stamp_fits (timer_seen o v t) left.left left.room; base = omega (arith, placed, few); apart = left.left.apart }

  -- a timer's number is read back as its word
  pub reads_back : 0 < o.bases → o.bases ≤ 256 → (t number : ℕ) → number ≡ number_of (timer_seen o v t) → (r : Peek)
      → ((w : Peek) → IsWord w → packed w ≡ number → r ≡ w)
      → r ≡ peek_of (timer_seen o v t)
  unfolding number_of
  reads_back some few t number is r back = back (peek_of (timer_seen o v t)) (has_word some few t) (sym is)

  module _ (h : HeldContent BaseContent) (held : v.held ≡ Some h) where
    pub content_held : IsContentOf (timer_seen o v) h.base h.content.content
    content_held = subst (λ (b : BaseContent). IsContentOf (timer_seen o v) h.base b.content) (sym (knows.held h held).1.0)
        ((agrees o.bases o.timers v.seen fresh.each knows.allowed).contents h.base)

    pub tells_first : (x : Context) (reading : ClockReading) (r : Option (ℕ × ℕ)) → r ≡ next_on x h.content reading → TellsFirst o v h x reading r
    tells_first x reading None is = record {
      next = tt;
      context = tt;
      seen = is ∙ ap (λ b. next_on x b reading) (knows.held h held).1.0;
      expires = tt;
      within = tt;
      none = next_on-none o.bases o.timers v.seen fresh.each knows.allowed h.base x reading
          (sym (is ∙ ap (λ b. next_on x b reading) (knows.held h held).1.0));
    }
    tells_first x reading (Some p) is =
        let seen = is ∙ ap (λ b. next_on x b reading) (knows.held h held).1.0 in
        let due = next_on-next o.bases o.timers v.seen fresh.each knows.allowed h.base x reading p (sym seen) in
        record { next = due.0; context = due.1; seen = seen; expires = due.2; within = due.3; none = tt }

    pub tells_running : (x : Context) (r : Option (ℕ × ℕ)) → r ≡ running_in x h.content.content → TellsRunning o v h x r
    tells_running x None is = record {
      busy = tt;
      idle = λ t. none_runs (in_context x (timer_seen o v) t).running (nat_eq (in_context x (timer_seen o v) t).base h.base)
          (sym ((content_held.each x).running t) ∙ ap (generation_in t) (sym is));
    }
    tells_running x (Some m) is =
        record { busy = sym ((content_held.each x).running m.0) ∙ (ap (generation_in m.0) (sym is) ∙ named_here m); idle = tt }
      where
        named_here : (m : ℕ × ℕ) → generation_in m.0 (Some m) ≡ Some m.1
        named_here m = grind (arith, nat_tests)

-- what the front of a held base says of all timers
pub record TellsFront (o : Opening) (v : BaseView BaseContent) (h : HeldContent BaseContent) (r : Option (ℕ × ℕ)) : Type 0 where
  pub armed : IfSome r (λ p. is_armed_on h.base (timer_seen o v p.1) ≡ true)
  pub within : IfSome r (λ p. p.1 < length o.timers)
  pub clear : IfNone r (((x : Context) → running_in x h.content.content ≡ None) → h.content.content ≡ no_content)
  pub none : IfNone r ((t : ℕ) → is_armed_on h.base (timer_seen o v t) ≡ false)

module _ (o : Opening) (v : BaseView BaseContent) (fresh : AreFresh o.timers) (knows : KnowsBases o v)
    (h : HeldContent BaseContent) (held : v.held ≡ Some h) where
  pub tells_front : (r : Option (ℕ × ℕ)) → r ≡ front_of h.content.content → TellsFront o v h r
  tells_front None is = record {
    armed = tt;
    within = tt;
    clear = front-clear h.content.content (sym is);
    none = front-unarmed (timer_seen o v) h.base h.content.content (content_held o v fresh knows h held) (sym is);
  }
  tells_front (Some p) is =
      let armed = front-armed (timer_seen o v) h.base h.content.content (content_held o v fresh knows h held) p (sym is) in
      record {
        armed = armed.0;
        within = ⊎_elim (λ inside. inside)
            (λ past. absurd (false≢true (subst (λ (x : Timer). is_armed_on h.base x ≡ true) (none_past o v fresh knows p.1 past) armed.0)))
            (cases_lt p.1 (length o.timers));
        clear = tt;
        none = tt;
      }

-- a base's standing, as a pass has seen it
pub standing_seen : (o : Opening) (v : BaseView BaseContent) → KnowsBases o v → (b : ℕ)
    → IsStanding b (base_seen o v b).standing
standing_seen o v knows b = standing_fits o.bases (length o.timers) o.timers v.seen knows.allowed b

pub standing_held : (o : Opening) (v : BaseView BaseContent) (h : HeldContent BaseContent) → KnowsBases o v
    → v.held ≡ Some h → IsStanding h.base h.content.standing
standing_held o v h knows held = subst (λ (b : BaseContent). IsStanding h.base b.standing) (sym (knows.held h held).1.0) (standing_seen o v knows h.base)

-- an event of a base leaves room for its stamp
pub shift_room : (base : ℕ) (s : Standing) (e : BaseEvent) → MayShift base s e → IsStanding base s → s.stamp < 65535
shift_room base s (shifts.Offline heir) may is = omega (arith, may.2)
shift_room base s shifts.Online may is = is.back may

-- where a pass has seen a base off line, it has nothing, and each timer has a reach
pub off_line_seen : (o : Opening) (v : BaseView BaseContent) → AreFresh o.timers → KnowsBases o v
    → IsClearOff (length o.timers) (after_entries (first_system o.timers) v.seen)
off_line_seen o v fresh knows =
    clear_after o.bases (length o.timers) (first_system o.timers) v.seen knows.allowed (agrees_first o.timers fresh.each) (clear_first o.timers)

-- what a held base's standing says of all timers
pub record TellsOff (o : Opening) (v : BaseView BaseContent) (h : HeldContent BaseContent) (heir : Option ℕ) : Type 0 where
  pub unused : IfSome heir (λ to. IsUnused (timer_seen o v) h.base)
  pub reach : IfSome heir (λ to. (t : ℕ) → t < length o.timers → 0 < (timer_at o.timers t).terms.reach)

pub tells_off : (o : Opening) (v : BaseView BaseContent) → AreFresh o.timers → KnowsBases o v → (h : HeldContent BaseContent)
    → v.held ≡ Some h → (heir : Option ℕ) → heir ≡ h.content.standing.heir → TellsOff o v h heir
tells_off o v fresh knows h held None is = record { unused = tt; reach = tt }
tells_off o v fresh knows h held (Some to) is =
    let off = off_line_seen o v fresh knows in
    let is_off = sym (is ∙ ap (λ (b : BaseContent). b.standing.heir) (knows.held h held).1.0) in record {
      unused = unused (after_entries (first_system o.timers) v.seen) (agrees o.bases o.timers v.seen fresh.each knows.allowed) h.base
          (off.each h.base to is_off);
      reach = λ t inside. subst (λ (k : Terms). 0 < k.reach) (terms_now o.timers v.seen t) (off.reach h.base to is_off t inside);
    }
