-- A history of all timers: an entry leaves other timers and bases as they are, bases keep the timers that are on them, and a timer is what its own
-- entries lead to.
use Rattle.std.proofs.Common.{◌≡◌, ℕ, ◌+◌, ◌<◌, ◌≤◌, ◌≢◌, eqb, Bool, true, false, List, [], ◌∷◌, ◌++◌, length, Option, Some, None, refl, ap, sym, ◌∙◌, subst, ◌⊎◌, inl, inr, ⊎_elim, arith, if◌then◌else◌}
use Rattle.std.proofs.lemmas.Bool.{cases_eq, ne_eqb, eq-eqb, true≢false}
use Rattle.std.proofs.lemmas.List.{get_or-set_same, get_or-set_other, length-set}
use Rattle.seq_timer.specs.Events.{Event}
use Rattle.seq_timer.specs.Effects.{effect}
use Rattle.seq_timer.specs.Steps.{Timer, after}
use Rattle.seq_timer.specs.Tables.{timer_at, no_timer}
use Rattle.seq_timer.specs.Histories as seq
use Rattle.seq_timer.specs.declared.standing.BaseEvent.{BaseEvent}
use Rattle.seq_timer.specs.declared.standing.Standing.{Standing}
use Rattle.seq_timer.specs.declared.system.BaseEntry.{BaseEntry}
use Rattle.seq_timer.specs.declared.system.SystemEntry.{SystemEntry}
use Rattle.seq_timer.specs.declared.system.SystemEntry.TheVariants as entries
use Rattle.seq_timer.specs.declared.system.TimerEntry.{TimerEntry}
use Rattle.seq_timer.specs.Standings.{AreShifts, standing_after, standing_after_all}
use Rattle.seq_timer.specs.Systems.{BaseContent, System, updated, first_system, system_after, changed, shifted, after_entry, after_shift, after_one, after_entries}
use Rattle.seq_timer.specs.Systems.{IsSystemStep, MayCome, AreSystemSteps, entries_of, rises_of, shifts_of, IsOn, Shows}
use Rattle.seq_timer.proofs.Effects.{IsSent, by_effect}

pub updated_here : {A : Type 0} (f : ℕ → A) (i : ℕ) (x : A) → updated f i x i ≡ x
updated_here f i x = ap (λ b. if b then x else f i) (eq-eqb i i refl)

pub updated_else : {A : Type 0} (f : ℕ → A) (i j : ℕ) (x : A) → j ≢ i → updated f i x j ≡ f j
updated_else f i j x n = ap (λ b. if b then x else f j) (ne_eqb j i n)

-- ---- one entry

pub timer_here : (w : System) (e : TimerEntry) → (after_entry w e).timers e.timer ≡ after (w.timers e.timer) e.event
unfolding after_entry
timer_here w e = updated_here w.timers e.timer (after (w.timers e.timer) e.event)

pub timer_else : (w : System) (e : TimerEntry) (t : ℕ) → t ≢ e.timer → (after_entry w e).timers t ≡ w.timers t
unfolding after_entry
timer_else w e t n = updated_else w.timers e.timer t (after (w.timers e.timer) e.event) n

pub base_here : (w : System) (e : TimerEntry) → (after_entry w e).bases (w.timers e.timer).base ≡ changed e.timer
    (w.timers e.timer) e.event (w.bases (w.timers e.timer).base)
unfolding after_entry
base_here w e = updated_here w.bases (w.timers e.timer).base (changed e.timer (w.timers e.timer) e.event (w.bases (w.timers e.timer).base))

-- an entry of a timer that isn't on the base leaves what the base has
pub base_else : (w : System) (e : TimerEntry) (b : ℕ) → b ≢ (w.timers e.timer).base → (after_entry w e).bases b ≡ w.bases b
unfolding after_entry
base_else w e b n = updated_else w.bases (w.timers e.timer).base b (changed e.timer (w.timers e.timer) e.event (w.bases (w.timers e.timer).base)) n

-- an entry of a timer leaves each base's standing
pub standing_here : (id : ℕ) (t : Timer) (event : Event) (b : BaseContent) → (changed id t event b).standing ≡ b.standing
unfolding changed
standing_here id t event b = refl

pub standing_same : (w : System) (e : TimerEntry) (b : ℕ) → ((after_entry w e).bases b).standing ≡ (w.bases b).standing
standing_same w e b =
    let t = w.timers e.timer in
    ⊎_elim
    (λ (here : b ≡ t.base). subst (λ q. ((after_entry w e).bases q).standing ≡ (w.bases q).standing) (sym here)
    (ap (λ (x : BaseContent). x.standing) (base_here w e) ∙ standing_here e.timer t e.event (w.bases t.base)))
    (λ there. ap (λ (x : BaseContent). x.standing) (base_else w e b there))
    (cases_eq b t.base)

-- ---- one entry of a base

pub timers_shift : (w : System) (c : BaseEntry) (t : ℕ) → (after_shift w c).timers t ≡ w.timers t
unfolding after_shift
timers_shift w c t = refl

pub all_timers_shift : (w : System) (c : BaseEntry) → (after_shift w c).timers ≡ w.timers
unfolding after_shift
all_timers_shift w c = refl

pub base_shift : (w : System) (c : BaseEntry) → (after_shift w c).bases c.base ≡ shifted c.event (w.bases c.base)
unfolding after_shift
base_shift w c = updated_here w.bases c.base (shifted c.event (w.bases c.base))

pub base_unshifted : (w : System) (c : BaseEntry) (b : ℕ) → b ≢ c.base → (after_shift w c).bases b ≡ w.bases b
unfolding after_shift
base_unshifted w c b n = updated_else w.bases c.base b (shifted c.event (w.bases c.base)) n

pub content_shifted : (event : BaseEvent) (b : BaseContent) → (shifted event b).content ≡ b.content
unfolding shifted
content_shifted event b = refl

pub states_shifted : (event : BaseEvent) (b : BaseContent) → (shifted event b).states ≡ b.states
unfolding shifted
states_shifted event b = refl

pub standing_shifted : (event : BaseEvent) (b : BaseContent) → (shifted event b).standing ≡ standing_after b.standing event
unfolding shifted
standing_shifted event b = refl

pub content_shift : (w : System) (c : BaseEntry) (b : ℕ) → ((after_shift w c).bases b).content ≡ (w.bases b).content
content_shift w c b = ⊎_elim
    (λ (here : b ≡ c.base). subst (λ q. ((after_shift w c).bases q).content ≡ (w.bases q).content) (sym here)
    (ap (λ (x : BaseContent). x.content) (base_shift w c) ∙ content_shifted c.event (w.bases c.base)))
    (λ there. ap (λ (x : BaseContent). x.content) (base_unshifted w c b there))
    (cases_eq b c.base)

pub states_shift : (w : System) (c : BaseEntry) (b : ℕ) → ((after_shift w c).bases b).states ≡ (w.bases b).states
states_shift w c b = ⊎_elim
    (λ (here : b ≡ c.base). subst (λ q. ((after_shift w c).bases q).states ≡ (w.bases q).states) (sym here)
    (ap (λ (x : BaseContent). x.states) (base_shift w c) ∙ states_shifted c.event (w.bases c.base)))
    (λ there. ap (λ (x : BaseContent). x.states) (base_unshifted w c b there))
    (cases_eq b c.base)

-- ---- the states that a base keeps

pub states_here : (id : ℕ) (t : Timer) (event : Event) (b : BaseContent) → id < length b.states → timer_at (changed id t event b).states id ≡ after t event
unfolding changed
states_here id t event b h = get_or-set_same b.states id (after t event) no_timer h

pub states_else : (id other : ℕ) (t : Timer) (event : Event) (b : BaseContent) → other ≢ id
    → timer_at (changed id t event b).states other ≡ timer_at b.states other
unfolding changed
states_else id other t event b n = get_or-set_other b.states id other (after t event) no_timer n

pub states_len : (id : ℕ) (t : Timer) (event : Event) (b : BaseContent) → length (changed id t event b).states ≡ length b.states
unfolding changed
states_len id t event b = length-set b.states id (after t event)

-- a step leaves the timer on its base, or on the move
pub stays_or_moves : (t : Timer) (e : Event) → ((after t e).moving ≡ true) ⊎ ((after t e).base ≡ t.base)
stays_or_moves t e = by_sent (effect t e).sent (by_effect t e).sent
  where
    by_sent : (sent : Option ℕ) → IsSent sent t (after t e) → ((after t e).moving ≡ true) ⊎ ((after t e).base ≡ t.base)
    by_sent None is = inr is.0
    by_sent (Some base) is = inl is.1

-- ---- many entries

pub after_entries-append : (w : System) (xs ys : List SystemEntry) → after_entries w (xs ++ ys) ≡ after_entries (after_entries w xs) ys
after_entries-append w [] ys = refl
after_entries-append w (x ∷ xs) ys = after_entries-append (after_one w x) xs ys

module _ (bases count : ℕ) where
  pub steps_push : (w : System) (es : List SystemEntry) (e : SystemEntry) → AreSystemSteps bases count w es
      → MayCome bases count (after_entries w es) e → AreSystemSteps bases count w (es ++ e ∷ [])
  steps_push w [] e all a = (a, tt)
  steps_push w (x ∷ xs) e all a = (all.0, steps_push (after_one w x) xs e all.1 a)

  pub steps_part : (w : System) (xs ys : List SystemEntry) → AreSystemSteps bases count w (xs ++ ys) → AreSystemSteps bases count w xs
  steps_part w [] ys all = tt
  steps_part w (x ∷ xs) ys all = (all.0, steps_part (after_one w x) xs ys all.1)

  pub steps_rest : (w : System) (xs ys : List SystemEntry) → AreSystemSteps bases count w (xs ++ ys) → AreSystemSteps bases count (after_entries w xs) ys
  steps_rest w [] ys all = all
  steps_rest w (x ∷ xs) ys all = steps_rest (after_one w x) xs ys all.1

  -- ---- bases keep the timers that are on them

  shows_next : (w : System) (e : TimerEntry) → IsSystemStep bases count w e → Shows count w → Shows count (after_entry w e)
  shows_next w e ok shows =
      let id = e.timer in
      let t = w.timers id in
      let new = after t e.event in
      let room : id < length (w.bases t.base).states = omega (arith, shows.wide t.base, ok.within) in
      record {
        kept = λ b k h on.
            ⊎_elim
            (λ (same : k ≡ id).
            let on' : IsOn b new = subst (λ (x : Timer). IsOn b x) (timer_here w e) (subst (λ q. IsOn b ((after_entry w e).timers q)) same on) in
            let here : b ≡ t.base = ⊎_elim (λ m. absurd (true≢false (sym m ∙ on'.still))) (λ s. sym on'.at ∙ s) (stays_or_moves t e.event) in
            subst (λ q. timer_at ((after_entry w e).bases b).states q ≡ (after_entry w e).timers q) (sym same)
            (subst (λ q. timer_at ((after_entry w e).bases q).states id ≡ (after_entry w e).timers id) (sym here)
            (ap (λ (x : BaseContent). timer_at x.states id) (base_here w e) ∙ (states_here id t e.event (w.bases t.base) room ∙ sym (timer_here w e)))))
            (λ other.
            let on' : IsOn b (w.timers k) = subst (λ (x : Timer). IsOn b x) (timer_else w e k other) on in
            states_same w e b k other ∙ (shows.kept b k h on' ∙ sym (timer_else w e k other)))
            (cases_eq k id);
        shown = λ b k h on.
            ⊎_elim
            (λ (same : k ≡ id).
            ⊎_elim
            (λ (here : b ≡ t.base).
            subst (λ q. (after_entry w e).timers q ≡ timer_at ((after_entry w e).bases b).states q) (sym same)
            (subst (λ q. (after_entry w e).timers id ≡ timer_at ((after_entry w e).bases q).states id) (sym here)
            (timer_here w e ∙ (sym (states_here id t e.event (w.bases t.base) room) ∙ ap (λ (x : BaseContent). timer_at x.states id) (sym (base_here w e))))))
            (λ there.
            let on' : IsOn b (timer_at (w.bases b).states id) = subst (λ (x : BaseContent). IsOn b (timer_at x.states id))
            (base_else w e b there) (subst (λ q. IsOn b (timer_at ((after_entry w e).bases b).states q)) same on) in
            absurd (there (sym on'.at ∙ ap (λ (x : Timer). x.base) (sym (shows.shown b id ok.within on')))))
            (cases_eq b t.base))
            (λ other.
            let on' : IsOn b (timer_at (w.bases b).states k) = subst (λ (x : Timer). IsOn b x) (states_same w e b k other) on in
            timer_else w e k other ∙ (shows.shown b k h on' ∙ sym (states_same w e b k other)))
            (cases_eq k id);
        wide = λ b. ⊎_elim
            (λ (here : b ≡ t.base). subst (λ q. length ((after_entry w e).bases q).states ≡ count) (sym here)
            (ap (λ (x : BaseContent). length x.states) (base_here w e) ∙ (states_len id t e.event (w.bases t.base) ∙ shows.wide t.base)))
            (λ there. ap (λ (x : BaseContent). length x.states) (base_else w e b there) ∙ shows.wide b)
            (cases_eq b t.base);
      }
    where
      states_same : (w : System) (e : TimerEntry) (b k : ℕ) → k ≢ e.timer → timer_at ((after_entry w e).bases b).states k ≡ timer_at (w.bases b).states k
      states_same w e b k other =
          let id = e.timer in
          let t = w.timers id in
          ⊎_elim
          (λ (here : b ≡ t.base). subst (λ q. timer_at ((after_entry w e).bases q).states k ≡ timer_at (w.bases q).states k) (sym here)
          (ap (λ (x : BaseContent). timer_at x.states k) (base_here w e) ∙ states_else id k t e.event (w.bases t.base) other))
          (λ there. ap (λ (x : BaseContent). timer_at x.states k) (base_else w e b there))
          (cases_eq b t.base)

  shows_shift : (w : System) (c : BaseEntry) → Shows count w → Shows count (after_shift w c)
  shows_shift w c shows = record {
    kept = λ b k h on. ap (λ (x : List Timer). timer_at x k) (states_shift w c b)
        ∙ (shows.kept b k h (subst (λ (x : Timer). IsOn b x) (timers_shift w c k) on) ∙ sym (timers_shift w c k));
    shown = λ b k h on. timers_shift w c k ∙ (shows.shown b k h (subst (λ (x : List Timer). IsOn b (timer_at x k)) (states_shift w c b) on)
        ∙ ap (λ (x : List Timer). timer_at x k) (sym (states_shift w c b)));
    wide = λ b. ap (λ (x : List Timer). length x) (states_shift w c b) ∙ shows.wide b;
  }

  shows_one : (w : System) (x : SystemEntry) → MayCome bases count w x → Shows count w → Shows count (after_one w x)
  shows_one w (entries.Timer e) ok shows = shows_next w e ok shows
  shows_one w (entries.Base c) ok shows = shows_shift w c shows
  shows_one w (entries.Rise k) ok shows = shows

  shows_all : (w : System) (es : List SystemEntry) → AreSystemSteps bases count w es → Shows count w → Shows count (after_entries w es)
  shows_all w [] all shows = shows
  shows_all w (x ∷ xs) all shows = shows_all (after_one w x) xs all.1 (shows_one w x all.0 shows)

pub shows : (bases : ℕ) (opened : List Timer) (log : List SystemEntry) → AreSystemSteps bases (length opened) (first_system opened) log
    → Shows (length opened) (system_after opened log)
shows bases opened log all = shows_all bases (length opened) (first_system opened) log all
    (record { kept = λ b t h on. refl; shown = λ b t h on. refl; wide = λ b. refl })

-- A base that has the same after two histories has the same timers on it.
pub same_on : (count : ℕ) (v w : System) (b t : ℕ) → Shows count v → Shows count w → v.bases b ≡ w.bases b → t < count
    → IsOn b (v.timers t) → w.timers t ≡ v.timers t
same_on count v w b t shows_v shows_w same h on =
    let here : timer_at (w.bases b).states t ≡ v.timers t = ap (λ (x : BaseContent). timer_at x.states t) (sym same) ∙ shows_v.kept b t h on in
    shows_w.shown b t h (subst (λ (x : Timer). IsOn b x) (sym here) on) ∙ here

-- nothing happens to a timer that isn't there
pub untouched : (bases count : ℕ) (w : System) (log : List SystemEntry) (t : ℕ) → count ≤ t → AreSystemSteps bases count w log
    → (after_entries w log).timers t ≡ w.timers t
untouched bases count w [] t past all = refl
untouched bases count w (entries.Base c ∷ es) t past all = untouched bases count (after_shift w c) es t past all.1 ∙ timers_shift w c t
untouched bases count w (entries.Rise k ∷ es) t past all = untouched bases count w es t past all.1
untouched bases count w (entries.Timer e ∷ es) t past all =
    untouched bases count (after_entry w e) es t past all.1 ∙ timer_else w e t (λ same. absurd (omega (arith, same, all.0.within)))

-- ---- a timer's own history

pub entries_of-append : (t : ℕ) (xs ys : List SystemEntry) → entries_of t (xs ++ ys) ≡ entries_of t xs ++ entries_of t ys
entries_of-append t [] ys = refl
entries_of-append t (entries.Base c ∷ xs) ys = entries_of-append t xs ys
entries_of-append t (entries.Rise k ∷ xs) ys = entries_of-append t xs ys
entries_of-append t (entries.Timer x ∷ xs) ys = pick (record { event = x.event; reply = x.reply }) (entries_of t (xs ++ ys)) (entries_of t xs)
    (entries_of t ys) (eqb x.timer t) (entries_of-append t xs ys)
  where
    pick : (x : seq.Entry) (a b c : List seq.Entry) (q : Bool) → a ≡ b ++ c → (if q then x ∷ a else a) ≡ (if q then x ∷ b else b) ++ c
    pick x a b c true e = λ i. x ∷ e i
    pick x a b c false e = e

-- a timer's state is what its own history leads to
pub after_entries-entries_of : (w : System) (t : ℕ) (es : List SystemEntry) → (after_entries w es).timers t ≡ seq.after_all (w.timers t) (entries_of t es)
after_entries-entries_of w t [] = refl
after_entries-entries_of w t (entries.Rise k ∷ es) = after_entries-entries_of w t es
after_entries-entries_of w t (entries.Base c ∷ es) =
    after_entries-entries_of (after_shift w c) t es ∙ ap (λ (x : Timer). seq.after_all x (entries_of t es)) (timers_shift w c t)
after_entries-entries_of w t (entries.Timer e ∷ es) =
    ⊎_elim
    (λ (same : t ≡ e.timer). subst (λ (q : Bool). (after_entries (after_entry w e) es).timers t ≡ seq.after_all (w.timers t)
    (if q then record { event = e.event; reply = e.reply } ∷ entries_of t es else entries_of t es)) (sym (eq-eqb e.timer t (sym same)))
    (after_entries-entries_of (after_entry w e) t es ∙ ap (λ (x : Timer). seq.after_all x (entries_of t es))
    (subst (λ q. (after_entry w e).timers q ≡ after (w.timers q) e.event) (sym same) (timer_here w e))))
    (λ n. subst (λ (q : Bool). (after_entries (after_entry w e) es).timers t ≡ seq.after_all (w.timers t)
    (if q then record { event = e.event; reply = e.reply } ∷ entries_of t es else entries_of t es)) (sym (ne_eqb e.timer t (λ q. n (sym q))))
    (after_entries-entries_of (after_entry w e) t es ∙ ap (λ (x : Timer). seq.after_all x (entries_of t es)) (timer_else w e t n)))
    (cases_eq t e.timer)

-- ---- counters

pub rises_of-append : (k : ℕ) (xs ys : List SystemEntry) → rises_of k (xs ++ ys) ≡ rises_of k xs + rises_of k ys
rises_of-append k [] ys = omega arith
rises_of-append k (entries.Timer e ∷ xs) ys = rises_of-append k xs ys
rises_of-append k (entries.Base c ∷ xs) ys = rises_of-append k xs ys
rises_of-append k (entries.Rise j ∷ xs) ys =
    elim (eqb j k) as (λ q. (if q then rises_of k (xs ++ ys) + 1 else rises_of k (xs ++ ys))
    ≡ (if q then rises_of k xs + 1 else rises_of k xs) + rises_of k ys) [
      | true ↦ omega (arith, rises_of-append k xs ys)
      | false ↦ rises_of-append k xs ys
    ]

-- ---- a base's own history

pub shifts_of-append : (b : ℕ) (xs ys : List SystemEntry) → shifts_of b (xs ++ ys) ≡ shifts_of b xs ++ shifts_of b ys
shifts_of-append b [] ys = refl
shifts_of-append b (entries.Timer x ∷ xs) ys = shifts_of-append b xs ys
shifts_of-append b (entries.Rise k ∷ xs) ys = shifts_of-append b xs ys
shifts_of-append b (entries.Base c ∷ xs) ys = pick c.event (shifts_of b (xs ++ ys)) (shifts_of b xs) (shifts_of b ys) (eqb c.base b) (shifts_of-append b xs ys)
  where
    pick : (x : BaseEvent) (a b c : List BaseEvent) (q : Bool) → a ≡ b ++ c → (if q then x ∷ a else a) ≡ (if q then x ∷ b else b) ++ c
    pick x a b c true e = λ i. x ∷ e i
    pick x a b c false e = e

-- a base's standing is what its own history leads to
pub after_entries-shifts_of : (w : System) (b : ℕ) (es : List SystemEntry)
    → ((after_entries w es).bases b).standing ≡ standing_after_all (w.bases b).standing (shifts_of b es)
after_entries-shifts_of w b [] = refl
after_entries-shifts_of w b (entries.Rise k ∷ es) = after_entries-shifts_of w b es
after_entries-shifts_of w b (entries.Timer e ∷ es) =
    after_entries-shifts_of (after_entry w e) b es ∙ ap (λ (x : Standing). standing_after_all x (shifts_of b es)) (standing_same w e b)
after_entries-shifts_of w b (entries.Base c ∷ es) =
    ⊎_elim
    (λ (same : b ≡ c.base). subst (λ (q : Bool). ((after_entries (after_shift w c) es).bases b).standing ≡ standing_after_all (w.bases b).standing
    (if q then c.event ∷ shifts_of b es else shifts_of b es)) (sym (eq-eqb c.base b (sym same)))
    (after_entries-shifts_of (after_shift w c) b es ∙ ap (λ (x : Standing). standing_after_all x (shifts_of b es))
    (subst (λ q. ((after_shift w c).bases q).standing ≡ standing_after (w.bases q).standing c.event) (sym same)
    (ap (λ (x : BaseContent). x.standing) (base_shift w c) ∙ standing_shifted c.event (w.bases c.base)))))
    (λ n. subst (λ (q : Bool). ((after_entries (after_shift w c) es).bases b).standing ≡ standing_after_all (w.bases b).standing
    (if q then c.event ∷ shifts_of b es else shifts_of b es)) (sym (ne_eqb c.base b (λ q. n (sym q))))
    (after_entries-shifts_of (after_shift w c) b es ∙ ap (λ (x : Standing). standing_after_all x (shifts_of b es))
    (ap (λ (x : BaseContent). x.standing) (base_unshifted w c b n))))
    (cases_eq b c.base)

-- and that is by turns off line and on line
pub shifts_by_turns : (bases count : ℕ) (w : System) (b : ℕ) (es : List SystemEntry) → AreSystemSteps bases count w es
    → AreShifts b (w.bases b).standing (shifts_of b es)
shifts_by_turns bases count w b [] all = tt
shifts_by_turns bases count w b (entries.Rise k ∷ es) all = shifts_by_turns bases count w b es all.1
shifts_by_turns bases count w b (entries.Timer e ∷ es) all =
    subst (λ (x : Standing). AreShifts b x (shifts_of b es)) (standing_same w e b) (shifts_by_turns bases count (after_entry w e) b es all.1)
shifts_by_turns bases count w b (entries.Base c ∷ es) all =
    let rest : AreShifts b ((after_shift w c).bases b).standing (shifts_of b es) = shifts_by_turns bases count (after_shift w c) b es all.1 in
    ⊎_elim
    (λ (same : b ≡ c.base). subst (λ (q : Bool). AreShifts b (w.bases b).standing (if q then c.event ∷ shifts_of b es else shifts_of b es))
    (sym (eq-eqb c.base b (sym same)))
    (subst (λ q. AreShifts q (w.bases q).standing (c.event ∷ shifts_of q es)) (sym same) (
      all.0.may,
      subst (λ (x : Standing). AreShifts c.base x (shifts_of c.base es))
          (ap (λ (x : BaseContent). x.standing) (base_shift w c) ∙ standing_shifted c.event (w.bases c.base))
          (subst (λ q. AreShifts q ((after_shift w c).bases q).standing (shifts_of q es)) same rest),
    )))
    (λ n. subst (λ (q : Bool). AreShifts b (w.bases b).standing (if q then c.event ∷ shifts_of b es else shifts_of b es))
    (sym (ne_eqb c.base b (λ q. n (sym q))))
    (subst (λ (x : Standing). AreShifts b x (shifts_of b es)) (ap (λ (x : BaseContent). x.standing) (base_unshifted w c b n)) rest))
    (cases_eq b c.base)
