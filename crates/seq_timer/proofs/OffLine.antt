-- A base that is off line has empty queues, and no function runs there; so no timer is armed on it, and no function begins there.
use Rattle.std.proofs.Common.{◌≡◌, ℕ, ◌<◌, ◌⊎◌, inl, inr, Bool, true, false, if◌then◌else◌, List, [], ◌∷◌, ◌++◌, length, Option, Some, None, IsSome, refl, ap, sym, ◌∙◌, subst, arith}
use Rattle.std.proofs.Math.Logic.{⊎_elim}
use Rattle.std.proofs.lemmas.Bool.{cases_eq, true≢false}
use Rattle.std.proofs.lemmas.Bool.Decides.{nat_tests}
use Rattle.std.proofs.lemmas.List.{length-map}
use Rattle.ktime.specs.Readings.{ClockReading}
use Rattle.seq_timer.specs.declared.context.Context.{Context}
use Rattle.seq_timer.specs.declared.context.Context.TheVariants as contexts
use Rattle.seq_timer.specs.declared.context.Declared.{Declared}
use Rattle.seq_timer.specs.declared.context.Terms.{Terms}
use Rattle.seq_timer.specs.declared.effect.QueueEffect.{QueueEffect}
use Rattle.seq_timer.specs.declared.effect.QueueEffect.TheVariants as queues
use Rattle.seq_timer.specs.declared.effect.RunEffect.{RunEffect}
use Rattle.seq_timer.specs.declared.effect.RunEffect.TheVariants as functions
use Rattle.seq_timer.specs.Effects.{NeedsOfBases, effect, is_arming, is_beginning, WantsOnLine}
use Rattle.seq_timer.specs.Events.{Event}
use Rattle.seq_timer.specs.declared.standing.BaseEvent.{BaseEvent}
use Rattle.seq_timer.specs.declared.standing.BaseEvent.TheVariants as shifts
use Rattle.seq_timer.specs.declared.standing.Standing.{Standing}
use Rattle.seq_timer.specs.declared.system.BaseEntry.{BaseEntry}
use Rattle.seq_timer.specs.declared.system.SystemEntry.{SystemEntry}
use Rattle.seq_timer.specs.declared.system.SystemEntry.TheVariants as entries
use Rattle.seq_timer.specs.declared.system.TimerEntry.{TimerEntry}
use Rattle.seq_timer.specs.Standings.{AreShifts, IsStanding, MayShift, first_standing, standing_after, standing_after_all}
use Rattle.seq_timer.specs.Steps.{Timer, Needs, after, opening}
use Rattle.seq_timer.specs.Tables.{IsUnused, in_context, runs_on, timer_at}
use Rattle.seq_timer.specs.Halves.{Half, generation_in, half_after, no_half, queued_by, run_by, running_on}
use Rattle.seq_timer.specs.Contents.{IsContentOf, content_after, first_due, half_of, no_content, with_half}
use Rattle.seq_timer.specs.Systems.{AreSystemSteps, BaseContent, BeginsInTurn, FitsBase, HasHeirOnLine, IsBaseStep, IsClear, IsSystemHistory, IsSystemStep, MayCome, System, after_entries, after_entry, after_one, after_shift, first_system, openings, shifts_of, system_of}
use Rattle.seq_timer.proofs.Agreement.{Agrees, agrees_one, content_of_changed, first_agrees}
use Rattle.seq_timer.proofs.Contents.{seen_own}
use Rattle.seq_timer.proofs.Effects.{by_effect}
use Rattle.seq_timer.proofs.Fronts.{front-unarmed}
use Rattle.seq_timer.proofs.Systems.{after_entries-shifts_of, base_else, base_here, base_shift, base_unshifted, content_shift, shifts_by_turns, standing_same, standing_shifted, timer_else, timer_here, timers_shift}

-- ---- a base that has nothing

idle_in : (x : Context) → (half_of x no_content).running ≡ None
idle_in contexts.Hard = refl
idle_in contexts.Soft = refl

none_runs : (b : ℕ) (t : Timer) → None ≡ running_on b t → runs_on b t ≡ false
none_runs b t none = grind (arith, nat_tests)

-- no timer is armed on a base that has nothing, and no function runs there
pub unused_clear : (timers : ℕ → Timer) (b : ℕ) → IsContentOf timers b no_content → IsUnused timers b
unused_clear timers b agrees = record {
  unarmed = front-unarmed timers b no_content agrees refl;
  idle = λ t. let x = (timers t).declared.context in
      none_runs b (timers t) (subst (λ (r : Option (ℕ × ℕ)). generation_in t r ≡ running_on b (in_context x timers t)) (idle_in x) ((agrees.each x).running t)
      ∙ ap (running_on b) (seen_own (timers t)));
}

pub unused : (w : System) → Agrees w → (b : ℕ) → (w.bases b).content ≡ no_content → IsUnused w.timers b
unused w agrees b clear = unused_clear w.timers b (subst (λ c. IsContentOf w.timers b c) clear (agrees.contents b))

none_due : (x : Context) (timers : ℕ → Timer) (reading : ClockReading) (p : ℕ × ℕ) → first_due x timers no_content reading ≡ Some p → ⊥
none_due contexts.Hard timers reading p is = cc
none_due contexts.Soft timers reading p is = cc

half_in : (x : Context) → half_of x no_content ≡ no_half
half_in contexts.Hard = refl
half_in contexts.Soft = refl

clear_with : (x : Context) (h : Half) → h ≡ no_half → with_half x h no_content ≡ no_content
clear_with contexts.Hard h is = ap (λ h. record no_content { hard = h }) is
clear_with contexts.Soft h is = ap (λ h. record no_content { soft = h }) is

-- an event that leaves a half with nothing so leaves a base with nothing so
stays : (id : ℕ) (t : Timer) (e : Event) → half_after id t e no_half ≡ no_half → content_after id t e no_content ≡ no_content
stays id t e same = clear_with t.declared.context (half_after id t e (half_of t.declared.context no_content))
    (ap (half_after id t e) (half_in t.declared.context) ∙ same)

queue_stays : (q : QueueEffect) (id : ℕ) (now : Timer) → (is_arming q ≡ true → ⊥) → queued_by q id now no_half ≡ no_half
queue_stays queues.Stays id now unarmed = refl
queue_stays queues.Leaves id now unarmed = refl
queue_stays queues.Armed id now unarmed = absurd (unarmed refl)

function_stays : (f : RunEffect) (id : ℕ) (armed : Option ℕ) → (is_beginning f ≡ true → ⊥) → run_by f id armed no_half ≡ no_half
function_stays functions.Stays id armed idle = refl
function_stays (functions.Begins reading) id armed idle = absurd (idle refl)
function_stays functions.Ends id armed idle = refl

-- ---- an entry of a timer

some_none : (n : ℕ) → Some n ≡ None → ⊥
some_none n e = cc

no_heir : (heir : ℕ) → None ≡ Some heir → ⊥
no_heir heir off = cc

runs_here : (t : Timer) → IsSome t.running → runs_on t.base t ≡ false → ⊥
runs_here t some none = grind (arith, nat_tests)

-- a timer on a base that is off line, has nothing and runs no function
module _ (bases id : ℕ) (t : Timer) (b : BaseContent) (heir : ℕ) (idle : runs_on t.base t ≡ false) (off : b.standing.heir ≡ Some heir)
    (clear : b.content ≡ no_content) where
  -- isn't armed there
  unarmed_there : (by_claimer arms : Bool) → (by_claimer ≡ true → IsSome t.running) → ((if by_claimer then false else arms) ≡ true → b.standing.heir ≡ None)
      → arms ≡ true → ⊥
  unarmed_there true arms claimed online is = runs_here t (claimed refl) idle
  unarmed_there false arms claimed online is = some_none heir (sym off ∙ online is)

  -- nor does its function begin there
  unclaimed_there : (f : RunEffect) (sent : Option ℕ) → NeedsOfBases (BeginsInTurn b id t) bases f sent → is_beginning f ≡ true → ⊥
  unclaimed_there functions.Stays sent needs is = true≢false (sym is)
  unclaimed_there (functions.Begins reading) sent needs is = none_due t.declared.context (timer_at b.states) reading (t.expires, id)
      (ap (λ c. first_due t.declared.context (timer_at b.states) c reading) (sym clear) ∙ needs.1)
  unclaimed_there functions.Ends sent needs is = true≢false (sym is)

  module _ (e : Event) (needs : Needs t e) (fits : FitsBase bases b id t e) where
    unarmed : is_arming (effect t e).queue ≡ true → ⊥
    unarmed = unarmed_there (effect t e).by_claimer (is_arming (effect t e).queue) ((by_effect t e).needs needs).claimed fits.online

    unclaimed : is_beginning (effect t e).function ≡ true → ⊥
    unclaimed = unclaimed_there (effect t e).function (effect t e).sent fits.needs

    -- an entry of it leaves the base with nothing
    clear_stays : content_after id t e no_content ≡ no_content
    clear_stays = stays id t e (ap (run_by (effect t e).function id t.armed) (queue_stays (effect t e).queue id (after t e) unarmed)
        ∙ function_stays (effect t e).function id t.armed unclaimed)

    -- and wants no base on line
    wants_none : WantsOnLine (effect t e) → ⊥
    wants_none wants = ⊎_elim unarmed unclaimed wants

-- ---- all bases

-- a base that is off line has nothing, and each timer has a reach
pub record IsClearOff (count : ℕ) (w : System) : Type 0 where
  pub each : (b heir : ℕ) → (w.bases b).standing.heir ≡ Some heir → (w.bases b).content ≡ no_content
  pub reach : (b heir : ℕ) → (w.bases b).standing.heir ≡ Some heir → (t : ℕ) → t < count → 0 < (w.timers t).terms.reach

-- an entry leaves the terms of each timer
terms_same : (w : System) (e : TimerEntry) (t : ℕ) → ((after_entry w e).timers t).terms ≡ (w.timers t).terms
terms_same w e t = ⊎_elim
    (λ (same : t ≡ e.timer). subst (λ k. ((after_entry w e).timers k).terms ≡ (w.timers k).terms) (sym same)
    (ap (λ (x : Timer). x.terms) (timer_here w e) ∙ (by_effect (w.timers e.timer) e.event).terms))
    (λ other. ap (λ (x : Timer). x.terms) (timer_else w e t other))
    (cases_eq t e.timer)

module _ (bases count : ℕ) where
  clear_next : (w : System) (e : TimerEntry) → IsSystemStep bases count w e → Agrees w → IsClearOff count w → IsClearOff count (after_entry w e)
  clear_next w e ok agrees clear =
      record {
        each = λ b heir off'. ⊎_elim
            (λ (here : b ≡ t.base).
            let off : (w.bases t.base).standing.heir ≡ Some heir = subst (λ q. (w.bases q).standing.heir ≡ Some heir) here (before b heir off') in
            let none = clear.each t.base heir off in
            subst (λ q. ((after_entry w e).bases q).content ≡ no_content) (sym here)
            (ap (λ (x : BaseContent). x.content) (base_here w e) ∙ (content_of_changed e.timer t e.event (w.bases t.base)
            ∙ (ap (content_after e.timer t e.event) none
            ∙ clear_stays bases e.timer t (w.bases t.base) heir ((unused w agrees t.base none).idle e.timer) off none e.event ok.needs ok.base))))
            (λ there. ap (λ (x : BaseContent). x.content) (base_else w e b there) ∙ clear.each b heir (before b heir off'))
            (cases_eq b t.base);
        reach = λ b heir off' k within. subst (λ (x : Terms). 0 < x.reach) (sym (terms_same w e k)) (clear.reach b heir (before b heir off') k within);
      }
    where
      t : Timer
      t = w.timers e.timer

      before : (b heir : ℕ) → ((after_entry w e).bases b).standing.heir ≡ Some heir → (w.bases b).standing.heir ≡ Some heir
      before b heir off = sym (ap (λ (x : Standing). x.heir) (standing_same w e b)) ∙ off

  clear_shift : (w : System) (c : BaseEntry) → IsBaseStep bases count w c → IsClearOff count w → IsClearOff count (after_shift w c)
  clear_shift w c ok clear = record {
    each = λ b heir off. content_shift w c b ∙ ⊎_elim
        (λ (here : b ≡ c.base). subst (λ q. (w.bases q).content ≡ no_content) (sym here)
        (now_off (w.bases c.base) c.event heir ok.clear
        (sym (ap (λ (x : BaseContent). x.standing.heir) (base_shift w c) ∙ ap (λ (x : Standing). x.heir) (standing_shifted c.event (w.bases c.base)))
        ∙ subst (λ q. ((after_shift w c).bases q).standing.heir ≡ Some heir) here off)))
        (λ there. clear.each b heir (sym (ap (λ (x : BaseContent). x.standing.heir) (base_unshifted w c b there)) ∙ off))
        (cases_eq b c.base);
    reach = λ b heir off t within. subst (λ (x : Timer). 0 < x.terms.reach) (sym (timers_shift w c t)) (ok.reach t within);
  }
    where
      now_off : (b : BaseContent) (e : BaseEvent) (heir : ℕ) → IsClear b e → (standing_after b.standing e).heir ≡ Some heir → b.content ≡ no_content
      now_off b (shifts.Offline to) heir clear off = clear
      now_off b shifts.Online heir clear off = absurd cc

  clear_one : (w : System) (x : SystemEntry) → MayCome bases count w x → Agrees w → IsClearOff count w → IsClearOff count (after_one w x)
  clear_one w (entries.Timer e) ok agrees clear = clear_next w e ok agrees clear
  clear_one w (entries.Base c) ok agrees clear = clear_shift w c ok clear
  clear_one w (entries.Rise k) ok agrees clear = clear

  pub clear_after : (w : System) (log : List SystemEntry) → AreSystemSteps bases count w log → Agrees w → IsClearOff count w
      → IsClearOff count (after_entries w log)
  clear_after w [] all agrees clear = clear
  clear_after w (x ∷ xs) all agrees clear = clear_after (after_one w x) xs all.1 (agrees_one bases count w x all.0 agrees) (clear_one w x all.0 agrees clear)

  -- an entry that wants its timer's base on line finds it so
  pub online_wanted : (w : System) (e : TimerEntry) → IsSystemStep bases count w e → Agrees w → IsClearOff count w
      → WantsOnLine (effect (w.timers e.timer) e.event) → (w.bases (w.timers e.timer).base).standing.heir ≡ None
  online_wanted w e ok agrees clear wants = by_heir (w.bases t.base).standing.heir refl
    where
      t : Timer
      t = w.timers e.timer

      by_heir : (h : Option ℕ) → (w.bases t.base).standing.heir ≡ h → (w.bases t.base).standing.heir ≡ None
      by_heir None is = is
      by_heir (Some heir) is =
          let none = clear.each t.base heir is in
          absurd (wants_none bases e.timer t (w.bases t.base) heir ((unused w agrees t.base none).idle e.timer) is none e.event ok.needs ok.base wants)

-- nothing has happened yet: all bases are on line
pub clear_first : (opened : List Timer) → IsClearOff (length opened) (first_system opened)
clear_first opened = record { each = λ b heir off. refl; reach = λ b heir off t within. absurd (no_heir heir off) }

module _ (bases : ℕ) (terms : Terms) (list : List Declared) (log : List SystemEntry) (history : IsSystemHistory bases list terms log) where
  pub all_clear : IsClearOff (length list) (system_of list terms log)
  all_clear = clear_after bases (length list) (first_system (openings list terms)) log history (first_agrees list terms)
      (subst (λ n. IsClearOff n (first_system (openings list terms))) (length-map list (λ d. opening d terms)) (clear_first (openings list terms)))

-- ---- heirs

module _ (bases count b : ℕ) where
  -- a base is off line after these entries with an heir that is on line
  abbrev pub IsOffTo : System → ℕ → Type 0
  IsOffTo w heir = ((w.bases b).standing.heir ≡ Some heir) × ((w.bases heir).standing.heir ≡ None)

  off_after : (w : System) (c : BaseEntry) (heir : ℕ) → IsBaseStep bases count w c → b ≡ c.base
      → ((after_shift w c).bases b).standing.heir ≡ Some heir → IsOffTo (after_shift w c) heir
  off_after w c heir ok here off = by_event c.event ok.may ok.heir (sym stands ∙ off)
    where
      stands : ((after_shift w c).bases b).standing.heir ≡ (standing_after (w.bases c.base).standing c.event).heir
      stands = subst (λ q. ((after_shift w c).bases q).standing.heir ≡ (standing_after (w.bases c.base).standing c.event).heir) (sym here)
          (ap (λ (x : BaseContent). x.standing.heir) (base_shift w c) ∙ ap (λ (x : Standing). x.heir) (standing_shifted c.event (w.bases c.base)))

      by_event : (e : BaseEvent) → MayShift c.base (w.bases c.base).standing e → HasHeirOnLine w.bases e
          → (standing_after (w.bases c.base).standing e).heir ≡ Some heir → IsOffTo (after_shift w c) heir
      by_event (shifts.Offline to) may on is =
          let same : to ≡ heir = cc in
          let below : heir < c.base = subst (λ q. q < c.base) same may.1 in (
            off,
            ap (λ (x : BaseContent). x.standing.heir) (base_unshifted w c heir (λ q. omega (arith, below, q)))
                ∙ subst (λ q. (w.bases q).standing.heir ≡ None) same on,
          )
      by_event shifts.Online may on is = absurd (no_heir heir is)

  module _ (W : ℕ → Type 0) where
    heir_next : (w : System) (x : SystemEntry) → MayCome bases count w x → ((h : ℕ) → (w.bases b).standing.heir ≡ Some h → W h)
        → (h : ℕ) → ((after_one w x).bases b).standing.heir ≡ Some h → W h ⊎ IsOffTo (after_one w x) h
    heir_next w (entries.Timer e) ok known h off = inl (known h (sym (ap (λ (x : Standing). x.heir) (standing_same w e b)) ∙ off))
    heir_next w (entries.Rise k) ok known h off = inl (known h off)
    heir_next w (entries.Base c) ok known h off = ⊎_elim
        (λ (here : b ≡ c.base). inr (off_after w c h ok here off))
        (λ there. inl (known h (sym (ap (λ (x : BaseContent). x.standing.heir) (base_unshifted w c b there)) ∙ off)))
        (cases_eq b c.base)

  heir_taken : (W : ℕ → Type 0) (w : System) (xs : List SystemEntry) → AreSystemSteps bases count w xs
      → ((h : ℕ) → (w.bases b).standing.heir ≡ Some h → W h) → (h : ℕ) → ((after_entries w xs).bases b).standing.heir ≡ Some h
      → W h ⊎ ((ys : List SystemEntry) × (zs : List SystemEntry) × (xs ≡ ys ++ zs) × IsOffTo (after_entries w ys) h)
  heir_taken W w [] all known h off = inl (known h off)
  heir_taken W w (x ∷ xs) all known h off = ⊎_elim
      (λ now. ⊎_elim (λ before. inl before) (λ here. inr (x ∷ [], xs, refl, here)) now)
      (λ later. inr (x ∷ later.0, later.1, ap (λ l. x ∷ l) later.2, later.3))
      (heir_taken (λ k. W k ⊎ IsOffTo (after_one w x) k) (after_one w x) xs all.1 (heir_next W w x all.0 known) h off)

  -- law: where a base that was on line is off line with an heir, there was a moment in between when it was off line so, and the heir on line
  pub heir_on_line : (w : System) (xs : List SystemEntry) → AreSystemSteps bases count w xs → (w.bases b).standing.heir ≡ None
      → (h : ℕ) → ((after_entries w xs).bases b).standing.heir ≡ Some h
      → (ys : List SystemEntry) × (zs : List SystemEntry) × (xs ≡ ys ++ zs) × IsOffTo (after_entries w ys) h
  heir_on_line w xs all on h off =
      ⊎_elim (λ none. absurd none) (λ is. is) (heir_taken (λ k. ⊥) w xs all (λ k is. no_heir k (sym on ∙ is)) h off)

-- ---- standings

standing_next : (base : ℕ) (s : Standing) (e : BaseEvent) → MayShift base s e → IsStanding base s → IsStanding base (standing_after s e)
standing_next base s (shifts.Offline heir) may is = record {
  stamp = omega (arith, may.2);
  back = λ off. omega (arith, may.2);
  heir = λ to here. let e : heir ≡ to = cc in subst (λ h. h < base) e may.1;
}
standing_next base s shifts.Online may is = record {
  stamp = omega (arith, is.back may);
  back = λ off. absurd (true≢false (sym off));
  heir = λ to here. absurd (no_heir to here);
}

standing_all : (base : ℕ) (s : Standing) (es : List BaseEvent) → AreShifts base s es → IsStanding base s → IsStanding base (standing_after_all s es)
standing_all base s [] all is = is
standing_all base s (e ∷ es) all is = standing_all base (standing_after s e) es all.1 (standing_next base s e all.0 is)

pub standing_fits : (bases count : ℕ) (opened : List Timer) (log : List SystemEntry) → AreSystemSteps bases count (first_system opened) log → (base : ℕ)
    → IsStanding base ((after_entries (first_system opened) log).bases base).standing
standing_fits bases count opened log all base =
    subst (λ s. IsStanding base s) (sym (after_entries-shifts_of (first_system opened) base log))
    (standing_all base first_standing (shifts_of base log) (shifts_by_turns bases count (first_system opened) base log all)
    (record { stamp = omega arith; back = λ off. absurd (true≢false (sym off)); heir = λ to here. absurd (no_heir to here) }))
