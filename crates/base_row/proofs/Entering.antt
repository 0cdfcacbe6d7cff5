-- One entry more, of a timer whose base the seat holds: the rule stays, whatever the event is.
use Rattle.base_row.specs.Places.{word_at}
use Rattle.std.proofs.Common.{◌≡◌, ℕ, ◌+◌, ◌<◌, ◌≢◌, true, List, [], ◌∷◌, ◌++◌, length, refl, ap, sym, ◌∙◌, subst, inl, inr, ⊎_elim, arith}
use Rattle.std.specs.Prelude.{slice_set, Option}
use Rattle.std.proofs.lemmas.Bool.{cases_Bool, cases_eq}
use mathlib.Core.Option.{some, none}
use lib.ListN.{get_elem?}
use Rattle.atomic_table.specs.Table.{State, step, carried_after, keeps, Allows}
use Rattle.pass_names.specs.Counts.{one_if}
use Rattle.pass_names.proofs.Counts.{set_there}
use Rattle.seq_timer.specs.Steps.{Timer, Needs, after, reply_to}
use Rattle.seq_timer.specs.declared.system.SystemEntry.{SystemEntry}
use Rattle.seq_timer.specs.declared.system.TimerEntry.{TimerEntry}
use Rattle.base_row.specs.declared.view.Claimed.{Claimed}
use Rattle.base_row.specs.declared.view.HeldContent.{HeldContent}
use Rattle.base_row.specs.declared.view.Opening.{Opening}
use Rattle.base_row.specs.declared.view.BaseView.{BaseView}
use Rattle.seq_timer.specs.Events.{Event}
use Rattle.base_row.proofs.Events.{go_along}
use Rattle.seq_timer.specs.Systems.{BaseContent, System, first_system, after_entry, changed, IsSystemStep, FitsBase, system_after}
use Rattle.seq_timer.specs.declared.system.SystemEntry.TheVariants as entries
use Rattle.base_row.specs.Rules.{runs, HeldHolds, PassHolds, RowHolds, HasOneHistory, number_of, timer_seen, standing_number, carried_in, is_base_claim, has, Claim, Carry}
use Rattle.base_row.specs.Plays.{SeatState, having_entered, GoAlong, MayEnter, EnteredTimer, OwnNeeds}
use Rattle.base_row.specs.Plays.{EntersAs, EntersBy, entry_in, claims_with_event, carry_after}
use Rattle.seq_timer.proofs.Systems.{after_entries-append, base_else, base_here, shifts_of-append, standing_same, steps_push, timer_here, timer_else}
use Rattle.pass_names.specs.Counts.{count, total}
use Rattle.pass_names.proofs.Counts.{total_at}
use Rattle.std.proofs.lemmas.List.{append-nil}
use Rattle.seq_timer.specs.declared.standing.Standing.{Standing}
use Rattle.seq_timer.specs.Systems.{shifts_of}
use Rattle.std.proofs.Common.{◌⊎◌}
use Rattle.seq_timer.proofs.Limits.{stamp-after}
use Rattle.base_row.proofs.Begun.{same_own}
use Rattle.base_row.proofs.Frames.{some_same, carries_one}
use Rattle.base_row.proofs.Stable.{stable}
use Rattle.base_row.proofs.Knowing.{knows_of}
use Rattle.base_row.proofs.Adding.{Goes, added}

module _ (o : Opening) (id : ℕ) (v : BaseView BaseContent) (h : HeldContent BaseContent) (e : TimerEntry)
    (claims : List Claimed) (carry : Option ℕ)
    (live : v.id.live ≡ true) (may : MayEnter o v h e) where
  abbrev n : ℕ
  n = length o.timers

  abbrev seen : System
  seen = system_after o.timers v.seen

  abbrev t : Timer
  t = seen.timers e.timer

  module _ (log : List SystemEntry) (s : State (Option BaseContent) (BaseView BaseContent)) (home : RowHolds o log s)
      (at : get_elem? s.views id ≡ some v) (along : GoAlong t e v claims carry) where
    abbrev w : System
    w = system_after o.timers log

    abbrev w' : System
    w' = system_after o.timers (log ++ entries.Timer e ∷ [])

    abbrev v' : BaseView BaseContent
    v' = having_entered log e t h claims carry v

    fits : PassHolds o log s.words v
    fits = home.each_view id v at

    holds : HeldHolds o log s.words v h
    holds = fits.held h may.held

    same_base : w.bases h.base ≡ seen.bases h.base
    same_base = sym holds.whole ∙ holds.seen

    -- the timer is as the pass has seen it: it is on the base that the pass holds, or the pass carries it
    pub same_timer : w.timers e.timer ≡ t
    same_timer = stable o log s home v fits h may.held e.timer may.allowed.within
        (⊎_elim (λ moves. inr (may.carries moves)) (λ still. inl (record { at = may.base; still = still })) (cases_Bool t.moving))

    here : (w.timers e.timer).base ≡ h.base
    here = ap (λ (x : Timer). x.base) same_timer ∙ may.base

    ok : IsSystemStep o.bases n w e
    ok = record {
      within = may.allowed.within;
      needs = subst (λ x. Needs x e.event) (sym same_timer) may.allowed.needs;
      reply = may.allowed.reply ∙ ap (λ x. reply_to x e.event) (sym same_timer);
      base = subst (λ x. FitsBase o.bases (w.bases (w.timers e.timer).base) e.timer x e.event) (sym same_timer)
          (subst (λ (x : BaseContent). FitsBase o.bases x e.timer t e.event) (ap (λ q. seen.bases q) may.base
          ∙ (sym same_base ∙ ap (λ q. w.bases q) (sym here))) may.allowed.base);
    }

    followed : w' ≡ after_entry w e
    followed = after_entries-append (first_system o.timers) log (entries.Timer e ∷ [])

    new_timer : w'.timers e.timer ≡ after t e.event
    new_timer = ap (λ (x : System). x.timers e.timer) followed ∙ (timer_here w e ∙ ap (λ x. after x e.event) same_timer)

    timers_else : (k : ℕ) → k ≢ e.timer → w'.timers k ≡ w.timers k
    timers_else k apart = ap (λ (x : System). x.timers k) followed ∙ timer_else w e k apart

    new_base : changed e.timer t e.event h.content ≡ w'.bases h.base
    new_base =
        let put : changed e.timer (w.timers e.timer) e.event (w.bases (w.timers e.timer).base) ≡ w'.bases (w.timers e.timer).base =
        sym (ap (λ (x : System). x.bases (w.timers e.timer).base) followed ∙ base_here w e) in
        subst (λ x. changed e.timer t e.event x ≡ w'.bases h.base) (sym holds.whole)
        (subst (λ q. changed e.timer t e.event (w.bases q) ≡ w'.bases q) here
        (subst (λ x. changed e.timer x e.event (w.bases (w.timers e.timer).base) ≡ w'.bases (w.timers e.timer).base) same_timer put))

    bases_else : (b : ℕ) → b ≢ h.base → w'.bases b ≡ w.bases b
    bases_else b apart = ap (λ (x : System). x.bases b) followed ∙ base_else w e b (λ q. apart (q ∙ here))

    standings : (b : ℕ) → (w'.bases b).standing ≡ (w.bases b).standing
    standings b = ap (λ (x : System). (x.bases b).standing) followed ∙ standing_same w e b

    within_all : e.timer < length o.timers + o.bases
    within_all = omega (arith, may.allowed.within)

    -- what holds of the timer, as the pass has seen it, and of all others, holds of each
    each : (P : ℕ → Timer → Timer → Type 0) → P e.timer t (after t e.event) → ((k : ℕ) → k ≢ e.timer → P k (w.timers k) (w.timers k))
        → (k : ℕ) → P k (w.timers k) (w'.timers k)
    each P own apart k = ⊎_elim
        (λ (q : k ≡ e.timer). subst (λ y. P y (w.timers y) (w'.timers y)) (sym q)
        (subst (λ x. P e.timer x (w'.timers e.timer)) (sym same_timer) (subst (λ x. P e.timer t x) (sym new_timer) own)))
        (λ n. subst (λ x. P k (w.timers k) x) (sym (timers_else k n)) (apart k n))
        (cases_eq k e.timer)

    carried : (k : ℕ) → carried_in k carry + one_if (w.timers k).moving ≡ has o (Carry k) v + one_if (w'.timers k).moving
    carried = each (λ k was is. carried_in k carry + one_if was.moving ≡ has o (Carry k) v + one_if is.moving)
        along.carry_here (λ k n. omega (arith, along.carry_else k n))

    -- the timer is the pass's own where it is on the move
    moves : (total (has o (Carry e.timer)) s.views ≡ has o (Carry e.timer) v)
    moves = ⊎_elim
        (λ m. omega (
          arith,
          total_at (has o (Carry e.timer)) s.views id v at,
          home.tokens (Carry e.timer) may.allowed.within,
          carries_one v e.timer (may.carries m),
          ap (λ (x : Timer). one_if x.moving) same_timer,
          ap one_if m,
        ))
        (λ still. omega (
          arith,
          total_at (has o (Carry e.timer)) s.views id v at,
          home.tokens (Carry e.timer) may.allowed.within,
          ap (λ (x : Timer). one_if x.moving) same_timer,
          ap one_if still,
        ))
        (cases_Bool t.moving)

    pub enters_home : RowHolds o (log ++ entries.Timer e ∷ []) record {
      words = slice_set s.words (word_at o.bases e.timer) (number_of (after t e.event));
      homes = s.homes;
      views = slice_set s.views id v';
    }
    enters_home = added o log s home id v h at live may.held (entries.Timer e) e.timer (t.stamp + 1) (number_of (after t e.event))
        (changed e.timer t e.event h.content) claims carry within_all
        (steps_push o.bases n (first_system o.timers) log (entries.Timer e) home.allowed ok) new_base bases_else
        (λ k r. each (λ k was is. Goes o log s home id v h at live may.held (entries.Timer e) e.timer (t.stamp + 1) (number_of (after t e.event))
        (changed e.timer t e.event h.content) claims carry within_all k was.stamp is.stamp (number_of was) (number_of is))
        (inl (refl, refl, (stamp-after t e.event).0, refl)) (λ k n. inr (n, refl, refl)) k)
        (λ b r. inr ((λ q. omega (arith, q, may.allowed.within)), ap (λ (x : Standing). x.stamp) (standings b), ap standing_number (standings b)))
        (λ k g b. each (λ k was is. count (is_base_claim k g b) claims + one_if (runs g b was) ≡ has o (Claim k g b) v + one_if (runs g b is))
        (along.own g b) (λ k n. omega (arith, along.apart k g b n)) k)
        carried
        (λ k. each (λ k was is. (total (has o (Carry k)) s.views ≡ has o (Carry k) v) ⊎ (is ≡ was)) (inl moves) (λ k n. inr refl) k)
        (inr (λ b. shifts_of-append b log (entries.Timer e ∷ []) ∙ append-nil (shifts_of b log)))
        (λ j. refl)

  -- the store of the timer's new word adds the entry
  pub enters : (slots : ℕ) (slot : List (ℕ × Option BaseContent)) → GoAlong t e v claims carry
      → Allows (HasOneHistory o) slots id (v, slot) (word_at o.bases e.timer) (λ _. number_of (after t e.event))
      (λ _. EnteredTimer o h e claims carry (v, slot))
  enters slots slot along s (log, home) many at small =
      let v' : BaseView BaseContent = having_entered log e t h claims carry v in
      let next = enters_home log s home at along in (
        v',
        keeps,
        tt,
        (log ++ entries.Timer e ∷ [], next),
        record {
          before = log;
          seen = (home.each_view id v at).seen;
          shifts = λ name b. sym ((home.each_view id v at).first live name b);
          base = sym (holds log s home at along).whole;
          own = same_own (first_system o.timers) e.timer v.seen log (home.each_view id v at).seen (same_timer log s home at along);
          rest = refl;
          knows = knows_of o _ id v' next (set_there s.views id v v' at) live;
        },
      )

-- the same as it is told to a seat, of a row of the seat's opening
pub enters_by : (o : Opening) (id : ℕ) (v : BaseView BaseContent) (h : HeldContent BaseContent) (timer : ℕ) (event : Event)
    → v.opening ≡ o → v.id.live ≡ true → MayEnter o v h (entry_in o v timer event) → OwnNeeds v timer (timer_seen o v timer) event
    → (slots : ℕ) (slot : List (ℕ × Option BaseContent)) → let stamp = number_of (after (timer_seen o v timer) event) in
    Allows (HasOneHistory o) slots id (v, slot) (word_at o.bases timer) (λ _. stamp)
    (λ _. EntersBy event (step slots (word_at o.bases timer) stamp 0 none) (v, slot))
enters_by o id v h timer event opening live may own slots slot s kept many at small =
    let t = timer_seen o v timer in
    let along = go_along v timer t event (reply_to t event) may.allowed.needs own may.carries in
    let r = enters o id v h (entry_in o v timer event) (claims_with_event timer t event v.claims) (carry_after timer t event v.carry) live may
    slots slot along s kept many at small in (
      r.0,
      r.1,
      r.2,
      r.3,
      λ g k held at_word.
          let same_timer : timer ≡ k = omega (arith, at_word, ap (λ (q : Opening). q.bases) opening) in
          let me : SeatState = (v, slot) in
          let new : SeatState = (r.0, carried_after slot r.1) in
          subst (λ (q : Opening). EntersAs q g k event me new) (sym opening)
          (subst (λ x. EntersAs o x k event me new) (some_same h g (sym may.held ∙ held))
          (subst (λ x. EntersAs o h x event me new) same_timer r.4)),
    )
