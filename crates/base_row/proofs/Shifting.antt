-- One entry more, of a base that the first pass holds: the rule stays.
use Rattle.base_row.specs.Places.{word_at}
use Rattle.std.proofs.Common.{◌≡◌, ℕ, ◌+◌, ◌<◌, ◌≢◌, true, List, [], ◌∷◌, ◌++◌, length, refl, ap, sym, ◌∙◌, subst, ⊎_elim, arith, inr, inl}
use Rattle.std.specs.Prelude.{slice_set, Option}
use Rattle.std.proofs.lemmas.Bool.{cases_eq}
use mathlib.Core.Option.{some, none}
use lib.ListN.{get_elem?}
use Rattle.atomic_table.specs.Table.{State, step, carried_after, keeps, Allows}
use Rattle.pass_names.specs.Counts.{one_if}
use Rattle.pass_names.proofs.Counts.{set_there}
use Rattle.seq_timer.specs.Steps.{Timer}
use Rattle.seq_timer.specs.Tables.{timer_at}
use Rattle.seq_timer.specs.declared.context.Terms.{Terms}
use Rattle.base_row.proofs.Placed.{terms_now}
use Rattle.seq_timer.specs.declared.standing.BaseEvent.{BaseEvent}
use Rattle.seq_timer.specs.declared.standing.BaseEvent.TheVariants as shifts
use Rattle.seq_timer.specs.declared.standing.Standing.{Standing}
use Rattle.seq_timer.specs.declared.system.BaseEntry.{BaseEntry}
use Rattle.seq_timer.specs.declared.system.SystemEntry.{SystemEntry}
use Rattle.seq_timer.specs.declared.system.SystemEntry.TheVariants as entries
use Rattle.seq_timer.specs.Standings.{MayShift, first_standing, standing_after, standing_after_all}
use Rattle.seq_timer.specs.Systems.{BaseContent, HasHeirOnLine, System, first_system, after_shift, shifted, IsClear, system_after}
use Rattle.base_row.specs.declared.view.HeldContent.{HeldContent}
use Rattle.base_row.specs.declared.view.Opening.{Opening}
use Rattle.base_row.specs.declared.view.BaseView.{BaseView}
use Rattle.base_row.specs.Rules.{base_place, base_seen, standing_number, number_of, has, Claim, Carry}
use Rattle.base_row.specs.Rules.{runs, HeldHolds, RowHolds, HasOneHistory}
use Rattle.base_row.specs.Plays.{SeatState, having_shifted, MayEnterShift, EnteredShift, ShiftsBy}
use Rattle.seq_timer.proofs.Systems.{after_entries-append, after_entries-shifts_of, steps_push, base_shift, base_unshifted, standing_shifted, timers_shift}
use Rattle.base_row.proofs.Frames.{some_same}
use Rattle.base_row.proofs.Adding.{added}
use Rattle.base_row.proofs.Knowing.{knows_of}

pub stamp_after : (s : Standing) (e : BaseEvent) → (standing_after s e).stamp ≡ s.stamp + 1
stamp_after s (shifts.Offline heir) = refl
stamp_after s shifts.Online = refl

module _ (o : Opening) (id : ℕ) (v : BaseView BaseContent) (h : HeldContent BaseContent) (event : BaseEvent) (live : v.id.live ≡ true)
    (may : MayEnterShift v h event) (reach : (t : ℕ) → t < length o.timers → 0 < (timer_at o.timers t).terms.reach)
    (heir : HasHeirOnLine (base_seen o v) event) where
  abbrev c : BaseEntry
  c = record { base = h.base; event = event }

  abbrev place : ℕ
  place = base_place (length o.timers) h.base

  abbrev number : ℕ
  number = standing_number (standing_after h.content.standing event)

  module _ (log : List SystemEntry) (s : State (Option BaseContent) (BaseView BaseContent)) (home : RowHolds o log s)
      (at : get_elem? s.views id ≡ some v) where
    abbrev w : System
    w = system_after o.timers log

    abbrev w' : System
    w' = system_after o.timers (log ++ entries.Base c ∷ [])

    holds : HeldHolds o log s.words v h
    holds = (home.each_view id v at).held h may.held

    went : w' ≡ after_shift w c
    went = after_entries-append (first_system o.timers) log (entries.Base c ∷ [])

    bases_else : (b : ℕ) → b ≢ h.base → w'.bases b ≡ w.bases b
    bases_else b n = ap (λ (x : System). x.bases b) went ∙ base_unshifted w c b n

    new_base : shifted event h.content ≡ w'.bases h.base
    new_base = ap (shifted event) holds.whole ∙ sym (ap (λ (x : System). x.bases h.base) went ∙ base_shift w c)

    new_standing : (w'.bases h.base).standing ≡ standing_after h.content.standing event
    new_standing = ap (λ (x : BaseContent). x.standing) (sym new_base) ∙ standing_shifted event h.content

    timers_same : (t : ℕ) → w'.timers t ≡ w.timers t
    timers_same t = ap (λ (x : System). x.timers t) went ∙ timers_shift w c t

    -- the first pass has seen all that happened to bases
    heir_now : (e : BaseEvent) → HasHeirOnLine (base_seen o v) e → HasHeirOnLine w.bases e
    heir_now (shifts.Offline to) on =
        let shown = after_entries-shifts_of (first_system o.timers) to in
        ap (λ (x : Standing). x.heir) (shown log ∙ (ap (λ es. standing_after_all first_standing es) (sym ((home.each_view id v at).first live may.first to))
        ∙ sym (shown v.seen))) ∙ on
    heir_now shifts.Online on = tt

    place_in : place < length o.timers + o.bases
    place_in = omega (arith, holds.within)

    shifts_at : RowHolds o (log ++ entries.Base c ∷ []) record {
      words = slice_set s.words (word_at o.bases place) number;
      homes = s.homes;
      views = slice_set s.views id (having_shifted log (length o.timers) event h v);
    }
    shifts_at = added o log s home id v h at live may.held (entries.Base c) place (h.content.standing.stamp + 1) number (shifted event h.content)
        v.claims v.carry place_in
        (steps_push o.bases (length o.timers) (first_system o.timers) log (entries.Base c) home.allowed (record {
          within = holds.within;
          may = subst (λ (b : BaseContent). MayShift h.base b.standing event) holds.whole may.may;
          clear = subst (λ (b : BaseContent). IsClear b event) holds.whole may.clear;
          heir = heir_now event heir;
          reach = λ t inside. subst (λ (k : Terms). 0 < k.reach) (sym (terms_now o.timers log t)) (reach t inside);
        }))
        new_base bases_else
        (λ t r. inr ((λ q. omega arith), ap (λ (x : Timer). x.stamp) (timers_same t), ap number_of (timers_same t)))
        (λ b r. ⊎_elim
        (λ (e : b ≡ h.base). inl (
          ap (base_place (length o.timers)) e,
          ap (λ (x : BaseContent). x.standing.stamp + 1) (holds.whole ∙ ap (λ q. w.bases q) (sym e)),
          omega (
            arith,
            ap (λ q. (w'.bases q).standing.stamp) e,
            ap (λ (x : Standing). x.stamp) new_standing,
            stamp_after h.content.standing event,
            ap (λ (x : BaseContent). x.standing.stamp) (holds.whole ∙ ap (λ q. w.bases q) (sym e)),
          ),
          ap standing_number (sym new_standing ∙ ap (λ q. (w'.bases q).standing) (sym e)),
        ))
        (λ n. inr (
          (λ q. n (omega arith)),
          ap (λ (x : BaseContent). x.standing.stamp) (bases_else b n),
          ap (λ (x : BaseContent). standing_number x.standing) (bases_else b n),
        ))
        (cases_eq b h.base))
        (λ t g b. ap (λ (x : Timer). has o (Claim t g b) v + one_if (runs g b x)) (sym (timers_same t)))
        (λ t. ap (λ (x : Timer). has o (Carry t) v + one_if x.moving) (sym (timers_same t)))
        (λ t. inr (timers_same t)) (inl (live, may.first)) (λ j. refl)

  pub shifts_word : (slots : ℕ) (slot : List (ℕ × Option BaseContent))
      → Allows (HasOneHistory o) slots id (v, slot) (word_at o.bases place) (λ _. number) (λ _. EnteredShift o h event (v, slot))
  shifts_word slots slot s (log, home) many at small =
      let v' : BaseView BaseContent = having_shifted log (length o.timers) event h v in
      let next = shifts_at log s home at in (
        v',
        keeps,
        tt,
        (log ++ entries.Base c ∷ [], next),
        record {
          before = log;
          seen = (home.each_view id v at).seen;
          shifts = λ b. sym ((home.each_view id v at).first live may.first b);
          rest = refl;
          knows = knows_of o _ id v' next (set_there s.views id v v' at) live;
        },
      )

-- the same as it is told to a seat, of a row of the seat's opening
pub shifts_by : (o : Opening) (id : ℕ) (v : BaseView BaseContent) (h : HeldContent BaseContent) (event : BaseEvent) → v.opening ≡ o → v.id.live ≡ true
    → MayEnterShift v h event → (slots : ℕ) (slot : List (ℕ × Option BaseContent))
    → let word = word_at o.bases (base_place (length o.timers) h.base) in
    let stamp = standing_number (standing_after h.content.standing event) in
    Allows (HasOneHistory o) slots id (v, slot) word (λ _. stamp) (λ _. ShiftsBy event (step slots word stamp 0 none) (v, slot))
shifts_by o id v h event opening live may slots slot s kept many at small =
    let reach : (t : ℕ) → t < length o.timers → 0 < (timer_at o.timers t).terms.reach =
    subst (λ (q : Opening). (t : ℕ) → t < length q.timers → 0 < (timer_at q.timers t).terms.reach) opening may.reach in
    let heir = subst (λ (q : Opening). HasHeirOnLine (base_seen q v) event) opening may.heir in
    let r = shifts_word o id v h event live may reach heir slots slot s kept many at small in (
      r.0,
      r.1,
      r.2,
      r.3,
      λ g held.
          let me : SeatState = (v, slot) in
          let new : SeatState = (r.0, carried_after slot r.1) in
          subst (λ (q : Opening). EnteredShift q g event me new) (sym opening)
          (subst (λ x. EnteredShift o x event me new) (some_same h g (sym may.held ∙ held)) r.4),
    )
