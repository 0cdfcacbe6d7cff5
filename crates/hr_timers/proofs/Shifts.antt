-- What a pass has seen of bases.
use Rattle.std.proofs.Common.{◌≡◌, ◌+◌, ℕ, List, [], ◌∷◌, ◌++◌, length, refl, ap, sym, ◌∙◌, ◌<◌, subst, arith, true, false}
use Rattle.seq_timer.specs.declared.standing.BaseEvent.{BaseEvent}
use Rattle.seq_timer.specs.declared.standing.BaseEvent.TheVariants as turns
use Rattle.seq_timer.specs.declared.standing.Standing.{Standing}
use Rattle.seq_timer.specs.Standings.{first_standing, standing_after, standing_after_all}
use Rattle.seq_timer.specs.Systems.{BaseContent, first_system, shifts_of}
use Rattle.seq_timer.proofs.Systems.{after_entries-shifts_of}
use Rattle.base_row.specs.declared.view.Opening.{Opening}
use Rattle.base_row.specs.declared.view.BaseView.{BaseView}
use Rattle.base_row.specs.Calls as rows
use Rattle.seq_timer.specs.Steps.{Timer, opening}
use Rattle.seq_timer.specs.Tables.{no_declared, no_timer}
use Rattle.seq_timer.specs.declared.context.Declared.{Declared}
use Rattle.seq_timer.specs.declared.context.Terms.{Terms}
use Rattle.hr_timers.specs.Known.{IsEvacuable}
use Rattle.std.specs.Prelude.{IsSome, Option, Some, None, is_some}
use Rattle.std.proofs.lemmas.Bool.{true≢false}
use Rattle.hr_timers.specs.Ways.{standing_then}
use Rattle.std.proofs.lemmas.List.{get_or-map, length-map}

pub standing_own : (o : Opening) (v : BaseView BaseContent) (b : ℕ) → (rows.base_seen o v b).standing ≡ standing_after_all first_standing (shifts_of b v.seen)
standing_own o v b = after_entries-shifts_of (first_system o.timers) b v.seen

-- a base of which nothing more was seen stands as it did
pub standing_kept : (o : Opening) (v w : BaseView BaseContent) (b : ℕ) → shifts_of b w.seen ≡ shifts_of b v.seen
    → (rows.base_seen o w b).standing ≡ (rows.base_seen o v b).standing
standing_kept o v w b same = standing_own o w b ∙ (ap (standing_after_all first_standing) same ∙ sym (standing_own o v b))

pub standing-push : (s : Standing) (es : List BaseEvent) (e : BaseEvent) → standing_after_all s (es ++ e ∷ []) ≡ standing_after (standing_after_all s es) e
standing-push s [] e = refl
standing-push s (x ∷ xs) e = standing-push (standing_after s x) xs e

stamp_one : (s : Standing) (e : BaseEvent) → (standing_after s e).stamp ≡ s.stamp + 1
stamp_one s (turns.Offline heir) = refl
stamp_one s turns.Online = refl

stamp_all : (s : Standing) (es : List BaseEvent) → (standing_after_all s es).stamp ≡ s.stamp + length es
stamp_all s [] = omega arith
stamp_all s (e ∷ es) = omega (arith, stamp_all (standing_after s e) es, stamp_one s e)

-- a base's stamp counts its entries
pub stamp_shifts : (o : Opening) (v : BaseView BaseContent) (b : ℕ) → (rows.base_seen o v b).standing.stamp ≡ length (shifts_of b v.seen)
stamp_shifts o v b = omega (arith, ap (λ (s : Standing). s.stamp) (standing_own o v b), stamp_all first_standing (shifts_of b v.seen))

-- so it is off line or on line as a later look has found it
pub off_before : (o : Opening) (v w : BaseView BaseContent) (b : ℕ) (s : Standing) → s ≡ (rows.base_seen o w b).standing
    → shifts_of b w.seen ≡ shifts_of b v.seen → is_some s.heir ≡ true → IsSome (standing_then o v.seen b).heir
off_before o v w b s is same off = subst (λ (x : Standing). IsSome x.heir) (is ∙ standing_kept o v w b same) off

pub on_before : (o : Opening) (v w : BaseView BaseContent) (b : ℕ) (s : Standing) → s ≡ (rows.base_seen o w b).standing
    → shifts_of b w.seen ≡ shifts_of b v.seen → is_some s.heir ≡ false → (standing_then o v.seen b).heir ≡ None
on_before o v w b s is same on = subst (λ (x : Standing). x.heir ≡ None) (is ∙ standing_kept o v w b same) (no_heir s.heir on)
  where
    no_heir : (r : Option ℕ) → is_some r ≡ false → r ≡ None
    no_heir None e = refl
    no_heir (Some heir) e = absurd (true≢false e)

-- ---- reach

-- timers on terms with a reach have one
pub evacuable_on : (bases : ℕ) (list : List Declared) (terms : Terms) → 0 < terms.reach → IsEvacuable (rows.opening_of bases list terms)
evacuable_on bases list terms reach t inside = subst (λ (x : Timer). 0 < x.terms.reach)
    (sym (get_or-map (λ d. opening d terms) list t no_declared no_timer (omega (arith, inside, length-map list (λ d. opening d terms))))) reach
