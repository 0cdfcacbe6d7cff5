-- Timers without a reach: their bases stay on line.
use Rattle.std.proofs.Common.{◌≡◌, ◌<◌, ℕ, false, true, if◌then◌else◌, inl, inr, length, refl, arith, Option, Some, None, sym, subst, ap, ◌∙◌}
use Rattle.std.proofs.lemmas.Bool.{true≢false}
use Rattle.std.specs.Prelude.{IfSome, IsNone, List}
use Rattle.std.proofs.lemmas.Bool.Decides.{nat_tests}
use Rattle.std.proofs.lemmas.List.{get_or-map, length-map}
use Rattle.seq_timer.specs.declared.context.Declared.{Declared}
use Rattle.seq_timer.specs.Steps.{Timer, may_send, opening}
use Rattle.seq_timer.specs.declared.context.Terms.{Terms}
use Rattle.seq_timer.specs.Tables.{no_declared, no_timer, timer_at}
use Rattle.seq_timer.specs.Events.{Asked}
use Rattle.seq_timer.specs.Systems.{BaseContent, IsOn}
use Rattle.seq_timer.specs.declared.event.EventBy.TheVariants.{Out, Start}
use Rattle.base_row.specs.declared.view.BaseView.{BaseView}
use Rattle.base_row.specs.declared.view.HeldContent.{HeldContent}
use Rattle.base_row.specs.declared.view.Opening.{Opening}
use Rattle.base_row.specs.Calls.{MayAppend, base_seen, opening_of, timer_seen}
use Rattle.base_row.proofs.Placed.{terms_now}
use Rattle.benches.specs.Rows.{HasNoReach}

-- a base that is off line shows that each timer has a reach
pub on_line : (o : Opening) (t : ℕ) (heir : Option ℕ) → HasNoReach o → t < length o.timers
    → IfSome heir (λ h. (u : ℕ) → u < length o.timers → 0 < (timer_at o.timers u).terms.reach) → heir ≡ None
on_line o t None near inside off = refl
on_line o t (Some h) near inside off = absurd (omega (arith, off t inside, near t inside))

-- timers that are made on terms without one
pub near_on : (bases : ℕ) (terms : Terms) (list : List Declared) → terms.reach ≡ 0 → HasNoReach (opening_of bases list terms)
near_on bases terms list none t inside = ap (λ (x : Timer). x.terms.reach)
    (get_or-map (λ d. opening d terms) list t no_declared no_timer (omega (arith, inside, length-map list (λ d. opening d terms)))) ∙ none

-- a timer that rests on a held base which is on line may be started there, below its limit
pub may_start_here : (o : Opening) (v : BaseView BaseContent) (h : HeldContent BaseContent) (t : ℕ) (asked : Asked)
    → h.content.standing.heir ≡ None → h.content ≡ base_seen o v h.base → t < length o.timers → v.held ≡ Some h
    → IsOn h.base (timer_seen o v t) → asked.base ≡ h.base → (timer_seen o v t).stamp < (timer_seen o v t).terms.limit → MayAppend o v h t (Start asked)
may_start_here o v h t asked online whole inside held on here room = record {
  may = record {
    held = held;
    allowed = record {
      within = inside;
      needs = (inr (here ∙ sym on.at), inl room);
      reply = refl;
      base = record {
        needs = tt;
        online = λ is. subst (λ q. (base_seen o v q).standing.heir ≡ None) (sym on.at)
            (subst (λ (x : BaseContent). x.standing.heir ≡ None) whole online);
        heir = λ moves. tt;
      };
    };
    base = on.at;
    carries = λ moves. absurd (true≢false (sym moves ∙ on.still));
  };
  own = tt;
}

may_go : (t : Timer) (to : ℕ) → t.terms.reach ≡ 0 → t.moving ≡ false → t.stamp < t.terms.limit → may_send t to ≡ true
may_go t to near still room = grind (arith, nat_tests)

-- one that rests there, below its limit, may be sent to another base
pub may_leave : (o : Opening) (v : BaseView BaseContent) (h : HeldContent BaseContent) (t to : ℕ) → HasNoReach o → t < length o.timers → v.held ≡ Some h
    → v.carry ≡ None → IsOn h.base (timer_seen o v t) → IsNone (timer_seen o v t).running → (to ≡ (timer_seen o v t).base → ⊥) → to < o.bases
    → (timer_seen o v t).stamp < (timer_seen o v t).terms.limit → MayAppend o v h t (Out to)
may_leave o v h t to near inside held free on idle other there room = record {
  may = record {
    held = held;
    allowed = record {
      within = inside;
      needs = (idle, other, may_go (timer_seen o v t) to (subst (λ (k : Terms). k.reach ≡ 0) (sym (terms_now o.timers v.seen t)) (near t inside)) on.still room);
      reply = refl;
      base = record { needs = there; online = λ is. absurd (true≢false (sym is)); heir = λ moves. absurd (true≢false (sym moves ∙ on.still)) };
    };
    base = on.at;
    carries = λ moves. absurd (true≢false (sym moves ∙ on.still));
  };
  own = free ∙ sym (ap (λ b. if b then Some t else None) on.still);
}
