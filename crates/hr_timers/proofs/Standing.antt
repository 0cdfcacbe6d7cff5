-- What a claim that stands says of its timer.
use Rattle.std.proofs.Common.{◌≡◌, ℕ, ◌<◌, List, length, refl, ap, sym, ◌∙◌, subst, true, false}
use Rattle.std.specs.Prelude.{Option, Some, None, Bool}
use Rattle.std.proofs.lemmas.Bool.{eqb-true, and_parts, true≢false}
use Rattle.pass_names.specs.Counts.{count}
use Rattle.seq_timer.specs.declared.event.Moved.{Moved}
use Rattle.seq_timer.specs.declared.event.Placement.{Placement}
use Rattle.seq_timer.specs.declared.event.Restarted.{Restarted}
use Rattle.seq_timer.specs.declared.event.Reply.TheVariants as replies
use Rattle.base_row.specs.declared.view.Claimed.{Claimed}
use Rattle.base_row.specs.declared.view.Opening.{Opening}
use Rattle.base_row.specs.declared.view.BaseView.{BaseView}
use Rattle.seq_timer.specs.Systems.{BaseContent, IsOn}
use Rattle.base_row.specs.Rules.{is_base_claim, is_generation}
use Rattle.base_row.specs.Calls as rows
use Rattle.base_row.specs.Plays as plays
use Rattle.seq_timer.proofs.Agreement.{agrees}
use Rattle.base_row.proofs.Placed.{placed_seen}
use Rattle.hr_timers.specs.Known.{OnlySeesMore, OwnsClaim}
use Rattle.hr_timers.specs.declared.numbers.ClaimNumbers.{ClaimNumbers}

-- what a pass of a table knows, of that table's opening
pub knows_in : (o : Opening) (v : BaseView BaseContent) → v.opening ≡ o → plays.KnowsOwn v → plays.KnowsBases o v
knows_in o v is knows = subst (λ (q : Opening). plays.KnowsBases q v) is knows

generation_is : (g : ℕ) (r : Option ℕ) → is_generation g r ≡ true → r ≡ Some g
generation_is g None e = absurd (true≢false (sym e))
generation_is g (Some x) e = ap (λ y. Some y) (eqb-true x g e)

module _ (o : Opening) (v : BaseView BaseContent) (fresh : rows.AreFresh o.timers) (knows : plays.KnowsBases o v) (t g b : ℕ)
    (within : t < length o.timers) (stands : 0 < count (is_base_claim t g b) v.claims) where
  pub claim_runs : (rows.timer_seen o v t).running ≡ Some g
  claim_runs = generation_is g (rows.timer_seen o v t).running
      (and_parts (is_generation g (rows.timer_seen o v t).running) _ (knows.claims t g b within stands)).0

  pub claim_base : (rows.timer_seen o v t).base ≡ b
  claim_base = eqb-true (rows.timer_seen o v t).base b (and_parts (is_generation g (rows.timer_seen o v t).running) _ (knows.claims t g b within stands)).1

  pub claim_on : IsOn b (rows.timer_seen o v t)
  claim_on = record { at = claim_base; still = still (rows.timer_seen o v t).moving ((agrees o.bases o.timers v.seen fresh.each knows.allowed).apart t) }
    where
      still : (m : Bool) → (m ≡ true → ((rows.timer_seen o v t).armed ≡ None) × ((rows.timer_seen o v t).running ≡ None)) → m ≡ false
      still false apart = refl
      still true apart = absurd (none_some (sym (apart refl).1 ∙ claim_runs))
        where
          none_some : None ≡ Some g → ⊥
          none_some e = cc

  pub claim_inside : 0 < o.bases → b < o.bases
  claim_inside some = subst (λ x. x < o.bases) claim_base (placed_seen o v fresh knows some t)

-- a claim of a pass still runs after looks
pub still_runs : (o : Opening) (u v : BaseView BaseContent) (c : ClaimNumbers) → rows.AreFresh o.timers → v.opening ≡ o → plays.KnowsOwn v
    → 0 < o.bases → OnlySeesMore u v → OwnsClaim o (rows.known_of u) c
    → ((rows.timer_seen o v c.timer).running ≡ Some c.generation) × IsOn c.base (rows.timer_seen o v c.timer) × (c.base < o.bases)
still_runs o u v c fresh is own some looks owns =
    let knows = knows_in o v is own in
    let stands = subst (λ (l : List Claimed). 0 < count (is_base_claim c.timer c.generation c.base) l) (sym looks.claims) owns.stands in (
      claim_runs o v fresh knows c.timer c.generation c.base owns.within stands,
      claim_on o v fresh knows c.timer c.generation c.base owns.within stands,
      claim_inside o v fresh knows c.timer c.generation c.base owns.within stands some,
    )

pub start_same : (p q : Placement) (a b : Bool) → replies.Start p a ≡ replies.Start q b → p ≡ q
start_same p q a b e = cc

pub finish_same : (g h : ℕ) (a b : Restarted) → replies.Finish g a ≡ replies.Finish h b → a ≡ b
finish_same g h a b e = cc

pub forward_same : (a b : Moved) → replies.Forward a ≡ replies.Forward b → a ≡ b
forward_same a b is = cc
