-- A claim of the timer that is the next of its context to expire on a held base.
use Rattle.std.proofs.Common.{◌≡◌, ℕ, ◌<◌, length, refl, sym, ◌∙◌, subst, true, false, arith, ⊎_elim}
use Rattle.std.specs.Prelude.{Some, None, is_some}
use Rattle.std.proofs.lemmas.Bool.{cases_lt, true≢false}
use Rattle.std.proofs.lemmas.Bool.Decides.{nat_tests}
use Rattle.ktime.specs.Readings.{ClockReading}
use Rattle.pass_names.specs.Counts.{count}
use Rattle.seq_timer.specs.declared.context.Context.{Context}
use Rattle.seq_timer.specs.declared.event.EventBy.TheVariants as events
use Rattle.seq_timer.specs.Steps.{Timer, Needs}
use Rattle.seq_timer.specs.Tables.{IsNextDue, in_context, is_due_on, runs_on, seen_in}
use Rattle.seq_timer.specs.Contents.{running_in}
use Rattle.seq_timer.specs.Systems.{BaseContent, FitsBase, IsOn, next_on}
use Rattle.seq_timer.proofs.Contents.{seen_own}
use Rattle.base_row.specs.declared.view.HeldContent.{HeldContent}
use Rattle.base_row.specs.declared.view.Opening.{Opening}
use Rattle.base_row.specs.declared.view.BaseView.{BaseView}
use Rattle.base_row.specs.Rules.{is_base_claim, runs}
use Rattle.base_row.specs.Plays.{KnowsBases}
use Rattle.base_row.specs.Calls.{MayAppend, base_seen, timer_seen}

needs_claim : (t : Timer) (base : ℕ) (reading : ClockReading) → is_due_on base reading t ≡ true → runs_on base t ≡ false → Needs t (events.Claim base reading)
needs_claim t base reading due idle =
    (grind (arith, nat_tests), grind (arith, nat_tests), grind (arith, nat_tests), grind (arith, nat_tests), grind (arith, nat_tests))

module _ (o : Opening) (v : BaseView BaseContent) (knows : KnowsBases o v) (h : HeldContent BaseContent) (x : Context)
    (timer : ℕ) (reading : ClockReading) (held : v.held ≡ Some h) (within : timer < length o.timers)
    (free : running_in x h.content.content ≡ None) (own : (timer_seen o v timer).declared.context ≡ x)
    (idle : (t : ℕ) → runs_on h.base (in_context x (timer_seen o v) t) ≡ false)
    (next : IsNextDue (in_context x (timer_seen o v)) h.base reading timer)
    (first : next_on x (base_seen o v h.base) reading ≡ Some ((timer_seen o v timer).expires, timer)) where
  same : in_context x (timer_seen o v) timer ≡ timer_seen o v timer
  same = subst (λ y. seen_in y (timer_seen o v timer) ≡ timer_seen o v timer) own (seen_own (timer_seen o v timer))

  pub claim_needs : Needs (timer_seen o v timer) (events.Claim h.base reading)
  claim_needs = needs_claim (timer_seen o v timer) h.base reading (subst (λ (t : Timer). is_due_on h.base reading t ≡ true) same next.due)
      (subst (λ (t : Timer). runs_on h.base t ≡ false) same (idle timer))

  fits_here : FitsBase o.bases (base_seen o v h.base) timer (timer_seen o v timer) (events.Claim h.base reading)
  fits_here = record {
    needs = subst (λ y. (running_in y (base_seen o v h.base).content ≡ None)
        × (next_on y (base_seen o v h.base) reading ≡ Some ((timer_seen o v timer).expires, timer))) (sym own)
        (subst (λ (b : BaseContent). running_in x b.content ≡ None) (knows.held h held).1.0 free, first);
    online = λ is. absurd (true≢false (sym is));
    heir = λ moves. tt;
  }

  pub may_claim : MayAppend o v h timer (events.Claim h.base reading)
  may_claim = record {
    may = record {
      held = held;
      allowed = record {
        within = within;
        needs = claim_needs;
        reply = refl;
        base = subst (λ b. FitsBase o.bases (base_seen o v b) timer (timer_seen o v timer) (events.Claim h.base reading)) claim_needs.1 fits_here;
      };
      base = sym claim_needs.1;
      carries = λ moves. absurd (true≢false (sym moves ∙ claim_needs.3));
    };
    own = tt;
  }

  pub claim_on : IsOn h.base (timer_seen o v timer)
  claim_on = record { at = sym claim_needs.1; still = claim_needs.3 }

  -- the pass has no claim of the timer yet
  pub claim_fresh : (g : ℕ) → count (is_base_claim timer g h.base) v.claims ≡ 0
  claim_fresh g = ⊎_elim
      (λ some. absurd (not_running (timer_seen o v timer) claim_needs.2 (knows.claims timer g h.base within some)))
      (λ none. omega (arith, none))
      (cases_lt 0 (count (is_base_claim timer g h.base) v.claims))
    where
      not_running : (t : Timer) → is_some t.running ≡ false → runs g h.base t ≡ true → ⊥
      not_running t none is = grind (arith, nat_tests)
