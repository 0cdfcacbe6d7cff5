-- What a base has when it is let go, by what its last holder has then seen.
use Rattle.std.proofs.Common.{◌≡◌, ℕ, ap, sym, ◌∙◌, subst, false, arith}
use Rattle.std.specs.Prelude.{Some, None, nat_eq}
use Rattle.std.proofs.lemmas.Bool.Decides.{nat_tests}
use Rattle.ktime.specs.Readings.{ClockReading}
use Rattle.ktime.specs.declared.clock_id.ClockId.{ClockId}
use Rattle.seq_timer.specs.declared.context.Context.{Context}
use Rattle.seq_timer.specs.Tables.{IsStopped, in_context, runs_on}
use Rattle.seq_timer.specs.Halves.{generation_in, running_on}
use Rattle.seq_timer.specs.Contents.{IsContentOf, running_in}
use Rattle.base_row.specs.declared.view.HeldContent.{HeldContent}
use Rattle.base_row.specs.declared.view.Opening.{Opening}
use Rattle.base_row.specs.declared.view.BaseView.{BaseView}
use Rattle.seq_timer.specs.Systems.{BaseContent, next_on}
use Rattle.base_row.specs.Plays.{KnowsBases}
use Rattle.base_row.specs.Calls.{AreFresh, LetsGo, timer_seen}
use Rattle.base_row.proofs.Placed.{none_runs}
use Rattle.seq_timer.proofs.Agreement.{agrees}
use Rattle.seq_timer.proofs.Firsts.{next_on-none}

module _ (o : Opening) (h : HeldContent BaseContent) (v w : BaseView BaseContent) (fresh : AreFresh o.timers) (knows : KnowsBases o w)
    (free : LetsGo o h v w) where
  content : IsContentOf (timer_seen o w) h.base h.content.content
  content = subst (λ (b : BaseContent). IsContentOf (timer_seen o w) h.base b.content) free.content
      ((agrees o.bases o.timers w.seen fresh.each knows.allowed).contents h.base)

  pub left_idle : (x : Context) → running_in x h.content.content ≡ None → (t : ℕ) → runs_on h.base (in_context x (timer_seen o w) t) ≡ false
  left_idle x is t = none_runs (in_context x (timer_seen o w) t).running (nat_eq (in_context x (timer_seen o w) t).base h.base)
      (sym ((content.each x).running t) ∙ ap (generation_in t) is)

  pub left_busy : (x : Context) (t g : ℕ) → running_in x h.content.content ≡ Some (t, g) → running_on h.base (in_context x (timer_seen o w) t) ≡ Some g
  left_busy x t g is = sym ((content.each x).running t) ∙ (ap (generation_in t) is ∙ named_here)
    where
      named_here : generation_in t (Some (t, g)) ≡ Some g
      named_here = grind (arith, nat_tests)

  pub left_none : (x : Context) (reading : ClockReading) → next_on x h.content reading ≡ None → (clock : ClockId)
      → IsStopped (in_context x (timer_seen o w)) h.base reading clock
  left_none x reading is = next_on-none o.bases o.timers w.seen fresh.each knows.allowed h.base x reading
      (ap (λ b. next_on x b reading) free.content ∙ is)
