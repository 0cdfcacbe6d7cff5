-- What the first pair of a base's queue says of all timers.
use Rattle.std.proofs.Common.{◌≡◌, ℕ, List, [], ◌∷◌, Some, None, Bool, true, false, length, refl, sym, ◌∙◌, subst, ⊎_elim, nat_eq, if◌then◌else◌}
use Rattle.std.proofs.lemmas.Bool.{and_parts, cases_lt, false≢true}
use Rattle.ktime.specs.declared.clock_id.ClockId.{ClockId}
use Rattle.timer_queue.specs.Pairs.{first_of}
use Rattle.seq_timer.specs.Contents.{front_on, half_of}
use Rattle.seq_timer.specs.Halves.{IsQueueOf, queue_of}
use Rattle.seq_timer.specs.Steps.{Timer}
use Rattle.seq_timer.specs.Systems.{BaseContent}
use Rattle.seq_timer.specs.Tables.{in_context, is_armed_on, is_kept_on, no_timer, rank, seen_in}
use Rattle.seq_timer.specs.declared.context.Context.{Context}
use Rattle.seq_timer.specs.declared.context.Context.TheVariants as contexts
use Rattle.seq_timer.proofs.Agreement.{agrees}
use Rattle.seq_timer.proofs.Contents.{seen_armed}
use Rattle.seq_timer.proofs.Due.{leads_of}
use Rattle.seq_timer.proofs.Firsts.{armed_context}
use Rattle.base_row.specs.declared.view.BaseView.{BaseView}
use Rattle.base_row.specs.declared.view.Opening.{Opening}
use Rattle.base_row.specs.Calls.{AreFresh, base_seen, known_of, timer_seen}
use Rattle.base_row.specs.Plays.{KnowsBases}
use Rattle.base_row.proofs.Placed.{none_past}
use Rattle.hr_timers.specs.Once.{LeadsOn}

not_kept : (kept : Bool) (expires : ℕ) → None ≡ (if kept then Some expires else None) → kept ≡ false
not_kept true expires is = absurd (cc)
not_kept false expires is = refl

off : (x : Context) (base : ℕ) → is_armed_on base (seen_in x no_timer) ≡ false
off contexts.Hard base = refl
off contexts.Soft base = refl

module _ (o : Opening) (w : BaseView BaseContent) (fresh : AreFresh o.timers) (knows : KnowsBases o w) (x : Context) (base : ℕ) (clock : ClockId) where
  queue_seen : IsQueueOf (in_context x (timer_seen o w)) base clock (queue_of (half_of x (base_seen o w base).content) clock)
  queue_seen = (((agrees o.bases o.timers w.seen fresh.each knows.allowed).contents base).each x).queues clock

  pub leads_on : (p : ℕ × ℕ) → front_on x clock (base_seen o w base).content ≡ Some p → LeadsOn o (known_of w) x base clock p.1 p.0
  leads_on p is =
      let t = in_context x (timer_seen o w) p.1 in
      let leads = leads_of (in_context x (timer_seen o w)) base clock (queue_of (half_of x (base_seen o w base).content) clock) p queue_seen is in
      let armed = (and_parts (is_armed_on base t) (nat_eq (rank t.clock) (rank clock)) leads.0.kept).0 in
      record {
        first = is;
        leads = leads.0;
        within = ⊎_elim (λ inside. inside)
            (λ past. absurd (false≢true (sym (off x base) ∙ subst (λ (y : Timer). is_armed_on base (seen_in x y) ≡ true) (none_past o w fresh knows p.1 past) armed)))
            (cases_lt p.1 (length o.timers));
        context = armed_context x base (timer_seen o w p.1) armed;
        expires_at = subst (λ (y : Timer). p.0 ≡ y.expires) (sym (seen_armed x base (timer_seen o w p.1) armed)) (sym leads.1);
      }

  pub none_on : front_on x clock (base_seen o w base).content ≡ None → (t : ℕ) → is_kept_on base clock (in_context x (timer_seen o w) t) ≡ false
  none_on is t = by (queue_of (half_of x (base_seen o w base).content) clock) queue_seen is
    where
      by : (queue : List (ℕ × ℕ)) → IsQueueOf (in_context x (timer_seen o w)) base clock queue → first_of queue ≡ None
          → is_kept_on base clock (in_context x (timer_seen o w) t) ≡ false
      by [] here none = not_kept (is_kept_on base clock (in_context x (timer_seen o w) t)) _ (here.exact t)
      by (q ∷ qs) here none = absurd (cc)
