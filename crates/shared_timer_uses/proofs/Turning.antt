-- What a run of one function comes to.
use Rattle.std.proofs.Common.{◌≡◌, ℕ, ◌+◌, zero, suc, List, [], ◌∷◌, ◌++◌, ◌<◌, length, refl, ap, sym, ◌∙◌, subst, arith}
use Rattle.std.specs.Prelude.{Option, Some, None, IfSome}
use Rattle.ktime.specs.Readings.{ClockReading}
use Rattle.pass_names.proofs.Passes.{begins_trans}
use Rattle.seq_timer.specs.declared.context.Context.TheVariants as contexts
use Rattle.seq_timer.specs.declared.event.EventBy.TheVariants as events
use Rattle.seq_timer.specs.declared.event.Moved.{Moved}
use Rattle.seq_timer.specs.declared.event.Reply.TheVariants as replies
use Rattle.seq_timer.specs.declared.system.SystemEntry.{SystemEntry}
use Rattle.seq_timer.specs.Steps.{Timer, moved_by, restarted_by}
use Rattle.seq_timer.specs.Systems.{AreSystemSteps, first_system}
use Rattle.seq_timer.specs.Tables.{IsNextDue, in_context}
use Rattle.base_row.specs.declared.view.Opening.{Opening}
use Rattle.hr_timers.specs.Known.{KnownOfTimers, timer_then}
use Rattle.hr_timers.specs.declared.expiry.ExpireAnswer.{ExpireAnswer}
use Rattle.hr_timers.specs.declared.expiry.ExpireAnswer.TheVariants as expiries
use Rattle.base_row.specs.declared.log.Noted.TheVariants as noteds
use Rattle.base_row.specs.declared.log.Receipt.{Receipt}
use Rattle.hr_timers.specs.Expiring.{Expires, Turn, Turns}
use Rattle.hr_timers.specs.Handlers.{Meaning, asks}
use Rattle.hr_timers.proofs.Standing.{forward_same}
use Rattle.shared_timer_uses.specs.declared.once.OneShot.{OneShot}
use Rattle.shared_timer_uses.specs.declared.periodic.Periodic.{Periodic}
use Rattle.shared_timer_uses.specs.declared.periodic.Tick.{Tick}
use Rattle.shared_timer_uses.specs.Callers.{RanOnce, Ticked, known_timer}
use Rattle.shared_timer_uses.specs.Handlers.{ForwardsBy, one_shot, periodic}
use Rattle.hr_timers.proofs.Moments.{timer_after}
use Rattle.shared_timer_uses.proofs.Knowing.{reply_made}

module _ {A : Type 0} (m : Meaning A) (o : Opening) (base : ℕ) (reading : ClockReading) (k k' : KnownOfTimers) (h h' : A) (log log' : List Receipt) where
  one_turn : (n : ℕ) → n ≡ 1 → Turns m o contexts.Hard base reading n k h log k' h' log' → Turn m o contexts.Hard base reading k h log k' h' log'
  one_turn zero e turns = absurd (omega (arith, e))
  one_turn (suc zero) e turns =
      let first = turns.3 in
      subst (λ (x : KnownOfTimers). Turn m o contexts.Hard base reading x h log k' h' log') first.0
      (subst (λ (x : A). Turn m o contexts.Hard base reading turns.0 x log k' h' log') first.1
      (subst (λ (x : List Receipt). Turn m o contexts.Hard base reading turns.0 turns.1 x k' h' log') first.2 turns.4))
  one_turn (suc (suc n)) e turns = absurd (omega (arith, e))

  no_turn : (n : ℕ) → n < 1 → Turns m o contexts.Hard base reading n k h log k' h' log' → h' ≡ h
  no_turn zero e turns = turns.1
  no_turn (suc n) e turns = absurd (omega (arith, e))

-- what holds of a run of at most one function: it holds of its turn, or the handler is as before
by_one : {A : Type 0} (m : Meaning A) (o : Opening) (base : ℕ) (reading : ClockReading) (k k' : KnownOfTimers) (h h' : A) (log log' : List Receipt)
    (P : A → Type 0) → P h → (Turn m o contexts.Hard base reading k h log k' h' log' → P h') → (a : ExpireAnswer)
    → Expires m o contexts.Hard base reading 1 k h log k' h' log' a → P h'
by_one m o base reading k k' h h' log log' P none turn (expiries.More fired) is =
    turn (one_turn m o base reading k k' h h' log log' fired is.0 is.1)
by_one m o base reading k k' h h' log log' P none turn (expiries.Done fired) is =
    subst P (sym (no_turn m o base reading k is.1.0 h h' log log' fired is.0 is.1.1)) none
by_one m o base reading k k' h h' log log' P none turn (expiries.BaseBusy fired t g) is =
    subst P (sym (no_turn m o base reading k is.1.0 h h' log log' fired is.0 is.1.1)) none

module _ (o : Opening) (base : ℕ) (reading : ClockReading) (k k' : KnownOfTimers) (log log' : List Receipt) where
  ran_turn : (h h' : OneShot) → Turn one_shot o contexts.Hard base reading k h log k' h' log' → IfSome h'.ran (λ t. RanOnce o base reading k k' t log log')
  ran_turn h h' turn =
      let c = turn.claim in
      let f = turn.ran.finishes in
      let did = turn.ran.did in
      let t = timer_then o f.at c.timer in
      subst (λ r. IfSome r (λ t. RanOnce o base reading k k' t log log')) (sym did.0) (record {
        at = turn.claims.at;
        from = turn.claims.made.from;
        seen = begins_trans turn.claims.made.seen (begins_trans turn.ran.keeps.seen (begins_trans f.made.from f.made.seen));
        context = turn.claims.context;
        next = turn.claims.next;
        ended = ap (λ (x : Timer). x.running) (timer_after o turn.ran.done k' c.timer f.at _ f.made);
        generation = c.generation;
        armed = turn.claims.armed;
        claim = c.number;
        finish = t.stamp + 1;
        receipts = turn.receipts ∙ (λ i. log
            ++ record { timer = c.timer; number = c.number; event = events.Claim (turn.claims.there i) reading; reply = noteds.Entry (replies.Claim c.generation) }
            ∷ record {
              timer = c.timer;
              number = t.stamp + 1;
              event = events.Finish (asks (did.2 i));
              reply = noteds.Entry (replies.Finish c.generation (restarted_by t (asks (did.2 i))));
            } ∷ []);
      })

  pub ran_once : (h' : OneShot) (a : ExpireAnswer) → Expires one_shot o contexts.Hard base reading 1 k (record { ran = None }) log k' h' log' a
      → IfSome h'.ran (λ t. RanOnce o base reading k k' t log log')
  ran_once h' a is = by_one one_shot o base reading k k' (record { ran = None }) h' log log'
      (λ h. IfSome h.ran (λ t. RanOnce o base reading k k' t log log')) tt (ran_turn (record { ran = None }) h') a is

  module _ (interval : ℕ) (history : AreSystemSteps o.bases (length o.timers) (first_system o.timers) k'.seen) where
    ticked_turn : (h h' : Periodic) → h.interval ≡ interval → (turn : Turn periodic o contexts.Hard base reading k h log k' h' log') → (t : Option Tick)
        → ForwardsBy h.interval t turn.claimed turn.ran.done turn.claim reading turn.ran.restart
        → IfSome t (λ tick. Ticked o base reading interval k k' tick)
    ticked_turn h h' by turn None did = tt
    ticked_turn h h' by turn (Some tick) did =
        let c = turn.claim in
        let f = turn.ran.finishes in
        let at : List SystemEntry = did.2.0 in
        let made = did.2.1 in
        let after = begins_trans f.made.from f.made.seen in
        let here : tick.timer ≡ c.timer = did.1 in
        let is = forward_same _ _ (reply_made o turn.claimed turn.ran.done c.timer at k'.seen _ made after history) in
        let moves : tick.moved ≡ moved_by (timer_then o at tick.timer) reading interval = rw (here, ← by) is in
        record {
          at = turn.claims.at;
          from = turn.claims.made.from;
          context = subst (λ t. (timer_then o turn.claims.at t).declared.context ≡ contexts.Hard) (sym here) turn.claims.context;
          next = subst (λ t. IsNextDue (in_context contexts.Hard (timer_then o turn.claims.at)) base reading t) (sym here) turn.claims.next;
          late = at;
          goes_on = begins_trans turn.claims.made.seen made.from;
          seen = begins_trans made.seen after;
          count = ap (λ (x : Moved). x.count) moves;
          moved = moves;
          expires = ap (λ (x : Moved). x.expires) moves;
          ended = subst (λ t. (known_timer o k' t).running ≡ None) (sym here)
              (ap (λ (x : Timer). x.running) (timer_after o turn.ran.done k' c.timer f.at _ f.made));
        }

    pub ticked : (h' : Periodic) (a : ExpireAnswer)
        → Expires periodic o contexts.Hard base reading 1 k (record { interval = interval; tick = None }) log k' h' log' a
        → IfSome h'.tick (λ tick. Ticked o base reading interval k k' tick)
    ticked h' a is = by_one periodic o base reading k k' (record { interval = interval; tick = None }) h' log log'
        (λ h. IfSome h.tick (λ tick. Ticked o base reading interval k k' tick)) tt
        (λ turn. ticked_turn (record { interval = interval; tick = None }) h' refl turn h'.tick turn.ran.did.1) a is
