-- Timers that differ in their terms alone: which is due, and for which clock a base is stopped, is the same for both.
use Rattle.std.proofs.Common.{◌≡◌, ℕ, Bool, true, false, refl, ap, subst, inl, inr, if◌then◌else◌}
use Rattle.ktime.specs.declared.clock_id.ClockId.{ClockId}
use Rattle.ktime.specs.Readings.{ClockReading}
use Rattle.seq_timer.specs.declared.context.Context.{Context}
use Rattle.seq_timer.specs.Steps.{Timer, limited}
use Rattle.seq_timer.specs.Tables.{IsNextDue, IsStopped, is_context, no_timer, seen_in}

-- a timer, but for its terms
abbrev pub unlimited : Timer → Timer
unlimited t = record t { terms = limited 0 }

pub seen-alike : (x : Context) (t u : Timer) → unlimited t ≡ unlimited u → unlimited (seen_in x t) ≡ unlimited (seen_in x u)
seen-alike x t u same = at (is_context x t.declared.context) (is_context x u.declared.context) (ap (λ (k : Timer). is_context x k.declared.context) same)
  where
    at : (a b : Bool) → a ≡ b → unlimited (if a then t else no_timer) ≡ unlimited (if b then u else no_timer)
    at true true e = same
    at false false e = refl
    at true false e = cc
    at false true e = cc

module _ (f g : ℕ → Timer) (same : (id : ℕ) → unlimited (f id) ≡ unlimited (g id)) (base : ℕ) (reading : ClockReading) where
  without : ◌≡◌ {A = ℕ → Timer} (λ id. unlimited (f id)) (λ id. unlimited (g id))
  without i id = same id i

  wide : (clock : ClockId) → IsStopped f base reading clock → IsStopped (λ id. unlimited (f id)) base reading clock
  wide clock (inl none) = inl none
  wide clock (inr lead) = inr (lead.0, record { kept = lead.1.kept; smaller = lead.1.smaller }, lead.2)

  narrow : (clock : ClockId) → IsStopped (λ id. unlimited (g id)) base reading clock → IsStopped g base reading clock
  narrow clock (inl none) = inl none
  narrow clock (inr lead) = inr (lead.0, record { kept = lead.1.kept; smaller = lead.1.smaller }, lead.2)

  pub stopped-alike : (clock : ClockId) → IsStopped f base reading clock → IsStopped g base reading clock
  stopped-alike clock is = narrow clock (subst (λ (k : ℕ → Timer). IsStopped k base reading clock) without (wide clock is))

  pub next_due-alike : (id : ℕ) → IsNextDue f base reading id → IsNextDue g base reading id
  next_due-alike id next =
      let here : IsNextDue (λ id. unlimited (f id)) base reading id =
      record { due = next.due; ahead = λ clock before. wide clock (next.ahead clock before); smaller = next.smaller } in
      let there = subst (λ (k : ℕ → Timer). IsNextDue k base reading id) without here in
      record { due = there.due; ahead = λ clock before. narrow clock (there.ahead clock before); smaller = there.smaller }
