-- What a pass has seen is a history of timers as they were declared; so each of them is bounded.
use Rattle.std.proofs.Common.{◌≡◌, ℕ, ◌+◌, ◌<◌, ◌≤◌, zero, suc, true, false, List, [], ◌∷◌, length, arith, refl, sym, subst}
use Rattle.std.specs.Prelude.{Bool, Option, Some, unwrap_or, if◌then◌else◌}
use Rattle.std.proofs.lemmas.Bool.Decides.{nat_tests}
use Rattle.std.proofs.lemmas.List.{length-map}
use Rattle.ktime.specs.Times.{last_time}
use Rattle.seq_timer.specs.declared.context.Declared.{Declared}
use Rattle.seq_timer.specs.declared.context.Terms.{Terms}
use Rattle.seq_timer.specs.declared.event.EventBy.TheVariants as events
use Rattle.seq_timer.specs.declared.system.SystemEntry.{SystemEntry}
use Rattle.seq_timer.specs.Events.{Event}
use Rattle.seq_timer.specs.Histories as seq
use Rattle.seq_timer.specs.Steps.{HasRoom, IsBounded, Needs, Timer, after, arms_again, limited, opening}
use Rattle.seq_timer.specs.Systems.{AreSystemSteps, entries_of, first_system, openings}
use Rattle.seq_timer.specs.Tables.{no_declared, runs_on, timer_at}
use Rattle.seq_timer.proofs.Agreement.{one_runs, parts, soft_within}
use Rattle.seq_timer.proofs.Effects.{by_effect}
use Rattle.base_row.specs.declared.view.Opening.{Opening}
use Rattle.base_row.specs.Calls.{AreFresh}
use Rattle.hr_timers.specs.Known.{IsDeclaredHistory, timer_then}
use Rattle.hr_timers.proofs.Moments.{timer_own}

pub history_of : (o : Opening) (x : List SystemEntry) → AreFresh o.timers → AreSystemSteps o.bases (length o.timers) (first_system o.timers) x
    → IsDeclaredHistory o x
history_of o x fresh all =
    let list = fresh.opened.0 in
    let terms = fresh.opened.1 in
    let is = fresh.opened.4 in
    record {
      declareds = list;
      terms = terms;
      opened = is;
      history = subst (λ n. AreSystemSteps o.bases n (first_system (openings list terms)) x) (length-map list (λ d. opening d terms))
          (subst (λ ts. AreSystemSteps o.bases (length ts) (first_system ts) x) is all);
    }

module _ (o : Opening) (x : List SystemEntry) (is : IsDeclaredHistory o x) where
  pub soft_then : (t : ℕ) → (timer_then o x t).soft ≤ (timer_then o x t).expires
  soft_then t = subst (λ ts. (timer_then (record o { timers = ts }) x t).soft ≤ (timer_then (record o { timers = ts }) x t).expires) (sym is.opened)
      (soft_within is.terms is.declareds x t)

  pub one_then : (base t u : ℕ) → runs_on base (timer_then o x t) ≡ true → runs_on base (timer_then o x u) ≡ true
      → (timer_then o x t).declared.context ≡ (timer_then o x u).declared.context → t ≡ u
  one_then base t u = subst (λ ts. runs_on base (timer_then (record o { timers = ts }) x t) ≡ true
      → runs_on base (timer_then (record o { timers = ts }) x u) ≡ true
      → (timer_then (record o { timers = ts }) x t).declared.context ≡ (timer_then (record o { timers = ts }) x u).declared.context → t ≡ u) (sym is.opened)
      (one_runs o.bases is.terms is.declareds x is.history base t u)

-- ---- each timer is bounded

expires_after : (t : Timer) (e : Event) → t.expires ≤ last_time → (after t e).expires ≤ last_time
expires_after t (events.Out base) within = within
expires_after t (events.Start asked) within = grind (arith, nat_tests)
expires_after t events.Cancel within = within
expires_after t (events.Claim base reading) within = within
expires_after t (events.Forward reading interval) within = grind (arith, nat_tests)
expires_after t (events.Finish restart) within = within

less_more : {n m : ℕ} → n ≤ m → n ≤ m + 1
less_more less = omega (arith, less)

-- the generation that a finish leaves armed
finish_arms : (b : Bool) (armed : Option ℕ) (n : ℕ) → unwrap_or armed 0 ≤ n → unwrap_or (if b then Some (n + 1) else armed) 0 ≤ n + 1
finish_arms true armed n within = omega arith
finish_arms false armed n within = less_more within

armed_after : (t : Timer) (e : Event) → unwrap_or t.armed 0 ≤ t.stamp → unwrap_or (after t e).armed 0 ≤ (after t e).stamp
armed_after t (events.Out base) within = omega arith
armed_after t (events.Start asked) within = omega arith
armed_after t events.Cancel within = omega arith
armed_after t (events.Claim base reading) within = omega arith
armed_after t (events.Forward reading interval) within = less_more within
armed_after t (events.Finish restart) within = finish_arms (arms_again t restart) t.armed t.stamp within

running_after : (t : Timer) (e : Event) → unwrap_or t.armed 0 ≤ t.stamp → unwrap_or t.running 0 ≤ t.stamp
    → unwrap_or (after t e).running 0 ≤ (after t e).stamp
running_after t (events.Out base) armed within = less_more within
running_after t (events.Start asked) armed within = less_more within
running_after t events.Cancel armed within = less_more within
running_after t (events.Claim base reading) armed within = less_more armed
running_after t (events.Forward reading interval) armed within = less_more within
running_after t (events.Finish restart) armed within = omega arith

bounded_after : (t : Timer) (e : Event) → Needs t e → IsBounded t → IsBounded (after t e)
bounded_after t e needs b =
    let same = (by_effect t e).terms in
    let left = ((by_effect t e).needs needs).left (record { few = b.stamp; apart = b.apart }) in
    record {
      room = subst HasRoom (sym same) b.room;
      some = subst (λ k. 0 < k.limit) (sym same) b.some;
      stamp = left.few;
      expires = expires_after t e b.expires;
      soft = (by_effect t e).soft b.soft;
      armed = armed_after t e b.armed;
      running = running_after t e b.armed b.running;
      apart = left.apart;
    }

bounded_all : (t : Timer) (history : List seq.Entry) → seq.AreSteps t history → IsBounded t → IsBounded (seq.after_all t history)
bounded_all t [] steps b = b
bounded_all t (e ∷ es) steps b = bounded_all (after t e.event) es steps.2 (bounded_after t e.event steps.0 b)

opening_bounded : (declared : Declared) (terms : Terms) → 0 < terms.limit → HasRoom terms → IsBounded (opening declared terms)
opening_bounded declared terms some room = record {
  room = room;
  some = some;
  stamp = grind (arith, nat_tests);
  expires = omega arith;
  soft = omega arith;
  armed = omega arith;
  running = omega arith;
  apart = refl;
}

first_bounded : (list : List Declared) (terms : Terms) → 0 < terms.limit → HasRoom terms → (t : ℕ) → IsBounded (timer_at (openings list terms) t)
first_bounded [] terms some room t =
    opening_bounded no_declared (limited 1) (omega arith) (record { few = omega arith; far = λ reach. omega (arith, reach) })
first_bounded (declared ∷ rest) terms some room zero = opening_bounded declared terms some room
first_bounded (declared ∷ rest) terms some room (suc t) = first_bounded rest terms some room t

pub bounded_then : (o : Opening) (x : List SystemEntry) → AreFresh o.timers → AreSystemSteps o.bases (length o.timers) (first_system o.timers) x → (t : ℕ)
    → IsBounded (timer_then o x t)
bounded_then o x fresh all t = subst IsBounded (sym (timer_own o x t))
    (bounded_all (timer_at o.timers t) (entries_of t x) (parts o.bases (length o.timers) (first_system o.timers) x all t)
    (subst (λ ts. IsBounded (timer_at ts t)) (sym fresh.opened.4)
    (first_bounded fresh.opened.0 fresh.opened.1 fresh.opened.2 fresh.opened.3 t)))
