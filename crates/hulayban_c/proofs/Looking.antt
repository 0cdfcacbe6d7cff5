-- Looks at a base's queues, one after another.
use Rattle.std.proofs.Common.{◌≡◌, ℕ, ℤ, ap, sym, subst, ◌∙◌}
use Rattle.std.specs.Prelude.{MatchOption, Option, Ok, Result}
use Rattle.ktime.specs.Readings.{ClockReading}
use Rattle.ktime.specs.declared.clock_id.ClockId.{ClockId}
use Rattle.ktime.specs.declared.clock_id.ClockId.TheVariants as clocks
use Rattle.pass_names.specs.SharedHistory.{LooksOn}
use Rattle.pass_names.proofs.SharedHistory as shared
use Rattle.seq_timer.specs.declared.context.Context.{Context}
use Rattle.seq_timer.specs.declared.context.Context.TheVariants as contexts
use Rattle.base_row.specs.Calls.{BaseRowOf}
use Rattle.base_row.specs.declared.view.Opening.{Opening}
use Rattle.hr_timers.specs.Known.{PassOf}
use Rattle.hr_timers.specs.declared.once_answer.NextAnswer.{NextAnswer}
use Rattle.timer_core.specs.Waits.{sooner}
use Rattle.hulayban_c.specs.Seats.{SeatAt, with_pass}
use Rattle.hulayban_c.specs.Shared.{DoesWith, IsLeastWait, LooksBy, LooksIn, LooksOnce, LooksWithin, SharedNext, WasContended, shared_next_asks, wait_by}
use Rattle.hulayban_c.specs.SharedTells.{looking_tells}
use Rattle.hulayban_c.specs.declared.crossing.Time.{Time}
use Rattle.hulayban_c.specs.declared.shared.answer.SharedAnswer.{SharedAnswer}
use Rattle.hulayban_c.specs.declared.shared.held.Held.{Held}
use Rattle.hulayban_c.specs.declared.shared.held.Held.TheVariants as holds

module _ (o : Opening) where
  -- a look of a part of a call is a look of the call
  within : (p a b q : PassOf) (x : Context) (base : ℕ) (clock : ClockId) (n : NextAnswer) → LooksOn p.known a.known → LooksOn b.known q.known
      → LooksWithin o a b x base clock n → LooksWithin o p q x base clock n
  within p a b q x base clock n first last l = record {
    before = l.before;
    after = l.after;
    from = shared.looks_trans p.known a.known l.before.known first l.from;
    fits = l.fits;
    got = l.got;
    to = shared.looks_trans l.after.known b.known q.known l.to last;
  }

  -- the same of a context's three looks
  within_all : (p a b q : PassOf) (x : Context) (base : ℕ) (reading : ClockReading) (w : Option ℕ) → LooksOn p.known a.known → LooksOn b.known q.known
      → LooksIn o a b x base reading w → LooksIn o p q x base reading w
  within_all p a b q x base reading w first last l = record {
    told = l.told;
    looks = λ clock. within p a b q x base clock (l.told clock) first last (l.looks clock);
    least = l.least;
  }

  -- one answer for each clock
  abbrev by_clock : NextAnswer → NextAnswer → NextAnswer → ClockId → NextAnswer
  by_clock mono real boot clocks.Monotonic = mono
  by_clock mono real boot clocks.Realtime = real
  by_clock mono real boot clocks.Boottime = boot

  -- law: three looks in turn, and the least of their waits
  pub three_looks : (p a b q : PassOf) (x : Context) (base : ℕ) (reading : ClockReading) (m r t v w : Option ℕ)
      → LooksOn p.known a.known × LooksOnce o p a x base clocks.Monotonic reading m
      → LooksOn a.known b.known × LooksOnce o a b x base clocks.Realtime reading r
      → LooksOn b.known q.known × LooksOnce o b q x base clocks.Boottime reading t
      → v ≡ sooner r t → w ≡ sooner m v → LooksOn p.known q.known × LooksIn o p q x base reading w
  three_looks p a b q x base reading m r t v w (pa, mono) (ab, real) (bq, boot) later least =
      let aq = shared.looks_trans a.known b.known q.known ab bq in
      let pb = shared.looks_trans p.known a.known b.known pa ab in
      let answer = by_clock mono.0 real.0 boot.0 in
      let first = wait_by reading clocks.Monotonic mono.0 in
      let second = wait_by reading clocks.Realtime real.0 in
      let looks : (clock : ClockId) → LooksWithin o p q x base clock (answer clock) = elim [
        | clocks.Monotonic ↦ within p p a q x base clocks.Monotonic mono.0 (shared.looks_refl p.known) aq mono.1
        | clocks.Realtime ↦ within p a b q x base clocks.Realtime real.0 pa bq real.1
        | clocks.Boottime ↦ within p b q q x base clocks.Boottime boot.0 pb (shared.looks_refl q.known) boot.1
      ] in (
        shared.looks_trans p.known a.known q.known pa aq,
        record {
          told = answer;
          looks = looks;
          least = least
              ∙ (ap (λ y. sooner m y) later
              ∙ (ap (λ y. sooner y (sooner r t)) mono.2 ∙ (ap (λ y. sooner first (sooner y t)) real.2 ∙ ap (λ y. sooner first (sooner second y)) boot.2)));
        },
      )

  -- law: the looks of both contexts
  pub both_contexts : (p m q : PassOf) (base : ℕ) (reading : ClockReading) (h s w : Option ℕ)
      → LooksOn p.known m.known × LooksIn o p m contexts.Hard base reading h → LooksOn m.known q.known × LooksIn o m q contexts.Soft base reading s
      → w ≡ sooner h s → LooksOn p.known q.known × IsLeastWait o p q base reading w
  both_contexts p m q base reading h s w (pm, hard) (mq, soft) least = (
    shared.looks_trans p.known m.known q.known pm mq,
    record {
      hard = h;
      soft = s;
      in_hard = within_all p p m q contexts.Hard base reading h (shared.looks_refl p.known) mq hard;
      in_soft = within_all p m q q contexts.Soft base reading s pm (shared.looks_refl q.known) soft;
      least = least;
    },
  )

-- law: what a call tells of looks by the pass of its seat
pub looks_by : (old new : SeatAt) (base : ℕ) (now : Time) (reading : ClockReading) (timers : BaseRowOf) (p q : PassOf) (r : Option (Option ℕ)) (told : ℤ × SharedAnswer)
    → Ok reading ≡ shared_next_asks old base now → old.held ≡ holds.Rests p → timers ≡ old.timers
    → MatchOption r (WasContended p q base) (λ wait. LooksOn p.known q.known × IsLeastWait timers.about p q base reading wait)
    → told ≡ looking_tells base r → new ≡ with_pass old q → SharedNext old base now (Ok told) new
looks_by old new base now reading timers p q r told asks held of looks tells stays =
    subst (λ (a : Result ClockReading ℤ). DoesWith a old.held (LooksBy old base) old (Ok told) new) asks
    (subst (λ (h : Held). DoesWith (Ok reading) h (LooksBy old base) old (Ok told) new) (sym held) (
      q,
      r,
      subst
          (λ (k : BaseRowOf). MatchOption r (WasContended p q base) (λ wait. LooksOn p.known q.known × IsLeastWait k.about p q base reading wait)) of looks,
      ap Ok tells,
      stays,
    ))
