-- A count comes to a number while another one stays; calls of a queue after looks at it; and what bounds of a ring say of places.
use Rattle.std.proofs.Common.{◌≡◌, ℕ, ◌+◌, ◌≤◌, ◌<◌, true, false, nat_eq, if◌then◌else◌, List, [], ◌∷◌, ◌++◌, length, ap, refl, sym, ◌∙◌, arith}
use Rattle.std.proofs.lemmas.Bool.{eqb-true}
use Rattle.std.specs.Prelude.{Option, Some, None, slice_index}
use Rattle.base_row.specs.Rings.{KeepsRings, put_counter, taken_counter}
use Rattle.base_row.specs.declared.view.Opening.{Opening}
use Rattle.hr_timers.specs.Known.{KnownOfTimers}
use Rattle.ordered_clock.specs.Moments.{CountsAt, RisesAt}
use Rattle.ordered_clock.proofs.Moments.{counted_at, one_rise, rises}
use Rattle.pass_names.specs.declared.Pass.{Pass}
use Rattle.pass_names.specs.Passes.{Adds, Begins, Looks, places}
use Rattle.pass_names.proofs.Passes.{begins_refl, begins_trans, goes_trans, looks_trans}
use Rattle.seq_timer.specs.Systems.{rises_of}
use Rattle.seq_timer.specs.declared.system.SystemEntry.{SystemEntry}
use Rattle.seq_timer.specs.declared.system.SystemEntry.TheVariants as entries
use Rattle.seq_timer.proofs.Systems.{rises_of-append}
use Rattle.ordered_signals.specs.Places.{PopStands, PushStands, RingStandsAt, pops_told, pushes_told, signal_ring}
use Rattle.signal_queue.specs.Calls.{PopsSignal, PushesSignal}
use Rattle.signal_queue.specs.declared.signal.Signal.{Signal}
use Rattle.signal_queue.specs.declared.signals.Push.{Push}
use Rattle.signal_queue.specs.declared.signals.Push.TheVariants.{Queued, Full}
use Rattle.signal_queue.specs.declared.view.QueueView.{QueueView}

-- a counter comes to a number while another one stands still
pub both_at : (k j : ℕ) {old mid new : List SystemEntry} (n m : ℕ) → Begins old mid → Begins mid new → rises_of k old ≤ n → n ≤ rises_of k mid
    → m ≤ rises_of j old → rises_of j new ≤ m → (c : CountsAt k old new n) × (rises_of j c.at ≡ m)
both_at k j {old} {mid} {new} n m a b low high least most =
    let c = counted_at k n (begins_refl old) a low high in (
      record { at = c.at; from = c.from; seen = begins_trans c.seen b; count = c.count },
      omega (arith, least, most, rises j c.from, rises j (begins_trans c.seen b)),
    )

-- what is said of a later beginning is said of an earlier one
pub stands_from : (o : Opening) {old mid new : List SystemEntry} {put taken : ℕ} → Begins old mid → RingStandsAt o mid new put taken → RingStandsAt o old new put taken
stands_from o a s = record { at = s.at; from = begins_trans a s.from; seen = s.seen; pushes = s.pushes; pops = s.pops }

risen_from : {k : ℕ} {old mid new : List SystemEntry} {number : ℕ} → Begins old mid → RisesAt k mid new number → RisesAt k old new number
risen_from a r = record { before = r.before; from = begins_trans a r.from; seen = r.seen; count = r.count }

pub push_from : (o : Opening) (u v w : KnownOfTimers) (t : QueueView) (a : Push) → Begins u.seen v.seen → PushStands o v w t a → PushStands o u w t a
push_from o u v w t Queued b s = risen_from b s
push_from o u v w t (Full most) b s = stands_from o b s

pub pop_from : (o : Opening) (u v w : KnownOfTimers) (t : QueueView) (a : Option Signal) → Begins u.seen v.seen → PopStands o v w t a → PopStands o u w t a
pop_from o u v w t (Some s) b p = risen_from b p
pop_from o u v w t None b p = stands_from o b p

-- what was added after looks was added
adds_again : {E : Type 0} {p q r : Pass E} {i : ℕ} {es : List E} → Looks p q → Adds q r i es → Adds p r i es
adds_again {E} {p} {q} {r} {i} {es} looks adds = record {
  seen = goes_trans looks.seen adds.seen;
  before = adds.before;
  begins = begins_trans (looks.seen.each i) adds.begins;
  last = adds.last;
  mine = adds.mine ∙ ap (λ m. m ++ places i (length adds.before) es) looks.mine;
  id = adds.id ∙ looks.id;
}

-- a push after looks at the queue
pub pushes_again : (room : ℕ) (u v w : QueueView) (s : Signal) (a : Push) → Looks u.pass v.pass → PushesSignal room v w s a → PushesSignal room u w s a
pushes_again room u v w s Queued looks p = (adds_again looks p.0, p.1)
pushes_again room u v w s (Full most) looks p = (p.0, record { looks = looks_trans looks p.1.looks; full = p.1.full })

-- a pop after looks at it
pub pops_again : (u v w : QueueView) (a : Option Signal) → Looks u.pass v.pass → PopsSignal v w a → PopsSignal u w a
pops_again u v w (Some s) looks p = adds_again looks p
pops_again u v w None looks p = record { looks = looks_trans looks p.looks; none = p.none }

-- ---- laws

-- another counter's rise is none of this one's
other_rise : (j k : ℕ) → (j ≡ k → ⊥) → rises_of k (entries.Rise j ∷ []) ≡ 0
other_rise j k apart =
    elim (nat_eq j k) as (λ q. nat_eq j k ≡ q → (if q then 0 + 1 else 0) ≡ 0) [ true ↦ λ is. absurd (apart (eqb-true j k is)) | false ↦ λ not. refl ] refl

-- a count before and behind a rise of another counter, and of its own
behind_rise : (j k : ℕ) (before : List SystemEntry) → (j ≡ k → ⊥)
    → (rises_of k (before ++ entries.Rise k ∷ []) ≡ rises_of k before + 1) × (rises_of j (before ++ entries.Rise k ∷ []) ≡ rises_of j before)
behind_rise j k before apart = (
  omega (arith, rises_of-append k before (entries.Rise k ∷ []), one_rise k),
  omega (arith, rises_of-append j before (entries.Rise k ∷ []), other_rise k j (λ e. apart (sym e))),
)

module _ (o : Opening) (old new : List SystemEntry) (number : ℕ) (there : signal_ring < length o.rings) (keeps : KeepsRings o new) where
  pub pushed_first : (p : RisesAt (taken_counter o signal_ring) old new number) → number ≤ pushes_told o p.before
  pushed_first p =
      let counts = behind_rise (put_counter o signal_ring) (taken_counter o signal_ring) p.before (λ e. omega (arith, e)) in
      omega (arith, (keeps _ p.seen signal_ring there).put_first, counts.0, counts.1, p.count)

  pub room_first : (p : RisesAt (put_counter o signal_ring) old new number) → number ≤ pops_told o p.before + slice_index o.rings signal_ring
  room_first p =
      let counts = behind_rise (taken_counter o signal_ring) (put_counter o signal_ring) p.before (λ e. omega (arith, e)) in
      omega (arith, (keeps _ p.seen signal_ring there).room, counts.0, counts.1, p.count)
