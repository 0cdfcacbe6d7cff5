-- The record in which 65 signals wait doesn't fit.
use Rattle.std.proofs.Common.{◌≡◌, ◌<◌, ◌&&◌, ◌||◌, ℕ, ◌+◌, zero, suc, true, false, nat_eq, nat_lt, List, [], ◌∷◌, Some, get_or, arith, refl, sym, ap, ◌∙◌, subst}
use Rattle.std.specs.List.{AllByRecursion, slice_get}
use Rattle.std.proofs.lemmas.Bool.Decides.{nat_tests}
use Rattle.std.proofs.lemmas.Bool.{true≢false}
use Rattle.std.proofs.lemmas.Option.{same_Some}
use Rattle.record_text.specs.declared.record.Answer.{Answer}
use Rattle.record_text.specs.declared.record.Answer.TheVariants as answers
use Rattle.signal_queue.specs.declared.signal.Signal.{Signal}
use Rattle.run_history.specs.Fits.{Fits}
use Rattle.run_history.specs.Objects.{lines_of_object}
use Rattle.run_history.specs.Order.{is_before, round_of}
use Rattle.fit_laws.specs.Signals.{AreDistinct, IsNamedBy, NamedNoLater, Sent, SentBefore}
use Rattle.fit_laws.proofs.SignalLaws.{found_room}
use Rattle.run_cases.specs.FullQueue.{full_queue_script, overfull_queue_record, set_and_signalled, set_and_told}
use Rattle.run_cases.specs.Lines.{at, counted_entry}
use Rattle.run_cases.proofs.FullQueue.{signal_behind}

-- ---- they differ

abbrev sent_from : ℕ → ℕ → List Signal
sent_from zero b = []
sent_from (suc n) b = signal_behind (b + 1) ∷ sent_from n (b + 1 + 1)

later_differ : (k n b : ℕ) → k < b + 1 → AllByRecursion (λ y. y ≡ signal_behind k → ⊥) (sent_from n b)
later_differ k zero b less = tt
later_differ k (suc n) b less = (
  λ is. absurd (omega (arith, ap (λ (x : Signal). x.number) is, less)),
  later_differ k n (b + 1 + 1) (omega (arith, less)),
)

all_differ : (n b : ℕ) → AreDistinct (sent_from n b)
all_differ zero b = tt
all_differ (suc n) b = (later_differ (b + 1) n (b + 1 + 1) (omega arith), all_differ n (b + 1 + 1))

-- ---- each was sent before the last expiry

-- what stands in the object's history from here on
abbrev Behind : ℕ → ℕ → ℕ → ℕ → Type 0
Behind n c a b =
    (i : ℕ) → slice_get (lines_of_object overfull_queue_record 0) (b + i) ≡ slice_get (set_and_signalled (λ g. counted_entry g 1) n c a) i

-- only the last call names one
named_last : (n call : ℕ) (answer : Answer) (x : Signal) → slice_get (set_and_told n) call ≡ Some answer → IsNamedBy answer x → call ≡ n + n
named_last zero zero answer x there named = omega arith
named_last zero (suc call) answer x there named = absurd (cc)
named_last (suc n) zero answer x there named = absurd (subst (λ a. IsNamedBy a x) (sym (same_Some (answers.Old 0 0) answer there)) named)
named_last (suc n) (suc zero) answer x there named = absurd (subst (λ a. IsNamedBy a x) (sym (same_Some (answers.More 1 (0 ∷ [])) answer there)) named)
named_last (suc n) (suc (suc call)) answer x there named = omega (arith, named_last n call answer x there named)

by_last : (lane call : ℕ) (answer : Answer) (x : Signal) → slice_get (get_or overfull_queue_record.answers lane []) call ≡ Some answer → IsNamedBy answer x
    → (lane ≡ 0) × (call ≡ 131)
by_last zero zero answer x there named = absurd (subst (λ a. IsNamedBy a x) (sym (same_Some (answers.Clock 1) answer there)) named)
by_last zero (suc call) answer x there named = (refl, omega (arith, named_last 65 call answer x there named))
by_last (suc lane) call answer x there named = absurd (cc)

unnamed_yet : (x : Signal) → NamedNoLater full_queue_script overfull_queue_record (at 0 130) x → ⊥
unnamed_yet x (d, (answer, there, named), late) =
    let is = by_last d.lane d.call answer x there named in
    let same : d ≡ at 0 131 = ap {A = ℕ} (λ lane. record { lane = lane; call = d.call }) is.0 ∙ ap {A = ℕ} (λ call. record { lane = 0; call = call }) is.1 in
    absurd (true≢false (subst (λ d. is_before full_queue_script (at 0 130) d ≡ false) same late))

by_number : (r q i j : ℕ) → i < j → (nat_lt r q || (nat_eq 0 0 && nat_lt i j)) ≡ true
by_number r q i j less = grind (arith, nat_tests, less)

-- left where the last expiry begins
abbrev Waits : Signal → Type 0
Waits x = SentBefore full_queue_script overfull_queue_record (at 0 130) x × (NamedNoLater full_queue_script overfull_queue_record (at 0 130) x → ⊥)

sent_here : (n c a b : ℕ) → Behind (suc n) c a b → Sent full_queue_script overfull_queue_record (at 0 (c + 1)) (signal_behind (b + 1))
sent_here n c a b behind = record {
  queued = tt;
  made = record {
    before = b + 1;
    count = refl;
    line = record { label = at 0 (c + 1); entry = counted_entry (a + 1) 1; skips = [] };
    there = behind 1;
    label = refl;
    such = tt;
  };
}

all_wait : (n c a b : ℕ) → c + (n + n) ≡ 129 → Behind n c a b → AllByRecursion Waits (sent_from n b)
all_wait zero c a b few behind = tt
all_wait (suc n) c a b few behind = (
  (
    (
      at 0 (c + 1),
      sent_here n c a b behind,
      by_number (round_of full_queue_script (at 0 (c + 1))) (round_of full_queue_script (at 0 130)) (c + 1) 130 (omega (arith, few)),
    ),
    unnamed_yet (signal_behind (b + 1)),
  ),
  all_wait n (c + 1 + 1) (a + 1 + 1 + 1) (b + 1 + 1) (omega (arith, few)) (λ i.
      subst (λ k. slice_get (lines_of_object overfull_queue_record 0) k
      ≡ slice_get (set_and_signalled (λ g. counted_entry g 1) n (c + 1 + 1) (a + 1 + 1 + 1)) i)
      (two_on b i) (behind (suc (suc i)))),
)
  where
    two_on : (b i : ℕ) → b + suc (suc i) ≡ b + 1 + 1 + i
    two_on b i = omega arith

-- law: it does not fit
pub overfull_doesnt_fit : Fits full_queue_script overfull_queue_record → ⊥
overfull_doesnt_fit fits =
    let last : Sent full_queue_script overfull_queue_record (at 0 130) (signal_behind 129) = record {
      queued = tt;
      made = record {
        before = 129;
        count = refl;
        line = record { label = at 0 130; entry = counted_entry 193 1; skips = [] };
        there = refl;
        label = refl;
        such = tt;
      };
    } in
    absurd (omega (
      arith,
      found_room full_queue_script overfull_queue_record fits (at 0 130) (signal_behind 129) last (sent_from 64 0) (all_differ 64 0)
          (all_wait 64 1 0 0 refl (λ i. ap (slice_get (lines_of_object overfull_queue_record 0)) (none i))),
    ))
  where
    none : (i : ℕ) → 0 + i ≡ i
    none i = omega arith
