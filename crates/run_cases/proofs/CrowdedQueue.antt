-- Records of many queued timers that expire: lists that are made of their numbers, and the signals that were sent.
use Rattle.std.proofs.Common.{◌≡◌, ◌<◌, ℕ, ◌+◌, zero, suc, true, nat_lt, List, [], ◌++◌, Some, get_or, map, replicate, arith, refl, sym, ap, ◌∙◌, subst}
use Rattle.std.specs.List.{AllByRecursion, range_with_len, slice_get}
use Rattle.std.proofs.lemmas.Bool.Decides.{nat_tests}
use Rattle.record_text.specs.declared.record.Answer.{Answer}
use Rattle.record_text.specs.declared.record.Answer.TheVariants as answers
use Rattle.record_text.specs.declared.record.Label.{Label}
use Rattle.record_text.specs.declared.record.ObjectLine.{ObjectLine}
use Rattle.record_text.specs.declared.record.RunRecord.{RunRecord}
use Rattle.script_text.specs.declared.script.Script.{Script}
use Rattle.ktime.specs.declared.clock_id.ClockId.TheVariants as clocks
use Rattle.seq_timer.specs.declared.context.Context.TheVariants as contexts
use Rattle.script_text.specs.declared.script.Callback.TheVariants as callbacks
use Rattle.script_text.specs.declared.script.Declaration.{Declaration}
use Rattle.script_text.specs.declared.script.Kind.{Kind}
use Rattle.script_text.specs.declared.script.Kind.TheVariants as kinds
use Rattle.script_text.specs.Declarations.{kind_of}
use Rattle.signal_queue.specs.declared.signal.Signal.{Signal}
use Rattle.run_history.specs.Objects.{lines_of_object}
use Rattle.run_history.specs.Signals.{SendsSignals}
use Rattle.fit_laws.specs.Signals.{AreDistinct, Sent}
use Rattle.run_cases.specs.Lines.{counted_entry}
use Rattle.run_cases.proofs.SignalsWrong.{NamesNot, signal_of}

-- ---- what is made of numbers

plus : (k : ℕ) → k ≡ k + 0
plus k = omega arith

shift : (k i : ℕ) → k + 1 + i ≡ k + suc i
shift k i = omega arith

-- what stands at a place is made of its number
pub numbered : {X : Type 0} (f : ℕ → X) (d : X) (k n i : ℕ) → i < n → get_or (map f (range_with_len k n)) i d ≡ f (k + i)
numbered f d k zero i less = absurd (omega (arith, less))
numbered f d k (suc n) zero less = ap f (plus k)
numbered f d k (suc n) (suc i) less = numbered f d (k + 1) n i (omega (arith, less)) ∙ ap f (shift k i)

replicated : {X Y Z : Type 0} (g : Y → Z) (f : X → Y) (x : X) (d : Z) (n i : ℕ) → i < n → get_or (map g (map f (replicate n x))) i d ≡ g (f x)
replicated g f x d zero i less = absurd (omega (arith, less))
replicated g f x d (suc n) zero less = refl
replicated g f x d (suc n) (suc i) less = replicated g f x d n i (omega (arith, less))

-- ---- the signals

later_differ : (k j n : ℕ) → k < j → AllByRecursion (λ y. y ≡ signal_of k → ⊥) (map signal_of (range_with_len j n))
later_differ k j zero less = tt
later_differ k j (suc n) less =
    (λ is. absurd (omega (arith, ap (λ (x : Signal). x.timer) is, less)), later_differ k (j + 1) n (omega (arith, less)))

pub differ : (k n : ℕ) → AreDistinct (map signal_of (range_with_len k n))
differ k zero = tt
differ k (suc n) = (later_differ k (k + 1) n (omega arith), differ (k + 1) n)

-- where 65 timers are queued, and these are their objects' lines, a call sent the signal of an expiry that counted
pub sent_of : (s : Script) (r : RunRecord) (lines : ℕ → List ObjectLine) (c : Label)
    → s.timers ≡ map (λ kind. record { clock = clocks.Monotonic; kind = kind }) (replicate 65 (kinds.Queued 0)) → r.objects ≡ map lines (range_with_len 0 65)
    → (i : ℕ) → i < 65 → slice_get (lines i) 1 ≡ Some (record { label = c; entry = counted_entry 1 1; skips = [] }) → Sent s r c (signal_of i)
sent_of s r lines c timers objects i less there = record {
  queued = subst SendsSignals (sym kind) tt;
  made = record {
    before = 1;
    count = refl;
    line = record { label = c; entry = counted_entry 1 1; skips = [] };
    there = ap (λ (ls : List ObjectLine). slice_get ls 1) its ∙ there;
    label = refl;
    such = tt;
  };
}
  where
    kind : kind_of s i ≡ kinds.Queued 0
    kind = ap (λ (ds : List Declaration). get_or (map (λ (d : Declaration). d.kind) ds) i (kinds.Raw contexts.Hard callbacks.Once)) timers
        ∙ replicated (λ (d : Declaration). d.kind) (λ (kind : Kind). record { clock = clocks.Monotonic; kind = kind }) (kinds.Queued 0)
        (kinds.Raw contexts.Hard callbacks.Once) 65 i less

    its : lines_of_object r i ≡ lines i
    its = ap (λ table. get_or table i []) objects ∙ numbered lines [] 0 65 i less ∙ ap lines (none i)
      where
        none : (n : ℕ) → 0 + n ≡ n
        none n = omega arith

-- no answer names one
pub old_answers : (x : Signal) (k n : ℕ) (rest : List Answer) → AllByRecursion (NamesNot x) rest
    → AllByRecursion (NamesNot x) (map (λ timer. answers.Old 0 0) (range_with_len k n) ++ rest)
old_answers x k zero rest all = all
old_answers x k (suc n) rest all = (λ e. e, old_answers x (k + 1) n rest all)

pub below : (i : ℕ) → i < 64 → nat_lt i 64 ≡ true
below i less = grind (arith, nat_tests, less)
