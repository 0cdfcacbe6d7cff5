-- The world of a script in range is whole, and can make each of the script's calls.
use Rattle.std.proofs.Common.{◌≡◌, ◌<◌, ◌≤◌, ℕ, zero, suc, List, [], ◌∷◌, length, map, get_or, arith, refl, sym, ap, ◌∙◌, subst}
use Rattle.std.specs.List.{AllByRecursion}
use Rattle.ktime.specs.declared.clock_id.ClockId.{ClockId}
use Rattle.ktime.specs.declared.clock_id.ClockId.TheVariants as clocks
use Rattle.seq_timer.specs.declared.context.Context.TheVariants as contexts
use Rattle.seq_timer.specs.declared.context.Terms.{Terms}
use Rattle.seq_timer.specs.Systems.{openings}
use Rattle.seq_timer.specs.Tables.{timer_at}
use Rattle.timer_objects.specs.declared.object.Decl.{Decl}
use Rattle.timer_objects.specs.declared.object.Kind.TheVariants as over
use Rattle.timer_objects.specs.Callbacks.{bases_for, bases_of}
use Rattle.script_text.specs.Declarations.{declared_as, declareds_of, terms_of}
use Rattle.script_text.specs.declared.script.Callback.TheVariants as callbacks
use Rattle.script_text.specs.declared.script.Declaration.{Declaration}
use Rattle.script_text.specs.declared.script.Kind.{Kind}
use Rattle.script_text.specs.declared.script.Kind.TheVariants as kinds
use Rattle.script_text.specs.declared.script.Script.{Script}
use Rattle.script_text.specs.Scripts.{IsInRange, IsKindInRange}
use Rattle.base_row.specs.declared.view.Opening.{Opening}
use Rattle.seq_timer.specs.Steps.{opening}
use Rattle.lane_notes.specs.Worlds.{IsWhole, IsWorldOf, WorldOf, callback_of, decl_as, decl_of}
use Rattle.lane_run.proofs.Greatest.{bases_few, timers_few}
use Rattle.std.proofs.lemmas.List.{length-map}

-- what is declared over a timer is on its clock, and on a base that is there
clock_kept : (kind : Kind) (clock : ClockId) → (decl_as kind clock).clock ≡ clock
clock_kept (kinds.Raw context callback) clock = refl
clock_kept (kinds.Posix base) clock = refl
clock_kept (kinds.Fd base) clock = refl
clock_kept (kinds.Queued base) clock = refl
clock_kept (kinds.Sleeper base) clock = refl

base_there : {bases : ℕ} (kind : Kind) (clock : ClockId) → 0 < bases → IsKindInRange bases kind → (decl_as kind clock).base < bases
base_there (kinds.Raw context callback) clock some range = some
base_there (kinds.Posix base) clock some range = range
base_there (kinds.Fd base) clock some range = range
base_there (kinds.Queued base) clock some range = range
base_there (kinds.Sleeper base) clock some range = range

clocks_suit : (ds : List Declaration) (terms : Terms) (i : ℕ) (d : Decl) → i < length (map decl_of ds)
    → (timer_at (openings (map declared_as ds) terms) i).declared.clock ≡ (get_or (map decl_of ds) i d).clock
clocks_suit [] terms i d less = absurd (omega (arith, less))
clocks_suit (x ∷ ds) terms zero d less = sym (clock_kept x.kind x.clock)
clocks_suit (x ∷ ds) terms (suc i) d less = clocks_suit ds terms i d (omega (arith, less))

bases_suit : {bases : ℕ} (ds : List Declaration) (i : ℕ) (d : Decl) → 0 < bases → AllByRecursion (λ x. IsKindInRange bases x.kind) ds
    → i < length (map decl_of ds) → (get_or (map decl_of ds) i d).base < bases
bases_suit [] i d some range less = absurd (omega (arith, less))
bases_suit (x ∷ ds) zero d some range less = base_there x.kind x.clock some range.0
bases_suit (x ∷ ds) (suc i) d some range less = bases_suit ds i d some range.1 (omega (arith, less))

-- each base that a callback asks for is there
base_for : (bases : ℕ) (kind : Kind) → IsKindInRange bases kind → bases_for (callback_of kind) ≤ bases
base_for bases (kinds.Raw context callbacks.Once) range = omega arith
base_for bases (kinds.Raw context (callbacks.Every interval)) range = omega arith
base_for bases (kinds.Raw context callbacks.Cancels) range = omega arith
base_for bases (kinds.Raw contexts.Hard (callbacks.Starts ns base)) range = omega (arith, range)
base_for bases (kinds.Raw contexts.Soft (callbacks.Starts ns base)) range = absurd range
base_for bases (kinds.Posix base) range = omega arith
base_for bases (kinds.Fd base) range = omega arith
base_for bases (kinds.Queued base) range = omega arith
base_for bases (kinds.Sleeper base) range = omega arith

callbacks_suit : (bases : ℕ) (ds : List Declaration) → AllByRecursion (λ x. IsKindInRange bases x.kind) ds
    → bases_of (map (λ d. callback_of d.kind) ds) ≤ bases
callbacks_suit bases [] range = omega arith
callbacks_suit bases (x ∷ ds) range = omega (arith, base_for bases x.kind range.0, callbacks_suit bases ds range.1)

-- so the world of a script in range is whole
pub whole_of : (s : Script) (x : WorldOf) → IsInRange s → IsWorldOf s x → IsWhole x
whole_of s x range is =
    let many : length x.objects.decls ≡ length s.timers = ap length is.decls ∙ length-map s.timers decl_of in
    let bases = ap (λ (o : Opening). o.bases) is.timers in record {
      suits = record {
        many = ap (λ (o : Opening). length o.timers) is.timers ∙ length-map (declareds_of s) (λ clock. opening clock (terms_of s))
            ∙ length-map s.timers declared_as ∙ sym many;
        clocks = λ i h.
            ap (λ (o : Opening). (timer_at o.timers i).declared.clock) is.timers ∙ clocks_suit s.timers (terms_of s) i raw (subst (λ n. i < n) (ap length is.decls) h)
            ∙ sym (ap (λ ds. (get_or ds i raw).clock) is.decls);
        bases = λ i h.
            let less = bases_suit s.timers i raw (omega (arith, range.bases.0)) range.kinds (subst (λ n. i < n) (ap length is.decls) h) in
            omega (arith, less, bases, ap (λ ds. (get_or ds i raw).base) is.decls);
        counters = omega (arith, ap (λ (o : Opening). o.counters) is.timers, many);
      };
      callbacks = ap length is.callbacks ∙ length-map s.timers (λ d. callback_of d.kind) ∙ sym many;
      bases = omega (arith, bases, ap bases_of is.callbacks, callbacks_suit s.bases s.timers range.kinds);
      few = omega (arith, bases, range.bases.1, bases_few s.version);
      counts = omega (arith, ap (λ (o : Opening). o.counters) is.timers);
      small = omega (arith, many, range.timers, timers_few s.version);
      ring = ap (λ (o : Opening). o.rings) is.timers;
      queue = is.queue;
    }
  where
    raw : Decl
    raw = record { kind = over.Raw; clock = clocks.Monotonic; base = 0 }
