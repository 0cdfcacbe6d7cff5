-- The parts of a system fit together, and a call notes few receipts.
use Rattle.std.proofs.Common.{◌≡◌, ◌<◌, ◌≤◌, ◌+◌, ℕ, zero, suc, List, [], ◌∷◌, length, map, get_or, arith, refl, sym, ap, ◌∙◌, subst, true, false, nat_lt}
use Rattle.std.specs.Prelude.{if◌then◌else◌, slice_index}
use Rattle.std.specs.List.{AllByRecursion}
use Rattle.ktime.specs.declared.clock_id.ClockId.TheVariants as clocks
use Rattle.seq_timer.specs.declared.context.Terms.{Terms}
use Rattle.seq_timer.specs.Systems.{openings}
use Rattle.seq_timer.specs.Steps.{opening}
use Rattle.seq_timer.specs.Tables.{timer_at}
use Rattle.base_row.specs.declared.view.Opening.{Opening}
use Rattle.hr_timers.specs.Ways.{most_to_start}
use Rattle.timer_objects.specs.declared.object.Decl.{Decl}
use Rattle.timer_objects.specs.declared.callback.Callback.{Callback}
use Rattle.timer_objects.specs.Callbacks.{bases_of}
use Rattle.timer_objects.specs.declared.object.Kind.TheVariants as over
use Rattle.timer_objects.specs.Known.{decl_at, most_noted}
use Rattle.std.proofs.lemmas.List.{length-map}
use Rattle.hulayban.specs.declared.declaration.Declaration.{Declaration}
use Rattle.hulayban.specs.Systems.{CanMake, IsSystemOf, IsSystemWhole, SystemOf, declared_as_object, declared_as_timer, callback_unused}

clocks_suit : (ds : List Declaration) (terms : Terms) (i : ℕ) (d : Decl) → i < length (map declared_as_object ds)
    → (timer_at (openings (map declared_as_timer ds) terms) i).declared.clock ≡ (get_or (map declared_as_object ds) i d).clock
clocks_suit [] terms i d less = absurd (omega (arith, less))
clocks_suit (x ∷ ds) terms zero d less = refl
clocks_suit (x ∷ ds) terms (suc i) d less = clocks_suit ds terms i d (omega (arith, less))

bases_suit : {bases : ℕ} (ds : List Declaration) (i : ℕ) (d : Decl) → AllByRecursion (λ x. x.base < bases) ds
    → i < length (map declared_as_object ds) → (get_or (map declared_as_object ds) i d).base < bases
bases_suit [] i d range less = absurd (omega (arith, less))
bases_suit (x ∷ ds) zero d range less = range.0
bases_suit (x ∷ ds) (suc i) d range less = bases_suit ds i d range.1 (omega (arith, less))

pub whole_of : (bases : ℕ) (ds : List Declaration) (terms : Terms) (x : SystemOf) → CanMake bases ds terms → IsSystemOf bases ds terms x → IsSystemWhole x
whole_of bases ds terms x range is =
    let many : length x.objects.decls ≡ length ds = ap length is.decls ∙ length-map ds declared_as_object in
    let there = ap (λ (o : Opening). o.bases) is.timers in record {
      suits = record {
        many = ap (λ (o : Opening). length o.timers) is.timers ∙ length-map (map declared_as_timer ds) (λ d. opening d terms) ∙ length-map ds declared_as_timer ∙ sym many;
        clocks = λ i h.
            ap (λ (o : Opening). (timer_at o.timers i).declared.clock) is.timers ∙ clocks_suit ds terms i raw (subst (λ n. i < n) (ap length is.decls) h)
            ∙ sym (ap (λ ds. (get_or ds i raw).clock) is.decls);
        bases = λ i h.
            let less = bases_suit ds i raw range.each (subst (λ n. i < n) (ap length is.decls) h) in
            omega (arith, less, there, ap (λ ds. (get_or ds i raw).base) is.decls);
        counters = omega (arith, ap (λ (o : Opening). o.counters) is.timers, many);
      };
      few = omega (arith, there, range.few);
      ring = λ q e. record {
        within = omega (arith, ap (λ (o : Opening). length o.rings) is.timers);
        same = ap (λ (o : Opening). slice_index o.rings 0) is.timers ∙ sym (is.signals q e);
      };
    }
  where
    raw : Decl
    raw = record { kind = over.Raw; clock = clocks.Monotonic; base = 0 }

start_few : (terms : Terms) (base : ℕ) → base < 64 → most_to_start terms base ≤ 66
start_few terms base less = elim (nat_lt 0 terms.reach) as (λ b. (if b then base + 1 else 1) + 1 ≤ 66) [
  | true ↦ omega (arith, less)
  | false ↦ omega arith
]

pub noted_few : (x : SystemOf) (id : ℕ) → IsSystemWhole x → id < length x.objects.decls → most_noted x.objects x.timers.about id ≤ 68
noted_few x id whole within =
    omega (arith, start_few (timer_at x.timers.about.timers id).terms (decl_at x.objects id).base (omega (arith, whole.suits.bases id within, whole.few)))

-- callbacks that are not run ask for no base
none_of : (ds : List Declaration) → bases_of (map callback_unused ds) ≡ 0
none_of [] = refl
none_of (d ∷ ds) = omega (arith, none_of ds)

pub none_asked : (ds : List Declaration) (us : List Callback) → us ≡ map callback_unused ds → bases_of us ≡ 0
none_asked ds us e = ap bases_of e ∙ none_of ds

pub as_many : (ds : List Declaration) (us : List Callback) (xs : List Decl) → us ≡ map callback_unused ds → xs ≡ map declared_as_object ds → length us ≡ length xs
as_many ds us xs e f = ap length e ∙ length-map ds callback_unused ∙ sym (length-map ds declared_as_object) ∙ sym (ap length f)
