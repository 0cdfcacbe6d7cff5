-- What one more event makes of a tally.
use Rattle.std.proofs.Common.{◌≡◌, ◌||◌, ◌∷◌, ◌∙◌, [], ℕ, Option, List, length, max, nat_eq, refl, sym, ap, suc}
use Rattle.std.specs.Prelude.{if◌then◌else◌, is_some}
use Rattle.std.specs.HashMap.{IsUnique, get, hash_map_len, keys}
use Rattle.std.specs.HashSet.{contains}
use Rattle.std.specs.Map.{keys_of}
use Rattle.std.proofs.lemmas.Map.Made.{is_some-lookup}
use Rattle.trace_text.specs.declared.event.KernelEvent.{KernelEvent}
use Rattle.trace_text.specs.declared.event.KernelEvent.TheVariants as kernel
use Rattle.trace_read.specs.declared.tally.Latest.{Latest}
use Rattle.trace_read.specs.declared.tally.Tally.{Tally}
use Rattle.trace_read.specs.Tallies.{IsTallyOf, armed_behind, armed_for, with_event, later, later_by, lateness, latest_in, names_processor, names_timer}

later_same : (p : ℕ) (e : KernelEvent) (f g : ℕ → Option ℕ) (l m : Latest) → ((t : ℕ) → f t ≡ g t) → l ≡ m → later_by p e f l ≡ later_by p e g m
later_same p (kernel.SetUp u clock context) f g l m same is = is
later_same p (kernel.Start u soft expires was) f g l m same is = is
later_same p (kernel.Cancel u) f g l m same is = is
later_same p (kernel.Entry u site now) f g l m same is =
    ap (λ o. if nat_eq p site.processor then later site.context (lateness now o) l else l) (same u)
    ∙ ap (λ n. if nat_eq p site.processor then later site.context (lateness now (g u)) n else n) is
later_same p (kernel.Exit u site) f g l m same is = is
later_same p kernel.Lost f g l m same is = is

as_many_keys : {X : Type 0} (es : List (ℕ × X)) → length es ≡ length (keys_of es)
as_many_keys [] = refl
as_many_keys (e ∷ es) = ap (λ n. suc n) (as_many_keys es)

-- a tally with one more event: first the latest expiries are noted, and then all else
pub tally_with : (old mid new : Tally) (e : KernelEvent) (past : List KernelEvent) → IsTallyOf old past → mid ≡ record old { latest = mid.latest }
    → ((p : ℕ) → latest_in mid.latest p ≡ later_by p e (λ t. get nat_eq old.armed t) (latest_in old.latest p)) → new.latest ≡ mid.latest
    → new.counts ≡ with_event e mid.counts
    → ((t : ℕ) → contains nat_eq new.timers t ≡ (names_timer t e || contains nat_eq mid.timers t))
    → ((p : ℕ) → contains nat_eq new.processors p ≡ (names_processor p e || contains nat_eq mid.processors p))
    → ((t : ℕ) → get nat_eq new.armed t ≡ armed_behind t e (get nat_eq mid.armed t)) → IsUnique nat_eq new.armed
    → new.most_armed ≡ max (hash_map_len new.armed) mid.most_armed → IsTallyOf new (e ∷ past)
tally_with old mid new e past was same late latest counts timers processors armed once most =
    let armed_now : (t : ℕ) → get nat_eq new.armed t ≡ armed_behind t e (armed_for past t) =
    (λ t. armed t ∙ ap (λ (m : Tally). armed_behind t e (get nat_eq m.armed t)) same ∙ ap (λ o. armed_behind t e o) (was.armed t)) in
    record {
      counts = counts ∙ ap (λ (m : Tally). with_event e m.counts) same ∙ ap (λ c. with_event e c) was.counts;
      timers = λ t. timers t ∙ ap (λ (m : Tally). names_timer t e || contains nat_eq m.timers t) same ∙ ap (λ b. names_timer t e || b) (was.timers t);
      processors = λ p. processors p ∙ ap (λ (m : Tally). names_processor p e || contains nat_eq m.processors p) same
          ∙ ap (λ b. names_processor p e || b) (was.processors p);
      armed = armed_now;
      most = (
        old.most_armed,
        hash_map_len new.armed,
        was.most,
        record {
          each = keys new.armed;
          once = once;
          all = λ t. sym (is_some-lookup (nat_eq t) new.armed.entries) ∙ ap is_some (armed_now t);
          number = as_many_keys new.armed.entries;
        },
        most ∙ ap (λ (m : Tally). max (hash_map_len new.armed) m.most_armed) same,
      );
      latest = λ p. ap (λ m. latest_in m p) latest ∙ late p ∙ later_same p e _ _ _ _ was.armed (was.latest p);
    }
