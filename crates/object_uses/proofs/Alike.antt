-- Timers that are all declared on one clock, and objects that are all declared alike over them.
use Rattle.std.proofs.Common.{◌≡◌, ℕ, ◌<◌, List, length, replicate, get_or, arith, ap, sym, ◌∙◌, subst}
use Rattle.std.proofs.lemmas.List.{get_or-map, get_or-replicate, length-map, length-replicate}
use Rattle.ktime.specs.declared.clock_id.ClockId.{ClockId}
use Rattle.ktime.specs.declared.clock_id.ClockId.TheVariants as clocks
use Rattle.seq_timer.specs.declared.context.Terms.{Terms}
use Rattle.seq_timer.specs.Steps.{Timer, opening}
use Rattle.seq_timer.specs.Systems.{openings}
use Rattle.seq_timer.specs.Tables.{hard_on, no_timer, timer_at}
use Rattle.base_row.specs.declared.view.Opening.{Opening}
use Rattle.base_row.specs.Calls.{opening_with}
use Rattle.timer_objects.specs.declared.object.Decl.{Decl}
use Rattle.timer_objects.specs.declared.object.Kind.TheVariants as kinds
use Rattle.timer_objects.specs.Known.{ObjectsOf, Suits, decl_at}

-- what stands over a timer that isn't declared
abbrev no_decl : Decl
no_decl = record { kind = kinds.Raw; clock = clocks.Monotonic; base = 0 }

-- each of so many timers is declared on the clock that all are
pub alike_at : (n i : ℕ) (c : ClockId) (terms : Terms) → i < n → (timer_at (openings (replicate n (hard_on c)) terms) i).declared.clock ≡ c
alike_at n i c terms within =
    let short : i < length (replicate n (hard_on c)) = subst (λ m. i < m) (sym (length-replicate n (hard_on c))) within in
    ap (λ (t : Timer). t.declared.clock)
    (get_or-map (λ d. opening d terms) (replicate n (hard_on c)) i (hard_on c) no_timer short
    ∙ ap (λ d. opening d terms) (get_or-replicate n i (hard_on c) (hard_on c) within))

-- there are as many timers
pub many_alike : (n : ℕ) (c : ClockId) (terms : Terms) → length (openings (replicate n (hard_on c)) terms) ≡ n
many_alike n c terms = length-map (replicate n (hard_on c)) (λ d. opening d terms) ∙ length-replicate n (hard_on c)

-- law: objects that are all declared alike suit as many timers on their clock, where their base is one of the timers' and these have more counters
pub suits_alike : (n bases counters : ℕ) (c : ClockId) (d : Decl) (terms : Terms) (x : ObjectsOf) (o : Opening)
    → o ≡ opening_with bases (replicate n (hard_on c)) terms counters → x.decls ≡ replicate n d → d.clock ≡ c → d.base < bases → n < counters → Suits x o
suits_alike n bases counters c d terms x o about made clock base more =
    let many : length x.decls ≡ n = ap (λ (ds : List Decl). length ds) made ∙ length-replicate n d in
    let short : (i : ℕ) → i < length x.decls → i < n = λ i within. subst (λ m. i < m) many within in
    let same : (i : ℕ) → i < length x.decls → decl_at x i ≡ d = λ i within.
    ap (λ (ds : List Decl). get_or ds i no_decl) made ∙ get_or-replicate n i d no_decl (short i within) in
    record {
      many = ap (λ (p : Opening). length p.timers) about ∙ (many_alike n c terms ∙ sym many);
      clocks = λ i within. ap (λ (p : Opening). (timer_at p.timers i).declared.clock) about
          ∙ (alike_at n i c terms (short i within) ∙ sym (ap (λ (e : Decl). e.clock) (same i within) ∙ clock));
      bases = λ i within. subst (λ m. (decl_at x i).base < m) (sym (ap (λ (p : Opening). p.bases) about))
          (subst (λ m. m < bases) (sym (ap (λ (e : Decl). e.base) (same i within))) base);
      counters = omega (arith, many, ap (λ (p : Opening). p.counters) about, more);
    }
