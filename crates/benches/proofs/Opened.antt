-- Objects and timers that were just made suit each other.
use Rattle.std.proofs.Common.{◌≡◌, ℕ, ◌+◌, ◌<◌, zero, suc, get_or, length, max, arith, replicate, refl, sym, ◌∙◌, ap, subst}
use Rattle.std.proofs.lemmas.List.{get_or-map, get_or-replicate, length-map, length-replicate}
use Rattle.ktime.specs.declared.clock_id.ClockId.TheVariants as clocks
use Rattle.seq_timer.specs.Steps.{Timer, opening}
use Rattle.seq_timer.specs.declared.context.Declared.{Declared}
use Rattle.seq_timer.specs.declared.context.Terms.{Terms}
use Rattle.seq_timer.specs.Tables.{hard_on, no_declared, no_timer}
use Rattle.base_row.specs.Calls.{opening_with}
use Rattle.timer_objects.specs.declared.callback.Callback.TheVariants as callbacks
use Rattle.timer_objects.specs.declared.object.Decl.{Decl}
use Rattle.timer_objects.specs.declared.object.Kind.{Kind}
use Rattle.timer_objects.specs.declared.object.Kind.TheVariants as kinds
use Rattle.timer_objects.specs.Callbacks.{bases_of}
use Rattle.timer_objects.specs.Known.{ObjectsOf, Suits}

-- callbacks that start no timer ask for no base
pub still : (n : ℕ) → bases_of (replicate n callbacks.Once) ≡ 0
still zero = refl
still (suc n) = ap (λ m. max 0 m) (still n)

pub suits : (x : ObjectsOf) (kind : Kind) (n : ℕ) (terms : Terms) → x.decls ≡ replicate n (record { kind = kind; clock = clocks.Monotonic; base = 0 })
    → Suits x (opening_with 1 (replicate n (hard_on clocks.Monotonic)) terms (n + 1))
suits x kind n terms same =
    let decl : Decl = record { kind = kind; clock = clocks.Monotonic; base = 0 } in
    let raw : Decl = record { kind = kinds.Raw; clock = clocks.Monotonic; base = 0 } in
    let declared = hard_on clocks.Monotonic in
    let l = replicate n declared in
    let many : length x.decls ≡ n = ap length same ∙ length-replicate n decl in
    let at : (i : ℕ) → i < length x.decls → get_or x.decls i raw ≡ decl = λ i h. ap (λ l. get_or l i raw) same ∙ get_or-replicate n i decl raw (subst (λ m. i < m) many h) in record {
      many = length-map l (λ d. opening d terms) ∙ (length-replicate n declared ∙ sym many);
      clocks = λ i h.
          let there = subst (λ m. i < m) many h in
          let has = subst (λ m. i < m) (sym (length-replicate n declared)) there in
          ap (λ (t : Timer). t.declared.clock) (get_or-map (λ d. opening d terms) l i no_declared no_timer has)
          ∙ (ap (λ (d : Declared). d.clock) (get_or-replicate n i declared no_declared there) ∙ sym (ap (λ (d : Decl). d.clock) (at i h)));
      bases = λ i h. subst (λ (d : Decl). d.base < 1) (sym (at i h)) (omega arith);
      counters = omega (arith, many);
    }
